-- What the provider asks of its callers holds in a workable state over a cloud that its history allows.
use Rattle.std.proofs.Common.{refl, subst, sym}
use Rattle.std.proofs.lemmas.List.Elements.{All-contains}
use Rattle.std.specs.Prelude.{IsSome, List, None, Option, Some, option_map, true, ℕ, ◌≡◌}
use Rattle.heat_value.specs.Data.{Members}
use Rattle.heat_plan.specs.declared.calls.Request.{Request}
use Rattle.heat_plan.specs.declared.token.Token.{Token}
use Rattle.provider.specs.Calls.{MayGo}
use Rattle.provider.specs.Cloud.{Cloud, IsAlive, entry_of, living_of, state_of}
use Rattle.provider.specs.Table.{TokenState}
use Rattle.provider.specs.declared.alive.Alive.{Alive}
use Rattle.core_state.specs.State.{StateData}
use Rattle.core_state.specs.declared.entry.Entry.{Entry}
use Rattle.step_relation.specs.Rows.{token_of}
use Rattle.step_relation.specs.Could.{Allows, could_of}
use Rattle.step_relation.specs.Opening.{Opening, first_of}
use Rattle.step_relation.specs.Agrees.{IsGoing, absent, leaves}
use Rattle.step_relation.specs.Headline.{MayBeAsked, create, delete, gone, poll, update}
use Rattle.workable_laws.proofs.Openings.{may_ask}
use Rattle.workable_laws.specs.Workable.{Workable}
use Rattle.heat_plan.specs.declared.calls.Request.TheVariants as request
use Rattle.book.specs.Turned.{Requests}

-- a token that is in a living state is alive
lives : (c : Cloud) (t : Token) → IsSome (state_of c t) → IsAlive c t
lives c t h = by (entry_of c t) h where
  by : (x : Option Alive) → IsSome (option_map (living_of (c.leaving t)) x) → IsSome x
  by (Some a) i = refl
  by None i = cc

-- a token that is going may be asked whether it is gone
goes : (c : Cloud) (t : Token) → IsGoing (state_of c t) → MayGo c t
goes c t h alive = by (entry_of c t) alive (state_of c t) refl h where
  by : (x : Option Alive) → IsSome x → (state : TokenState) → option_map (living_of (c.leaving t)) x ≡ state
      → IsGoing state → c.leaving t ≡ true
  by None i state is going = cc
  by (Some a) i _ is absent = cc
  by (Some a) i _ is (leaves it left) = let same : living_of (c.leaving t) a ≡ it = cc in subst
      (λ (l : _). l.leaving ≡ true) (sym same) left

module _ (o : Opening) (h : List Entry) (s : StateData) (x : Workable o h s) (c : Cloud) (shows : Allows (first_of o) h c)
    (e : ℕ) (k : Requests s e) where
  may : MayBeAsked (could_of o h (token_of k.calls.row)) k.asked
  may = may_ask o h s e k.calls.job k.calls.row k.stage k.asked x k.calls.works k.calls.found k.asks

  -- a resource that is updated or polled is alive
  pub alive_at_update : (props : Members) → k.asked ≡ request.Update props → IsAlive c (token_of k.calls.row)
  alive_at_update props is = by k.asked may is where
    by : (asked : Request) → MayBeAsked (could_of o h (token_of k.calls.row)) asked → asked ≡ request.Update props
        → IsAlive c (token_of k.calls.row)
    by _ (update p all) i = lives c (token_of k.calls.row)
        (All-contains IsSome _ (state_of c (token_of k.calls.row)) all (shows (token_of k.calls.row)))
    by _ (create kind p) i = cc
    by _ delete i = cc
    by _ (poll all) i = cc
    by _ (gone all) i = cc

  pub alive_at_poll : k.asked ≡ request.Poll → IsAlive c (token_of k.calls.row)
  alive_at_poll is = by k.asked may is where
    by : (asked : Request) → MayBeAsked (could_of o h (token_of k.calls.row)) asked → asked ≡ request.Poll → IsAlive c
        (token_of k.calls.row)
    by _ (poll all) i = lives c (token_of k.calls.row)
        (All-contains IsSome _ (state_of c (token_of k.calls.row)) all (shows (token_of k.calls.row)))
    by _ (create kind p) i = cc
    by _ (update p all) i = cc
    by _ delete i = cc
    by _ (gone all) i = cc

  -- one that is asked after was sent away
  pub going_at_gone : k.asked ≡ request.Gone → MayGo c (token_of k.calls.row)
  going_at_gone is = by k.asked may is where
    by : (asked : Request) → MayBeAsked (could_of o h (token_of k.calls.row)) asked → asked ≡ request.Gone → MayGo c
        (token_of k.calls.row)
    by _ (gone all) i = goes c (token_of k.calls.row)
        (All-contains IsGoing _ (state_of c (token_of k.calls.row)) all (shows (token_of k.calls.row)))
    by _ (create kind p) i = cc
    by _ (update p all) i = cc
    by _ delete i = cc
    by _ (poll all) i = cc
