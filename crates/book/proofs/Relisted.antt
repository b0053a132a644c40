-- What a book keeps, and what a crash may leave, through a restart.
use Rattle.std.proofs.Common.{List, [], ap, append-nil, inl, inr, refl, subst, sym, ◌++◌, ◌∙◌, ◌∷◌, ◌≡◌, ℕ}
use Rattle.std.specs.Prelude.{Bool, Contains, Err, None, Ok, Option, Result, Some, ◌≢◌, ◌≤◌}
use Rattle.heat_plan.specs.declared.token.Token.{Token}
use Rattle.provider.proofs.States.{state-stays}
use Rattle.provider.specs.Changes.{Stays}
use Rattle.provider.specs.Cloud.{Cloud, state_of}
use Rattle.provider.specs.Table.{TokenState}
use Rattle.provider.specs.declared.traced.Listing.TheVariants as listing
use Rattle.provider.specs.declared.traced.Listing.{Listing}
use Rattle.provider.specs.declared.traced.Traced.TheVariants.{Listed}
use Rattle.provider.specs.declared.traced.Traced.{Traced}
use Rattle.core_state.specs.Changes.{applied}
use Rattle.core_state.specs.State.{StateData}
use Rattle.core_state.specs.declared.change.Change.{Change}
use Rattle.core_state.specs.declared.entry.Entry.{Entry}
use Rattle.step_relation.specs.Could.{Allows, could}
use Rattle.step_relation.specs.Laws.{opening_at}
use Rattle.step_relation.specs.Opening.{first_of}
use Rattle.step_relation.specs.Runs.{Run}
use Rattle.step_relation.specs.Steps.{engine_limit, restart, restart_changes}
use Rattle.record_keeper.specs.Shown.{ShownKeeper}
use Rattle.book.specs.Halting.{halt_behind}
use Rattle.book.specs.Kept.{IsByRestart, IsKept, IsTraced, Shown, calls_of, listed, opening_of, registries, whole}
use Rattle.book.specs.Openings.{MayAgree, MayList}
use Rattle.book.specs.Openings as openings
use Rattle.book.specs.Recording.{Records, StepsTo, none}
use Rattle.book.specs.Restarts.{RestartBreaks, RestartsAs, Restarts, Tries, halt_of, restart_entry}
use Rattle.book.specs.Restarts as restarts
use Rattle.book.specs.Scenes.{Scene, scene_of}
use Rattle.book.specs.declared.halting.Halt.TheVariants as halt
use Rattle.book.specs.declared.halting.Halt.{Halt}
use Rattle.book.specs.declared.restarting.Unrestarted.TheVariants as why
use Rattle.book.specs.declared.restarting.Unrestarted.{Unrestarted}
use Rattle.book.proofs.Growing.{grows, whole_trace}
use Rattle.book.proofs.Histories.{silence_allows}
use Rattle.book.proofs.KeptTurned.{step_to}

-- the cloud's list was asked at most
data Asked (c d : Cloud) : Type 0 where
  unasked : d.trace ≡ c.trace → Asked c d
  asked : (given : Listing) → d.trace ≡ c.trace ++ Listed given ∷ [] → Asked c d

record Lasts (c d : Cloud) : Type 0 where
  pub rests : Stays c d
  pub trace : Asked c d

may_last : (c d : Cloud) → MayList c d → Lasts c d
may_last c d (openings.unasked same) = record { rests = same.stays; trace = unasked same.trace }
may_last c d (openings.listed all lists) = record { rests = lists.stays; trace = asked listing.Got lists.noted.trace }

agree_last : (P : StateData → Type 0) (c d : Cloud) → MayAgree P c d → Lasts c d
agree_last P c d (openings.unasked same) = record { rests = same.stays; trace = unasked same.trace }
agree_last P c d (openings.agreed s its agreed) =
    record { rests = agreed.listed.stays; trace = asked listing.Got agreed.listed.noted.trace }

breaks_last : (recalls : Bool) (count : ℕ) (old new : Scene) (w : Unrestarted)
    → RestartBreaks recalls count old new w → Lasts old.cloud new.cloud
breaks_last recalls count old new _ (restarts.foreign unfit same) =
    record { rests = same.stays; trace = unasked same.trace }
breaks_last recalls count old new _ (restarts.disagree all token finding lists found) =
    record { rests = lists.stays; trace = asked listing.Got lists.noted.trace }
breaks_last recalls count old new _ (restarts.cloud_fault none_) =
    record { rests = none_.stays; trace = asked listing.Failed none_.noted.trace }
breaks_last recalls count old new _ (restarts.worn all lists nothing over) =
    record { rests = lists.stays; trace = asked listing.Got lists.noted.trace }
breaks_last recalls count old new _ (restarts.disk_fault may) = agree_last _ old.cloud new.cloud may
breaks_last recalls count old new _ (restarts.memory may) = may_last old.cloud new.cloud may

-- no token's state has changed
restart_stays : (recalls : Bool) (count : ℕ) (old new : Scene) (r : Result (Unit {0}) Unrestarted)
    → RestartsAs recalls count old new r → (t : Token) → state_of new.cloud t ≡ state_of old.cloud t
restart_stays recalls count old new r (restarts.done it is) t = state-stays t old.cloud new.cloud it.listed.stays
restart_stays recalls count old new r (restarts.refused w breaks same silent is) t =
    state-stays t old.cloud new.cloud (breaks_last recalls count old new w breaks).rests

-- a refused restart halts
by_restart : (w : Unrestarted) → IsByRestart (Some (halt_of w))
by_restart why.Foreign = inr refl
by_restart (why.Disagree token finding) = inr refl
by_restart why.DiskFault = inl refl
by_restart why.CloudFault = inr refl
by_restart why.Worn = inr refl
by_restart why.Memory = inr refl

module _ (first : StateData) (origin : Cloud) where
  pub kept_restarted : (recalls : Bool) (count : ℕ) (old new : Scene) (r : Result (Unit {0}) Unrestarted)
      (h : Option Halt) → 1 ≤ count → count ≤ engine_limit → h ≡ halt_behind r
      → IsKept first origin old.state old.entries old.cloud None → RestartsAs recalls count old new r
      → IsKept first origin new.state new.entries new.cloud h
  kept_restarted recalls count old new r h some few is_h kept (restarts.done it is) =
      grows first origin old.state new.state old.entries new.entries (restart_entry old.state count ∷ [])
      (restart_changes old.state count) old.cloud new.cloud h (Listed listing.Got ∷ []) kept
      (restart count some few it.below refl refl) tt tt it.state it.entries
      (silence_allows (opening_at first origin) old.entries old.cloud new.cloud kept.agrees
      (restart_entry old.state count ∷ []) (tt, tt)
      (λ t. state-stays t old.cloud new.cloud it.listed.stays)) refl it.listed.noted.trace
  kept_restarted recalls count old new r h some few is_h kept (restarts.refused w breaks same silent is) =
      by (breaks_last recalls count old new w breaks).trace where
        rests : Stays old.cloud new.cloud
        rests = (breaks_last recalls count old new w breaks).rests

        behind : IsTraced origin new.entries new.cloud h → IsKept first origin new.state new.entries new.cloud h
        behind trace = record {
          image = kept.image;
          count = kept.count;
          opened = kept.opened;
          run = subst (λ (x : StateData). Run registries first x new.entries) (sym same)
              (subst (λ (k : List Entry). Run registries first old.state k) (sym silent) kept.run);
          agrees = subst (λ (k : List Entry). Allows (state_of origin) k new.cloud) (sym silent)
              (λ token. subst (λ (x : TokenState). Contains (could (state_of origin) old.entries token) x)
              (sym (state-stays token old.cloud new.cloud rests)) (kept.agrees token));
          trace = trace;
        }

        by : Asked old.cloud new.cloud → IsKept first origin new.state new.entries new.cloud h
        by (unasked trace) = behind (whole (trace ∙ whole_trace origin old.entries old.cloud kept.trace
            ∙ ap (λ (k : List Entry). origin.trace ++ calls_of k) (sym silent)))
        by (asked given trace) = behind (listed given
            (subst IsByRestart (sym (is_h ∙ ap halt_behind is)) (by_restart w))
            (trace ∙ ap (λ (xs : List Traced). xs ++ Listed given ∷ []) (whole_trace origin old.entries old.cloud kept.trace)
            ∙ ap (λ (k : List Entry). (origin.trace ++ calls_of k) ++ Listed given ∷ []) (sym silent)))

-- what a restart tells, or would have told
abbrev pub restart_told : (s : StateData) (count : ℕ) (r : Result (Unit {0}) Unrestarted) (cs : List Change)
    → Tries s count r cs → List Entry
restart_told s count r cs (restarts.none never is) = []
restart_told s count r cs (restarts.all ended below is) = restart_entry s count ∷ []

pub restart_step : (s : StateData) (h : List Entry) (count : ℕ) → 1 ≤ count → count ≤ engine_limit
    → (r : Result (Unit {0}) Unrestarted) (cs : List Change) (it : Tries s count r cs)
    → StepsTo h s (applied cs s) (restart_told s count r cs it)
restart_step s h count some few r cs (restarts.none never is) = none (ap (λ (xs : List Change). applied xs s) is) refl
restart_step s h count some few r cs (restarts.all ended below is) =
    subst (λ (xs : List Change). StepsTo h s (applied xs s) (restart_entry s count ∷ [])) (sym is)
    (step_to h s (restart_changes s count) (restart_entry s count ∷ []) (restart count some few below refl refl) tt tt)

-- and the cloud is in a state that the history with it allows
pub restart_told_allows : (first : StateData) (origin : Cloud) (old new : Scene)
    → Allows (state_of origin) old.entries old.cloud → (recalls : Bool) (count : ℕ)
    (r : Result (Unit {0}) Unrestarted) → RestartsAs recalls count old new r → (cs : List Change)
    (it : Tries old.state count r cs)
    → Allows (state_of origin) (old.entries ++ restart_told old.state count r cs it) new.cloud
restart_told_allows first origin old new allows recalls count r does cs (restarts.none never is) =
    silence_allows (opening_at first origin) old.entries old.cloud new.cloud allows [] tt
    (restart_stays recalls count old new r does)
restart_told_allows first origin old new allows recalls count r does cs (restarts.all ended below is) =
    silence_allows (opening_at first origin) old.entries old.cloud new.cloud allows
    (restart_entry old.state count ∷ []) (tt, tt) (restart_stays recalls count old new r does)

module _ {K P : Type 0} (shown : K → ShownKeeper) (cloud_of : P → Cloud) (old new : Shown K P)
    (allows : Allows (first_of (opening_of cloud_of old)) old.entries (cloud_of old.cloud)) (count : ℕ)
    (some : 1 ≤ count) (few : count ≤ engine_limit) where
  abbrev a : Scene
  a = scene_of cloud_of old

  abbrev b : Scene
  b = scene_of cloud_of new

  not_ok : (r : Result (Unit {0}) Unrestarted) (w : Unrestarted) → r ≡ Err w → r ≡ Ok tt → ⊥
  not_ok r w no_ yes_ = let both = sym no_ ∙ yes_ in cc

  -- unless the keeper failed it was made
  made_so : (recalls : Bool) (r : Result (Unit {0}) Unrestarted) → new.halt ≡ halt_behind r
      → new.halt ≢ Some halt.DiskFault → RestartsAs recalls count a b r → (cs : List Change)
      (it : Tries old.state count r cs)
      → (new.state ≡ applied cs old.state) × (new.entries ≡ old.entries ++ restart_told old.state count r cs it)
  made_so recalls r is_h fine (restarts.done does yes_) cs (restarts.none never is) = absurd (never yes_)
  made_so recalls r is_h fine (restarts.done does yes_) cs (restarts.all ended below is) =
      (does.state ∙ ap (λ (xs : List Change). applied xs old.state) (sym is), does.entries)
  made_so recalls r is_h fine (restarts.refused w breaks same silent no_) cs (restarts.none never is) =
      (same ∙ ap (λ (xs : List Change). applied xs old.state) (sym is), silent ∙ sym (append-nil old.entries))
  made_so recalls r is_h fine (restarts.refused w breaks same silent no_) cs (restarts.all (inl yes_) below is) =
      absurd (not_ok r w no_ yes_)
  made_so recalls r is_h fine (restarts.refused w breaks same silent no_) cs (restarts.all (inr fault) below is) =
      absurd (fine (is_h ∙ ap halt_behind fault))

  pub recorded_restart : (faults now : ℕ) (r : Result (Unit {0}) Unrestarted) → new.halt ≡ halt_behind r
      → Restarts count a b (shown old.keeper) (shown new.keeper) faults now r → Records shown cloud_of old new
  recorded_restart faults now r is_h it = record {
    behind = applied it.tried old.state;
    told = restart_told old.state count r it.tried it.tries;
    step = restart_step old.state old.entries count some few r it.tried it.tries;
    agrees = restart_told_allows old.opening (cloud_of old.origin.cloud) a b allows (shown old.keeper).recalls count r
        it.does it.tried it.tries;
    leaves = it.kept.keeps.leaves;
    state = λ fine. (made_so (shown old.keeper).recalls r is_h fine it.does it.tried it.tries).0;
    entries = λ fine. (made_so (shown old.keeper).recalls r is_h fine it.does it.tried it.tries).1;
  }
