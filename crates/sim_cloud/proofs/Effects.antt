-- What each change of the holdings makes of what the cloud shows.
use Rattle.std.proofs.Common.{◌≡◌, ◌≢◌, ◌⊎◌, ◌<◌, ◌≤◌, ◌-◌, ◌∙◌, ℕ, Bool, true, false, true≢false, List, [], ◌∷◌, ◌++◌, length, get_or, Option, Some, None, refl, sym, ap, arith, inl, inr}
use Rattle.std.proofs.lemmas.Grind.{common_steps}
use Rattle.std.specs.Prelude.{remove, slice_set, slice_get, option_map}
use Rattle.std.proofs.lemmas.Option.{slice_get_within, get_or_from_slice_get}
use Rattle.std.proofs.Math.Seq.{map-set_same}
use Rattle.std.proofs.lemmas.List.Folds.{find_past}
use Rattle.heat_value.specs.Data.{Members}
use Rattle.heat_plan.specs.declared.token.Token.{Token}
use Rattle.heat_plan.specs.declared.facts.Facts.{Facts}
use Rattle.provider.specs.declared.traced.Traced.{Traced}
use Rattle.provider.proofs.Sames.{same_token-same, same_token-other, same_token-true}
use Rattle.provider.specs.Same.{same_token}
use Rattle.provider.specs.Cloud.{IsAlive, IsFull, entry_of}
use Rattle.provider.specs.Changes.{Notes, Stays, Renews, KeepsOthers, Adds, Sets, SendsAway, Removes, Lowers}
use Rattle.sim_cloud.specs.declared.held.Held.{Held}
use Rattle.sim_cloud.specs.Holding.{is_of, held_of, place_of, whats, IsHolding}
use Rattle.sim_cloud.specs.Shown.{Beside, shown, leaving_of}
use Rattle.sim_cloud.specs.Sound.{find_whats}
use Rattle.sim_cloud.proofs.Places.{find-position, find-position_None, find-position_set, passes, find-push, find-push_other, find-remove, find-remove_other}

-- the token is held before and after so, and others as before
pub record Becomes (token : Token) (xs ys : List Held) (before after : Option Held) : Type 0 where
  pub was : held_of xs token ≡ before
  pub is : held_of ys token ≡ after
  pub others : (t : Token) → t ≢ token → held_of ys t ≡ held_of xs t

token_at : (token : Token) (xs : List Held) (i : ℕ) (a : Held) → place_of xs token ≡ Some i → slice_get xs i ≡ Some a → a.what.token ≡ token
token_at token xs i a at here = same_token-true a.what.token token (passes (is_of token) xs i a at here)

pub becomes-set : (token : Token) (xs : List Held) (i : ℕ) (a b : Held) → place_of xs token ≡ Some i → slice_get xs i ≡ Some a → b.what.token ≡ a.what.token
    → Becomes token xs (slice_set xs i b) (Some a) (Some b)
becomes-set token xs i a b at here same =
    let named : a.what.token ≡ token = token_at token xs i a at here in
    let own : same_token b.what.token token ≡ true = rw (same, named) (same_token-same token) in
    record {
      was = find-position (is_of token) xs i a at here;
      is = find-position_set (is_of token) xs i b at own;
      others = λ t ne. find_past (is_of t) xs i b a
          (rw (get_or_from_slice_get xs i a a here, named) (same_token-other token t (λ e. ne (sym e))))
          (rw (same, named) (same_token-other token t (λ e. ne (sym e))));
    }

pub becomes-push : (xs : List Held) (one : Held) → place_of xs one.what.token ≡ None → Becomes one.what.token xs (xs ++ one ∷ []) None (Some one)
becomes-push xs one none =
    let absent = find-position_None (is_of one.what.token) xs none in
    record {
      was = absent;
      is = find-push (is_of one.what.token) xs one absent (same_token-same one.what.token);
      others = λ t ne. find-push_other (is_of t) xs one (same_token-other one.what.token t (λ e. ne (sym e)));
    }

apart_at : (xs : List Held) (i k : ℕ) (a d : Held) → IsHolding xs → slice_get xs i ≡ Some a → k < length xs → (k < i) ⊎ (i < k) → (get_or xs k d).what.token ≢ a.what.token
apart_at xs i k a d h here lt (inl low) = λ e. h.0 k i d low (slice_get_within xs i a here) (rw (get_or_from_slice_get xs i a d here) e)
apart_at xs i k a d h here lt (inr high) = λ e. h.0 i k d high lt (rw (get_or_from_slice_get xs i a d here) (sym e))

pub becomes-remove : (token : Token) (xs : List Held) (i : ℕ) (a : Held) → IsHolding xs → place_of xs token ≡ Some i → slice_get xs i ≡ Some a
    → Becomes token xs (remove xs i) (Some a) None
becomes-remove token xs i a h at here =
    let named : a.what.token ≡ token = token_at token xs i a at here in
    record {
      was = find-position (is_of token) xs i a at here;
      is = find-remove (is_of token) xs i (slice_get_within xs i a here)
          (λ k d lt ne. same_token-other (get_or xs k d).what.token token (λ e. apart_at xs i k a d h here lt (sides k ne) (rw named e)));
      others = λ t ne. find-remove_other (is_of t) xs i a here (rw named (same_token-other token t (λ e. ne (sym e))));
    } where
      sides : (k : ℕ) → k ≢ i → (k < i) ⊎ (i < k)
      sides k ne = grind (arith, common_steps)

-- ---- what the cloud shows

pub shows : (held : List Held) (u : Beside) (t : Token) (o : Option Held) → held_of held t ≡ o → entry_of (shown held u) t ≡ option_map (λ (h : Held). h.what) o
shows held u t o e = find_whats t held ∙ ap (option_map (λ (h : Held). h.what)) e

pub others-becomes : (token : Token) (xs ys : List Held) (u v : Beside) (before after : Option Held) → Becomes token xs ys before after → KeepsOthers token (shown xs u) (shown ys v)
others-becomes token xs ys u v before after b t ne =
    let same = b.others t ne in
    record { entry = rw (find_whats t ys, find_whats t xs, same) refl; leaving = rw same refl; left = rw same refl }

pub alive-becomes : (token : Token) (xs ys : List Held) (u : Beside) (a : Held) (after : Option Held) → Becomes token xs ys (Some a) after → IsAlive (shown xs u) token
alive-becomes token xs ys u a after b = rw (shows xs u token (Some a) b.was) refl

pub noted : (held more : List Held) (u v : Beside) (call : Traced) → v.trace ≡ u.trace ++ call ∷ [] → u.faults ≤ v.faults → v.quota ≡ u.quota → Notes call (shown held u) (shown more v)
noted held more u v call trace faults quota = record { trace = trace; faults = faults; quota = λ kind. rw quota refl }

pub stays : (held : List Held) (u v : Beside) → Stays (shown held u) (shown held v)
stays held u v = record { alive = refl; leaving = λ t. refl; left = λ t. refl }

pub renews : (held : List Held) (u v : Beside) (token : Token) → Renews token (shown held u) (shown held v)
renews held u v token = record { alive = refl; leaving = λ t. refl; others = λ t ne. refl }

pub adds : (xs : List Held) (one : Held) (u v : Beside) → place_of xs one.what.token ≡ None → ¬ IsFull (shown xs u) one.what.kind → one.leaving ≡ false → one.what.ready ≡ false
    → Adds one.what.token one.what.kind one.what.props (shown xs u) (shown (xs ++ one ∷ []) v)
adds xs one u v none room young unready =
    let b = becomes-push xs one none in
    record {
      absent = shows xs u one.what.token None b.was;
      room = room;
      facts = one.what.facts;
      entry = shows (xs ++ one ∷ []) v one.what.token (Some one) b.is ∙ ap Some (rw (← unready) refl);
      young = rw b.is young;
      others = others-becomes one.what.token xs (xs ++ one ∷ []) u v None (Some one) b;
    }

pub sets : (token : Token) (xs : List Held) (i : ℕ) (a : Held) (u v : Beside) (props : Members) (facts : Facts) (left : ℕ) → place_of xs token ≡ Some i → slice_get xs i ≡ Some a → a.what.props ≢ props
    → Sets token props (shown xs u) (shown (slice_set xs i (record a { what = record a.what { props = props; facts = facts; ready = false }; left = left })) v)
sets token xs i a u v props facts left at here differs =
    let after : Held = record a { what = record a.what { props = props; facts = facts; ready = false }; left = left } in
    let ys = slice_set xs i after in
    let b = becomes-set token xs i a after at here refl in
    record {
      before = a.what;
      facts = facts;
      differs = differs;
      turns = record { was = shows xs u token (Some a) b.was; is = shows ys v token (Some after) b.is };
      leaving = rw (b.was, b.is) refl;
      others = others-becomes token xs ys u v (Some a) (Some after) b;
    }

whats-set : (xs : List Held) (i : ℕ) (a b : Held) → slice_get xs i ≡ Some a → b.what ≡ a.what → whats (slice_set xs i b) ≡ whats xs
whats-set xs i a b here same = map-set_same (λ (h : Held). h.what) xs i b a (rw (get_or_from_slice_get xs i a a here) same)

pub sends : (token : Token) (xs : List Held) (i : ℕ) (a : Held) (u v : Beside) (left : ℕ) → place_of xs token ≡ Some i → slice_get xs i ≡ Some a → a.leaving ≡ false
    → SendsAway token (shown xs u) (shown (slice_set xs i (record a { leaving = true; left = left })) v)
sends token xs i a u v left at here before =
    let after : Held = record a { leaving = true; left = left } in
    let ys = slice_set xs i after in
    let b = becomes-set token xs i a after at here refl in
    record {
      there = alive-becomes token xs ys u a (Some after) b;
      before = rw b.was before;
      now = rw b.is refl;
      alive = whats-set xs i a after here refl;
      others = others-becomes token xs ys u v (Some a) (Some after) b;
    }

pub removes : (token : Token) (xs : List Held) (i : ℕ) (a : Held) (u v : Beside) → IsHolding xs → place_of xs token ≡ Some i → slice_get xs i ≡ Some a → a.leaving ≡ true
    → Removes token (shown xs u) (shown (remove xs i) v)
removes token xs i a u v h at here leaving =
    let b = becomes-remove token xs i a h at here in
    record {
      there = alive-becomes token xs (remove xs i) u a None b;
      leaving = rw b.was leaving;
      absent = shows (remove xs i) v token None b.is;
      others = others-becomes token xs (remove xs i) u v (Some a) None b;
    }

same_leaving : (token : Token) (xs ys : List Held) (a b : Held) → Becomes token xs ys (Some a) (Some b) → b.leaving ≡ a.leaving → (t : Token) (own : Bool) → same_token t token ≡ own
    → leaving_of (held_of ys t) ≡ leaving_of (held_of xs t)
same_leaving token xs ys a b c same t true e = let is : t ≡ token = same_token-true t token e in rw (is, c.was, c.is) same
same_leaving token xs ys a b c same t false e = rw (c.others t (λ q. true≢false (sym (rw q (same_token-same token)) ∙ e))) refl

pub lowers : (token : Token) (xs : List Held) (i : ℕ) (a : Held) (u v : Beside) → place_of xs token ≡ Some i → slice_get xs i ≡ Some a → 0 < a.left
    → Lowers token (shown xs u) (shown (slice_set xs i (record a { left = a.left - 1 })) v)
lowers token xs i a u v at here some =
    let after : Held = record a { left = a.left - 1 } in
    let ys = slice_set xs i after in
    let b = becomes-set token xs i a after at here refl in
    record {
      lower = rw (b.was, b.is) (omega (arith, some));
      rest = record {
        alive = whats-set xs i a after here refl;
        leaving = λ t. same_leaving token xs ys a after b refl t (same_token t token) refl;
        others = λ t ne. rw (b.others t ne) refl;
      };
    }
