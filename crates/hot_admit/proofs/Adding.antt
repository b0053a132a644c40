-- Condition after condition, as far as the order goes, is a round.
use Rattle.std.proofs.Common.{◌≡◌, ◌↔◌, ◌∙◌, ◌<◌, ℕ, suc, List, ◌∷◌, Bool, true, false, Option, Some, None}
use Rattle.std.proofs.Common.{Contains, length, get_or, slice_get, refl, sym, ap, subst, arith}
use Rattle.std.proofs.Common.{◌+◌, ◌≤◌, bytes_eq, cond, below_more}
use Rattle.std.specs.Prelude.{option_and_then}
use Rattle.std.proofs.lemmas.List.{get_or_default}
use Rattle.std.proofs.lemmas.Option.{slice_get_within}
use Rattle.std.proofs.lemmas.Slice.Eq.{bytes_eq-Decides}
use Rattle.heat_plan.specs.Named.{condition_value}
use Rattle.heat_value.specs.Data.{Data, Members, no_members, member, keys_of, lookup, Rises}
use Rattle.eval_words.specs.Conditions.{flag_of}
use Rattle.eval_words.specs.SoFar.{named_values}
use Rattle.hot_admit.specs.Valuing.{AreFound, Grows, IsFoundAt, AddsRound, FindsOne}
use Rattle.hot_admit.proofs.Rounds.{flag_stays, valued_at, within_both}

-- ---- one condition after another

pub found_after : (params conds : Members) (first values new : List (Option Bool)) (i : ℕ) → Grows conds first values
    → IsFoundAt params conds values new i → IsFoundAt params conds first new i
found_after params conds first values new i grows found = record {
  value = λ name d b at is flag. found.value name d b at is
      (flag_stays params (named_values conds first) (named_values conds values) grows d b flag);
}

pub found_still : (params conds : Members) (first values new : List (Option Bool)) (i : ℕ) → Grows conds values new
    → IsFoundAt params conds first values i → IsFoundAt params conds first new i
found_still params conds first values new i grows found = record {
  value = λ name d b at is flag. grows.kept name b (found.value name d b at is flag);
}

-- ---- one that had no value has one

pub finds_still : (conds : Members) (first values new : List (Option Bool)) → Grows conds first values
    → FindsOne conds values new → FindsOne conds first new
finds_still conds first values new grows one = record {
  name = one.name;
  value = one.value;
  before = none (condition_value (named_values conds first) one.name) refl;
  after = one.after;
}
  where
    none : (o : Option Bool) → condition_value (named_values conds first) one.name ≡ o
        → condition_value (named_values conds first) one.name ≡ None
    none None is = is
    none (Some b) is = let never : Some b ≡ None = sym (grows.kept one.name b is) ∙ one.before in cc

pub finds_later : (conds : Members) (first values new : List (Option Bool)) → FindsOne conds first values
    → Grows conds values new → FindsOne conds first new
finds_later conds first values new one grows = record {
  name = one.name;
  value = one.value;
  before = one.before;
  after = grows.kept one.name one.value one.after;
}

-- ---- a round

-- what a map has under a key stands at the key's place
place_under : (ms : Members) (k : List ℕ) (d : Data) → lookup k ms ≡ Some d
    → (i : ℕ) × (slice_get (keys_of ms) i ≡ Some k)
place_under no_members k d is = cc
place_under (member l e ms) k d is = by (bytes_eq l k) refl (place_under ms k d) is
  where
    by : (b : Bool) → bytes_eq l k ≡ b → (lookup k ms ≡ Some d → (i : ℕ) × (slice_get (keys_of ms) i ≡ Some k))
        → cond b (Some e) (lookup k ms) ≡ Some d → (i : ℕ) × (slice_get (l ∷ keys_of ms) i ≡ Some k)
    by true same rest has = (0, ap Some ((bytes_eq-Decides l k).0 same))
    by false other rest has = let there = rest has in (suc there.0, there.1)

-- where the condition at each place was found, one round is added
pub round_added : (params conds : Members) (old new : List (Option Bool)) → Rises conds → Grows conds old new
    → ((i : ℕ) → i < length (keys_of conds) → IsFoundAt params conds old new i) → AddsRound params conds old new
round_added params conds old new up grows each = record {
  grows = grows;
  all = record {
    kept = λ name b has. by name b (lookup name conds) refl
        (sym (valued_at params (named_values conds old) conds name up) ∙ has);
  };
}
  where
    by : (name : List ℕ) (b : Bool) (o : Option Data) → lookup name conds ≡ o
        → option_and_then (flag_of params (named_values conds old)) o ≡ Some b
        → condition_value (named_values conds new) name ≡ Some b
    by name b None is flag = cc
    by name b (Some d) is flag =
        let there = place_under conds name d is in
        (each there.0 (slice_get_within (keys_of conds) there.0 name there.1)).value name d b there.1 is flag

-- each place is in the order
pub at_each : (order : List ℕ) (size : ℕ) (Found : ℕ → Type 0) → ((p : ℕ) → Contains order p ↔ (p < size))
    → ((i : ℕ) → i < length order → Found (get_or order i 0)) → (p : ℕ) → p < size → Found p
at_each order size Found all each p below =
    let there = (all p).1 below in
    subst Found (get_or_default order there.0 0 p there.1 ∙ there.2) (each there.0 there.1)

-- ---- along the order

-- the conditions at the first places of the order were found
pub record AreFoundTo (params conds : Members) (order : List ℕ) (first : List (Option Bool)) (i : ℕ)
    (values : List (Option Bool)) : Type 0 where
  pub found : AreFound params conds values
  pub grows : Grows conds first values
  pub each : (j : ℕ) → j < i → IsFoundAt params conds first values (get_or order j 0)

pub one_further : (params conds : Members) (order : List ℕ) (first : List (Option Bool)) (i p : ℕ)
    (values new : List (Option Bool)) → AreFoundTo params conds order first i values → get_or order i 0 ≡ p
    → AreFound params conds new → Grows conds values new → IsFoundAt params conds values new p
    → AreFoundTo params conds order first (i + 1) new
one_further params conds order first i p values new to at found grows here = record {
  found = found;
  grows = within_both _ _ _ to.grows grows;
  each = below_more (λ j. IsFoundAt params conds first new (get_or order j 0)) i
      (λ j below. found_still params conds first values new (get_or order j 0) grows (to.each j below))
      (subst (IsFoundAt params conds first new) (sym at)
      (found_after params conds first values new p to.grows here));
}

pub all_found : (params conds : Members) (order : List ℕ) (first : List (Option Bool)) (i : ℕ)
    (values : List (Option Bool)) → Rises conds → ((p : ℕ) → Contains order p ↔ (p < length (keys_of conds)))
    → length order ≤ i → AreFoundTo params conds order first i values → AddsRound params conds first values
all_found params conds order first i values up all end to =
    round_added params conds first values up to.grows
    (at_each order (length (keys_of conds)) (IsFoundAt params conds first values) all
    (λ j below. to.each j (omega (arith, below, end))))
