-- What stands at the front of a text, and round its first dot.
use Rattle.std.proofs.Common.{◌≡◌, ◌≢◌, ◌<◌, ◌∙◌, ◌++◌, ◌==◌, ℕ, List, [], ◌∷◌, length, refl, ap, sym, arith}
use Rattle.std.proofs.Common.{Bool, true, false, Option, Some, None, option_map, MatchOption, if◌then◌else◌}
use Rattle.std.proofs.lemmas.Bool.Decides.{nat_tests}
use Rattle.std.proofs.lemmas.List.{take_all}
use Rattle.std.specs.List.{position_or_len, after_first}
use Rattle.std.specs.Prelude.{nat_lt}
use Rattle.std.specs.Borrow.{Bor}
use Rattle.hot_groups.specs.References.{behind_front, is_dot, before_dot, behind_dot}

-- ---- the front

front-same : (x : ℕ) (d s : List ℕ) → behind_front (x ∷ d) (x ∷ s) ≡ behind_front d s
front-same x d s =
    let same : (x == x) ≡ true = grind (arith, nat_tests) in
    ap (λ (b : Bool). if b then behind_front d s else None) same

front-there : (d rest : List ℕ) → behind_front d (d ++ rest) ≡ Some rest
front-there [] rest = refl
front-there (x ∷ d) rest = front-same x d (d ++ rest) ∙ front-there d rest

front-lacks : (d s : List ℕ) → ((rest : List ℕ) → s ≢ d ++ rest) → behind_front d s ≡ None
front-lacks [] s lacks = absurd (lacks s refl)
front-lacks (x ∷ d) [] lacks = refl
front-lacks (x ∷ d) (y ∷ s) lacks = by (x == y) refl (front-lacks d s)
  where
    by : (b : Bool) → (x == y) ≡ b → (((rest : List ℕ) → s ≢ d ++ rest) → behind_front d s ≡ None)
        → (if b then behind_front d s else None) ≡ None
    by false is later = refl
    by true is later =
        let same : y ≡ x = grind (arith, nat_tests) in
        later (λ rest e. lacks rest (ap (λ (z : ℕ). z ∷ s) same ∙ ap (λ (t : List ℕ). x ∷ t) e))

-- the clause of `strip_prefix`
pub stripped : (d s : List ℕ) (r : Option (Bor (List ℕ)))
    → MatchOption r ((rest : List ℕ) → s ≢ d ++ rest) (λ x. s ≡ d ++ x.now)
    → option_map (λ (x : Bor (List ℕ)). x.now) r ≡ behind_front d s
stripped d s None h = sym (front-lacks d s h)
stripped d s (Some x) h = sym (ap (behind_front d) h ∙ front-there d x.now)

-- ---- the first dot

pub dot_there : (s : List ℕ) → position_or_len is_dot s < length s → Some (after_first is_dot s) ≡ behind_dot s
dot_there s below =
    let is : nat_lt (position_or_len is_dot s) (length s) ≡ true = grind (arith, nat_tests) in
    sym (ap (λ (b : Bool). if b then Some (after_first is_dot s) else None) is)

pub no_dot_behind : (s : List ℕ) → position_or_len is_dot s ≡ length s → None ≡ behind_dot s
no_dot_behind s past =
    let is : nat_lt (position_or_len is_dot s) (length s) ≡ false = grind (arith, nat_tests) in
    sym (ap (λ (b : Bool). if b then Some (after_first is_dot s) else None) is)

pub no_dot_before : (s : List ℕ) → position_or_len is_dot s ≡ length s → s ≡ before_dot s
no_dot_before s past = sym (take_all (position_or_len is_dot s) s (omega (arith, past)))
