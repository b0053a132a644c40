-- Edges without an input, as inputs come.
use Rattle.std.proofs.Common.{◌≡◌, ◌+◌, ◌&&◌, ◌||◌, ◌∙◌, ℕ, Bool, true, false, true≢false, cond, List, [], ◌∷◌, ◌++◌, nat_eq, refl, sym, ap, arith}
use Rattle.std.specs.Prelude.{not}
use Rattle.std.specs.List.{count_by, list_all}
use Rattle.std.proofs.lemmas.Bool.{eqb-true, eq-eqb}
use Rattle.std.proofs.lemmas.List.Folds.{list_any-append, sum_by-zero}
use Rattle.std.proofs.lemmas.List.Sums.{sum_by-cons}
use Rattle.sync_points.specs.declared.point.Input.{Input}
use Rattle.sync_points.specs.Points.{has_from}

module _ (inputs : List Input) (x : Input) (new : has_from x.from inputs ≡ false) where
  abbrev pub more : ℕ → Bool
  more from = has_from from (inputs ++ x ∷ [])

  -- where a node gave an input, once this one came
  one : (from : ℕ) → more from ≡ (has_from from inputs || (nat_eq x.from from || false))
  one from = list_any-append (λ (y : Input). nat_eq y.from from) inputs (x ∷ [])

  gave : (p : ℕ) (a c : Bool) → has_from p inputs ≡ a → nat_eq x.from p ≡ c → more p ≡ (a || (c || false))
  gave p a c ea ec = one p ∙ ap (λ t. t || (nat_eq x.from p || false)) ea ∙ ap (λ t. a || (t || false)) ec

  -- how an edge counts, before and after
  counts : (p : ℕ) (a b c : Bool) → has_from p inputs ≡ a → nat_eq p x.from ≡ b → nat_eq x.from p ≡ c → cond (not a) 1 0 ≡ cond (not (more p)) 1 0 + cond b 1 0
  counts p true true c ea eb ec = absurd (true≢false (sym ea ∙ ap (λ f. has_from f inputs) (eqb-true p x.from eb) ∙ new))
  counts p false true true ea eb ec = omega (arith, ap {B = ℕ} (λ t. cond (not t) 1 0) (gave p false true ea ec))
  counts p false true false ea eb ec = absurd (true≢false (sym (eq-eqb x.from p (sym (eqb-true p x.from eb))) ∙ ec))
  counts p true false false ea eb ec = omega (arith, ap {B = ℕ} (λ t. cond (not t) 1 0) (gave p true false ea ec))
  counts p false false false ea eb ec = omega (arith, ap {B = ℕ} (λ t. cond (not t) 1 0) (gave p false false ea ec))
  counts p true false true ea eb ec = absurd (true≢false (sym (eq-eqb p x.from (sym (eqb-true x.from p ec))) ∙ eb))
  counts p false false true ea eb ec = absurd (true≢false (sym (eq-eqb p x.from (sym (eqb-true x.from p ec))) ∙ eb))

  -- the edges from its node are the ones that count no more
  pub missing_falls : (preds : List ℕ) → count_by (λ from. not (has_from from inputs)) preds ≡ count_by (λ from. not (more from)) preds + count_by (λ n. nat_eq n x.from) preds
  missing_falls [] = refl
  missing_falls (p ∷ ps) = omega (
    arith,
    counts p (has_from p inputs) (nat_eq p x.from) (nat_eq x.from p) refl refl refl,
    missing_falls ps,
    sum_by-cons (λ from. cond (not (has_from from inputs)) 1 0) p ps,
    sum_by-cons (λ from. cond (not (more from)) 1 0) p ps,
    sum_by-cons (λ n. cond (nat_eq n x.from) 1 0) p ps,
  )

-- none is missing where all pass
pub none_missing : (t : ℕ → Bool) (xs : List ℕ) → nat_eq (count_by (λ x. not (t x)) xs) 0 ≡ list_all t xs
none_missing t xs = sum_by-zero (λ x. cond (not (t x)) 1 0) xs ∙ all_same xs where
  flips : (b : Bool) → nat_eq (cond (not b) 1 0) 0 ≡ b
  flips true = refl
  flips false = refl

  all_same : (ys : List ℕ) → list_all (λ x. nat_eq (cond (not (t x)) 1 0) 0) ys ≡ list_all t ys
  all_same [] = refl
  all_same (y ∷ ys) = ap (λ b. b && list_all (λ x. nat_eq (cond (not (t x)) 1 0) 0) ys) (flips (t y)) ∙ ap (λ b. t y && b) (all_same ys)
