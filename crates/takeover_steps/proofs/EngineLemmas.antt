-- The numbers of new engines, one after the other.
use Rattle.std.proofs.Common.{◌≡◌, ◌<◌, ◌+◌, ◌-◌, ◌++◌, ◌∷◌, ◌∙◌, append_assoc, [], ℕ, zero, suc, List, map, sym, refl, ap, arith}
use Rattle.std.specs.Prelude.{Option, Some, None, SomeIff}
use Rattle.core_state.specs.declared.change.Change.{Change}
use Rattle.core_state.specs.declared.change.Change.TheVariants.{Enlist}
use Rattle.step_relation.specs.Steps.{engines_from}

-- a number that was made is the one that was asked for
pub some_new : (o : Option ℕ) (P : Type 0) (n x : ℕ) → SomeIff o P n → o ≡ Some x → x ≡ n
some_new None P n x no_number e = cc
some_new (Some y) P n x is_number e = let same : Some x ≡ Some y = sym e in cc

-- one that was not made is out of range
pub none_new : (o : Option ℕ) (P : Type 0) (n : ℕ) → SomeIff o P n → o ≡ None → ¬ P
none_new None P n no_number e = no_number
none_new (Some x) P n is_number e = cc

-- the numbers from the i-th on: it, and those behind it
pub engines_step : (first i count : ℕ) → i < count
    → engines_from (first + i) (count - i) ≡ (first + i) ∷ engines_from (first + (i + 1)) (count - (i + 1))
engines_step first i count lt = from (first + i) (count - i) (count - (i + 1)) (omega (arith, lt)) ∙ later where
  from : (n m k : ℕ) → m ≡ k + 1 → engines_from n m ≡ n ∷ engines_from (n + 1) k
  from n zero k e = absurd (omega (arith, e))
  from n (suc m) k e = let same : m ≡ k = omega (arith, e) in rw same refl

  later : (first + i) ∷ engines_from (first + i + 1) (count - (i + 1))
      ≡ (first + i) ∷ engines_from (first + (i + 1)) (count - (i + 1))
  later = let same : first + i + 1 ≡ first + (i + 1) = omega arith in rw same refl

-- one more is enlisted
pub enlisted : (changes all : List Change) (first i count n : ℕ) → i < count → n ≡ first + i
    → changes ++ map Enlist (engines_from (first + i) (count - i)) ≡ all
    → (changes ++ Enlist n ∷ []) ++ map Enlist (engines_from (first + (i + 1)) (count - (i + 1))) ≡ all
enlisted changes all first i count n lt is so_far =
    rw is (joined ∙ ap (λ (ns : List ℕ). changes ++ map Enlist ns) (sym (engines_step first i count lt)) ∙ so_far)
  where
    joined : (changes ++ Enlist (first + i) ∷ []) ++ map Enlist (engines_from (first + (i + 1)) (count - (i + 1)))
        ≡ changes ++ map Enlist ((first + i) ∷ engines_from (first + (i + 1)) (count - (i + 1)))
    joined = simp append_assoc
