-- The first of a kind by its key, where each record is looked up by its key before it is taken.
use Rattle.std.proofs.Common.{◌≡◌, inl, inr, ℕ, Bool, true, false, cond, List, [], ◌∷◌, ◌++◌, Some, None, refl, sym}
use Rattle.std.proofs.Common.{◌∙◌, subst}
use Rattle.std.specs.Prelude.{Contains, Option, nat_eq}
use Rattle.std.proofs.lemmas.Bool.Decides.{Decides-eqb}
use Rattle.std.proofs.lemmas.List.Elements.{Contains-push_cases}
use Rattle.heat_plan.specs.Tables.{at}
use Rattle.step_reads.specs.Best.{Improves, first_by, none, other, taken}
use Rattle.step_reads.proofs.Tables.{at-key}

-- a test that tells which of two numbers comes first
pub record IsOrder (le : ℕ → ℕ → Bool) : Type 0 where
  pub same : (a : ℕ) → le a a ≡ true
  pub total : (a b : ℕ) → le a b ≡ false → le b a ≡ true
  pub goes_on : (a b c : ℕ) → le a b ≡ true → le b c ≡ true → le a c ≡ true

module _ {A : Type 0} (key : A → ℕ) (le : ℕ → ℕ → Bool) (order : IsOrder le) (all : List A) (Of : A → Type 0) where
  -- the record stands
  abbrev pub Stands : A → Type 0
  Stands x = at nat_eq key all (key x) ≡ Some x

  -- of what was seen and stands the first of the kind
  pub record IsFirstOf (seen : List A) (b : A) : Type 0 where
    pub stands : Stands b
    pub of : Of b
    pub first : (x : A) → Contains seen x → Stands x → Of x → le (key b) (key x) ≡ true

  -- the first so far
  abbrev pub IsFirst : List A → Option A → Type 0
  IsFirst seen None = (x : A) → Contains seen x → Stands x → ¬ Of x
  IsFirst seen (Some b) = IsFirstOf seen b

  -- a record that isn't taken
  pub first_skip : (seen : List A) (best : Option A) (y : A) → (Stands y → ¬ Of y) → IsFirst seen best
      → IsFirst (seen ++ y ∷ []) best
  first_skip seen None y not h = λ x among stands of. elim (Contains-push_cases seen y x among) [
    | inl was ↦ h x was stands of
    | inr is ↦ not (subst Stands (sym is) stands) (subst Of (sym is) of)
  ]
  first_skip seen (Some b) y not h = record {
    stands = h.stands;
    of = h.of;
    first = λ x among stands of. elim (Contains-push_cases seen y x among) [
      | inl was ↦ h.first x was stands of
      | inr is ↦ absurd (not (subst Stands (sym is) stands) (subst Of (sym is) of))
    ];
  }

  -- one that is
  pub first_more : (seen : List A) (best : Option A) (y z : A) → at nat_eq key all (key y) ≡ Some z → Of z
      → IsFirst seen best
      → IsFirst (seen ++ y ∷ []) (Some (first_by le key best z))
  first_more seen best y z found is h = by best h where
    stands : Stands z
    stands = subst (λ (k : ℕ). at nat_eq key all k ≡ Some z) (sym (at-key nat_eq Decides-eqb key all (key y) z found))
        found

    -- where y stands it is z
    itself : (x : A) → y ≡ x → Stands x → le (key z) (key x) ≡ true
    itself x is its = let e : Some z ≡ Some x =
        sym found ∙ subst (λ (k : A). at nat_eq key all (key k) ≡ Some x) (sym is) its in
        let f : z ≡ x = cc in subst (λ (k : A). le (key z) (key k) ≡ true) f (order.same (key z))

    pick : (b : A) → IsFirstOf seen b → (t : Bool) → le (key b) (key z) ≡ t
        → IsFirst (seen ++ y ∷ []) (Some (cond t b z))
    pick b h true e = record {
      stands = h.stands;
      of = h.of;
      first = λ x among its of. elim (Contains-push_cases seen y x among) [
        | inl was ↦ h.first x was its of
        | inr same ↦ order.goes_on (key b) (key z) (key x) e (itself x same its)
      ];
    }
    pick b h false e = record {
      stands = stands;
      of = is;
      first = λ x among its of. elim (Contains-push_cases seen y x among) [
        | inl was ↦ order.goes_on (key z) (key b) (key x) (order.total (key b) (key z) e) (h.first x was its of)
        | inr same ↦ itself x same its
      ];
    }

    by : (best : Option A) → IsFirst seen best → IsFirst (seen ++ y ∷ []) (Some (first_by le key best z))
    by None h = record {
      stands = stands;
      of = is;
      first = λ x among its of. elim (Contains-push_cases seen y x among) [
        | inl was ↦ absurd (h x was its of)
        | inr same ↦ itself x same its
      ];
    }
    by (Some b) h = pick b h (le (key b) (key z)) refl

  -- either, by the step that was made
  pub first_next : (seen : List A) (best new : Option A) (y : A) → Improves le key Of best (at nat_eq key all (key y))
      new
      → IsFirst seen best → IsFirst (seen ++ y ∷ []) new
  first_next seen best new y (none found is) h = subst (IsFirst (seen ++ y ∷ [])) (sym is)
      (first_skip seen best y (λ stands of. let e : None ≡ Some y = sym found ∙ stands in cc) h)
  first_next seen best new y (other x found not is) h = subst (IsFirst (seen ++ y ∷ [])) (sym is)
      (first_skip seen best y (λ stands of. let e : Some x ≡ Some y = sym found ∙ stands in let f : x ≡ y = cc in not
      (subst Of (sym f) of)) h)
  first_next seen best new y (taken x found of is) h =
      subst (IsFirst (seen ++ y ∷ [])) (sym is) (first_more seen best y x found of h)
