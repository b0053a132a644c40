-- Which names a set keeps of those that are given.
use Rattle.std.proofs.Common.{◌≡◌, ◌∙◌, ◌<◌, ◌⊎◌, ◌++◌, ℕ, zero, suc, List, [], ◌∷◌, Bool, true, false, Contains, IsTrue, map, refl}
use Rattle.std.proofs.Common.{◌+◌, sym, ap, subst, take, get_or, length, arith, cond, ◌↔◌, inl, inr, Bor, add-one}
use Rattle.std.proofs.Common.{Option, Some, None, IfSome, IsSome}
use Rattle.std.specs.BTreeSet.{BTreeSet, contains, Updates}
use Rattle.std.specs.Cmp.Lexicographic.{slice_cmp}
use Rattle.std.specs.Ordering.{nat_cmp, is_eq}
use Rattle.std.proofs.lemmas.Cmp.{nat_list_cmp_total}
use Rattle.std.proofs.lemmas.Map.Lookups.{exact_bytes}
use Rattle.std.proofs.lemmas.Map.Text.{is_eq-slice_cmp}
use Rattle.std.proofs.lemmas.Map.Views.{btree_set_contains_iff}
use Rattle.std.proofs.lemmas.Slice.Eq.{bytes_eq-Decides}
use Rattle.heat_value.specs.declared.text.Text.{Text}
use Rattle.std.proofs.Math.Seq.{take-suc}
use Rattle.std.proofs.lemmas.List.{map-append}
use Rattle.std.proofs.lemmas.List.Elements.{Contains-append_left, Contains-append_right, Contains-append_cases}
use Rattle.heat_plan.specs.Names.{IsResName}
use Rattle.eval_words.specs.Needs.{AreResNamesOf}

pub kept_none : AreResNamesOf [] []
kept_none name = (λ h. absurd (omega (arith, h.1)), λ h. absurd (omega (arith, h.0.1)))

-- an element of a list of one is that one
only : (x name : List ℕ) → Contains (x ∷ []) name → x ≡ name
only x name (zero, below, is) = is
only x name (suc k, below, is) = absurd (omega (arith, below))

alone : (x : List ℕ) → Contains (x ∷ []) x
alone x = (0, omega arith, refl)

pub kept_out : (named names : List (List ℕ)) (x : List ℕ) → ¬ IsResName x → AreResNamesOf named names
    → AreResNamesOf (named ++ x ∷ []) names
kept_out named names x out kept name = (λ h. forth ((kept name).0 h), λ h. back h.1 (Contains-append_cases named (x ∷ []) name h.0))
  where
    forth : Contains named name × IsResName name → Contains (named ++ x ∷ []) name × IsResName name
    forth h = (Contains-append_left named (x ∷ []) name h.0, h.1)

    back : IsResName name → Contains named name ⊎ Contains (x ∷ []) name → Contains names name
    back is (inl h) = (kept name).1 (h, is)
    back is (inr h) = absurd (out (subst IsResName (sym (only x name h)) is))

-- ---- a name put into a set

equal : (a b : List ℕ) → is_eq (slice_cmp nat_cmp a b) ≡ true → a ≡ b
equal a b e = (bytes_eq-Decides a b).0 (sym (is_eq-slice_cmp a b) ∙ e)

itself : (a : List ℕ) → is_eq (slice_cmp nat_cmp a a) ≡ true
itself a = is_eq-slice_cmp a a ∙ (bytes_eq-Decides a a).1 refl

stands : (s : BTreeSet (List ℕ)) (name : List ℕ) → IsTrue (contains (slice_cmp nat_cmp) s name) ↔ Contains s.keys name
stands s name = btree_set_contains_iff nat_list_cmp_total exact_bytes s name

module _ (named : List (List ℕ)) (old new : BTreeSet (List ℕ)) (x : List ℕ) (is : IsResName x)
    (put : Updates (slice_cmp nat_cmp) old new x true) (kept : AreResNamesOf named old.keys) where
  forth : (name : List ℕ) (b : Bool) → is_eq (slice_cmp nat_cmp x name) ≡ b
      → cond b true (contains (slice_cmp nat_cmp) old name) ≡ true
      → Contains (named ++ x ∷ []) name × IsResName name
  forth name true at e =
      subst (λ (n : List ℕ). Contains (named ++ x ∷ []) n × IsResName n) (equal x name at)
      (Contains-append_right named (x ∷ []) x (alone x), is)
  forth name false at e =
      let h = (kept name).0 ((stands old name).0 e) in (Contains-append_left named (x ∷ []) name h.0, h.1)

  back : (name : List ℕ) → IsResName name → Contains named name ⊎ Contains (x ∷ []) name
      → cond (is_eq (slice_cmp nat_cmp x name)) true (contains (slice_cmp nat_cmp) old name) ≡ true
  back name fits (inl h) = had (is_eq (slice_cmp nat_cmp x name)) ((stands old name).1 ((kept name).1 (h, fits)))
    where
      had : (b : Bool) {c : Bool} → c ≡ true → cond b true c ≡ true
      had true e = refl
      had false e = e
  back name fits (inr h) =
      ap (λ b. cond b true (contains (slice_cmp nat_cmp) old name))
      (ap (λ n. is_eq (slice_cmp nat_cmp x n)) (sym (only x name h)) ∙ itself x)

  pub kept_in : AreResNamesOf (named ++ x ∷ []) new.keys
  kept_in name = (
    λ h. forth name (is_eq (slice_cmp nat_cmp x name)) refl (sym (put.0 name) ∙ (stands new name).1 h),
    λ h. (stands new name).0 (put.0 name ∙ back name h.1 (Contains-append_cases named (x ∷ []) name h.0)),
  )

-- ---- one name more

pub kept_next : (named : List (Bor Text)) (i : ℕ) (t : Bor Text) (names : List (List ℕ)) → i < length named
    → t ≡ get_or named i t → AreResNamesOf (map (λ t. t.now) (take i named) ++ t.now ∷ []) names
    → AreResNamesOf (map (λ t. t.now) (take (i + 1) named)) names
kept_next named i t names below at =
    subst (λ (ns : List (List ℕ)). AreResNamesOf ns names) (sym (
    rw (add-one i) (ap (map (λ t. t.now)) (take-suc named i t below))
    ∙ map-append (λ t. t.now) (take i named) (get_or named i t ∷ [])
    ∙ ap (λ (u : Bor Text). map (λ t. t.now) (take i named) ++ u.now ∷ []) (sym at)))

-- ---- what a reading says

pub read_is : (o : Option (List ℕ)) (n x : List ℕ) → o ≡ Some n → IfSome o (λ m. m ≡ x) → n ≡ x
read_is None n x is same = cc
read_is (Some m) n x is same = let e : m ≡ n = cc in sym e ∙ same

pub read_fits : (o : Option (List ℕ)) (n x : List ℕ) → o ≡ Some n → IsSome o ↔ IsResName x → IsResName x
read_fits o n x is exact = exact.0 (rw is refl)

pub read_off : (o : Option (List ℕ)) (x : List ℕ) → o ≡ None → IsSome o ↔ IsResName x → ¬ IsResName x
read_off o x is exact h = let some : IsSome o = exact.1 h in none o is some
  where
    none : (o : Option (List ℕ)) → o ≡ None → IsSome o → ⊥
    none None is some = cc
    none (Some m) is some = cc
