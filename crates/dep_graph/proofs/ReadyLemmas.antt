-- A set's keys as a rising list.
use Rattle.std.proofs.Common.{◌≡◌, ◌⊎◌, ℕ, ◌<◌, Bool, true, false, List, [], ◌∷◌, refl, sym, ap, ◌∙◌, inl, inr}
use Rattle.std.specs.Prelude.{Contains, IsTrue}
use Rattle.std.specs.Ordering.{nat_cmp}
use Rattle.std.specs.Cmp.{Equal-is}
use Rattle.std.specs.List.Sorted.{IsStrictlySortedBy}
use Rattle.std.specs.BTreeSet.{BTreeSet, contains, Updates}
use Rattle.std.specs.BTreeMap.{is_at}
use Rattle.std.proofs.lemmas.Bool.{cases_eq, cases_Bool, false≢true}
use Rattle.std.proofs.lemmas.Cmp.{nat_cmp_total}
use Rattle.std.proofs.lemmas.Map.Keys.{below_from_sorted}
use Rattle.std.proofs.lemmas.Map.Lookups.{exact_unsigned}
use Rattle.std.proofs.lemmas.Map.Views.{btree_set_contains_iff}
use Rattle.dep_graph.specs.Lists.{IsRising, PutsIn}

pub rising_keys : (keys : List ℕ) → IsStrictlySortedBy nat_cmp keys → IsRising keys
rising_keys keys sorted i j d lt inside = below_from_sorted keys i j d sorted lt inside

pub PutsIn-keys : (s n : BTreeSet ℕ) (k : ℕ) → Updates nat_cmp s n k true → IsStrictlySortedBy nat_cmp n.keys
    → PutsIn s.keys k n.keys
PutsIn-keys s n k (_, here, others, _) sorted = record {
  rising = rising_keys n.keys sorted;
  each = λ x. (there x, back x);
}
  where
    in_s : (x : ℕ) → IsTrue (contains nat_cmp s x) → Contains s.keys x
    in_s x = (btree_set_contains_iff nat_cmp_total exact_unsigned s x).0

    in_n : (x : ℕ) → IsTrue (contains nat_cmp n x) → Contains n.keys x
    in_n x = (btree_set_contains_iff nat_cmp_total exact_unsigned n x).0

    apart : (x : ℕ) → (x ≡ k → ⊥) → is_at (nat_cmp k) x ≡ false
    apart x ne = elim (cases_Bool (is_at (nat_cmp k) x)) [
      | inl e ↦ absurd (ne (sym (exact_unsigned k x ((Equal-is (nat_cmp k x)).0 e))))
      | inr e ↦ e
    ]

    there : (x : ℕ) → Contains n.keys x → Contains s.keys x ⊎ (x ≡ k)
    there x c = elim (cases_eq x k) [
      | inl e ↦ inr e
      | inr ne ↦ inl (in_s x (sym (others x (apart x ne)) ∙ (btree_set_contains_iff nat_cmp_total exact_unsigned n x).1 c))
    ]

    back : (x : ℕ) → Contains s.keys x ⊎ (x ≡ k) → Contains n.keys x
    back x (inr e) = rw e (in_n k here)
    back x (inl c) = elim (cases_eq x k) [
      | inl e ↦ rw e (in_n k here)
      | inr ne ↦ in_n x (others x (apart x ne) ∙ (btree_set_contains_iff nat_cmp_total exact_unsigned s x).1 c)
    ]
