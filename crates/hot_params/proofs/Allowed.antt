-- A value among the strings of members is one that a member is as a string.
use Rattle.std.proofs.Common.{◌≡◌, ◌∙◌, ◌⊎◌, ◌↔◌, ◌<◌, ◌+◌, ℕ, List, [], ◌∷◌, ◌++◌, Bool, true, false, ◌||◌, IsTrue}
use Rattle.std.proofs.Common.{Option, Some, None, length, get_or, drop, bytes_eq, option_map, IsPermutation, IsSorted}
use Rattle.std.proofs.Common.{inl, inr, refl, sym, ap, subst, arith}
use Rattle.std.specs.List.{list_any}
use Rattle.std.specs.List.Sorted.{IsNonDecreasingBy, IsPartitionPoint}
use Rattle.std.specs.Ordering.{nat_cmp, ordering_index}
use Rattle.std.specs.Cmp.Lexicographic.{slice_cmp}
use Rattle.std.specs.declared.cmp.Ordering.{Ordering}
use Rattle.std.specs.declared.cmp.Ordering.TheVariants.{Less, Equal, Greater}
use Rattle.std.proofs.lemmas.Bool.{both_ways, cases_lt}
use Rattle.std.proofs.lemmas.Cmp.{nat_list_cmp_total}
use Rattle.std.proofs.lemmas.List.Folds.{list_any-append, list_any_at, list_any_none}
use Rattle.std.proofs.lemmas.List.Sorted.{searchable_from_sorted, list_any-IsPermutation}
use Rattle.std.proofs.lemmas.List.{append_assoc}
use Rattle.std.proofs.lemmas.Slice.Eq.{bytes_eq-Decides}
use Rattle.heat_value.proofs.Searches.{equal_by}
use Rattle.heat_value.specs.Data.{Data, null, flag, whole, words, items, fields, Nodes, no_nodes, node}
use Rattle.heat_value.specs.Meaning.{data_of, nodes_of}
use Rattle.heat_value.specs.declared.value.Value.{Value}
use Rattle.hot_forms.specs.Checks.{is_among}
use Rattle.hot_forms.specs.declared.sort.Sort.TheVariants as sort
use Rattle.hot_params.specs.Conversions.{ConvertsTo, string_in}
use Rattle.hot_params.specs.Rules.{IsAmong, AreAmong}
use Rattle.hot_params.specs.Strings.{strings_of, strings_among, is_one_of}
use Rattle.hot_params.proofs.Places.{nodes_at}

abbrev cmp : List ℕ → List ℕ → Ordering
cmp = slice_cmp nat_cmp

-- ---- texts that are searched

pub sorted_among : (ss ts : List (List ℕ)) → IsPermutation ss ts → (s : List ℕ) → is_among ts s ≡ is_among ss s
sorted_among ss ts same s = sym (list_any-IsPermutation (bytes_eq s) ss ts same)

-- the comparisons with a text rise
pub texts_rise : (ss : List (List ℕ)) (s : List ℕ) → IsSorted cmp ss
    → IsNonDecreasingBy (λ (n : List ℕ). ordering_index (cmp n s)) ss
texts_rise ss s up = searchable_from_sorted nat_list_cmp_total (λ (n : List ℕ). n) ss s up

pub found : (ss : List (List ℕ)) (s : List ℕ) (p : ℕ) → p < length ss
    → ((d : List ℕ) → cmp (get_or ss p d) s ≡ Equal) → true ≡ is_among ss s
found ss s p below here = sym (list_any_at (bytes_eq s) ss p s below (equal_by (get_or ss p s) s Equal (here s)))

pub missed : (ss : List (List ℕ)) (s : List ℕ) (p : ℕ)
    → IsPartitionPoint (λ (n : List ℕ). cmp n s ≡ Less) (λ (n : List ℕ). cmp n s ≡ Greater) ss p
    → false ≡ is_among ss s
missed ss s p parts = sym (list_any_none (bytes_eq s) ss (λ k d l. elim (cases_lt k p) [
  | inl below ↦ equal_by (get_or ss k d) s Less (parts.0 k d (omega arith) below)
  | inr above ↦ equal_by (get_or ss k d) s Greater (parts.1 k d above l)
]))

-- ---- strings of members

none_of : (d : Data) → is_one_of [] d ≡ false
none_of null = refl
none_of (flag b) = refl
none_of (whole z) = refl
none_of (words s) = refl
none_of (items ns) = refl
none_of (fields ms) = refl

one_of-append : (ss ts : List (List ℕ)) (d : Data) → is_one_of (ss ++ ts) d ≡ (is_one_of ss d || is_one_of ts d)
one_of-append ss ts null = refl
one_of-append ss ts (flag b) = refl
one_of-append ss ts (whole z) = refl
one_of-append ss ts (words s) = list_any-append (bytes_eq s) ss ts
one_of-append ss ts (items ns) = refl
one_of-append ss ts (fields ms) = refl

or_false : (b : Bool) → (b || false) ≡ b
or_false true = refl
or_false false = refl

-- a member's string is the value exactly where it converts to it
head : (o : Option (List ℕ)) (d : Data) → IsTrue (is_one_of (strings_of o) d) ↔ (option_map words o ≡ Some d)
head None d = (λ h. absurd (both_ways _ (none_of d) h), λ e. cc)
head (Some t) null = (λ h. cc, λ e. cc)
head (Some t) (flag b) = (λ h. cc, λ e. cc)
head (Some t) (whole z) = (λ h. cc, λ e. cc)
head (Some t) (words s) = (
  λ h. ap (λ x. Some (words x)) (sym ((bytes_eq-Decides s t).0 (sym (or_false (bytes_eq s t)) ∙ h))),
  λ e. let same : t ≡ s = cc in or_false (bytes_eq s t) ∙ (bytes_eq-Decides s t).1 (sym same),
)
head (Some t) (items ns) = (λ h. cc, λ e. cc)
head (Some t) (fields ms) = (λ h. cc, λ e. cc)

either : (a b : Bool) (A B : Type 0) → IsTrue a ↔ A → IsTrue b ↔ B → IsTrue (a || b) ↔ (A ⊎ B)
either true b A B is more = (λ h. inl (is.0 refl), λ h. refl)
either false b A B is more = (
  λ h. inr (more.0 h),
  λ h. elim h [
    | inl x ↦ absurd (both_ways false refl (is.1 x))
    | inr y ↦ more.1 y
  ],
)

one_of_strings : (allowed : Nodes) (d : Data)
    → IsTrue (is_one_of (strings_among allowed) d) ↔ IsAmong sort.Words allowed d
one_of_strings no_nodes d = (λ h. both_ways _ (none_of d) h, λ e. absurd e)
one_of_strings (node e ns) d =
    let all = either (is_one_of (strings_of (string_in e)) d) (is_one_of (strings_among ns) d) _ _
    (head (string_in e) d) (one_of_strings ns d) in
    let parts = one_of-append (strings_of (string_in e)) (strings_among ns) d in
    (λ h. all.0 (sym parts ∙ h), λ h. parts ∙ all.1 h)

same_one_of : (ss ts : List (List ℕ)) → ((s : List ℕ) → is_among ts s ≡ is_among ss s) → (d : Data)
    → is_one_of ts d ≡ is_one_of ss d
same_one_of ss ts same null = refl
same_one_of ss ts same (flag b) = refl
same_one_of ss ts same (whole z) = refl
same_one_of ss ts same (words s) = same s
same_one_of ss ts same (items ns) = refl
same_one_of ss ts same (fields ms) = refl

-- one string more, where the next member has one
pub next_string : (vs : List Value) (i : ℕ) (v : Value) (old new entire : List (List ℕ)) → i < length vs
    → v ≡ get_or vs i v → new ≡ old ++ strings_of (string_in (data_of v))
    → old ++ strings_among (nodes_of (drop i vs)) ≡ entire → new ++ strings_among (nodes_of (drop (i + 1) vs)) ≡ entire
next_string vs i v old new entire below at is all =
    let rest = strings_among (nodes_of (drop (i + 1) vs)) in
    ap (λ (ss : List (List ℕ)). ss ++ rest) is
    ∙ append_assoc old (strings_of (string_in (data_of v))) rest
    ∙ ap (λ (ns : Nodes). old ++ strings_among ns) (sym (nodes_at vs i v below at)) ∙ all

-- ---- each item

module _ (allowed : Nodes) (ts : List (List ℕ)) (all : Nodes) (vs : List Value) (i : ℕ) (v : Value)
    (same : (s : List ℕ) → is_among ts s ≡ is_among (strings_among allowed) s)
    (so_far : AreAmong allowed all ↔ AreAmong allowed (nodes_of (drop i vs))) (below : i < length vs)
    (at : v ≡ get_or vs i v) where
  abbrev Among : Nodes → Type 0
  Among ns = AreAmong allowed ns

  told : is_one_of ts (data_of v) ≡ is_one_of (strings_among allowed) (data_of v)
  told = same_one_of (strings_among allowed) ts same (data_of v)

  -- one that is among them leaves it to the others
  pub goes_on : is_one_of ts (data_of v) ≡ true → AreAmong allowed all ↔ AreAmong allowed (nodes_of (drop (i + 1) vs))
  goes_on is = (
    λ h. (subst Among (nodes_at vs i v below at) (so_far.0 h)).1,
    λ h. so_far.1 (subst Among (sym (nodes_at vs i v below at))
        ((one_of_strings allowed (data_of v)).0 (sym told ∙ is), h)),
  )

  -- one that isn't decides
  pub ends : is_one_of ts (data_of v) ≡ false → IsTrue false ↔ AreAmong allowed all
  ends is = (
    λ f. absurd (both_ways false refl f),
    λ h.
        let one : IsTrue (is_one_of (strings_among allowed) (data_of v)) =
        (one_of_strings allowed (data_of v)).1 (subst Among (nodes_at vs i v below at) (so_far.0 h)).0 in
        absurd (both_ways _ (sym told ∙ is) one),
  )
