-- The members whose keys are names of properties, and the first that has none of them.
use Rattle.std.proofs.Common.{◌≡◌, ◌∙◌, ℕ, zero, suc, ◌+◌, ◌<◌, ◌≤◌, List, [], ◌∷◌, ◌++◌, Bool, true, false}
use Rattle.std.proofs.Common.{Some, None, Result, Ok, Err, slice_get, ◌||◌, if◌then◌else◌}
use Rattle.std.proofs.Common.{length, map, get_or, drop, bytes_eq, refl, sym, ap, subst, arith}
use Rattle.std.proofs.Math.ListN.{set}
use Rattle.std.specs.List.{list_any}
use Rattle.std.specs.declared.cmp.Ordering.TheVariants.{Equal}
use Rattle.std.proofs.lemmas.List.{drop_all, length-map}
use Rattle.std.proofs.lemmas.Option.{slice_get-get_or, slice_get_within, get_or_from_slice_get}
use Rattle.std.proofs.lemmas.Slice.Eq.{bytes_eq-Decides}
use Rattle.heat_value.specs.Data.{keys_of, Rises}
use Rattle.heat_value.specs.Meaning.{members_of}
use Rattle.heat_value.specs.Places.{place}
use Rattle.heat_value.specs.declared.path.Step.TheVariants.{Key}
use Rattle.heat_value.specs.declared.value.Member.{Member}
use Rattle.heat_plan.proofs.Searched.{cmp}
use Rattle.hot_admit.specs.Kinds.{has_property, first_unknown}
use Rattle.hot_forms.specs.Checks.{is_among}
use Rattle.type_catalog.specs.declared.kind.KindDef.{KindDef}
use Rattle.type_catalog.specs.declared.kind.PropDef.{PropDef}
use Rattle.traversal_graph.proofs.NeedMembers.{same_name}
use Rattle.hot_admit.proofs.Found.{left_at}
use Rattle.hot_admit.proofs.Keyed.{named_at, is_at, keys_count}
use Rattle.hot_admit.proofs.NameMarks.{marks, others_marked, mark_found}

-- ---- one name more

pub mark_placed : (known : List (List ℕ)) (ms : List Member) (name : List ℕ) (p : ℕ) → Rises (members_of ms)
    → place name ms ≡ Ok p
    → set (marks known (keys_of (members_of ms))) p true ≡ marks (known ++ name ∷ []) (keys_of (members_of ms))
mark_placed known ms name p up at =
    let there : slice_get (keys_of (members_of ms)) p ≡ Some name = named_at name ms p at in
    mark_found known (keys_of (members_of ms)) name p up (slice_get_within (keys_of (members_of ms)) p name there)
    (λ d. subst (λ (z : List ℕ). cmp z name ≡ Equal)
    (sym (get_or_from_slice_get (keys_of (members_of ms)) p name d there)) (same_name name))

pub mark_unplaced : (known : List (List ℕ)) (ms : List Member) (name : List ℕ) (q : ℕ) → Rises (members_of ms)
    → place name ms ≡ Err q
    → marks known (keys_of (members_of ms)) ≡ marks (known ++ name ∷ []) (keys_of (members_of ms))
mark_unplaced known ms name q up at =
    others_marked known (keys_of (members_of ms)) name
    (λ p d below. by p d below (bytes_eq (get_or (keys_of (members_of ms)) p d) name) refl)
  where
    by : (p : ℕ) (d : List ℕ) → p < length (keys_of (members_of ms)) → (b : Bool)
        → bytes_eq (get_or (keys_of (members_of ms)) p d) name ≡ b
        → bytes_eq (get_or (keys_of (members_of ms)) p d) name ≡ false
    by p d below false is = is
    by p d below true is =
        let same : get_or (keys_of (members_of ms)) p d ≡ name =
        (bytes_eq-Decides (get_or (keys_of (members_of ms)) p d) name).0 is in
        let found : place name ms ≡ Ok p =
        is_at name ms p up (slice_get-get_or (keys_of (members_of ms)) p d below ∙ ap Some same) in
        let never : ◌≡◌ {A = Result ℕ ℕ} (Ok p) (Err q) = sym found ∙ at in cc

-- ---- what the marks tell

among_names : (props : List PropDef) (k : List ℕ)
    → is_among (map (λ (p : PropDef). p.name) props) k ≡ list_any (λ (p : PropDef). bytes_eq k p.name) props
among_names [] k = refl
among_names (p ∷ props) k = ap (λ (b : Bool). bytes_eq k p.name || b) (among_names props k)

mark_there : (known : List (List ℕ)) (ms : List Member) (i : ℕ) (m : Member) (b : Bool) → i < length ms
    → m ≡ get_or ms i m
    → get_or (marks known (keys_of (members_of ms))) i b ≡ is_among known m.key
mark_there known [] i m b below at = absurd (omega (arith, below))
mark_there known (x ∷ ms) zero m b below at = ap (λ (z : Member). is_among known z.key) (sym at)
mark_there known (x ∷ ms) (suc i) m b below at = mark_there known ms i m b (omega (arith, below)) at

pub marks_count : (known : List (List ℕ)) (ms : List Member) (all : List Bool)
    → all ≡ marks known (keys_of (members_of ms)) → length all ≡ length ms
marks_count known ms all is = ap length is ∙ length-map _ _ ∙ keys_count ms

-- the mark of a member says whether its key is a property
pub mark_told : (kind : KindDef) (ms : List Member) (i : ℕ) (m : Member) (b : Bool) (all : List Bool) → i < length ms
    → m ≡ get_or ms i m → all ≡ marks (map (λ (p : PropDef). p.name) kind.props) (keys_of (members_of ms))
    → b ≡ get_or all i b → has_property kind m.key ≡ b
mark_told kind ms i m b all below at is read =
    sym (among_names kind.props m.key)
    ∙ sym (mark_there (map (λ (p : PropDef). p.name) kind.props) ms i m b below at)
    ∙ ap (λ (bs : List Bool). get_or bs i b) (sym is) ∙ sym read

module _ (kind : KindDef) (ms : List Member) (i : ℕ) (m : Member)
    (far : first_unknown kind (members_of ms) ≡ first_unknown kind (members_of (drop i ms))) where
  here : i < length ms → m ≡ get_or ms i m → (b : Bool) → has_property kind m.key ≡ b
      → first_unknown kind (members_of ms)
      ≡ (if b then first_unknown kind (members_of (drop (i + 1) ms)) else Some (Key m.key ∷ []))
  here below at b is =
      far ∙ ap (λ (ls : List Member). first_unknown kind (members_of ls)) (left_at ms i m below at)
      ∙ ap (λ (c : Bool). if c then first_unknown kind (members_of (drop (i + 1) ms)) else Some (Key m.key ∷ [])) is

  pub known_here : i < length ms → m ≡ get_or ms i m → has_property kind m.key ≡ true
      → first_unknown kind (members_of ms) ≡ first_unknown kind (members_of (drop (i + 1) ms))
  known_here below at is = here below at true is

  pub unknown_here : i < length ms → m ≡ get_or ms i m → has_property kind m.key ≡ false
      → first_unknown kind (members_of ms) ≡ Some (Key m.key ∷ [])
  unknown_here below at is = here below at false is

  pub none_unknown : length ms ≤ i → first_unknown kind (members_of ms) ≡ None
  none_unknown past = far ∙ ap (λ (ls : List Member). first_unknown kind (members_of ls)) (drop_all i ms past)
