-- Each resource of a right template of which nothing is wrong can be made an item of.
use Rattle.std.proofs.Common.{◌≡◌, ◌≤◌, ℕ, List, [], ◌∷◌, Bool, true, false, Option, Some, None, All, refl, sym}
use Rattle.std.proofs.Common.{arith}
use Rattle.std.proofs.Common.{codes, length, is_some}
use Rattle.std.specs.Option.{option_or}
use Rattle.std.proofs.lemmas.List.Elements.{All-nil, All-cons}
use Rattle.heat_value.specs.Data.{Data, Members, no_members, member, depth, members_depth}
use Rattle.heat_value.specs.declared.path.Step.{Step}
use Rattle.hot_admit.specs.Basis.{BasisData, kind_at}
use Rattle.hot_admit.specs.Codes.{told, first_refused}
use Rattle.hot_admit.specs.Entries.{resource_flaw}
use Rattle.hot_admit.specs.Items.{IsFit}
use Rattle.hot_admit.specs.Resources.{resource_with, resources_among, resources_in}
use Rattle.hot_admit.specs.declared.code.AdmitCode.{AdmitCode}
use Rattle.hot_catalog.specs.Paths.{here_unless, behind}
use Rattle.heat_value.specs.declared.path.Step.TheVariants.{Key}
use Rattle.hot_forms.specs.Checks.{under, unless, first_entry, first_of}
use Rattle.hot_forms.specs.Parameters.{parameter_flaw}
use Rattle.hot_forms.specs.Shapes.{members_in}
use Rattle.hot_forms.specs.declared.code.HotCode.{HotCode}
use Rattle.hot_forms.specs.declared.flaw.Flaw.{Flaw}
use Rattle.type_catalog.specs.declared.kind.KindDef.{KindDef}
use Rattle.hot_tree.specs.Entries.{resource_flaw as shape_flaw, condition_flaw, output_flaw}
use Rattle.hot_tree.specs.Whole.{in_section, entries_flaw, functions_flaw, entries as whole_entries}
use Rattle.std.proofs.lemmas.Bool.{leb-true}
use Rattle.hot_admit.specs.Admission.{own_flaw}
use Rattle.hot_admit.specs.Plans.{Given, basis_of}
use Rattle.hot_forms.specs.Sections.{section, sections_flaw}
use Rattle.hot_tree.specs.Readings.{object_in, entries}
use Rattle.hot_tree.specs.Functions.{members_there}
use Rattle.hot_tree.specs.Template.{IsRight}
use Rattle.hot_admit.proofs.Depths.{members_in_depth, object_depth, entries_depth}
use Rattle.hot_admit.proofs.Named.{named}

-- ---- where no flaw is found, none of the checks finds one

or_none : {A : Type 0} (o p : Option A) → option_or o p ≡ None → (o ≡ None) × (p ≡ None)
or_none None p e = (refl, e)
or_none (Some x) p e = cc

under_none : (s : Step) (o : Option Flaw) → under s o ≡ None → o ≡ None
under_none s None e = refl
under_none s (Some f) e = cc

behind_none : (s : Step) (o : Option (List Step)) → behind s o ≡ None → o ≡ None
behind_none s None e = refl
behind_none s (Some p) e = cc

told_none : (c : AdmitCode) (o : Option (List Step)) → told c o ≡ None → o ≡ None
told_none c None e = refl
told_none c (Some p) e = cc

unless_none : (b : Bool) (c : HotCode) → unless b c ≡ None → b ≡ true
unless_none true c e = refl
unless_none false c e = cc

here_none : (b : Bool) → here_unless b ≡ None → b ≡ true
here_none true e = refl
here_none false e = cc

there_is : {A : Type 0} (o : Option A) → is_some o ≡ true → (x : A) × (o ≡ Some x)
there_is None e = cc
there_is (Some x) e = (x, refl)

-- ---- one resource

fit_one : (b : BasisData) (k : List ℕ) (d : Data) → shape_flaw k d ≡ None
    → resource_flaw b (resource_with k (members_in d)) ≡ None → depth d ≤ 64 → IsFit b (resource_with k (members_in d))
fit_one b k d right own shallow = record {
  name = named k (unless_none _ _ (or_none _ _ right).0);
  kind = kind_there.0;
  kind_is = kind_there.1;
  depth = object_depth (codes "properties") (members_in d) (omega (arith, members_in_depth d, shallow));
}
  where
    kind_there : (x : KindDef) × (kind_at b (resource_with k (members_in d)) ≡ Some x)
    kind_there = there_is _ (here_none _ (behind_none _ _ (behind_none _ _ (behind_none _ _
        (told_none _ _ (or_none _ _ own).0)))))

pub fit_all : (b : BasisData) (ms : Members) → first_entry shape_flaw ms ≡ None
    → first_refused (resource_flaw b) (resources_among ms) ≡ None → members_depth ms ≤ 64
    → All (IsFit b) (resources_among ms)
fit_all b no_members right own shallow = All-nil (IsFit b)
fit_all b (member k d ms) right own shallow =
    let first = or_none _ _ right in
    let mine = or_none _ _ own in
    All-cons (IsFit b) (resource_with k (members_in d)) (resources_among ms)
    (fit_one b k d (under_none _ _ first.0) mine.0 (omega (arith, shallow)))
    (fit_all b ms first.1 mine.1 (omega (arith, shallow)))

-- ---- all resources of a template

same_there : (o : Option Data) → members_there o ≡ object_in o
same_there None = refl
same_there (Some d) = refl

-- a right template's resources are right one by one
right_resources : (t : Members) → IsRight t → first_entry shape_flaw (entries (codes "resources") t) ≡ None
right_resources t right = rw (sym (same_there (section (codes "resources") t)))
    (under_none (Key (codes "resources")) (first_entry shape_flaw (whole_entries (codes "resources") t)) here)
  where
    params : Option Flaw
    params = in_section (codes "parameters") parameter_flaw t

    conds : Option Flaw
    conds = in_section (codes "conditions") condition_flaw t

    resources : Option Flaw
    resources = in_section (codes "resources") shape_flaw t

    outputs : Option Flaw
    outputs = in_section (codes "outputs") output_flaw t

    later : first_of (entries_flaw t ∷ functions_flaw t ∷ []) ≡ None
    later = (or_none (sections_flaw t) (first_of (entries_flaw t ∷ functions_flaw t ∷ [])) right).1

    all : first_of (params ∷ conds ∷ resources ∷ outputs ∷ []) ≡ None
    all = (or_none (entries_flaw t) (first_of (functions_flaw t ∷ [])) later).0

    here : resources ≡ None
    here =
        let behind_params = (or_none params (first_of (conds ∷ resources ∷ outputs ∷ [])) all).1 in
        let behind_conds = (or_none conds (first_of (resources ∷ outputs ∷ [])) behind_params).1 in
        (or_none resources (first_of (outputs ∷ [])) behind_conds).0

pub fits_all : (t : Members) (g : Given) → IsRight t → own_flaw t g ≡ None → members_depth t ≤ 64
    → All (IsFit (basis_of t g)) (resources_in t)
fits_all t g right own shallow =
    fit_all (basis_of t g) (entries (codes "resources") t) (right_resources t right) (or_none _ _ (or_none _ _ own).1).0
    (omega (arith, entries_depth (codes "resources") t, shallow))

-- there are few
pub few_all : (t : Members) (g : Given) → own_flaw t g ≡ None → length (resources_in t) ≤ 1000
few_all t g own =
    leb-true (length (resources_in t)) 1000 (here_none _ (behind_none _ _ (told_none _ _ (or_none _ _ own).0)))
