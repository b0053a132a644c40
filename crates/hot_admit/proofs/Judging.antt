-- What is found step by step is the plan or the fault.
use Rattle.std.proofs.Common.{◌≡◌, ◌∙◌, ◌<◌, ◌≤◌, ◌^◌, ℕ, List, Option, Some, None, All, Contains, true, false}
use Rattle.std.proofs.Common.{map, length, codes, refl, sym, ap, arith}
use Rattle.std.proofs.lemmas.List.{length-map}
use Rattle.heat_plan.specs.Order.{Rising}
use Rattle.heat_plan.specs.Names.{IsResName}
use Rattle.heat_plan.specs.Plans.{IsPlan, PlanData, names_of as item_names}
use Rattle.heat_plan.specs.declared.item.Item.{Item}
use Rattle.heat_plan.specs.declared.conditions.Condition.{Condition}
use Rattle.heat_plan.specs.declared.plan.Output.{Output}
use Rattle.heat_value.specs.Data.{Members, Rises, members_depth}
use Rattle.heat_value.specs.declared.path.Step.{Step}
use Rattle.hot_admit.specs.Admission.{IsAdmitted, IsRefused, cyclic_conditions, no_value, wrong, cyclic_needs, own_flaw}
use Rattle.hot_admit.specs.Basis.{BasisData}
use Rattle.hot_admit.specs.Codes.{flaw_at}
use Rattle.hot_admit.specs.Conds.{AreCondsOf, IsCondFaultOf, resource_wanted, output_wanted}
use Rattle.hot_admit.specs.Cycles.{HasOrder, IsCycleOf}
use Rattle.hot_admit.specs.Entries.{entries_flaw}
use Rattle.hot_admit.specs.Faults.{IsAdmitFaultOf, as_admission}
use Rattle.hot_admit.specs.Items.{IsFit, wanted_among, names_marked, items_marked}
use Rattle.hot_admit.specs.Plans.{Given, AreShallow, basis_of, values_in, items_in, plan_in, outputs_marked, files_of}
use Rattle.hot_admit.specs.Resources.{ResourceData, resources_data, resources_in, names_of, OutputData, outputs_data}
use Rattle.hot_admit.specs.Resources.{outputs_in}
use Rattle.hot_admit.specs.declared.code.AdmitCode.TheVariants.{A04}
use Rattle.hot_admit.specs.declared.conds.Conds.{Conds}
use Rattle.hot_admit.specs.declared.conds.Wanted.{Wanted}
use Rattle.hot_admit.specs.declared.fault.AdmitFlaw.{AdmitFlaw}
use Rattle.hot_admit.specs.declared.fault.CondFault.{CondFault}
use Rattle.hot_admit.specs.declared.fault.CondFault.TheVariants.{C01, C02, Memory}
use Rattle.hot_tree.specs.Parts.{ArePartsOf}
use Rattle.hot_tree.specs.Readings.{entries}
use Rattle.hot_tree.specs.declared.parts.Parts.{Parts}
use Rattle.hot_tree.specs.declared.res.Res.{Res}
use Rattle.type_catalog.specs.declared.kind.KindDef.{KindDef}
use Rattle.hot_tree.specs.Template.{IsRight}
use Rattle.hot_admit.proofs.Admitted.{items_rise, items_met, items_few, items_are_plan}
use Rattle.hot_admit.proofs.Depths.{entries_depth, outputs_depth}
use Rattle.hot_admit.proofs.Each.{names_fit}
use Rattle.hot_admit.proofs.Fits.{fits_all, few_all}
use Rattle.hot_admit.proofs.Marked.{names_wanted, names_absent, items_wanted, outputs_wanted}
use Rattle.hot_admit.proofs.Typed.{resources_same, outputs_same, in_order}

-- conditions without values
pub refused_conditions : (t : Members) (g : Given) (e : CondFault) → IsCondFaultOf g.params t e
    → IsAdmitFaultOf t g (as_admission e)
refused_conditions t g (C01 p) h = cyclic_conditions p h refl
refused_conditions t g (C02 p) h = no_value p h refl
refused_conditions t g Memory h = tt

-- what is known of a template once its conditions have values
pub record Ground (t : Members) (g : Given) (parts : Parts) (c : Conds) : Type 0 where
  pub are : ArePartsOf t parts
  pub up : Rises (entries (codes "resources") t)
  pub right : IsRight t
  pub shallow : members_depth t ≤ 64
  pub conds : AreCondsOf g.params t c

-- the same, of what is known by itself
pub grounded : {t : Members} {g : Given} {parts : Parts} {c : Conds} → ArePartsOf t parts
    → Rises (entries (codes "resources") t) → IsRight t → members_depth t ≤ 64 → AreCondsOf g.params t c
    → Ground t g parts c
grounded are up right shallow conds =
    record { are = are; up = up; right = right; shallow = shallow; conds = conds }

-- what is given, part by part
abbrev pub given_with : Members → Members → List KindDef → Given
given_with params files kinds = record { params = params; files = files; kinds = kinds }

-- what the program looks names up in, by these resources
abbrev pub basis_with : Given → List ResourceData → BasisData
basis_with g rs = record { resources = rs; files = g.files; kinds = g.kinds }

-- the plan with these outputs, conditions and absent names
abbrev plan_with : Members → Given → List Output → List Condition → List (List ℕ) → PlanData
plan_with t g os ks ns = record {
  items = items_in t g;
  outputs = os;
  params = g.params;
  conds = ks;
  files = files_of g.files;
  absent = ns;
}

module _ (t : Members) (g : Given) (parts : Parts) (c : Conds) (h : Ground t g parts c) where
  pub same : resources_data parts.resources ≡ resources_in t
  same = resources_same (entries (codes "resources") t) parts.resources h.are.resources

  pub sames : outputs_data parts.outputs ≡ outputs_in t
  sames = outputs_same (entries (codes "outputs") t) parts.outputs h.are.outputs

  pub known_is : c.conds ≡ values_in t g
  known_is = ap (λ (x : Conds). x.conds) h.conds.made

  pub wanted_is : c.resources ≡ map (resource_wanted g.params (values_in t g)) (resources_in t)
  wanted_is = ap (λ (x : Conds). x.resources) h.conds.made

  pub outputs_are : c.outputs ≡ map (output_wanted g.params (values_in t g)) (outputs_in t)
  outputs_are = ap (λ (x : Conds). x.outputs) h.conds.made

  -- what is found wrong with entries is wrong with the template
  pub own_is : entries_flaw (basis_with g (resources_data parts.resources)) (outputs_data parts.outputs)
      ≡ own_flaw t g
  own_is = ap (λ (rs : List ResourceData). entries_flaw (basis_with g rs) (outputs_data parts.outputs)) same
      ∙ ap (λ (os : List OutputData). entries_flaw (basis_of t g) os) sames

  pub refused_entries : (o : Option AdmitFlaw) (f : AdmitFlaw)
      → o ≡ entries_flaw (basis_with g (resources_data parts.resources)) (outputs_data parts.outputs) → o ≡ Some f
      → IsRefused t g f
  refused_entries o f is found = wrong h.conds.values (sym own_is ∙ sym is ∙ found)

  pub own_none : (o : Option AdmitFlaw)
      → o ≡ entries_flaw (basis_with g (resources_data parts.resources)) (outputs_data parts.outputs) → o ≡ None
      → own_flaw t g ≡ None
  own_none o is none = sym own_is ∙ sym is ∙ none

  pub order_is : Rising (names_of (resources_data parts.resources))
  order_is = in_order t parts h.are h.up

  order_in : Rising (names_of (resources_in t))
  order_in = rw same at order_is

  pub counts : length c.resources ≡ length parts.resources
  counts = ap (λ (ws : List Wanted). length ws) wanted_is ∙ length-map (resources_in t) _
      ∙ ap (λ (rs : List ResourceData). length rs) (sym same) ∙ length-map parts.resources _

  pub output_counts : length c.outputs ≡ length parts.outputs
  output_counts = ap (λ (ws : List Wanted). length ws) outputs_are ∙ length-map (outputs_in t) _
      ∙ ap (λ (os : List OutputData). length os) (sym sames) ∙ length-map parts.outputs _

  pub outputs_shallow : AreShallow (outputs_data parts.outputs)
  outputs_shallow = rw sames (outputs_depth (entries (codes "outputs") t)
      (omega (arith, entries_depth (codes "outputs") t, h.shallow)))

  -- the items that are made are those of what is wanted
  items_same : items_marked (basis_with g (resources_data parts.resources))
      (names_marked true (resources_data parts.resources) c.resources) (resources_data parts.resources) c.resources
      ≡ items_in t g
  items_same = rw (same, wanted_is, names_wanted g.params (values_in t g) (resources_in t))
      (items_wanted g.params (values_in t g) (basis_of t g)
      (names_of (wanted_among g.params (values_in t g) (resources_in t))) (resources_in t))

  pub items_are : (qs : List Res) (ws : List Wanted) (made : List Item) → qs ≡ parts.resources → ws ≡ c.resources
      → made ≡ items_marked (basis_with g (resources_data qs)) (names_marked true (resources_data qs) ws)
      (resources_data qs) ws
      → made ≡ items_in t g
  items_are qs ws made e f is = is ∙ rw (e, f) items_same

  module _ (own : own_flaw t g ≡ None) where
    fit_in : All (IsFit (basis_of t g)) (resources_in t)
    fit_in = fits_all t g h.right own h.shallow

    pub fit_is : All (IsFit (basis_with g (resources_data parts.resources))) (resources_data parts.resources)
    fit_is = rw same fit_in

    pub names_are_names : All IsResName (names_of (resources_data parts.resources))
    names_are_names = names_fit (basis_with g (resources_data parts.resources)) (resources_data parts.resources) fit_is

    pub in_rise : Rising (item_names (items_in t g))
    in_rise = items_rise (basis_of t g) g.params (values_in t g) (resources_in t) fit_in order_in

    pub in_met : All (λ (i : Item). All (Contains (item_names (items_in t g))) i.needs) (items_in t g)
    in_met = items_met (basis_of t g) g.params (values_in t g) (resources_in t) fit_in order_in

    pub in_few : length (items_in t g) < 2 ^ 32
    in_few = items_few (basis_of t g) g.params (values_in t g) (resources_in t) fit_in order_in (few_all t g own)

    pub refused_cycle : (path : List Step) → IsCycleOf (items_in t g) path → IsRefused t g (flaw_at A04 path)
    refused_cycle path cycle = cyclic_needs h.conds.values own path cycle refl

    pub in_plan : HasOrder (items_in t g)
        → IsPlan (items_in t g) (names_marked false (resources_data parts.resources) c.resources)
    in_plan order = rw (same, wanted_is)
        (items_are_plan (basis_of t g) g.params (values_in t g) (resources_in t) fit_in order_in order)

    pub admitted : (plan : PlanData) → HasOrder (items_in t g) → plan ≡ record {
      items = items_in t g;
      outputs = outputs_marked (outputs_data parts.outputs) c.outputs;
      params = g.params;
      conds = c.conds;
      files = files_of g.files;
      absent = names_marked false (resources_data parts.resources) c.resources;
    } → IsAdmitted t g plan
    admitted plan order made = record {
      values = h.conds.values;
      right = own;
      acyclic = order.1.acyclic;
      made = made ∙ whole;
    }
      where
        outs : outputs_marked (outputs_data parts.outputs) c.outputs ≡ (plan_in t g).outputs
        outs = rw (sames, outputs_are) (outputs_wanted g.params (values_in t g) (outputs_in t))

        gone : names_marked false (resources_data parts.resources) c.resources ≡ (plan_in t g).absent
        gone = rw (same, wanted_is) (names_absent g.params (values_in t g) (resources_in t))

        whole : plan_with t g (outputs_marked (outputs_data parts.outputs) c.outputs) c.conds
            (names_marked false (resources_data parts.resources) c.resources) ≡ plan_in t g
        whole = rw (outs, known_is, gone) refl
