-- The first expression without a value, section by section; and where each has one, what conditions give.
use Rattle.std.proofs.Common.{◌≡◌, ◌∙◌, ℕ, List, Option, Some, None, map, refl, sym, ap, subst, codes}
use Rattle.std.specs.Option.{option_or}
use Rattle.heat_plan.specs.declared.conditions.Condition.{Condition}
use Rattle.heat_value.specs.Data.{Data, null, flag, whole, words, items, fields, Members, no_members, member, lookup}
use Rattle.heat_value.specs.Data.{Rises}
use Rattle.heat_value.specs.Meaning.{members_of}
use Rattle.heat_value.specs.declared.path.Step.{Step}
use Rattle.heat_value.specs.declared.value.Member.{Member}
use Rattle.hot_admit.specs.Conds.{unvalued_resource, unvalued_output, resource_wanted, output_wanted, conds_with}
use Rattle.hot_admit.specs.Conds.{AreCondsOf, IsCondFaultOf, IsCyclicFault, IsUnvaluedFault}
use Rattle.hot_admit.specs.Resources.{resources_among, outputs_among, resources_data, outputs_data}
use Rattle.hot_admit.specs.Resources.{resources_in, outputs_in, conditions_in}
use Rattle.hot_admit.specs.declared.conds.Wanted.{Wanted}
use Rattle.hot_admit.specs.declared.fault.CondFault.{CondFault}
use Rattle.hot_admit.specs.declared.fault.CondFault.TheVariants.{C01, C02, Memory}
use Rattle.eval_words.specs.Conditions.{condition_in, first_in_section, first_unvalued, unvalued, values_of}
use Rattle.eval_words.specs.Conditions.{IsOnCycle}
use Rattle.hot_forms.specs.Shapes.{members_in}
use Rattle.hot_tree.specs.Parts.{ArePartsOf}
use Rattle.hot_tree.specs.Readings.{entries}
use Rattle.hot_tree.specs.declared.parts.Parts.{Parts}
use Rattle.hot_admit.specs.Naming.{IsNamingOrder}
use Rattle.hot_admit.proofs.NameLoops.{none_cyclic}
use Rattle.hot_admit.proofs.Typed.{resources_same, outputs_same}

condition_same : (d : Data) → lookup (codes "condition") (members_in d) ≡ condition_in d
condition_same null = refl
condition_same (flag b) = refl
condition_same (whole z) = refl
condition_same (words s) = refl
condition_same (items ns) = refl
condition_same (fields ms) = refl

pub resources_unvalued : (params : Members) (known : List Condition) (ms : Members)
    → unvalued_resource params known (resources_among ms) ≡ first_in_section params known (codes "resources") ms
resources_unvalued params known no_members = refl
resources_unvalued params known (member k d ms) =
    rw (condition_same d, resources_unvalued params known ms) refl

pub outputs_unvalued : (params : Members) (known : List Condition) (ms : Members)
    → unvalued_output params known (outputs_among ms) ≡ first_in_section params known (codes "outputs") ms
outputs_unvalued params known no_members = refl
outputs_unvalued params known (member k d ms) =
    rw (condition_same d, outputs_unvalued params known ms) refl

-- ---- one section behind the other

module _ (params conds resources outputs : Members) where
  abbrev Section : List ℕ → Members → Option (List Step)
  Section name ms = first_in_section params (values_of params conds) name ms

  abbrev Named : Option (List Step)
  Named = first_unvalued params (values_of params conds) conds

  abbrev Rest : Option (List Step)
  Rest = option_or (Section (codes "resources") resources) (Section (codes "outputs") outputs)

  in_named : (o : Option (List Step)) → Named ≡ o → unvalued params conds resources outputs ≡ option_or o Rest
  in_named o is = ap (λ (x : Option (List Step)). option_or x Rest) is

  in_resources : (o : Option (List Step)) → Named ≡ None → Section (codes "resources") resources ≡ o
      → unvalued params conds resources outputs ≡ option_or o (Section (codes "outputs") outputs)
  in_resources o none is =
      in_named None none ∙ ap (λ (x : Option (List Step)). option_or x (Section (codes "outputs") outputs)) is

  in_outputs : (o : Option (List Step)) → Named ≡ None → Section (codes "resources") resources ≡ None
      → Section (codes "outputs") outputs ≡ o → unvalued params conds resources outputs ≡ o
  in_outputs o none nor is = in_resources None none nor ∙ is

-- ---- faults

cyclic_fault : (params t : Members) (e : CondFault) → IsCyclicFault (conditions_in t) e → IsCondFaultOf params t e
cyclic_fault params t (C01 p) h = record { name = h.0; least = h.1; path_is = h.2 }
cyclic_fault params t (C02 p) h = absurd h
cyclic_fault params t Memory h = tt

-- what is known of the conditions before the entries are looked at
pub record HaveOrder (params t : Members) (p : Parts) (known : List Condition) : Type 0 where
  pub are : ArePartsOf t p
  pub acyclic : (name : List ℕ) → IsOnCycle (conditions_in t) name → ⊥
  pub known_is : known ≡ values_of params (conditions_in t)

-- and that each has a value
pub record HaveFlags (params t : Members) (p : Parts) (known : List Condition) : Type 0 where
  pub order : HaveOrder params t p known
  pub none : first_unvalued params (values_of params (conditions_in t)) (conditions_in t) ≡ None

named_fault : (params t : Members) → ((name : List ℕ) → IsOnCycle (conditions_in t) name → ⊥) → (e : CondFault)
    → IsUnvaluedFault (first_unvalued params (values_of params (conditions_in t)) (conditions_in t)) e
    → IsCondFaultOf params t e
named_fault params t acyclic (C01 q) h = absurd h
named_fault params t acyclic (C02 q) h = record {
  acyclic = acyclic;
  first = in_named params (conditions_in t) (entries (codes "resources") t) (entries (codes "outputs") t) (Some q) h;
}
named_fault params t acyclic Memory h = tt

module _ (params t : Members) (p : Parts) (known : List Condition) where
  pub resources_are : HaveOrder params t p known → (o : Option (List Step))
      → unvalued_resource params known (resources_data p.resources) ≡ o
      → first_in_section params (values_of params (conditions_in t)) (codes "resources") (entries (codes "resources") t)
      ≡ o
  resources_are h o is =
      sym (ap (λ (ks : List Condition). unvalued_resource params ks (resources_data p.resources)) h.known_is
      ∙ ap (unvalued_resource params (values_of params (conditions_in t)))
      (resources_same (entries (codes "resources") t) p.resources h.are.resources)
      ∙ resources_unvalued params (values_of params (conditions_in t)) (entries (codes "resources") t)) ∙ is

  pub outputs_are : HaveOrder params t p known → (o : Option (List Step))
      → unvalued_output params known (outputs_data p.outputs) ≡ o
      → first_in_section params (values_of params (conditions_in t)) (codes "outputs") (entries (codes "outputs") t)
      ≡ o
  outputs_are h o is =
      sym (ap (λ (ks : List Condition). unvalued_output params ks (outputs_data p.outputs)) h.known_is
      ∙ ap (unvalued_output params (values_of params (conditions_in t)))
      (outputs_same (entries (codes "outputs") t) p.outputs h.are.outputs)
      ∙ outputs_unvalued params (values_of params (conditions_in t)) (entries (codes "outputs") t)) ∙ is

  pub resources_fault : HaveFlags params t p known → (e : CondFault)
      → IsUnvaluedFault (unvalued_resource params known (resources_data p.resources)) e → IsCondFaultOf params t e
  resources_fault h (C01 q) is = absurd is
  resources_fault h (C02 q) is = record {
    acyclic = h.order.acyclic;
    first = in_resources params (conditions_in t) (entries (codes "resources") t) (entries (codes "outputs") t) (Some q)
        h.none (resources_are h.order (Some q) is);
  }
  resources_fault h Memory is = tt

  pub outputs_fault : HaveFlags params t p known
      → unvalued_resource params known (resources_data p.resources) ≡ None → (e : CondFault)
      → IsUnvaluedFault (unvalued_output params known (outputs_data p.outputs)) e → IsCondFaultOf params t e
  outputs_fault h none (C01 q) is = absurd is
  outputs_fault h none (C02 q) is = record {
    acyclic = h.order.acyclic;
    first = in_outputs params (conditions_in t) (entries (codes "resources") t) (entries (codes "outputs") t) (Some q)
        h.none (resources_are h.order None none) (outputs_are h.order (Some q) is);
  }
  outputs_fault h none Memory is = tt

  -- ---- values

  made : HaveOrder params t p known
      → conds_with known params t ≡ conds_with (values_of params (conditions_in t)) params t
  made h = ap (λ (ks : List Condition). conds_with ks params t) h.known_is

  pub all_valued : HaveFlags params t p known → (rs os : List Wanted)
      → rs ≡ map (resource_wanted params known) (resources_data p.resources)
      → unvalued_resource params known (resources_data p.resources) ≡ None
      → os ≡ map (output_wanted params known) (outputs_data p.outputs)
      → unvalued_output params known (outputs_data p.outputs) ≡ None
      → AreCondsOf params t (record { conds = known; resources = rs; outputs = os })
  all_valued h rs os wanted none kept nor = record {
    values = record {
      acyclic = h.order.acyclic;
      valued = in_outputs params (conditions_in t) (entries (codes "resources") t) (entries (codes "outputs") t) None
          h.none (resources_are h.order None none) (outputs_are h.order None nor);
    };
    made = rw (wanted, kept, same, sames) (made h.order);
  }
    where
      same : resources_data p.resources ≡ resources_in t
      same = resources_same (entries (codes "resources") t) p.resources h.order.are.resources

      sames : outputs_data p.outputs ≡ outputs_in t
      sames = outputs_same (entries (codes "outputs") t) p.outputs h.order.are.outputs

-- ---- from what the conditions' members and their order are

pub record Grounds (t : Members) (p : Parts) (ms : List Member) (order : List ℕ) : Type 0 where
  pub are : ArePartsOf t p
  pub up : Rises (members_of ms)
  pub same : members_of ms ≡ p.conds
  pub ordered : IsNamingOrder (members_of ms) order

-- the same, of what is known by itself
pub grounds : {t : Members} {p : Parts} {ms : List Member} {order : List ℕ} → ArePartsOf t p → Rises p.conds
    → members_of ms ≡ p.conds → IsNamingOrder (members_of ms) order → Grounds t p ms order
grounds are up same ordered =
    record { are = are; up = subst (λ (l : Members). Rises l) (sym same) up; same = same; ordered = ordered }

pub cyclic_in : (params t : Members) (p : Parts) (ms : List Member) → ArePartsOf t p → members_of ms ≡ p.conds
    → (e : CondFault) → IsCyclicFault (members_of ms) e → IsCondFaultOf params t e
cyclic_in params t p ms are same e h =
    cyclic_fault params t e (subst (λ (l : Members). IsCyclicFault l e) (same ∙ are.conds) h)

module _ (params t : Members) (p : Parts) (ms : List Member) (order : List ℕ) (g : Grounds t p ms order) where
  those : members_of ms ≡ conditions_in t
  those = g.same ∙ g.are.conds

  acyclic : (name : List ℕ) → IsOnCycle (conditions_in t) name → ⊥
  acyclic name cycle =
      none_cyclic ms g.up g.ordered.acyclic name (subst (λ (l : Members). IsOnCycle l name) (sym those) cycle)

  pub named_in : (e : CondFault)
      → IsUnvaluedFault (first_unvalued params (values_of params (members_of ms)) (members_of ms)) e
      → IsCondFaultOf params t e
  named_in e h =
      named_fault params t acyclic e
      (subst (λ (l : Members). IsUnvaluedFault (first_unvalued params (values_of params l) l) e) those h)

  pub flags : (known : List Condition) → known ≡ values_of params (members_of ms)
      → first_unvalued params (values_of params (members_of ms)) (members_of ms) ≡ None → HaveFlags params t p known
  flags known is none = record {
    order = record { are = g.are; acyclic = acyclic; known_is = is ∙ ap (values_of params) those };
    none = subst (λ (l : Members). first_unvalued params (values_of params l) l ≡ None) those none;
  }
