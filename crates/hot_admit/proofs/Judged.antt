-- A template is admitted as one plan, or refused for one fault.
use Rattle.std.proofs.Common.{◌≡◌, ◌⊎◌, ◌∙◌, ℕ, List, [], ◌∷◌, Option, Some, None, refl, sym, ap, inl, inr}
use Rattle.heat_plan.specs.Order.{Rising}
use Rattle.heat_plan.specs.Plans.{PlanData}
use Rattle.heat_plan.specs.declared.item.Item.{Item}
use Rattle.heat_value.specs.Data.{Members}
use Rattle.heat_value.specs.declared.path.Step.{Step}
use Rattle.hot_admit.specs.Admission.{IsAdmitted, IsRefused, cyclic_conditions, no_value, wrong, cyclic_needs}
use Rattle.hot_admit.specs.Admission.{IsJudgedOneWay}
use Rattle.hot_admit.specs.Codes.{flaw_at}
use Rattle.hot_admit.specs.Conds.{HaveValues, IsCyclePath, IsUnvaluedPath, condition_path}
use Rattle.hot_admit.specs.Cycles.{IsCycleOf, names_at}
use Rattle.hot_admit.specs.Plans.{Given}
use Rattle.hot_admit.specs.declared.code.AdmitCode.TheVariants.{C01, C02, A04}
use Rattle.hot_admit.specs.declared.fault.AdmitFlaw.{AdmitFlaw}
use Rattle.eval_words.specs.Conditions.{IsLeastOnCycle}
use Rattle.traversal_graph.specs.Relations.{IsNeeded}
use Rattle.hot_admit.proofs.Members.{first_is}
use Rattle.hot_admit.proofs.OneCycle.{cycle_one}
use Rattle.hot_admit.proofs.Rising.{less_than_rest, not_less_both}

-- ---- what each fault tells is one

least_one_name : (conds : Members) (a b : List ℕ) → IsLeastOnCycle conds a → IsLeastOnCycle conds b → a ≡ b
least_one_name conds a b x y = by (x.least b y.cycle) (y.least a x.cycle)
  where
    by : (b ≡ a) ⊎ Rising (a ∷ b ∷ []) → (a ≡ b) ⊎ Rising (b ∷ a ∷ []) → a ≡ b
    by (inl e) h = sym e
    by (inr r) (inl e) = e
    by (inr r) (inr s) = absurd (not_less_both a b
        (less_than_rest a (b ∷ []) b r (first_is b [] b refl)) (less_than_rest b (a ∷ []) a s (first_is a [] a refl)))

cycle_paths_one : (t : Members) (p q : List Step) → IsCyclePath t p → IsCyclePath t q → p ≡ q
cycle_paths_one t p q a b =
    a.path_is ∙ ap condition_path (least_one_name _ a.name b.name a.least b.least) ∙ sym b.path_is

some_one : {A : Type 0} (o : Option A) (x y : A) → o ≡ Some x → o ≡ Some y → x ≡ y
some_one o x y e f = cc

some_or_none : {A : Type 0} (o : Option A) (x : A) → o ≡ None → o ≡ Some x → ⊥
some_or_none o x e f = cc

unvalued_one : (params t : Members) (p q : List Step) → IsUnvaluedPath params t p → IsUnvaluedPath params t q → p ≡ q
unvalued_one params t p q a b = some_one _ p q a.first b.first

cycles_one : (is : List Item) (p q : List Step) → IsCycleOf is p → IsCycleOf is q → p ≡ q
cycles_one is p q a b = a.2 ∙ ap (names_at is) (cycle_one (IsNeeded is) a.0 b.0 a.1 b.1) ∙ sym b.2

-- ---- faults of two sorts don't come together

cycle_or_values : (params t : Members) (p : List Step) → IsCyclePath t p → HaveValues params t → ⊥
cycle_or_values params t p a v = v.acyclic a.name a.least.cycle

cycle_or_unvalued : (params t : Members) (p q : List Step) → IsCyclePath t p → IsUnvaluedPath params t q → ⊥
cycle_or_unvalued params t p q a b = b.acyclic a.name a.least.cycle

unvalued_or_values : (params t : Members) (p : List Step) → IsUnvaluedPath params t p → HaveValues params t → ⊥
unvalued_or_values params t p a v = some_or_none _ p v.valued a.first

fault_one : (t : Members) (g : Given) (e f : AdmitFlaw) → IsRefused t g e → IsRefused t g f → e ≡ f
fault_one t g e f (cyclic_conditions p a is) (cyclic_conditions q b also) =
    is ∙ ap (flaw_at C01) (cycle_paths_one t p q a b) ∙ sym also
fault_one t g e f (cyclic_conditions p a is) (no_value q b also) = absurd (cycle_or_unvalued g.params t p q a b)
fault_one t g e f (cyclic_conditions p a is) (wrong v also) = absurd (cycle_or_values g.params t p a v)
fault_one t g e f (cyclic_conditions p a is) (cyclic_needs v n q b also) = absurd (cycle_or_values g.params t p a v)
fault_one t g e f (no_value p a is) (cyclic_conditions q b also) = absurd (cycle_or_unvalued g.params t q p b a)
fault_one t g e f (no_value p a is) (no_value q b also) =
    is ∙ ap (flaw_at C02) (unvalued_one g.params t p q a b) ∙ sym also
fault_one t g e f (no_value p a is) (wrong v also) = absurd (unvalued_or_values g.params t p a v)
fault_one t g e f (no_value p a is) (cyclic_needs v n q b also) = absurd (unvalued_or_values g.params t p a v)
fault_one t g e f (wrong v is) (cyclic_conditions q b also) = absurd (cycle_or_values g.params t q b v)
fault_one t g e f (wrong v is) (no_value q b also) = absurd (unvalued_or_values g.params t q b v)
fault_one t g e f (wrong v is) (wrong w also) = some_one _ e f is also
fault_one t g e f (wrong v is) (cyclic_needs w n q b also) = absurd (some_or_none _ e n is)
fault_one t g e f (cyclic_needs v n p a is) (cyclic_conditions q b also) = absurd (cycle_or_values g.params t q b v)
fault_one t g e f (cyclic_needs v n p a is) (no_value q b also) = absurd (unvalued_or_values g.params t q b v)
fault_one t g e f (cyclic_needs v n p a is) (wrong w also) = absurd (some_or_none _ f n also)
fault_one t g e f (cyclic_needs v n p a is) (cyclic_needs w m q b also) =
    is ∙ ap (flaw_at A04) (cycles_one _ p q a b) ∙ sym also

plan_or_fault : (t : Members) (g : Given) (p : PlanData) (f : AdmitFlaw) → IsAdmitted t g p → IsRefused t g f → ⊥
plan_or_fault t g p f a (cyclic_conditions q b also) = cycle_or_values g.params t q b a.values
plan_or_fault t g p f a (no_value q b also) = unvalued_or_values g.params t q b a.values
plan_or_fault t g p f a (wrong v also) = some_or_none _ f a.right also
plan_or_fault t g p f a (cyclic_needs v n q b also) = b.1.closed a.acyclic

pub judged_one : (t : Members) (g : Given) → IsJudgedOneWay t g
judged_one t g = record {
  plan = λ p q a b. a.made ∙ sym b.made;
  fault = fault_one t g;
  apart = plan_or_fault t g;
}
