-- What is known of a command that may be laid out.
use Rattle.std.proofs.Common.{◌≡◌, ℕ, List, [], Option, Some, None, refl, arith}
use Rattle.std.specs.List.Sorted.{IsStrictlySortedBy}
use Rattle.std.proofs.lemmas.List.Sorted.{IsPermutation-refl}
use Rattle.heat_plan.specs.Plans.{IsPlan, PlanData}
use Rattle.heat_plan.specs.declared.item.Item.{Item}
use Rattle.heat_plan.specs.declared.phase.Act.{Act}
use Rattle.heat_plan.specs.declared.phase.Act.TheVariants.{Create, Delete, Init, Rollback, Update}
use Rattle.heat_plan.specs.declared.phase.Status.{Status}
use Rattle.heat_plan.specs.declared.phase.Status.TheVariants.{Complete, Failed, InProgress}
use Rattle.step_relation.specs.State.{StateData, past_at, stack_at}
use Rattle.step_relation.specs.declared.Past.{Past}
use Rattle.step_relation.specs.declared.Stack.{Stack}
use Rattle.step_relation.specs.Commands.{Sets}
use Rattle.step_relation.specs.Freshness.{plan_of}
use Rattle.step_relation.specs.Orders.{back_after, past_of, past_or, plan_back}
use Rattle.step_relation.specs.Groups.{IsOrdered, creates, deletes, rolls_back, updates}
use Rattle.step_relation.specs.Sound.{Standing}

-- a plan is what the stack has or what it would go back to
pub back_cases : (P : Option PlanData → Type 0) (st : Stack) (past : Past) → P st.plan → P past.back
    → P (back_after st past)
back_cases P st past plan back = by st.status st.act where
  by : (status : Status) (act : Act) → P (back_after (record st { status = status; act = act }) past)
  by Complete Delete = back
  by Complete Init = plan
  by Complete Create = plan
  by Complete Update = plan
  by Complete Rollback = plan
  by InProgress act = back
  by Failed act = back

abbrev pub IsProper : Option PlanData → Type 0
IsProper plan = IsPlan (plan_of plan).items (plan_of plan).absent

-- asking for nothing is a plan
pub no_plan : IsPlan [] []
unfolding IsStrictlySortedBy
no_plan = record {
  rising = tt;
  met = λ k d lt. absurd (omega arith);
  acyclic = ([], record { same = IsPermutation-refl []; behind = λ p i at. cc });
  apart = λ k d lt. absurd (omega arith);
}

module _ (s : StateData) (S : Standing s) where
  pub back_proper : (name : List ℕ) (o : Option Past) → past_at s.pasts name ≡ o → IsProper (past_or name o).back
  back_proper name None at = no_plan
  back_proper name (Some past) at = (S.pasts.each name past at).proper

  -- what a rollback goes back to is a plan
  pub back_is_plan : (st : Stack) → stack_at s.stacks st.name ≡ Some st
      → IsPlan (plan_back s st).items (plan_back s st).absent
  back_is_plan st at =
      back_cases IsProper st (past_of s st.name) (S.marks.each st.name st at).proper
      (back_proper st.name (past_at s.pasts st.name) refl)

  -- the items are those of a plan
  pub ordered_plan : (name : List ℕ) (items : List Item) (it : Sets) → IsOrdered s name items it
      → (absent : List (List ℕ)) × IsPlan items absent
  ordered_plan _ _ _ (creates name plan rollback none proper) = (plan.absent, proper)
  ordered_plan _ _ _ (updates st plan rollback at act proper) = (plan.absent, proper)
  ordered_plan _ _ _ (deletes st at) = ([], no_plan)
  ordered_plan _ _ _ (rolls_back st actor at forward unfinished) = ((plan_back s st).absent, back_is_plan st at)

-- a command that lays out a delete asks for nothing
pub ordered_delete : (s : StateData) (name : List ℕ) (items : List Item) (it : Sets) → IsOrdered s name items it
    → it.act ≡ Delete → items ≡ []
ordered_delete s _ _ _ (creates name plan rollback none proper) is = cc
ordered_delete s _ _ _ (updates st plan rollback at act proper) is = cc
ordered_delete s _ _ _ (deletes st at) is = refl
ordered_delete s _ _ _ (rolls_back st actor at forward unfinished) is = cc

-- its past is the stack's
pub ordered_past : (s : StateData) (name : List ℕ) (items : List Item) (it : Sets) → IsOrdered s name items it
    → it.past.stack ≡ name
ordered_past s _ _ _ (creates name plan rollback none proper) = refl
ordered_past s _ _ _ (updates st plan rollback at act proper) = refl
ordered_past s _ _ _ (deletes st at) = refl
ordered_past s _ _ _ (rolls_back st actor at forward unfinished) = refl
