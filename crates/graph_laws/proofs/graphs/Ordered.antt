-- What a command that may be laid out asks for: its items rise by name, and their needs have no cycle.
use Rattle.std.proofs.Common.{◌≡◌, ℕ, List, [], None, Option, Some, refl}
use Rattle.std.specs.Prelude.{slice_get}
use Rattle.std.specs.List.Sorted.{IsStrictlySortedBy}
use Rattle.std.proofs.lemmas.List.Sorted.{IsPermutation-refl}
use Rattle.heat_plan.specs.Order.{Rising}
use Rattle.heat_plan.specs.Plans.{HasNoCycle, PlanData, names_of}
use Rattle.heat_plan.specs.declared.item.Item.{Item}
use Rattle.heat_plan.specs.declared.phase.Act.{Act}
use Rattle.heat_plan.specs.declared.phase.Act.TheVariants.{Create, Delete, Init, Rollback, Update}
use Rattle.heat_plan.specs.declared.phase.Status.{Status}
use Rattle.heat_plan.specs.declared.phase.Status.TheVariants.{Complete, Failed, InProgress}
use Rattle.core_state.specs.State.{StateData, past_at}
use Rattle.core_state.specs.declared.past.Past.{Past}
use Rattle.core_state.specs.declared.stack.Stack.{Stack}
use Rattle.step_relation.specs.Commands.{Sets}
use Rattle.step_relation.specs.Freshness.{plan_of}
use Rattle.step_relation.specs.Orders.{back_after, past_of, past_or, plan_back}
use Rattle.step_relation.specs.Groups.{IsOrdered, creates, deletes, rolls_back, updates}
use Rattle.step_relation.specs.Sound.{Standing}

-- the plan that a command sets has these items, in byte order and without a cycle of needs
pub record Asked (items : List Item) (it : Sets) : Type 0 where
  pub its : (plan_of it.plan).items ≡ items
  pub rising : Rising (names_of items)
  pub acyclic : HasNoCycle items

no_cycle : HasNoCycle []
no_cycle = ([], record { same = IsPermutation-refl []; behind = λ p i at. absurd (nothing p i at) }) where
  nothing : (p : ℕ) (i : Item) → slice_get [] p ≡ Some i → ⊥
  nothing p i at = cc

no_names : Rising (names_of [])
unfolding IsStrictlySortedBy
no_names = tt

-- a plan as it is kept
pub record IsProper (plan : PlanData) : Type 0 where
  pub rising : Rising (names_of plan.items)
  pub acyclic : HasNoCycle plan.items

no_plan : IsProper (plan_of None)
no_plan = record { rising = no_names; acyclic = no_cycle }

-- the plan that a rollback goes back to is a stack's plan, or one that its past has
back_proper : (st : Stack) (past : Past) (status : Status) (act : Act) → IsProper (plan_of st.plan)
    → IsProper (plan_of past.back)
    → IsProper (plan_of (back_after (record st { status = status; act = act }) past))
back_proper st past Complete Delete a b = b
back_proper st past Complete Init a b = a
back_proper st past Complete Create a b = a
back_proper st past Complete Update a b = a
back_proper st past Complete Rollback a b = a
back_proper st past InProgress act a b = b
back_proper st past Failed act a b = b

past_proper : (s : StateData) → Standing s → (name : List ℕ) → IsProper (plan_of (past_of s name).back)
past_proper s h name = by (past_at s.pasts name) refl where
  by : (o : Option Past) → past_at s.pasts name ≡ o → IsProper (plan_of (past_or name o).back)
  by None at = no_plan
  by (Some p) at = let f = (h.pasts.each name p at).proper in record { rising = f.rising; acyclic = f.acyclic }

pub asked_of : (s : StateData) → Standing s → (name : List ℕ) (items : List Item) (it : Sets)
    → IsOrdered s name items it → Asked items it
asked_of s h _ _ _ (creates name plan rollback none proper) =
    record { its = refl; rising = proper.rising; acyclic = proper.acyclic }
asked_of s h _ _ _ (updates st plan rollback at act proper) =
    record { its = refl; rising = proper.rising; acyclic = proper.acyclic }
asked_of s h _ _ _ (deletes st at) = record { its = refl; rising = no_names; acyclic = no_cycle }
asked_of s h _ _ _ (rolls_back st actor at forward _) =
    let own = (h.marks.each st.name st at).proper in
    let back : IsProper (plan_back s st) = back_proper st (past_of s st.name) st.status st.act
    (record { rising = own.rising; acyclic = own.acyclic }) (past_proper s h st.name) in
    record { its = refl; rising = back.rising; acyclic = back.acyclic }
