-- What is seen of a stack after its commands and marks.
use Rattle.std.specs.Prelude.{ℕ, List, Bool, true, false, cond, Option, Some, None}
use Rattle.std.specs.Ordering.{nat_cmp}
use Rattle.std.specs.Cmp.Lexicographic.{slice_cmp}
use Rattle.heat_plan.specs.Plans.{PlanData}
use Rattle.heat_plan.specs.declared.phase.Act.{Act}
use Rattle.heat_plan.specs.declared.phase.Act.TheVariants.{Init, Create, Update, Delete, Rollback}
use Rattle.heat_plan.specs.declared.phase.Status.{Status}
use Rattle.heat_plan.specs.declared.phase.Status.TheVariants.{Complete, InProgress, Failed}
use Rattle.core_state.specs.declared.entry.Cause.{Cause}
use Rattle.keyed_table.specs.Lists.{put, cut}
use Rattle.report.specs.Seen.{stack_key, stack_at}
use Rattle.report.specs.declared.brief.SeenStack.{SeenStack}

-- a traversal of it has begun, towards this plan
abbrev pub begun : List ℕ → ℕ → Act → Option PlanData → SeenStack
begun name trav act plan = record { name = name; trav = trav; act = act; status = InProgress; plan = plan }

-- how a marked traversal stands
abbrev pub marked_status : Option Cause → Status
marked_status None = Complete
marked_status (Some cause) = Failed

-- the plan of a stack, if it is seen and has one
abbrev pub plan_seen : Option SeenStack → Option PlanData
plan_seen None = None
plan_seen (Some stack) = stack.plan

-- its traversal is marked; the plan stays
abbrev pub marked : List ℕ → ℕ → Act → Option Cause → Option SeenStack → SeenStack
marked name trav act cause before = record {
  name = name;
  trav = trav;
  act = act;
  status = marked_status cause;
  plan = plan_seen before;
}

-- a stack is gone with a delete that is complete
abbrev pub is_gone : Act → Option Cause → Bool
is_gone act (Some cause) = false
is_gone Init None = false
is_gone Create None = false
is_gone Update None = false
is_gone Delete None = true
is_gone Rollback None = false

-- the stacks after a mark
abbrev pub after_mark : List ℕ → ℕ → Act → Option Cause → List SeenStack → List SeenStack
after_mark name trav act cause stacks =
    cond (is_gone act cause) (cut (slice_cmp nat_cmp) stack_key name stacks)
    (put (slice_cmp nat_cmp) stack_key (marked name trav act cause (stack_at stacks name)) stacks)
