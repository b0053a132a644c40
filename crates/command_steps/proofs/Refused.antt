-- Why a layout is refused, as why what is laid is.
use Rattle.std.proofs.Common.{◌≡◌, ◌⊎◌, inl, inr, ℕ, List, length}
use Rattle.heat_plan.specs.declared.refusal.Refusal.{Refusal}
use Rattle.heat_plan.specs.declared.refusal.Refusal.TheVariants.{Memory, Worn}
use Rattle.core_state.specs.State.{StateData}
use Rattle.step_relation.specs.Commands.{Lays, Sets}
use Rattle.step_relation.specs.Freshness.{plan_of}
use Rattle.command_steps.specs.Answers.{IsWornLaying, OrMemory}
use Rattle.command_steps.specs.Layouts.{HasNumbers}
use Rattle.command_steps.proofs.Lasting.{worn_laid}

pub refused : (s : StateData) (name : List ℕ) (it : Sets) (r : Refusal)
    → (r ≡ Memory) ⊎
    ((r ≡ Worn) × (k : Lays s name (plan_of it.plan).items) × ¬ HasNumbers s.next it.stacks (length k.rows)
    (length k.leaves))
    → OrMemory (IsWornLaying s name it) r
refused s name it r (inl memory) = inl memory
refused s name it r (inr (is, k, lacks)) =
    inr (record { is = is; lays = k; worn = worn_laid s name (plan_of it.plan).items it k lacks })
