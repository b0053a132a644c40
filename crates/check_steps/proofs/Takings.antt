-- The moves of a taking, by what was read.
use Rattle.std.proofs.Common.{None, refl}
use Rattle.std.specs.Prelude.{Contains, Option, ℕ}
use Rattle.traversal_graph.specs.declared.shape.Node.{Node}
use Rattle.row_table.specs.declared.row.Row.{Row}
use Rattle.mail_table.specs.declared.mail.Job.{Job}
use Rattle.mail_table.specs.declared.mail.Letter.{Letter}
use Rattle.core_state.specs.Reads.{IsDone}
use Rattle.core_state.specs.State.{StateData}
use Rattle.core_state.specs.declared.graph.Graph.{Graph}
use Rattle.core_state.specs.declared.stack.Stack.{Stack}
use Rattle.step_relation.specs.Given.{Nothing}
use Rattle.step_relation.specs.Moves.{Move, take_dropped, take_free, take_stolen}
use Rattle.step_relation.specs.Nexts.{TakesNext}
use Rattle.step_relation.specs.Takes.{HasNoHolder, IsHolder, IsIdleLetter, Takes, done, held}
use Rattle.step_reads.specs.Work.{IsMeantOf, meant_of}
use Rattle.check_steps.specs.Takings.{dropped_changes, dropped_entries, held_changes, held_entries, stolen_changes}
use Rattle.check_steps.specs.Takings.{stolen_entries}

module _ (s : StateData) (e : ℕ) (l : Letter) (next : TakesNext s e l) where
  pub drops : IsIdleLetter s l → Move s e Nothing None (dropped_changes l) (dropped_entries e l)
  drops idle = take_dropped l _ _ next idle refl refl

  module _ (target : ℕ) (stack : Stack) (graph : Graph) (node : Node) (row : Option Row)
      (meant : IsMeantOf s l target stack graph node row) where
    pub done_letter : IsDone graph l.node → IsIdleLetter s l
    done_letter is = done (meant_of s l target stack graph node row meant) is

    pub held_letter : (f : ℕ) (j : Job) → IsHolder s.jobs target f j → Contains s.live f → IsIdleLetter s l
    held_letter f j holds live = held (meant_of s l target stack graph node row meant) f j holds live

    abbrev takes : ¬ IsDone graph l.node → Takes s e
    takes undone = record {
      letter = l;
      next = next;
      meant = meant_of s l target stack graph node row meant;
      open_ =
          undone;
    }

    pub holds : ¬ IsDone graph l.node → HasNoHolder s.jobs target
        → Move s e Nothing None (held_changes e l target row) (held_entries e l target row)
    holds undone free = take_free (takes undone) _ _ free refl refl

    pub steals : ¬ IsDone graph l.node → (f : ℕ) (j : Job) → IsHolder s.jobs target f j → ¬ Contains s.live f
        → Move s e Nothing None (stolen_changes e l target row f) (stolen_entries e l target row f)
    steals undone f j holder stopped = take_stolen (takes undone) f j _ _ holder stopped refl refl
