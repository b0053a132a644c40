-- The step that a turn made, or tried to have kept, and what it leaves with the keeper.
use Rattle.std.specs.Prelude.{List, [], ℕ, ◌≡◌}
use Rattle.heat_plan.specs.declared.calls.Answered.{Answered}
use Rattle.core_state.specs.declared.change.Change.{Change}
use Rattle.check_steps.specs.declared.looks.Work.{Work}
use Rattle.record_keeper.specs.Shown.{ShownKeeper}
use Rattle.book.specs.Commits.{Commits}
use Rattle.book.specs.Commits as commits
use Rattle.book.specs.Keeping.{KeptBy}
use Rattle.book.specs.Scenes.{Scene}
use Rattle.book.specs.Turned.{Turned, WhyAlone, alone, called, failed, idle, lacking, lost, quiet, unkept, unmade, worn}
use Rattle.book.specs.declared.turning.Turn.TheVariants as turn
use Rattle.book.specs.declared.turning.Turn.{Turn as Turn_answer}

-- for want of memory the call alone is a step that changes nothing; where the keeper failed the whole step was tried
abbrev pub alone_changes : {result : Turn_answer} {given : Answered} → WhyAlone result given → List Change → List Change
alone_changes (lacking is size) cs = []
alone_changes (failed is) cs = cs

-- the changes that a turn made, or tried to have kept
abbrev pub tried_by : {e : ℕ} {old new : Scene} {result : Turn_answer} → Turned e old new result → List Change
tried_by (quiet given cs es is by it lasts tied makes same) = cs
tried_by (called k given cs es rest is it lasts first makes told) = cs
tried_by (alone k given cs es rest why some it lasts first makes told) = alone_changes why cs
tried_by (unkept given cs es is by some it lasts tied same) = cs
tried_by (unmade is same) = []
tried_by (idle is none same) = []
tried_by (lost is none same) = []
tried_by (worn is by same) = []

-- a turn, and what it leaves with the keeper
pub record Turns (e : ℕ) (old new : Scene) (before after : ShownKeeper) (faults now : ℕ) (result : Turn_answer)
    : Type 0 where
  pub turned : Turned e old new result
  pub kept : KeptBy before after faults now old.state new.state (tried_by turned) (result ≡ turn.DiskFault)

-- the changes that the commit of an older look made, or tried to have kept
abbrev pub tried_at : {e : ℕ} {w : Work} {old new : Scene} {result : Turn_answer} → Commits e w old new result
    → List Change
tried_at (commits.fenced is other same) = []
tried_at (commits.made still turned) = tried_by turned
tried_at (commits.unmade is same) = []

-- such a commit, and what it leaves with the keeper
pub record CommitsTo (e : ℕ) (w : Work) (old new : Scene) (before after : ShownKeeper) (faults now : ℕ)
    (result : Turn_answer) : Type 0 where
  pub committed : Commits e w old new result
  pub kept : KeptBy before after faults now old.state new.state (tried_at committed) (result ≡ turn.DiskFault)
