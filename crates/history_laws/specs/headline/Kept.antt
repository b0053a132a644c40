-- What the main theorem rests on: each step leaves a standing state.
use Rattle.step_relation.specs.State.{StateData}
use Rattle.step_relation.specs.Groups.{KeptByCommands, KeptByEngines, KeptByMoves}
use Rattle.step_relation.specs.Laws.{SoundOpeningsHaveHeadline, SoundOpeningsStaySound, StepsKeepSound}
use Rattle.step_relation.specs.Sound.{Standing}
use Rattle.step_relation.specs.Stir.{EachStirs}

-- moves, commands and what is done with engines leave a standing state
pub record StandingKept : Type 0 where
  pub moves : KeptByMoves Standing
  pub commands : KeptByCommands Standing
  pub engines : KeptByEngines Standing

-- in a standing state each stack without a mark stirs
abbrev pub StandingStirs : Type 0
StandingStirs = (s : StateData) → Standing s → EachStirs s

-- from there each step keeps a state with its history sound
abbrev pub StandingKeepsSound : Type 0
StandingKeepsSound = StandingKept → StepsKeepSound

-- every run stays sound
abbrev pub StepsKeepRuns : Type 0
StepsKeepRuns = StepsKeepSound → SoundOpeningsStaySound

-- and every run has the main theorem
abbrev pub StandingHasHeadline : Type 0
StandingHasHeadline = StandingKept → SoundOpeningsHaveHeadline
