-- What the lines do that make turns of engines, and where they are broken off.
use Rattle.std.specs.Prelude.{◌≡◌, ◌≢◌, ◌<◌, ◌≤◌, ℕ, true, false, List, [], ◌∷◌, ◌++◌, Option, Some, None, codes}
use Rattle.std.specs.Prelude.{length}
use Rattle.core_state.specs.declared.change.Change.{Change}
use Rattle.core_state.specs.declared.entry.Entry.{Entry}
use Rattle.core_state.specs.declared.entry.What.TheVariants as what
use Rattle.core_state.specs.declared.stack.Stack.{Stack}
use Rattle.core_state.specs.Changes.{applied}
use Rattle.core_state.specs.State.{StateData, stack_at}
use Rattle.step_relation.specs.Nexts.{IsLost}
use Rattle.step_relation.specs.Nexts as next
use Rattle.step_relation.specs.Opening.{Opening}
use Rattle.step_relation.specs.Headline.{IsSettledAs}
use Rattle.step_relation.specs.Sound.{Sound}
use Rattle.driver.specs.Below.{IsFullWork}
use Rattle.driver.specs.Quiet.{IsIdle}
use Rattle.driver.specs.Turned.{IsWornBy}
use Rattle.driver.specs.Turns.{TurnOf, Turns, Lacks, RanTo}
use Rattle.driver.specs.declared.ran.Ran.{Ran}
use Rattle.driver.specs.declared.ran.Ran.TheVariants as ran
use Rattle.driver.specs.declared.Turn.TheVariants as turn
use Rattle.converge_call.specs.declared.exit.Exit.{Exit}
use Rattle.converge_call.specs.declared.exit.Exit.TheVariants as exit
use Rattle.converge_call.specs.Notes.{by_main, refused, Notes, IsUndone}

-- how many turns there may be: as many as the line says, or as there is work
abbrev pub IsLimit : StateData → Option ℕ → ℕ → Type 0
IsLimit s None n = IsFullWork s n
IsLimit s (Some asked) n = n ≡ asked

-- each stack is marked: complete, unless it failed for a cause that the history tells, or before the opening
abbrev pub AreSettled : Opening → List Entry → StateData → Type 0
AreSettled o h s = (name : List ℕ) (st : Stack) → stack_at s.stacks name ≡ Some st → IsSettledAs o h st

-- turns were made until the book was idle, and their count was noted; from a sound opening each stack is then settled
pub record EndsIdle (o : Opening) (h : List Entry) (n : ℕ) (old new : StateData) (es : List Entry) : Type 0 where
  pub by : List ℕ
  pub turned : List Entry
  pub turns : Turns old new turned by
  pub within : length by ≤ n
  pub rests : IsIdle new
  pub settled : Sound o [] o.state → AreSettled o (h ++ turned) new
  pub entries : es ≡ turned ++ by_main (what.Ran true (length by)) ∷ []

-- all turns were made, and the book isn't idle; from a sound opening they are fewer than there was work
pub record EndsTired (o : Opening) (n : ℕ) (old new : StateData) (es : List Entry) : Type 0 where
  pub by : List ℕ
  pub turned : List Entry
  pub turns : Turns old new turned by
  pub all : length by ≡ n
  pub busy : ¬ IsIdle new
  pub short : Sound o [] o.state → (w : ℕ) → IsFullWork old w → n < w
  pub entries : es ≡ turned ++ by_main (what.Ran false n) ∷ []

-- how a run of n turns at most ends behind the history h
pub data RunEnds (o : Opening) (h : List Entry) (n : ℕ) (old new : StateData) (es : List Entry) : Type 0 where
  idle : EndsIdle o h n old new es → RunEnds o h n old new es
  tired : EndsTired o n old new es → RunEnds o h n old new es

-- Why a run was broken off: a number would have come to 2^62; the keeper failed; or there was no memory, for a turn or
-- for the note of its end.
abbrev pub break_of : Ran → Exit
break_of (ran.Idle m) = exit.Memory
break_of (ran.Tired n) = exit.Memory
break_of ran.Worn = exit.Worn
break_of ran.DiskFault = exit.DiskFault
break_of ran.Memory = exit.Memory

-- a run of n turns at most was broken off
pub record RunStops (n : ℕ) (old new : StateData) (es : List Entry) (why : Exit) : Type 0 where
  pub ended : Ran
  pub ran_to : RanTo n old new es ended
  pub cause : why ≡ break_of ended

-- A run needs a live engine; from a sound opening one without a number is never tired.
pub data RunDoes (o : Opening) (h : List Entry) (number : ℕ) (asked : Option ℕ) (old new : StateData)
    (es : List Entry) : Type 0 where
  no_engine : old.live ≡ [] → Notes (refused number (codes "E16")) old new es → RunDoes o h number asked old new es
  ran_idle : (n : ℕ) → old.live ≢ [] → IsLimit old asked n → EndsIdle o h n old new es
      → RunDoes o h number asked old new es
  ran_tired : (n : ℕ) → old.live ≢ [] → IsLimit old asked n → (Sound o [] o.state → asked ≡ Some n)
      → EndsTired o n old new es → RunDoes o h number asked old new es

pub data RunBreaks (asked : Option ℕ) (old new : StateData) (es : List Entry) (why : Exit) : Type 0 where
  unrun : IsUndone old new es why → RunBreaks asked old new es why
  stops : (n : ℕ) → IsLimit old asked n → RunStops n old new es why → RunBreaks asked old new es why

-- One turn of the engine: a step, or a note that it had nothing to do, was stopped, or never was.
pub data TurnDoes (number e : ℕ) (old new : StateData) (es : List Entry) : Type 0 where
  never_drawn : old.next.engine ≤ e → Notes (refused number (codes "E16")) old new es → TurnDoes number e old new es
  stepped : (cs : List Change) → TurnOf old e cs es → new ≡ applied cs old → TurnDoes number e old new es
  rested : next.IsIdle old e → Notes (what.Turned e false) old new es → TurnDoes number e old new es
  stopped : IsLost old e → Notes (what.Turned e true) old new es → TurnDoes number e old new es

-- there was no memory, for the turn or for the note; the keeper failed; or a number would have come to 2^62
pub data TurnBreaks (e : ℕ) (old new : StateData) (es : List Entry) (why : Exit) : Type 0 where
  lacking : Lacks e old new es turn.Memory → why ≡ exit.Memory → TurnBreaks e old new es why
  unkept : Lacks e old new es turn.DiskFault → why ≡ exit.DiskFault → TurnBreaks e old new es why
  worn_out : IsWornBy old e → new ≡ old → es ≡ [] → why ≡ exit.Worn → TurnBreaks e old new es why
