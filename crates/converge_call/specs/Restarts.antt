-- What the line `restart` does, and where it is refused.
use Rattle.std.specs.Prelude.{Bool, List, [], length, ◌≡◌}
use Rattle.provider.specs.Cloud.{Cloud}
use Rattle.core_state.specs.State.{StateData}
use Rattle.core_state.specs.declared.entry.Entry.{Entry}
use Rattle.step_relation.specs.Could.{Allows}
use Rattle.step_relation.specs.Opening.{Opening, first_of}
use Rattle.book.specs.Restarts as of_book
use Rattle.book.specs.declared.restarting.Unrestarted.{Unrestarted}
use Rattle.driver.specs.Scenes.{scene}
use Rattle.converge_call.specs.declared.exit.Exit.{Exit}
use Rattle.converge_call.specs.Exits.{exit_of}

-- As many engines as were live at the opening stand in the place of those that were live before: behind the history h
-- the cloud, in a state that it allows, has listed what agrees with the state.
pub record RestartDoes (o : Opening) (h : List Entry) (old new : StateData) (es : List Entry) : Type 0 where
  pub before : Cloud
  pub after : Cloud
  pub allowed : Allows (first_of o) h before
  pub does : of_book.RestartDoes (length o.state.live) (scene old [] before) (scene new es after)

-- It is refused, for its cause, and changes neither state nor history; the cloud is then this one. The keeper recalls
-- what it reads as, or doesn't.
pub record RestartBreaks (o : Opening) (h : List Entry) (recalls : Bool) (cloud : Cloud) (old new : StateData)
    (es : List Entry) (why : Exit) : Type 0 where
  pub before : Cloud
  pub allowed : Allows (first_of o) h before
  pub cause : Unrestarted
  pub breaks : of_book.RestartBreaks recalls (length o.state.live) (scene old [] before) (scene new es cloud) cause
  pub state : new ≡ old
  pub none : es ≡ []
  pub is_why : why ≡ exit_of cause
