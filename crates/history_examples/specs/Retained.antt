-- A create under the policy Retain fails and is rolled back: what it may have asked for is given up, not deleted.
use Rattle.std.specs.Prelude.{List, None, Some, [], ◌++◌, ◌∷◌, ◌≡◌}
use Rattle.heat_plan.specs.declared.item.Policy.TheVariants.{Retain}
use Rattle.mail_table.specs.declared.mail.Stage.TheVariants.{Ending}
use Rattle.core_state.specs.State.{StateData}
use Rattle.core_state.specs.declared.entry.Actor.TheVariants.{Engine}
use Rattle.core_state.specs.declared.entry.Entry.{Entry}
use Rattle.core_state.specs.declared.entry.MailWrite.TheVariants.{Held}
use Rattle.core_state.specs.declared.entry.RowWrite.TheVariants.{Purge}
use Rattle.step_relation.specs.Freshness.{plan_of}
use Rattle.step_relation.specs.Runs.{Run}
use Rattle.step_relation.specs.Could.{could_of}
use Rattle.step_relation.specs.Fits.{Fits}
use Rattle.step_relation.specs.Marked.{Completed, mark_of}
use Rattle.step_relation.specs.Stored.{released, stored}
use Rattle.step_relation.specs.Headline.{Headline}
use Rattle.history_examples.specs.Sentences.{Releases}
use Rattle.history_examples.specs.Setting.{living, mail_writes, opening, registries, row_writes, says, stack_name}
use Rattle.history_examples.specs.Setting.{token}
use Rattle.history_examples.specs.Spoiled.{Spoiled}
use Rattle.history_examples.specs.Undone.{cleans, complete_tells, gone, undone, until_cleaning_under}
use Rattle.core_state.specs.declared.entry.What.TheVariants as what

-- the row goes, and its token is given up; then the rollback is complete
abbrev pub given : StateData
given = record gone { released = token 1 ∷ [] }

-- the rollback is complete
abbrev pub retained : StateData
retained = record undone { released = token 1 ∷ [] }

-- what the begin at the clean-up node tells: the token is given up, and the row goes
abbrev pub give_tells : List Entry
give_tells =
    says (Engine 1) (what.Release (token 1))
    ∷ row_writes 1 (Purge 1 ∷ [])
    ∷ mail_writes 1 (Held (cleans Ending) ∷ [])
    ∷ []

-- the histories so far: up to that begin
abbrev pub until_given : List Entry
until_given = until_cleaning_under Retain ++ give_tells

-- up to the mark
abbrev pub history : List Entry
history = until_given ++ complete_tells

-- the stack has nothing, though what was given up may be alive: nobody was asked to delete it
pub record IsRetained : Type 0 where
  pub run : Run registries opening.state retained history
  pub headline : Headline registries opening history retained
  pub mark : mark_of opening history stack_name ≡ Some Completed
  pub fits : Fits opening history stack_name (plan_of None)
  pub given_up : released opening history ≡ token 1 ∷ []
  pub alive : could_of opening history (token 1) ≡ None ∷ Some (living 1 None) ∷ []
  pub rows : stored opening history ≡ []

-- spoiled: the token is given up again
abbrev pub given_up_twice : Spoiled
given_up_twice = record { before = history; entry = says (Engine 1) (what.Release (token 1)); broken = Releases ∷ [] }
