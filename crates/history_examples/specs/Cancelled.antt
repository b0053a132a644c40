-- A create is cancelled between ask and poll: it is rolled back to nothing, and its job goes on as overrun.
use Rattle.std.specs.Prelude.{List, None, Some, [], false, ◌++◌, ◌∷◌, ◌≡◌}
use Rattle.heat_plan.specs.declared.phase.Act.TheVariants.{Rollback}
use Rattle.core_state.specs.State.{StateData}
use Rattle.core_state.specs.declared.entry.Actor.TheVariants.{Engine, Main}
use Rattle.core_state.specs.declared.entry.Entry.{Entry}
use Rattle.core_state.specs.declared.entry.MailWrite.TheVariants.{Sent}
use Rattle.step_relation.specs.Freshness.{plan_of}
use Rattle.step_relation.specs.Runs.{Run}
use Rattle.step_relation.specs.Could.{could_of}
use Rattle.step_relation.specs.Last.{IsLast}
use Rattle.step_relation.specs.Marked.{Unmarked, mark_of}
use Rattle.step_relation.specs.Newest.{newest}
use Rattle.step_relation.specs.Stored.{stored}
use Rattle.step_relation.specs.Headline.{Headline}
use Rattle.history_examples.specs.Created.{asked, until_asked}
use Rattle.history_examples.specs.FirstRow.{row_begun}
use Rattle.history_examples.specs.RolledBack.{graph_back, stack_back}
use Rattle.history_examples.specs.Sentences.{Follows}
use Rattle.history_examples.specs.Setting.{letter, living, opening, registries, says, stack_name, token}
use Rattle.history_examples.specs.Spoiled.{Spoiled}
use Rattle.core_state.specs.declared.entry.What.TheVariants as what

-- the job polls on; its row is what the rollback cleans up
abbrev pub cancelled : StateData
cancelled = record (asked false) {
  stacks = stack_back ∷ [];
  graphs = graph_back ∷ [];
  letters = letter 2 2 0 ∷ [];
  next = record { stack = 2; trav = 3; row = 2; engine = 3; letter = 3 };
}

-- what the cancel tells: the rollback, and a letter to its clean-up node
abbrev pub cancel_tells : List Entry
cancel_tells =
    says Main (what.Command stack_name 2 Rollback (Some (plan_of None)) false)
    ∷ says Main (what.Mail (Sent (letter 2 2 0) ∷ []))
    ∷ []

-- the history up to the cancel
abbrev pub history : List Entry
history = until_asked false ++ cancel_tells

-- the newest traversal is a rollback to the plan that was reached last, which is none; what was asked for may be alive
pub record IsCancelled : Type 0 where
  pub run : Run registries opening.state cancelled history
  pub headline : Headline registries opening history cancelled
  pub traversal : newest opening history stack_name ≡ Some
      (record { trav = 2; act = Rollback; plan = Some (plan_of None) })
  pub last : IsLast opening (until_asked false) stack_name (plan_of None)
  pub mark : mark_of opening history stack_name ≡ Some Unmarked
  pub alive : could_of opening history (token 1) ≡ Some (living 1 None) ∷ []
  pub rows : stored opening history ≡ row_begun ∷ []

-- spoiled: an engine cancels, though nothing has failed
abbrev pub cancelled_by_an_engine : Spoiled
cancelled_by_an_engine = record {
  before = until_asked false;
  entry = says (Engine 1) (what.Command stack_name 2 Rollback (Some (plan_of None)) false);
  broken = Follows ∷ [];
}
