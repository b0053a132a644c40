-- Histories that are a little wrong: one entry behind a right one, and the sentences that it breaks.
use Rattle.std.specs.Prelude.{Contains, List, None, [], false, ◌++◌, ◌∷◌}
use Rattle.heat_plan.specs.declared.phase.Act.TheVariants.{Create}
use Rattle.core_state.specs.State.{StateData}
use Rattle.core_state.specs.declared.entry.Actor.TheVariants.{Engine}
use Rattle.core_state.specs.declared.entry.Entry.{Entry}
use Rattle.core_state.specs.declared.entry.RowWrite.TheVariants.{Purge}
use Rattle.step_relation.specs.Runs.{Judges, Run}
use Rattle.step_relation.specs.Could.{IsPossible}
use Rattle.step_relation.specs.Headline.{Headline}
use Rattle.history_examples.specs.Created.{history, until_asked}
use Rattle.history_examples.specs.Sentences.{CompleteFits, Completes, Holds, Marks, Named, Quiet, Releases, Sentence}
use Rattle.history_examples.specs.Setting.{facts, opening, row_writes, says, stack_name, token}
use Rattle.core_state.specs.declared.entry.What.TheVariants as what
use Rattle.heat_plan.specs.declared.calls.Answered.TheVariants as answer
use Rattle.heat_plan.specs.declared.calls.Request.TheVariants as request

-- a run from the opening has the main theorem, where the answers are ones that a provider gives
abbrev pub RunsHaveHeadline : Type 0
RunsHaveHeadline = (registries : List Judges) (s : StateData) (h : List Entry) → Run registries opening.state s h
    → IsPossible opening h
    → Headline registries opening h s

-- the first part of a run's history, an entry that can't be behind it, and what it breaks
pub record Spoiled : Type 0 where
  pub before : List Entry
  pub entry : Entry
  pub broken : List Sentence

-- the history with that entry behind it
abbrev pub all_of : Spoiled → List Entry
all_of x = x.before ++ x.entry ∷ []

-- Right up to the entry, which breaks just these sentences, under answers that a provider gives; no run has it
pub record IsNoRun (x : Spoiled) : Type 0 where
  pub judges : List Judges
  pub state : StateData
  pub after : List Entry
  pub right : Run judges opening.state state (x.before ++ after)
  pub breaks : (y : Sentence) → Contains x.broken y → ¬ Holds y opening x.before x.entry
  pub keeps : (y : Sentence) → ¬ Contains x.broken y → Holds y opening x.before x.entry
  pub possible : IsPossible opening (all_of x)
  pub no_run : (registries : List Judges) (s : StateData) → ¬ Run registries opening.state s (all_of x)

-- the create is marked complete while the cloud was only asked: what is alive has no facts yet
abbrev pub marked_before_ready : Spoiled
marked_before_ready = record {
  before = until_asked false;
  entry = says (Engine 1) (what.Mark stack_name 1 Create None);
  broken = Completes ∷ CompleteFits ∷ [];
}

-- it is marked a second time
abbrev pub marked_twice : Spoiled
marked_twice = record {
  before = history;
  entry = says (Engine 1) (what.Mark stack_name 1 Create None);
  broken = Marks ∷ [];
}

-- the cloud is asked again, though the stack is complete
abbrev pub called_when_complete : Spoiled
called_when_complete = record {
  before = history;
  entry = says (Engine 1) (what.Call (token 1) request.Poll (answer.Ready facts));
  broken = Quiet ∷ [];
}

-- the row goes, though its resource is alive
abbrev pub purged_while_alive : Spoiled
purged_while_alive = record { before = history; entry = row_writes 1 (Purge 1 ∷ []); broken = Named ∷ [] }

-- the resource is given up, though its policy isn't Retain: it isn't the stack's any more
abbrev pub released_without_retain : Spoiled
released_without_retain = record {
  before = history;
  entry = says (Engine 1) (what.Release (token 1));
  broken = Releases ∷ CompleteFits ∷ [];
}
