-- How a written-out run goes on, by a turn or a command.
use Rattle.std.proofs.Common.{List, [], refl, true, ℕ, ◌++◌, ◌≡◌, ◌≢◌}
use Rattle.std.specs.Prelude.{Contains}
use Rattle.heat_plan.specs.declared.calls.Answered.{Answered}
use Rattle.core_state.specs.Changes.{applied}
use Rattle.core_state.specs.State.{StateData}
use Rattle.core_state.specs.declared.change.Change.{Change}
use Rattle.core_state.specs.declared.entry.Entry.{Entry}
use Rattle.step_relation.specs.Given.{Answer, Given}
use Rattle.step_relation.specs.Orders.{Command}
use Rattle.step_relation.specs.Runs.{IsTied, Judges, Run, answer, goes_on}
use Rattle.step_relation.specs.Steps.{command, turn}
use Rattle.step_relation.specs.Turns.{Turn}
use Rattle.step_relation.specs.Unjudged.{unjudged}
use Rattle.next_laws.proofs.Worn.{call_not_worn, quiet_not_worn}
use Rattle.history_laws.proofs.tables.Puts.{contains_head}
use Rattle.history_examples.specs.Setting.{opening, registries}
use Rattle.history_examples.proofs.Worn.{all_small, unworn}
use Rattle.heat_plan.specs.declared.calls.Answered.TheVariants as reply

-- over any registries, by one of them
module _ (all : List Judges) (judges : Judges) (among : Contains all judges) (mid last : StateData) (cs : List Change)
    (before after : List Entry) (run : Run all opening.state mid before) (is : last ≡ applied cs mid) where
  -- a turn that is given no answer
  pub goes_quietly : (e : ℕ) (given : Given) → ((a : Answered) → given ≢ Answer a) → Turn mid e given cs after
      → all_small cs ≡ true → IsTied judges mid e given → Run all opening.state last (before ++ after)
  goes_quietly e given silent it fits tied = goes_on judges mid last cs before after _ run
      (turn e given it (quiet_not_worn mid e given cs after silent it (unworn cs fits))) among tied tt is refl

  -- a turn that is given one, and what it would do if the call failed
  pub goes_by_call : (e : ℕ) (a : Answered) (ds : List Change) (failed : List Entry) → Turn mid e (Answer a) cs after
      → Turn mid e (Answer reply.Failed) ds failed → all_small ds ≡ true → Run all opening.state last (before ++ after)
  goes_by_call e a ds failed it other fits = goes_on judges mid last cs before after _ run
      (turn e (Answer a) it (call_not_worn mid e ds failed other (unworn ds fits) a)) among (answer a) tt is refl

-- where nobody judges
module _ (mid last : StateData) (cs : List Change) (before after : List Entry)
    (run : Run registries opening.state mid before) (is : last ≡ applied cs mid) where
  pub by_command : Command mid cs after → all_small cs ≡ true → Run registries opening.state last (before ++ after)
  by_command it fits =
      goes_on unjudged mid last cs before after _ run (command it (unworn cs fits)) (contains_head unjudged []) tt tt is
      refl

  pub by_turn : (e : ℕ) (given : Given) → ((a : Answered) → given ≢ Answer a) → Turn mid e given cs after
      → all_small cs ≡ true → IsTied unjudged mid e given → Run registries opening.state last (before ++ after)
  by_turn = goes_quietly registries unjudged (contains_head unjudged []) mid last cs before after run is

  pub by_call : (e : ℕ) (a : Answered) (ds : List Change) (failed : List Entry) → Turn mid e (Answer a) cs after
      → Turn mid e (Answer reply.Failed) ds failed → all_small ds ≡ true
      → Run registries opening.state last (before ++ after)
  by_call = goes_by_call registries unjudged (contains_head unjudged []) mid last cs before after run is
