-- A draft's changes and entries are those of what the command lays.
use Rattle.std.proofs.Common.{◌≡◌, ◌∙◌, ℕ, List, [], ◌∷◌, refl}
use Rattle.heat_plan.specs.declared.phase.Status.TheVariants.{InProgress}
use Rattle.traversal_graph.specs.declared.shape.Node.{Node}
use Rattle.core_state.specs.State.{StateData}
use Rattle.core_state.specs.declared.change.Change.{Change}
use Rattle.core_state.specs.declared.entry.Entry.{Entry}
use Rattle.step_relation.specs.Commands.{Sets, laid_changes, laid_entries, settled_mark, settles_at_once, stack_set}
use Rattle.step_relation.specs.Freshness.{plan_of}
use Rattle.command_steps.specs.Answers.{IsLaying}
use Rattle.command_steps.specs.Layouts.{IsDraft, draft_changes, draft_entries, settle_mark, settles}
use Rattle.command_steps.specs.declared.draft.Draft.{Draft}
use Rattle.command_steps.proofs.Lasting.{unworn_laid}

settles-same : (nodes : List Node) (s : StateData) (name : List ℕ) (it : Sets)
    → settles nodes (stack_set s name it InProgress) ≡ settles_at_once nodes s name it
settles-same [] s name it = refl
settles-same (node ∷ nodes) s name it = refl

settle_mark-same : (nodes : List Node) (s : StateData) (name : List ℕ) (it : Sets)
    → settle_mark nodes it.actor (stack_set s name it InProgress) ≡ settled_mark nodes s name it
settle_mark-same [] s name it = refl
settle_mark-same (node ∷ nodes) s name it = refl

pub laying : (s : StateData) (name : List ℕ) (it : Sets) (draft : Draft)
    → IsDraft s name (plan_of it.plan).items it draft
    → (cs : List Change) → cs ≡ draft_changes draft → (es : List Entry) → es ≡ draft_entries draft
    → IsLaying s name it cs es
laying s name it draft d cs cs_are es es_are =
    let changes : draft_changes draft ≡ laid_changes s name (plan_of it.plan).items it d.lays =
    rw (d.next_are, d.stack_is, d.past_is, d.rows_are, d.graph_is, d.letters_are)
    (rw (settles-same d.lays.graph.nodes s name it) refl) in
    let entries : draft_entries draft ≡ laid_entries s name (plan_of it.plan).items it d.lays =
    rw (d.actor_is, d.stack_is, d.past_is, d.rows_are, d.graph_is, d.letters_are)
    (rw (settle_mark-same d.lays.graph.nodes s name it) refl) in
    record {
      lays = d.lays;
      changes = cs_are ∙ changes;
      entries = es_are ∙ entries;
      unworn = rw (cs_are ∙ changes) (unworn_laid s name (plan_of it.plan).items it d.lays d.numbers);
    }
