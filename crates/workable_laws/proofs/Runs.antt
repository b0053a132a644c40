-- Every run from an admitted image stays workable, and each of its live engines has a next step.
use Rattle.std.proofs.Common.{◌≢◌, ◌⊎◌, inl, inr, ℕ, List, [], sym, subst}
use Rattle.heat_plan.specs.declared.calls.Answered.{Answered}
use Rattle.core_state.specs.Changes.{applied}
use Rattle.core_state.specs.State.{StateData}
use Rattle.core_state.specs.declared.change.Change.{Change}
use Rattle.core_state.specs.declared.entry.Entry.{Entry}
use Rattle.step_relation.specs.Given.{Answer, Faulted, Given, Nothing, Prepared}
use Rattle.step_relation.specs.Runs.{Judges, Run, begins, goes_on}
use Rattle.step_relation.specs.Steps.{Step, turn}
use Rattle.step_relation.specs.Turns.{Turn, WearsOut}
use Rattle.step_relation.specs.Opening.{Opening}
use Rattle.next_laws.proofs.Turns.{turn_one}
use Rattle.next_laws.proofs.Wearing.{worn_or_not}
use Rattle.next_laws.proofs.Worn.{call_not_worn, quiet_not_worn}
use Rattle.next_laws.proofs.Kinship.{suits_is_one_kind}
use Rattle.next_laws.proofs.Nexts.{next_exists}
use Rattle.next_laws.proofs.Turning.{turn_exists}
use Rattle.next_laws.specs.Suits.{Suits, asks, failed, polls}
use Rattle.workable_laws.specs.Admitted.{restarted}
use Rattle.workable_laws.specs.Laws.{RunsHaveNext, RunsStayWorkable, WorkableHasNext}
use Rattle.workable_laws.specs.Workable.{Workable}
use Rattle.workable_laws.proofs.Openings.{has_work}
use Rattle.workable_laws.proofs.Restarts.{restarted_workable}
use Rattle.workable_laws.proofs.Stepped.{step_workable}
use Rattle.heat_plan.specs.declared.calls.Answered.TheVariants as answer
use Rattle.step_relation.specs.Given as like

run_workable : (registries : List Judges) (o : Opening) (s : StateData) (h : List Entry) → Workable o [] o.state
    → Run registries o.state s h → Workable o h s
run_workable registries o s h w (begins _ _ is none) =
    subst (λ (t : StateData). Workable o h t) (sym is) (subst (λ (x : List Entry). Workable o x o.state) (sym none) w)
run_workable registries o s h w (goes_on judges mid _ cs before after _ run step among tied closes is made) =
    subst (λ (t : StateData). Workable o h t) (sym is)
    (subst (λ (x : List Entry). Workable o x (applied cs mid)) (sym made)
    (step_workable o before mid (run_workable registries o mid before w run) cs after step))

pub runs_stay : RunsStayWorkable
runs_stay registries o count s h a run = run_workable registries _ s h (restarted_workable o count a) run

-- what suits a call suits it as failed too
fails_too : (s : StateData) (e : ℕ) (a : Answered) → Suits s e (Answer a) → Suits s e (Answer answer.Failed)
fails_too s e a (asks k asked _ it may) = asks k asked answer.Failed it (failed asked)
fails_too s e a (polls k asked _ it may) = polls k asked answer.Failed it (failed asked)

module _ (s : StateData) (e : ℕ) where
  -- a turn that is given no answer is worn out by its own changes or is a step
  quietly : (given : Given) (cs : List Change) (es : List Entry) → ((a : Answered) → given ≢ Answer a)
      → Turn s e given cs es
      → WearsOut s e given ⊎ Step s cs es
  quietly given cs es quiet t = elim (worn_or_not cs) [
    | inl worn ↦
        inl (record { other = given; like = like.same given; changes = cs; entries = es; turn = t; worn = worn })
    | inr lasts ↦ inr (turn e given t (quiet_not_worn s e given cs es quiet t lasts))
  ]

  -- one that is given an answer, by what its failure would change
  called : (a : Answered) (cs ds : List Change) (es fs : List Entry) → Turn s e (Answer a) cs es
      → Turn s e (Answer answer.Failed) ds fs
      → WearsOut s e (Answer a) ⊎ Step s cs es
  called a cs ds es fs t u = elim (worn_or_not ds) [
    | inl worn ↦ inl (record {
      other = Answer answer.Failed;
      like = like.answers a answer.Failed;
      changes = ds;
      entries = fs;
      turn = u;
      worn = worn;
    })
    | inr lasts ↦ inr (turn e (Answer a) t (call_not_worn s e ds fs u lasts a))
  ]

  wears_or_steps : (given : Given) (cs : List Change) (es : List Entry) → Suits s e given → Turn s e given cs es
      → WearsOut s e given ⊎ Step s cs es
  wears_or_steps Nothing cs es suits t = quietly Nothing cs es (λ a is. cc) t
  wears_or_steps (Prepared props effect) cs es suits t = quietly (Prepared props effect) cs es (λ a is. cc) t
  wears_or_steps (Faulted code path) cs es suits t = quietly (Faulted code path) cs es (λ a is. cc) t
  wears_or_steps (Answer a) cs es suits t =
      let (ds, fs, u) = turn_exists s e (Answer answer.Failed) (fails_too s e a suits) in called a cs ds es fs t u

pub workable_next : WorkableHasNext
workable_next o h s e w live = record {
  next = next_exists s e (has_work o h s e w live) live;
  steps = λ given suits. let (cs, es, t) = turn_exists s e given suits in
      (cs, es, t, wears_or_steps s e given cs es suits t);
  one = λ given cs ds es fs t u. turn_one s e given cs ds es fs t u;
  kin = λ a b x y. suits_is_one_kind s e a b x y;
}

pub runs_have_next : RunsHaveNext
runs_have_next registries o count s h a run e live =
    workable_next (restarted o count) h s e (runs_stay registries o count s h a run) live
