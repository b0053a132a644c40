-- What was prepared for the begin that is next is what its item resolves to.
use Rattle.std.proofs.Common.{List, Option, refl, subst, sym, ℕ, ◌∙◌, ◌≡◌}
use Rattle.std.specs.Prelude.{Some}
use Rattle.heat_value.specs.Data.{Members}
use Rattle.heat_value.specs.declared.path.Step.{Step}
use Rattle.heat_plan.specs.Plans.{PlanData}
use Rattle.core_state.specs.State.{StateData}
use Rattle.core_state.specs.declared.change.Change.{Change}
use Rattle.core_state.specs.declared.entry.Entry.{Entry}
use Rattle.core_state.specs.declared.stack.Stack.{Stack}
use Rattle.eval_words.specs.Resolve.{Fault, Props, Resolved, resolve}
use Rattle.type_catalog.specs.declared.effect.Effect.{Effect}
use Rattle.step_relation.specs.Begins.{Begins}
use Rattle.step_relation.specs.Freshness.{plan_of}
use Rattle.step_relation.specs.Given as by
use Rattle.step_relation.specs.Given.{Faulted, Given, IsLike, Prepared}
use Rattle.step_relation.specs.Runs as tied
use Rattle.step_relation.specs.Runs.{IsTied, ResolvesTo}
use Rattle.step_relation.specs.Turns.{Turn, WearsOut}
use Rattle.step_relation.specs.Unjudged.{unjudged}
use Rattle.next_laws.proofs.Parts.{Kind, Part, faults, placed, prepares}
use Rattle.next_laws.proofs.Turns.{by_move}
use Rattle.check_steps.specs.AtUpdate.{AtUpdate}
use Rattle.check_steps.specs.Gives.{given_of}
use Rattle.check_steps.specs.Looks.{IsBegin}
use Rattle.check_steps.specs.Parts.{read_of}
use Rattle.check_steps.specs.Prepares.{IsBeginPrepared, Resolves}
use Rattle.check_steps.specs.declared.looks.BeginWork.{BeginWork}
use Rattle.check_steps.specs.declared.prepared.Prepared.TheVariants as prepared
use Rattle.check_steps.specs.declared.prepared.Prepared.{Prepared as Given_answer}
use Rattle.check_steps.proofs.Seeing.{plan_kept, read_one}

module _ (s : StateData) (e : ℕ) where
  -- a turn that was given properties, or a fault of them, is a begin
  begins_prepared : (kind : Kind) (props : Members) (effect : Effect) (f : Option Stack) (cs : List Change)
      (es : List Entry) → Part s e kind (Prepared props effect) f cs es → Begins s e
  begins_prepared _ _ _ _ cs es (prepares k props effect fate _ _ x c d) = k

  begins_faulted : (kind : Kind) (code : List ℕ) (path : List Step) (f : Option Stack) (cs : List Change)
      (es : List Entry) → Part s e kind (Faulted code path) f cs es → Begins s e
  begins_faulted _ _ _ _ cs es (faults k code path failed _ _ falls c d) = k

  with_props : (props : Members) (effect : Effect) (cs : List Change) (es : List Entry)
      → Turn s e (Prepared props effect) cs es → Begins s e
  with_props props effect cs es t =
      let a = by_move s e (Prepared props effect) cs es t in
      let p = placed s e (Prepared props effect) a.failed a.first a.firsts a.move in
      begins_prepared p.kind props effect a.failed a.first a.firsts p.part

  with_fault : (code : List ℕ) (path : List Step) (cs : List Change) (es : List Entry)
      → Turn s e (Faulted code path) cs es → Begins s e
  with_fault code path cs es t =
      let a = by_move s e (Faulted code path) cs es t in
      let p = placed s e (Faulted code path) a.failed a.first a.firsts a.move in
      begins_faulted p.kind code path a.failed a.first a.firsts p.part

  abbrev at_of : (k : Begins s e) → AtUpdate s e k.job
  at_of k = record {
    stack = k.stack;
    graph = k.graph;
    name = k.name;
    chosen = k.chosen;
    item = k.item;
    row = k.row;
    point = k.point;
    works = k.works;
    names = k.names;
    asked = k.asked;
    found = k.found;
    kept = k.kept;
    its_point = k.its_point;
  }

  -- the begin reads what was looked at
  module _ (w : BeginWork) (b : IsBegin s e w) (k : Begins s e) where
    reads : (p : PlanData) → k.stack.plan ≡ Some p → w ≡ read_of p k.item k.point k.row
    reads p its = b.reads ∙ read_one s e b.job k.job b.at (at_of k) b.plan p b.its_plan its

    resolves_as : (p : PlanData) → k.stack.plan ≡ Some p → (result : Resolved)
        → Resolves p k.item k.point.inputs result
        → ResolvesTo s e k result
    resolves_as p its result r = record {
      known = r.known;
      known_are = r.known_are;
      result_is = subst (λ (o : Option PlanData). resolve (plan_of o) k.item r.known ≡ result) (sym its) r.result_is;
    }

    tied_as : (p : PlanData) → k.stack.plan ≡ Some p → (it : Given_answer)
        → IsBeginPrepared (read_of p k.item k.point k.row) it
        → IsTied unjudged s e (given_of it)
    tied_as p its (prepared.Props props effect) g =
        tied.props k props effect (resolves_as p its (Props props) g.0) g.1
    tied_as p its (prepared.Fault code path) g = tied.fault k code path (resolves_as p its (Fault code path) g)
    tied_as p its prepared.Plain g = absurd g
    tied_as p its prepared.Memory g = tied.nothing

    tied_by : (it : Given_answer) → IsBeginPrepared w it → IsTied unjudged s e (given_of it)
    tied_by it g =
        let its : k.stack.plan ≡ Some b.plan = plan_kept s e b.job k.job b.at (at_of k) b.plan b.its_plan in
        tied_as b.plan its it (subst (λ (x : BeginWork). IsBeginPrepared x it) (reads b.plan its) g)

  -- so is each turn of it
  module _ (w : BeginWork) (b : IsBegin s e w) where
    pub tied_turn : (it : Given_answer) → IsBeginPrepared w it → (cs : List Change) (es : List Entry)
        → Turn s e (given_of it) cs es → IsTied unjudged s e (given_of it)
    tied_turn (prepared.Props props effect) g cs es t =
        tied_by w b (with_props props effect cs es t) (prepared.Props props effect) g
    tied_turn (prepared.Fault code path) g cs es t =
        tied_by w b (with_fault code path cs es t) (prepared.Fault code path) g
    tied_turn prepared.Plain g cs es t = absurd g
    tied_turn prepared.Memory g cs es t = tied.nothing

    -- a begin isn't given another
    like_one : (it : Given_answer) (other : Given) → IsBeginPrepared w it → IsLike (given_of it) other
        → given_of it ≡ other
    like_one (prepared.Props props effect) _ g (by.same _) = refl
    like_one (prepared.Fault code path) _ g (by.same _) = refl
    like_one prepared.Plain _ g is = absurd g
    like_one prepared.Memory _ g (by.same _) = refl

    pub tied_wearing : (it : Given_answer) → IsBeginPrepared w it → WearsOut s e (given_of it)
        → IsTied unjudged s e (given_of it)
    tied_wearing it g wears = tied_turn it g wears.changes wears.entries
        (subst (λ (o : Given). Turn s e o wears.changes wears.entries) (sym (like_one it wears.other g wears.like))
        wears.turn)
