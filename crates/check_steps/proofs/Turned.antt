-- From what a step made to the engine's turn.
use Rattle.std.proofs.Common.{◌≡◌, ◌≢◌, Bool, List, None, Ok, Err, false, refl, sym, subst, true}
use Rattle.std.proofs.lemmas.Bool.{both_ways}
use Rattle.std.specs.Prelude.{IfErr, IfOk, Result, ℕ}
use Rattle.heat_value.specs.Data.{Members}
use Rattle.heat_value.specs.declared.path.Step.{Step}
use Rattle.heat_plan.specs.declared.calls.Answered.{Answered}
use Rattle.heat_plan.specs.declared.refusal.Refusal.{Refusal}
use Rattle.core_state.specs.State.{StateData}
use Rattle.core_state.specs.declared.change.Change.{Change}
use Rattle.core_state.specs.declared.entry.Entry.{Entry}
use Rattle.core_state.specs.declared.made.Made.{Made}
use Rattle.type_catalog.specs.declared.effect.Effect.{Effect}
use Rattle.step_relation.specs.Given.{Answer, Faulted, Given, Nothing, Prepared, same}
use Rattle.step_relation.specs.Moves.{Move}
use Rattle.step_relation.specs.Turns.{IsWorn, Turn, WearsOut, plain, unfailed}
use Rattle.step_parts.specs.Turns.{IsTurn, IsTurnRefusal}
use Rattle.step_parts.specs.Turns as refusal
use Rattle.next_laws.proofs.Worn.{quiet_not_worn}
use Rattle.check_steps.specs.Makes.{Makes, MakesNone, memory, worn}

-- the changes of the engine's turn are worn
pub wears_out : (s : StateData) (e : ℕ) (given : Given) (cs : List Change) (es : List Entry) → Turn s e given cs es →
    IsWorn cs
    → WearsOut s e given
wears_out s e given cs es turn out =
    record { other = given; like = same given; changes = cs; entries = es; turn = turn; worn = out }

-- what was made is this turn, which is given no answer
pub turn_made : (s : StateData) (e : ℕ) (given : Given) (cs : List Change) (es : List Entry) (r : Result Made Refusal)
    → ((a : Answered) → given ≢ Answer a) → Turn s e given cs es → IfOk r (Makes cs es) → IfOk r (IsTurn s e given)
turn_made s e given cs es (Ok m) quiet turn made = record {
  turn = subst (λ (x : List Change). Turn s e given x m.entries) (sym made.changes)
      (subst (λ (y : List Entry). Turn s e given cs y) (sym made.entries) turn);
  lasts = quiet_not_worn s e given cs es quiet turn made.lasts;
}
turn_made s e given cs es (Err x) quiet turn made = made

-- what was refused is worn out by this turn
pub turn_refused : (s : StateData) (e : ℕ) (given : Given) (cs : List Change) (es : List Entry)
    (r : Result Made Refusal)
    → Turn s e given cs es → IfErr r (MakesNone cs) → IfErr r (IsTurnRefusal s e given)
turn_refused s e given cs es (Ok m) turn none = none
turn_refused s e given cs es (Err x) turn (memory is) = refusal.memory is
turn_refused s e given cs es (Err x) turn (worn is out) = refusal.worn is (wears_out s e given cs es turn out)

-- the same of a move that marks nothing
pub made_turn : (s : StateData) (e : ℕ) (given : Given) (cs : List Change) (es : List Entry) (r : Result Made Refusal)
    → ((a : Answered) → given ≢ Answer a) → Move s e given None cs es → IfOk r (Makes cs es) → IfOk r (IsTurn s e given)
made_turn s e given cs es r quiet move made = turn_made s e given cs es r quiet (plain None move unfailed) made

pub refused_turn : (s : StateData) (e : ℕ) (given : Given) (cs : List Change) (es : List Entry)
    (r : Result Made Refusal)
    → Move s e given None cs es → IfErr r (MakesNone cs) → IfErr r (IsTurnRefusal s e given)
refused_turn s e given cs es r move none = turn_refused s e given cs es r (plain None move unfailed) none

-- nothing, and what was prepared, is no answer
abbrev is_answer : Given → Bool
is_answer (Answer a) = true
is_answer Nothing = false
is_answer (Prepared props effect) = false
is_answer (Faulted code path) = false

pub nothing_quiet : (a : Answered) → Nothing ≢ Answer a
nothing_quiet a is = both_ways (is_answer (Answer a)) (subst (λ (g : Given). is_answer g ≡ false) is refl) refl

pub prepared_quiet : (props : Members) (effect : Effect) (a : Answered) → Prepared props effect ≢ Answer a
prepared_quiet props effect a is = both_ways (is_answer (Answer a))
    (subst (λ (g : Given). is_answer g ≡ false) is refl) refl

pub faulted_quiet : (code : List ℕ) (path : List Step) (a : Answered) → Faulted code path ≢ Answer a
faulted_quiet code path a is = both_ways (is_answer (Answer a)) (subst (λ (g : Given). is_answer g ≡ false) is refl)
    refl
