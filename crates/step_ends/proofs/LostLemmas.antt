-- A poll's answer that is told alone is a step.
use Rattle.std.proofs.Common.{◌≡◌, ◌≢◌, ◌∙◌, ℕ, List, [], ◌∷◌, ◌++◌, None, Option, Some, refl, sym, ap, subst}
use Rattle.heat_plan.specs.declared.calls.Answered.TheVariants as answer
use Rattle.heat_plan.specs.declared.calls.Request.TheVariants as request
use Rattle.heat_plan.specs.declared.phase.Act.TheVariants.{Delete}
use Rattle.row_table.specs.Rows.{row_at}
use Rattle.row_table.specs.declared.row.Row.{Row}
use Rattle.mail_table.specs.declared.mail.Job.{Job}
use Rattle.mail_table.specs.declared.mail.Letter.{Letter}
use Rattle.mail_table.specs.declared.mail.Stage.TheVariants.{Polling}
use Rattle.core_state.specs.Changes.{applied}
use Rattle.core_state.specs.State.{StateData}
use Rattle.core_state.specs.declared.change.Change.{Change}
use Rattle.core_state.specs.declared.entry.Entry.{Entry}
use Rattle.core_state.specs.declared.entry.Why.TheVariants as why
use Rattle.core_state.specs.declared.stack.Stack.{Stack}
use Rattle.step_relation.specs.Asks.{Calls, Falls, by_code, failed_changes, polls}
use Rattle.step_relation.specs.Given.{Answer}
use Rattle.step_relation.specs.Moves.{poll_ready}
use Rattle.step_relation.specs.Rows.{token_of}
use Rattle.step_relation.specs.Steps.{Step, unstored}
use Rattle.step_relation.specs.Turns.{FollowsFailure, IsDue, IsPlain, IsWorn, Turn, plain, unfailed}
use Rattle.step_relation.specs.Writes.{call_entry}
use Rattle.next_laws.proofs.Parts.{Kind, Part, placed, refuses}
use Rattle.next_laws.proofs.Readings.{works_one}
use Rattle.next_laws.proofs.Turns.{Whole, by_move, follows, stops}
use Rattle.next_laws.proofs.Worn.{call_not_worn}
use Rattle.history_laws.proofs.tables.Rows.{same_some}
use Rattle.step_ends.specs.Falls.{IsEnded, plain as ended_plain, rolls as ended_rolls}
use Rattle.step_ends.specs.Lost.{LostAnswerIsAStep, broken, ready}
use Rattle.step_ends.specs.declared.falling.Failure.{Failure}
use Rattle.step_ends.proofs.Turns.{poll_turn}

-- the failure of the call that was made
abbrev FallsAs : (s : StateData) (e : ℕ) → Calls s e Polling → Option Stack → List Change → Type 0
FallsAs s e k f cs = (letters : List Letter) × Falls s k.job letters f × (cs ≡ failed_changes s e k.row letters f)

falls_as : (s : StateData) (e : ℕ) (k : Calls s e Polling) (kind : Kind) (f : Option Stack) (cs : List Change)
    (es : List Entry)
    → Part s e kind (Answer answer.Failed) f cs es → FallsAs s e k f cs
falls_as s e k kind f cs es (refuses stage q asked given reason ls _ _ _ x r u c d) =
    let jobs : q.job ≡ k.job = works_one s e stage Polling q.job k.job q.works k.works in
    let rows : q.row ≡ k.row = same_some q.row k.row (subst (λ
    (j : Job). row_at s.rows j.row ≡ Some q.row) jobs q.found) k.found in
    (ls, subst (λ (j : Job). Falls s j ls f) jobs u, c ∙ ap (λ (r : Row). failed_changes s e r ls f) rows)

-- told by another call
ended_as : (s : StateData) (e : ℕ) (r : Row) (letters : List Letter) (f : Option Stack) (reason : Failure)
    (first cs : List Change) (firsts es : List Entry)
    → first ≡ failed_changes s e r letters f → Whole s e f first firsts cs es
    → (fs : List Entry) × IsEnded s e r letters f reason cs fs
ended_as s e r letters f reason first cs firsts es is (stops p c d) =
    (_, ended_plain (subst (λ (l : List Change). IsPlain (applied l s) f) is p) (c ∙ is) refl)
ended_as s e r letters f reason first cs firsts es is (follows st last lasts at due k c d) = (
  _,
  ended_rolls st last lasts at (subst (λ (l : List Change). IsDue (applied l s) st) is due)
      (subst (λ (l : List Change). FollowsFailure (applied l s) e st last lasts) is k) (c
      ∙ ap (λ (l : List Change). l ++ last) is) refl,
)

-- it changes something
some_changes : (s : StateData) (e : ℕ) (r : Row) (letters : List Letter) (f : Option Stack)
    (last : List Change) → failed_changes s e r letters f ++ last ≢ []
some_changes s e r [] f last is = cc
some_changes s e r (l ∷ ls) f last is = cc

alone_changes : (s : StateData) (e : ℕ) (r : Row) (letters : List Letter) (f : Option Stack)
    → failed_changes s e r letters f ≢ []
alone_changes s e r [] f is = cc
alone_changes s e r (l ∷ ls) f is = cc

broken_step : (s : StateData) (e : ℕ) (k : Calls s e Polling) (code : List ℕ) (letters : List Letter)
    (f : Option Stack) (cs : List Change) (es fs : List Entry)
    → k.row.act ≢ Delete → Falls s k.job letters f → Turn s e (Answer answer.Failed) cs fs → ¬ IsWorn cs
    → IsEnded s e k.row letters f (record {
      call = call_entry e k.row request.Poll
          (answer.Broken code);
      reason = why.Broken k.row.act code;
    }) cs es
    → Step s [] (call_entry e k.row request.Poll (answer.Broken code) ∷ [])
broken_step s e k code letters f cs es fs kept falls t unworn ended = by ended
  where
    reason : Failure
    reason = record { call = call_entry e k.row request.Poll (answer.Broken code); reason = why.Broken k.row.act code }

    turn : Turn s e (Answer (answer.Broken code)) cs es
    turn = poll_turn s e k.job k.row request.Poll (answer.Broken code)
        (why.Broken k.row.act code) cs es (record { works = k.works; found = k.found })
        (polls kept) (by_code code) (record { letters = letters; failed = f; falls = falls; ended = ended })

    by : IsEnded s e k.row letters f reason cs es
        → Step s [] (call_entry e k.row request.Poll (answer.Broken code) ∷ [])
    by (ended_plain p c d) = unstored e (answer.Broken code) cs es _ turn
        (λ none. alone_changes s e k.row letters f (sym c ∙ none))
        (call_not_worn s e cs fs t unworn (answer.Broken code))
        (record { rest = _; entries = d; is_call = (token_of k.row, request.Poll, answer.Broken code, refl) }) refl refl
    by (ended_rolls st last lasts at due behind c d) = unstored e (answer.Broken code) cs es _ turn
        (λ none. some_changes s e k.row letters f last (sym c
        ∙ none)) (call_not_worn s e cs fs t unworn (answer.Broken code))
        (record { rest = _; entries = d; is_call = (token_of k.row, request.Poll, answer.Broken code, refl) }) refl refl

pub lost_is_step : LostAnswerIsAStep
lost_is_step s e k given kept (ready facts) cs es t unworn =
    unstored e (answer.Ready facts) _ _ _ (plain None (poll_ready k facts _ _ kept refl refl) unfailed) (λ none. cc)
    (call_not_worn s e cs es t unworn (answer.Ready facts))
    (record { rest = _; entries = refl; is_call = (token_of k.row, request.Poll, answer.Ready facts, refl) }) refl refl
lost_is_step s e k given kept (broken code) cs es t unworn =
    let m = by_move s e (Answer answer.Failed) cs es t in
    let p = placed s e _ m.failed m.first m.firsts m.move in
    let (letters, falls, is) = falls_as s e k p.kind m.failed m.first m.firsts p.part in
    let (fs, ended) = ended_as s e k.row letters m.failed _ m.first cs m.firsts es is m.whole in
    broken_step s e k code letters m.failed cs fs es kept falls t unworn ended
