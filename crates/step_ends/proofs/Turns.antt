-- The turns of releases, failures and answers.
use Rattle.std.proofs.Common.{◌≤◌, ◌<◌, ◌+◌, ◌^◌, ℕ, List, [], ◌∷◌, ◌++◌, Option, refl, sym, subst, length, map}
use Rattle.std.specs.Prelude.{Contains}
use Rattle.std.proofs.lemmas.List.Elements.{Contains-append_left, Contains-append_right}
use Rattle.heat_plan.specs.declared.calls.Answered.{Answered}
use Rattle.heat_plan.specs.declared.calls.Request.{Request}
use Rattle.row_table.specs.declared.row.Row.{Row}
use Rattle.mail_table.specs.declared.mail.Job.{Job}
use Rattle.mail_table.specs.declared.mail.Letter.{Letter}
use Rattle.mail_table.specs.declared.mail.Stage.TheVariants.{Asking, Polling}
use Rattle.core_state.specs.State.{StateData}
use Rattle.core_state.specs.declared.change.Change.{Change}
use Rattle.core_state.specs.declared.change.Change.TheVariants as change
use Rattle.core_state.specs.declared.entry.Entry.{Entry}
use Rattle.core_state.specs.declared.entry.Why.{Why}
use Rattle.core_state.specs.declared.stack.Stack.{Stack}
use Rattle.step_relation.specs.Asks.{Asks, Calls, Polls, Refuses, failed_changes, failed_entries}
use Rattle.step_relation.specs.Given.{Answer, Given, answers}
use Rattle.step_relation.specs.Moves.{Move, ask_failed, poll_failed}
use Rattle.step_relation.specs.Rows.{failed_row}
use Rattle.step_relation.specs.Turns.{IsWorn, Turn, WearsOut, key, letter, plain, rolls}
use Rattle.step_relation.specs.Writes.{call_entry, draw_letters, mark_failed}
use Rattle.history_laws.proofs.tables.Puts.{contains_head, contains_there}
use Rattle.step_ends.specs.Answers.{IsCall}
use Rattle.step_ends.specs.Falls.{IsEnded, IsFallen, plain as ended_plain, rolls as ended_rolls}
use Rattle.step_ends.specs.declared.falling.Failure.{Failure}

-- a change among others wears them out
pub worn_behind : (xs ys : List Change) → IsWorn ys → IsWorn (xs ++ ys)
worn_behind xs ys w = record {
  change = w.change;
  among = Contains-append_right xs ys w.change w.among;
  overflows = w.overflows;
}

pub worn_before : (xs ys : List Change) → IsWorn xs → IsWorn (xs ++ ys)
worn_before xs ys w = record {
  change = w.change;
  among = Contains-append_left xs ys w.change w.among;
  overflows = w.overflows;
}

-- what is behind the numbers that are drawn
pub drawn_keeps : (next : _) (letters : List Letter) (rest : List Change) (c : Change) → Contains rest c
    → Contains (draw_letters next letters rest) c
drawn_keeps next [] rest c at = at
drawn_keeps next (l ∷ ls) rest c at = contains_there _ c rest at

-- the key of the row that fails can't rise
pub failure_worn : (s : StateData) (e : ℕ) (r : Row) (letters : List Letter) (failed : Option Stack)
    → 2 ^ 62 ≤ r.key + 1
    → IsWorn (failed_changes s e r letters failed)
failure_worn s e r letters failed high = record {
  change = change.PutRow (failed_row r);
  among = drawn_keeps s.next letters _ _ (contains_head (change.PutRow (failed_row r))
      (change.EndJob e ∷ (map change.Send letters ++ mark_failed failed)));
  overflows = key (failed_row r) high;
}

-- no number is left for the letters
pub letters_worn : (s : StateData) (l : Letter) (ls : List Letter) (rest : List Change)
    → 2 ^ 62 < s.next.letter + length (l ∷ ls)
    → IsWorn (draw_letters s.next (l ∷ ls) rest)
letters_worn s l ls rest over = record {
  change = _;
  among = contains_head _ _;
  overflows = letter _ over;
}

-- a failure is a turn of the move by which it was told
pub ended_turn : (s : StateData) (e : ℕ) (given : Given) (r : Row) (letters : List Letter)
    (failed : Option Stack) (why : Failure)
    (cs : List Change) (es : List Entry)
    → Move s e given failed (failed_changes s e r letters failed)
    (why.call ∷ failed_entries e r letters failed why.reason)
    → IsEnded s e r letters failed why cs es → Turn s e given cs es
ended_turn s e given r letters failed why cs es move (ended_plain as_it_is c d) =
    subst (λ (x : List Change). Turn s e given x es) (sym c)
    (subst (λ (y : List Entry). Turn s e given (failed_changes s e r letters failed) y) (sym d)
    (plain failed move as_it_is))
ended_turn s e given r letters failed why cs es move (ended_rolls st last lasts is due follows c d) =
    rolls st _ last _ lasts (subst (λ (f : Option Stack). Move s e given f (failed_changes s e r letters failed)
    (why.call ∷ failed_entries e r letters failed why.reason)) is move) due follows c d

-- the same failure, told by another call
pub told_otherwise : (s : StateData) (e : ℕ) (j : Job) (r : Row) (why other : Failure) (cs : List Change)
    (es : List Entry)
    → IsFallen s e j r why cs es → (fs : List Entry) × IsFallen s e j r other cs fs
told_otherwise s e j r why other cs es k = by k.ended
  where
    by : IsEnded s e r k.letters k.failed why cs es → (fs : List Entry) × IsFallen s e j r other cs fs
    by (ended_plain as_it_is c d) =
        (_, record { letters = k.letters; failed = k.failed; falls = k.falls; ended = ended_plain as_it_is c refl })
    by (ended_rolls st last lasts is due follows c d) = (
      _,
      record {
        letters = k.letters;
        failed = k.failed;
        falls = k.falls;
        ended = ended_rolls st last lasts
            is due follows c refl;
      },
    )

-- of an ask, and of a poll
pub ask_turn : (s : StateData) (e : ℕ) (j : Job) (r : Row) (asked : Request) (given : Answered) (reason : Why)
    (cs : List Change) (es : List Entry)
    → IsCall s e Asking j r → Asks r asked → Refuses r.act asked given reason
    → IsFallen s e j r (record { call = call_entry e r asked given; reason = reason }) cs es
    → Turn s e (Answer given) cs es
ask_turn s e j r asked given reason cs es call asks refuses k =
    let calls : Calls s e Asking = record { job = j; row = r; works = call.works; found = call.found } in
    ended_turn s e (Answer given) r k.letters k.failed _ cs es
    (ask_failed calls asked given reason k.letters k.failed _ _ asks refuses k.falls refl refl) k.ended

pub poll_turn : (s : StateData) (e : ℕ) (j : Job) (r : Row) (asked : Request) (given : Answered)
    (reason : Why) (cs : List Change) (es : List Entry)
    → IsCall s e Polling j r → Polls r asked → Refuses r.act asked given reason
    → IsFallen s e j r (record { call = call_entry e r asked given; reason = reason }) cs es
    → Turn s e (Answer given) cs es
poll_turn s e j r asked given reason cs es call asks refuses k =
    let calls : Calls s e Polling = record { job = j; row = r; works = call.works; found = call.found } in
    ended_turn s e (Answer given) r k.letters k.failed _ cs es
    (poll_failed calls asked given reason k.letters k.failed _ _ asks refuses k.falls refl refl) k.ended

-- a turn under one answer whose changes are worn wears the call out under each
pub call_wears : (s : StateData) (e : ℕ) (a b : Answered) (cs : List Change) (es : List Entry)
    → Turn s e (Answer a) cs es → IsWorn cs
    → WearsOut s e (Answer b)
call_wears s e a b cs es turn worn = record {
  other = Answer a;
  like = answers b a;
  changes = cs;
  entries = es;
  turn = turn;
  worn = worn;
}
