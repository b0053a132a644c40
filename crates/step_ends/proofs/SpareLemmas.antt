-- Where enough numbers are left no answer of a call wears anything out.
use Rattle.std.proofs.Common.{◌≡◌, ◌∙◌, inl, ◌≤◌, ◌<◌, ◌+◌, ◌^◌, ◌++◌, ℕ, List, [], ◌∷◌, None, Option, Some, length, map, refl, sym, ap, subst, arith}
use Rattle.std.proofs.lemmas.Option.{same_Some}
use Rattle.heat_plan.specs.declared.calls.Answered.{Answered}
use Rattle.heat_plan.specs.declared.phase.Status.TheVariants.{Failed}
use Rattle.row_table.specs.Rows.{row_at}
use Rattle.row_table.specs.declared.row.Row.{Row}
use Rattle.mail_table.specs.declared.mail.Job.{Job}
use Rattle.mail_table.specs.declared.mail.Letter.{Letter}
use Rattle.mail_table.specs.declared.mail.Stage.{Stage}
use Rattle.core_state.specs.Changes.{applied}
use Rattle.core_state.specs.State.{StateData}
use Rattle.core_state.specs.declared.change.Change.{Change}
use Rattle.core_state.specs.declared.change.Change.TheVariants.{DropRow, EndJob, PutJob, PutRow, PutStack, Send}
use Rattle.core_state.specs.declared.entry.Entry.{Entry}
use Rattle.core_state.specs.declared.numbers.Numbers.{Numbers}
use Rattle.core_state.specs.declared.stack.Stack.{Stack}
use Rattle.step_relation.specs.Asks.{Calls, Falls, failed_changes, marked, marks, overrun}
use Rattle.step_relation.specs.Given.{Answer, Given, IsLike, answers, same}
use Rattle.step_relation.specs.Orders.{row_limit}
use Rattle.step_relation.specs.Resends.{Resends, cleanup, nobody, update}
use Rattle.step_relation.specs.Rows.{failed_row}
use Rattle.step_relation.specs.Turns.{FollowsFailure, IsDue, IsWorn, Overflows, Turn, key}
use Rattle.step_relation.specs.Writes.{draw_letters, mark_failed, past_letters}
use Rattle.command_steps.specs.Layouts.{HasNumbers}
use Rattle.command_steps.proofs.Few.{rollback_lasts}
use Rattle.command_steps.proofs.Lasting.{Lasting, lasting-append, lasting-numbers, lasting-sends, unworn}
use Rattle.history_laws.proofs.tables.Rows.{same_some, stack_here}
use Rattle.next_laws.proofs.Parts.{Kind, Part, begins, goes, placed, readies, refuses, waits}
use Rattle.next_laws.proofs.Turns.{Whole, by_move, follows, stops}
use Rattle.step_ends.specs.Answers.{CallLasts, IsCall}
use Rattle.step_ends.specs.Spares.{HasSpare}
use Rattle.step_ends.proofs.Fallen.{unworn_both}

-- ---- changes that raise no key too far and draw no number past the last

row_fits : (r : Row) → r.key < 2 ^ 62 → ¬ Overflows (PutRow r)
row_fits r lt (key _ past) = omega (arith, lt, past)

job_fits : (j : Job) → ¬ Overflows (PutJob j)
job_fits j o = elim o [ ]

end_fits : (e : ℕ) → ¬ Overflows (EndJob e)
end_fits e o = elim o [ ]

drop_fits : (n : ℕ) → ¬ Overflows (DropRow n)
drop_fits n o = elim o [ ]

stack_fits : (st : Stack) → ¬ Overflows (PutStack st)
stack_fits st o = elim o [ ]

by_changes : (cs ds : List Change) → cs ≡ ds → ¬ IsWorn ds → ¬ IsWorn cs
by_changes cs ds is fits w = fits (subst IsWorn is w)

-- at most one letter goes again
resent_few : (s : StateData) (name : List ℕ) (n : ℕ) (letters : List Letter) → Resends s name n letters → length letters ≤ 1
resent_few s name n letters (update st g i has is) = omega arith
resent_few s name n letters (cleanup st g i has not is) = omega arith
resent_few s name n letters (nobody not none) = omega arith

letters_few : (s : StateData) (j : Job) (letters : List Letter) (f : Option Stack) → Falls s j letters f → length letters ≤ 1
letters_few s j letters f (overrun ls over resends) = resent_few s j.letter.stack j.row ls resends
letters_few s j letters f (marked fresh not) = omega arith
letters_few s j letters f (marks fresh running) = omega arith

marked_lasting : (f : Option Stack) → Lasting (mark_failed f)
marked_lasting None = tt
marked_lasting (Some st) = (stack_fits (record st { status = Failed }), tt)

drawn_lasting : (next : Numbers) (letters : List Letter) (rest : List Change) → HasNumbers next 0 row_limit row_limit
    → length letters ≤ 1 → Lasting rest → Lasting (draw_letters next letters rest)
drawn_lasting next [] rest spare few lasting = lasting
drawn_lasting next (l ∷ ls) rest spare few lasting = (
  lasting-numbers (past_letters next (length (l ∷ ls))) (omega (arith, spare.stacks_fit)) (omega (arith, spare.trav_fits))
      (omega (arith, spare.rows_fit)) spare.engine_fits (omega (arith, spare.letters_fit, few)),
  lasting,
)

failed_unworn : (s : StateData) (e : ℕ) (r : Row) (letters : List Letter) (f : Option Stack) → HasSpare s r
    → length letters ≤ 1 → ¬ IsWorn (failed_changes s e r letters f)
failed_unworn s e r letters f spare few = unworn (failed_changes s e r letters f)
    (drawn_lasting s.next letters (PutRow (failed_row r) ∷ EndJob e ∷ (map Send letters ++ mark_failed f)) spare.numbers few (
      row_fits (failed_row r) spare.key,
      (end_fits e, lasting-append (map Send letters) (mark_failed f) (lasting-sends letters) (marked_lasting f)),
    ))

module _ (s : StateData) (e : ℕ) (spare : (stage : Stage) (k : Calls s e stage) → HasSpare s k.row) where
  -- what an answer changes at once
  first_unworn : (kind : Kind) (b : Answered) (f : Option Stack) (cs : List Change) (es : List Entry)
      → Part s e kind (Answer b) f cs es → ¬ IsWorn cs
  first_unworn kind b f cs es (begins k a _ _ y i j) = by_changes cs _ i (unworn _ (job_fits _, tt))
  first_unworn kind b f cs es (waits k a _ _ y i j) = by_changes cs [] i (unworn [] tt)
  first_unworn kind b f cs es (readies k facts _ _ y i j) =
      by_changes cs _ i (unworn _ (row_fits _ (let k' = (spare _ k).key in omega (arith, k')), (job_fits _, tt)))
  first_unworn kind b f cs es (goes k _ _ y i j) = by_changes cs _ i (unworn _ (drop_fits _, (job_fits _, tt)))
  first_unworn kind b f cs es (refuses stage k asked given why ls _ _ _ x r falls i j) =
      by_changes cs (failed_changes s e k.row ls f) i
      (failed_unworn s e k.row ls f (spare stage k) (letters_few s k.job ls f falls))

  -- and the rollback behind a mark
  behind_mark : (r : Row) (st : Stack) → HasSpare s r → (last : List Change) (lasts : List Entry)
      → IsDue (applied (failed_changes s e r [] (Some st)) s) st
      → FollowsFailure (applied (failed_changes s e r [] (Some st)) s) e st last lasts → ¬ IsWorn last
  behind_mark r st has last lasts due k =
      rollback_lasts (applied (failed_changes s e r [] (Some st)) s) e st (record st { status = Failed }) last lasts
      has.numbers (stack_here (record st { status = Failed }) s.stacks) due.room k

  marked_last : (j : Job) (r : Row) (letters : List Letter) (f : Option Stack) → Falls s j letters f → HasSpare s r
      → (first : List Change) → first ≡ failed_changes s e r letters f → (st : Stack) → f ≡ Some st
      → IsDue (applied first s) st → (last : List Change) (lasts : List Entry)
      → FollowsFailure (applied first s) e st last lasts → ¬ IsWorn last
  marked_last j r letters f (overrun ls over resends) has first i st is due last lasts k = cc
  marked_last j r letters f (marked fresh not) has first i st is due last lasts k = cc
  marked_last j r letters f (marks fresh running) has first i st is due last lasts k =
      let all : first ≡ failed_changes s e r [] (Some st) =
      i ∙ ap (λ (x : Stack). failed_changes s e r [] (Some x)) (same_Some fresh.stack st is) in
      behind_mark r st has last lasts (subst (λ (l : List Change). IsDue (applied l s) st) all due)
      (subst (λ (l : List Change). FollowsFailure (applied l s) e st last lasts) all k)

  last_unworn : (kind : Kind) (b : Answered) (f : Option Stack) (first : List Change) (firsts : List Entry)
      → Part s e kind (Answer b) f first firsts → (st : Stack) → f ≡ Some st → IsDue (applied first s) st
      → (last : List Change) (lasts : List Entry) → FollowsFailure (applied first s) e st last lasts → ¬ IsWorn last
  last_unworn kind b f first firsts (begins k a _ _ y i j) st is due last lasts q = cc
  last_unworn kind b f first firsts (waits k a _ _ y i j) st is due last lasts q = cc
  last_unworn kind b f first firsts (readies k facts _ _ y i j) st is due last lasts q = cc
  last_unworn kind b f first firsts (goes k _ _ y i j) st is due last lasts q = cc
  last_unworn kind b f first firsts (refuses stage k asked given why ls _ _ _ x r falls i j) st is due last lasts q =
      marked_last k.job k.row ls f falls (spare stage k) first i st is due last lasts q

  whole_unworn : (kind : Kind) (b : Answered) (f : Option Stack) (first cs : List Change) (firsts es : List Entry)
      → Part s e kind (Answer b) f first firsts → Whole s e f first firsts cs es → ¬ IsWorn cs
  whole_unworn kind b f first cs firsts es part (stops p c d) = by_changes cs first c (first_unworn kind b f first firsts part)
  whole_unworn kind b f first cs firsts es part (follows st last lasts is due k c d) =
      by_changes cs (first ++ last) c
      (unworn_both first last (first_unworn kind b f first firsts part)
      (last_unworn kind b f first firsts part st is due last lasts k))

  turn_unworn : (b : Answered) (cs : List Change) (es : List Entry) → Turn s e (Answer b) cs es → ¬ IsWorn cs
  turn_unworn b cs es t =
      let m = by_move s e (Answer b) cs es t in
      let p = placed s e (Answer b) m.failed m.first m.firsts m.move in
      whole_unworn p.kind b m.failed m.first cs m.firsts es p.part m.whole

-- the call's row is the one that every call of the engine has
same_row : (s : StateData) (e : ℕ) (stage other : Stage) (j : Job) (r : Row) → IsCall s e stage j r → (k : Calls s e other)
    → r ≡ k.row
same_row s e stage other j r call k =
    let jobs = same_some j k.job call.works.its k.works.its in
    same_some r k.row (subst (λ (x : Job). row_at s.rows x.row ≡ Some r) jobs call.found) k.found

like_answer : (a : Answered) (other : Given) → IsLike (Answer a) other → (b : Answered) × (other ≡ Answer b)
like_answer a other (answers _ b) = (b, refl)
like_answer a other (same _) = (a, refl)

pub spare_lasts : (s : StateData) (e : ℕ) (stage : Stage) (j : Job) (r : Row) → IsCall s e stage j r → HasSpare s r
    → CallLasts s e
spare_lasts s e stage j r call spare given w =
    let (b, is) = like_answer given w.other w.like in
    turn_unworn s e (λ other k. subst (HasSpare s) (same_row s e stage other j r call k) spare) b w.changes w.entries
    (subst (λ (g : Given). Turn s e g w.changes w.entries) is w.turn) w.worn
