-- Changes and entries that several steps share.
use Rattle.std.specs.Prelude.{List, None, Option, Some, [], length, ℕ, ◌+◌, ◌∷◌}
use Rattle.heat_plan.specs.declared.calls.Answered.{Answered}
use Rattle.heat_plan.specs.declared.calls.Request.{Request}
use Rattle.heat_plan.specs.declared.phase.Act.{Act}
use Rattle.heat_plan.specs.declared.phase.Act.TheVariants.{Create, Delete, Init, Rollback, Update}
use Rattle.heat_plan.specs.declared.phase.Status.TheVariants.{Complete, Failed}
use Rattle.row_table.specs.declared.row.Row.{Row}
use Rattle.mail_table.specs.declared.mail.Job.{Job}
use Rattle.mail_table.specs.declared.mail.Letter.{Letter}
use Rattle.mail_table.specs.declared.mail.Stage.{Stage}
use Rattle.core_state.specs.declared.change.Change.{Change}
use Rattle.core_state.specs.declared.change.Change.TheVariants.{DropStack, PutRow, PutStack}
use Rattle.core_state.specs.declared.entry.Actor.{Actor}
use Rattle.core_state.specs.declared.entry.Actor.TheVariants.{Engine}
use Rattle.core_state.specs.declared.entry.Cause.{Cause}
use Rattle.core_state.specs.declared.entry.Entry.{Entry}
use Rattle.core_state.specs.declared.entry.MailWrite.{MailWrite}
use Rattle.core_state.specs.declared.entry.RowWrite.{RowWrite}
use Rattle.core_state.specs.declared.entry.RowWrite.TheVariants.{Set}
use Rattle.core_state.specs.declared.entry.What.{What}
use Rattle.core_state.specs.declared.numbers.Numbers.{Numbers}
use Rattle.core_state.specs.declared.stack.Stack.{Stack}
use Rattle.step_relation.specs.Rows.{locked, token_of, unlocked}
use Rattle.core_state.specs.declared.change.Change.TheVariants as change_to
use Rattle.core_state.specs.declared.entry.What.TheVariants as what

-- what is told, and by whom
abbrev pub entry_of : Actor → What → Entry
entry_of actor it = record { by = actor; what = it }

-- what was written to rows, and to letters and jobs: no entry where nothing was
abbrev pub rows_entry : Actor → List RowWrite → List Entry
rows_entry actor [] = []
rows_entry actor (w ∷ ws) = entry_of actor (what.Rows (w ∷ ws)) ∷ []

-- what was written to letters and jobs
abbrev pub mail_entry : Actor → List MailWrite → List Entry
mail_entry actor [] = []
mail_entry actor (w ∷ ws) = entry_of actor (what.Mail (w ∷ ws)) ∷ []

-- the row is locked, if it stands
abbrev pub lock : Option Row → ℕ → List Change → List Change
lock None e rest = rest
lock (Some r) e rest = PutRow (locked e r) ∷ rest

-- what is told of it, if the row stands
abbrev pub lock_writes : Option Row → ℕ → List RowWrite
lock_writes None e = []
lock_writes (Some r) e = Set (locked e r) ∷ []

-- the row is unlocked, if it stands
abbrev pub unlock : Option Row → List Change → List Change
unlock None rest = rest
unlock (Some r) rest = PutRow (unlocked r) ∷ rest

-- what is told of it, if the row stands
abbrev pub unlock_writes : Option Row → List RowWrite
unlock_writes None = []
unlock_writes (Some r) = Set (unlocked r) ∷ []

-- the engine's job of a letter, at a row and a stage
abbrev pub job_of : ℕ → Letter → ℕ → Stage → Job
job_of e l n stage = record { engine = e; letter = l; row = n; stage = stage }

-- the same job at another stage
abbrev pub with_stage : Stage → Job → Job
with_stage stage j = record j { stage = stage }

-- a letter to a node of the stack's newest traversal
abbrev pub letter_to : Stack → ℕ → ℕ → Letter
letter_to st number node = record { no = number; stack = st.name; trav = st.trav; node = node }

-- letters to these nodes, numbered in their order
abbrev pub letters_to : Stack → ℕ → List ℕ → List Letter
letters_to st number [] = []
letters_to st number (node ∷ nodes) = letter_to st number node ∷ letters_to st (number + 1) nodes

-- the next numbers behind so many letters
abbrev pub past_letters : Numbers → ℕ → Numbers
past_letters next count = record next { letter = next.letter + count }

-- the numbers of letters are drawn, where there are any
abbrev pub draw_letters : Numbers → List Letter → List Change → List Change
draw_letters next [] rest = rest
draw_letters next (l ∷ ls) rest = change_to.Numbers (past_letters next (length (l ∷ ls))) ∷ rest

-- a call for a row, and its answer
abbrev pub call_entry : ℕ → Row → Request → Answered → Entry
call_entry e r request given = entry_of (Engine e) (what.Call (token_of r) request given)

-- the stack is marked as failed, with its cause
abbrev pub mark_failed : Option Stack → List Change
mark_failed None = []
mark_failed (Some st) = PutStack (record st { status = Failed }) ∷ []

-- what is told of it: the mark of the stack's traversal, with its cause
abbrev pub failed_mark : Actor → Option Stack → Cause → List Entry
failed_mark actor None cause = []
failed_mark actor (Some st) cause = entry_of actor (what.Mark st.name st.trav st.act (Some cause)) ∷ []

-- the stack is marked as complete; one that is deleted goes
abbrev pub mark_complete : Stack → List Change
mark_complete st = by_act st.act where
  by_act : Act → List Change
  by_act Delete = DropStack st.name ∷ []
  by_act Init = PutStack (record st { status = Complete }) ∷ []
  by_act Create = PutStack (record st { status = Complete }) ∷ []
  by_act Update = PutStack (record st { status = Complete }) ∷ []
  by_act Rollback = PutStack (record st { status = Complete }) ∷ []

-- what is told of it: the mark of the stack's traversal, without a cause
abbrev pub complete_mark : Actor → Stack → Entry
complete_mark actor st = entry_of actor (what.Mark st.name st.trav st.act None)
