-- What an entry adds to the text, given what was seen before it.
use Rattle.std.specs.Prelude.{ℕ, List, [], ◌∷◌, ◌++◌, Bool, cond, Option, Some, None, codes, decimal}
use Rattle.heat_value.specs.declared.path.Step.{Step}
use Rattle.heat_plan.specs.Tokens.{token_text}
use Rattle.heat_plan.specs.declared.token.Token.{Token}
use Rattle.heat_plan.specs.declared.phase.Act.{Act}
use Rattle.heat_plan.specs.declared.phase.Status.{Status}
use Rattle.heat_plan.specs.declared.phase.Status.TheVariants.{Complete, InProgress, Failed}
use Rattle.std.specs.Ordering.{nat_cmp}
use Rattle.std.specs.Cmp.Lexicographic.{slice_cmp}
use Rattle.core_state.specs.declared.entry.Cause.{Cause}
use Rattle.core_state.specs.declared.entry.RowWrite.{RowWrite}
use Rattle.core_state.specs.declared.entry.EngineChange.{EngineChange}
use Rattle.core_state.specs.declared.entry.EngineChange.TheVariants.{Start, Stop, Restart}
use Rattle.core_state.specs.declared.entry.ShowWhat.{ShowWhat}
use Rattle.core_state.specs.declared.entry.ShowWhat.TheVariants as show
use Rattle.core_state.specs.declared.entry.What.{What}
use Rattle.core_state.specs.declared.entry.What.TheVariants as what
use Rattle.report.specs.Words.{words, line, stand_word, why_text, path_words}
use Rattle.keyed_table.specs.Lists.{put}
use Rattle.report.specs.Seen.{SeenData, stack_key, stack_at, with_stacks, after_writes}
use Rattle.report.specs.Rows.{writes_text, shown_lines}
use Rattle.report.specs.Stacks.{begun, plan_seen, after_mark}
use Rattle.report.specs.Outputs.{outputs_text}
use Rattle.report.specs.Previews.{preview_text}
use Rattle.report.specs.declared.brief.SeenStack.{SeenStack}

-- `stack <name> <trav> <ACT>_<STATUS>`
abbrev pub stack_words : List ℕ → ℕ → Act → Status → List ℕ
stack_words stack trav act status = words (codes "stack" ∷ stack ∷ decimal trav ∷ stand_word act status ∷ [])

abbrev pub stack_line : List ℕ → ℕ → Act → Status → List ℕ
stack_line stack trav act status = stack_words stack trav act status ++ 10 ∷ []

abbrev pub command_line : List ℕ → ℕ → Act → List ℕ
command_line stack trav act = stack_line stack trav act InProgress

-- `<name> <row> <why>`
abbrev pub cause_line : Cause → List ℕ
cause_line cause = line (cause.name ∷ decimal cause.row ∷ why_text cause.why ∷ [])

-- `stack <name> <trav> <ACT>_FAILED <name> <row> <why>`
abbrev pub failed_line : List ℕ → ℕ → Act → Cause → List ℕ
failed_line stack trav act cause =
    stack_words stack trav act Failed ++ 32 ∷ cause_line cause

abbrev pub mark_line : List ℕ → ℕ → Act → Option Cause → List ℕ
mark_line stack trav act None = stack_line stack trav act Complete
mark_line stack trav act (Some cause) = failed_line stack trav act cause

-- `released <token>`
abbrev pub released_line : Token → List ℕ
released_line token = line (codes "released" ∷ token_text token ∷ [])

-- `engine <e> started`, `engine <e> stopped`, `restart <e>`
abbrev pub engine_line : EngineChange → List ℕ
engine_line (Start e) = line (codes "engine" ∷ decimal e ∷ codes "started" ∷ [])
engine_line (Stop e) = line (codes "engine" ∷ decimal e ∷ codes "stopped" ∷ [])
engine_line (Restart e count) = line (codes "restart" ∷ decimal e ∷ [])

-- `idle <m>`, `tired <n>`
abbrev pub ran_line : Bool → ℕ → List ℕ
ran_line idle turns = line (cond idle (codes "idle") (codes "tired") ∷ decimal turns ∷ [])

-- `engine <e> idle`, `engine <e> lost`
abbrev pub turned_line : ℕ → Bool → List ℕ
turned_line e lost = line (codes "engine" ∷ decimal e ∷ cond lost (codes "lost") (codes "idle") ∷ [])

-- `refused <line> <code>`, and the path where there is one
abbrev pub note_line : ℕ → List ℕ → Option (List Step) → List ℕ
note_line number code path = line (codes "refused" ∷ decimal number ∷ code ∷ path_words path)

-- the line of a stack's status, if the stack is seen
abbrev pub status_text : Option SeenStack → List ℕ
status_text None = []
status_text (Some stack) = stack_line stack.name stack.trav stack.act stack.status

abbrev pub show_text : ShowWhat → List ℕ → SeenData → List ℕ
show_text show.Status stack seen = status_text (stack_at seen.stacks stack)
show_text show.Resources stack seen = shown_lines stack seen.rows
show_text show.Outputs stack seen = outputs_text stack seen.rows (plan_seen (stack_at seen.stacks stack))

-- the line of an entry that writes no row
abbrev pub line_of : SeenData → What → List ℕ
line_of seen (what.Command stack trav act plan rollback) = command_line stack trav act
line_of seen (what.Call token request answer) = []
line_of seen (what.Release token) = released_line token
line_of seen (what.Mark stack trav act cause) = mark_line stack trav act cause
line_of seen (what.Rows writes) = []
line_of seen (what.Mail writes) = []
line_of seen (what.Engine change) = engine_line change
line_of seen (what.Show shown stack) = show_text shown stack seen
line_of seen (what.Note number code path) = note_line number code path
line_of seen (what.Ran idle turns) = ran_line idle turns
line_of seen (what.Turned engine lost) = turned_line engine lost
line_of seen (what.Preview stack forecast) = preview_text stack forecast
line_of seen what.Closed = []

-- the rows that an entry writes
abbrev pub writes_of : What → List RowWrite
writes_of (what.Command stack trav act plan rollback) = []
writes_of (what.Call token request answer) = []
writes_of (what.Release token) = []
writes_of (what.Mark stack trav act cause) = []
writes_of (what.Rows writes) = writes
writes_of (what.Mail writes) = []
writes_of (what.Engine change) = []
writes_of (what.Show shown stack) = []
writes_of (what.Note number code path) = []
writes_of (what.Ran idle turns) = []
writes_of (what.Turned engine lost) = []
writes_of (what.Preview stack forecast) = []
writes_of what.Closed = []

-- an entry's text: its line, or those of its writes
abbrev pub what_text : SeenData → What → List ℕ
what_text seen what = line_of seen what ++ writes_text seen (writes_of what)

-- what is seen after an entry
abbrev pub after_what : SeenData → What → SeenData
after_what seen (what.Command stack trav act plan rollback) =
    with_stacks seen (put (slice_cmp nat_cmp) stack_key (begun stack trav act plan) seen.stacks)
after_what seen (what.Call token request answer) = seen
after_what seen (what.Release token) = seen
after_what seen (what.Mark stack trav act cause) = with_stacks seen (after_mark stack trav act cause seen.stacks)
after_what seen (what.Rows writes) = after_writes seen writes
after_what seen (what.Mail writes) = seen
after_what seen (what.Engine change) = seen
after_what seen (what.Show shown stack) = seen
after_what seen (what.Note number code path) = seen
after_what seen (what.Ran idle turns) = seen
after_what seen (what.Turned engine lost) = seen
after_what seen (what.Preview stack forecast) = seen
after_what seen what.Closed = seen
