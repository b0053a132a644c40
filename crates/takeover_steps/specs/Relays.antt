-- The end of a stopped engine's job that has work, from its parts.
use Rattle.std.specs.Prelude.{List, Option, [], ℕ, ◌∷◌}
use Rattle.row_table.specs.declared.row.Row.{Row}
use Rattle.mail_table.specs.declared.mail.Job.{Job}
use Rattle.mail_table.specs.declared.mail.Letter.{Letter}
use Rattle.core_state.specs.State.{StateData}
use Rattle.core_state.specs.declared.change.Change.{Change}
use Rattle.core_state.specs.declared.entry.Entry.{Entry}
use Rattle.core_state.specs.declared.stack.Stack.{Stack}
use Rattle.step_relation.specs.Takes.{released_changes, released_entries}
use Rattle.step_relation.specs.Writes.{letter_to}

-- the letter to the job's node, of the next number
abbrev pub node_letter : StateData → Job → Stack → Letter
node_letter s j st = letter_to st s.next.letter j.letter.node

abbrev pub relayed_changes : StateData → Job → Stack → Option Row → List Change
relayed_changes s j st row = released_changes s j.engine row (node_letter s j st ∷ [])

abbrev pub relayed_entries : StateData → ℕ → Job → Stack → Option Row → List Entry
relayed_entries s e j st row = released_entries e j.engine row (node_letter s j st ∷ [])
