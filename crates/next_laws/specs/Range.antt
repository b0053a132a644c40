-- Numbers and keys within their range, and what a worn change would do to them.
use Rattle.std.specs.Prelude.{Contains, List, Some, ℕ, ◌<◌, ◌^◌, ◌≡◌, ◌≤◌, ◌↔◌}
use Rattle.heat_plan.specs.declared.item.Item.{Item}
use Rattle.row_table.specs.Rows.{row_at}
use Rattle.row_table.specs.declared.row.Row.{Row}
use Rattle.core_state.specs.Changes.{applied}
use Rattle.core_state.specs.State.{StateData}
use Rattle.core_state.specs.declared.change.Change.{Change}
use Rattle.core_state.specs.declared.change.Change.TheVariants.{PutRow}
use Rattle.core_state.specs.declared.entry.Entry.{Entry}
use Rattle.core_state.specs.declared.numbers.Numbers.{Numbers}
use Rattle.history_laws.specs.Commands.{Lays, Sets, laid_changes}
use Rattle.history_laws.specs.Given.{Given}
use Rattle.history_laws.specs.Steps.{Step}
use Rattle.history_laws.specs.Turns.{IsWorn, Turn}
pub use Rattle.history_laws.specs.Images.{IsInRange}
use Rattle.core_state.specs.declared.change.Change.TheVariants as change_to

-- a number is drawn at 2^62: a next one goes from at most that past it
pub data DrawsLast (s : StateData) (next : Numbers) : Type 0 where
  stack : s.next.stack ≤ 2 ^ 62 → 2 ^ 62 < next.stack → DrawsLast s next
  trav : s.next.trav ≤ 2 ^ 62 → 2 ^ 62 < next.trav → DrawsLast s next
  row : s.next.row ≤ 2 ^ 62 → 2 ^ 62 < next.row → DrawsLast s next
  engine : s.next.engine ≤ 2 ^ 62 → 2 ^ 62 < next.engine → DrawsLast s next
  letter : s.next.letter ≤ 2 ^ 62 → 2 ^ 62 < next.letter → DrawsLast s next

-- the key of a row that stands is raised to 2^62
pub record RaisesLast (s : StateData) (r : Row) : Type 0 where
  pub before : Row
  pub found : row_at s.rows r.no ≡ Some before
  pub below : before.key < 2 ^ 62
  pub last : r.key ≡ 2 ^ 62

-- one of the changes draws a number at 2^62, or raises a key to it
pub data Wears (s : StateData) (cs : List Change) : Type 0 where
  draws : (next : Numbers) → Contains cs (change_to.Numbers next) → DrawsLast s next → Wears s cs
  raises : (r : Row) → Contains cs (PutRow r) → RaisesLast s r → Wears s cs

-- from a state in range each step leaves one in range
abbrev pub StepsStayInRange : Type 0
StepsStayInRange = (s : StateData) (cs : List Change) (es : List Entry) → IsInRange s → Step s cs es
    → IsInRange (applied cs s)

-- and what is worn there is exactly what draws a number at 2^62 or raises a key to it: a turn
abbrev pub WornTurnWears : Type 0
WornTurnWears = (s : StateData) (e : ℕ) (given : Given) (cs : List Change) (es : List Entry) → IsInRange s
    → Turn s e given cs es → IsWorn cs ↔ Wears s cs

-- and what a command lays out
abbrev pub WornLayoutWears : Type 0
WornLayoutWears = (s : StateData) (name : List ℕ) (items : List Item) (it : Sets) (k : Lays s name items) → IsInRange s
    → IsWorn (laid_changes s name items it k) ↔ Wears s (laid_changes s name items it k)
