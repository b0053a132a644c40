-- What contracts see of a lock and of a pass.
use Rattle.std.specs.Prelude.{◌≡◌, ℕ, Bool, true, false, Option, Some, None, List, [], ◌∷◌, ◌++◌}
use Rattle.std.specs.Option.{option_map_or}
use Rattle.atomic_table.specs.Seated.{TableId}
use Rattle.atomic_table.specs.Table.{Me}
use Rattle.book_lock.specs.Places.{places_behind}
use Rattle.book_lock.specs.declared.view.Account.{Account}
use Rattle.book_lock.specs.declared.view.Stand.{Stand}
use Rattle.book_lock.specs.declared.view.View.{View}
use Rattle.book_lock.specs.declared.view.View.TheVariants.{Spent, Live}
use Rattle.book_lock.specs.declared.view.Role.{Role}
use Rattle.book_lock.specs.declared.view.Role.TheVariants.{Idle, Holds}

-- which lock it is, and the value that it was opened with
pub record Lock (T : Type 0) : Type 0 where
  pub table : TableId
  pub opening : T

abbrev pub lock_of : {T : Type 0} → TableId → T → Lock T
lock_of table opening = record { table = table; opening = opening }

-- the table has two words, the next ticket and the one that is served, and a slot
abbrev pub IsSized : TableId → Type 0
IsSized table = (table.words ≡ 2) × (table.slots ≡ 1)

-- a pass: which lock it is of, its name, whether it holds the value, its Seen and Mine, and those of the passes joined
-- to it
pub record Standing (T : Type 0) : Type 0 where
  pub table : TableId
  pub opening : Option T
  pub name : List Bool
  pub holds : Bool
  pub own : Account T
  pub joined : List (Account T)

-- Seen: the list of the value as it was last held
abbrev pub seen : {T E : Type 0} → (T → List E) → Account T → List E
seen list account = option_map_or list account.last []

-- the pass is of this lock
pub record IsPassOf {T : Type 0} (lock : Lock T) (pass : Standing T) : Type 0 where
  pub table : pass.table ≡ lock.table
  pub opening : pass.opening ≡ Some lock.opening

-- a pass of this lock under this name, which has seen this value and added nothing
abbrev pub newcomer : {T : Type 0} → Lock T → List Bool → Option T → Standing T
newcomer lock name last =
    record {
      table = lock.table;
      opening = Some lock.opening;
      name = name;
      holds = false;
      own = record { last = last; places = [] };
      joined = [];
    }

-- the pass under another name
abbrev pub renamed_pass : {T : Type 0} → Standing T → List Bool → Standing T
renamed_pass pass name = record pass { name = name }

-- the pass has taken the value, which it has seen
abbrev pub holding_pass : {T : Type 0} → Standing T → T → Standing T
holding_pass pass value = record pass { holds = true; own = record { last = Some value; places = pass.own.places } }

-- the pass has given the value back: it has seen the value's list, and Mine has grown by what was added
abbrev pub released_pass : {T E : Type 0} → (T → List E) → Standing T → T → Standing T
released_pass list pass value =
    record pass {
      holds = false;
      own = record { last = Some value; places = pass.own.places ++ places_behind (seen list pass.own) (list value) };
    }

abbrev pub opening_of : {T : Type 0} → View T → Option T
opening_of Spent = None
opening_of (Live stand) = stand.opening

abbrev pub own_of : {T : Type 0} → View T → Account T
own_of Spent = record { last = None; places = [] }
own_of (Live stand) = stand.own

abbrev pub joined_of : {T : Type 0} → View T → List (Account T)
joined_of Spent = []
joined_of (Live stand) = stand.joined

-- what is seen of a pass, by its table, its seat, its name and whether it holds the value
abbrev pub standing_of : {T : Type 0} → TableId → Me (Option T) (View T) → List Bool → Bool → Standing T
standing_of table me name holds =
    record {
      table = table;
      opening = opening_of me.0;
      name = name;
      holds = holds;
      own = own_of me.0;
      joined = joined_of me.0;
    }

-- the role of a pass between two calls
abbrev pub resting : Bool → ℕ → Role
resting true ticket = Holds ticket
resting false ticket = Idle

-- who holds the value has the slot, which is empty while the value is out
abbrev pub carried : {T : Type 0} → Bool → List (ℕ × Option T)
carried true = (0, None) ∷ []
carried false = []

-- the stand of a pass in this role
abbrev pub stand_of : {T : Type 0} → Standing T → Role → Stand T
stand_of pass role =
    record { role = role; name = pass.name; opening = pass.opening; own = pass.own; joined = pass.joined }

-- the seat is that of a pass with this name, which holds the value or rests
abbrev pub IsSeated : {T : Type 0} → TableId → Me (Option T) (View T) → List Bool → Bool → Type 0
IsSeated table me name holds =
    (ticket : ℕ) × (me ≡ (Live (stand_of (standing_of table me name holds) (resting holds ticket)), carried holds))
