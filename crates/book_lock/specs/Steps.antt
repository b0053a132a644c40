-- What the steps tell, and how views are cut and joined.
use Rattle.std.specs.Prelude.{◌≡◌, ◌≢◌, ◌++◌, ℕ, Bool, true, false, not, List, [], ◌∷◌, Option, Some, None, option_map}
use mathlib.Core.List.{IsPrefix}
use Rattle.atomic_table.specs.Table.{Step, Me}
use Rattle.book_lock.specs.declared.view.Account.{Account}
use Rattle.book_lock.specs.declared.view.Stand.{Stand}
use Rattle.book_lock.specs.declared.view.View.{View}
use Rattle.book_lock.specs.declared.view.View.TheVariants.{Spent, Live}
use Rattle.book_lock.specs.declared.view.Role.TheVariants.{Idle, Waits, Holds}
use Rattle.book_lock.specs.Names.{child, parent}
use Rattle.book_lock.specs.Places.{places_behind}
use Rattle.book_lock.specs.Standing.{seen}
use Rattle.book_lock.specs.Rule.{accounts_of}

module _ {T : Type 0} where
  -- a fact of a pass that is in use
  abbrev pub IfLive : View T → (Stand T → Type 0) → Type 0
  IfLive Spent P = Unit {0}
  IfLive (Live stand) P = P stand

  -- a fact of the value in the slot that the seat has
  abbrev pub IfCarried : List (ℕ × Option T) → (T → Type 0) → Type 0
  IfCarried [] P = Unit {0}
  IfCarried ((slot, None) ∷ rest) P = Unit {0}
  IfCarried ((slot, Some value) ∷ rest) P = P value

  -- the view with the stand changed like this
  abbrev pub changed : (Stand T → Stand T) → View T → View T
  changed f Spent = Spent
  changed f (Live stand) = Live (f stand)

  abbrev pub waiting : ℕ → Stand T → Stand T
  waiting ticket stand = record stand { role = Waits ticket }

  abbrev pub holding : ℕ → T → Stand T → Stand T
  holding ticket value stand =
      record stand { role = Holds ticket; own = record { last = Some value; places = stand.own.places } }

  abbrev pub named : List Bool → Stand T → Stand T
  named name stand = record stand { name = name }

  -- the one of the two that keeps Mine, and the one that has seen as much and added nothing
  abbrev pub elder : Stand T → Stand T
  elder stand = named (child stand.name false) stand

  abbrev pub younger : Stand T → Stand T
  younger stand = record {
    role = Idle;
    name = child stand.name true;
    opening = stand.opening;
    own = record { last = stand.own.last; places = [] };
    joined = [];
  }

  -- the accounts of both, under the name that was split
  abbrev pub merged : Stand T → Stand T → Stand T
  merged stand other =
      record stand { name = parent stand.name; joined = stand.joined ++ accounts_of other }

  abbrev pub both : View T → View T → View T
  both (Live stand) (Live other) = Live (merged stand other)
  both view _ = view

  -- the two that a split gave, neither of which holds the value
  pub record AreSiblings (stand other : Stand T) : Type 0 where
    pub idle : stand.role ≡ Idle
    pub rests : other.role ≡ Idle
    pub name : List Bool
    pub flag : Bool
    pub first : stand.name ≡ child name flag
    pub second : other.name ≡ child name (not flag)

  -- a seat with no slot, whose pass isn't in the queue
  abbrev pub IsIdle : Me (Option T) (View T) → Type 0
  IsIdle me = (stand : Stand T) × (me ≡ (Live stand, [])) × (stand.role ≡ Idle)

  -- a seat with no slot, whose pass has this ticket
  abbrev pub IsWaiting : ℕ → Me (Option T) (View T) → Type 0
  IsWaiting ticket me = (stand : Stand T) × (me ≡ (Live stand, [])) × (stand.role ≡ Waits ticket)

  -- two seats of siblings
  abbrev pub AreSiblingSeats : Me (Option T) (View T) → Me (Option T) (View T) → Type 0
  AreSiblingSeats me other =
      (stand : Stand T) × (theirs : Stand T) × (me ≡ (Live stand, [])) × (other ≡ (Live theirs, []))
      × AreSiblings stand theirs

  -- where the word was as expected the ticket is drawn, and else nothing changes
  abbrev pub Draws : Step (Option T) → Me (Option T) (View T) → ℕ → Me (Option T) (View T) → Type 0
  Draws s me found now = (found ≡ s.first → now ≡ (changed (waiting found) me.0, me.1)) × (found ≢ s.first → now ≡ me)

module _ {T E : Type 0} (list : T → List E) where
  -- what was added goes into Mine
  abbrev pub grown : T → Account T → Account T
  grown value account =
      record { last = Some value; places = account.places ++ places_behind (seen list account) (list value) }

  abbrev pub released : T → Stand T → Stand T
  released value stand = record stand { role = Idle; own = grown value stand.own }

  -- the value that the pass gives back is in the slot, and the next ticket is served
  abbrev pub Raises : Me (Option T) (View T) → Me (Option T) (View T) → Type 0
  Raises me now = IfCarried me.1 (λ value. now ≡ (changed (released value) me.0, []))

module _ {T E O : Type 0} (list : T → List E) (origin : T → O) where
  -- the value begins with what was seen, and has the origin of the value that was seen
  pub record Continues (account : Account T) (value : T) : Type 0 where
    pub begins : IsPrefix (seen list account) (list value)
    pub same : option_map origin account.last ≡ Some (origin value)

  -- the value begins with what was seen, and has the origin of the one that the lock was opened with
  pub record Follows (stand : Stand T) (value : T) : Type 0 where
    pub begins : IsPrefix (seen list stand.own) (list value)
    pub same : option_map origin stand.opening ≡ Some (origin value)

  -- the pass holds the value, and its seat has the slot
  abbrev pub HasTaken : ℕ → Stand T → List (ℕ × Option T) → Me (Option T) (View T) → Type 0
  HasTaken ticket stand before now =
      (value : T) × (now ≡ (Live (holding ticket value stand), (0, Some value) ∷ before)) × Follows stand value

  -- where the pass's ticket is served it takes the value, and else nothing changes
  abbrev pub Takes : Me (Option T) (View T) → ℕ → Me (Option T) (View T) → Type 0
  Takes me found now =
      IfLive me.0
      (λ stand. (stand.role ≡ Waits found → HasTaken found stand me.1 now) × (stand.role ≢ Waits found → now ≡ me))

  -- the seat after the taking
  abbrev pub Took : ℕ → Me (Option T) (View T) → Me (Option T) (View T) → Type 0
  Took ticket me now = IfLive me.0 (λ stand. HasTaken ticket stand [] now)

  -- a seat with the value in its slot, whose pass gives it back
  abbrev pub GivesBack : Me (Option T) (View T) → Type 0
  GivesBack me =
      (stand : Stand T) × (value : T) × (ticket : ℕ) × (me ≡ (Live stand, (0, Some value) ∷ []))
      × (stand.role ≡ Holds ticket) × Continues stand.own value
