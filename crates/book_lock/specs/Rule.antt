-- The rule of the lock.
use Rattle.std.specs.Prelude.{◌≡◌, ◌≤◌, ◌<◌, ◌^◌, ◌⊎◌, ℕ, suc, Bool, List, [], ◌∷◌}
use Rattle.std.specs.Prelude.{length, sum_by, All, Option, Some, option_map}
use Rattle.std.specs.List.Sorted.{IsStrictlyIncreasing}
use mathlib.Core.List.{IsPrefix}
use mathlib.Core.Option as maybe
use lib.ListN.{get_elem?}
use Rattle.atomic_table.specs.Table.{State}
use Rattle.book_lock.specs.declared.view.Account.{Account}
use Rattle.book_lock.specs.declared.view.Stand.{Stand}
use Rattle.book_lock.specs.declared.view.View.{View}
use Rattle.book_lock.specs.declared.view.View.TheVariants.{Spent, Live}
use Rattle.book_lock.specs.declared.view.Role.{Role}
use Rattle.book_lock.specs.declared.view.Role.TheVariants.{Idle, Waits, Holds}
use Rattle.book_lock.specs.Names.{on}
use Rattle.book_lock.specs.Standing.{seen}
use Rattle.book_lock.specs.Places.{once_between, times}

-- the first pass: it has the empty name, has seen the value that the lock was opened with, and has added nothing
abbrev pub first_stand : {T : Type 0} → T → Stand T
first_stand value =
    record {
      role = Idle;
      name = [];
      opening = Some value;
      own = record { last = Some value; places = [] };
      joined = [];
    }

abbrev pub first_view : {T : Type 0} → T → View T
first_view value = Live (first_stand value)

-- how often a pass in this role has the ticket
abbrev pub times_drawn : ℕ → Role → ℕ
times_drawn ticket Idle = 0
times_drawn ticket (Waits drawn) = once_between drawn (suc drawn) ticket
times_drawn ticket (Holds drawn) = once_between drawn (suc drawn) ticket

abbrev pub has_ticket : {T : Type 0} → ℕ → View T → ℕ
has_ticket ticket Spent = 0
has_ticket ticket (Live stand) = times_drawn ticket stand.role

abbrev pub is_on : {T : Type 0} → (ℕ → Bool) → View T → ℕ
is_on row Spent = 0
is_on row (Live stand) = on row stand.name

-- how often the place stands in the Mines of these accounts
abbrev pub times_added : {T : Type 0} → ℕ → List (Account T) → ℕ
times_added place accounts = sum_by (λ account. times place account.places) accounts

abbrev pub accounts_of : {T : Type 0} → Stand T → List (Account T)
accounts_of stand = stand.own ∷ stand.joined

abbrev pub has_place : {T : Type 0} → ℕ → View T → ℕ
has_place place Spent = 0
has_place place (Live stand) = times_added place (accounts_of stand)

module _ {T E O : Type 0} (list : T → List E) (origin : T → O) (opening : T) where
  -- Seen begins the one list and has the one origin, and Mine is a rising list of places in Seen
  pub record IsAccount (log : List E) (account : Account T) : Type 0 where
    pub begins : IsPrefix (seen list account) log
    pub same : option_map origin account.last ≡ Some (origin opening)
    pub rising : IsStrictlyIncreasing account.places
    pub within : All (λ place. place < length (seen list account)) account.places

  -- a pass that is in use; who holds the value is the one that is served, and has seen the whole list
  pub record Fits (serving : ℕ) (log : List E) (stand : Stand T) : Type 0 where
    pub opened : stand.opening ≡ Some opening
    pub accounts : All (IsAccount log) (accounts_of stand)
    pub served : (ticket : ℕ) → stand.role ≡ Holds ticket → (ticket ≡ serving) × (seen list stand.own ≡ log)

  -- the value is in the slot
  pub record AtHome (log : List E) (s : State (Option T) (View T)) : Type 0 where
    pub value : T
    pub homes : s.homes ≡ maybe.some (Some value) ∷ []
    pub shown : list value ≡ log
    pub same : origin value ≡ origin opening

  -- the value is out with the pass that is served
  pub record IsOut (serving : ℕ) (s : State (Option T) (View T)) : Type 0 where
    pub homes : s.homes ≡ maybe.none ∷ []
    pub by : ℕ
    pub holder : Stand T
    pub there : get_elem? s.views by ≡ maybe.some (Live holder)
    pub holds : holder.role ≡ Holds serving

  -- There is one list. Each ticket from the one that is served on is out with one pass, each row of flags begins with
  -- the name of one pass, and each place behind the list that the lock was opened with stands once in one pass's Mine
  pub record Kept (ticket serving : ℕ) (log : List E) (s : State (Option T) (View T)) : Type 0 where
    pub words : s.words ≡ ticket ∷ serving ∷ []
    pub small : ticket < 2 ^ 64
    pub served : serving ≤ ticket
    pub begun : IsPrefix (list opening) log
    pub place : AtHome log s ⊎ IsOut serving s
    pub tickets : (x : ℕ) → sum_by (has_ticket x) s.views ≡ once_between serving ticket x
    pub names : (row : ℕ → Bool) → sum_by (is_on row) s.views ≡ 1
    pub mines : (x : ℕ) → sum_by (has_place x) s.views ≡ once_between (length (list opening)) (length log) x
    pub each : (by : ℕ) (stand : Stand T) → get_elem? s.views by ≡ maybe.some (Live stand) → Fits serving log stand

  abbrev pub IsKept : State (Option T) (View T) → Type 0
  IsKept s = (ticket : ℕ) × (serving : ℕ) × (log : List E) × Kept ticket serving log s
