-- What a restart makes of a book: the keeper is read again, the cloud lists what is alive, all engines stop, and others
-- are enlisted.
use Rattle.std.specs.Prelude.{Bool, Err, IfErr, IsTrue, List, Ok, Result, Some, [], ℕ, ◌++◌, ◌+◌, ◌<◌, ◌^◌, ◌∷◌, ◌≡◌, ◌≢◌, ◌≤◌, ◌⊎◌}
use Rattle.heat_value.specs.Counts.{Rose}
use Rattle.heat_plan.specs.declared.refusal.Refusal.{Refusal}
use Rattle.heat_plan.specs.declared.refusal.Refusal.TheVariants as refusal
use Rattle.heat_plan.specs.declared.token.Token.{Token}
use Rattle.provider.specs.Calls.{Lists, ListsNone}
use Rattle.provider.specs.Changes.{IsAsBefore}
use Rattle.provider.specs.Cloud.{Cloud}
use Rattle.provider.specs.declared.alive.Alive.{Alive}
use Rattle.core_state.specs.Changes.{applied}
use Rattle.core_state.specs.State.{StateData}
use Rattle.core_state.specs.declared.change.Change.{Change}
use Rattle.core_state.specs.declared.entry.Actor.TheVariants.{Main}
use Rattle.core_state.specs.declared.entry.EngineChange.TheVariants as engine
use Rattle.core_state.specs.declared.entry.Entry.{Entry}
use Rattle.core_state.specs.declared.entry.What.TheVariants as what
use Rattle.step_relation.specs.Laws.{opening_at}
use Rattle.step_relation.specs.Steps.{restart_changes}
use Rattle.step_relation.specs.Writes.{entry_of}
use Rattle.workable_laws.specs.Admitted.{FindsNothing}
use Rattle.record_keeper.specs.Calls.{GoesOn, IsUnfit}
use Rattle.record_keeper.specs.Shown.{LeavesOnly, ShownKeeper, at_rest}
use Rattle.record_keeper.specs.declared.open_fault.OpenFault.{OpenFault}
use Rattle.record_keeper.specs.declared.open_fault.OpenFault.TheVariants as open_fault
use Rattle.opening_check.specs.Findings.{HasFound}
use Rattle.opening_check.specs.declared.finding.Finding.{Finding}
use Rattle.book.specs.Keeping.{IsReady, KeptBy}
use Rattle.book.specs.Openings.{MayAgree, MayList}
use Rattle.book.specs.Kept.{Shown}
use Rattle.book.specs.Scenes.{Scene, scene_of}
use Rattle.book.specs.declared.halting.Halt.TheVariants as halt
use Rattle.book.specs.declared.halting.Halt.{Halt}
use Rattle.book.specs.declared.restarting.Unrestarted.{Unrestarted}
use Rattle.book.specs.declared.restarting.Unrestarted.TheVariants as why

-- the entry of a restart with so many engines
abbrev pub restart_entry : StateData → ℕ → Entry
restart_entry s count = entry_of Main (what.Engine (engine.Restart s.next.engine count))

-- so many engines stand in the place of those that were live
pub record RestartDoes (count : ℕ) (old new : Scene) : Type 0 where
  pub all : List Alive
  pub listed : Lists all old.cloud new.cloud
  pub nothing : FindsNothing (opening_at old.state new.cloud)
  pub below : old.state.next.engine + count ≤ 2 ^ 62
  pub state : new.state ≡ applied (restart_changes old.state count) old.state
  pub entries : new.entries ≡ old.entries ++ restart_entry old.state count ∷ []

-- Why it is refused. Foreign comes, where the keeper recalls, only where the book's state lacks what an image has; Worn,
-- and DiskFault behind the list, only where nothing was found.
pub data RestartBreaks (recalls : Bool) (count : ℕ) (old new : Scene) : Unrestarted → Type 0 where
  foreign : (IsTrue recalls → IsUnfit old.state) → IsAsBefore old.cloud new.cloud
      → RestartBreaks recalls count old new why.Foreign
  disagree : (all : List Alive) (token : Token) (finding : Finding) → Lists all old.cloud new.cloud
      → HasFound (opening_at old.state new.cloud) token finding
      → RestartBreaks recalls count old new (why.Disagree token finding)
  cloud_fault : ListsNone old.cloud new.cloud → RestartBreaks recalls count old new why.CloudFault
  worn : (all : List Alive) → Lists all old.cloud new.cloud → FindsNothing (opening_at old.state new.cloud)
      → 2 ^ 62 < old.state.next.engine + count → RestartBreaks recalls count old new why.Worn
  disk_fault : MayAgree (λ s. s ≡ old.state) old.cloud new.cloud → RestartBreaks recalls count old new why.DiskFault
  memory : MayList old.cloud new.cloud → RestartBreaks recalls count old new why.Memory

-- what halts a book whose restart is refused
abbrev pub halt_of : Unrestarted → Halt
halt_of why.Foreign = halt.Refused
halt_of (why.Disagree token finding) = halt.Refused
halt_of why.CloudFault = halt.Refused
halt_of why.Worn = halt.Refused
halt_of why.DiskFault = halt.DiskFault
halt_of why.Memory = halt.Refused

-- a refusal, which leaves state and history, and halts the book
pub record IsHaltedBy {K P : Type 0} (shown : K → ShownKeeper) (faults_of : K → ℕ) (cloud_of : P → Cloud) (count : ℕ)
    (old new : Shown K P) (w : Unrestarted) : Type 0 where
  pub state : new.state ≡ old.state
  pub entries : new.entries ≡ old.entries
  pub breaks : RestartBreaks (shown old.keeper).recalls count (scene_of cloud_of old) (scene_of cloud_of new) w
  pub halted : new.halt ≡ Some (halt_of w)
  pub rose : w ≡ why.DiskFault → Rose (faults_of old.keeper) (faults_of new.keeper)

-- what a restart reads again
abbrev pub unread_for : OpenFault → Unrestarted
unread_for open_fault.Foreign = why.Foreign
unread_for open_fault.DiskFault = why.DiskFault
unread_for open_fault.Memory = why.Memory

-- the keeper is read again as this state, and stands as before; or not, for one of these causes
pub data WhyUnread (recalls : Bool) (s : StateData) (before now : ℕ) (w : Unrestarted) : Type 0 where
  foreign : (IsTrue recalls → IsUnfit s) → w ≡ why.Foreign → WhyUnread recalls s before now w
  fault : Rose before now → w ≡ why.DiskFault → WhyUnread recalls s before now w
  memory : w ≡ why.Memory → WhyUnread recalls s before now w

pub record Rereads (s : StateData) (old new : ShownKeeper) (before now : ℕ) (result : Result (Unit {0}) Unrestarted)
    : Type 0 where
  pub leaves : IsTrue old.tells → LeavesOnly old new (λ l. l ≡ Some (at_rest s))
  pub goes_on : GoesOn old new before now
  pub ready : result ≢ Err why.DiskFault → IsReady new s
  pub cause : IfErr result (WhyUnread old.recalls s before now)

-- so many engines stand in the place of others, or nothing is changed for such a cause
pub data RestartsAs (recalls : Bool) (count : ℕ) (old new : Scene) (result : Result (Unit {0}) Unrestarted) : Type 0 where
  done : RestartDoes count old new → result ≡ Ok tt → RestartsAs recalls count old new result
  refused : (w : Unrestarted) → RestartBreaks recalls count old new w → new.state ≡ old.state
      → new.entries ≡ old.entries → result ≡ Err w → RestartsAs recalls count old new result

-- the changes that it made, or tried to have kept: none, where it was refused before
pub data Tries (s : StateData) (count : ℕ) (result : Result (Unit {0}) Unrestarted) (cs : List Change) : Type 0 where
  none : result ≢ Ok tt → cs ≡ [] → Tries s count result cs
  all : (result ≡ Ok tt) ⊎ (result ≡ Err why.DiskFault) → s.next.engine + count ≤ 2 ^ 62
      → cs ≡ restart_changes s count → Tries s count result cs

-- and what it leaves with the keeper
pub record Restarts (count : ℕ) (old new : Scene) (before after : ShownKeeper) (faults now : ℕ)
    (result : Result (Unit {0}) Unrestarted) : Type 0 where
  pub does : RestartsAs before.recalls count old new result
  pub tried : List Change
  pub tries : Tries old.state count result tried
  pub kept : KeptBy before after faults now old.state new.state tried (result ≡ Err why.DiskFault)

-- what a refusal of its step comes to
abbrev pub refused_for : Refusal → Unrestarted
refused_for refusal.StackExists = why.Memory
refused_for refusal.NoStack = why.Memory
refused_for refusal.Deleting = why.Memory
refused_for refusal.TooManyStacks = why.Memory
refused_for refusal.TooManyRows = why.Memory
refused_for refusal.Worn = why.Worn
refused_for refusal.NoEngine = why.Memory
refused_for refusal.TooManyEngines = why.Memory
refused_for refusal.NotRunning = why.Memory
refused_for refusal.DiskFault = why.DiskFault
refused_for refusal.Memory = why.Memory

-- what a restart's step came to
abbrev pub restarted_for : Result (Unit {0}) Refusal → Result (Unit {0}) Unrestarted
restarted_for (Ok u) = Ok tt
restarted_for (Err r) = Err (refused_for r)
