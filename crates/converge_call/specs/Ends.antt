-- What the top call comes to: of a book that was opened, and where none was.
use Rattle.std.specs.Prelude.{◌≡◌, ◌⊎◌, ◌↔◌, ◌+◌, ◌^◌, ◌≤◌, ◌++◌, ◌∷◌, [], Bool, IsTrue, ℕ, List, Option, Some}
use Rattle.std.specs.Prelude.{false, length}
use Rattle.heat_value.specs.Counts.{Rose}
use Rattle.core_state.specs.State.{StateData}
use Rattle.provider.specs.Cloud.{Cloud}
use Rattle.provider.specs.declared.traced.Listing.TheVariants as listing
use Rattle.provider.specs.declared.traced.Traced.{Traced}
use Rattle.provider.specs.declared.traced.Traced.TheVariants.{Listed}
use Rattle.step_relation.specs.Could.{Allows}
use Rattle.step_relation.specs.Headline.{Headline}
use Rattle.step_relation.specs.Laws.{opening_at}
use Rattle.step_relation.specs.Opening.{Opening, first_of}
use Rattle.step_relation.specs.Runs.{Run}
use Rattle.step_relation.specs.Sound.{Sound}
use Rattle.record_keeper.specs.Shown.{LeavesOnly, ShownKeeper}
use Rattle.book.specs.declared.halting.Halt.{Halt}
use Rattle.book.specs.declared.halting.Halt.TheVariants as halted
use Rattle.book.specs.declared.restarting.Unrestarted.{Unrestarted}
use Rattle.driver.specs.Kept.{IsOpenedFrom, IsTraced, Shown, registries}
use Rattle.driver.specs.Leaving.{IsLeftAlong}
use Rattle.driver.specs.Openings.{HasImageListed, IsUnopened as IsUnopenedBook, OpensKeeper}
use Rattle.driver.specs.Scenes.{Scene, scene}
use Rattle.driver.specs.Turned.{IsWornBy}
use Rattle.converge_call.specs.declared.exit.Exit.{Exit}
use Rattle.converge_call.specs.declared.exit.Exit.TheVariants as exit
use Rattle.converge_call.specs.declared.setup.Mode.{Mode}
use Rattle.converge_call.specs.Exits.{exit_of}
use Rattle.converge_call.specs.Words.{IsForm, setup_of}
use Rattle.converge_call.specs.Stocks.{Stock}
use Rattle.converge_call.specs.Sources.{StaysWithin}
use Rattle.converge_call.specs.Drives.{Streams, line_end, streams, Drove}

-- what source, sink and keeper show at one moment: what is left and held, and how often they have failed
pub record Outside : Type 0 where
  pub left : Option (List ℕ)
  pub read_faults : ℕ
  pub holds : Option (List ℕ)
  pub write_faults : ℕ
  pub disk_faults : ℕ

abbrev pub outside : Option (List ℕ) → ℕ → Option (List ℕ) → ℕ → ℕ → Outside
outside left read_faults holds write_faults disk_faults = record {
  left = left;
  read_faults = read_faults;
  holds = holds;
  write_faults = write_faults;
  disk_faults = disk_faults;
}

abbrev pub streams_of : Outside → Streams
streams_of o = streams o.left o.holds

-- a book at its opening, before anything was done, and its opening
abbrev pub first_scene : {K P : Type 0} → (P → Cloud) → Shown K P → Scene
first_scene cloud_of b = scene b.opening [] (cloud_of b.origin.cloud)

abbrev pub opening_in : Scene → Opening
opening_in first = opening_at first.state first.cloud

-- A book may be opened with so many engines over such an image of the keeper's: the cloud, as it is behind its list,
-- agrees with it; and what the keeper went through on the way.
pub record OpensWith (may_open : StateData → Type 0) (workers : ℕ) (before behind : ShownKeeper) (faults now : ℕ)
    (old new : Cloud) (opening : StateData) : Type 0 where
  pub found : HasImageListed may_open old new
  pub opened : IsOpenedFrom found.image opening new workers
  pub went : OpensKeeper may_open workers before behind faults now

-- as many engines as the words say
pub record OpensFor (may_open : StateData → Type 0) (words : List (List ℕ)) (before behind : ShownKeeper)
    (faults now : ℕ) (old new : Cloud) (opening : StateData) : Type 0 where
  pub mode : Mode
  pub form : IsForm words mode
  pub opens : OpensWith may_open (setup_of mode).workers before behind faults now old new opening

-- the last call of the cloud is a list that failed
abbrev pub HasFailedList : Cloud → Type 0
HasFailedList cloud = (calls : List Traced) × (cloud.trace ≡ calls ++ Listed listing.Failed ∷ [])

-- Nothing came in the way: no count of faults rose, no list failed, no line passed a limit, no number is worn out, for an
-- engine's next step or a restart; the keeper recalls what it reads as, and the opening is sound.
pub record IsCalm (recalls : Bool) (first last : Scene) (old new : Outside) : Type 0 where
  pub read : ¬ Rose old.read_faults new.read_faults
  pub write : ¬ Rose old.write_faults new.write_faults
  pub disk : ¬ Rose old.disk_faults new.disk_faults
  pub listed : ¬ HasFailedList last.cloud
  pub within : StaysWithin old.left
  pub unworn : (e : ℕ) → ¬ IsWornBy last.state e
  pub engines : last.state.next.engine + length first.state.live ≤ 2 ^ 62
  pub recalled : IsTrue recalls
  pub sound : Sound (opening_in first) [] first.state

-- the script was read to its end and all is written, or memory was wanted
abbrev pub EndsCalmly : Exit → Type 0
EndsCalmly status = (status ≡ exit.Done) ⊎ (status ≡ exit.Memory)

-- What was driven from its opening, the first scene, by the lines, with this in stock before the first, to the last scene
-- with this halt: the history is that of the lines read, and what is written its text; it is a run's, and its calls are
-- the cloud's trace. From a sound opening the main theorem holds of it. Faults of the outside come only where a count
-- rose; a fault of the keeper halts the book, and behind Done the keeper isn't long. At each moment a crash leaves a
-- state of a first part of the history, or the one behind one step more. Where nothing came in the way, all was done but
-- for want of memory.
pub record HasDriven (t : Stock) (origin keeper : ShownKeeper) (first last : Scene) (halt : Option Halt)
    (old new : Outside) (status : Exit) : Type 0 where
  pub drove : Drove (opening_in first) t origin.recalls (streams_of old) (streams_of new) last.state last.entries
      (line_end last.cloud halt) status
  pub read : status ≡ exit.ReadFault → Rose old.read_faults new.read_faults
  pub write : status ≡ exit.WriteFault → Rose old.write_faults new.write_faults
  pub disk : status ≡ exit.DiskFault → Rose old.disk_faults new.disk_faults
  pub halts : (status ≡ exit.DiskFault) ↔ (halt ≡ Some halted.DiskFault)
  pub short : status ≡ exit.Done → keeper.is_long ≡ false
  pub inside : IsTrue origin.tells → LeavesOnly origin keeper (IsLeftAlong (opening_in first) [] last.entries)
  pub calm : IsCalm origin.recalls first last old new → EndsCalmly status
  pub run : Run registries first.state last.state last.entries
  pub agrees : Allows (first_of (opening_in first)) last.entries last.cloud
  pub trace : IsTraced first.cloud last.entries last.cloud halt
  pub sound : Sound (opening_in first) [] first.state → Sound (opening_in first) last.entries last.state
  pub headline : Sound (opening_in first) [] first.state
      → Headline registries (opening_in first) last.entries last.state

-- keeper and cloud before the call and behind it, and what they show
pub record Around (K P : Type 0) : Type 0 where
  pub keeper : K
  pub cloud : P

-- Why no book was opened, and what was done to keeper and cloud: for the words, or for want of memory for what they
-- ask for or for what is registered, nothing; else for what the opening came to with so many engines as are asked for.
pub data IsUnopened {K P : Type 0} (may_open : K → StateData → Type 0) (shown : K → ShownKeeper) (faults_of : K → ℕ)
    (cloud_of : P → Cloud) (Asks : ℕ → Type 0) (old new : Around K P) (status : Exit) : Type 0 where
  by_words : status ≡ exit.Usage → new ≡ old → IsUnopened may_open shown faults_of cloud_of Asks old new status
  by_memory : status ≡ exit.Memory → new ≡ old → IsUnopened may_open shown faults_of cloud_of Asks old new status
  by_opening : (workers : ℕ) (why : Unrestarted) → Asks workers
      → IsUnopenedBook (may_open old.keeper) workers (shown old.keeper) (shown new.keeper) (faults_of old.keeper)
      (faults_of new.keeper) (cloud_of old.cloud) (cloud_of new.cloud) why
      → status ≡ exit_of why → IsUnopened may_open shown faults_of cloud_of Asks old new status

-- so many engines are what the words ask for
pub record AsksFor (words : List (List ℕ)) (workers : ℕ) : Type 0 where
  pub mode : Mode
  pub form : IsForm words mode
  pub its : workers ≡ (setup_of mode).workers

-- nothing was read or written
pub record IsUntouched {S W : Type 0} (source_old source_new : S) (sink_old sink_new : W) : Type 0 where
  pub unread : source_new ≡ source_old
  pub unwritten : sink_new ≡ sink_old
