-- What an opening comes to: the keeper is opened, and the cloud asked what is alive, once.
use Rattle.std.specs.Prelude.{Bool, Err, IsTrue, List, None, Ok, Option, Result, Some, [], ℕ, ◌+◌, ◌<◌, ◌^◌, ◌≡◌}
use Rattle.std.specs.Prelude.{false, ◌≢◌, ◌≤◌, ◌⊎◌}
use Rattle.heat_value.specs.Counts.{Rose}
use Rattle.heat_plan.specs.declared.token.Token.{Token}
use Rattle.provider.specs.Calls.{Lists, ListsNone}
use Rattle.provider.specs.Changes.{IsAsBefore}
use Rattle.provider.specs.Cloud.{Cloud}
use Rattle.provider.specs.declared.alive.Alive.{Alive}
use Rattle.core_state.specs.Changes.{applied}
use Rattle.core_state.specs.State.{StateData}
use Rattle.step_relation.specs.Images.{IsInRange, IsMade}
use Rattle.step_relation.specs.Laws.{opening_at}
use Rattle.step_relation.specs.Steps.{restart_changes}
use Rattle.workable_laws.specs.Admitted.{FindsNothing, IsRead, IsTied}
use Rattle.record_keeper.specs.Calls.{ComesOf, GoesOn, IsForeign, IsLeftOf}
use Rattle.record_keeper.specs.Shown.{Left, LeavesOnly, ShownKeeper, at_rest}
use Rattle.opening_check.specs.Findings.{HasFound}
use Rattle.opening_check.specs.declared.finding.Finding.{Finding}
use Rattle.book.specs.Kept.{IsOpenedFrom, Shown}
use Rattle.book.specs.declared.restarting.Unrestarted.TheVariants as unrestarted
use Rattle.book.specs.declared.restarting.Unrestarted.{Unrestarted}

-- an image that the keeper could be opened with, whole and tied up in itself
pub record IsImage (may_open : StateData → Type 0) (image : StateData) : Type 0 where
  pub may : may_open image
  pub read : IsRead image
  pub tied : IsTied image
  pub made : IsMade image
  pub range : IsInRange image

-- the cloud wasn't asked, or gave its list
pub data MayList (old new : Cloud) : Type 0 where
  unasked : IsAsBefore old new → MayList old new
  listed : (all : List Alive) → Lists all old new → MayList old new

-- the cloud's list agrees with this state
pub record HasAgreed (s : StateData) (old new : Cloud) : Type 0 where
  pub all : List Alive
  pub listed : Lists all old new
  pub nothing : FindsNothing (opening_at s new)

-- the cloud wasn't asked, or its list agrees with such a state
pub data MayAgree (P : StateData → Type 0) (old new : Cloud) : Type 0 where
  unasked : IsAsBefore old new → MayAgree P old new
  agreed : (s : StateData) → P s → HasAgreed s old new → MayAgree P old new

-- it has to be compacted before anything is appended, and can't be
abbrev pub IsStuck : ShownKeeper → Type 0
IsStuck keeper = IsTrue keeper.is_old × (keeper.can_compact ≡ false)

-- the cloud listed what agrees with the image, or not; or it gave no list, or there was no memory
pub data Admits (image : StateData) (old new : Cloud) (result : Result (Unit {0}) Unrestarted) : Type 0 where
  agrees : (all : List Alive) → Lists all old new → FindsNothing (opening_at image new) → result ≡ Ok tt
      → Admits image old new result
  disagrees : (all : List Alive) (token : Token) (finding : Finding) → Lists all old new
      → HasFound (opening_at image new) token finding → result ≡ Err (unrestarted.Disagree token finding)
      → Admits image old new result
  unlisted : ListsNone old new → result ≡ Err unrestarted.CloudFault → Admits image old new result
  lacking : MayList old new → result ≡ Err unrestarted.Memory → Admits image old new result

-- such an image, and a list of the cloud
pub record HasImageListed (may_open : StateData → Type 0) (old new : Cloud) : Type 0 where
  pub image : StateData
  pub its : IsImage may_open image
  pub all : List Alive
  pub listed : Lists all old new

-- What a crash leaves while so many engines are enlisted in the place of an image's: the image; or, where there are
-- numbers for them, the image or the state with them.
pub data IsLeftOfStart (image : StateData) (count : ℕ) (l : Option Left) : Type 0 where
  rests : l ≡ Some (at_rest image) → IsLeftOfStart image count l
  begins : image.next.engine + count ≤ 2 ^ 62 → IsLeftOf image (applied (restart_changes image count) image) l
      → IsLeftOfStart image count l

-- what a crash inside an opening leaves: what came of what it might have left before; or, where an image was read, that
pub data IsLeftOfOpening (may_open : StateData → Type 0) (old : ShownKeeper) (count : ℕ) (l : Option Left) : Type 0 where
  came : ComesOf old l → IsLeftOfOpening may_open old count l
  begun : (image : StateData) → may_open image → IsLeftOfStart image count l → IsLeftOfOpening may_open old count l

-- What a crash leaves where nothing is enlisted: what came of what it might have left before; or, where an image was
-- read, that.
pub data IsLeftUnbegun (may_open : StateData → Type 0) (old : ShownKeeper) (l : Option Left) : Type 0 where
  came : ComesOf old l → IsLeftUnbegun may_open old l
  rests : (image : StateData) → may_open image → l ≡ Some (at_rest image) → IsLeftUnbegun may_open old l

-- the keeper through an opening
pub record OpensKeeper (may_open : StateData → Type 0) (count : ℕ) (old new : ShownKeeper) (before now : ℕ) : Type 0 where
  pub goes_on : GoesOn old new before now
  pub leaves : IsTrue old.tells → LeavesOnly old new (IsLeftOfOpening may_open old count)

-- a book with so many engines over such an image and what the cloud lists, which agree, on which nothing has been done
pub record HasOpened {K P : Type 0} (may_open : StateData → Type 0) (shown : K → ShownKeeper) (faults_of : K → ℕ)
    (cloud_of : P → Cloud) (workers : ℕ) (keeper : K) (cloud : P) (b : Shown K P) : Type 0 where
  pub found : HasImageListed may_open (cloud_of cloud) (cloud_of b.origin.cloud)
  pub opened : IsOpenedFrom found.image b.opening (cloud_of b.origin.cloud) workers
  pub went : OpensKeeper may_open workers (shown keeper) (shown b.origin.keeper) (faults_of keeper)
      (faults_of b.origin.keeper)
  pub state : b.state ≡ b.opening
  pub entries : b.entries ≡ []
  pub keeper_is : b.keeper ≡ b.origin.keeper
  pub cloud_is : b.cloud ≡ b.origin.cloud
  pub unhalted : b.halt ≡ None

-- Why there is no book: what the keeper holds is no image; it and the list disagree, and this is found first; the keeper
-- failed, before the list or where it agrees; the cloud gave no list; they agree, and no numbers are left, for so many
-- engines or for the compaction that has to come first; or there was no memory.
pub data WhyUnopened (may_open : StateData → Type 0) (recalls : Bool) (keeper : ShownKeeper) (workers before now : ℕ)
    (old new : Cloud) (w : Unrestarted) : Type 0 where
  foreign : (IsTrue recalls → IsForeign may_open) → IsAsBefore old new → w ≡ unrestarted.Foreign
      → WhyUnopened may_open recalls keeper workers before now old new w
  disagrees : (token : Token) (finding : Finding) (it : HasImageListed may_open old new)
      → HasFound (opening_at it.image new) token finding → w ≡ unrestarted.Disagree token finding
      → WhyUnopened may_open recalls keeper workers before now old new w
  disk_fault : Rose before now → MayAgree (IsImage may_open) old new → w ≡ unrestarted.DiskFault
      → WhyUnopened may_open recalls keeper workers before now old new w
  cloud_fault : ListsNone old new → w ≡ unrestarted.CloudFault
      → WhyUnopened may_open recalls keeper workers before now old new w
  worn : (it : HasImageListed may_open old new) → FindsNothing (opening_at it.image new)
      → (2 ^ 62 < it.image.next.engine + workers) ⊎ IsStuck keeper → w ≡ unrestarted.Worn
      → WhyUnopened may_open recalls keeper workers before now old new w
  memory : MayList old new → w ≡ unrestarted.Memory → WhyUnopened may_open recalls keeper workers before now old new w

-- such a cause, and what is left of the keeper
pub record IsUnopened (may_open : StateData → Type 0) (workers : ℕ) (old new : ShownKeeper) (before now : ℕ)
    (c d : Cloud) (w : Unrestarted) : Type 0 where
  pub went : OpensKeeper may_open workers old new before now
  pub rests : w ≢ unrestarted.DiskFault → IsTrue old.tells → LeavesOnly old new (IsLeftUnbegun may_open old)
  pub why : WhyUnopened may_open old.recalls new workers before now c d w
