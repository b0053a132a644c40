-- What a fuse holds, and what a call spends of it.
use Rattle.std.specs.Prelude.{◌≡◌, ℕ, ◌-◌, ◌<◌, Result, IsErr}
use Rattle.heat_disk.specs.declared.fuse.Fuse.{Fuse}
use Rattle.heat_value.specs.Counts.{Rose}

-- the disk behind it
abbrev pub disk_of : {D : Type 0} → Fuse D → D
disk_of f = f.disk

-- how many calls it still passes on
abbrev pub passes_left : {D : Type 0} → Fuse D → ℕ
passes_left f = f.passes

-- how many it has failed by itself
abbrev pub own_faults : {D : Type 0} → Fuse D → ℕ
own_faults f = f.faults

-- a call takes one of the passes; where none is left, it fails and doesn't reach the disk
pub record Burns {D T E : Type 0} (old new : Fuse D) (result : Result T E) : Type 0 where
  pub spent : new.passes ≡ old.passes - 1
  pub blown : old.passes ≡ 0 → IsErr result × (new.disk ≡ old.disk) × Rose old.faults new.faults
  pub passed : 0 < old.passes → new.faults ≡ old.faults
