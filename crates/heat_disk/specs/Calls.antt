-- What each call of a disk that tells its content makes of what it shows.
use Rattle.std.specs.Prelude.{◌≡◌, ℕ, List, length, take, Result, IfOk, OnOk, OnErr}
use Rattle.heat_disk.specs.declared.half.Half.{Half}
use Rattle.heat_disk.specs.Halves.{Pair, part, changed}
use Rattle.heat_disk.specs.Images.{overwritten, Fills, Torn, Cut, PartlyWritten, StepsAt, Follows, Only}
use Rattle.heat_disk.specs.Shown.{ShownDisk, Elapses}

-- it reads as before, and a crash leaves nothing new
pub record ReadsAlike (old new : ShownDisk) : Type 0 where
  pub seen : new.seen ≡ old.seen
  pub crash : (c : Pair) → new.may_leave c → old.may_leave c
  pub time : Elapses old new

-- `len`
pub record Measures {E : Type 0} (half : Half) (result : Result ℕ E) (old new : ShownDisk) : Type 0 where
  pub len : IfOk result (λ n. n ≡ length (part half old.seen))
  pub alike : ReadsAlike old new

-- `read_at`
pub record Reads {E : Type 0} (half : Half) (at : ℕ) (buf_old buf_new : List ℕ) (result : Result ℕ E)
    (old new : ShownDisk) : Type 0 where
  pub read : IfOk result (λ n. Fills (part half old.seen) at buf_old buf_new n)
  pub alike : ReadsAlike old new

-- `write_at`: a crash finds the range torn until the next sync, also where the write failed
pub record Writes {T E : Type 0} (half : Half) (at : ℕ) (bytes : List ℕ) (result : Result T E)
    (old new : ShownDisk) : Type 0 where
  pub written : OnOk result (new.seen ≡ changed half (overwritten at bytes) old.seen)
  pub partly : OnErr result (StepsAt half (PartlyWritten at bytes) old.seen new.seen)
  pub crash : Follows half (Torn at (length bytes)) old.may_leave new.may_leave
  pub time : Elapses old new

-- `cut`: a crash finds more of what stood there until the next sync, also where the cut failed
pub record Cuts {T E : Type 0} (half : Half) (len : ℕ) (result : Result T E) (old new : ShownDisk) : Type 0 where
  pub cut : OnOk result (new.seen ≡ changed half (take len) old.seen)
  pub partly : OnErr result (StepsAt half (Cut len) old.seen new.seen)
  pub crash : Follows half (Cut len) old.may_leave new.may_leave
  pub time : Elapses old new

-- `sync`: after it a crash leaves of this half what a read gives
pub record Syncs {T E : Type 0} (half : Half) (result : Result T E) (old new : ShownDisk) : Type 0 where
  pub durable : OnOk result (Only half (part half old.seen) new.may_leave)
  pub alike : ReadsAlike old new
