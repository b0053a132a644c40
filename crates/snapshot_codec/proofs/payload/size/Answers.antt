use Rattle.std.proofs.Common.{◌∙◌, ◌-◌, ◌^◌, ℕ, ap, min}
use Rattle.row_codec.proofs.PayloadLemmas.{counted}
use Rattle.state_images.specs.Snapshots.{snapshot}
use Rattle.snapshot_codec.specs.Puts.{numbered}
use Rattle.snapshot_codec.proofs.Spelled.{same_length}
use Rattle.snapshot_codec.proofs.payload.size.Goals as goal

pub returns : goal.returns
returns c =
    let cs = snapshot c.args.s.now.state in
    rw (c.count.ensures, c.put_snapshot.ensures.bytes, c.new-sheet.ensures)
    (counted (numbered cs) 0 ∙ ap (λ (n : ℕ). min n (2 ^ 64 - 1)) (same_length cs))
