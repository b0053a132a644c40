use Rattle.std.proofs.Common.{◌≡◌, append_assoc, subst, sym}
use Rattle.state_images.specs.Snapshots.{IsSnapshot, snapshot}
use Rattle.state_images.proofs.Snapshotting.{made_snapshot}
use Rattle.state_images.proofs.writing.snapshot_of.Goals as goal

pub returns-clause-made : goal.returns-clause-made
returns-clause-made c =
    let e : c.add_last.new.changes ≡ snapshot c.args.s.now.state =
    rw (c.in_ok-add_last.ensures, c.in_ok-add_work.ensures, c.in_ok-add_stacks.ensures, c.new-changes.ensures) (simp append_assoc) in
    subst (IsSnapshot c.args.s.now.state) (sym e) (made_snapshot c.args.s.now.state c.requires)
