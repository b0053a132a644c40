-- The record's bytes are the spelling of the snapshot.
use Rattle.std.proofs.Common.{List, ℕ, refl, subst, sym}
use Rattle.row_codec.specs.Changes.{IsSpelling}
use Rattle.state_images.specs.Snapshots.{snapshot}
use Rattle.state_journal.proofs.Keeping.{compacted, nothing_done, snapshot_leaves}
use Rattle.state_journal.proofs.keeper.JournaledKeeper.compact.Goals as goal
use Rattle.state_journal.proofs.keeper.JournaledKeeper.compact.Goals.{in-Err, in-Ok}

pub returns-then-not-can_snapshot-clause-crash : goal.returns-then-not-can_snapshot-clause-crash
returns-then-not-can_snapshot-clause-crash g c =
    let it = c.requires.stands in
    λ tells. nothing_done _ _ _ (g.met.D.Disk.lawful _ tells) c.args.s.now.state (it.told tells)

pub returns-clause-done : goal.returns-clause-done
returns-clause-done g c =
    let spelling : IsSpelling c.as_slice.result.now (snapshot c.args.s.now.state) =
    subst (λ (l : List ℕ). IsSpelling l (snapshot c.args.s.now.state)) (sym c.as_slice.ensures)
    (c.fill.ensures.proper c.requires.keepable) in
    let stands = rw (← c.self.view_is) at c.requires.stands in
    λ can. elim c.match-snapshot.branch [
      | in-Ok w ↦ rw w.result-is (compacted _ _ _ _ _ _ c.snapshot.ensures.tells c.as_slice.result.now c.args.s.now.state
          c.requires.made spelling _ stands (w.in-Ok.ensures.going.1 refl) w.in-Ok.ensures.place w.in-Ok.ensures.taken)
      | in-Err w ↦ rw w.result-is tt
    ]

pub returns-clause-crash : goal.returns-clause-crash
returns-clause-crash g c =
    let spelling : IsSpelling c.as_slice.result.now (snapshot c.args.s.now.state) =
    subst (λ (l : List ℕ). IsSpelling l (snapshot c.args.s.now.state)) (sym c.as_slice.ensures)
    (c.fill.ensures.proper c.requires.keepable) in
    let stands = rw (← c.self.view_is) at c.requires.stands in
    rw (← c.self.view_is) (λ tells. snapshot_leaves _ _ _ _ _ _ c.snapshot.ensures.tells c.as_slice.result.now
    c.args.s.now.state c.requires.made spelling tells (stands.told tells) (c.snapshot.ensures.any_moment tells))
