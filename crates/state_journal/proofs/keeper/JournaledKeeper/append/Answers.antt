-- The record's bytes are the spelling of the changes.
use Rattle.std.proofs.Common.{List, ℕ, refl, subst, sym}
use Rattle.row_codec.specs.Changes.{IsSpelling}
use Rattle.snapshot_codec.proofs.Spelled.{all_storable}
use Rattle.state_journal.proofs.Keeping.{append_leaves, appended}
use Rattle.state_journal.proofs.keeper.JournaledKeeper.append.Goals as goal
use Rattle.state_journal.proofs.keeper.JournaledKeeper.append.Goals.{in-Err, in-Ok}

pub returns-clause-ok : goal.returns-clause-ok
returns-clause-ok g c =
    let spelling : IsSpelling c.as_slice.result.now c.args.changes.now =
    subst (λ (l : List ℕ). IsSpelling l c.args.changes.now) (sym c.as_slice.ensures)
    (c.fill.ensures.proper (all_storable c.args.changes.now c.requires.keepable)) in
    let applies = rw (← c.self.view_is) at c.requires.applies in
    rw (← c.self.view_is) (elim c.match-append.branch [
      | in-Ok w ↦ rw w.result-is (appended _ _ _ _ _ _ c.append.ensures.tells c.as_slice.result.now c.args.changes.now
          spelling applies (w.in-Ok.ensures.going.1 refl) c.append.ensures.version w.in-Ok.ensures.acknowledged)
      | in-Err w ↦ rw w.result-is tt
    ])

pub returns-clause-crash : goal.returns-clause-crash
returns-clause-crash g c =
    let spelling : IsSpelling c.as_slice.result.now c.args.changes.now =
    subst (λ (l : List ℕ). IsSpelling l c.args.changes.now) (sym c.as_slice.ensures)
    (c.fill.ensures.proper (all_storable c.args.changes.now c.requires.keepable)) in
    let applies = rw (← c.self.view_is) at c.requires.applies in
    rw (← c.self.view_is) (λ tells s it. append_leaves _ _ _ _ _ _ c.append.ensures.tells c.as_slice.result.now
    c.args.changes.now spelling tells s it (applies s it) (c.append.ensures.any_moment tells))
