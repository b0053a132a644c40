-- What was read, against the state that is asked for.
use Rattle.std.proofs.Common.{◌≡◌, ◌∙◌, Err, ap, sym}
use Rattle.record_keeper.specs.declared.open_fault.OpenFault.TheVariants as fault
use Rattle.state_journal.proofs.Keeping.{never_stood, reread_as, stays}
use Rattle.state_journal.proofs.Leavings.{leaves_alike}
use Rattle.state_journal.proofs.keeper.JournaledKeeper.reread.Goals as goal
use Rattle.state_journal.proofs.keeper.JournaledKeeper.reread.Goals.{in-Err, in-Ok}

pub returns-clause-read : goal.returns-clause-read
returns-clause-read g c = rw (← c.self.view_is) (λ tells. elim c.match-look.branch [
  | in-Ok w ↦ rw w.result-is (reread_as _ _ _ _ _ w.equals.result w.equals.ensures tells (w.in-Ok.ensures.read tells))
  | in-Err w ↦ rw w.result-is tt
])

pub returns-clause-foreign : goal.returns-clause-foreign
returns-clause-foreign g c = rw (← c.self.view_is) (λ is tells stood read tied. elim c.match-look.branch [
  | in-Ok w ↦ (let both = sym w.result-is ∙ is in absurd (let no : ⊥ = cc in no))
  | in-Err w ↦ (let both = sym w.result-is ∙ is in let one : w.in-Err.fault ≡ fault.Foreign = cc in
      never_stood _ _ _ (w.in-Err.ensures.foreign (ap Err one) tells) tells _ stood)
])

pub returns-clause-no_image : goal.returns-clause-no_image
returns-clause-no_image g c = rw (← c.self.view_is) (λ is tells s may read tied. elim c.match-look.branch [
  | in-Ok w ↦ (let both = sym w.result-is ∙ is in absurd (let no : ⊥ = cc in no))
  | in-Err w ↦ (let both = sym w.result-is ∙ is in let one : w.in-Err.fault ≡ fault.Foreign = cc in
      w.in-Err.ensures.foreign (ap Err one) tells s (may tells).holds)
])

pub returns-clause-same : goal.returns-clause-same
returns-clause-same g c = rw (← c.self.view_is) (λ fine. stays _ _ _ _ _ _ c.look.ensures.same.tells c.look.ensures.place
    c.look.ensures.failed c.look.ensures.ready)

pub returns-clause-crash : goal.returns-clause-crash
returns-clause-crash g c = rw (← c.self.view_is) (λ tells. leaves_alike _ _ _ _ _ _ tells c.look.ensures.same.tells
    (g.met.D.Disk.lawful _ tells) (c.look.ensures.alike tells))
