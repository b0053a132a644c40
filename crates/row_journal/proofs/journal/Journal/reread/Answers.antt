-- As the reading says it.
use Rattle.std.proofs.Common.{◌≡◌, refl}
use Rattle.row_journal.specs.declared.fault.ReadFault.TheVariants as fault
use Rattle.row_journal.proofs.journal.Journal.reread.Goals as goal

pub returns-in-Err-clause-foreign : goal.returns-in-Err-clause-foreign
returns-in-Err-clause-foreign g c = rw (← c.self.view_is) (λ tells is.
    let one : c.in-Err.fault ≡ fault.Foreign = cc in c.in-Err.ensures.foreign tells (rw one refl))
