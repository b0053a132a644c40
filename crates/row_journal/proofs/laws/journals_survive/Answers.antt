use Rattle.row_journal.proofs.Lives.{survived}
use Rattle.row_journal.proofs.laws.journals_survive.Goals as goal

pub returns : goal.returns
returns g c tells first k disk life = survived g.D.Disk.shown (λ d. g.met.D.Disk.lawful d (tells d)) first k disk life
