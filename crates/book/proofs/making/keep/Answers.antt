use Rattle.book.proofs.Keepers.{empty_by, kept_nothing}
use Rattle.book.proofs.making.keep.Goals as goal

pub returns-then-is_empty-clause-keeps : goal.returns-then-is_empty-clause-keeps
returns-then-is_empty-clause-keeps g c s ready = kept_nothing _ _ _ s c.args.changes.now
    (empty_by c.args.changes.now c.is_empty.ensures c.if-is_empty.true) (g.met.K.Keeper.lawful c.args.keeper.now) ready
