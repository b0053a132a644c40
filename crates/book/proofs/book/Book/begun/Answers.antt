-- On a book that begins nothing has been done.
use Rattle.std.proofs.Common.{ap, subst, sym}
use Rattle.provider.specs.Cloud.{Cloud}
use Rattle.book.specs.Kept.{IsOpenedFrom}
use Rattle.book.proofs.Crashed.{left_at_first}
use Rattle.book.proofs.Growing.{kept_at_first}
use Rattle.book.proofs.Held.{held_at_first}
use Rattle.book.proofs.book.Book.begun.Goals as goal

pub invariant_of-result : goal.invariant_of-result
invariant_of-result g c =
    let b = c.requires in (
      kept_at_first _ _ b.image b.count _ _ _
          (subst (λ (x : Cloud). IsOpenedFrom b.image c.args.start.opening.state x b.count) (ap g.P.Provider.cloud (sym c.of-cloud_then.ensures))
          b.opened)
          b.copied b.silent (ap g.P.Provider.cloud c.of-cloud_then.ensures),
      (
        held_at_first _ _ _ _ _ (ap g.K.Keeper.shown c.of-keeper_then.ensures)
            (ap g.K.Keeper.faults c.of-keeper_then.ensures) b.ready,
        (
          tt,
          left_at_first _ _ _ _ _ (g.met.K.Keeper.lawful _) _ _ _ (ap g.K.Keeper.shown c.of-keeper_then.ensures) b.copied
              b.silent b.ready,
        ),
      ),
    )
