-- A keeper that isn't old stays as it is; another is compacted.
use Rattle.std.proofs.Common.{ap, sym, ◌∙◌}
use Rattle.std.specs.Prelude.{Err}
use Rattle.book.proofs.Startings.{renews_fault, renews_lacking, renews_old, renews_still, renews_young}
use Rattle.book.proofs.opening.renew.Goals as goal

pub returns-then-not-is_old : goal.returns-then-not-is_old
returns-then-not-is_old g c n = renews_still _ _ (g.met.K.Keeper.lawful _) _ n _ c.requires.stands
    (sym c.is_old.ensures ∙ c.if-not-is_old.true)

pub returns-in-Err-DiskFault : goal.returns-in-Err-DiskFault
returns-in-Err-DiskFault g c n = renews_fault _ _ _ n _ _ c.shorten.result c.shorten.ensures
    (c.in-Err-DiskFault.is ∙ ap Err c.in-Err-DiskFault.field-0-is)

pub returns-in-Err-Memory : goal.returns-in-Err-Memory
returns-in-Err-Memory g c n = renews_lacking _ _ _ n _ _ c.shorten.result c.shorten.ensures
    (c.in-Err-Memory.is ∙ ap Err c.in-Err-Memory.field-0-is)

pub returns-then-is_old : goal.returns-then-is_old
returns-then-is_old g c n = renews_old _ _ _ n _ _ c.shorten.result c.shorten.ensures c.in-Ok.is
    (sym c.is_old-2.ensures ∙ c.if-is_old.true)

pub returns : goal.returns
returns g c n = renews_young _ _ _ n _ _ c.shorten.result c.shorten.ensures c.in-Ok.is
    (sym c.is_old-2.ensures ∙ c.if-is_old.false)
