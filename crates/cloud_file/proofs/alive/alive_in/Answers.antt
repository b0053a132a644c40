use Rattle.std.proofs.Common.{Err, ap, subst, inr, arith}
use Rattle.serde_json.specs.View.{view}
use Rattle.cloud_file.specs.Entries.{ReadsResource}
use Rattle.cloud_file.proofs.Places.{items_at}
use Rattle.cloud_file.proofs.alive.alive_in.Goals as goal

-- the fault of a resource is the list's
pub returns-in-Err-clause-read : goal.returns-in-Err-clause-read
returns-in-Err-clause-read c =
    c.loop-i.invariant (Err c.in_ok-under-in-Err.field-0)
    (rw (items_at c.args.items.now.items c.loop-i.i c.index.result.now (omega arith) c.index.ensures)
    (inr (
      c.in-Err.path,
      subst (λ r. ReadsResource c.loop-i.held.all (view c.index.result.now) r) c.in-Err.is c.in_ok-one.ensures.read,
      ap Err c.in_ok-under-in-Err.ensures,
    )))
