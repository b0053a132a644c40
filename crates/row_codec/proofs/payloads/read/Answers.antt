use Rattle.plan_codec.specs.declared.unread.Unread.TheVariants as unread
use Rattle.std.proofs.Common.{◌≡◌}
use Rattle.row_codec.proofs.PayloadLemmas.{some_read, no_some, none_left, none_unread}
use Rattle.row_codec.proofs.payloads.read.Goals as goal

pub returns-in-Ok-clause-some : goal.returns-in-Ok-clause-some
returns-in-Ok-clause-some c = some_read (λ v. v.items) c.whole.result c.args.bytes.now c.in-Ok.rest.now
    c.in-Ok.changes.items c.in-Ok.ensures.ok c.whole.ensures.some

pub returns-in-Ok-clause-none : goal.returns-in-Ok-clause-none
returns-in-Ok-clause-none c = none_left c.whole.result c.args.bytes.now c.in-Ok.rest.now c.in-Ok.changes.items
    c.in-Ok.ensures.ok c.whole.ensures.none

pub returns-in-Err-clause-some : goal.returns-in-Err-clause-some
returns-in-Err-clause-some c = no_some (λ v. v.items) c.nothing_read.result c.args.bytes.now (c.in-Err.why ≡ unread.Unspelled)
    c.nothing_read.ensures

pub returns-in-Err-clause-none : goal.returns-in-Err-clause-none
returns-in-Err-clause-none c = none_unread c.nothing_read.result c.args.bytes.now c.in-Err.why c.in-Err.ensures.err c.nothing_read.ensures
