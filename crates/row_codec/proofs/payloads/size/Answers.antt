use Rattle.row_codec.specs.Changes.{spelled}
use Rattle.row_codec.proofs.PayloadLemmas.{counted}
use Rattle.row_codec.proofs.payloads.size.Goals as goal

pub returns : goal.returns
returns c = rw (c.count.ensures, c.put_changes.ensures.bytes, c.new-sheet.ensures) (counted (spelled c.args.changes.now) 0)
