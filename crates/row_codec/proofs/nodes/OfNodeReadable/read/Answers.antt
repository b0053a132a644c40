use Rattle.std.proofs.Common.{rules, arith, inl, inr}
use Rattle.plan_codec.proofs.Readings.{tag_past}
use Rattle.row_codec.proofs.NodeReadings.{no_node}
use Rattle.row_codec.proofs.nodes.OfNodeReadable.read.Goals.{in_default-via-then-bytes-lt1, in_default-via-else-bytes-lt1+in_default-1}
use Rattle.row_codec.proofs.nodes.OfNodeReadable.read.Goals as goal

pub returns-in_default-clause-err : goal.returns-in_default-clause-err
returns-in_default-clause-err c = elim c.in_default.branch [
  | in_default-via-then-bytes-lt1 w ↦ no_node c.args.bytes.now (tag_past 2 c.args.bytes.now (inl (search rules)))
  | in_default-via-else-bytes-lt1+in_default-1 w ↦ no_node c.args.bytes.now (tag_past 2 c.args.bytes.now (inr (omega arith)))
]
