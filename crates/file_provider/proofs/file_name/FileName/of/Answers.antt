use Rattle.file_provider.proofs.Inside.{inside}
use Rattle.file_provider.proofs.file_name.FileName.of.Goals as goal

pub invariant_of-result : goal.invariant_of-result
invariant_of-result c = rw c.in_ok-text.ensures (inside c.args.token.now c.look.ensures)
