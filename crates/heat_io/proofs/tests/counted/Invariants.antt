use Rattle.std.proofs.Common.{IsTrue}
use Rattle.heat_io.proofs.tests.counted.Given as goal

abbrev pub invariant-loop-lines : goal.invariant-loop-lines
invariant-loop-lines l = IsTrue l.reader.goes_on
