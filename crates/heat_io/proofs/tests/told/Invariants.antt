use Rattle.std.proofs.Common.{IsTrue}
use Rattle.heat_io.proofs.tests.told.Given as goal

abbrev pub invariant-loop : goal.invariant-loop
invariant-loop g l = IsTrue l.reader.goes_on
