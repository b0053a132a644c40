use Rattle.std.proofs.Common.{◌≡◌, ◌≤◌, ◌++◌, List, ℕ, length}
use Rattle.heat_io.specs.Streams.{grown}
use Rattle.heat_io.proofs.put.put_all.Given as goal

-- what is done and what is left are all of the bytes
abbrev pub invariant-loop-rest : goal.invariant-loop-rest
invariant-loop-rest g l = record {
  written : (done : List ℕ) × (l.fn.bytes ≡ done ++ l.rest) × (g.K.Sink.holds l.sink ≡ grown (g.K.Sink.holds l.initial.sink) done);
  later : g.K.Sink.faults l.initial.sink ≤ g.K.Sink.faults l.sink;
}

abbrev pub decreases-loop-rest : goal.decreases-loop-rest
decreases-loop-rest g l = length l.rest
