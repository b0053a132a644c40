-- What is known of the adapters over std: their counts.
use Rattle.std.specs.Prelude.{ℕ}
use Rattle.heat_io.specs.declared.std_source.StdSource.{StdSource}
use Rattle.heat_io.specs.declared.std_sink.StdSink.{StdSink}

abbrev pub source_faults : {R : Type 0} → StdSource R → ℕ
source_faults source = source.faults

abbrev pub sink_faults : {W : Type 0} → StdSink W → ℕ
sink_faults sink = sink.faults
