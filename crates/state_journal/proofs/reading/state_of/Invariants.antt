use Rattle.std.proofs.Common.{take}
use Rattle.state_journal.specs.Payloads.{Give}
use Rattle.state_journal.proofs.reading.state_of.Given as goal

-- the payloads so far give the state so far
abbrev pub invariant-loop-payload : goal.invariant-loop-payload
invariant-loop-payload l = Give (take l.payload-index l.payloads) l.state.state
