use Rattle.std.proofs.Common.{◌≡◌, drop}
use Rattle.headline_reader.specs.Called.{is_among}
use Rattle.headline_reader.proofs.releases.is_among.Given as goal

abbrev pub invariant-loop-other : goal.invariant-loop-other
invariant-loop-other l = is_among l.token (drop l.other-index l.tokens) ≡ is_among l.token l.tokens
