use Rattle.std.proofs.Common.{◌≡◌, drop}
use Rattle.headline_reader.specs.Items.{facts_under}
use Rattle.headline_reader.proofs.needed.facts_under.Given as goal

abbrev pub invariant-loop-it : goal.invariant-loop-it
invariant-loop-it l = facts_under l.all l.need ≡ facts_under (drop l.it-index l.all) l.need
