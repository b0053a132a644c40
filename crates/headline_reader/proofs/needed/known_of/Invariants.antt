use Rattle.std.proofs.Common.{List, ◌++◌, ◌≡◌, drop}
use Rattle.std.specs.Prelude.{option_map}
use Rattle.heat_plan.specs.declared.facts.KnownFacts.{KnownFacts}
use Rattle.headline_reader.specs.Items.{known_of}
use Rattle.headline_reader.proofs.needed.known_of.Given as goal

abbrev pub invariant-loop-need : goal.invariant-loop-need
invariant-loop-need l =
    known_of l.all l.needs ≡ option_map (λ (ks : List KnownFacts). l.known ++ ks) (known_of l.all (drop l.need-index l.needs))
