use Rattle.std.proofs.Common.{◌≡◌, ◌↔◌, drop}
use Rattle.heat_value.specs.Meaning.{nodes_of}
use Rattle.regex.specs.Strings.{matcher_pattern}
use Rattle.hot_params.specs.Patterns.{AreWhole}
use Rattle.hot_params.specs.Rules.{texts_among}
use Rattle.hot_params.proofs.pattern.items_are_whole.Given as goal

-- the pattern stays, and what is left decides
abbrev pub invariant-loop-value : goal.invariant-loop-value
invariant-loop-value l =
    (matcher_pattern l.matcher ≡ matcher_pattern l.initial.matcher)
    × (AreWhole (matcher_pattern l.initial.matcher) (texts_among l.items)
    ↔ AreWhole (matcher_pattern l.initial.matcher) (texts_among (nodes_of (drop l.value-index l.value-items))))
