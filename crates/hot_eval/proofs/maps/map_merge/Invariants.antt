use Rattle.std.proofs.Common.{◌≡◌, drop}
use Rattle.heat_value.specs.Data.{no_members}
use Rattle.heat_value.specs.Meaning.{data_of, nodes_of}
use Rattle.eval_words.specs.Maps.{merged_onto}
use Rattle.eval_words.specs.Sorts.{listed}
use Rattle.hot_eval.proofs.maps.map_merge.Given as goal

-- the objects left, merged onto the map so far
abbrev pub invariant-loop-part : goal.invariant-loop-part
invariant-loop-part l =
    merged_onto l.merged (nodes_of (drop l.part-index l.part-items)) ≡ merged_onto no_members (listed (data_of l.argument))
