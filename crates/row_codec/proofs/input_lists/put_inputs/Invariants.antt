use Rattle.std.proofs.Common.{◌≡◌, ◌++◌, All, take, length}
use Rattle.std.specs.List.{flat_map}
use Rattle.plan_codec.specs.Numbers.{spelled_number}
use Rattle.plan_codec.specs.Sheets.{behind}
use Rattle.row_codec.specs.Records.{spelled_input, IsProperInput}
use Rattle.row_codec.proofs.input_lists.put_inputs.Given as goal

abbrev pub invariant-loop-input : goal.invariant-loop-input
invariant-loop-input l = record {
  so : l.sheet ≡ behind l.fn.sheet (spelled_number (length l.inputs) ++ flat_map spelled_input (take l.input-index l.inputs));
  each : All IsProperInput (take l.input-index l.inputs);
}
