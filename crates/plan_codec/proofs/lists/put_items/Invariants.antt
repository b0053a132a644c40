use Rattle.std.proofs.Common.{◌≡◌, ◌++◌, All, take, length}
use Rattle.std.specs.List.{flat_map}
use Rattle.plan_codec.specs.Numbers.{spelled_number}
use Rattle.plan_codec.specs.Sheets.{behind}
use Rattle.plan_codec.proofs.lists.put_items.Given as goal

abbrev pub invariant-loop-item : goal.invariant-loop-item
invariant-loop-item g l = record {
  so : l.sheet ≡ behind l.fn.sheet
      (spelled_number (length l.items) ++ flat_map g.T.Readable.spelled (take l.item-index l.items));
  each : All g.T.Readable.proper (take l.item-index l.items);
}
