-- What can still be drawn or raised.
use Rattle.std.specs.Prelude.{◌+◌, ◌<◌, ◌^◌}
use Rattle.row_table.specs.declared.row.Row.{Row}

-- the row's key can be raised by one
abbrev pub MayRise : Row → Type 0
MayRise r = r.key + 1 < 2 ^ 62
