use Rattle.std.proofs.Common.{◌≡◌, ◌+◌, length, drop}
use Rattle.json.specs.Print.{escape}
use Rattle.hot_strings.proofs.size.room_after.Given as goal

-- what is left has room for the rest exactly where the room has room for all
abbrev pub invariant-loop-byte : goal.invariant-loop-byte
invariant-loop-byte l = l.left + length (escape l.byte-items) ≡ l.room + length (escape (drop l.byte-index l.byte-items))
