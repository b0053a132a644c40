use Rattle.std.proofs.Common.{◌≡◌, ◌≤◌, ◌+◌, drop}
use Rattle.hot_params.specs.Sizes.{characters}
use Rattle.hot_params.proofs.size.characters.Given as goal

-- those so far and those left are all
abbrev pub invariant-loop-byte : goal.invariant-loop-byte
invariant-loop-byte l =
    (l.count ≤ l.byte-index) × (l.count + characters (drop l.byte-index l.byte-items) ≡ characters l.text)
