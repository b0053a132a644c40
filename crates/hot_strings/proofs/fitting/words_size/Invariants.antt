use Rattle.std.proofs.Common.{◌≡◌, ◌+◌, ◌-◌, ◌^◌, ℕ, length, drop}
use Rattle.std.specs.Prelude.{min}
use Rattle.json.specs.Print.{escape}
use Rattle.hot_strings.proofs.fitting.words_size.Given as goal

-- the bytes so far and the rest take what all take
abbrev pub invariant-loop-byte : goal.invariant-loop-byte
invariant-loop-byte l = (n : ℕ) × (l.size ≡ min n (2 ^ 64 - 1)) × (n + length (escape (drop l.byte-index l.byte-items)) ≡ 2 + length (escape l.byte-items))
