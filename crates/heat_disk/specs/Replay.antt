-- One step of the bytes of a half and of its longest image, as a replay of the calls takes it.
use Rattle.std.specs.Prelude.{ℕ, List, length, take, replicate}
use Rattle.heat_disk.specs.Images.{overwritten}
use Rattle.heat_disk.specs.History.{Step, wrote, cut_to, synced}

-- what a read gives after the step
abbrev pub seen_after : Step → List ℕ → List ℕ
seen_after (wrote at bytes) seen = overwritten at bytes seen
seen_after (cut_to len) seen = take len seen
seen_after synced seen = seen

-- the longest image after the step, with b where anything may stand
abbrev pub filled_after : ℕ → Step → List ℕ → List ℕ → List ℕ
filled_after b (wrote at bytes) seen longest = overwritten (length (take at seen)) (replicate (length bytes) b) longest
filled_after b (cut_to len) seen longest = longest
filled_after b synced seen longest = seen
