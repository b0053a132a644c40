use Rattle.std.proofs.Common.{◌↔◌, ◌≤◌, ◌+◌, length}
use Rattle.converge_call.specs.Options.{Said, Say, unsaid}
use Rattle.converge_call.specs.Choices.{said_of}
use Rattle.converge_call.proofs.chosen.said_by.Given as goal

-- what the rest says behind what is chosen is what all options say
abbrev pub invariant-loop-taken : goal.invariant-loop-taken
invariant-loop-taken l =
    (l.taken + length l.rest ≤ length l.options) ×
    ((s : Said) → Say l.rest (said_of l.chosen) s ↔ Say l.options unsaid s)
