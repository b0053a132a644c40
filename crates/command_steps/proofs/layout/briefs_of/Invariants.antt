use Rattle.std.proofs.Common.{◌≡◌, map, take}
use Rattle.step_relation.specs.Commands.{brief_of}
use Rattle.command_steps.proofs.layout.briefs_of.Given as goal

abbrev pub invariant-loop-row : goal.invariant-loop-row
invariant-loop-row l = l.briefs.items ≡ map brief_of (map (λ r. r.now) (take l.row-index l.rows))
