-- What the rest says behind what is chosen is what all options say.
use Rattle.std.proofs.Common.{rules, arith}
use Rattle.converge_call.specs.Options as said
use Rattle.converge_call.specs.Options.{unsaid}
use Rattle.converge_call.specs.Choices.{said_of}
use Rattle.converge_call.proofs.Saying.{said_whole, said_behind, said_by_none}
use Rattle.converge_call.proofs.chosen.said_by.Goals as goal

pub returns-then-is_empty : goal.returns-then-is_empty
returns-then-is_empty c =
    (c.loop-taken.invariant.1 (said_of c.loop-taken.chosen)).0
    (said_whole c.loop-taken.rest.now (said_of c.loop-taken.chosen) (search rules))

pub returns-in_err-chosen : goal.returns-in_err-chosen
returns-in_err-chosen c = rw c.from_residual.ensures (λ s say.
    said_by_none c.loop-taken.rest.now (said_of c.loop-taken.chosen) s c.in_err-chosen.ensures.read (search rules)
    ((c.loop-taken.invariant.1 s).1 say))

pub loop-taken-preserved : goal.loop-taken-preserved
loop-taken-preserved c = (
  let some = c.loop-taken.invariant.0 in let less = c.in_ok-chosen.ensures.less in omega (arith, some, less),
  λ s. (
    (λ say. (c.loop-taken.invariant.1 s).0 (said.further _ _ _ _ _ c.in_ok-chosen.ensures.read say)),
    (λ say. said_behind _ _ _ _ _ c.in_ok-chosen.ensures.read ((c.loop-taken.invariant.1 s).1 say)),
  ),
)

pub returns-then-is_empty-2 : goal.returns-then-is_empty-2
returns-then-is_empty-2 c =
    (c.loop-taken.invariant.1 (said_of c.loop-taken.chosen)).0
    (said_whole c.loop-taken.rest.now (said_of c.loop-taken.chosen) (search rules))
