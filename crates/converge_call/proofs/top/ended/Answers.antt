-- What a book promises as it is handed back.
use Rattle.std.proofs.Common.{subst}
use Rattle.std.specs.Prelude.{Option}
use Rattle.book.specs.Halts.{MayHalt}
use Rattle.book.specs.declared.halting.Halt.{Halt}
use Rattle.converge_call.proofs.top.ended.Goals as goal

pub returns-clause-promises : goal.returns-clause-promises
returns-clause-promises g c = record {
  run = c.promises.ensures.run;
  held = c.promises.ensures.held;
  sound = c.promises.ensures.sound;
  headline = c.promises.ensures.headline;
  cause = subst (λ (h : Option Halt). MayHalt g.K.Keeper.faults c.args.book h) c.halted.ensures.value
      c.halted.ensures.cause;
}
