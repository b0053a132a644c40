-- Each turn takes back the last that was written.
use Rattle.std.proofs.Common.{List, sym, ap, ◌∙◌}
use Rattle.report.specs.Seen.{SeenData}
use Rattle.report.specs.Undone.{shown, unwound}
use Rattle.report.specs.declared.log.Was.{Was}
use Rattle.report.proofs.Backwards.{unwound-last, can_unwind_rest}
use Rattle.report.proofs.seen.Seen.unwind.Goals as goal

pub loop-was-preserved : goal.loop-was-preserved
loop-was-preserved c = record {
  same = ap (λ (s : SeenData). unwound c.pop.new.self.items s) c.undo.ensures.seen
      ∙ sym (unwound-last c.pop.new.self.items c.in-Some.was (shown c.loop-was.self))
      ∙ ap (λ (l : List Was). unwound l (shown c.loop-was.self)) (sym c.in-Some.ensures)
      ∙ c.loop-was.invariant.same;
  back = can_unwind_rest c.loop-was.log c.pop.new.self c.loop-was.self c.undo.new.self c.in-Some.was
      c.loop-was.invariant.back c.in-Some.ensures
      c.undo.ensures.rows c.undo.ensures.stacks;
}
