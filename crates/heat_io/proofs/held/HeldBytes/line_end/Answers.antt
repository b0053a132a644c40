use Rattle.std.proofs.Common.{None, Some}
use Rattle.heat_io.specs.Lines.{is_lf}
use Rattle.heat_io.proofs.Ends.{position_is}
use Rattle.heat_io.proofs.held.HeldBytes.line_end.Goals as goal

pub returns-in-None : goal.returns-in-None
returns-in-None c =
    position_is is_lf c.args.from c.args.self.now c.as_slice.result.now c.first_lf.result None c.requires.within c.requires.searched
    c.as_slice.ensures.held c.first_lf.ensures c.in-None.is

pub returns-in-Some : goal.returns-in-Some
returns-in-Some c =
    position_is is_lf c.args.from c.args.self.now c.as_slice.result.now c.first_lf.result (Some c.in-Some.count) c.requires.within c.requires.searched
    c.as_slice.ensures.held c.first_lf.ensures c.in-Some.is
