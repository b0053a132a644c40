use Rattle.std.proofs.Common.{◌∙◌, sym}
use Rattle.hot_groups.proofs.Numbered.{meeting_here, meeting_later}
use Rattle.hot_groups.proofs.checking.first_meeting.Goals as goal

pub returns-then-is_some : goal.returns-then-is_some
returns-then-is_some c =
    meeting_here c.args.index_var.now c.args.props.now c.loop-i.i c.args.count _ _ _ c.loop-i-test.true
    c.in_ok-numbering.ensures c.in_ok-found.ensures c.loop-i.invariant (sym c.is_some.ensures ∙ c.if-is_some.true)

pub loop-i-preserved : goal.loop-i-preserved
loop-i-preserved c =
    meeting_later c.args.index_var.now c.args.props.now c.loop-i.i c.args.count _ _ _ c.loop-i-test.true
    c.in_ok-numbering.ensures c.in_ok-found.ensures c.loop-i.invariant (sym c.is_some.ensures ∙ c.if-is_some.false)
