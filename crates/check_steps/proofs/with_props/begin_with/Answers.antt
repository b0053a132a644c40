use Rattle.check_steps.proofs.Moves.{starts}
use Rattle.check_steps.proofs.Turned.{made_turn, prepared_quiet, refused_turn}
use Rattle.check_steps.proofs.with_props.begin_with.Goals as goal

pub returns-in-Init-clause-made : goal.returns-in-Init-clause-made
returns-in-Init-clause-made c = made_turn _ _ _ _ _ _ (prepared_quiet _ _)
    (starts c.args.s.now.state c.args.e c.args.found.now c.args.props.now c.args.effect c.requires c.in-Init.is)
    c.start.ensures.made

pub returns-in-Init-clause-cause : goal.returns-in-Init-clause-cause
returns-in-Init-clause-cause c = refused_turn _ _ _ _ _ _
    (starts c.args.s.now.state c.args.e c.args.found.now c.args.props.now c.args.effect c.requires c.in-Init.is)
    c.start.ensures.cause
