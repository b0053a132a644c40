use Rattle.check_steps.proofs.Seeing.{plain_takes, plain_takes_over}
use Rattle.check_steps.proofs.looking.look.Goals as goal

pub returns-in-Take : goal.returns-in-Take
returns-in-Take c = plain_takes _ c.args.e _ c.in-Take.ensures

pub returns-in-TakeOver : goal.returns-in-TakeOver
returns-in-TakeOver c = plain_takes_over _ c.args.e _ _ c.in-TakeOver.ensures
