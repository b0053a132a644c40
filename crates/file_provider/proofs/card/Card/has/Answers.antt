use Rattle.file_provider.proofs.Sames.{decided}
use Rattle.file_provider.proofs.card.Card.has.Goals as goal

pub returns : goal.returns
returns c = decided c.equals.result c.args.self.now.props c.args.props.now c.equals.ensures
