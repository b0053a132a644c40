use Rattle.hot_strings.proofs.Characters.{IsCharBoundary-behind}
use Rattle.hot_strings.proofs.pieces.behind.Goals as goal

pub split_at-requires : goal.split_at-requires
split_at-requires c = IsCharBoundary-behind c.args.key.now c.args.text.now c.requires.0 c.utf8.text c.utf8.key c.requires.1
