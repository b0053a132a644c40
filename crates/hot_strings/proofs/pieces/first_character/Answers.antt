use Rattle.std.proofs.Common.{◌∙◌, sym}
use Rattle.hot_strings.proofs.Characters.{IsCharBoundary-first}
use Rattle.hot_strings.proofs.pieces.first_character.Goals as goal

pub split_at-requires : goal.split_at-requires
split_at-requires c =
    IsCharBoundary-first c.args.text.now _ c.in-Some.character c.len_utf8.result c.utf8.text (sym c.chars.ensures.rest ∙ c.in-Some.ensures.steps.0) c.len_utf8.ensures.len
