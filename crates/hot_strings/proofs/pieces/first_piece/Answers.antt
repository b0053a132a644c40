use Rattle.std.proofs.Common.{◌≡◌, ◌<◌, ◌-◌, ◌++◌, ◌∙◌, ℕ, List, ap, sym, subst, length, arith}
use Rattle.std.proofs.lemmas.Option.{slice_get_within}
use Rattle.hot_strings.specs.Pieces.{key, character}
use Rattle.hot_strings.specs.Places.{Begins}
use Rattle.hot_strings.proofs.Characters.{at_character-text}
use Rattle.hot_strings.proofs.Indexing.{longest_param, no_param}
use Rattle.hot_strings.proofs.KeyLemmas.{item_there}
use Rattle.hot_strings.proofs.pieces.first_piece.Goals as goal

pub returns-then-longest-eq0-clause-piece : goal.returns-then-longest-eq0-clause-piece
returns-then-longest-eq0-clause-piece c =
    let first = c.first_character.ensures.character in
    (character first.0, first.3, (first.1, no_param c.args.params.now c.args.text.now c.args.longest c.if-longest-eq0.true c.requires.longest), first.2)

pub behind-requires : goal.behind-requires
behind-requires c =
    let found = longest_param c.args.params.now c.args.text.now (c.args.longest - 1) c.args.longest (omega (arith, c.if-longest-eq0.false)) c.requires.longest in
    let below = slice_get_within c.args.params.now (c.args.longest - 1) (found.0, found.1) found.2 in
    let item = item_there c.args.params.now (c.args.longest - 1) c.index-params-longest.result found.0 found.1 below c.index-params-longest.is found.2 in
    subst (λ (k : List ℕ). Begins k c.args.text.now) (sym (c.as_str-2.ensures.value ∙ item.0)) found.3.stands

pub returns-clause-piece : goal.returns-clause-piece
returns-clause-piece c =
    let found = longest_param c.args.params.now c.args.text.now (c.args.longest - 1) c.args.longest (omega (arith, c.if-longest-eq0.false)) c.requires.longest in
    let below = slice_get_within c.args.params.now (c.args.longest - 1) (found.0, found.1) found.2 in
    let item = item_there c.args.params.now (c.args.longest - 1) c.index-params-longest.result found.0 found.1 below c.index-params-longest.is found.2 in (
      key found.0 found.1,
      c.behind.ensures.value ∙ ap (λ k. k ++ c.behind.result.now) (c.as_str-2.ensures.value ∙ item.0),
      (at_character-text c.args.text.now c.utf8.text, found.3),
      c.as_str.ensures.value ∙ item.1,
    )
