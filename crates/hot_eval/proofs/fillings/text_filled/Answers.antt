use Rattle.std.proofs.Common.{sym, subst}
use Rattle.hot_strings.specs.Indexes.{keys_in, IsIndexOf}
use Rattle.hot_strings.specs.Pieces.{Params}
use Rattle.hot_eval.proofs.fillings.text_filled.Goals as goal

pub replace_within-requires-clause-index : goal.replace_within-requires-clause-index
replace_within-requires-clause-index c =
    subst (λ (ps : Params). IsIndexOf (keys_in ps) c.args.choice.now.index) (sym c.as_slice.ensures.value) c.requires.index
