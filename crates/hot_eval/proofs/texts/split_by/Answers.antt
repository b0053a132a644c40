use Rattle.std.proofs.Common.{sym, subst}
use Rattle.std.proofs.lemmas.Result.{err_from_is_err_and}
use Rattle.heat_value.specs.Data.{Nodes}
use Rattle.hot_functions.proofs.Lengths.{first_value}
use Rattle.hot_eval.specs.Answers.{IsFaultOf}
use Rattle.eval_words.specs.Faults.{of_text_function}
use Rattle.eval_words.specs.Texts.{split_asked, asked_in}
use Rattle.hot_eval.proofs.Replacements.{split_fault}
use Rattle.hot_eval.proofs.texts.split_by.Goals as goal

pub returns-in_err-split-in-len1-up : goal.returns-in_err-split-in-len1-up
returns-in_err-split-in-len1-up c =
    let p = err_from_is_err_and c.from_residual-in_err-split-in-len1-up.result
    c.from_residual-in_err-split-in-len1-up.ensures.1 in
    rw (p.1, p.2) (subst
    (λ (ns : Nodes). IsFaultOf (of_text_function c.in_err-split-in-len1-up.field-0.0)
    (split_asked (asked_in ns) c.args.delimiter.now c.args.text.now))
    (sym (first_value c.args.index.now c.index-item.result c.index-item.is c.in-len1-up.len_at_least))
    (split_fault _ _ _ _ c.in_err-split-in-len1-up.ensures.err))
