use Rattle.std.proofs.Common.{◌≡◌, ◌∙◌, ap, sym, subst, Ok}
use Rattle.std.proofs.lemmas.Result.{err_from_is_err_and}
use Rattle.heat_value.specs.Data.{words}
use Rattle.hot_strings.specs.Pieces.{Params, AreDistinct}
use Rattle.hot_eval.specs.Answers.{IsFaultOf}
use Rattle.eval_words.specs.Faults.{of_text_function}
use Rattle.eval_words.specs.Texts.{put_into, params_of}
use Rattle.hot_eval.proofs.Replacements.{replace_fault, replace_answer, distinct_params}
use Rattle.hot_eval.proofs.texts.put_into.Goals as goal

pub replace-requires : goal.replace-requires
replace-requires c =
    subst AreDistinct (sym (c.as_slice-2.ensures.value ∙ (c.in_ok-params.ensures ∙ ap params_of c.as_slice.ensures.members)))
    (distinct_params _ c.as_slice.ensures.rising)

pub returns-in_err-replace : goal.returns-in_err-replace
returns-in_err-replace c =
    let p = err_from_is_err_and c.from_residual-in_err-replace.result c.from_residual-in_err-replace.ensures.1 in
    rw (p.1, p.2) (subst
    (λ (ps : Params). IsFaultOf (of_text_function c.in_err-replace.field-0.0) (put_into c.args.strict ps c.args.template.now))
    (c.as_slice-2.ensures.value ∙ (c.in_ok-params.ensures ∙ ap params_of c.as_slice.ensures.members))
    (replace_fault _ _ _ _ c.in_err-replace.ensures.err c.in_err-replace.ensures.answer))

pub returns : goal.returns
returns c =
    subst (λ (ps : Params). put_into c.args.strict ps c.args.template.now ≡ Ok (words c.in_ok-replace.field-0))
    (c.as_slice-2.ensures.value ∙ (c.in_ok-params.ensures ∙ ap params_of c.as_slice.ensures.members))
    (replace_answer _ _ _ _ c.in_ok-replace.ensures.ok c.in_ok-replace.ensures.keys c.in_ok-replace.ensures.all
    c.in_ok-replace.ensures.answer)
