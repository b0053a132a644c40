use Rattle.std.proofs.Common.{◌++◌, ◌∙◌, sym, ap, arith}
use Rattle.std.proofs.lemmas.Str.Pattern.{strip_prefix_char}
use Rattle.converge_call.proofs.Options.{value_is}
use Rattle.converge_call.proofs.option.value_in.Goals as goal

pub returns : goal.returns
returns c = value_is c.args.word.now c.args.name.now c.in_ok-strip_prefix.field-0.now c.strip_prefix-2.result
    (c.in_ok-strip_prefix.ensures.cases.1.1 ∙ ap (λ l. c.args.name.now ++ l) (sym c.in_ok-strip_prefix.ensures.cases.2))
    (strip_prefix_char 61 c.in_ok-strip_prefix.field-0.now c.strip_prefix-2.result c.strip_prefix-2.ensures.cases (omega arith))
