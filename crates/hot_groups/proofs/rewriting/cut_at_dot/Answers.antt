use Rattle.std.proofs.Common.{Some, None, arith, ap, ◌∙◌}
use Rattle.std.proofs.lemmas.Str.Pattern.{split_once_first}
use Rattle.hot_groups.proofs.Fronts.{dot_there, no_dot_behind, no_dot_before}
use Rattle.hot_groups.proofs.rewriting.cut_at_dot.Goals as goal

pub returns-in-Some-clause-before : goal.returns-in-Some-clause-before
returns-in-Some-clause-before c =
    (split_once_first 46 c.args.text.now (Some (c.in-Some.before, c.in-Some.behind)) c.in-Some.ensures.cases (omega arith)).1

pub returns-in-Some-clause-behind : goal.returns-in-Some-clause-behind
returns-in-Some-clause-behind c =
    let parts = split_once_first 46 c.args.text.now (Some (c.in-Some.before, c.in-Some.behind)) c.in-Some.ensures.cases (omega arith) in
    ap (λ x. Some x) parts.2 ∙ dot_there c.args.text.now parts.0

pub returns-in-None-clause-before : goal.returns-in-None-clause-before
returns-in-None-clause-before c =
    no_dot_before c.args.text.now (split_once_first 46 c.args.text.now None c.in-None.ensures.cases (omega arith))

pub returns-in-None-clause-behind : goal.returns-in-None-clause-behind
returns-in-None-clause-behind c =
    no_dot_behind c.args.text.now (split_once_first 46 c.args.text.now None c.in-None.ensures.cases (omega arith))
