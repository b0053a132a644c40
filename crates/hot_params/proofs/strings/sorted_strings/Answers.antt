use Rattle.std.proofs.Common.{◌∙◌, ap}
use Rattle.hot_forms.specs.Checks.{is_among}
use Rattle.hot_params.proofs.Allowed.{sorted_among}
use Rattle.hot_params.proofs.strings.sorted_strings.Goals as goal

pub returns-clause-exact : goal.returns-clause-exact
returns-clause-exact c = λ s.
    sorted_among c.in_ok-strings.strings.items c.sort_unstable.new.self.items c.sort_unstable.ensures.permutation s
    ∙ ap (λ ss. is_among ss s) c.in_ok-strings.ensures
