use Rattle.std.proofs.Common.{◌∙◌, ap, codes}
use Rattle.hot_forms.specs.Sections.{section}
use Rattle.hot_tree.specs.Functions.{members_there}
use Rattle.hot_params.proofs.binding.params_of.Goals as goal

pub returns : goal.returns
returns c =
    c.members_there.ensures
    ∙ ap members_there (c.in_ok-section.ensures ∙ ap (section (codes "parameters")) c.fields.ensures.value)
