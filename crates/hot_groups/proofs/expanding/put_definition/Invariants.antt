use Rattle.std.proofs.Common.{◌≡◌, drop}
use Rattle.heat_value.specs.Meaning.{members_of}
use Rattle.hot_env.specs.Environments.{over}
use Rattle.hot_strings.specs.Answers.{with_values}
use Rattle.hot_groups.specs.Plain.{of_definition}
use Rattle.hot_groups.proofs.expanding.put_definition.Given as goal

-- what is left goes over what there is
abbrev pub invariant-loop-part : goal.invariant-loop-part
invariant-loop-part l =
    over l.fn.member (of_definition (with_values l.numbering) l.definition)
    ≡ over l.member (of_definition (with_values l.numbering) (members_of (drop l.part-index l.part-items)))
