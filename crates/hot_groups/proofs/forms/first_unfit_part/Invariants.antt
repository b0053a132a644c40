use Rattle.std.proofs.Common.{◌≡◌, drop}
use Rattle.heat_value.specs.Meaning.{members_of}
use Rattle.hot_groups.specs.Codes.{first_entry}
use Rattle.hot_groups.specs.Forms.{unfit_part}
use Rattle.hot_groups.proofs.forms.first_unfit_part.Given as goal

-- what is left decides
abbrev pub invariant-loop-member : goal.invariant-loop-member
invariant-loop-member l =
    first_entry unfit_part l.parts ≡ first_entry unfit_part (members_of (drop l.member-index l.member-items))
