use Rattle.std.proofs.Common.{◌≡◌, drop}
use Rattle.heat_value.specs.Meaning.{members_of}
use Rattle.hot_forms.specs.Checks.{first_entry}
use Rattle.hot_tree.specs.Passes.{check_of}
use Rattle.hot_tree.proofs.pass.first_entry.Given as goal

-- what is left decides
abbrev pub invariant-loop-entry : goal.invariant-loop-entry
invariant-loop-entry l =
    first_entry (check_of l.pass l.params l.conds) l.entries
    ≡ first_entry (check_of l.pass l.params l.conds) (members_of (drop l.entry-index l.entry-items))
