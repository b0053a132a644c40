use Rattle.std.proofs.Common.{◌≡◌, nat_lt, string_bytes, ◌+◌, ◌-◌, ◌++◌}
use Rattle.heat_value.specs.Compact.{compact, fields_text}
use Rattle.heat_value.specs.Data.{fields}
use Rattle.script_generator.specs.Resources.{resources_from}
use Rattle.script_generator.proofs.body.resources_text.Given as goal

abbrev pub invariant-loop-i : goal.invariant-loop-i
invariant-loop-i l =
    string_bytes l.text ++ fields_text (nat_lt 1 l.i) (resources_from l.body l.i (l.n + 1 - l.i))
    ≡ compact (fields (resources_from l.body 1 l.n))
