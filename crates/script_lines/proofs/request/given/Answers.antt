use Rattle.std.proofs.Common.{◌≡◌, ◌∙◌, Some, codes, refl, sym, ap, List, ℕ, arith}
use Rattle.heat_value.specs.Data.{lookup}
use Rattle.heat_value.specs.Meaning.{data_of}
use Rattle.script_lines.specs.Requested.{wrong}
use Rattle.script_lines.proofs.BodyDepths.{depth-lookup}
use Rattle.script_lines.proofs.request.given.Goals as goal

pub returns-in_ok-path_of-in-Some-first_wrong-clause-fault :
    goal.returns-in_ok-path_of-in-Some-first_wrong-clause-fault
returns-in_ok-path_of-in-Some-first_wrong-clause-fault c _ =
    let under : lookup (codes "template") c.args.members.now ≡ Some (data_of c.in-Some.template.now) =
    ap (λ (k : List ℕ). lookup k c.args.members.now) (sym c.in_ok-from_str.ensures) ∙ sym c.in-Some.ensures in (
      c.in_ok-path_of-in-Some-first_wrong.field-0,
      wrong _ under _ c.in-Some-first_wrong.ensures c.in_ok-path_of-in-Some-first_wrong.ensures,
      refl,
    )

pub with_template-requires-clause-template : goal.with_template-requires-clause-template
with_template-requires-clause-template c =
    omega (arith, depth-lookup _ c.args.members.now _ (sym c.in-Some.ensures), c.requires)
