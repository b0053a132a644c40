use Rattle.std.proofs.Common.{◌≤◌, ℕ, List, sym, subst, arith, codes}
use Rattle.heat_value.specs.Data.{Members, lookup, depth, members_depth}
use Rattle.heat_value.specs.Meaning.{data_of}
use Rattle.heat_value.specs.declared.value.Value.{Value}
use Rattle.script_lines.specs.BodyKeys.{AreTexts}
use Rattle.script_lines.specs.Requested.{object_in}
use Rattle.script_lines.proofs.BodyDepths.{members_depth-object_in}
use Rattle.script_lines.proofs.BodyParts.{files_are_texts}
use Rattle.script_lines.proofs.request.with_template.Goals as goal

within : (k : List ℕ) (ms : Members) → members_depth ms ≤ 64 → members_depth (object_in (lookup k ms)) ≤ 64
within k ms below = omega (arith, members_depth-object_in k ms, below)

pub invariant_of-result : goal.invariant_of-result
invariant_of-result c = record {
  shallow = subst (λ (v : Value). depth (data_of v) ≤ 64) (sym c.in_ok-copy.ensures) c.requires.template;
  given = subst (λ (ms : Members). members_depth ms ≤ 64) (sym c.in_ok-object_under.ensures)
      (within (codes "parameters") c.args.members.now c.requires.shallow);
  texts = subst AreTexts (sym c.in_ok-object_under-2.ensures) (files_are_texts _ c.requires.right);
}
