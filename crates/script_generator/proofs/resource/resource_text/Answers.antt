use Rattle.std.proofs.Common.{rules, ◌≡◌, IfOk, string_bytes, List, ℕ, subst, sym}
use Rattle.script_generator.proofs.Pieces.{resource_parts}
use Rattle.script_generator.proofs.resource.resource_text.Goals as goal

pub returns : goal.returns
returns c = subst (λ (t : List ℕ). IfOk c.format.result (λ s. string_bytes s ≡ t)) (sym (resource_parts c.args.body c.args.i)) (search rules)
