use Rattle.std.proofs.Common.{rules, ◌≡◌, IfOk, string_bytes, List, ℕ, subst, sym}
use Rattle.script_generator.proofs.Pieces.{body_parts}
use Rattle.script_generator.proofs.body.body_text.Goals as goal

pub returns : goal.returns
returns c = subst (λ (t : List ℕ). IfOk c.format.result (λ s. string_bytes s ≡ t)) (sym (body_parts c.args.body c.args.n)) (search rules)
