use Rattle.std.proofs.Common.{rules, ◌≡◌, List, ℕ, subst, sym}
use Rattle.script_generator.proofs.Pieces.{eight_lines}
use Rattle.script_generator.proofs.script.generate.Goals as goal

pub returns : goal.returns
returns c = subst (λ (t : List ℕ). c.from_string.result ≡ t) (sym (eight_lines c.args.n)) (search rules)
