use Rattle.std.proofs.Common.{◌∙◌, refl, sym, ap}
use Rattle.std.specs.Prelude.{option_map}
use Rattle.step_relation.specs.Moves.{clean_gone}
use Rattle.cleanup_steps.proofs.CaseLemmas.{cleans, turns}
use Rattle.cleanup_steps.proofs.beginning.begin.Goals as goal

pub returns-in-None-clause-made : goal.returns-in-None-clause-made
returns-in-None-clause-made c = turns _ _ _ _ c.pass.result
    (clean_gone (cleans _ _ _ c.requires) _ _ (sym c.row.ensures ∙ ap (option_map (λ r. r.now)) c.in-None.is) refl refl)
    c.pass.ensures.made
