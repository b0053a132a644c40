-- A begin at an update node, whose point was found.
use Rattle.std.proofs.Common.{ap, sym, ◌∙◌}
use Rattle.std.specs.Prelude.{option_map}
use Rattle.sample_turns.proofs.Beginnings.{at_update}
use Rattle.sample_turns.proofs.turns.begin.Goals as goal

pub begin_update-requires : goal.begin_update-requires
begin_update-requires c = at_update _ c.args.e _ c.requires _ _ _
    (sym c.point_of.ensures ∙ ap (option_map (λ p. p.now)) c.in-Some-point_of.is) _ _ _ _ c.in-U.is c.in-Some.ensures.some
