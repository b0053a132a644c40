use Rattle.std.proofs.Common.{refl}
use Rattle.check_steps.proofs.Updates.{at_update, clean_no_update, update_fresh}
use Rattle.check_steps.proofs.begin_parts.update_parts.Goals as goal

pub parts_of-requires : goal.parts_of-requires
parts_of-requires c = (
  c.args.e,
  at_update _ c.args.e c.requires.points _ c.requires.works _ _ _ _ _ _ c.in-U.is
      c.in-Some.ensures.some,
)

pub returns-in-None-clause-none : goal.returns-in-None-clause-none
returns-in-None-clause-none c = λ none at. c.in-None.ensures.none refl (update_fresh _ _ _ at)

pub returns-in-C-clause-none : goal.returns-in-C-clause-none
returns-in-C-clause-none c = λ none. clean_no_update _ _ _ _ _ _ _ _ c.in-Some.ensures.some c.in-C.is

pub returns-in-U-clause-some : goal.returns-in-U-clause-some
returns-in-U-clause-some c =
    let at = at_update _ c.args.e c.requires.points _ c.requires.works _ _ _ _ _ _ c.in-U.is c.in-Some.ensures.some in
    record { at = at; parts = c.parts_of.ensures c.args.e at }
