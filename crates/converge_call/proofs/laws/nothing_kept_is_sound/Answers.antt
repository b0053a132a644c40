-- The only image is the empty state, over which the comparison found nothing.
use Rattle.std.proofs.Common.{◌∙◌, sym, ap, subst}
use Rattle.core_state.specs.Changes.{applied}
use Rattle.core_state.specs.State.{StateData}
use Rattle.step_relation.specs.Compared.{FindsNothing}
use Rattle.step_relation.specs.Laws.{SoundAt, opening_at}
use Rattle.step_relation.specs.Steps.{restart_changes}
use Rattle.graph_laws.proofs.whole.Whole.{empty_openings}
use Rattle.converge_call.proofs.laws.nothing_kept_is_sound.Goals as goal

pub returns : goal.returns
returns c = λ workers old new opening it.
    let bare_is = it.found.its.may in
    let found = subst (λ (s : StateData). FindsNothing (opening_at s new)) bare_is it.opened.admitted.compared in
    let (none, sound) = empty_openings new workers it.opened.some it.opened.few found in (
      sym it.found.listed.stays.alive ∙ none,
      subst (λ (s : StateData). SoundAt s new) (sym (it.opened.opens
          ∙ ap (λ (s : StateData). applied (restart_changes s workers) s) bare_is)) sound,
    )
