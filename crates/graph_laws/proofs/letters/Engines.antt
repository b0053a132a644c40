-- Letters fit after a stop of an engine, an enlisting and a restart: `letters_kept`.
use Rattle.std.proofs.Common.{[], ◌∷◌, refl, sym, subst}
use Rattle.core_state.specs.Changes.{applied}
use Rattle.core_state.specs.declared.change.Change.TheVariants.{Enlist, Stop}
use Rattle.step_relation.specs.Steps.{engines_from, past_engines}
use Rattle.step_relation.specs.Groups.{KeptByEngines}
use Rattle.step_relation.specs.MailFits.{LettersFit}
use Rattle.graph_laws.proofs.graphs.Engines.{lives}
use Rattle.graph_laws.proofs.graphs.Kept.{stacks_same}
use Rattle.graph_laws.proofs.letters.Sent.{silent}
use Rattle.core_state.specs.declared.change.Change.TheVariants as change_to

pub letters_kept : KeptByEngines LettersFit
letters_kept = record {
  stop = λ s e h live. silent s h (applied (Stop e ∷ []) s) (stacks_same s.stacks) refl refl;
  enlist = λ s h. silent s h (applied (change_to.Numbers (past_engines s.next 1) ∷ Enlist s.next.engine ∷ []) s)
      (stacks_same s.stacks) refl refl;
  restart = λ s count h. subst LettersFit
      (sym (lives s.live (engines_from s.next.engine count) (record s { next = past_engines s.next count })))
      (silent s h _ (stacks_same s.stacks) refl refl);
}
