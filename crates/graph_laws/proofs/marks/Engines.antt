-- Engines that come and go leave all marks and pasts fitting.
use Rattle.std.proofs.Common.{◌≡◌, ℕ, List, [], ◌∷◌, Some, sym, ◌∙◌}
use Rattle.core_state.specs.Changes.{applied}
use Rattle.core_state.specs.State.{StateData, past_at}
use Rattle.core_state.specs.declared.change.Change.{Change}
use Rattle.core_state.specs.declared.change.Change.TheVariants.{Enlist, Stop}
use Rattle.core_state.specs.declared.past.Past.{Past}
use Rattle.step_relation.specs.Elsewhere.{Elsewhere}
use Rattle.step_relation.specs.Groups.{KeptByEngines}
use Rattle.step_relation.specs.MarkFits.{MarksFit, PastFits, PastsFit}
use Rattle.step_relation.specs.Sound.{Standing}
use Rattle.step_relation.specs.Steps.{past_engines, restart_changes}
use Rattle.history_laws.proofs.frames.Engines.{apart_from, on_enlisted, on_restarted, on_stopped}
use Rattle.history_laws.proofs.frames.Marks.{past_fits_stays}
use Rattle.history_laws.proofs.frames.Others.{other_mark}
use Rattle.history_laws.proofs.tables.Once.{once_applied}
use Rattle.core_state.specs.declared.change.Change.TheVariants as change_to

-- where a step leaves every stack
marks_left : (s t : StateData) → Standing s → ((own : List ℕ) → Elsewhere own s t) → MarksFit t
marks_left s t S E = record {
  each = λ name st at.
      other_mark (0 ∷ name) s t (E (0 ∷ name)) S.links name (apart_from name) st at
      (S.marks.each name st (sym ((E (0 ∷ name)).stacks name (apart_from name)) ∙ at));
}

pasts_left : (s : StateData) (cs : List Change) → Standing s → ((own : List ℕ) → Elsewhere own s (applied cs s))
    → PastsFit (applied cs s)
pasts_left s cs S E = record { once = once_applied cs s S.pasts.once; each = go } where
  go : (name : List ℕ) (p : Past) → past_at (applied cs s).pasts name ≡ Some p → PastFits (applied cs s) p
  go name p at = past_fits_stays (0 ∷ p.stack) s (applied cs s) (E (0 ∷ p.stack)) p (apart_from p.stack)
      (S.pasts.each name p (sym ((E (0 ∷ name)).pasts name (apart_from name)) ∙ at))

pub marks_by_engines : KeptByEngines MarksFit
marks_by_engines = record {
  stop = λ s e S live. marks_left s _ S (λ own. on_stopped own s e);
  enlist = λ s S. marks_left s _ S (λ own. on_enlisted own s);
  restart = λ s count S. marks_left s _ S (λ own. on_restarted own s count);
}

pub pasts_by_engines : KeptByEngines PastsFit
pasts_by_engines = record {
  stop = λ s e S live. pasts_left s (Stop e ∷ []) S (λ own. on_stopped own s e);
  enlist = λ s S. pasts_left s (change_to.Numbers (past_engines s.next 1) ∷ Enlist s.next.engine ∷ []) S
      (λ own. on_enlisted own s);
  restart = λ s count S. pasts_left s (restart_changes s count) S (λ own. on_restarted own s count);
}
