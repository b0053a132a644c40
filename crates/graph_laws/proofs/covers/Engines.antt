-- Nodes are covered after a stop of an engine, an enlisting and a restart: `covers_kept`.
use Rattle.std.proofs.Common.{[], ◌∷◌, refl, sym, subst}
use Rattle.core_state.specs.Changes.{applied}
use Rattle.core_state.specs.declared.change.Change.TheVariants.{Enlist, Stop}
use Rattle.step_relation.specs.Steps.{engines_from, past_engines, restart_changes}
use Rattle.step_relation.specs.Groups.{KeptByEngines}
use Rattle.step_relation.specs.Stir.{Covered}
use Rattle.graph_laws.proofs.graphs.Engines.{graphs_kept, lives}
use Rattle.graph_laws.proofs.graphs.Kept.{stacks_same}
use Rattle.graph_laws.proofs.jobs.Below.{links_by_engines}
use Rattle.graph_laws.proofs.jobs.Onward.{Grounds}
use Rattle.graph_laws.proofs.covers.Steps.{as_before}
use Rattle.core_state.specs.declared.change.Change.TheVariants as change_to

pub covers_kept : KeptByEngines Covered
covers_kept = record {
  stop = λ s e h live. as_before s (applied (Stop e ∷ []) s) h
      (record { current = (links_by_engines.stop s e h live).current; graphs = graphs_kept.stop s e h live })
      (λ name st at status. at) (stacks_same s.stacks) refl refl refl refl;
  enlist = λ s h. as_before s (applied (change_to.Numbers (past_engines s.next 1) ∷ Enlist s.next.engine ∷ []) s) h
      (record { current = (links_by_engines.enlist s h).current; graphs = graphs_kept.enlist s h })
      (λ name st at status. at) (stacks_same s.stacks) refl refl refl refl;
  restart = λ s count h.
      let b : Grounds (applied (restart_changes s count) s) =
      record { current = (links_by_engines.restart s count h).current; graphs = graphs_kept.restart s count h } in
      let is = lives s.live (engines_from s.next.engine count) (record s { next = past_engines s.next count }) in
      subst Covered (sym is) (as_before s _ h (subst Grounds is b) (λ name st at status. at)
      (stacks_same s.stacks) refl refl refl refl);
}
