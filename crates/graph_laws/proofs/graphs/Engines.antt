-- Graphs fit after a stop of an engine, an enlisting and a restart: `graphs_kept`.
use Rattle.std.proofs.Common.{◌≡◌, ℕ, [], ◌∷◌, ◌++◌, List, map, refl, sym, subst}
use Rattle.std.specs.Prelude.{filter, nat_eq, not}
use Rattle.core_state.specs.Changes.{applied, apply}
use Rattle.core_state.specs.State.{StateData}
use Rattle.core_state.specs.declared.change.Change.TheVariants.{Enlist, Stop}
use Rattle.step_relation.specs.Steps.{engines_from, past_engines}
use Rattle.step_relation.specs.Groups.{KeptByEngines}
use Rattle.graph_laws.specs.graphs.Laws.{GraphsFit}
use Rattle.graph_laws.proofs.graphs.Taken.{quiet}
use Rattle.core_state.specs.declared.change.Change.TheVariants as change_to

-- the live engines after some stopped and some were enlisted
abbrev pub without : List ℕ → List ℕ → List ℕ
without [] live = live
without (e ∷ es) live = without es (filter (λ x. not (nat_eq x e)) live)

abbrev pub with_these : List ℕ → List ℕ → List ℕ
with_these [] live = live
with_these (e ∷ es) live = with_these es (live ++ e ∷ [])

pub lives : (stopped new : List ℕ) (s : StateData)
    → applied (map Stop stopped ++ map Enlist new) s ≡ record s { live = with_these new (without stopped s.live) }
lives [] [] s = refl
lives [] (e ∷ es) s = lives [] es (apply (Enlist e) s)
lives (e ∷ es) new s = lives es new (apply (Stop e) s)

pub graphs_kept : KeptByEngines GraphsFit
graphs_kept = record {
  stop = λ s e h live. quiet s h (applied (Stop e ∷ []) s) refl refl refl;
  enlist = λ s h. quiet s h (applied (change_to.Numbers (past_engines s.next 1) ∷ Enlist s.next.engine ∷ []) s)
      refl refl refl;
  restart = λ s count h. subst GraphsFit
      (sym (lives s.live (engines_from s.next.engine count) (record s { next = past_engines s.next count })))
      (quiet s h _ refl refl refl);
}
