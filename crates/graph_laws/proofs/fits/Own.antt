-- The rows of the stack that a step is on fit after it, and so those of all do: `fit_by_own`.
use Rattle.std.proofs.Common.{◌≡◌, ◌≢◌, inl, inr, ℕ, List, ◌∷◌, Some, sym, ◌∙◌, subst}
use Rattle.heat_plan.specs.declared.phase.Act.TheVariants.{Init}
use Rattle.heat_plan.specs.declared.phase.Status.{Status}
use Rattle.row_table.specs.declared.row.Row.{Row}
use Rattle.core_state.specs.Reads.{IsDone}
use Rattle.core_state.specs.State.{StateData, stack_at}
use Rattle.core_state.specs.declared.graph.Graph.{Graph}
use Rattle.core_state.specs.declared.stack.Stack.{Stack}
use Rattle.step_relation.specs.Elsewhere.{Elsewhere}
use Rattle.step_relation.specs.GraphFits.{Aims, Sweeps, graph_of}
use Rattle.step_relation.specs.Groups.{KeptByEngines}
use Rattle.step_relation.specs.RowsFit.{IsBegun, IsMade, IsWanted, RowsFit}
use Rattle.step_relation.specs.Sound.{Standing}
use Rattle.graph_laws.specs.fits.Laws.{AllRowsFit}
use Rattle.graph_laws.proofs.marks.Below.{apart_from, on_enlisted, on_restarted, on_stopped}
use Rattle.graph_laws.proofs.marks.Below.{other_rows}
use Rattle.history_laws.proofs.tables.Rows.{text_or_not}

pub fit_by_own : (s : StateData) → Standing s → (t : StateData) (own : List ℕ) → Elsewhere own s t
    → ((st : Stack) → stack_at t.stacks own ≡ Some st → RowsFit t st (graph_of t own)) → AllRowsFit t
fit_by_own s S t own E mine name st at = elim (text_or_not name own) [
  | inl is ↦ subst (λ (x : List ℕ). RowsFit t st (graph_of t x)) (sym is)
      (mine st (subst (λ (x : List ℕ). stack_at t.stacks x ≡ Some st) is at))
  | inr ne ↦ other_rows own s t E S.links name ne st at (S.shape.rows name st (sym (E.stacks name ne) ∙ at))
]

fit_left : (s t : StateData) → Standing s → ((own : List ℕ) → Elsewhere own s t) → AllRowsFit t
fit_left s t S E name st at =
    other_rows (0 ∷ name) s t (E (0 ∷ name)) S.links name (apart_from name) st at
    (S.shape.rows name st (sym ((E (0 ∷ name)).stacks name (apart_from name)) ∙ at))

pub fit_by_engines : KeptByEngines AllRowsFit
fit_by_engines = record {
  stop = λ s e S live. fit_left s _ S (λ own. on_stopped own s e);
  enlist = λ s S. fit_left s _ S (λ own. on_enlisted own s);
  restart = λ s count S. fit_left s _ S (λ own. on_restarted own s count);
}

-- the status of the stack isn't read
pub fit_restated : (t : StateData) (st : Stack) (g : Graph) (x : Status) → RowsFit t st g → RowsFit t
    (record st { status = x }) g
fit_restated t st g x f = record { begun = begun; made = made; cleaned = cleaned } where
  back : (i : ℕ) (word : List ℕ) (r : Row) → Aims t (record st { status = x }) g i word r → Aims t st g i word r
  back i word r k = record { chosen = k.chosen; node = k.node; to = k.to; found = k.found }

  begun : (i : ℕ) (word : List ℕ) (r : Row) → Aims t (record st { status = x }) g i word r → r.trav ≡ st.trav
      → r.act ≢ Init
      → IsBegun (record st { status = x }) g i word r
  begun i word r k newest act =
      let b = f.begun i word r (back i word r k) newest act in
      let p = b.props in record {
        ready = b.ready;
        item = b.item;
        asked = b.asked;
        kind = b.kind;
        props = record {
          point = p.point;
          there = p.there;
          item = p.item;
          asked = p.asked;
          known =
              p.known;
          known_are = p.known_are;
          result_is = p.result_is;
        };
      }

  made : (i : ℕ) (word : List ℕ) (r : Row) → Aims t (record st { status = x }) g i word r → IsDone g i → IsMade
      (record st { status = x }) r
  made i word r k done = let m = f.made i word r (back i word r k) done in record
      { status = m.status; newest = m.newest; begun = m.begun }

  cleaned : (i : ℕ) (r : Row) → Sweeps t g i r → IsDone g i → IsWanted (record st { status = x }) r
  cleaned i r k done = let w = f.cleaned i r k done in record { current = w.current; planned = w.planned }
