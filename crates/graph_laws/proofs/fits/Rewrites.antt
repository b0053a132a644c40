-- Rows of a stack fit on where each is as it was or is begun at its node: `own_fit`.
use Rattle.std.proofs.Common.{◌≡◌, ◌≢◌, inl, inr, ℕ, List, Some, refl, sym, ap, ◌∙◌, subst}
use Rattle.std.specs.Prelude.{Contains, unwrap_or}
use Rattle.heat_plan.specs.Plans.{names_of}
use Rattle.heat_plan.specs.declared.phase.Act.TheVariants.{Init}
use Rattle.eval_words.specs.Resolve.{Props}
use Rattle.traversal_graph.specs.declared.shape.Node.TheVariants.{C, U}
use Rattle.row_table.specs.Chains.{IsCurrent}
use Rattle.row_table.specs.Rows.{cut_row, put_row, row_at}
use Rattle.row_table.specs.declared.row.Row.{Row}
use Rattle.core_state.specs.Reads.{IsDone}
use Rattle.core_state.specs.State.{StateData}
use Rattle.core_state.specs.declared.graph.Graph.{Graph}
use Rattle.core_state.specs.declared.stack.Stack.{Stack}
use Rattle.step_relation.specs.Freshness.{plan_of}
use Rattle.step_relation.specs.GraphFits.{Aims, GraphFits, IsNode, Sweeps}
use Rattle.step_relation.specs.Linked.{OneCurrent}
use Rattle.step_relation.specs.RowsFit.{IsBegun, IsMade, IsWanted, Resolves, RowsFit}
use Rattle.graph_laws.proofs.graphs.Carried.{aims_fits}
use Rattle.graph_laws.proofs.marks.Rows.{aims_now}
use Rattle.history_laws.proofs.tables.Rows.{row-key, row_cut, row_put, row_self}

-- what a target's fit reads of a row
pub record SameFit (r a : Row) : Type 0 where
  pub no_ : a.no ≡ r.no
  pub stack : a.stack ≡ r.stack
  pub name : a.name ≡ r.name
  pub act : a.act ≡ r.act
  pub status : a.status ≡ r.status
  pub trav : a.trav ≡ r.trav
  pub replaced_by : a.replaced_by ≡ r.replaced_by
  pub kind : a.kind ≡ r.kind
  pub props : unwrap_or a.target a.props ≡ unwrap_or r.target r.props

pub SameFit-same : (r : Row) → SameFit r r
SameFit-same r = record {
  no_ = refl;
  stack = refl;
  name = refl;
  act = refl;
  status = refl;
  trav = refl;
  replaced_by = refl;
  kind = refl;
  props = refl;
}

-- what a target of the node at a place has to have
pub record Suits (st : Stack) (g : Graph) (i : ℕ) (word : List ℕ) (a : Row) : Type 0 where
  pub begun : a.trav ≡ st.trav → a.act ≢ Init → IsBegun st g i word a
  pub made : IsDone g i → IsMade st a

-- a current row then: as it was, or suiting the node of its name
pub data RowCase (before : List Row) (st : Stack) (g : Graph) (n : ℕ) (a : Row) : Type 0 where
  same : (r : Row) → row_at before n ≡ Some r → SameFit r a → RowCase before st g n a
  other : ((i m : ℕ) (word : List ℕ) → IsNode g i (U word m) → a.name ≡ word → Suits st g i word a)
      → RowCase before st g n a

-- a row then under a clean-up node that is done: it was current before where it is now, or there is none
pub data SweepCase (before : List Row) (g : Graph) (n : ℕ) (a : Row) : Type 0 where
  was : (r : Row) → row_at before n ≡ Some r → a.name ≡ r.name → (IsCurrent r → IsCurrent a) → SweepCase before g n a
  never : ((i : ℕ) → IsNode g i (C n) → IsDone g i → ⊥) → SweepCase before g n a

pub record FitKinds (st : Stack) (g : Graph) (before after : List Row) : Type 0 where
  pub rows : (n : ℕ) (a : Row) → row_at after n ≡ Some a → a.stack ≡ st.name → IsCurrent a → RowCase before st g n a
  pub sweeps : (n : ℕ) (a : Row) → row_at after n ≡ Some a → a.stack ≡ st.name → SweepCase before g n a

module _ (s t : StateData) (st : Stack) (g : Graph) (fits_s : GraphFits s st g) (fits : GraphFits t st g)
    (one : OneCurrent s.rows) (K : FitKinds st g s.rows t.rows)
    (old : RowsFit s st g) where
  -- the row at which the node aimed before
  aimed : (i m : ℕ) (word : List ℕ) (n : ℕ) (r a : Row) → IsNode g i (U word m) → row_at s.rows n ≡ Some r
      → SameFit r a → a.stack ≡ st.name → a.name ≡ word
      → IsCurrent a → Aims s st g i word r
  aimed i m word n r a node at like is called current =
      aims_now s st g fits_s one i m word node r (row_self s.rows n r at) (sym like.stack ∙ is)
      (sym like.name ∙ called)
      (record { kept = λ e. current.kept (like.act ∙ e); last = sym like.replaced_by ∙ current.last })

  begun_again : (i : ℕ) (word : List ℕ) (r a : Row) → SameFit r a → IsBegun st g i word r → IsBegun st g i word a
  begun_again i word r a like b = record {
    ready = b.ready;
    item = b.item;
    asked = b.asked;
    kind = ap (λ k. k.name) like.kind ∙ b.kind;
    props = subst (λ p. Resolves st g i word (Props p)) (sym like.props) b.props;
  }

  suits : (i : ℕ) (word : List ℕ) (a : Row) → (k : Aims t st g i word a) → Suits st g i word a
  suits i word a k =
      let f = aims_fits t st g fits.targets i word a k in
      by f.is.stack_is f.is.name_is f.is.current (K.rows a.no a k.found f.is.stack_is f.is.current) where
        by : a.stack ≡ st.name → a.name ≡ word → IsCurrent a → RowCase s.rows st g a.no a → Suits st g i word a
        by is called current (same r at like) =
            let aims = aimed i k.chosen word a.no r a k.node at like is called current in record {
              begun = λ newest act. begun_again i word r a like
                  (old.begun i word r aims (sym like.trav ∙ newest) (λ e. act (like.act ∙ e)));
              made = λ done. let m = old.made i word r aims done in record {
                status = like.status ∙ m.status;
                newest = like.trav ∙ m.newest;
                begun = λ e. m.begun (sym like.act ∙ e);
              };
            }
        by is called current (other suit) = suit i k.chosen word k.node called

  cleaned_again : (i : ℕ) (a : Row) → Sweeps t g i a → IsDone g i → IsWanted st a
  cleaned_again i a k done = by (K.sweeps a.no a k.found (fits.targets.cleanups i a k)) where
    by : SweepCase s.rows g a.no a → IsWanted st a
    by (was r at called on) =
        let number : r.no ≡ a.no = row-key s.rows a.no r at in
        let w = old.cleaned i r (record {
          node = subst (λ (x : ℕ). IsNode g i (C x)) (sym number) k.node;
          found =
              row_self s.rows a.no r at;
        }) done in record {
          current = on w.current;
          planned = subst (Contains (names_of (plan_of st.plan).items)) (sym called) w.planned;
        }
    by (never none) = absurd (none i k.node done)

  pub own_fit : RowsFit t st g
  own_fit = record {
    begun = λ i word r aims newest act. (suits i word r aims).begun newest act;
    made = λ i word r aims done. (suits i word r aims).made done;
    cleaned = cleaned_again;
  }

-- kinds of writes
pub kinds_same : (st : Stack) (g : Graph) (rows : List Row) → FitKinds st g rows rows
kinds_same st g rows = record {
  rows = λ n a at is current. same a at (SameFit-same a);
  sweeps =
      λ n a at is. was a at refl (λ c. c);
}

pub kinds_cut : (st : Stack) (g : Graph) (rows : List Row) (c : ℕ) → FitKinds st g rows (cut_row c rows)
kinds_cut st g rows c = record {
  rows = λ n a at is current. same a (row_cut c rows at).1 (SameFit-same a);
  sweeps = λ n a at is. was a (row_cut c rows at).1 refl (λ c. c);
}

pub kinds_put : (st : Stack) (g : Graph) (before rows : List Row) (q : Row) → FitKinds st g before rows
    → (q.stack ≡ st.name → IsCurrent q → RowCase before st g q.no q) →
    (q.stack ≡ st.name → SweepCase before g q.no q) → FitKinds st g before (put_row q rows)
kinds_put st g before rows q K row sweep = record {
  rows = λ n a at is current. elim (row_put q rows at) [
    | inl new ↦ subst (λ (x : Row). RowCase before st g n x) new.1
        (subst (λ (x : ℕ). RowCase before st g x q) new.0
        (row (ap (λ (x : Row). x.stack) new.1 ∙ is) (subst IsCurrent (sym new.1) current)))
    | inr old ↦ K.rows n a old.1 is current
  ];
  sweeps = λ n a at is. elim (row_put q rows at) [
    | inl new ↦ subst (λ (x : Row). SweepCase before g n x) new.1
        (subst (λ (x : ℕ). SweepCase before g x q) new.0 (sweep (ap (λ (x : Row). x.stack) new.1 ∙ is)))
    | inr old ↦ K.sweeps n a old.1 is
  ];
}
