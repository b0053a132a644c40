-- What is shown as a row has it.
use Rattle.std.proofs.Common.{◌≡◌, ◌∙◌, ◌⊎◌, inl, inr, Some, ap, sym}
use Rattle.heat_plan.specs.declared.phase.Act.{Act}
use Rattle.heat_plan.specs.declared.phase.Act.TheVariants.{Create, Delete, Init, Rollback, Update}
use Rattle.heat_plan.specs.declared.phase.Status.TheVariants.{Complete, InProgress}
use Rattle.provider.specs.Table.{Living, TokenState}
use Rattle.row_table.specs.declared.row.Row.{Row}
use Rattle.step_relation.specs.Agrees.{IsAliveAs}
use Rattle.step_relation.specs.Compared.{IsListedReady}
use Rattle.opening_check.specs.Rows.{IsShown, TellsFacts}

one : (state : TokenState) (a b : Living) → state ≡ Some a → state ≡ Some b → a ≡ b
one state a b e f = cc

pub told_ready : (r : Row) (state : TokenState) → IsAliveAs r r.props state → TellsFacts r state → IsListedReady r state
told_ready r state alive tells = record {
  as_it_is = record {
    alive = alive;
    facts = ap (λ (l : Living). l.facts) (one state alive.it tells.it alive.alive tells.shown) ∙ tells.facts;
  };
  facts = tells.some;
}

pub ready_tells : (r : Row) (state : TokenState) → IsListedReady r state → TellsFacts r state
ready_tells r state is = record {
  it = is.as_it_is.alive.it;
  shown = is.as_it_is.alive.alive;
  facts = is.as_it_is.facts;
  some = is.facts;
}

still : Complete ≡ InProgress → ⊥
still e = cc

pub begun : (a : Act) → (a ≡ Create) ⊎ ((a ≡ Update) ⊎ ((a ≡ Delete) ⊎ (a ≡ Rollback))) → a ≡ Init → ⊥
begun a (inl e) is = no (sym e ∙ is) where
  no : Create ≡ Init → ⊥
  no f = cc
begun a (inr (inl e)) is = no (sym e ∙ is) where
  no : Update ≡ Init → ⊥
  no f = cc
begun a (inr (inr (inl e))) is = no (sym e ∙ is) where
  no : Delete ≡ Init → ⊥
  no f = cc
begun a (inr (inr (inr e))) is = no (sym e ∙ is) where
  no : Rollback ≡ Init → ⊥
  no f = cc

-- of a row that is complete nothing else is asked
pub complete_shown : (r : Row) (state : TokenState) → r.status ≡ Complete → IsListedReady r state → IsShown r state
complete_shown r state complete is = record {
  ready = λ status act. is;
  creating = λ act going. absurd (still (sym complete ∙ going));
  updating = λ act going. absurd (still (sym complete ∙ going));
}
