-- Nodes are covered after a step that concerns one job: `one_job`; and after one that goes on with it or concerns none.
use Rattle.std.proofs.Common.{◌≡◌, ◌≢◌, inl, inr, ℕ, List, Some, sym, ap, ◌∙◌, subst}
use Rattle.heat_plan.specs.declared.phase.Status.{Status}
use Rattle.heat_plan.specs.declared.phase.Status.TheVariants.{Complete, Failed, InProgress}
use Rattle.traversal_graph.specs.declared.shape.Node.{Node}
use Rattle.row_table.specs.declared.row.Row.{Row}
use Rattle.mail_table.specs.Mails.{job_at, letter_at, put_job}
use Rattle.mail_table.specs.declared.mail.Job.{Job}
use Rattle.mail_table.specs.declared.mail.Letter.{Letter}
use Rattle.mail_table.specs.declared.mail.Stage.{Stage}
use Rattle.core_state.specs.State.{StateData, put_stack, stack_at}
use Rattle.core_state.specs.declared.graph.Graph.{Graph}
use Rattle.core_state.specs.declared.stack.Stack.{Stack}
use Rattle.step_relation.specs.Targets.{IsTarget}
use Rattle.step_relation.specs.MailFits.{IsStale}
use Rattle.step_relation.specs.Sound.{Standing}
use Rattle.step_relation.specs.Stir.{Covered, IsCovered, IsTo, lasts, waits, works}
use Rattle.history_laws.proofs.tables.Rows.{job-key, job_else, job_here, same_or_not, same_some, stack_put}
use Rattle.graph_laws.proofs.graphs.Kept.{SameStacks}
use Rattle.graph_laws.proofs.graphs.Restated.{with_status}
use Rattle.graph_laws.proofs.jobs.Onward.{Grounds}
use Rattle.graph_laws.proofs.jobs.Steps.{SameBut}
use Rattle.graph_laws.proofs.covers.Carried.{OpenAt, by_carry, target_on}

-- a stack without a mark was as it is
abbrev pub Unmarked : List Stack → List Stack → Type 0
Unmarked before after = (name : List ℕ) (st : Stack) → stack_at after name ≡ Some st → st.status ≡ InProgress
    → stack_at before name ≡ Some st

pub unmarked_put : (stacks : List Stack) (st : Stack) (x : Status) → x ≢ InProgress
    → Unmarked stacks (put_stack (with_status x st) stacks)
unmarked_put stacks st x ne name q at unmarked = elim (stack_put (with_status x st) stacks at) [
  | inl new ↦ absurd (ne (ap (λ (y : Stack). y.status) new.1 ∙ unmarked))
  | inr was ↦ was.1
]

pub failed_is_marked : Failed ≢ InProgress
failed_is_marked e = cc

pub complete_is_marked : Complete ≢ InProgress
complete_is_marked e = cc

-- a stale letter stays so
pub stale_same : (before after : List Stack) → SameStacks before after → (l : Letter) → IsStale before l
    → IsStale after l
stale_same before after same l stale st at =
    let (o, x, was, is) = same l.stack st at in λ eq. stale o was (ap (λ (y : Stack). y.trav) is ∙ eq)

module _ (s t : StateData) (h : Standing s) (b : Grounds t) (unmarked : Unmarked s.stacks t.stacks)
    (stacks : SameStacks s.stacks t.stacks)
    (graphs : t.graphs ≡ s.graphs) where
  module _ (f : ℕ) (j : Job) (its : job_at s.jobs f ≡ Some j) (rows : SameBut s t j.row)
      (letters : (n : ℕ) (l : Letter) → letter_at s.letters n ≡ Some l → letter_at t.letters n ≡ Some l)
      (jobs : (e : ℕ) (o : Job) → job_at s.jobs e ≡ Some o → f ≢ e → job_at t.jobs e ≡ Some o)
      (own_works : (st : Stack) (g : Graph) (i : ℕ) (node : Node) → OpenAt s st g i node
      → stack_at t.stacks st.name ≡ Some st
      → IsTo st i j.letter → IsCovered t st i node)
      (own_lasts : (st : Stack) (g : Graph) (i : ℕ) (node : Node) → OpenAt s st g i node
      → stack_at t.stacks st.name ≡ Some st
      → IsStale s.stacks j.letter → j.letter.stack ≡ st.name → IsTarget s.rows st.name node j.row
      → IsCovered t st i node) where
    pub one_job : Covered t
    one_job = by_carry s t h unmarked graphs (λ st g i node o at. record {
      letters = λ n l at_l to. waits n l (letters n l at_l) to;
      works = λ e k at_k to. elim (same_or_not f e) [
        | inl is ↦ own_works st g i node o at (subst (λ (y : Job). IsTo st i y.letter) (sym (mine e k is at_k)) to)
        | inr ne ↦ works e k (jobs e k at_k ne) to
      ];
      lasts = λ e k at_k stale is to. elim (same_or_not f e) [
        | inl same ↦ let eq = sym (mine e k same at_k) in own_lasts st g i node o at
            (subst (λ (y : Job). IsStale s.stacks y.letter) eq stale)
            (subst (λ (y : Job). y.letter.stack ≡ st.name) eq is)
            (subst (λ (y : Job). IsTarget s.rows st.name node y.row) eq to)
        | inr ne ↦ lasts e k (jobs e k at_k ne) (stale_same s.stacks t.stacks stacks k.letter stale) is
            (target_on s t h b graphs st g i node o at k.row
            (rows k.row (λ same. ne (h.links.locked.apart f e j k its at_k same))
            (h.links.numbered.jobs e k at_k).its_row) to)
      ];
    }) where
      mine : (e : ℕ) (k : Job) → f ≡ e → job_at s.jobs e ≡ Some k → j ≡ k
      mine e k is at = same_some j k its (subst (λ (n : ℕ). job_at s.jobs n ≡ Some k) (sym is) at)

  -- the job goes on with the same letter; where it is stale it still has its row's node
  pub goes_on : (f : ℕ) (j : Job) → job_at s.jobs f ≡ Some j → (m : ℕ) (x : Stage) → SameBut s t j.row
      → t.letters ≡ s.letters
      → t.jobs ≡ put_job (record j { row = m; stage = x }) s.jobs
      → ((st : Stack) (g : Graph) (i : ℕ) (node : Node) → OpenAt s st g i node → stack_at t.stacks st.name ≡ Some st
      → IsStale s.stacks j.letter → j.letter.stack ≡ st.name → IsTarget s.rows st.name node j.row
      → IsTarget t.rows st.name node m) → Covered t
  goes_on f j its m x rows letters jobs still = one_job f j its rows
      (λ n l at. subst (λ (y : List Letter). letter_at y n ≡ Some l) (sym letters) at)
      (λ e o at ne. subst (λ (y : List Job). job_at y e ≡ Some o) (sym jobs)
      (job_else (record j { row = m; stage = x }) s.jobs e (λ eq. ne (sym (job-key s.jobs f j its) ∙ eq)) ∙ at))
      (λ st g i node o at to. works f (record j { row = m; stage = x }) here to)
      (λ st g i node o at stale is to. lasts f (record j { row = m; stage = x }) here
      (stale_same s.stacks t.stacks stacks j.letter stale) is
      (still st g i node o at stale is to)) where
        here : job_at t.jobs f ≡ Some (record j { row = m; stage = x })
        here = subst (λ (y : List Job). job_at y f ≡ Some (record j { row = m; stage = x })) (sym jobs)
            (subst (λ (n : ℕ). job_at (put_job (record j { row = m; stage = x }) s.jobs) n ≡ Some
            (record j { row = m; stage = x }))
            (job-key s.jobs f j its) (job_here (record j { row = m; stage = x }) s.jobs))

  -- letters, jobs and rows are the same
  pub as_before : t.letters ≡ s.letters → t.jobs ≡ s.jobs → t.rows ≡ s.rows → Covered t
  as_before letters jobs rows = by_carry s t h unmarked graphs (λ st g i node o at. record {
    letters = λ n l at_l to. waits n l (subst (λ (y : List Letter). letter_at y n ≡ Some l) (sym letters) at_l) to;
    works = λ e k at_k to. works e k (subst (λ (y : List Job). job_at y e ≡ Some k) (sym jobs) at_k) to;
    lasts = λ e k at_k stale is to. lasts e k (subst (λ (y : List Job). job_at y e ≡ Some k) (sym jobs) at_k)
        (stale_same s.stacks t.stacks stacks k.letter stale) is
        (subst (λ (y : List Row). IsTarget y st.name node k.row) (sym rows) to);
  })
