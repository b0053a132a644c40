-- Letters and jobs of other stacks fit as before.
use Rattle.std.proofs.Common.{◌≡◌, ◌≢◌, ℕ, List, Some, refl, sym, ◌∙◌, subst}
use Rattle.traversal_graph.specs.declared.shape.Node.{Node}
use Rattle.row_table.specs.Rows.{row_at}
use Rattle.mail_table.specs.Mails.{job_at, letter_at}
use Rattle.mail_table.specs.declared.mail.Job.{Job}
use Rattle.mail_table.specs.declared.mail.Letter.{Letter}
use Rattle.step_relation.specs.State.{StateData}
use Rattle.step_relation.specs.declared.Graph.{Graph}
use Rattle.step_relation.specs.declared.Stack.{Stack}
use Rattle.step_relation.specs.Freshness.{Names}
use Rattle.step_relation.specs.Targets.{IsTarget}
use Rattle.step_relation.specs.Elsewhere.{Elsewhere}
use Rattle.step_relation.specs.Linked.{Links, by_job, by_node}
use Rattle.step_relation.specs.MailFits.{HasMade, HasUnderWay, IsNewest, IsUnderWay, JobFits, JobStands, JobsFit}
use Rattle.step_relation.specs.MailFits.{LetterStands, LettersFit}
use Rattle.history_laws.proofs.frames.Same.{same_row, target_stays}
use Rattle.history_laws.proofs.tables.Rows.{stack-key}

module _ (own : List ℕ) (s t : StateData) (E : Elsewhere own s t) (h : Links s) where
  pub names_stays : (l : Letter) → l.stack ≢ own → (st : Stack) (g : Graph) (node : Node) → Names s l st g node
      → Names t l st g node
  names_stays l ne st g node k = record {
    in_table = E.stacks l.stack ne ∙ k.in_table;
    newest = k.newest;
    its_graph = E.graphs l.stack ne ∙ k.its_graph;
    its_node = k.its_node;
  }

  newest_was : (l : Letter) → l.stack ≢ own → (st : Stack) → IsNewest t l st → IsNewest s l st
  newest_was l ne st k = record { in_table = sym (E.stacks l.stack ne) ∙ k.in_table; newest = k.newest }

  module _ (e : ℕ) (j : Job) (ne : j.letter.stack ≢ own) (at : job_at s.jobs e ≡ Some j) where
    its_row : row_at t.rows j.row ≡ row_at s.rows j.row
    its_row = same_row own s t E h j.letter.stack ne j.row (by_job e j at refl refl)

    pub under_way_stays : HasUnderWay s j → HasUnderWay t j
    under_way_stays k = record { row = k.row; found = its_row ∙ k.found; status = k.status; newest = k.newest }

    made_stays : HasMade s j → HasMade t j
    made_stays k = record {
      row = k.row;
      found = its_row ∙ k.found;
      status = k.status;
      begun = k.begun;
      newest = k.newest;
    }

    pub job_fits_stays : (st : Stack) (g : Graph) (node : Node) → Names s j.letter st g node → JobFits s j st g node
        → JobFits t j st g node
    job_fits_stays st g node names f = record {
      ready = f.ready;
      undone = f.undone;
      target = subst (λ (x : List ℕ). IsTarget t.rows x node j.row) (sym called)
          (target_stays own s t E h j.letter.stack ne node j.row
          (by_node g j.letter.node node names.its_graph names.its_node refl)
          (subst (λ (x : List ℕ). IsTarget s.rows x node j.row) called f.target));
      suits = λ r under at_r. f.suits r under (sym its_row ∙ at_r);
      ends_update = λ word n is stage. made_stays (f.ends_update word n is stage);
      ends_cleanup = λ n r is stage at_r. f.ends_cleanup n r is stage (sym its_row ∙ at_r);
    } where
      called : st.name ≡ j.letter.stack
      called = stack-key s.stacks j.letter.stack st names.in_table

    pub job_stands_stays : (st : Stack) → JobStands s j st → JobStands t j st
    job_stands_stays st k = record {
      graph = k.graph;
      node = k.node;
      names = names_stays j.letter ne st k.graph k.node k.names;
      fits = job_fits_stays st k.graph k.node k.names k.fits;
    }

  -- what a job of another stack has, by what all jobs had
  pub other_under_way : JobsFit s → (e : ℕ) (j : Job) → j.letter.stack ≢ own → job_at t.jobs e ≡ Some j
      → IsUnderWay j.stage → HasUnderWay t j
  other_under_way f e j ne at under =
      let was : job_at s.jobs e ≡ Some j = E.jobs e j ne at in under_way_stays e j ne was (f.under_way e j was under)

  pub other_job : JobsFit s → (e : ℕ) (j : Job) (st : Stack) → j.letter.stack ≢ own → job_at t.jobs e ≡ Some j
      → IsNewest t j.letter st → JobStands t j st
  other_job f e j st ne at newest =
      let was : job_at s.jobs e ≡ Some j = E.jobs e j ne at in
      job_stands_stays e j ne was st (f.newest e j st was (newest_was j.letter ne st newest))

  pub other_letter : LettersFit s → (n : ℕ) (l : Letter) (st : Stack) → l.stack ≢ own → letter_at t.letters n ≡ Some l
      → IsNewest t l st → LetterStands t l st
  other_letter f n l st ne at newest =
      let was : letter_at s.letters n ≡ Some l = E.letters n l ne at in
      let k : LetterStands s l st = f.newest n l st was (newest_was l ne st newest) in record {
        graph = k.graph;
        node = k.node;
        names = names_stays l ne st k.graph k.node k.names;
        ready = k.ready;
      }
