-- After a failure the mark of its stack fits.
use Rattle.std.proofs.Common.{◌≡◌, ℕ, List, [], ◌∷◌, ◌++◌, map, Option, Some, None, refl, sym, ◌∙◌, subst}
use Rattle.heat_value.specs.declared.path.Step.{Step}
use Rattle.heat_plan.specs.declared.phase.Act.{Act}
use Rattle.heat_plan.specs.declared.phase.Act.TheVariants.{Delete}
use Rattle.heat_plan.specs.declared.phase.Status.TheVariants.{Failed, InProgress}
use Rattle.eval_words.specs.Resolve.{Fault}
use Rattle.traversal_graph.specs.declared.shape.Node.{Node}
use Rattle.traversal_graph.specs.declared.shape.Node.TheVariants.{C, U}
use Rattle.row_table.specs.Rows.{row_at}
use Rattle.row_table.specs.declared.row.Row.{Row}
use Rattle.mail_table.specs.Mails.{job_at}
use Rattle.mail_table.specs.declared.mail.Job.{Job}
use Rattle.mail_table.specs.declared.mail.Letter.{Letter}
use Rattle.core_state.specs.Changes.{applied, apply}
use Rattle.core_state.specs.State.{StateData, stack_at}
use Rattle.core_state.specs.declared.change.Change.TheVariants.{PutRow, Send}
use Rattle.core_state.specs.declared.graph.Graph.{Graph}
use Rattle.core_state.specs.declared.stack.Stack.{Stack}
use Rattle.step_relation.specs.Asks.{Falls, failed_changes, marked, marks, overrun}
use Rattle.step_relation.specs.Begins.{Begins, left_changes}
use Rattle.step_relation.specs.Freshness.{IsFresh, Names}
use Rattle.step_relation.specs.Given.{Faulted}
use Rattle.step_relation.specs.Rows.{failed_row}
use Rattle.step_relation.specs.Runs.{IsTied, Judges, ResolvesTo, fault}
use Rattle.step_relation.specs.Writes.{mark_failed}
use Rattle.step_relation.specs.GraphFits.{GraphFits, IsNode, graph_of}
use Rattle.step_relation.specs.Linked.{Links}
use Rattle.step_relation.specs.MailFits.{IsUnderWay, SuitsAct, cleans}
use Rattle.step_relation.specs.MarkFits.{IsFailed, MarkFits, by_clean_up, by_plan, by_row}
use Rattle.step_relation.specs.RowsFit.{Resolves}
use Rattle.step_relation.specs.Sound.{Standing}
use Rattle.graph_laws.proofs.graphs.Known.{resolves_here}
use Rattle.graph_laws.specs.graphs.Laws.{GraphsFit}
use Rattle.graph_laws.proofs.marks.Jobs.{failed_by, not_complete, overrun_other, under_way}
use Rattle.graph_laws.proofs.marks.Moves.{progress_clash, quiet_left}
use Rattle.graph_laws.proofs.marks.Own.{IsQuiet, SameThree, marked_failed, own_quiet, quiet_three, row_fine}
use Rattle.graph_laws.proofs.marks.Rows.{FailedNow, aims_now}
use Rattle.history_laws.proofs.tables.Facts.{graph_here, job_fits, job_target, named_marks, named_stack, names_graph}
use Rattle.history_laws.proofs.tables.Facts.{names_stack}
use Rattle.history_laws.proofs.tables.Rows.{row-key, row_here, same_some, stack_here}
use Rattle.history_laws.proofs.tables.Targets.{cleanup_target}

sends_more : (ls : List Letter) (t : StateData) → SameThree t (applied (map Send ls ++ []) t)
sends_more [] t = record { stacks = refl; graphs = refl; rows = refl }
sends_more (l ∷ ls) t = let k = sends_more ls (apply (Send l) t) in record
    { stacks = k.stacks; graphs = k.graphs; rows = k.rows }

pub failed_three : (s : StateData) (e : ℕ) (r : Row) (ls : List Letter) → SameThree
    (apply (PutRow (failed_row r)) s) (applied (failed_changes s e r ls None) s)
failed_three s e r [] = record { stacks = refl; graphs = refl; rows = refl }
failed_three s e r (l ∷ ls) = let k = sends_more (l ∷ ls) _ in record
    { stacks = k.stacks; graphs = k.graphs; rows = k.rows }

suits_delete : (act : Act) (n : ℕ) → SuitsAct act (C n) → act ≡ Delete
suits_delete _ n (cleans _) = refl

module _ (s : StateData) (S : Standing s) (e : ℕ) (j : Job) (its : job_at s.jobs e ≡ Some j)
    (stage : IsUnderWay j.stage) (r : Row) (at : row_at s.rows j.row ≡ Some r) where
  abbrev own : List ℕ
  own = j.letter.stack

  way : (r.status ≡ InProgress) × (r.trav ≡ j.letter.trav)
  way = under_way s S e j r its stage at

  quiet_failed : (letters : List Letter)
      → ((st : Stack) → stack_at s.stacks j.letter.stack ≡ Some st → FailedNow st (failed_row r) → st.status ≡ Failed)
      → IsQuiet s (applied (failed_changes s e r letters None) s) j.letter.stack
  quiet_failed letters new_ok = quiet_three s (apply (PutRow (failed_row r)) s) _ j.letter.stack
      (failed_three s e r letters) (record {
        stacks = refl;
        graphs = refl;
        rows = λ st at_st. row_fine s S j.letter.stack st at_st j.row r (failed_row r) at refl (new_ok st at_st)
            (λ now _. progress_clash way.0 now.status);
      })

  module _ (k : IsFresh s j.letter j.row) where
    abbrev marked_stack : Stack
    marked_stack = record k.stack { status = Failed }

    abbrev then : StateData
    then = applied (failed_changes s e r [] (Some k.stack)) s

    called : k.stack.name ≡ j.letter.stack
    called = named_stack s S j.letter k.stack k.graph k.node k.names

    its_stack : stack_at then.stacks j.letter.stack ≡ Some marked_stack
    its_stack = subst (λ (x : List ℕ). stack_at then.stacks x ≡ Some marked_stack) called
        (stack_here marked_stack s.stacks)

    failed_node : (node : Node) → Names s j.letter k.stack k.graph node → GraphFits then marked_stack k.graph
        → Links then
        → IsFailed then marked_stack k.graph j.letter.node
    failed_node (U word n) names fits L =
        let target = job_target s S e j k.stack k.graph word n r its names at in
        by_row word (failed_row r)
        (aims_now then marked_stack k.graph fits L.current j.letter.node n word names.its_node (failed_row r)
        (row_here (failed_row r) s.rows)
        target.is.stack_is target.is.name_is (record {
          kept = target.is.current.kept;
          last =
              target.is.current.last;
        })) refl (way.1 ∙ sym names.newest)
    failed_node (C n) names fits L =
        let f = job_fits s S e j k.stack k.graph (C n) its names in
        let number : n ≡ r.no = cleanup_target s.rows k.stack.name n j.row f.target ∙ sym
        (row-key s.rows j.row r at) in
        by_clean_up (failed_row r)
        (record {
          node = subst (λ (x : ℕ). IsNode k.graph j.letter.node (C x)) number names.its_node;
          found =
              row_here (failed_row r) s.rows;
        })
        (suits_delete r.act n (f.suits r stage at)) refl (way.1 ∙ sym names.newest)

    marks_failed : GraphsFit then → Links then → (st : Stack) → stack_at then.stacks j.letter.stack ≡ Some st
        → MarkFits then st (graph_of then j.letter.stack)
    marks_failed G L st at_st =
        let is : marked_stack ≡ st = same_some marked_stack st its_stack at_st in
        let graph : graph_of s j.letter.stack ≡ k.graph = graph_here s j.letter.stack k.graph k.names.its_graph in
        let f = job_fits s S e j k.stack k.graph k.node its k.names in
        let fits : GraphFits then marked_stack k.graph = subst (GraphFits then marked_stack) graph
        (G j.letter.stack marked_stack its_stack) in
        subst (λ (x : Stack). MarkFits then x (graph_of then j.letter.stack)) is
        (subst (MarkFits then marked_stack) (sym graph)
        (marked_failed s S then j.letter.stack k.stack k.graph
        (named_marks s S j.letter k.stack k.graph k.node k.names) j.letter.node k.node k.names.its_node
        (record { ready = f.ready; undone = f.undone }) (failed_node k.node k.names fits L)))

  pub own_failed : (letters : List Letter) (failed : Option Stack) → Falls s j letters failed → (t : StateData)
      → t ≡ applied (failed_changes s e r letters failed) s → GraphsFit t → Links t → (st : Stack)
      → stack_at t.stacks j.letter.stack ≡ Some st
      → MarkFits t st (graph_of t j.letter.stack)
  own_failed _ _ (overrun letters old resends) t is G L st' at' =
      own_quiet s S t G L j.letter.stack (subst (λ (x : StateData). IsQuiet s x j.letter.stack) (sym is)
      (quiet_failed letters (λ st at_st now.
      absurd (overrun_other s S e j st its old at_st (sym way.1 ∙ now.newest))))) st' at'
  own_failed _ _ (marked k other) t is G L st' at' =
      own_quiet s S t G L j.letter.stack (subst (λ (x : StateData). IsQuiet s x j.letter.stack) (sym is)
      (quiet_failed [] (λ st at_st now.
      subst (λ (x : Stack). x.status ≡ Failed) (same_some k.stack st k.names.in_table at_st)
      (failed_by k.stack.status other (not_complete s S e j k.stack k.graph k.node its k.names))))) st' at'
  own_failed _ _ (marks k unmarked) t is G L st at_st =
      subst (λ (x : StateData). MarkFits x st (graph_of x j.letter.stack)) (sym is)
      (marks_failed k (subst GraphsFit is G) (subst Links is L) st
      (subst (λ (x : StateData). stack_at x.stacks j.letter.stack ≡ Some st) is at_st))

-- what a begin with a fault resolves to
tied_fault : (judges : Judges) (s : StateData) (e : ℕ) (code : List ℕ) (path : List Step) → IsTied judges s e
    (Faulted code path) → (k : Begins s e)
    → ResolvesTo s e k (Fault code path)
tied_fault judges s e code path (fault a _ _ it) k = resolves_here s e a k (Fault code path) it

module _ (s : StateData) (S : Standing s) (e : ℕ) (k : Begins s e) (code : List ℕ) (path : List Step)
    (it : ResolvesTo s e k (Fault code path)) where
  its_fault : Resolves k.stack k.graph k.job.letter.node k.name (Fault code path)
  its_fault = record {
    point = k.point;
    there = k.its_point;
    item = k.item;
    asked = k.asked;
    known = it.known;
    known_are = it.known_are;
    result_is = it.result_is;
  }

  module _ (m : IsFresh s k.job.letter k.job.row) where
    abbrev marked_as : Stack
    marked_as = record m.stack { status = Failed }

    abbrev left : StateData
    left = applied (left_changes e k.row ++ mark_failed (Some m.stack)) s

    same_stack : k.stack ≡ m.stack
    same_stack = names_stack s k.job.letter k.stack m.stack k.graph m.graph (U k.name k.chosen) m.node k.names m.names

    same_graph : k.graph ≡ m.graph
    same_graph = names_graph s k.job.letter k.stack m.stack k.graph m.graph (U k.name k.chosen) m.node k.names m.names

    its_stack' : stack_at left.stacks k.job.letter.stack ≡ Some marked_as
    its_stack' = subst (λ (x : List ℕ). stack_at left.stacks x ≡ Some marked_as)
        (named_stack s S k.job.letter m.stack m.graph m.node m.names) (stack_here marked_as s.stacks)

    fault_there : Resolves m.stack m.graph k.job.letter.node k.name (Fault code path)
    fault_there = subst (λ (x : Graph). Resolves m.stack x k.job.letter.node k.name (Fault code path)) same_graph
        (subst (λ (x : Stack). Resolves x k.graph k.job.letter.node k.name (Fault code path)) same_stack its_fault)

    node_there : IsNode m.graph k.job.letter.node (U k.name k.chosen)
    node_there = subst (λ (x : Graph). IsNode x k.job.letter.node (U k.name k.chosen)) same_graph k.names.its_node

    marks_faulted : (st : Stack) → stack_at left.stacks k.job.letter.stack ≡ Some st → MarkFits left st
        (graph_of left k.job.letter.stack)
    marks_faulted st at_st =
        let is : marked_as ≡ st = same_some marked_as st its_stack' at_st in
        let graph : graph_of s k.job.letter.stack ≡ m.graph =
        graph_here s k.job.letter.stack m.graph m.names.its_graph in
        let f = job_fits s S e k.job m.stack m.graph m.node k.works.its m.names in
        let p = fault_there in
        subst (λ (x : Stack). MarkFits left x (graph_of left k.job.letter.stack)) is
        (subst (MarkFits left marked_as) (sym graph)
        (marked_failed s S left k.job.letter.stack m.stack m.graph
        (named_marks s S k.job.letter m.stack m.graph m.node m.names) k.job.letter.node m.node m.names.its_node
        (record { ready = f.ready; undone = f.undone })
        (by_plan k.name k.chosen code path node_there (record {
          point = p.point;
          there = p.there;
          item = p.item;
          asked = p.asked;
          known = p.known;
          known_are = p.known_are;
          result_is = p.result_is;
        }))))

  pub own_faulted : (failed : Option Stack) → Falls s k.job [] failed → (t : StateData) → t ≡ applied
      (left_changes e k.row ++ mark_failed failed) s
      → GraphsFit t → Links t → (st : Stack) → stack_at t.stacks k.job.letter.stack ≡ Some st → MarkFits t st
      (graph_of t k.job.letter.stack)
  own_faulted _ (overrun _ old resends) t is G L st' at' =
      own_quiet s S t G L k.job.letter.stack (subst (λ (x : StateData). IsQuiet s x k.job.letter.stack) (sym is)
      (quiet_left s S k.job.letter.stack k.job e k.row k.found)) st' at'
  own_faulted _ (marked m other) t is G L st' at' =
      own_quiet s S t G L k.job.letter.stack (subst (λ (x : StateData). IsQuiet s x k.job.letter.stack) (sym is)
      (quiet_left s S k.job.letter.stack k.job e k.row k.found)) st' at'
  own_faulted _ (marks m unmarked) t is G L st at_st =
      subst (λ (x : StateData). MarkFits x st (graph_of x k.job.letter.stack)) (sym is)
      (marks_faulted m st (subst (λ (x : StateData). stack_at x.stacks k.job.letter.stack ≡ Some st) is at_st))

pub own_faulted_tied : (judges : Judges) (s : StateData) → Standing s → (e : ℕ) (k : Begins s e) (code : List ℕ)
    (path : List Step)
    → IsTied judges s e (Faulted code path) → (failed : Option Stack) → Falls s k.job [] failed → (t : StateData)
    → t ≡ applied (left_changes e k.row ++ mark_failed failed) s → GraphsFit t → Links t → (st : Stack)
    → stack_at t.stacks k.job.letter.stack ≡ Some st → MarkFits t st (graph_of t k.job.letter.stack)
own_faulted_tied judges s S e k code path tied = own_faulted s S e k code path
    (tied_fault judges s e code path tied k)
