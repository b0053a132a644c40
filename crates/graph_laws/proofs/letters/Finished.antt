-- Letters fit after a finish, with or without the mark that it brings: `finish_keeps` and `finish_marks`.
use Rattle.std.proofs.Common.{◌≡◌, ◌≢◌, ◌<◌, inl, inr, ℕ, [], ◌∷◌, List, Some, refl, sym, ◌∙◌, subst}
use Rattle.std.specs.Prelude.{Contains, length, slice_get}
use Rattle.heat_plan.specs.declared.phase.Act.{Act}
use Rattle.heat_plan.specs.declared.phase.Act.TheVariants.{Create, Delete, Init, Rollback, Update}
use Rattle.heat_plan.specs.declared.phase.Status.TheVariants.{Complete}
use Rattle.traversal_graph.specs.Builds.{Joins}
use Rattle.traversal_graph.specs.declared.shape.Node.{Node}
use Rattle.sync_points.specs.declared.point.Input.{Input}
use Rattle.mail_table.specs.Mails.{letter_at}
use Rattle.mail_table.specs.declared.mail.Letter.{Letter}
use Rattle.core_state.specs.Changes.{applied}
use Rattle.core_state.specs.Reads.{IsReady}
use Rattle.core_state.specs.State.{StateData, cut_stack, graph_at, stack_at}
use Rattle.core_state.specs.declared.change.Change.TheVariants.{DropStack}
use Rattle.core_state.specs.declared.graph.Graph.{Graph}
use Rattle.core_state.specs.declared.stack.Stack.{Stack}
use Rattle.step_relation.specs.Finishes.{Finishes, finished_changes, given_input, ready_letters}
use Rattle.step_relation.specs.Inputs.{passed}
use Rattle.step_relation.specs.Writes.{mark_complete}
use Rattle.step_relation.specs.GraphFits.{graph_of}
use Rattle.step_relation.specs.MailFits.{LettersFit}
use Rattle.step_relation.specs.Sound.{Standing}
use Rattle.graph_laws.proofs.graphs.Below.{graph_kept, same_some, stack-key, stack_cut, text_or_not}
use Rattle.graph_laws.proofs.graphs.Finished.{between, comes, graph_is, its_stack, v, written_else, written_here}
use Rattle.graph_laws.proofs.graphs.Gathers.{inputs_keep, node_at}
use Rattle.graph_laws.proofs.graphs.Kept.{SameStacks, stacks_marked, stacks_same}
use Rattle.graph_laws.proofs.graphs.Passed.{after_is, passed_is}
use Rattle.graph_laws.proofs.letters.Onward.{Goes, Grown, letters_are, letters_fit, sent_found, was_same}

-- no node is less ready than it was
pub ready_still : (g : Graph) (i : ℕ) (x : Input) (succs : List ℕ) (k : ℕ) → IsReady g k
    → IsReady (passed g i x succs) k
ready_still g i x succs k ready = subst (λ (y : Graph). IsReady y k) (sym (passed_is g i x succs)) (λ a edge.
    let d = ready a edge in
    let (p, at, after) = after_is g i x succs k d.point d.there in
    record {
      point = p;
      input = d.input;
      there = at;
      among = inputs_keep i x succs g.stack k d.point p after d.input d.among;
      from = d.from;
    })

grown_passed : (t : StateData) (name : List ℕ) (g : Graph) (i : ℕ) (x : Input) (succs : List ℕ)
    → graph_at t.graphs name ≡ Some (passed g i x succs) → Grown t name g
grown_passed t name g i x succs at = record {
  graph = passed g i x succs;
  found = at;
  nodes = λ k node there. subst (λ (y : Graph). slice_get y.graph.nodes k ≡ Some node)
      (sym (passed_is g i x succs)) there;
  ready = ready_still g i x succs;
}

module _ (s : StateData) (h : Standing s) (e : ℕ) (k : Finishes s e) where
  abbrev i : ℕ
  i = k.job.letter.node

  abbrev own : List ℕ
  own = k.job.letter.stack

  abbrev x : Input
  x = given_input s e k

  abbrev after : Graph
  after = passed k.fresh.graph i x k.succs

  its_name : k.fresh.stack.name ≡ own
  its_name = stack-key s.stacks own k.fresh.stack k.fresh.names.in_table

  ready_is : (n : ℕ) → Contains k.ready n → Contains k.succs n × IsReady after n
  ready_is n c = (k.ready_are.each n).0 c

  -- where a node that is ready then stands
  node_there : (n : ℕ) → Contains k.succs n → (node : Node) × (slice_get after.graph.nodes n ≡ Some node)
  node_there n c =
      let edge : Joins k.fresh.graph.graph.edges i n = (k.behind.each n).0 c in
      let lt : n < length (graph_of s own).graph.nodes =
      ((h.shape.graphs own k.fresh.stack k.fresh.names.in_table).nodes.ends i n
      (subst (λ (y : Graph). Joins y.graph.edges i n) (sym (graph_is s h e k)) edge)).1 in
      let (node, at) = node_at k.fresh.graph.graph.nodes n
      (subst (λ (y : Graph). n < length y.graph.nodes) (graph_is s h e k) lt) in (
        node,
        subst (λ (y : Graph). slice_get y.graph.nodes n ≡ Some node)
            (sym (passed_is k.fresh.graph i x k.succs)) at,
      )

  module _ (t : StateData) (stacks : SameStacks s.stacks t.stacks)
      (others : (name : List ℕ) → name ≢ own → graph_at t.graphs name ≡ graph_at s.graphs name)
      (mine : (st : Stack) → stack_at t.stacks own ≡ Some st → graph_at t.graphs own ≡ Some after)
      (letters : t.letters ≡ (between s h e k).letters) where
    new : (l : Letter) → Contains (ready_letters s e k) l → Goes t l
    new l c st at =
        let it = letters_are k.fresh.stack s.next.letter k.ready l c in
        let is : l.stack ≡ own = it.stack ∙ its_name in
        let (succ, ready) = ready_is l.node it.among in
        let (node, there) = node_there l.node succ in record {
          graph = after;
          node = node;
          its_graph = subst (λ (y : List ℕ). graph_at t.graphs y ≡ Some after) (sym is)
              (mine st (subst (λ (y : List ℕ). stack_at t.stacks y ≡ Some st) is at));
          its_node = there;
          ready = ready;
        }

    grown : (name : List ℕ) (st : Stack) → stack_at t.stacks name ≡ Some st → (g : Graph)
        → graph_at s.graphs name ≡ Some g → Grown t name g
    grown name st at g at_g = elim (text_or_not name own) [
      | inl is ↦
          let same : k.fresh.graph ≡ g = same_some k.fresh.graph g k.fresh.names.its_graph
          (subst (λ (y : List ℕ). graph_at s.graphs y ≡ Some g) is at_g) in
          subst (Grown t name) same (grown_passed t name k.fresh.graph i x k.succs
          (subst (λ (y : List ℕ). graph_at t.graphs y ≡ Some after) (sym is)
          (mine st (subst (λ (y : List ℕ). stack_at t.stacks y ≡ Some st) is at))))
      | inr ne ↦ record {
        graph = g;
        found = others name ne ∙ at_g;
        nodes = λ n node there. there;
        ready = λ n ready. ready;
      }
    ]

    fits : LettersFit t
    fits = letters_fit s t h.shape.letters
        (λ n l st at newest. was_same s t stacks l st newest (grown l.stack st newest.in_table))
        (λ n l at. elim (sent_found (ready_letters s e k) s.letters n l
        (subst (λ (y : List Letter). letter_at y n ≡ Some l) letters at)) [
          | inl was ↦ inl was
          | inr sent_now ↦ inr (new l sent_now)
        ])

  others_stay : (name : List ℕ) → name ≢ own → graph_at (between s h e k).graphs name ≡ graph_at s.graphs name
  others_stay name ne = written_else (v s h e k) own (its_stack s h e k) (i ∷ k.succs) s.graphs name ne

  mine_then : graph_at (between s h e k).graphs own ≡ Some after
  mine_then = written_here (v s h e k) own (its_stack s h e k)
      (i ∷ k.succs) s.graphs k.fresh.graph k.fresh.names.its_graph

  marked : (a : Act) → stack_at s.stacks own ≡ Some (record k.fresh.stack { act = a })
      → LettersFit (applied (mark_complete (record k.fresh.stack { act = a })) (between s h e k))
  marked Delete at = fits (applied (DropStack k.fresh.stack.name ∷ []) (between s h e k)) cut
      (λ name ne. graph_kept k.fresh.stack.name (between s h e k).graphs name (λ eq. ne (sym eq ∙ its_name))
      ∙ others_stay name ne)
      (λ st there. absurd ((stack_cut k.fresh.stack.name s.stacks there).0 its_name)) refl where
        cut : SameStacks s.stacks (cut_stack k.fresh.stack.name s.stacks)
        cut name st there = (st, st.status, (stack_cut k.fresh.stack.name s.stacks there).1, refl)
  marked Init at = fits _ (stacks_marked s.stacks own (record k.fresh.stack { act = Init }) Complete at) others_stay
      (λ st there. mine_then) refl
  marked Create at = fits _ (stacks_marked s.stacks own (record k.fresh.stack { act = Create }) Complete at) others_stay
      (λ st there. mine_then) refl
  marked Update at = fits _ (stacks_marked s.stacks own (record k.fresh.stack { act = Update }) Complete at) others_stay
      (λ st there. mine_then) refl
  marked Rollback at = fits _ (stacks_marked s.stacks own (record k.fresh.stack { act = Rollback }) Complete at)
      others_stay (λ st there. mine_then) refl

  pub finish_keeps : LettersFit (applied (finished_changes s e k []) s)
  finish_keeps = subst LettersFit (sym (comes s h e k []))
      (fits (between s h e k) (stacks_same s.stacks) others_stay (λ st there. mine_then) refl)

  pub finish_marks : LettersFit (applied (finished_changes s e k (mark_complete k.fresh.stack)) s)
  finish_marks = subst LettersFit (sym (comes s h e k (mark_complete k.fresh.stack)))
      (marked k.fresh.stack.act k.fresh.names.in_table)
