-- Letters fit after each command: `letters_laid`.
use Rattle.std.proofs.Common.{◌≡◌, inl, inr, ℕ, [], ◌∷◌, List, Some, refl, sym, ap, ◌∙◌, subst, arith}
use Rattle.std.specs.Prelude.{Contains}
use Rattle.heat_plan.specs.declared.item.Item.{Item}
use Rattle.heat_plan.specs.declared.phase.Act.{Act}
use Rattle.heat_plan.specs.declared.phase.Act.TheVariants.{Create, Delete, Init, Rollback, Update}
use Rattle.heat_plan.specs.declared.phase.Status.TheVariants.{Complete, InProgress}
use Rattle.traversal_graph.specs.declared.shape.Node.{Node}
use Rattle.mail_table.specs.Mails.{letter_at}
use Rattle.mail_table.specs.declared.mail.Letter.{Letter}
use Rattle.core_state.specs.Changes.{applied}
use Rattle.core_state.specs.State.{StateData, graph_at, stack_at}
use Rattle.core_state.specs.declared.graph.Graph.{Graph}
use Rattle.core_state.specs.declared.stack.Stack.{Stack}
use Rattle.step_relation.specs.Commands.{Lays, Sets, first_letters, laid_changes, settles_at_once, stack_set}
use Rattle.step_relation.specs.Writes.{mark_complete}
use Rattle.step_relation.specs.Elsewhere.{Elsewhere}
use Rattle.step_relation.specs.Groups.{KeptByCommands}
use Rattle.step_relation.specs.MailFits.{IsNewest, LettersFit}
use Rattle.step_relation.specs.Sound.{Standing}
use Rattle.graph_laws.proofs.graphs.Below.{graph_here, same_some, stack_cut, stack_here, text_or_not}
use Rattle.graph_laws.proofs.graphs.Below.{commands_on_one}
use Rattle.graph_laws.proofs.graphs.Chosen.{put_rows}
use Rattle.graph_laws.proofs.graphs.Commands.{comes, g, laid, st}
use Rattle.graph_laws.proofs.graphs.Gathers.{node_at}
use Rattle.graph_laws.proofs.graphs.Kept.{sent}
use Rattle.graph_laws.proofs.graphs.Restated.{with_status}
use Rattle.graph_laws.proofs.letters.Onward.{Goes, Was, letters_are, letters_fit, sent_found}

module _ (s : StateData) (h : Standing s) (name : List ℕ) (items : List Item) (k : Lays s name items) where
  -- the letters sent, and the stack with its new graph, if it stands
  pub record Lain (it : Sets) (t : StateData) : Type 0 where
    pub letters : t.letters ≡ sent (first_letters s name items it k) s.letters
    pub rows : t.rows ≡ put_rows k.rows s.rows
    pub jobs : t.jobs ≡ s.jobs
    pub newest : (st : Stack) → stack_at t.stacks name ≡ Some st → st.trav ≡ s.next.trav
    pub graph : (st : Stack) → stack_at t.stacks name ≡ Some st → graph_at t.graphs name ≡ Some (g s h name items k)

  by_there : (it : Sets) (t : StateData) → t.letters ≡ sent (first_letters s name items it k) s.letters
      → t.rows ≡ put_rows k.rows s.rows
      → t.jobs ≡ s.jobs
      → t.graphs ≡ (laid s h name items k it).graphs → (there : Stack) → stack_at t.stacks name ≡ Some there
      → there.trav ≡ s.next.trav → Lain it t
  by_there it t letters rows jobs graphs there at newest = record {
    letters = letters;
    rows = rows;
    jobs = jobs;
    newest = λ x at_x. ap (λ (y : Stack). y.trav) (same_some x there at_x at) ∙ newest;
    graph = λ x at_x. subst (λ (gs : List Graph). graph_at gs name ≡ Some (g s h name items k)) (sym graphs)
        (graph_here (g s h name items k) s.graphs);
  }

  marked : (it : Sets) (a : Act)
      → Lain (record it { act = a }) (applied (mark_complete (stack_set s name (record it { act = a }) InProgress))
      (laid s h name items k (record it { act = a })))
  marked it Delete = record {
    letters = refl;
    rows = refl;
    jobs = refl;
    newest = λ x at. absurd ((stack_cut name (laid s h name items k (record it { act = Delete })).stacks at).0 refl);
    graph = λ x at. absurd ((stack_cut name (laid s h name items k (record it { act = Delete })).stacks at).0 refl);
  }
  marked it Init = by_there (record it { act = Init }) _ refl refl refl refl
      (with_status Complete (st s h name items k (record it { act = Init })))
      (stack_here (with_status Complete (st s h name items k (record it { act = Init })))
      (laid s h name items k (record it { act = Init })).stacks) refl
  marked it Create = by_there (record it { act = Create }) _ refl refl refl refl
      (with_status Complete (st s h name items k (record it { act = Create })))
      (stack_here (with_status Complete (st s h name items k (record it { act = Create })))
      (laid s h name items k (record it { act = Create })).stacks) refl
  marked it Update = by_there (record it { act = Update }) _ refl refl refl refl
      (with_status Complete (st s h name items k (record it { act = Update })))
      (stack_here (with_status Complete (st s h name items k (record it { act = Update })))
      (laid s h name items k (record it { act = Update })).stacks) refl
  marked it Rollback = by_there (record it { act = Rollback }) _ refl refl refl refl
      (with_status Complete (st s h name items k (record it { act = Rollback })))
      (stack_here (with_status Complete (st s h name items k (record it { act = Rollback })))
      (laid s h name items k (record it { act = Rollback })).stacks) refl

  settled : (it : Sets) (nodes : List Node)
      → Lain it (applied (settles_at_once nodes s name it) (laid s h name items k it))
  settled it [] = marked it it.act
  settled it (node ∷ nodes) = by_there it (laid s h name items k it) refl refl refl refl (st s h name items k it)
      (stack_here (st s h name items k it) s.stacks) refl

  pub lain : (it : Sets) → Lain it (applied (laid_changes s name items it k) s)
  lain it = subst (Lain it) (sym (comes s h name items k it)) (settled it k.graph.nodes)

  module _ (it : Sets) (t : StateData) (frame : Elsewhere name s t) (w : Lain it t) where
    -- a letter that waited is another stack's
    old : (n : ℕ) (l : Letter) (x : Stack) → letter_at s.letters n ≡ Some l → IsNewest t l x → Was s t l
    old n l x at newest = elim (text_or_not l.stack name) [
      | inl is ↦
          let lt = (h.links.numbered.letters n l at).newest in
          let e = newest.newest in
          let f = w.newest x (subst (λ (y : List ℕ). stack_at t.stacks y ≡ Some x) is newest.in_table) in
          absurd (omega arith)
      | inr ne ↦ record {
        stack = x;
        newest = record { in_table = sym (frame.stacks l.stack ne) ∙ newest.in_table; newest = newest.newest };
        grown = λ y at_y. record {
          graph = y;
          found = frame.graphs l.stack ne ∙ at_y;
          nodes = λ i node there. there;
          ready = λ i ready. ready;
        };
      }
    ]

    -- a new one goes to a node into which no edge leads
    new : (l : Letter) → Contains (first_letters s name items it k) l → Goes t l
    new l c x at =
        let to = letters_are (st s h name items k it) s.next.letter k.leaves l c in
        let leaf = (k.leaves_are.each l.node).0 to.among in
        let (node, there) = node_at k.graph.nodes l.node leaf.0 in record {
          graph = g s h name items k;
          node = node;
          its_graph = subst (λ (y : List ℕ). graph_at t.graphs y ≡ Some (g s h name items k)) (sym to.stack)
              (w.graph x (subst (λ (y : List ℕ). stack_at t.stacks y ≡ Some x) to.stack at));
          its_node = there;
          ready = λ a edge. absurd (leaf.1 a edge);
        }

    fits : LettersFit t
    fits = letters_fit s t h.shape.letters old
        (λ n l at. elim (sent_found (first_letters s name items it k) s.letters n l
        (subst (λ (y : List Letter). letter_at y n ≡ Some l) w.letters at)) [
          | inl was ↦ inl was
          | inr sent_now ↦ inr (new l sent_now)
        ])

pub letters_laid : KeptByCommands LettersFit
letters_laid s name items it k h ordered =
    fits s h name items k it (applied (laid_changes s name items it k) s) (commands_on_one s name items it k h ordered)
    (lain s h name items k it)
