-- Whom a release tells, and what a failure brings, is always found.
use Rattle.std.proofs.Common.{◌≡◌, inl, inr, ◌<◌, ℕ, List, [], Option, Some, None, refl, subst}
use Rattle.std.specs.Prelude.{length, slice_get}
use Rattle.std.proofs.lemmas.Option.{slice_get_within}
use Rattle.heat_plan.specs.declared.phase.Status.{Status}
use Rattle.heat_plan.specs.declared.phase.Status.TheVariants.{Complete, Failed, InProgress}
use Rattle.traversal_graph.specs.declared.shape.Node.{Node}
use Rattle.traversal_graph.specs.declared.shape.Node.TheVariants.{C, U}
use Rattle.mail_table.specs.declared.mail.Job.{Job}
use Rattle.mail_table.specs.declared.mail.Letter.{Letter}
use Rattle.core_state.specs.State.{StateData, graph_at, stack_at}
use Rattle.core_state.specs.declared.graph.Graph.{Graph}
use Rattle.core_state.specs.declared.stack.Stack.{Stack}
use Rattle.history_laws.specs.Asks.{Falls, marked, marks, overrun}
use Rattle.history_laws.specs.Resends.{AwaitsCleanup, AwaitsUpdate, HasGraph, Resends, cleanup, nobody, update}
use Rattle.history_laws.specs.Targets.{IsTarget}
use Rattle.history_laws.proofs.tables.Rows.{same_or_not, same_some}
use Rattle.history_laws.proofs.tables.Targets.{target_once}
use Rattle.next_laws.proofs.Decide.{Decided, least_or_none}
use Rattle.next_laws.proofs.Sights.{fresh_or_not, open_or_not}
use Rattle.next_laws.proofs.Targets.{target_or_none}

is_update : (n : ℕ) (name : List ℕ) (chosen : ℕ) → C n ≡ U name chosen → ⊥
is_update n name chosen e = cc

module _ (s : StateData) (st : Stack) (g : Graph) (number : ℕ) where
  same_node : (i : ℕ) (a b : Node) → slice_get g.graph.nodes i ≡ Some a → slice_get g.graph.nodes i ≡ Some b → a ≡ b
  same_node i a b h k = same_some a b h k

  awaits_at : (i : ℕ) (o : Option Node) → slice_get g.graph.nodes i ≡ o → Decided (AwaitsUpdate s st g number i)
  awaits_at i None none = inr (λ k. let there = k.node in cc)
  awaits_at i (Some (C n)) at = inr (λ k. is_update n k.name k.chosen (same_some (C n) (U k.name k.chosen) at k.node))
  awaits_at i (Some (U name n)) at = elim (target_or_none s.rows st.name (U name n)) [
    | inr none ↦ inr (λ k. none number (subst (λ (x : Node). IsTarget s.rows st.name x number)
        (same_node i (U k.name k.chosen) (U name n) k.node at) k.to))
    | inl found ↦ let (t, to) = found in elim (same_or_not t number) [
      | inr not ↦ inr (λ k. not (target_once s.rows st.name (U name n) t number to
          (subst (λ (x : Node). IsTarget s.rows st.name x number)
          (same_node i (U k.name k.chosen) (U name n) k.node at) k.to)))
      | inl is ↦ elim (open_or_not g i) [
        | inl open_ ↦ inl (record {
          name = name;
          chosen = n;
          node = at;
          to = subst (IsTarget s.rows st.name (U name n)) is to;
          open_ = open_;
        })
        | inr not ↦ inr (λ k. not k.open_)
      ]
    ]
  ]

  awaits_update_or_not : (i : ℕ) → Decided (AwaitsUpdate s st g number i)
  awaits_update_or_not i = awaits_at i (slice_get g.graph.nodes i) refl

  sweeps_at : (i : ℕ) (o : Option Node) → slice_get g.graph.nodes i ≡ o → Decided (AwaitsCleanup g number i)
  sweeps_at i None none = inr (λ k. let there = k.node in cc)
  sweeps_at i (Some (U name n)) at = inr (λ k. is_update number name n (same_some (C number) (U name n) k.node at))
  sweeps_at i (Some (C n)) at = elim (same_or_not n number) [
    | inr not ↦ inr (λ k. let same : C n ≡ C number = same_some (C n) (C number) at k.node in not cc)
    | inl is ↦ elim (open_or_not g i) [
      | inl open_ ↦
          inl (record { node = subst (λ (m : ℕ). slice_get g.graph.nodes i ≡ Some (C m)) is at; open_ = open_ })
      | inr not ↦ inr (λ k. not k.open_)
    ]
  ]

  awaits_cleanup_or_not : (i : ℕ) → Decided (AwaitsCleanup g number i)
  awaits_cleanup_or_not i = sweeps_at i (slice_get g.graph.nodes i) refl

module _ (s : StateData) (name : List ℕ) (number : ℕ) where
  none_without : ((st : Stack) (g : Graph) → HasGraph s name st g → ⊥) → (ls : List Letter) × Resends s name number ls
  none_without no_ = ([], nobody (λ st g k has w. no_ st g has) (λ st g k has w. no_ st g has))

  resends_with : (st : Stack) (g : Graph) → HasGraph s name st g → (ls : List Letter) × Resends s name number ls
  resends_with st g has = elim (least_or_none (AwaitsUpdate s st g number) (awaits_update_or_not s st g number)
      (length g.graph.nodes)) [
        | inl found ↦ let (i, least) = found in (_, update st g i has least)
        | inr none ↦ elim (least_or_none (AwaitsCleanup g number) (awaits_cleanup_or_not s st g number)
            (length g.graph.nodes)) [
              | inl found ↦ let (i, least) = found in (_, cleanup st g i has (λ k w. no_update none k w) least)
              | inr none' ↦ (
                [],
                nobody (λ st' g' k has' w. no_update none k (here_update st' g' has' k w))
                    (λ st' g' k has' w. no_cleanup none' k (here_cleanup st' g' has' k w)),
              )
            ]
      ] where
        no_update : ((i : ℕ) → i < length g.graph.nodes → ¬ AwaitsUpdate s st g number i) → (k : ℕ)
            → AwaitsUpdate s st g number k → ⊥
        no_update none k w = none k (slice_get_within g.graph.nodes k (U w.name w.chosen) w.node) w

        no_cleanup : ((i : ℕ) → i < length g.graph.nodes → ¬ AwaitsCleanup g number i) → (k : ℕ)
            → AwaitsCleanup g number k → ⊥
        no_cleanup none k w = none k (slice_get_within g.graph.nodes k (C number) w.node) w

        here_update : (st' : Stack) (g' : Graph) → HasGraph s name st' g' → (k : ℕ) → AwaitsUpdate s st' g' number k
            → AwaitsUpdate s st g number k
        here_update st' g' has' k w =
            subst (λ (z : Graph). AwaitsUpdate s st z number k) (same_some g' g has'.its_graph has.its_graph)
            (subst (λ (z : Stack). AwaitsUpdate s z g' number k) (same_some st' st has'.in_table has.in_table) w)

        here_cleanup : (st' : Stack) (g' : Graph) → HasGraph s name st' g' → (k : ℕ) → AwaitsCleanup g' number k
            → AwaitsCleanup g number k
        here_cleanup st' g' has' k w = subst (λ (z : Graph). AwaitsCleanup z number k)
            (same_some g' g has'.its_graph has.its_graph) w

  pub resends_exist : (ls : List Letter) × Resends s name number ls
  resends_exist = by (stack_at s.stacks name) refl where
    by_graph : (st : Stack) → stack_at s.stacks name ≡ Some st → (o : Option Graph) → graph_at s.graphs name ≡ o
        → (ls : List Letter) × Resends s name number ls
    by_graph st at None none = none_without (λ st' g has. let there = has.its_graph in cc)
    by_graph st at (Some g) at_g = resends_with st g (record { in_table = at; its_graph = at_g })

    by : (o : Option Stack) → stack_at s.stacks name ≡ o → (ls : List Letter) × Resends s name number ls
    by None none = none_without (λ st g has. let there = has.in_table in cc)
    by (Some st) at = by_graph st at (graph_at s.graphs name) refl

pub progress_or_not : (x : Status) → Decided (x ≡ InProgress)
progress_or_not Complete = inr (λ e. cc)
progress_or_not Failed = inr (λ e. cc)
progress_or_not InProgress = inl refl

pub falls_exist : (s : StateData) (j : Job) → (ls : List Letter) × (f : Option Stack) × Falls s j ls f
falls_exist s j = elim (fresh_or_not s j.letter j.row) [
  | inr over ↦ let (ls, sends) = resends_exist s j.letter.stack j.row in (ls, None, overrun ls over sends)
  | inl k ↦ elim (progress_or_not k.stack.status) [
    | inl is ↦ ([], Some k.stack, marks k is)
    | inr not ↦ ([], None, marked k not)
  ]
]
