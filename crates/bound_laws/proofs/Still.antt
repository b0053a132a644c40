-- A step that leaves graphs and pasts, and marks a stack at most: what stands for its nodes, letters and items.
use Rattle.std.proofs.Common.{◌≡◌, inl, inr, ◌<◌, ◌≤◌, ℕ, ◌+◌, List, Some, length, refl, sym, ap, subst, ◌∙◌}
use Rattle.heat_plan.specs.Plans.{PlanData}
use Rattle.heat_plan.specs.declared.phase.Status.TheVariants.{Failed, InProgress}
use Rattle.heat_plan.specs.declared.token.Token.{Token}
use Rattle.mail_table.specs.Mails.{cut_letter, job_at, letter_at, put_letter}
use Rattle.mail_table.specs.declared.mail.Job.{Job}
use Rattle.mail_table.specs.declared.mail.Letter.{Letter}
use Rattle.core_state.specs.State.{StateData, graph_at, past_at, put_stack, stack_at}
use Rattle.core_state.specs.declared.graph.Graph.{Graph}
use Rattle.core_state.specs.declared.past.Past.{Past}
use Rattle.core_state.specs.declared.stack.Stack.{Stack}
use Rattle.step_relation.specs.Freshness.{plan_of}
use Rattle.step_relation.specs.Orders.{back_after, past_of, past_or, plan_back}
use Rattle.step_relation.specs.MailFits.{IsStale}
use Rattle.history_laws.proofs.tables.Rows.{letter_cut, letter_put, same_some, stack_else, stack_here, stack_put, text_or_not}
use Rattle.bound_laws.specs.Bound.{IsWork}
use Rattle.bound_laws.specs.Rolls.{MayRoll, RollItem, RollLetter, RollNode}
use Rattle.bound_laws.specs.Work.{IsUnready}
use Rattle.bound_laws.proofs.Sets.{at_most, fewer, one_more}

-- a stack found later was there, with its traversal, and is the same while it has no mark
pub record Still (s t : StateData) : Type 0 where
  pub stacks : (name : List ℕ) (st : Stack) → stack_at t.stacks name ≡ Some st
      → (o : Stack) × (stack_at s.stacks name ≡ Some o) × (st.trav ≡ o.trav) × (st.status ≡ InProgress → st ≡ o)
  pub stay : (name : List ℕ) (o : Stack) → stack_at s.stacks name ≡ Some o
      → (st : Stack) × (stack_at t.stacks name ≡ Some st) × (st.trav ≡ o.trav)
  pub graphs : (name : List ℕ) → graph_at t.graphs name ≡ graph_at s.graphs name
  pub pasts : (name : List ℕ) → past_at t.pasts name ≡ past_at s.pasts name

-- nothing of it changes
pub still_same : (s t : StateData) → t.stacks ≡ s.stacks → t.graphs ≡ s.graphs → t.pasts ≡ s.pasts → Still s t
still_same s t stacks graphs pasts = record {
  stacks = λ name st at. (st, subst (λ (l : List Stack). stack_at l name ≡ Some st) stacks at, refl, (λ x. refl));
  stay = λ name o at. (o, subst (λ (l : List Stack). stack_at l name ≡ Some o) (sym stacks) at, refl);
  graphs = λ name. ap (λ (l : List Graph). graph_at l name) graphs;
  pasts = λ name. ap (λ (l : List Past). past_at l name) pasts;
}

-- a stack is marked as failed
pub still_marked : (s t : StateData) (st : Stack) → stack_at s.stacks st.name ≡ Some st
    → t.stacks ≡ put_stack (record st { status = Failed }) s.stacks
    → t.graphs ≡ s.graphs → t.pasts ≡ s.pasts → Still s t
still_marked s t st at stacks graphs pasts = record {
  stacks = λ name x found. were name x (subst (λ (l : List Stack). stack_at l name ≡ Some x) stacks found);
  stay = λ name o found. are name o found;
  graphs = λ name. ap (λ (l : List Graph). graph_at l name) graphs;
  pasts = λ name. ap (λ (l : List Past). past_at l name) pasts;
} where
  marked : Stack
  marked = record st { status = Failed }

  were : (name : List ℕ) (x : Stack) → stack_at (put_stack marked s.stacks) name ≡ Some x
      → (o : Stack) × (stack_at s.stacks name ≡ Some o) × (x.trav ≡ o.trav) × (x.status ≡ InProgress → x ≡ o)
  were name x found = elim (stack_put marked s.stacks found) [
    | inr old ↦ (x, old.1, refl, (λ y. refl))
    | inl new ↦ (
      st,
      subst (λ (n : List ℕ). stack_at s.stacks n ≡ Some st) new.0 at,
      ap (λ (y : Stack). y.trav) (sym new.1),
      (λ under. not_both x new.1 under),
    )
  ] where
    not_both : (y : Stack) → marked ≡ y → y.status ≡ InProgress → y ≡ st
    not_both y is under = let e : Failed ≡ InProgress = ap (λ (z : Stack). z.status) is ∙ under in cc

  are : (name : List ℕ) (o : Stack) → stack_at s.stacks name ≡ Some o → (x : Stack) × (stack_at t.stacks name ≡ Some x)
      × (x.trav ≡ o.trav)
  are name o found = elim (text_or_not st.name name) [
    | inl is ↦
        (let same : o ≡ st = same_some o st found (subst (λ (n : List ℕ). stack_at s.stacks n ≡ Some st) is at) in (
          marked,
          subst (λ (l : List Stack). stack_at l name ≡ Some marked) (sym stacks)
              (subst (λ (n : List ℕ). stack_at (put_stack marked s.stacks) n ≡ Some marked) is
              (stack_here marked s.stacks)),
          ap (λ (y : Stack). y.trav) (sym same),
        ))
    | inr ne ↦ (
      o,
      subst (λ (l : List Stack). stack_at l name ≡ Some o) (sym stacks)
          (stack_else marked s.stacks name ne ∙ found),
      refl,
    )
  ]

module _ (s t : StateData) (k : Still s t) where
  pub past_is : (name : List ℕ) → past_of t name ≡ past_of s name
  past_is name = ap (past_or name) (k.pasts name)

  pub may_was : (name : List ℕ) (st : Stack) → MayRoll t name st → MayRoll s name st
  may_was name st m = let (o, at, trav, same) = k.stacks name st m.in_table in record {
    in_table = subst (λ (x : Stack). stack_at s.stacks name ≡ Some x) (sym (same m.unmarked)) at;
    unmarked = m.unmarked;
    rollback = ap (λ (p : Past). p.rollback) (sym (past_is name)) ∙ m.rollback;
  }

  pub unready_was : (x : List ℕ × ℕ) → IsUnready t x → IsUnready s x
  unready_was x u = let (o, at, trav, same) = k.stacks x.0 u.stack u.in_table in record {
    stack = o;
    graph = u.graph;
    node = u.node;
    in_table = at;
    its_graph = sym (k.graphs x.0) ∙ u.its_graph;
    its_node = u.its_node;
    unready = u.unready;
    undone = u.undone;
  }

  pub stale_was : (l : Letter) → IsStale t.stacks l → IsStale s.stacks l
  stale_was l old o at = let (st, found, trav) = k.stay l.stack o at in λ is. old st found (trav ∙ is)

  pub stale_is : (l : Letter) → IsStale s.stacks l → IsStale t.stacks l
  stale_is l old st found = let (o, at, trav, same) = k.stacks l.stack st found in λ is. old o at (sym trav ∙ is)

  pub roll_node_was : (x : List ℕ × ℕ) → RollNode t x → RollNode s x
  roll_node_was x r = record { stack = r.stack; may = may_was x.0 r.stack r.may; node = unready_was x r.node }

  -- the plan that it would go back to
  pub back_is : (st : Stack) → plan_back t st ≡ plan_back s st
  back_is st = ap (λ (p : Past). plan_of (back_after st p)) (past_is st.name)

  pub roll_item_was : (x : List ℕ × ℕ) → RollItem t x → RollItem s x
  roll_item_was x r = record {
    stack = r.stack;
    may = may_was x.0 r.stack r.may;
    within = subst (λ (p : PlanData). x.1 < length p.items) (back_is r.stack) r.within;
  }

  pub roll_letter_was : (n : ℕ) (r : RollLetter t n) → letter_at s.letters n ≡ Some r.letter → RollLetter s n
  roll_letter_was n r at = record {
    letter = r.letter;
    at = at;
    stack = r.stack;
    may = may_was r.letter.stack r.stack r.may;
    newest = r.newest;
  }

module _ (before after : Token → ℕ) (s t : StateData) (k : Still s t) (n m : ℕ) (a : IsWork before s n)
    (b : IsWork after t m) where
  pub nodes_fall : b.nodes ≤ a.nodes
  nodes_fall = at_most b.nodes_are a.nodes_are (unready_was s t k)

  pub roll_nodes_fall : b.rolls_are.nodes ≤ a.rolls_are.nodes
  roll_nodes_fall = at_most b.rolls_are.nodes_are a.rolls_are.nodes_are (roll_node_was s t k)

  pub roll_items_fall : b.rolls_are.items ≤ a.rolls_are.items
  roll_items_fall = at_most b.rolls_are.items_are a.rolls_are.items_are (roll_item_was s t k)

  -- no letter comes
  pub letters_fall : ((i : ℕ) (l : Letter) → letter_at t.letters i ≡ Some l → letter_at s.letters i ≡ Some l)
      → b.letters ≤ a.letters
  letters_fall were = at_most b.letters_are a.letters_are
      (λ i x. record { letter = x.letter; at = were i x.letter x.at })

  pub roll_letters_fall : ((i : ℕ) (l : Letter) → letter_at t.letters i ≡ Some l → letter_at s.letters i ≡ Some l)
      → b.rolls_are.letters ≤ a.rolls_are.letters
  roll_letters_fall were = at_most b.rolls_are.letters_are a.rolls_are.letters_are
      (λ i x. roll_letter_was s t k i x (were i x.letter x.at))

  -- one goes
  pub letter_goes : (l : Letter) → letter_at s.letters l.no ≡ Some l → t.letters ≡ cut_letter l.no s.letters
      → b.letters + 1 ≤ a.letters
  letter_goes l at is = fewer b.letters_are a.letters_are
      (λ i x. record {
        letter = x.letter;
        at = (letter_cut l.no s.letters (subst (λ (ls : List Letter). letter_at ls i ≡ Some x.letter) is x.at)).1;
      })
      l.no (record { letter = l; at = at })
      (λ x. (letter_cut l.no s.letters (subst (λ (ls : List Letter). letter_at ls l.no ≡ Some x.letter) is x.at)).0
      refl)

  pub roll_letter_goes : (l : Letter) → letter_at s.letters l.no ≡ Some l → t.letters ≡ cut_letter l.no s.letters
      → (st : Stack) → MayRoll s l.stack st
      → l.trav ≡ st.trav → b.rolls_are.letters + 1 ≤ a.rolls_are.letters
  roll_letter_goes l at is st may newest = fewer b.rolls_are.letters_are a.rolls_are.letters_are
      (λ i x. roll_letter_was s t k i x
      (letter_cut l.no s.letters (subst (λ (ls : List Letter). letter_at ls i ≡ Some x.letter) is x.at)).1)
      l.no (record { letter = l; at = at; stack = st; may = may; newest = newest })
      (λ x. (letter_cut l.no s.letters (subst (λ (ls : List Letter). letter_at ls l.no ≡ Some x.letter) is x.at)).0
      refl)

  -- one comes
  pub letter_comes : (l : Letter) → t.letters ≡ put_letter l s.letters → b.letters ≤ a.letters + 1
  letter_comes l is = one_more b.letters_are a.letters_are l.no
      (λ i x. elim (letter_put l s.letters (subst (λ (ls : List Letter). letter_at ls i ≡ Some x.letter) is x.at)) [
        | inl new ↦ inr (sym new.0)
        | inr old ↦ inl (record { letter = x.letter; at = old.1 })
      ])

  pub roll_letter_comes : (l : Letter) → t.letters ≡ put_letter l s.letters
      → b.rolls_are.letters ≤ a.rolls_are.letters + 1
  roll_letter_comes l is = one_more b.rolls_are.letters_are a.rolls_are.letters_are l.no
      (λ i x. elim (letter_put l s.letters (subst (λ (ls : List Letter). letter_at ls i ≡ Some x.letter) is x.at)) [
        | inl new ↦ inr (sym new.0)
        | inr old ↦ inl (roll_letter_was s t k i x old.1)
      ])

  -- one comes to a stack that isn't to roll
  pub roll_letter_beside : (l : Letter) → t.letters ≡ put_letter l s.letters → ((st : Stack) → ¬ MayRoll s l.stack st)
      → b.rolls_are.letters ≤ a.rolls_are.letters
  roll_letter_beside l is never = at_most b.rolls_are.letters_are a.rolls_are.letters_are
      (λ i x. elim (letter_put l s.letters (subst (λ (ls : List Letter). letter_at ls i ≡ Some x.letter) is x.at)) [
        | inl new ↦ absurd (never x.stack (subst (λ (y : Letter). MayRoll s y.stack x.stack) (sym new.1)
            (may_was s t k x.letter.stack x.stack x.may)))
        | inr old ↦ roll_letter_was s t k i x old.1
      ])

-- what a step leaves of stacks that may roll, of jobs that aren't late, and of nodes
pub record Eases (s t : StateData) : Type 0 where
  pub may : (name : List ℕ) (st : Stack) → MayRoll t name st → MayRoll s name st
  pub late : (f : ℕ) (k : Job) → job_at t.jobs f ≡ Some k → job_at s.jobs f ≡ Some k → IsStale t.stacks k.letter
      → IsStale s.stacks k.letter
  pub graphs : (name : List ℕ) (g : Graph) → graph_at t.graphs name ≡ Some g
      → (o : Graph) × (graph_at s.graphs name ≡ Some o) × (o.graph ≡ g.graph)
  pub back : (name : List ℕ) (st : Stack) → MayRoll t name st → plan_back t st ≡ plan_back s st

pub eases_of : (s t : StateData) → Still s t → Eases s t
eases_of s t k = record {
  may = may_was s t k;
  late = λ f j at was old. stale_was s t k j.letter old;
  graphs = λ name g at. (g, sym (k.graphs name) ∙ at, refl);
  back = λ name st may. back_is s t k st;
}
