-- Graphs fit after a step that leaves them and changes one stack's status: `kept_by`; what lists of changes leave.
use Rattle.std.proofs.Common.{◌≡◌, inl, inr, ℕ, [], ◌∷◌, ◌++◌, List, Some, map, refl, sym, ◌∙◌, subst}
use Rattle.std.specs.Prelude.{length}
use Rattle.heat_plan.specs.declared.phase.Status.{Status}
use Rattle.mail_table.specs.Mails.{put_letter}
use Rattle.mail_table.specs.declared.mail.Letter.{Letter}
use Rattle.core_state.specs.Changes.{applied, apply}
use Rattle.core_state.specs.State.{StateData, graph_at, put_stack, stack_at}
use Rattle.core_state.specs.declared.change.Change.{Change}
use Rattle.core_state.specs.declared.change.Change.TheVariants.{Send}
use Rattle.core_state.specs.declared.graph.Graph.{Graph}
use Rattle.core_state.specs.declared.numbers.Numbers.{Numbers}
use Rattle.core_state.specs.declared.stack.Stack.{Stack}
use Rattle.step_relation.specs.Writes.{draw_letters, past_letters}
use Rattle.step_relation.specs.GraphFits.{GraphFits, graph_of, graph_or}
use Rattle.step_relation.specs.Sound.{Standing}
use Rattle.history_laws.proofs.tables.Rows.{stack-key, stack_put}
use Rattle.graph_laws.specs.graphs.Laws.{GraphsFit}
use Rattle.graph_laws.proofs.graphs.Carried.{Carries, graph_carried}
use Rattle.graph_laws.proofs.graphs.Restated.{restated, with_status}

-- of each stack the status alone may be another
abbrev pub SameStacks : List Stack → List Stack → Type 0
SameStacks before after = (name : List ℕ) (st : Stack) → stack_at after name ≡ Some st
    → (o : Stack) × (x : Status) × (stack_at before name ≡ Some o) × (with_status x o ≡ st)

pub stacks_same : (stacks : List Stack) → SameStacks stacks stacks
stacks_same stacks name st at = (st, st.status, at, refl)

pub stacks_marked : (stacks : List Stack) (name : List ℕ) (st : Stack) (x : Status) → stack_at stacks name ≡ Some st
    → SameStacks stacks (put_stack (with_status x st) stacks)
stacks_marked stacks name st x at_st other q at = elim (stack_put (with_status x st) stacks at) [
  | inl new ↦ (
    st,
    x,
    subst (λ (k : List ℕ). stack_at stacks k ≡ Some st)
        (sym (stack-key stacks name st at_st) ∙ new.0) at_st,
    new.1,
  )
  | inr was ↦ (q, q.status, was.1, refl)
]

-- each stack's rows are carried on
abbrev pub CarriesAll : StateData → StateData → Type 0
CarriesAll s t = (name : List ℕ) (st : Stack) → stack_at s.stacks name ≡ Some st → Carries s t st (graph_of s name)

pub kept_by : (s t : StateData) → Standing s → SameStacks s.stacks t.stacks → t.graphs ≡ s.graphs → CarriesAll s t
    → GraphsFit t
kept_by s t h stacks graphs rows name st at =
    let (o, x, was, is) = stacks name st at in
    let carried : GraphFits t o (graph_of s name) =
    graph_carried s t o (graph_of s name) h.links.chained (rows name o was) (h.shape.graphs name o was) in
    let here : GraphFits t o (graph_of t name) =
    subst (λ (gs : List Graph). GraphFits t o (graph_or name (graph_at gs name))) (sym graphs) carried in
    subst (λ (y : Stack). GraphFits t y (graph_of t name)) is (restated t o (graph_of t name) x here)

-- the letters, and the next numbers, behind some letters
abbrev pub sent : List Letter → List Letter → List Letter
sent [] letters = letters
sent (l ∷ ls) letters = sent ls (put_letter l letters)

abbrev pub drawn : Numbers → List Letter → Numbers → Numbers
drawn next [] old = old
drawn next (l ∷ ls) old = past_letters next (length (l ∷ ls))

pub sends : (ls : List Letter) (rest : List Change) (s : StateData)
    → applied (map Send ls ++ rest) s ≡ applied rest (record s { letters = sent ls s.letters })
sends [] rest s = refl
sends (l ∷ ls) rest s = sends ls rest (apply (Send l) s)

pub sends_all : (ls : List Letter) (s : StateData) → applied (map Send ls) s ≡ record s { letters = sent ls s.letters }
sends_all [] s = refl
sends_all (l ∷ ls) s = sends_all ls (apply (Send l) s)

pub draws : (next : Numbers) (ls : List Letter) (rest : List Change) (s : StateData)
    → applied (draw_letters next ls rest) s ≡ applied rest (record s { next = drawn next ls s.next })
draws next [] rest s = refl
draws next (l ∷ ls) rest s = refl
