-- A step makes new rows on its own stack alone, under new numbers, and no next number falls.
use Rattle.std.proofs.Common.{◌≡◌, ◌⊎◌, inl, inr, ◌≤◌, ℕ, zero, suc, ◌+◌, List, [], ◌∷◌, ◌++◌, map, Option, Some, None}
use Rattle.std.proofs.Common.{refl, sym}
use Rattle.std.proofs.Common.{subst, ◌∙◌, arith}
use Rattle.row_table.specs.Rows.{row_at}
use Rattle.row_table.specs.declared.row.Row.{Row}
use Rattle.step_relation.specs.Applies.{NoneFalls}
use Rattle.step_relation.specs.Changes.{applied}
use Rattle.step_relation.specs.State.{StateData}
use Rattle.step_relation.specs.declared.Change.{Change}
use Rattle.step_relation.specs.declared.Change.TheVariants.{Enlist, Stop}
use Rattle.step_relation.specs.declared.Numbers.{Numbers}
use Rattle.step_relation.specs.Steps.{close, command, engines_from, enlist, note, past_engines, restart, stop, turn}
use Rattle.step_relation.specs.Steps.{unstored}
use Rattle.step_relation.specs.Elsewhere.{Elsewhere}
use Rattle.history_laws.proofs.tables.Frame.{NoneFalls-same}
use Rattle.history_laws.specs.leaves.Leaves.{Bears, StepsBear}
use Rattle.history_laws.proofs.leaves.Leaves.{command_elsewhere, turn_elsewhere}

bears_on : (own : List ℕ) (s t : StateData) → Elsewhere own s t → Bears (Some own) s t
bears_on own s t E = record {
  born = λ name n q is of at. born name n q is of at;
  rises = E.rises;
} where
  born : (name : List ℕ) (n : ℕ) (q : Row) → Some own ≡ Some name → q.stack ≡ name → row_at t.rows n ≡ Some q
      → ((r : Row) × (row_at s.rows n ≡ Some r) × (r.stack ≡ name)) ⊎ (s.next.row ≤ n)
  born name n q is of at = let same : own ≡ name = cc in elim (E.born n q (of ∙ sym same) at) [
    | inl old ↦ (let (r, found, its) = old in inl (r, found, its ∙ same))
    | inr le ↦ inr le
  ]

engines_rise : (next : Numbers) (count : ℕ) → NoneFalls next (past_engines next count)
engines_rise next count =
    record { stack = omega arith; trav = omega arith; row = omega arith; engine = omega arith; letter = omega arith }

-- nothing but engines and entries
bears_none : (s t : StateData) → NoneFalls s.next t.next → Bears None s t
bears_none s t rises = record { born = λ name n q is of at. cc; rises = rises }

bears_same : (own : Option (List ℕ)) (s : StateData) → Bears own s s
bears_same own s = record { born = λ name n q is of at. inl (q, at, of); rises = NoneFalls-same s.next }

-- engines that stop and are enlisted leave the next numbers
next_stopped : (es : List ℕ) (rest : List Change) (s : StateData) (next : Numbers)
    → ((t : StateData) → t.next ≡ next → (applied rest t).next ≡ next) → s.next ≡ next
    → (applied (map Stop es ++ rest) s).next ≡ next
next_stopped [] rest s next more is = more s is
next_stopped (e ∷ es) rest s next more is = next_stopped es rest _ next more is

next_enlisted : (count first : ℕ) (s : StateData) (next : Numbers) → s.next ≡ next
    → (applied (map Enlist (engines_from first count)) s).next ≡ next
next_enlisted zero first s next is = is
next_enlisted (suc count) first s next is = next_enlisted count (first + 1) _ next is

by_changes : (own : Option (List ℕ)) (s : StateData) (cs ds : List Change) → cs ≡ ds → Bears own s (applied ds s)
    → Bears own s (applied cs s)
by_changes own s cs ds is bears = subst (λ (x : List Change). Bears own s (applied x s)) (sym is) bears

pub steps_bear : StepsBear
steps_bear s cs es S (command it fits) = bears_on _ s (applied cs s) (command_elsewhere s S cs es it)
steps_bear s cs es S (turn e given it fits) = bears_on _ s (applied cs s) (turn_elsewhere s S e given cs es it)
steps_bear s cs es S (unstored e given lost all call it some fits first is made) =
    by_changes _ s cs [] is (bears_same _ s)
steps_bear s cs es S (stop e live is made) = by_changes None s cs _ is (bears_none s _ (NoneFalls-same s.next))
steps_bear s cs es S (enlist few below is made) = by_changes None s cs _ is (bears_none s _ (engines_rise s.next 1))
steps_bear s cs es S (restart count some few below is made) = by_changes None s cs _ is (bears_none s _
    (subst (NoneFalls s.next) (sym (next_stopped s.live _ _ (past_engines s.next count)
    (λ t same. next_enlisted count s.next.engine t (past_engines s.next count) same) refl))
    (engines_rise s.next count)))
steps_bear s cs es S (note it noted is made) = by_changes None s cs [] is (bears_same None s)
steps_bear s cs es S (close is made) = by_changes None s cs [] is (bears_same None s)
