-- Engines that come and go leave every stack.
use Rattle.std.proofs.Common.{◌≢◌, ℕ, zero, suc, ◌+◌, List, [], ◌∷◌, ◌++◌, map, ap, arith}
use Rattle.std.specs.Prelude.{length}
use Rattle.step_relation.specs.Changes.{applied, apply}
use Rattle.step_relation.specs.State.{StateData}
use Rattle.step_relation.specs.declared.Change.{Change}
use Rattle.step_relation.specs.declared.Change.TheVariants.{Enlist, Stop}
use Rattle.step_relation.specs.Steps.{engines_from, past_engines, restart_changes}
use Rattle.step_relation.specs.Elsewhere.{Elsewhere}
use Rattle.history_laws.proofs.tables.Frame.{nowhere, on_enlist, on_numbers, on_stop, then}
use Rattle.step_relation.specs.declared.Change.TheVariants as change_to

stops : (own : List ℕ) (s : StateData) (es : List ℕ) (rest : List Change)
    → ((t : StateData) → Elsewhere own t (applied rest t))
    → Elsewhere own s (applied (map Stop es ++ rest) s)
stops own s [] rest more = more s
stops own s (e ∷ es) rest more = then own s (apply (Stop e) s) _ (on_stop own s e)
    (stops own (apply (Stop e) s) es rest more)

enlists : (own : List ℕ) (s : StateData) (first count : ℕ)
    → Elsewhere own s (applied (map Enlist (engines_from first count)) s)
enlists own s first zero = nowhere own s
enlists own s first (suc count) = then own s (apply (Enlist first) s) _ (on_enlist own s first)
    (enlists own (apply (Enlist first) s) (first + 1) count)

pub on_stopped : (own : List ℕ) (s : StateData) (e : ℕ) → Elsewhere own s (applied (Stop e ∷ []) s)
on_stopped own s e = on_stop own s e

pub on_enlisted : (own : List ℕ) (s : StateData)
    → Elsewhere own s (applied (change_to.Numbers (past_engines s.next 1) ∷ Enlist s.next.engine ∷ []) s)
on_enlisted own s = then own s (apply (change_to.Numbers (past_engines s.next 1)) s) _
    (on_numbers own s (past_engines s.next 1) (record {
      stack = omega arith;
      trav = omega arith;
      row = omega arith;
      engine = omega arith;
      letter = omega arith;
    }))
    (on_enlist own _ s.next.engine)

pub on_restarted : (own : List ℕ) (s : StateData) (count : ℕ) → Elsewhere own s (applied (restart_changes s count) s)
on_restarted own s count = then own s (apply (change_to.Numbers (past_engines s.next count)) s) _
    (on_numbers own s (past_engines s.next count) (record {
      stack = omega arith;
      trav = omega arith;
      row = omega arith;
      engine = omega arith;
      letter = omega arith;
    }))
    (stops own _ s.live (map Enlist (engines_from s.next.engine count)) (λ t. enlists own t s.next.engine count))

-- a name that isn't this one
pub apart_from : (name : List ℕ) → name ≢ 0 ∷ name
apart_from name is = let e = ap length is in omega arith
