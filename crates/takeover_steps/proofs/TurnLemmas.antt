-- The end of a stopped engine's job that has work is a turn of the engine that takes it over.
use Rattle.std.proofs.Common.{◌≡◌, ◌⊎◌, inl, inr, ℕ, None, Ok, Err, refl}
use Rattle.std.specs.Prelude.{Option, Result, IfErr, IfOk}
use Rattle.heat_plan.specs.declared.refusal.Refusal.{Refusal}
use Rattle.heat_plan.specs.declared.refusal.Refusal.TheVariants.{Memory, Worn}
use Rattle.traversal_graph.specs.declared.shape.Node.{Node}
use Rattle.row_table.specs.declared.row.Row.{Row}
use Rattle.mail_table.specs.declared.mail.Job.{Job}
use Rattle.core_state.specs.State.{StateData}
use Rattle.core_state.specs.declared.graph.Graph.{Graph}
use Rattle.core_state.specs.declared.made.Made.{Made}
use Rattle.core_state.specs.declared.stack.Stack.{Stack}
use Rattle.step_relation.specs.Given.{Nothing, same}
use Rattle.step_relation.specs.Moves.{Move, takeover_fresh}
use Rattle.step_relation.specs.Nexts.{TakesOver}
use Rattle.step_relation.specs.Turns.{IsWorn, plain, unfailed}
use Rattle.step_parts.specs.Turns.{IsTurn, IsTurnRefusal, memory, worn}
use Rattle.step_reads.specs.Work.{IsFreshOf, fresh_of}
use Rattle.step_ends.proofs.Below.{quiet_not_worn}
use Rattle.takeover_steps.specs.Relays.{relayed_changes, relayed_entries}

module _ (s : StateData) (e : ℕ) (j : Job) (st : Stack) (g : Graph) (node : Node) (row : Option Row)
    (over : TakesOver s e j.engine j) (fresh : IsFreshOf s j.letter j.row st g node row) where
  move : Move s e Nothing None (relayed_changes s j st row) (relayed_entries s e j st row)
  move = takeover_fresh j.engine (record { job = j; next = over; fresh = fresh_of s j.letter j.row st g node row fresh })
      _ _ refl refl

  pub relay_turns : (r : Result Made Refusal) → IfOk r (λ m. m.changes ≡ relayed_changes s j st row)
      → IfOk r (λ m. m.entries ≡ relayed_entries s e j st row) → IfOk r (λ _. ¬ IsWorn (relayed_changes s j st row))
      → IfOk r (IsTurn s e Nothing)
  relay_turns (Err f) changes entries lasts = tt
  relay_turns (Ok m) changes entries lasts = record {
    turn = plain None (rw (changes, entries) move) unfailed;
    lasts = quiet_not_worn s e Nothing (relayed_changes s j st row) (relayed_entries s e j st row) (λ a quiet. cc)
        (plain None move unfailed) lasts;
  }

  pub relay_refuses : (r : Result Made Refusal)
      → IfErr r (λ f. (f ≡ Memory) ⊎ ((f ≡ Worn) × IsWorn (relayed_changes s j st row)))
      → IfErr r (IsTurnRefusal s e Nothing)
  relay_refuses (Ok m) cause = tt
  relay_refuses (Err f) (inl is) = memory is
  relay_refuses (Err f) (inr (is, out)) = worn is (record {
    other = Nothing;
    like = same Nothing;
    changes = relayed_changes s j st row;
    entries = relayed_entries s e j st row;
    turn = plain None move unfailed;
    worn = out;
  })
