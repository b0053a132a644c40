-- The moves and turns of a fault, by what was found.
use Rattle.std.proofs.Common.{◌≡◌, ◌≢◌, false, refl, subst, sym, true, Bool}
use Rattle.std.proofs.lemmas.Bool.{both_ways}
use Rattle.std.specs.Prelude.{List, None, Some, ℕ, ◌++◌}
use Rattle.heat_value.specs.declared.path.Step.{Step}
use Rattle.heat_plan.specs.declared.phase.Status.{Status}
use Rattle.heat_plan.specs.declared.phase.Status.TheVariants.{Complete, Failed, InProgress}
use Rattle.heat_plan.specs.declared.refusal.Refusal.{Refusal}
use Rattle.traversal_graph.specs.declared.shape.Node.TheVariants.{U}
use Rattle.row_table.specs.declared.row.Row.{Row}
use Rattle.core_state.specs.State.{StateData, stack_at}
use Rattle.core_state.specs.declared.change.Change.{Change}
use Rattle.core_state.specs.declared.entry.Entry.{Entry}
use Rattle.step_relation.specs.Asks.{marked, marks}
use Rattle.step_relation.specs.Begins.{left_changes, left_entries}
use Rattle.step_relation.specs.Freshness.{IsFresh, updates}
use Rattle.step_relation.specs.Given.{Faulted}
use Rattle.step_relation.specs.Moves.{Move, begin_faulted}
use Rattle.step_relation.specs.Rows.{unlocked}
use Rattle.step_relation.specs.Turns.{Turn, plain, rolls, stays}
use Rattle.step_parts.specs.Turns.{IsTurnRefusal}
use Rattle.step_parts.specs.Turns as refusal
use Rattle.step_ends.specs.Marks.{IsBehind, IsBehindRefusal, IsRewritten, RollsBehind}
use Rattle.step_ends.specs.Marks as behind
use Rattle.history_laws.proofs.tables.Rows.{row_self, stack-key}
use Rattle.check_steps.specs.Founds.{IsFound, begin_of}
use Rattle.check_steps.specs.Marks.{marked_changes, marked_entries}
use Rattle.check_steps.proofs.Turned.{wears_out}
use Rattle.check_steps.proofs.Worn.{worn_right}
use Rattle.check_steps.specs.declared.begin_found.Found.{Found}

-- another status than under way
abbrev is_running : Status → Bool
is_running Complete = false
is_running InProgress = true
is_running Failed = false

pub not_complete : (status : Status) → status ≡ Complete → status ≢ InProgress
not_complete status is running = both_ways (is_running status)
    (subst (λ (x : Status). is_running x ≡ false) (sym is) refl)
    (subst (λ (x : Status). is_running x ≡ true) (sym running) refl)

pub not_failed : (status : Status) → status ≡ Failed → status ≢ InProgress
not_failed status is running = both_ways (is_running status)
    (subst (λ (x : Status). is_running x ≡ false) (sym is) refl)
    (subst (λ (x : Status). is_running x ≡ true) (sym running) refl)

module _ (s : StateData) (e : ℕ) (it : Found) (code : List ℕ) (path : List Step) (found : IsFound s e it) where
  -- the job has work
  abbrev fresh_at : IsFresh s it.job.now.letter it.job.now.row
  fresh_at = record {
    stack = it.stack.now;
    graph = found.graph;
    node = U found.name found.chosen;
    row = Some it.row.now;
    names = found.names;
    found = found.found;
    serves = updates found.name found.chosen it.item.now it.row.now found.asked found.kept;
  }

  -- the stack has a mark
  pub leaves_marked : it.stack.now.status ≢ InProgress
      → Move s e (Faulted code path) None (left_changes e it.row.now) (left_entries e it.row.now)
  leaves_marked settled = begin_faulted (begin_of s e it found) code path None _ _ (marked fresh_at settled) refl refl

  -- the stack has none
  fails : it.stack.now.status ≡ InProgress
      → Move s e (Faulted code path) (Some it.stack.now) (marked_changes e it) (marked_entries e it code path)
  fails running = begin_faulted (begin_of s e it found) code path (Some it.stack.now) _ _ (marks fresh_at running)
      refl refl

  pub in_table : stack_at s.stacks it.stack.now.name ≡ Some it.stack.now
  in_table = subst (λ (name : List ℕ). stack_at s.stacks name ≡ Some it.stack.now)
      (sym (stack-key s.stacks it.job.now.letter.stack it.stack.now found.names.in_table)) found.names.in_table

  rewritten : IsRewritten s.rows (unlocked it.row.now)
  rewritten = record {
    old = it.row.now;
    found = row_self s.rows it.job.now.row it.row.now found.found;
    stack = refl;
    name = refl;
    act = refl;
    requires_ = refl;
    replaces = refl;
    replaced_by = refl;
  }

  pub unrolled : it.stack.now.status ≡ InProgress → IsBehind s e it.stack.now None
      → Turn s e (Faulted code path) (marked_changes e it) (marked_entries e it code path)
  unrolled running stays_so = plain (Some it.stack.now) (fails running)
      (stays it.stack.now (stays_so (unlocked it.row.now) rewritten))

  pub rolled : it.stack.now.status ≡ InProgress → (cs : List Change) (es : List Entry)
      → ((q : Row) → IsRewritten s.rows q → RollsBehind s e q it.stack.now cs es)
      → Turn s e (Faulted code path) (marked_changes e it ++ cs) (marked_entries e it code path ++ es)
  rolled running cs es follows =
      let after = follows (unlocked it.row.now) rewritten in
      rolls it.stack.now _ _ _ _ (fails running) after.due after.follows refl refl

  pub behind_refused : it.stack.now.status ≡ InProgress → (r : Refusal) → IsBehindRefusal s e it.stack.now r
      → IsTurnRefusal s e (Faulted code path) r
  behind_refused running r (behind.memory is) = refusal.memory is
  behind_refused running r (behind.worn is cs es follows out) =
      refusal.worn is (wears_out _ _ _ _ _ (rolled running cs es follows) (worn_right (marked_changes e it) cs out))
