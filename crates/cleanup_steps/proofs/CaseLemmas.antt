-- The cases of a begin at a clean-up node, from what was read and made.
use Rattle.std.proofs.Common.{◌≡◌, ◌<◌, ◌+◌, ◌^◌, ◌∙◌, ℕ, List, Some, None, refl, ap, arith}
use Rattle.std.specs.Prelude.{Result, IfOk, IfErr}
use Rattle.std.proofs.lemmas.Result.{IfOk-weaker, IfErr-weaker}
use Rattle.heat_plan.specs.declared.refusal.Refusal.{Refusal}
use Rattle.row_table.specs.Rows.{row_at}
use Rattle.row_table.specs.declared.row.Row.{Row}
use Rattle.mail_table.specs.declared.mail.Job.{Job}
use Rattle.core_state.specs.State.{StateData, stack_at}
use Rattle.core_state.specs.declared.change.Change.{Change}
use Rattle.core_state.specs.declared.change.Change.TheVariants.{PutRow}
use Rattle.core_state.specs.declared.entry.Entry.{Entry}
use Rattle.core_state.specs.declared.made.Made.{Made}
use Rattle.core_state.specs.declared.stack.Stack.{Stack}
use Rattle.step_relation.specs.Begins.{left_changes}
use Rattle.step_relation.specs.Cleanups.{Cleans}
use Rattle.step_relation.specs.Given.{Nothing, same}
use Rattle.step_relation.specs.Moves.{Move}
use Rattle.step_relation.specs.Rows.{unlocked}
use Rattle.step_relation.specs.Turns.{IsWorn, key, plain, unfailed}
use Rattle.step_parts.specs.Turns.{IsTurn, IsTurnRefusal, memory, worn}
use Rattle.cleanup_steps.specs.AtCleanup.{AtCleanup, AtRow}
use Rattle.cleanup_steps.specs.Makes.{IsRefused, Makes, memory as no_memory, worn as wears}
use Rattle.next_laws.proofs.Worn.{quiet_not_worn}
use Rattle.history_laws.proofs.tables.Rows.{same_some}

-- what a case makes is the engine's turn
pub turns : (s : StateData) (e : ℕ) (cs : List Change) (es : List Entry) (r : Result Made Refusal)
    → Move s e Nothing None cs es
    → IfOk r (Makes cs es) → IfOk r (IsTurn s e Nothing)
turns s e cs es r move made = IfOk-weaker r _ _ turn made where
  turn : (m : Made) → Makes cs es m → IsTurn s e Nothing m
  turn m is = record {
    turn = plain None (rw (is.changes, is.entries) move) unfailed;
    lasts = quiet_not_worn s e Nothing cs es (λ a quiet. cc) (plain None move unfailed) is.lasts;
  }

-- why it isn't made is why the turn isn't
pub refuses : (s : StateData) (e : ℕ) (cs : List Change) (es : List Entry) (r : Result Made Refusal)
    → Move s e Nothing None cs es
    → IfErr r (IsRefused cs) → IfErr r (IsTurnRefusal s e Nothing)
refuses s e cs es r move made = IfErr-weaker r _ _ refused made where
  refused : (f : Refusal) → IsRefused cs f → IsTurnRefusal s e Nothing f
  refused f (no_memory is) = memory is
  refused f (wears is out) = worn is (record {
    other = Nothing;
    like = same Nothing;
    changes = cs;
    entries = es;
    turn = plain None move unfailed;
    worn = out;
  })

-- the key of a row that is left can't be raised
pub left_wears : (e : ℕ) (r : Row) → ¬ (r.key + 1 < 2 ^ 62) → IsWorn (left_changes e r)
left_wears e r high = record {
  change = PutRow (unlocked r);
  among = (0, omega arith, refl);
  overflows = key (unlocked r) (grind (arith, high));
}

-- the parts that were read are those of the job's node
pub at_row : (s : StateData) (e : ℕ) (j : Job) (st : Stack) (r : Row) → AtCleanup s e j
    → stack_at s.stacks j.letter.stack ≡ Some st
    → row_at s.rows j.row ≡ Some r → AtRow s e j st r
at_row s e j st r a at_st at_r = record {
  graph = a.graph;
  number = a.number;
  works = a.works;
  names = record {
    in_table = at_st;
    newest = ap (λ (x : Stack). x.trav) (same_some st a.stack at_st a.names.in_table) ∙ a.names.newest;
    its_graph = a.names.its_graph;
    its_node = a.names.its_node;
  };
  found = at_r;
}

abbrev pub cleans : (s : StateData) (e : ℕ) (j : Job) → AtCleanup s e j → Cleans s e
cleans s e j a = record {
  job = j;
  stack = a.stack;
  graph = a.graph;
  number = a.number;
  works = a.works;
  names = a.names;
}

abbrev pub cleans_row : (s : StateData) (e : ℕ) (j : Job) (st : Stack) (r : Row) → AtRow s e j st r → Cleans s e
cleans_row s e j st r a = record {
  job = j;
  stack = st;
  graph = a.graph;
  number = a.number;
  works = a.works;
  names = a.names;
}
