-- The empty state is the image of a book.
use Rattle.std.proofs.Common.{arith, refl, subst, sym}
use Rattle.std.specs.Prelude.{Bool, Contains, List, Some, [], bytes_eq, nat_eq, ℕ, ◌≡◌}
use Rattle.heat_plan.specs.Tables.{at}
use Rattle.row_table.specs.Rows.{row_at, row_key}
use Rattle.row_table.specs.declared.row.Row.{Row}
use Rattle.mail_table.specs.Mails.{job_at, job_key, letter_at, letter_key}
use Rattle.mail_table.specs.declared.mail.Job.{Job}
use Rattle.mail_table.specs.declared.mail.Letter.{Letter}
use Rattle.core_state.specs.State.{StateData, graph_at, graph_key, stack_at, stack_key}
use Rattle.core_state.specs.declared.graph.Graph.{Graph}
use Rattle.core_state.specs.declared.stack.Stack.{Stack}
use Rattle.step_relation.specs.Images.{IsInRange, IsMade, IsRead, IsTied}
use Rattle.step_relation.specs.Linked.{IsOf, Links, by_job, by_node, by_row}
use Rattle.step_relation.specs.Numbered.{Numbered}
use Rattle.step_relation.specs.Opening.{bare}
use Rattle.record_keeper.specs.Calls.{HasOpened}
use Rattle.record_keeper.specs.Shown.{ShownKeeper, StandsFor}

none_at : {K A : Type 0} (same : K → K → Bool) (key : A → K) (k : K) (x : A) → at same key [] k ≡ Some x → ⊥
unfolding at
none_at same key k x h = cc

no_row : (n : ℕ) (r : Row) → row_at [] n ≡ Some r → ⊥
no_row n r h = none_at nat_eq row_key n r h

no_job : (e : ℕ) (j : Job) → job_at [] e ≡ Some j → ⊥
no_job e j h = none_at nat_eq job_key e j h

no_letter : (n : ℕ) (l : Letter) → letter_at [] n ≡ Some l → ⊥
no_letter n l h = none_at nat_eq letter_key n l h

no_stack : (name : List ℕ) (st : Stack) → stack_at [] name ≡ Some st → ⊥
no_stack name st h = none_at bytes_eq stack_key name st h

no_graph : (name : List ℕ) (g : Graph) → graph_at [] name ≡ Some g → ⊥
no_graph name g h = none_at bytes_eq graph_key name g h

none_in : {A : Type 0} (x : A) → ¬ Contains [] x
none_in x among = absurd (omega (arith, among.1))

numbered : Numbered bare
numbered = record {
  in_table = λ n r found. absurd (no_row n r found);
  stacks = λ name st found. absurd (no_stack name st found);
  rows = λ n r found. absurd (no_row n r found);
  graphs = λ name g found. absurd (no_graph name g found);
  letters = λ n l found. absurd (no_letter n l found);
  jobs = λ e j found. absurd (no_job e j found);
  live = λ e among. absurd (none_in e among);
  once = λ i j d lt below. omega arith;
}

no_owner : (n : ℕ) (a : List ℕ) → IsOf [] [] [] n a → ⊥
no_owner n a (by_row r found is) = no_row n r found
no_owner n a (by_node g i node found there_ is) = no_graph a g found
no_owner n a (by_job e j found is own) = no_job e j found

links : Links bare
links = record {
  numbered = numbered;
  current = record { newest = λ n m a b found. absurd (no_row n a found) };
  chained = record {
    rises = λ n m r found. absurd (no_row n r found);
    forth = λ n m r q found. absurd (no_row n r found);
    back = λ n m r q found. absurd (no_row n r found);
  };
  locked = record {
    held = λ n e r found. absurd (no_row n r found);
    holds = λ e j r found. absurd (no_job e j found);
    apart = λ e f j k found. absurd (no_job e j found);
  };
  owned = record { one = λ n a b of_a. absurd (no_owner n a of_a) };
}

bare-read : IsRead bare
bare-read = record {
  graphs = λ name g there found. absurd (no_graph name g found);
  acts = λ n r found. absurd (no_row n r found);
}

bare-tied : IsTied bare
bare-tied = record {
  links = links;
  targets = λ n r found. absurd (no_row n r found);
  released = λ t r among. absurd (none_in t among);
  below = λ t among. absurd (none_in t among);
}

bare-in_range : IsInRange bare
bare-in_range = record {
  stack = omega arith;
  trav = omega arith;
  row = omega arith;
  engine = omega arith;
  letter = omega arith;
  keys = λ n r found. absurd (no_row n r found);
}

bare-made : IsMade bare
bare-made = record { written = []; applies = tt; replayed = refl }

-- a keeper that goes on from it has opened with it
pub bare_opened : (may_open : StateData → Type 0) (new : ShownKeeper) (s : StateData) → s ≡ bare → may_open s
    → StandsFor new s → HasOpened may_open new s
bare_opened may_open new s is may stands = record {
  may = may;
  read = subst IsRead (sym is) bare-read;
  tied = subst IsTied (sym is) bare-tied;
  range = subst IsInRange (sym is) bare-in_range;
  made = subst IsMade (sym is) bare-made;
  stands = stands;
}
