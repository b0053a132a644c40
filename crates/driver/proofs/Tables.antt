-- The parts of the work, a record after the other.
use Rattle.std.proofs.Common.{arith, inl, inr, refl, sym, subst, ap, ◌∙◌, ◌⊎◌}
use Rattle.std.specs.Prelude.{Contains, List, None, Option, Some, [], length, map, nat_eq, ℕ, ◌*◌, ◌++◌, ◌+◌, ◌<◌, ◌∷◌}
use Rattle.std.specs.Prelude.{◌≡◌, ◌≢◌}
use Rattle.std.specs.Str.{bytes_eq}
use Rattle.std.proofs.lemmas.Bool.Decides.{Decides-eqb}
use Rattle.std.proofs.lemmas.Slice.Eq.{bytes_eq-Decides}
use Rattle.row_table.specs.Rows.{row_at, row_key}
use Rattle.row_table.specs.declared.row.Row.{Row}
use Rattle.mail_table.specs.Mails.{job_at, job_key, letter_at, letter_key}
use Rattle.mail_table.specs.declared.mail.Job.{Job}
use Rattle.mail_table.specs.declared.mail.Letter.{Letter}
use Rattle.mail_table.specs.declared.mail.Stage.{Stage}
use Rattle.mail_table.specs.declared.mail.Stage.TheVariants.{Asking, Ending, Polling, Taken}
use Rattle.core_state.specs.State.{StateData, stack_at, stack_key}
use Rattle.core_state.specs.declared.stack.Stack.{Stack}
use Rattle.bound_laws.specs.Bound.{RollWork}
use Rattle.bound_laws.specs.Counts.{Counts}
use Rattle.bound_laws.specs.Full.{IsFullWork}
use Rattle.bound_laws.specs.Rolls.{MayRoll, RollFar, RollItem, RollJob, RollLetter, RollNode, RollRow}
use Rattle.bound_laws.specs.Work.{IsAt, IsLate, IsLeft, IsLetter, IsUnready}
use Rattle.driver.specs.Parts.{IsOne, JobWork, JobsWork, LettersWork, RowsWork, StackWork, StacksWork, one}
use Rattle.driver.proofs.Listed.{listed}
use Rattle.driver.proofs.Ones.{Among, Beside, beside_all, beside_more, beside_none, seen_all, seen_more, seen_none}

module _ (s : StateData) where
  -- of the letters with these numbers
  pub record LettersSeen (keys : List ℕ) (n : ℕ) : Type 0 where
    pub letters : ℕ
    pub rolls : ℕ
    pub letters_are : Counts (Among (IsLetter s) keys) letters
    pub rolls_are : Counts (Among (RollLetter s) keys) rolls
    pub sum : n ≡ 69 * letters + 69 * rolls

  pub letters_none : LettersSeen [] 0
  letters_none = record {
    letters = 0;
    rolls = 0;
    letters_are = seen_none (IsLetter s);
    rolls_are = seen_none (RollLetter s);
    sum = refl;
  }

  pub letters_more : (keys : List ℕ) (k n b m : ℕ) → LettersSeen keys n → ¬ Contains keys k → IsLetter s k
      → IsOne (RollLetter s k) b
      → m ≡ n + (69 + 69 * b) → LettersSeen (keys ++ k ∷ []) m
  letters_more keys k n b m so new it roll is = record {
    letters = so.letters + 1;
    rolls = so.rolls + b;
    letters_are = seen_more (IsLetter s) keys k so.letters 1 so.letters_are new (one it refl);
    rolls_are = seen_more (RollLetter s) keys k so.rolls b so.rolls_are new roll;
    sum = (let e = so.sum in omega (arith, e, is));
  }

  in_letters : (n : ℕ) (l : Letter) → letter_at s.letters n ≡ Some l → Contains (map letter_key s.letters) n
  in_letters = listed nat_eq Decides-eqb letter_key s.letters

  pub letters_all : (n : ℕ) → LettersSeen (map letter_key s.letters) n → LettersWork s n
  letters_all n so = record {
    letters = so.letters;
    rolls = so.rolls;
    letters_are = seen_all (IsLetter s) _ so.letters so.letters_are (λ k it. in_letters k it.letter it.at);
    rolls_are = seen_all (RollLetter s) _ so.rolls so.rolls_are (λ k it. in_letters k it.letter it.at);
    sum = so.sum;
  }

  -- of the rows
  pub record RowsSeen (keys : List ℕ) (n : ℕ) : Type 0 where
    pub rolls : ℕ
    pub rolls_are : Counts (Among (RollRow s) keys) rolls
    pub sum : n ≡ 69 * rolls

  pub rows_none : RowsSeen [] 0
  rows_none = record { rolls = 0; rolls_are = seen_none (RollRow s); sum = refl }

  pub rows_more : (keys : List ℕ) (k n b m : ℕ) → RowsSeen keys n → ¬ Contains keys k → IsOne (RollRow s k) b
      → m ≡ n + 69 * b
      → RowsSeen (keys ++ k ∷ []) m
  rows_more keys k n b m so new roll is = record {
    rolls = so.rolls + b;
    rolls_are = seen_more (RollRow s) keys k so.rolls b so.rolls_are new roll;
    sum = (let e = so.sum in omega (arith, e, is));
  }

  pub rows_all : (n : ℕ) → RowsSeen (map row_key s.rows) n → RowsWork s n
  rows_all n so = record {
    rolls = so.rolls;
    rolls_are = seen_all (RollRow s) _ so.rolls so.rolls_are
        (λ k it. listed nat_eq Decides-eqb row_key s.rows k it.row it.found);
    sum = so.sum;
  }

  -- of the jobs
  pub record JobsSeen (keys : List ℕ) (n : ℕ) : Type 0 where
    pub stopped : ℕ
    pub taken : ℕ
    pub asking : ℕ
    pub polling : ℕ
    pub ending : ℕ
    pub late : ℕ
    pub rolls : ℕ
    pub stopped_are : Counts (Among (IsLeft s) keys) stopped
    pub taken_are : Counts (Among (IsAt Taken s) keys) taken
    pub asking_are : Counts (Among (IsAt Asking s) keys) asking
    pub polling_are : Counts (Among (IsAt Polling s) keys) polling
    pub ending_are : Counts (Among (IsAt Ending s) keys) ending
    pub late_are : Counts (Among (IsLate s) keys) late
    pub rolls_are : Counts (Among (RollJob s) keys) rolls
    pub sum : n ≡ 70 * stopped + 68 * taken + 67 * asking + 66 * polling + ending + 69 * late + 69 * rolls

  pub jobs_none : JobsSeen [] 0
  jobs_none = record {
    stopped = 0;
    taken = 0;
    asking = 0;
    polling = 0;
    ending = 0;
    late = 0;
    rolls = 0;
    stopped_are = seen_none (IsLeft s);
    taken_are = seen_none (IsAt Taken s);
    asking_are = seen_none (IsAt Asking s);
    polling_are = seen_none (IsAt Polling s);
    ending_are = seen_none (IsAt Ending s);
    late_are = seen_none (IsLate s);
    rolls_are = seen_none (RollJob s);
    sum = refl;
  }

  pub jobs_more : (keys : List ℕ) (k n w m : ℕ) → JobsSeen keys n → ¬ Contains keys k → JobWork s k w → m ≡ n + w
      → JobsSeen (keys ++ k ∷ []) m
  jobs_more keys k n w m so new it is = record {
    stopped = so.stopped + it.stopped;
    taken = so.taken + it.taken;
    asking = so.asking + it.asking;
    polling = so.polling + it.polling;
    ending = so.ending + it.ending;
    late = so.late + it.late;
    rolls = so.rolls + it.rolls;
    stopped_are = seen_more (IsLeft s) keys k so.stopped it.stopped so.stopped_are new it.stopped_is;
    taken_are = seen_more (IsAt Taken s) keys k so.taken it.taken so.taken_are new it.taken_is;
    asking_are = seen_more (IsAt Asking s) keys k so.asking it.asking so.asking_are new it.asking_is;
    polling_are = seen_more (IsAt Polling s) keys k so.polling it.polling so.polling_are new it.polling_is;
    ending_are = seen_more (IsAt Ending s) keys k so.ending it.ending so.ending_are new it.ending_is;
    late_are = seen_more (IsLate s) keys k so.late it.late so.late_are new it.late_is;
    rolls_are = seen_more (RollJob s) keys k so.rolls it.rolls so.rolls_are new it.rolls_is;
    sum = (let e = so.sum in let f = it.sum in omega (arith, e, f, is));
  }

  in_jobs : (e : ℕ) (j : Job) → job_at s.jobs e ≡ Some j → Contains (map job_key s.jobs) e
  in_jobs = listed nat_eq Decides-eqb job_key s.jobs

  pub jobs_all : (n : ℕ) → JobsSeen (map job_key s.jobs) n → JobsWork s n
  jobs_all n so = record {
    stopped = so.stopped;
    taken = so.taken;
    asking = so.asking;
    polling = so.polling;
    ending = so.ending;
    late = so.late;
    rolls = so.rolls;
    stopped_are = seen_all (IsLeft s) _ so.stopped so.stopped_are (λ k it. in_jobs k it.job it.its);
    taken_are = seen_all (IsAt Taken s) _ so.taken so.taken_are (λ k it. in_jobs k it.job it.its);
    asking_are = seen_all (IsAt Asking s) _ so.asking so.asking_are (λ k it. in_jobs k it.job it.its);
    polling_are = seen_all (IsAt Polling s) _ so.polling so.polling_are (λ k it. in_jobs k it.job it.its);
    ending_are = seen_all (IsAt Ending s) _ so.ending so.ending_are (λ k it. in_jobs k it.job it.its);
    late_are = seen_all (IsLate s) _ so.late so.late_are (λ k it. in_jobs k it.job it.its);
    rolls_are = seen_all (RollJob s) _ so.rolls so.rolls_are (λ k it. in_jobs k it.job it.its);
    sum = so.sum;
  }

  -- of the stacks
  pub record StacksSeen (names : List (List ℕ)) (n : ℕ) : Type 0 where
    pub nodes : ℕ
    pub rolls : ℕ
    pub items : ℕ
    pub far : ℕ
    pub nodes_are : Counts (Beside (IsUnready s) names) nodes
    pub rolls_are : Counts (Beside (RollNode s) names) rolls
    pub items_are : Counts (Beside (RollItem s) names) items
    pub far_are : Counts (Beside (RollFar s) names) far
    pub sum : n ≡ 69 * nodes + 69 * (rolls + items + far)

  pub stacks_none : StacksSeen [] 0
  stacks_none = record {
    nodes = 0;
    rolls = 0;
    items = 0;
    far = 0;
    nodes_are = beside_none (IsUnready s);
    rolls_are = beside_none (RollNode s);
    items_are = beside_none (RollItem s);
    far_are = beside_none (RollFar s);
    sum = refl;
  }

  pub stacks_more : (names : List (List ℕ)) (name : List ℕ) (n w m : ℕ) → StacksSeen names n → ¬ Contains names name
      → StackWork s name w
      → m ≡ n + w → StacksSeen (names ++ name ∷ []) m
  stacks_more names name n w m so new it is = record {
    nodes = so.nodes + it.nodes;
    rolls = so.rolls + it.rolls;
    items = so.items + it.items;
    far = so.far + it.far;
    nodes_are = beside_more (IsUnready s) names name so.nodes it.nodes so.nodes_are new it.nodes_are;
    rolls_are = beside_more (RollNode s) names name so.rolls it.rolls so.rolls_are new it.rolls_are;
    items_are = beside_more (RollItem s) names name so.items it.items so.items_are new it.items_are;
    far_are = beside_more (RollFar s) names name so.far it.far so.far_are new it.far_are;
    sum = (let e = so.sum in let f = it.sum in omega (arith, e, f, is));
  }

  in_stacks : (name : List ℕ) (st : Stack) → stack_at s.stacks name ≡ Some st → Contains (map stack_key s.stacks) name
  in_stacks = listed bytes_eq bytes_eq-Decides stack_key s.stacks

  pub stacks_all : (n : ℕ) → StacksSeen (map stack_key s.stacks) n → StacksWork s n
  stacks_all n so = record {
    nodes = so.nodes;
    rolls = so.rolls;
    items = so.items;
    far = so.far;
    nodes_are = beside_all (IsUnready s) _ so.nodes so.nodes_are (λ x it. in_stacks x.0 it.stack it.in_table);
    rolls_are = beside_all (RollNode s) _ so.rolls so.rolls_are (λ x it. in_stacks x.0 it.stack it.may.in_table);
    items_are = beside_all (RollItem s) _ so.items so.items_are (λ x it. in_stacks x.0 it.stack it.may.in_table);
    far_are = beside_all (RollFar s) _ so.far so.far_are (λ x it. in_stacks x.0 it.stack it.may.in_table);
    sum = so.sum;
  }

  -- and all of them are the work
  pub parts_work : (a b c d n : ℕ) → LettersWork s a → JobsWork s b → RowsWork s c → StacksWork s d → n ≡ a + b + c + d
      → IsFullWork s n
  parts_work a b c d n l j r t is = record {
    letters = l.letters;
    nodes = t.nodes;
    stopped = j.stopped;
    taken = j.taken;
    asking = j.asking;
    polling = j.polling;
    ending = j.ending;
    late = j.late;
    rolls = l.rolls + t.rolls + j.rolls + t.items + r.rolls + t.far;
    letters_are = l.letters_are;
    nodes_are = t.nodes_are;
    stopped_are = j.stopped_are;
    taken_are = j.taken_are;
    asking_are = j.asking_are;
    polling_are = j.polling_are;
    ending_are = j.ending_are;
    late_are = j.late_are;
    rolls_are = record {
      letters = l.rolls;
      nodes = t.rolls;
      jobs = j.rolls;
      items = t.items;
      rows = r.rolls;
      far = t.far;
      letters_are = l.rolls_are;
      nodes_are = t.rolls_are;
      jobs_are = j.rolls_are;
      items_are = t.items_are;
      rows_are = r.rolls_are;
      far_are = t.far_are;
      sum = refl;
    };
    sum = (let e = l.sum in let f = j.sum in let g = r.sum in let h = t.sum in omega (arith, e, f, g, h, is));
  }
