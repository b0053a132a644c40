-- The work of a state can be told, in one way.
use Rattle.std.proofs.Common.{◌≤◌, ℕ, ◌+◌, ◌*◌, refl, arith}
use Rattle.heat_plan.specs.declared.token.Token.{Token}
use Rattle.traversal_graph.specs.declared.shape.Node.TheVariants.{U}
use Rattle.row_table.specs.Rows.{row_key}
use Rattle.mail_table.specs.Mails.{job_key, letter_key}
use Rattle.mail_table.specs.declared.mail.Stage.{Stage}
use Rattle.mail_table.specs.declared.mail.Stage.TheVariants.{Asking, Ending, Taken}
use Rattle.core_state.specs.State.{StateData}
use Rattle.step_relation.specs.Rows.{token_of}
use Rattle.next_laws.proofs.Decide.{bound_at}
use Rattle.bound_laws.specs.Bound.{IsWork, RollWork}
use Rattle.bound_laws.specs.Counts.{Counts}
use Rattle.bound_laws.specs.Exists.{PollsAreFew, WorkExists, WorkIsOne}
use Rattle.bound_laws.specs.Rolls.{RollFar, RollItem, RollJob, RollLetter, RollNode, RollRow}
use Rattle.bound_laws.specs.Work.{IsAt, IsLate, IsLeft, IsLetter, IsPoll, IsUnready}
use Rattle.bound_laws.proofs.Existing.{at_or_not, by_jobs, item_size, item_within, late_or_not, left_or_not}
use Rattle.bound_laws.proofs.Existing.{letter_or_not, named, names, poll_or_not, poll_size, poll_within}
use Rattle.bound_laws.proofs.Existing.{roll_far_or_not, roll_item_or_not, roll_job_or_not, roll_letter_or_not}
use Rattle.bound_laws.proofs.Existing.{roll_node_or_not, roll_row_or_not, size, unready_or_not, within_size}
use Rattle.bound_laws.proofs.Listed.{below, in_pairs, paired, pairs, pairs_length}
use Rattle.bound_laws.proofs.Sets.{at_most, within}
use Rattle.bound_laws.proofs.Spans.{upto, in_upto, upto_once}

module _ (left : Token → ℕ) (s : StateData) where
  pub letters_told : (n : ℕ) × Counts (IsLetter s) n
  letters_told = let (b, inside) = bound_at letter_key s.letters in
      below (IsLetter s) (letter_or_not left s) b (λ n k. inside n k.letter k.at)

  pub nodes_told : (n : ℕ) × Counts (IsUnready s) n
  nodes_told = let xs = names left s in paired (size left s) (IsUnready s) (unready_or_not left s) xs.list xs.once
      (λ x k. (named left s x.0 k.stack k.in_table, within_size left s x.0 k.graph x.1 k.node k.its_graph k.its_node))

  pub stage_told : (stage : Stage) → (n : ℕ) × Counts (IsAt stage s) n
  stage_told stage = by_jobs left s (IsAt stage s) (at_or_not left s stage) (λ e k. (k.job, k.its))

  polls_told : (n : ℕ) × Counts (IsPoll left s) n
  polls_told = let (b, inside) = bound_at job_key s.jobs in
      paired (poll_size left s) (IsPoll left s) (poll_or_not left s) (upto b) (upto_once b)
      (λ x p. (in_upto b x.0 (inside x.0 p.at.job p.at.its), poll_within left s x p))

  roll_letters_told : (n : ℕ) × Counts (RollLetter s) n
  roll_letters_told = let (b, inside) = bound_at letter_key s.letters in
      below (RollLetter s) (roll_letter_or_not left s) b (λ n k. inside n k.letter k.at)

  roll_nodes_told : (n : ℕ) × Counts (RollNode s) n
  roll_nodes_told = let xs = names left s in paired (size left s) (RollNode s) (roll_node_or_not left s) xs.list xs.once
      (λ x q. let k = q.node in
      (named left s x.0 k.stack k.in_table, within_size left s x.0 k.graph x.1 k.node k.its_graph k.its_node))

  roll_items_told : (n : ℕ) × Counts (RollItem s) n
  roll_items_told = let xs = names left s in
      paired (item_size left s) (RollItem s) (roll_item_or_not left s) xs.list xs.once
      (λ x k. (named left s x.0 k.stack k.may.in_table, item_within left s x k))

  roll_rows_told : (n : ℕ) × Counts (RollRow s) n
  roll_rows_told = let (b, inside) = bound_at row_key s.rows in
      below (RollRow s) (roll_row_or_not left s) b (λ n k. inside n k.row k.found)

  roll_far_told : (n : ℕ) × Counts (RollFar s) n
  roll_far_told = let xs = names left s in paired (size left s) (RollFar s) (roll_far_or_not left s) xs.list xs.once
      (λ x k. (
        named left s x.0 k.stack k.may.in_table,
        within_size left s x.0 k.graph x.1 (U k.name k.chosen) k.its_graph k.its_node,
      ))

  pub rolls_told : (n : ℕ) × RollWork s n
  rolls_told =
      let l = roll_letters_told in let k = roll_nodes_told in
      let j = by_jobs left s (RollJob s) (roll_job_or_not left s) (λ e q. (q.job, q.its)) in
      let i = roll_items_told in let r = roll_rows_told in let f = roll_far_told in (
        l.0 + k.0 + j.0 + i.0 + r.0 + f.0,
        record {
          letters = l.0;
          nodes = k.0;
          jobs = j.0;
          items = i.0;
          rows = r.0;
          far = f.0;
          letters_are = l.1;
          nodes_are = k.1;
          jobs_are = j.1;
          items_are = i.1;
          rows_are = r.1;
          far_are = f.1;
          sum = refl;
        },
      )

  pub left_told : (n : ℕ) × Counts (IsLeft s) n
  left_told = by_jobs left s (IsLeft s) (left_or_not left s) (λ e q. (q.job, q.its))

  pub late_told : (n : ℕ) × Counts (IsLate s) n
  late_told = by_jobs left s (IsLate s) (late_or_not left s) (λ e q. (q.job, q.its))

  told : (n : ℕ) × IsWork left s n
  told =
      let l = letters_told in let k = nodes_told in let x = left_told in
      let a = stage_told Taken in let b = stage_told Asking in let p = polls_told in let c = stage_told Ending in
      let d = late_told in let r = rolls_told in (
        69 * l.0 + 69 * k.0 + 70 * x.0 + 68 * a.0 + 67 * b.0 + p.0 + c.0 + 69 * d.0 + 69 * r.0,
        record {
          letters = l.0;
          nodes = k.0;
          stopped = x.0;
          taken = a.0;
          asking = b.0;
          polls = p.0;
          ending = c.0;
          late = d.0;
          rolls = r.0;
          letters_are = l.1;
          nodes_are = k.1;
          stopped_are = x.1;
          taken_are = a.1;
          asking_are = b.1;
          polls_are = p.1;
          ending_are = c.1;
          late_are = d.1;
          rolls_are = r.1;
          sum = refl;
        },
      )

pub work_exists : WorkExists
work_exists left s = told left s

pub rolls_one : (s : StateData) (n m : ℕ) → RollWork s n → RollWork s m → n ≤ m
rolls_one s n m a b =
    let l = at_most a.letters_are b.letters_are (λ x k. k) in
    let o = at_most a.nodes_are b.nodes_are (λ x k. k) in
    let j = at_most a.jobs_are b.jobs_are (λ x k. k) in
    let i = at_most a.items_are b.items_are (λ x k. k) in
    let r = at_most a.rows_are b.rows_are (λ x k. k) in
    let f = at_most a.far_are b.far_are (λ x k. k) in
    let e = a.sum in let g = b.sum in
    omega (arith, l, o, j, i, r, f, e, g)

pub work_at_most : (left : Token → ℕ) (s : StateData) (n m : ℕ) → IsWork left s n → IsWork left s m → n ≤ m
work_at_most left s n m a b =
    let l = at_most a.letters_are b.letters_are (λ x k. k) in
    let o = at_most a.nodes_are b.nodes_are (λ x k. k) in
    let x = at_most a.stopped_are b.stopped_are (λ x k. k) in
    let t = at_most a.taken_are b.taken_are (λ x k. k) in
    let q = at_most a.asking_are b.asking_are (λ x k. k) in
    let p = at_most a.polls_are b.polls_are (λ x k. k) in
    let c = at_most a.ending_are b.ending_are (λ x k. k) in
    let d = at_most a.late_are b.late_are (λ x k. k) in
    let r = rolls_one s a.rolls b.rolls a.rolls_are b.rolls_are in
    let e = a.sum in let g = b.sum in
    omega (arith, l, o, x, t, q, p, c, d, r, e, g)

pub work_one : WorkIsOne
work_one left s n m a b =
    let le = work_at_most left s n m a b in
    let ge = work_at_most left s m n b a in
    omega (arith, le, ge)

pub polls_few : PollsAreFew
polls_few left s n k w few at =
    let le = within w.polls_are.all (pairs (λ (x : ℕ). 66) at.all) w.polls_are.once (λ x c.
    let p = (w.polls_are.each x).0 c in
    let lt = p.below in
    let f = few (token_of p.row) in
    in_pairs (λ (y : ℕ). 66) at.all x ((at.each x.0).1 p.at) (omega (arith, lt, f))) in
    let c = w.polls_are.count in
    let l = pairs_length at.all in
    let e = at.count in
    omega (arith, le, c, l, e)
