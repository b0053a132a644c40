-- The state that a list of changes leaves, where letters and points are many.
use Rattle.std.proofs.Common.{arith, refl, ◌∙◌}
use Rattle.std.specs.Prelude.{List, None, Option, Some, [], length, map, ℕ, ◌++◌, ◌∷◌, ◌≡◌, ◌≤◌}
use Rattle.heat_plan.specs.declared.phase.Status.TheVariants.{Failed}
use Rattle.row_table.specs.Rows.{put_row}
use Rattle.row_table.specs.declared.row.Row.{Row}
use Rattle.sync_points.specs.declared.point.Point.{Point}
use Rattle.mail_table.specs.Mails.{cut_job, put_letter}
use Rattle.mail_table.specs.declared.mail.Letter.{Letter}
use Rattle.step_relation.specs.Changes.{applied, put_point}
use Rattle.step_relation.specs.State.{StateData, put_stack}
use Rattle.step_relation.specs.declared.Change.{Change}
use Rattle.step_relation.specs.declared.Change.TheVariants.{EndJob, PutPoint, PutRow, Send}
use Rattle.step_relation.specs.declared.Graph.{Graph}
use Rattle.step_relation.specs.declared.Numbers.{Numbers}
use Rattle.step_relation.specs.declared.Stack.{Stack}
use Rattle.step_relation.specs.Asks.{failed_changes}
use Rattle.step_relation.specs.Finishes.{Finishes, finished_changes, given_input, ready_letters}
use Rattle.step_relation.specs.Inputs.{passed_points}
use Rattle.step_relation.specs.Rows.{failed_row, unlocked}
use Rattle.step_relation.specs.Takes.{released_changes}
use Rattle.step_relation.specs.Writes.{draw_letters, mark_failed, past_letters, unlock}

abbrev pub next_after : Numbers → List Letter → Numbers
next_after next [] = next
next_after next (l ∷ ls) = past_letters next (length (l ∷ ls))

abbrev pub sent_to : List Letter → List Letter → List Letter
sent_to [] letters = letters
sent_to (l ∷ ls) letters = sent_to ls (put_letter l letters)

abbrev pub points_in : List Point → List Graph → List Graph
points_in [] graphs = graphs
points_in (p ∷ ps) graphs = points_in ps (put_point p graphs)

abbrev pub rows_in : List Row → List Row → List Row
rows_in [] rows = rows
rows_in (q ∷ qs) rows = rows_in qs (put_row q rows)

abbrev pub unlocked_rows : Option Row → List Row → List Row
unlocked_rows None rows = rows
unlocked_rows (Some r) rows = put_row (unlocked r) rows

abbrev pub failed_stacks : Option Stack → List Stack → List Stack
failed_stacks None stacks = stacks
failed_stacks (Some st) stacks = put_stack (record st { status = Failed }) stacks

pub applied-draw : (s : StateData) (letters : List Letter) (rest : List Change)
    → applied (draw_letters s.next letters rest) s ≡ applied rest (record s { next = next_after s.next letters })
applied-draw s [] rest = refl
applied-draw s (l ∷ ls) rest = refl

pub applied-sends : (s : StateData) (letters : List Letter) (rest : List Change)
    → applied (map Send letters ++ rest) s ≡ applied rest (record s { letters = sent_to letters s.letters })
applied-sends s [] rest = refl
applied-sends s (l ∷ ls) rest = applied-sends (record s { letters = put_letter l s.letters }) ls rest

pub applied-sent : (s : StateData) (letters : List Letter) → applied
    (map Send letters) s ≡ record s { letters = sent_to letters s.letters }
applied-sent s [] = refl
applied-sent s (l ∷ ls) = applied-sent (record s { letters = put_letter l s.letters }) ls

pub applied-points : (s : StateData) (points : List Point) (rest : List Change)
    → applied (map PutPoint points ++ rest) s ≡ applied rest (record s { graphs = points_in points s.graphs })
applied-points s [] rest = refl
applied-points s (p ∷ ps) rest = applied-points (record s { graphs = put_point p s.graphs }) ps rest

pub applied-rows : (s : StateData) (rows : List Row) (rest : List Change)
    → applied (map PutRow rows ++ rest) s ≡ applied rest (record s { rows = rows_in rows s.rows })
applied-rows s [] rest = refl
applied-rows s (q ∷ qs) rest = applied-rows (record s { rows = put_row q s.rows }) qs rest

abbrev pub released_state : StateData → ℕ → Option Row → List Letter → StateData
released_state s f row letters = record s {
  next = next_after s.next letters;
  rows = unlocked_rows row s.rows;
  jobs = cut_job f s.jobs;
  letters = sent_to letters s.letters;
}

pub released_end : (s : StateData) (f : ℕ) (row : Option Row) (letters : List Letter)
    → applied (released_changes s f row letters) s ≡ released_state s f row letters
released_end s f None letters = applied-draw s letters (EndJob f ∷ map Send letters)
    ∙ applied-sent (record s { next = next_after s.next letters; jobs = cut_job f s.jobs }) letters
released_end s f (Some r) letters = applied-draw s letters (PutRow (unlocked r) ∷ EndJob f ∷ map Send letters)
    ∙ applied-sent (record s {
      next = next_after s.next letters;
      rows = put_row (unlocked r) s.rows;
      jobs =
          cut_job f s.jobs;
    }) letters

abbrev pub failed_state : StateData → ℕ → Row → List Letter → Option Stack → StateData
failed_state s e r letters failed_ = record s {
  stacks = failed_stacks failed_ s.stacks;
  next = next_after s.next letters;
  rows = put_row (failed_row r) s.rows;
  jobs = cut_job e s.jobs;
  letters = sent_to letters s.letters;
}

pub failed_end : (s : StateData) (e : ℕ) (r : Row) (letters : List Letter) (failed_ : Option Stack)
    → applied (failed_changes s e r letters failed_) s ≡ failed_state s e r letters failed_
failed_end s e r letters failed_ =
    applied-draw s letters (PutRow (failed_row r) ∷ EndJob e ∷ (map Send letters ++ mark_failed failed_))
    ∙ (applied-sends (record s {
      next = next_after s.next letters;
      rows = put_row (failed_row r) s.rows;
      jobs =
          cut_job e s.jobs;
    }) letters (mark_failed failed_)
    ∙ last_one failed_) where
      last_one : (f : Option Stack) → applied (mark_failed f) (record s {
        next = next_after s.next letters;
        rows = put_row (failed_row r) s.rows;
        jobs = cut_job e s.jobs;
        letters = sent_to letters s.letters;
      })
          ≡ failed_state s e r letters f
      last_one None = refl
      last_one (Some st) = refl

abbrev pub finished_state : (s : StateData) (e : ℕ) → Finishes s e → StateData
finished_state s e k = record s {
  next = next_after s.next (ready_letters s e k);
  rows = unlocked_rows k.fresh.row s.rows;
  jobs = cut_job e s.jobs;
  graphs = points_in (passed_points k.fresh.graph k.job.letter.node (given_input s e k) k.succs) s.graphs;
  letters = sent_to (ready_letters s e k) s.letters;
}

pub finished_end : (s : StateData) (e : ℕ) (k : Finishes s e) (mark : List Change)
    → applied (finished_changes s e k mark) s ≡ applied mark (finished_state s e k)
finished_end s e k mark = by k.fresh.row where
  tail : (rows : List Row)
      → applied (map PutPoint (passed_points k.fresh.graph k.job.letter.node (given_input s e k) k.succs) ++
      (map Send (ready_letters s e k) ++ mark))
      (record s { next = next_after s.next (ready_letters s e k); rows = rows; jobs = cut_job e s.jobs })
      ≡ applied mark (record s {
        next = next_after s.next (ready_letters s e k);
        rows = rows;
        jobs = cut_job e s.jobs;
        graphs = points_in (passed_points k.fresh.graph k.job.letter.node (given_input s e k) k.succs) s.graphs;
        letters = sent_to (ready_letters s e k) s.letters;
      })
  tail rows = applied-points
      (record s { next = next_after s.next (ready_letters s e k); rows = rows; jobs = cut_job e s.jobs })
      (passed_points k.fresh.graph k.job.letter.node (given_input s e k) k.succs)
      (map Send (ready_letters s e k) ++ mark)
      ∙ applied-sends (record s {
        next = next_after s.next (ready_letters s e k);
        rows = rows;
        jobs = cut_job e s.jobs;
        graphs = points_in (passed_points k.fresh.graph k.job.letter.node (given_input s e k) k.succs) s.graphs;
      }) (ready_letters s e k) mark

  by : (row : Option Row) → applied (draw_letters s.next (ready_letters s e k) (unlock row (EndJob e
      ∷ (map PutPoint (passed_points k.fresh.graph k.job.letter.node (given_input s e k) k.succs) ++
      (map Send (ready_letters s e k) ++ mark))))) s
      ≡ applied mark (record s {
        next = next_after s.next (ready_letters s e k);
        rows = unlocked_rows row s.rows;
        jobs = cut_job e s.jobs;
        graphs = points_in (passed_points k.fresh.graph k.job.letter.node (given_input s e k) k.succs) s.graphs;
        letters = sent_to (ready_letters s e k) s.letters;
      })
  by None = applied-draw s (ready_letters s e k) (EndJob e ∷
      (map PutPoint (passed_points k.fresh.graph k.job.letter.node (given_input s e k) k.succs)
      ++ (map Send (ready_letters s e k) ++ mark))) ∙ tail s.rows
  by (Some r) = applied-draw s (ready_letters s e k) (PutRow (unlocked r) ∷ EndJob e ∷
      (map PutPoint (passed_points k.fresh.graph k.job.letter.node (given_input s e k) k.succs)
      ++ (map Send (ready_letters s e k) ++ mark))) ∙ tail (put_row (unlocked r) s.rows)

pub next_row_kept : (next : Numbers) (letters : List Letter) → next.row ≤ (next_after next letters).row
next_row_kept next [] = omega arith
next_row_kept next (l ∷ ls) = omega arith
