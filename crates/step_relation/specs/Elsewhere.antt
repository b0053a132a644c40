-- What a step on one stack leaves of all others.
use Rattle.std.specs.Prelude.{Contains, List, Some, ℕ, ◌≡◌, ◌≢◌, ◌≤◌, ◌⊎◌}
use Rattle.heat_plan.specs.declared.token.Token.{Token}
use Rattle.row_table.specs.Rows.{row_at}
use Rattle.row_table.specs.declared.row.Row.{Row}
use Rattle.mail_table.specs.Mails.{job_at, letter_at}
use Rattle.mail_table.specs.declared.mail.Job.{Job}
use Rattle.mail_table.specs.declared.mail.Letter.{Letter}
use Rattle.core_state.specs.Applies.{NoneFalls}
use Rattle.core_state.specs.State.{StateData, graph_at, past_at, stack_at}

-- from one state to another, all that isn't of this stack stays
pub record Elsewhere (own : List ℕ) (s t : StateData) : Type 0 where
  pub stacks : (name : List ℕ) → name ≢ own → stack_at t.stacks name ≡ stack_at s.stacks name
  pub graphs : (name : List ℕ) → name ≢ own → graph_at t.graphs name ≡ graph_at s.graphs name
  pub pasts : (name : List ℕ) → name ≢ own → past_at t.pasts name ≡ past_at s.pasts name
  pub rows : (n : ℕ) (r : Row) → r.stack ≢ own → row_at t.rows n ≡ Some r → row_at s.rows n ≡ Some r
  pub rows_stay : (n : ℕ) (r : Row) → r.stack ≢ own → row_at s.rows n ≡ Some r → row_at t.rows n ≡ Some r
  pub letters : (n : ℕ) (l : Letter) → l.stack ≢ own → letter_at t.letters n ≡ Some l → letter_at s.letters n ≡ Some l
  pub letters_stay : (n : ℕ) (l : Letter) → l.stack ≢ own → letter_at s.letters n ≡ Some l
      → letter_at t.letters n ≡ Some l
  pub jobs : (e : ℕ) (j : Job) → j.letter.stack ≢ own → job_at t.jobs e ≡ Some j → job_at s.jobs e ≡ Some j
  pub jobs_stay : (e : ℕ) (j : Job) → j.letter.stack ≢ own → job_at s.jobs e ≡ Some j → job_at t.jobs e ≡ Some j
  pub released : (token : Token) → token.stack ≢ own → Contains t.released token → Contains s.released token
  pub released_stay : (token : Token) → Contains s.released token → Contains t.released token
  -- a row of this stack was one, or has a new number
  pub born : (n : ℕ) (q : Row) → q.stack ≡ own → row_at t.rows n ≡ Some q
      → ((o : Row) × (row_at s.rows n ≡ Some o) × (o.stack ≡ own)) ⊎ (s.next.row ≤ n)
  pub rises : NoneFalls s.next t.next
