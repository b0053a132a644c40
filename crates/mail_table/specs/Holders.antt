-- Which letter is first, and which engine holds a row.
use Rattle.std.specs.Prelude.{◌≡◌, ◌≤◌, ℕ, List, [], Option, None, Some, IsSome, cond, nat_lt}
use Rattle.mail_table.specs.declared.mail.Letter.{Letter}
use Rattle.mail_table.specs.declared.mail.Job.{Job}
use Rattle.mail_table.specs.Mails.{letter_at, job_at}

-- the waiting letter of the lowest number, or none where none waits
abbrev pub IsFirst : List Letter → Option Letter → Type 0
IsFirst letters None = letters ≡ []
IsFirst letters (Some l) =
    (letter_at letters l.no ≡ Some l) × ((n : ℕ) (other : Letter) → letter_at letters n ≡ Some other → l.no ≤ n)

-- the engine's job is at this row of this stack
pub record IsAt (jobs : List Job) (stack : List ℕ) (row engine : ℕ) : Type 0 where
  pub job : Job
  pub its : job_at jobs engine ≡ Some job
  pub at_stack : job.letter.stack ≡ stack
  pub at_row : job.row ≡ row

-- the engine that holds the row, of several the lowest, or none where none does
abbrev pub IsHolder : List Job → List ℕ → ℕ → Option ℕ → Type 0
IsHolder jobs stack row None = (e : ℕ) → ¬ IsAt jobs stack row e
IsHolder jobs stack row (Some e) = IsAt jobs stack row e × ((f : ℕ) → IsAt jobs stack row f → e ≤ f)

-- the lowest number of a waiting letter, or none where none waits
abbrev pub IsLowestNo : List Letter → Option ℕ → Type 0
IsLowestNo letters None = letters ≡ []
IsLowestNo letters (Some n) = IsSome (letter_at letters n) × ((m : ℕ) → IsSome (letter_at letters m) → n ≤ m)

-- the lesser of two numbers, of which the first may be missing
abbrev pub lesser : Option ℕ → ℕ → ℕ
lesser None n = n
lesser (Some best) n = cond (nat_lt best n) best n
