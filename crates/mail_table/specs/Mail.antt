-- What contracts see of the mail.
use Rattle.std.specs.Prelude.{◌≡◌, ◌≤◌, ◌<◌, ◌^◌, ◌+◌, ℕ, List, Option, None, Some}
use Rattle.mail_table.specs.declared.mail.Letter.{Letter}
use Rattle.mail_table.specs.declared.mail.Job.{Job}
use Rattle.mail_table.specs.Mails.{put_letter, put_job, cut_letter, cut_job}

-- the letters and the jobs, in the order in which their keys came, and the next letter's number
pub record Mail : Type 0 where
  pub letters : List Letter
  pub jobs : List Job
  pub next : ℕ

-- the mail, and how many more letters and jobs fit with no memory wanted
pub record Mailbox : Type 0 where
  pub mail : Mail
  pub letter_room : ℕ
  pub job_room : ℕ

-- a letter comes, goes; a job comes or changes, ends
abbrev pub with_letter : Letter → Mail → Mail
with_letter l m = record m { letters = put_letter l m.letters }

abbrev pub without_letter : ℕ → Mail → Mail
without_letter n m = record m { letters = cut_letter n m.letters }

abbrev pub with_job : Job → Mail → Mail
with_job j m = record m { jobs = put_job j m.jobs }

abbrev pub without_job : ℕ → Mail → Mail
without_job e m = record m { jobs = cut_job e m.jobs }

-- a letter is sent under the next number
abbrev pub with_sent : List ℕ → ℕ → ℕ → Mail → Mail
with_sent stack trav node m = record m {
  letters = put_letter (record { no = m.next; stack = stack; trav = trav; node = node }) m.letters;
  next = m.next + 1;
}

-- a letter is taken, if there is one
abbrev pub with_taken : Option Letter → Mail → Mail
with_taken None m = m
with_taken (Some l) m = without_letter l.no m

-- the next number is in its range; at 2^62 numbers are worn out
abbrev pub IsNext : ℕ → Type 0
IsNext n = (1 ≤ n) × (n ≤ 2 ^ 62)

-- no room falls, but for one letter or one job that came
abbrev pub KeepsRoom : ℕ → ℕ → Mailbox → Mailbox → Type 0
KeepsRoom letters jobs old new = (old.letter_room ≤ new.letter_room + letters) × (old.job_room ≤ new.job_room + jobs)
