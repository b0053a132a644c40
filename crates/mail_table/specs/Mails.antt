-- How the letters and the jobs are read and written by number.
use Rattle.std.specs.Prelude.{ℕ, List, Option, nat_eq}
use Rattle.heat_plan.specs.Tables.{at, put, cut}
use Rattle.mail_table.specs.declared.mail.Letter.{Letter}
use Rattle.mail_table.specs.declared.mail.Job.{Job}

-- the keys
abbrev pub letter_key : Letter → ℕ
letter_key l = l.no

abbrev pub job_key : Job → ℕ
job_key j = j.engine

-- look-ups
abbrev pub letter_at : List Letter → ℕ → Option Letter
letter_at = at nat_eq letter_key

abbrev pub job_at : List Job → ℕ → Option Job
job_at = at nat_eq job_key

-- writes
abbrev pub put_letter : Letter → List Letter → List Letter
put_letter = put nat_eq letter_key

abbrev pub put_job : Job → List Job → List Job
put_job = put nat_eq job_key

-- removals
abbrev pub cut_letter : ℕ → List Letter → List Letter
cut_letter = cut nat_eq letter_key

abbrev pub cut_job : ℕ → List Job → List Job
cut_job = cut nat_eq job_key
