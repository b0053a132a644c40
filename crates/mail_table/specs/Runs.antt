-- What a run of calls does to the mail.
use Rattle.std.specs.Prelude.{◌≡◌, ◌<◌, ◌^◌, ◌⊎◌, ℕ, List, [], ◌∷◌, Option}
use Rattle.mail_table.specs.declared.mail.Letter.{Letter}
use Rattle.mail_table.specs.Mails.{job_at}
use Rattle.mail_table.specs.declared.ops.MailOp.{MailOp}
use Rattle.mail_table.specs.declared.ops.MailOp.TheVariants as op
use Rattle.mail_table.specs.declared.ops.MailAnswer.{MailAnswer}
use Rattle.mail_table.specs.declared.ops.MailAnswer.TheVariants as gives
use Rattle.mail_table.specs.Holders.{IsFirst, IsHolder}
use Rattle.mail_table.specs.Mail.{Mail, IsNext, with_job, with_letter, with_sent, with_taken, without_job, without_letter}

-- a letter is sent under the next number, if that isn't worn out
abbrev pub Sends : List ℕ → ℕ → ℕ → Mail → MailAnswer → Mail → Type 0
Sends stack trav node m a new =
    ((m.next < 2 ^ 62) × (a ≡ gives.Sent m.next) × (new ≡ with_sent stack trav node m))
    ⊎ ((m.next ≡ 2 ^ 62) × (a ≡ gives.Worn) × (new ≡ m))

-- the waiting letter of the lowest number is taken, if one waits
abbrev pub TakesFirst : Mail → MailAnswer → Mail → Type 0
TakesFirst m a new =
    (first : Option Letter) × IsFirst m.letters first × (a ≡ gives.Taken first) × (new ≡ with_taken first m)

-- the next letter's number is set, if it is one
abbrev pub SetsNext : ℕ → Mail → MailAnswer → Mail → Type 0
SetsNext n m a new =
    (IsNext n × (a ≡ gives.Done) × (new ≡ record m { next = n }))
    ⊎ ((IsNext n → ⊥) × (a ≡ gives.Barred) × (new ≡ m))

-- what a call does, and what it answers
abbrev pub Does : MailOp → Mail → MailAnswer → Mail → Type 0
Does (op.Send stack trav node) m a new = Sends stack trav node m a new
Does op.TakeFirst m a new = TakesFirst m a new
Does (op.Hold j) m a new = (a ≡ gives.Done) × (new ≡ with_job j m)
Does (op.End e) m a new = (a ≡ gives.Done) × (new ≡ without_job e m)
Does (op.JobOf e) m a new = (a ≡ gives.Job (job_at m.jobs e)) × (new ≡ m)
Does (op.Holder stack row) m a new = ((e : Option ℕ) × (a ≡ gives.Holder e) × IsHolder m.jobs stack row e) × (new ≡ m)
Does (op.Reserve letters jobs) m a new = (a ≡ gives.Done) × (new ≡ m)
Does op.Letters m a new = (a ≡ gives.Letters m.letters) × (new ≡ m)
Does op.Jobs m a new = (a ≡ gives.Jobs m.jobs) × (new ≡ m)
Does op.NextNo m a new = (a ≡ gives.NextNo m.next) × (new ≡ m)
Does (op.Insert l) m a new = (a ≡ gives.Done) × (new ≡ with_letter l m)
Does (op.Remove n) m a new = (a ≡ gives.Done) × (new ≡ without_letter n m)
Does (op.SetNext n) m a new = SetsNext n m a new

-- each call does what it does in its turn
abbrev pub Runs : List MailOp → Mail → List MailAnswer → Mail → Type 0
Runs [] m [] new = new ≡ m
Runs [] m (a ∷ answers) new = ⊥
Runs (o ∷ os) m [] new = ⊥
Runs (o ∷ os) m (a ∷ answers) new = (mid : Mail) × Does o m a mid × Runs os mid answers new
