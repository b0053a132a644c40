-- The failure of a poll, told as that of a resource that is broken: with its code.
use Rattle.std.specs.Prelude.{ℕ, List, Option, Some, None, ◌≢◌, map}
use Rattle.heat_plan.specs.declared.calls.Answered.TheVariants as answer
use Rattle.heat_plan.specs.declared.phase.Act.TheVariants.{Delete}
use Rattle.mail_table.specs.declared.mail.Stage.TheVariants.{Polling}
use Rattle.core_state.specs.State.{StateData}
use Rattle.core_state.specs.declared.entry.Cause.{Cause}
use Rattle.core_state.specs.declared.entry.Entry.{Entry}
use Rattle.core_state.specs.declared.entry.What.{What}
use Rattle.core_state.specs.declared.entry.What.TheVariants as what
use Rattle.core_state.specs.declared.entry.Why.{Why}
use Rattle.core_state.specs.declared.entry.Why.TheVariants as why
use Rattle.core_state.specs.declared.made.Made.{Made}
use Rattle.step_relation.specs.Asks.{Calls}
use Rattle.step_relation.specs.Given.{Answer}
use Rattle.command_steps.specs.Turns.{IsTurn}

-- the reason with the code, where it was a plain failure
abbrev pub why_broken : List ℕ → Why → Why
why_broken code why.Quota = why.Quota
why_broken code (why.Failed act) = why.Broken act code
why_broken code (why.Broken act other) = why.Broken act other
why_broken code (why.Resolve other path) = why.Resolve other path

abbrev pub cause_broken : List ℕ → Option Cause → Option Cause
cause_broken code None = None
cause_broken code (Some c) = Some (record { name = c.name; row = c.row; why = why_broken code c.why })

-- a call's answer is the code, and a mark's cause has it
abbrev pub what_broken : List ℕ → What → What
what_broken code (what.Command stack trav act plan rollback) = what.Command stack trav act plan rollback
what_broken code (what.Call token request given) = what.Call token request (answer.Broken code)
what_broken code (what.Release token) = what.Release token
what_broken code (what.Mark stack trav act cause) = what.Mark stack trav act (cause_broken code cause)
what_broken code (what.Rows writes) = what.Rows writes
what_broken code (what.Mail writes) = what.Mail writes
what_broken code (what.Engine change) = what.Engine change
what_broken code (what.Show it stack) = what.Show it stack
what_broken code (what.Note line other path) = what.Note line other path
what_broken code (what.Ran idle turns) = what.Ran idle turns
what_broken code (what.Turned engine lost) = what.Turned engine lost
what_broken code (what.Preview stack forecast) = what.Preview stack forecast
what_broken code what.Closed = what.Closed

abbrev pub entry_broken : List ℕ → Entry → Entry
entry_broken code e = record { by = e.by; what = what_broken code e.what }

abbrev pub entries_broken : List ℕ → List Entry → List Entry
entries_broken code es = map (entry_broken code) es

-- wherever the one is the turn of a poll that failed, the other is that of a resource that is broken
abbrev pub IsBrokenOf : List ℕ → Made → Made → Type 0
IsBrokenOf code failed made = (s : StateData) (e : ℕ) (k : Calls s e Polling) → k.row.act ≢ Delete
    → IsTurn s e (Answer answer.Failed) failed → IsTurn s e (Answer (answer.Broken code)) made
