-- What the tables of every state keep that changes made of the empty one.
use Rattle.std.specs.Prelude.{map}
use Rattle.row_table.specs.Rows.{row_key}
use Rattle.mail_table.specs.Mails.{job_key, letter_key}
use Rattle.core_state.specs.State.{StateData, stack_key}
use Rattle.bound_laws.specs.Counts.{AreOnce}

-- no two records of a table have one key
pub record AreKeyed (s : StateData) : Type 0 where
  pub stacks : AreOnce (map stack_key s.stacks)
  pub rows : AreOnce (map row_key s.rows)
  pub letters : AreOnce (map letter_key s.letters)
  pub jobs : AreOnce (map job_key s.jobs)
