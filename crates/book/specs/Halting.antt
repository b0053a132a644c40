-- What halts a book, by what a call came to.
use Rattle.std.specs.Prelude.{Err, None, Ok, Option, Result, Some}
use Rattle.heat_plan.specs.declared.refusal.Refusal.{Refusal}
use Rattle.heat_plan.specs.declared.refusal.Refusal.TheVariants as refusal
use Rattle.book.specs.Restarts.{halt_of}
use Rattle.book.specs.declared.compacting.Uncompacted.{Uncompacted}
use Rattle.book.specs.declared.compacting.Uncompacted.TheVariants as uncompacted
use Rattle.book.specs.declared.halting.Halt.{Halt}
use Rattle.book.specs.declared.halting.Halt.TheVariants as halt
use Rattle.book.specs.declared.restarting.Unrestarted.{Unrestarted}
use Rattle.book.specs.declared.turning.Turn.{Turn}
use Rattle.book.specs.declared.turning.Turn.TheVariants as turn

abbrev pub halt_by : Turn → Option Halt
halt_by turn.Stepped = None
halt_by turn.Idle = None
halt_by turn.Lost = None
halt_by turn.Worn = None
halt_by turn.DiskFault = Some halt.DiskFault
halt_by turn.Memory = None

abbrev pub halt_for : Refusal → Option Halt
halt_for refusal.StackExists = None
halt_for refusal.NoStack = None
halt_for refusal.Deleting = None
halt_for refusal.TooManyStacks = None
halt_for refusal.TooManyRows = None
halt_for refusal.Worn = None
halt_for refusal.NoEngine = None
halt_for refusal.TooManyEngines = None
halt_for refusal.NotRunning = None
halt_for refusal.DiskFault = Some halt.DiskFault
halt_for refusal.Memory = None

abbrev pub halt_after : {A : Type 0} → Result A Refusal → Option Halt
halt_after (Ok a) = None
halt_after (Err r) = halt_for r

abbrev pub halt_behind : Result (Unit {0}) Unrestarted → Option Halt
halt_behind (Ok u) = None
halt_behind (Err w) = Some (halt_of w)

abbrev pub halt_compacting : Result (Unit {0}) Uncompacted → Option Halt
halt_compacting (Ok u) = None
halt_compacting (Err uncompacted.DiskFault) = Some halt.DiskFault
halt_compacting (Err uncompacted.Memory) = None
