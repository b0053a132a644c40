-- What halts a book that is driven: a fault of its keeper, and a restart that is refused.
use Rattle.std.specs.Prelude.{None, Ok, Err, Option, Result, Some, ◌≡◌}
use Rattle.script_lines.specs.declared.line.Line.{Line}
use Rattle.script_lines.specs.declared.line.Line.TheVariants.{Blank, Create, Update, Delete, Cancel, Status, Resources}
use Rattle.script_lines.specs.declared.line.Line.TheVariants.{Outputs, Types, Run, Turn, Stop, Start, Restart}
use Rattle.book.specs.declared.halting.Halt.{Halt}
use Rattle.book.specs.declared.halting.Halt.TheVariants as halt
use Rattle.converge_call.specs.declared.exit.Exit.{Exit}
use Rattle.converge_call.specs.declared.exit.Exit.TheVariants as exit

-- where a line that asks for no restart is broken off, or nothing is read any more
abbrev pub halt_broken : Exit → Option Halt
halt_broken exit.Done = None
halt_broken exit.Usage = None
halt_broken exit.TooLong = None
halt_broken exit.ReadFault = None
halt_broken exit.WriteFault = None
halt_broken exit.DiskFault = Some halt.DiskFault
halt_broken exit.Memory = None
halt_broken exit.Foreign = None
halt_broken (exit.Disagree token finding) = None
halt_broken exit.CloudFault = None
halt_broken exit.Worn = None

-- where a restart is refused
abbrev pub halt_refused : Exit → Option Halt
halt_refused exit.Done = Some halt.Refused
halt_refused exit.Usage = Some halt.Refused
halt_refused exit.TooLong = Some halt.Refused
halt_refused exit.ReadFault = Some halt.Refused
halt_refused exit.WriteFault = Some halt.Refused
halt_refused exit.DiskFault = Some halt.DiskFault
halt_refused exit.Memory = Some halt.Refused
halt_refused exit.Foreign = Some halt.Refused
halt_refused (exit.Disagree token finding) = Some halt.Refused
halt_refused exit.CloudFault = Some halt.Refused
halt_refused exit.Worn = Some halt.Refused

-- where a line that asks for this is broken off
abbrev pub halt_for : Line → Exit → Option Halt
halt_for Blank why = halt_broken why
halt_for (Create name body) why = halt_broken why
halt_for (Update name body) why = halt_broken why
halt_for (Delete name) why = halt_broken why
halt_for (Cancel name) why = halt_broken why
halt_for (Status name) why = halt_broken why
halt_for (Resources name) why = halt_broken why
halt_for (Outputs name) why = halt_broken why
halt_for (Types given) why = halt_broken why
halt_for (Run asked) why = halt_broken why
halt_for (Turn e) why = halt_broken why
halt_for (Stop e) why = halt_broken why
halt_for Start why = halt_broken why
halt_for Restart why = halt_refused why

-- behind what was done nothing does
abbrev pub halt_behind : (Exit → Option Halt) → Result (Unit {0}) Exit → Option Halt
halt_behind broken (Ok u) = None
halt_behind broken (Err why) = broken why

-- a book that wasn't halted is halted so
abbrev pub HaltsBehind : (Exit → Option Halt) → Option Halt → Option Halt → Result (Unit {0}) Exit → Type 0
HaltsBehind broken before now result = before ≡ None → now ≡ halt_behind broken result
