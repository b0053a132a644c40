-- The status that the program ends with, and how it ends where no book is opened or a restart is refused.
use Rattle.std.specs.Prelude.{ℕ}
use Rattle.book.specs.declared.restarting.Unrestarted.{Unrestarted}
use Rattle.book.specs.declared.restarting.Unrestarted.TheVariants as why
use Rattle.converge_call.specs.declared.exit.Exit.{Exit}
use Rattle.converge_call.specs.declared.exit.Exit.TheVariants.{CloudFault, Disagree, DiskFault, Done, Foreign, Memory}
use Rattle.converge_call.specs.declared.exit.Exit.TheVariants.{ReadFault, TooLong, Usage, Worn, WriteFault}

abbrev pub status_of : Exit → ℕ
status_of Done = 0
status_of Usage = 2
status_of TooLong = 3
status_of ReadFault = 4
status_of WriteFault = 5
status_of DiskFault = 6
status_of Memory = 7
status_of Foreign = 8
status_of (Disagree token finding) = 9
status_of CloudFault = 10
status_of Worn = 11

-- for this there is no book, or none that goes on
abbrev pub exit_of : Unrestarted → Exit
exit_of why.Foreign = Foreign
exit_of (why.Disagree token finding) = Disagree token finding
exit_of why.DiskFault = DiskFault
exit_of why.CloudFault = CloudFault
exit_of why.Worn = Worn
exit_of why.Memory = Memory
