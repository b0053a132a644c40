-- What the program says on standard error of how it ended.
use Rattle.std.specs.Prelude.{ℕ, List, codes}
use Rattle.converge_call.specs.declared.Finding.{Finding}
use Rattle.converge_call.specs.declared.Finding.TheVariants.{Differs, Missing, Stranger}
use Rattle.converge_call.specs.declared.exit.Exit.{Exit}
use Rattle.converge_call.specs.declared.exit.Exit.TheVariants.{CloudFault, Disagree, DiskFault, Done, Foreign, Memory}
use Rattle.converge_call.specs.declared.exit.Exit.TheVariants.{ReadFault, TooLong, Usage, Worn, WriteFault}
use Rattle.heat_converge.specs.declared.ended.Ended.{Ended}
use Rattle.heat_converge.specs.declared.ended.Ended.TheVariants.{Called, CloudFile}

abbrev pub said_of_exit : Exit → List ℕ
said_of_exit Done = codes "done"
said_of_exit Usage = codes "usage"
said_of_exit TooLong = codes "too long"
said_of_exit ReadFault = codes "read fault"
said_of_exit WriteFault = codes "write fault"
said_of_exit DiskFault = codes "disk fault"
said_of_exit Memory = codes "no memory"
said_of_exit Foreign = codes "foreign journal"
said_of_exit (Disagree token finding) = codes "disagree"
said_of_exit CloudFault = codes "cloud fault"
said_of_exit Worn = codes "worn"

abbrev pub said_of : Ended → List ℕ
said_of (Called e) = said_of_exit e
said_of (CloudFile fault) = codes "cloud file"

abbrev pub found_of : Finding → List ℕ
found_of Missing = codes "missing"
found_of Differs = codes "differs"
found_of Stranger = codes "stranger"
