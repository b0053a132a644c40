-- Why a journal wasn't read, as its keeper says it.
use Rattle.record_keeper.specs.declared.open_fault.OpenFault.{OpenFault}
use Rattle.record_keeper.specs.declared.open_fault.OpenFault.TheVariants as open_
use Rattle.row_journal.specs.declared.fault.ReadFault.{ReadFault}
use Rattle.row_journal.specs.declared.fault.ReadFault.TheVariants.{Disk, Foreign, Memory}

abbrev pub open_fault : ReadFault → OpenFault
open_fault Foreign = open_.Foreign
open_fault Disk = open_.DiskFault
open_fault Memory = open_.Memory
