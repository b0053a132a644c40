-- What is said of a folder that isn't read.
use Rattle.std.specs.Prelude.{ℕ, List, codes}
use Rattle.file_provider.specs.declared.load_fault.Wrong.{Wrong}
use Rattle.file_provider.specs.declared.load_fault.Wrong.TheVariants.{OutOfReach, Name, Card}

abbrev pub words_of : Wrong → List ℕ
words_of OutOfReach = codes "it can't be read"
words_of Name = codes "its name is no token's"
words_of Card = codes "it says no resource"
