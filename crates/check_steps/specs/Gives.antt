-- What was prepared for a begin, as a turn is given it.
use Rattle.step_relation.specs.Given.{Faulted, Given, Nothing}
use Rattle.check_steps.specs.declared.prepared.Prepared.{Prepared}
use Rattle.check_steps.specs.declared.prepared.Prepared.TheVariants.{Fault, Memory, Plain, Props}
use Rattle.step_relation.specs.Given as given

-- nothing where nothing was prepared
abbrev pub given_of : Prepared → Given
given_of (Props props effect) = given.Prepared props effect
given_of (Fault code path) = Faulted code path
given_of Plain = Nothing
given_of Memory = Nothing
