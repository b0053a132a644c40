-- What the call answers.
use Rattle.hot_resolve.specs.declared.resolving.Resolution.{Resolution}
use Rattle.hot_resolve.specs.declared.resolving.Resolution.TheVariants as resolution
use Rattle.eval_words.specs.Resolve.{Fault, Props, Resolved}

-- the resolution as the definition has it
abbrev pub resolved_of : Resolution → Resolved
resolved_of (resolution.Props props) = Props props
resolved_of (resolution.Fault code path) = Fault code path
