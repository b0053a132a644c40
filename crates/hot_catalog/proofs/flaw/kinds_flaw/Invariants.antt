use Rattle.std.proofs.Common.{◌≡◌, drop}
use Rattle.heat_value.specs.Meaning.{members_of}
use Rattle.hot_catalog.specs.Flaws.{kinds_flaw}
use Rattle.hot_catalog.proofs.flaw.kinds_flaw.Given as goal

-- what is left decides
abbrev pub invariant-loop-kind : goal.invariant-loop-kind
invariant-loop-kind l =
    kinds_flaw l.registered l.kinds ≡ kinds_flaw l.registered (members_of (drop l.kind-index l.kind-items))
