-- The registry in which no kind has properties that change in place but its own.
use Rattle.std.specs.Prelude.{None}
use Rattle.step_relation.specs.Runs.{Judges}

-- a registry that judges no kind
abbrev pub unjudged : Judges
unjudged kind = None
