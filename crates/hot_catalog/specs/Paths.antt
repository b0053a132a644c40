-- Where a catalogue is wrong: a check gives its path, or nothing; of a list of checks the first that gives one counts.
use Rattle.std.specs.Prelude.{List, [], ◌∷◌, Bool, Option, Some, None, if◌then◌else◌}
use Rattle.std.specs.Option.{option_or}
use Rattle.heat_value.specs.declared.path.Step.{Step}

-- the root of what was looked at, unless this holds
abbrev pub here_unless : Bool → Option (List Step)
here_unless holds = if holds then None else Some []

-- what is wrong behind a step
abbrev pub behind : Step → Option (List Step) → Option (List Step)
behind s None = None
behind s (Some p) = Some (s ∷ p)

-- the first path of several checks
abbrev pub first_path : List (Option (List Step)) → Option (List Step)
first_path [] = None
first_path (o ∷ os) = option_or o (first_path os)
