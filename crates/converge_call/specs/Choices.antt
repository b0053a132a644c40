-- What the code has read of the options.
use Rattle.std.specs.Prelude.{option_map}
use Rattle.converge_call.specs.declared.chosen.Chosen.{Chosen}
use Rattle.converge_call.specs.Options.{Said}

abbrev pub said_of : Chosen → Said
said_of c = record { workers = c.workers; cloud = option_map (λ path. path.now) c.cloud }
