-- The input of a book is closed once.
use Rattle.std.specs.Prelude.{List, [], ◌++◌, ◌∷◌, ◌≡◌}
use Rattle.core_state.specs.declared.entry.Actor.TheVariants.{Main}
use Rattle.core_state.specs.declared.entry.Entry.{Entry}
use Rattle.core_state.specs.declared.entry.What.TheVariants as what
use Rattle.step_relation.specs.Runs.{IsClosed}
use Rattle.step_relation.specs.Writes.{entry_of}

-- it was closed before, and nothing is added; or it is closed now
pub data Closes (old new : List Entry) : Type 0 where
  before : IsClosed old → new ≡ old → Closes old new
  now : ¬ IsClosed old → new ≡ old ++ entry_of Main what.Closed ∷ [] → Closes old new
