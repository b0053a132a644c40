use Rattle.std.proofs.Common.{◌≡◌, ◌∷◌, [], drop, None}
use Rattle.headline_reader.proofs.CalledTokens.{could_on}
use Rattle.headline_reader.proofs.states.states_of.Given as goal

abbrev pub invariant-loop-entry : goal.invariant-loop-entry
invariant-loop-entry l = could_on l.token l.states (drop l.entry-index l.entries) ≡ could_on l.token (None ∷ []) l.entries
