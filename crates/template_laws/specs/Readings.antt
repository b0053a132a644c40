-- What two lists of known facts have in common, and where a repeat stands.
use Rattle.std.specs.Prelude.{◌≡◌, ℕ, List, Bool, false, ◌||◌, Option, Some, None, Contains, All, bytes_eq, codes}
use Rattle.heat_plan.specs.declared.facts.KnownFacts.{KnownFacts}
use Rattle.heat_value.specs.Data.{Data, null, flag, whole, words, items, fields, Nodes, no_nodes, node}
use Rattle.heat_value.specs.Data.{Members, no_members, member}
use Rattle.eval_words.specs.Scenes.{facts_told}
use Rattle.hot_functions.specs.Forms.{lone}

-- ---- known facts

-- facts of these names alone
abbrev pub TellsOf : List (List ℕ) → List KnownFacts → Type 0
TellsOf names known = All (λ (k : KnownFacts). Contains names k.name) known

-- of a name both tell the same facts first, or neither tells any
abbrev pub AgreeAt : List KnownFacts → List KnownFacts → List ℕ → Type 0
AgreeAt known other name = facts_told known name ≡ facts_told other name

-- of each of these names
abbrev pub AgreeOn : List (List ℕ) → List KnownFacts → List KnownFacts → Type 0
AgreeOn names known other = (name : List ℕ) → Contains names name → AgreeAt known other name

-- ---- repeats

-- an object with just the key of a repeat is one
abbrev pub is_repeat : Option (List ℕ × Data) → Bool
is_repeat None = false
is_repeat (Some m) = bytes_eq m.0 (codes "repeat")

-- a repeat stands anywhere in it
abbrev mutual
  pub repeats_in : Data → Bool
  repeats_in null = false
  repeats_in (flag b) = false
  repeats_in (whole z) = false
  repeats_in (words s) = false
  repeats_in (items ns) = repeats_among ns
  repeats_in (fields ms) = is_repeat (lone ms) || repeats_under ms

  pub repeats_among : Nodes → Bool
  repeats_among no_nodes = false
  repeats_among (node d ns) = repeats_in d || repeats_among ns

  -- the same in the members of an object that is no function itself, as a map of properties
  pub repeats_under : Members → Bool
  repeats_under no_members = false
  repeats_under (member k d ms) = repeats_in d || repeats_under ms
