-- What a single value of a cloud file is read as: what it says, or the path of its first fault, seen from the value.
use Rattle.std.specs.Prelude.{◌≡◌, ◌⊎◌, ◌≢◌, ◌≤◌, ◌<◌, ℕ, List, [], Bool, Result, Ok, Err, Some, None, IsSome, ⊤}
use Rattle.serde_json.specs.Data.{Data, boolean, number, unsigned, string, object, depth}
use Rattle.heat_value.specs.Data.{fields, Members as Map}
use Rattle.heat_value.specs.Compact.{json_of}
use Rattle.heat_value.specs.Reading.{first_bad}
use Rattle.heat_value.specs.declared.path.Step.{Step}
use Rattle.heat_plan.specs.declared.token.Token.{Token}
use Rattle.heat_plan.specs.Tokens.{IsToken, token_text}
use Rattle.sim_cloud.specs.declared.held.Held.{Held}
use Rattle.sim_cloud.specs.Holding.{place_of}

-- what was read, or where the first fault is
abbrev pub Read : Type 0 → Type 0
Read X = Result X (List Step)

-- a text
abbrev pub ReadsText : Data → Read (List ℕ) → Type 0
ReadsText (string s) r = r ≡ Ok s
ReadsText d r = r ≡ Err []

-- a flag
abbrev pub ReadsFlag : Data → Read Bool → Type 0
ReadsFlag (boolean b) r = r ≡ Ok b
ReadsFlag d r = r ≡ Err []

-- a whole number from the least to the most
pub record IsNumberIn (least most : ℕ) (d : Data) (n : ℕ) : Type 0 where
  pub it : d ≡ number (unsigned n)
  pub low : least ≤ n
  pub high : n ≤ most

pub data ReadsNumber (least most : ℕ) (d : Data) (r : Read ℕ) : Type 0 where
  number_read : (n : ℕ) → IsNumberIn least most d n → r ≡ Ok n → ReadsNumber least most d r
  no_number : ((n : ℕ) → ¬ IsNumberIn least most d n) → r ≡ Err [] → ReadsNumber least most d r

abbrev pub IsObject : Data → Type 0
IsObject (object ms) = ⊤
IsObject d = ⊥

-- an object that nests at most 64 deep and whose numbers are whole
pub data ReadsObject (d : Data) (r : Read Map) : Type 0 where
  map_read : (ms : Map) → json_of (fields ms) ≡ d → depth d ≤ 64 → first_bad d ≡ None → r ≡ Ok ms → ReadsObject d r
  too_deep : 64 < depth d → r ≡ Err [] → ReadsObject d r
  bad_number : depth d ≤ 64 → (p : List Step) → first_bad d ≡ Some p → r ≡ Err p → ReadsObject d r

abbrev pub ReadsMap : Data → Read Map → Type 0
ReadsMap (object ms) r = ReadsObject (object ms) r
ReadsMap d r = r ≡ Err []

-- a token that no earlier resource has
abbrev pub IsFree : List Held → Token → Read Token → Type 0
IsFree held t r = ((place_of held t ≡ None) × (r ≡ Ok t)) ⊎ (IsSome (place_of held t) × (r ≡ Err []))

-- the text of such a token
pub data ReadsTokenText (held : List Held) (s : List ℕ) (r : Read Token) : Type 0 where
  token_read : (t : Token) → IsToken t → token_text t ≡ s → IsFree held t r → ReadsTokenText held s r
  no_token : ((t : Token) → IsToken t → token_text t ≢ s) → r ≡ Err [] → ReadsTokenText held s r

abbrev pub ReadsToken : List Held → Data → Read Token → Type 0
ReadsToken held (string s) r = ReadsTokenText held s r
ReadsToken held d r = r ≡ Err []
