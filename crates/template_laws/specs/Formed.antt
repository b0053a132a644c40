-- Calls in their form: what template checks and admission see to, in evaluation's own words.
use Rattle.std.specs.Prelude.{◌≡◌, ◌+◌, ℕ, List, Bool, true, Option, Some, None, option_and_then, ⊤}
use Rattle.heat_value.specs.Data.{Data, null, flag, whole, words, items, fields, Nodes, no_nodes, node}
use Rattle.heat_value.specs.Data.{Members, no_members, member, lookup}
use Rattle.eval_words.specs.Lookups.{condition_named, file_named}
use Rattle.eval_words.specs.Names.{is_formed, is_condition_formed}
use Rattle.eval_words.specs.Scenes.{SceneData}
use Rattle.eval_words.specs.Sorts.{text_in, first_and_rest, parts}
use Rattle.eval_words.specs.declared.function.Function.{Function}
use Rattle.eval_words.specs.declared.function.Function.TheVariants as function
use Rattle.hot_functions.specs.Forms.{lone}
use Rattle.template_laws.specs.Roles.{Role, as_value, as_parts, as_repetition, as_branches, as_condition, as_conditions}
use Rattle.template_laws.specs.Roles.{as_written, called_as, item_role, member_role}

-- ---- names

-- a text that is a condition names one that has a value
abbrev pub IsNamedRight : SceneData → Role → List ℕ → Type 0
IsNamedRight scene as_value s = ⊤
IsNamedRight scene as_parts s = ⊤
IsNamedRight scene as_repetition s = ⊤
IsNamedRight scene as_branches s = ⊤
IsNamedRight scene as_condition s = (b : Bool) × (condition_named scene s ≡ Some b)
IsNamedRight scene as_conditions s = ⊤
IsNamedRight scene as_written s = ⊤

-- the name that the argument of a get_param is or begins with
abbrev pub parameter_in : Data → Option (List ℕ)
parameter_in a = option_and_then (λ p. text_in p.0) (first_and_rest (parts a))

-- a parameter of that name is bound
abbrev pub IsBound : SceneData → Data → Type 0
IsBound scene a = (d : Data) × (option_and_then (λ s. lookup s scene.params) (parameter_in a) ≡ Some d)

-- a file of that name is there
abbrev pub IsFile : SceneData → Data → Type 0
IsFile scene a = (text : List ℕ) × (option_and_then (file_named scene) (text_in a) ≡ Some text)

-- what the argument of a function names is there, where the function has no answer without it
abbrev pub IsThere : SceneData → Function → Data → Type 0
IsThere scene function.Parameter a = IsBound scene a
IsThere scene function.Resource a = ⊤
IsThere scene function.Attribute a = ⊤
IsThere scene function.File a = IsFile scene a
IsThere scene function.Join a = ⊤
IsThere scene function.Split a = ⊤
IsThere scene function.Replace a = ⊤
IsThere scene function.ReplaceStrictly a = ⊤
IsThere scene function.Repeat a = ⊤
IsThere scene function.Digest a = ⊤
IsThere scene function.MergeMaps a = ⊤
IsThere scene function.ReplaceInMap a = ⊤
IsThere scene function.Concat a = ⊤
IsThere scene function.ConcatUnique a = ⊤
IsThere scene function.Filter a = ⊤
IsThere scene function.Contains a = ⊤
IsThere scene function.If a = ⊤
IsThere scene function.FlagParameter a = IsBound scene a
IsThere scene function.Equals a = ⊤
IsThere scene function.Not a = ⊤
IsThere scene function.And a = ⊤
IsThere scene function.Or a = ⊤

-- ---- calls

-- the argument has the form that its key's function has to have
abbrev pub is_formed_as : Role → List ℕ → Data → Bool
is_formed_as as_value k a = is_formed k a
is_formed_as as_parts k a = true
is_formed_as as_repetition k a = true
is_formed_as as_branches k a = true
is_formed_as as_condition k a = is_condition_formed k a
is_formed_as as_conditions k a = true
is_formed_as as_written k a = true

-- the call of a function is in its form, and what it names is there
pub record IsRightCall (scene : SceneData) (r : Role) (m : List ℕ × Data) (f : Function) : Type 0 where
  pub formed : is_formed_as r m.0 m.1 ≡ true
  pub there : IsThere scene f m.1

-- an object is a right call, or none
abbrev pub IsRight : SceneData → Role → Option (List ℕ × Data) → Option Function → Type 0
IsRight scene r None f = ⊤
IsRight scene r (Some m) None = ⊤
IsRight scene r (Some m) (Some f) = IsRightCall scene r m f

-- ---- values

-- each call in it that may be evaluated is right, and each condition that may be asked for by its name has a value
abbrev mutual
  pub IsFormed : SceneData → Role → Data → Type 0
  IsFormed scene r null = ⊤
  IsFormed scene r (flag b) = ⊤
  IsFormed scene r (whole z) = ⊤
  IsFormed scene r (words s) = IsNamedRight scene r s
  IsFormed scene r (items ns) = AreFormed scene r 0 ns
  IsFormed scene r (fields ms) =
      IsRight scene r (lone ms) (called_as r (lone ms)) × HoldFormed scene r (called_as r (lone ms)) ms

  -- of a list's values from the place i on
  pub AreFormed : SceneData → Role → ℕ → Nodes → Type 0
  AreFormed scene r i no_nodes = ⊤
  AreFormed scene r i (node d ns) = IsFormed scene (item_role r i) d × AreFormed scene r (i + 1) ns

  -- of the values of an object that calls this function or none
  pub HoldFormed : SceneData → Role → Option Function → Members → Type 0
  HoldFormed scene r f no_members = ⊤
  HoldFormed scene r f (member k d ms) = IsFormed scene (member_role r f k) d × HoldFormed scene r f ms
