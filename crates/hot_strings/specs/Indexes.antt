-- What is found out of keys once: whether one is empty, and the places where they stand.
use Rattle.std.specs.Prelude.{◌≡◌, ◌≢◌, ℕ, List, [], map, All, Any, MatchBool}
use Rattle.longest_keys.specs.Finders.{IsFinderOf}
use Rattle.hot_strings.specs.Pieces.{Params}
use Rattle.hot_strings.specs.declared.index.KeyIndex.{KeyIndex}

-- the keys, whatever is put in their place
abbrev pub keys_in : Params → List (List ℕ)
keys_in params = map (λ p. p.0) params

-- it says whether a key is empty, and finds these keys
pub record IsIndexOf (keys : List (List ℕ)) (x : KeyIndex) : Type 0 where
  pub empty : MatchBool x.empty (Any (λ k. k ≡ []) keys) (All (λ k. k ≢ []) keys)
  pub finder : IsFinderOf keys x.finder
