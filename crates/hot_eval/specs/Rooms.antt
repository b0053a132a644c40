-- What is made of a template, and the room for the texts in it.
use Rattle.std.specs.Prelude.{◌≡◌, ℕ, ◌+◌, ◌<◌, List, ⊤, Bool, true, MatchBool, MatchOption, Option, Some, None, Result, Ok, Err}
use Rattle.heat_value.specs.Data.{Data, words, Nodes, node_last, Members, put}
use Rattle.heat_value.specs.Meaning.{data_of}
use Rattle.heat_value.specs.declared.value.Value.{Value}
use Rattle.hot_functions.specs.Forms.{stands}
use Rattle.eval_words.specs.Choices.{Choice}
use Rattle.eval_words.specs.Fillings.{filled_size, text_filled}
use Rattle.eval_words.specs.Outcomes.{size}
use Rattle.hot_eval.specs.declared.fillings.Filled.{Filled}
use Rattle.hot_eval.specs.declared.fillings.Filled.TheVariants as filled

-- the template with keys replaced, whose texts took so much of the room; or two keys of an object became one; or they
-- take more than there is
abbrev pub IsFilled : {E : Type 0} → Result Filled E → ℕ → ℕ → ℕ → Option Data → Type 0
IsFilled (Ok (filled.Template v)) before now taken o = (o ≡ Some (data_of v)) × (now + taken ≡ before)
IsFilled (Ok filled.Same) before now taken o = (o ≡ None) × (now + taken ≡ before)
IsFilled (Ok filled.Large) before now taken o = before < taken
IsFilled (Err e) before now taken o = ⊤

-- the value, which took so much of the room; none where it takes more than there is
abbrev pub IsMade : {E : Type 0} → Result (Option Value) E → ℕ → ℕ → ℕ → Data → Type 0
IsMade (Ok (Some v)) before now taken d = (data_of v ≡ d) × (now + taken ≡ before)
IsMade (Ok None) before now taken d = before < taken
IsMade (Err e) before now taken d = ⊤

-- the same of a text
abbrev pub IsTextMade : {E : Type 0} → Result (Option (List ℕ)) E → ℕ → ℕ → ℕ → List ℕ → Type 0
IsTextMade (Ok (Some t)) before now taken s = (t ≡ s) × (now + taken ≡ before)
IsTextMade (Ok None) before now taken s = before < taken
IsTextMade (Err e) before now taken s = ⊤

-- ---- part by part

-- the next item behind the last, or it has two keys that became one; none where it takes more than there is
abbrev pub IsItemFilled : Option Bool → ℕ → ℕ → ℕ → Option Data → Bool → Nodes → Nodes → Type 0
IsItemFilled None before now taken o same old new = before < taken
IsItemFilled (Some twice) before now taken o same old new = (now + taken ≡ before)
    × MatchOption o (twice ≡ true) (λ d. (twice ≡ same) × (new ≡ node_last old d))

-- what a member takes
abbrev pub member_size : Choice → List ℕ → Data → ℕ
member_size c k d = size (words (text_filled c k)) + filled_size c d

-- the next member under its new key, or that one stands there already
abbrev pub IsMemberFilled : Option Bool → ℕ → ℕ → ℕ → Option Data → List ℕ → Bool → Members → Members → Type 0
IsMemberFilled None before now taken o k same old new = before < taken
IsMemberFilled (Some twice) before now taken o k same old new = (now + taken ≡ before)
    × MatchOption o (twice ≡ true) (λ d. MatchBool (stands k old) (twice ≡ true) ((twice ≡ same) × (new ≡ put k d old)))
