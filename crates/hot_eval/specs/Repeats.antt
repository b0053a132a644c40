-- What the program's lists and choices of a repeat show, and how it goes from choice to choice.
use Rattle.std.specs.Prelude.{◌≡◌, ◌≢◌, ◌<◌, ℕ, zero, suc, List, [], ◌∷◌, ◌++◌, ⊤, All, Bool, MatchBool, Option}
use Rattle.std.specs.Prelude.{Some, None, Result, Ok, Err, map, unwrap_or, length, get_or, set, nat_le, ◌≤◌, if◌then◌else◌}
use Rattle.std.specs.Ordering.{nat_cmp}
use Rattle.std.specs.Cmp.Lexicographic.{slice_cmp}
use Rattle.std.specs.declared.cmp.Ordering.TheVariants.{Less}
use denote.Ref.{Bor}
use Rattle.heat_value.specs.Coercion.{coerced}
use Rattle.heat_value.specs.Data.{null, Nodes, no_nodes, node}
use Rattle.heat_value.specs.Meaning.{data_of, nodes_of}
use Rattle.heat_value.specs.declared.value.Value.{Value}
use Rattle.heat_plan.specs.Order.{Rising}
use Rattle.hot_strings.specs.Indexes.{keys_in, IsIndexOf}
use Rattle.hot_strings.specs.Pieces.{Params, AreDistinct, HasNoEmptyKey}
use Rattle.eval_words.specs.Choices.{Lists, Choice, choices, each_with, Repetition}
use Rattle.eval_words.specs.Fillings.{texts_for}
use Rattle.eval_words.specs.Lookups.{node_at}
use Rattle.hot_eval.specs.declared.choices.Listed.{Listed}
use Rattle.hot_eval.specs.declared.choices.Repetition.{Repetition as Held}
use Rattle.hot_eval.specs.declared.choices.Choice.{Choice as Picked}
use Rattle.eval_words.specs.declared.code.FaultCode.{FaultCode}
use Rattle.eval_words.specs.declared.fault.FunctionFault.{FunctionFault}
use Rattle.eval_words.specs.declared.fault.FunctionFault.TheVariants.{Wrong, Memory}

-- ---- what they show

-- keys with their lists of items
abbrev pub lists_of : List Listed → Lists
lists_of ls = map (λ (l : Listed). (l.key.now, nodes_of l.items.now)) ls

-- the keys rise in byte order, and none is empty
abbrev pub AreKeys : Lists → Type 0
AreKeys [] = ⊤
AreKeys (l ∷ ls) = (l.0 ≢ []) × All (λ m. slice_cmp nat_cmp l.0 m.0 ≡ Less) ls × AreKeys ls

-- the fault is this code, or want of memory
abbrev pub IsCode : FunctionFault → FaultCode → Type 0
IsCode (Wrong c) d = c ≡ d
IsCode Memory d = ⊤

-- the lists and the template are those of the repetition, or its fault is told
abbrev pub IsRepetition : Result Held FunctionFault → Result Repetition FaultCode → Type 0
IsRepetition (Ok r) (Ok s) = (choices (lists_of r.lists.items) ≡ s.0) × (data_of r.template.now ≡ s.1)
IsRepetition (Ok r) (Err c) = ⊥
IsRepetition (Err e) (Ok s) = e ≡ Memory
IsRepetition (Err e) (Err c) = IsCode e c

-- each key with its item
abbrev pub with_items : Params → List (Bor Value) → Choice
with_items [] vs = []
with_items (p ∷ ps) [] = []
with_items (p ∷ ps) (v ∷ vs) = (p.0, data_of v.now) ∷ with_items ps vs

-- what the program's choice shows: each key with the item that was picked
abbrev pub choice_of : Picked → Choice
choice_of c = with_items c.texts.items c.items.items

-- each key has its item's text, the keys rise in byte order, none stands twice or is empty, and the index is theirs
pub record IsChoice (c : Picked) : Type 0 where
  pub texts : c.texts.items ≡ texts_for (choice_of c)
  pub rising : Rising (keys_in c.texts.items)
  pub distinct : AreDistinct c.texts.items
  pub keys : HasNoEmptyKey c.texts.items
  pub index : IsIndexOf (keys_in c.texts.items) c.index

-- ---- from choice to choice

-- how many items a list has
abbrev pub count_of : Nodes → ℕ
count_of no_nodes = 0
count_of (node d ns) = suc (count_of ns)

-- a place in each list
abbrev pub ArePlaces : Lists → List ℕ → Type 0
ArePlaces [] [] = ⊤
ArePlaces [] (p ∷ ps) = ⊥
ArePlaces (l ∷ ls) [] = ⊥
ArePlaces (l ∷ ls) (p ∷ ps) = (p < count_of l.1) × ArePlaces ls ps

-- the choice of the items at these places
abbrev pub choice_at : Lists → List ℕ → Choice
choice_at [] ps = []
choice_at (l ∷ ls) [] = []
choice_at (l ∷ ls) (p ∷ ps) = (l.0, unwrap_or (node_at l.1 p) null) ∷ choice_at ls ps

-- these choices of the lists behind with the item at a place, and then all those with the items behind it
abbrev pub each_from : List ℕ → Nodes → ℕ → List Choice → List Choice → List Choice
each_from k no_nodes p here all = []
each_from k (node d ns) zero here all = map (λ c. (k, d) ∷ c) here ++ each_with k ns all
each_from k (node d ns) (suc p) here all = each_from k ns p here all

-- the choices from these places on
abbrev pub choices_from : Lists → List ℕ → List Choice
choices_from [] ps = [] ∷ []
choices_from (l ∷ ls) [] = []
choices_from (l ∷ ls) (p ∷ ps) = each_from l.0 l.1 p (choices_from ls ps) (choices ls)

-- the places are those of the first choice; there are none where there is no choice
abbrev pub AreFirst : Lists → Option (List ℕ) → Type 0
AreFirst ls None = choices ls ≡ []
AreFirst ls (Some ps) = ArePlaces ls ps × (choices_from ls ps ≡ choices ls)

-- the list at a place; none is there past the last
abbrev pub list_at : Lists → ℕ → Nodes
list_at ls n = (get_or ls n ([], no_nodes)).1

-- of so many lists the place behind the last that has more than one item, or 0
abbrev pub link : Lists → ℕ → ℕ
link ls zero = 0
link ls (suc n) = if nat_le 2 (count_of (list_at ls n)) then suc n else link ls n

-- the link of each number of lists
pub record AreLinks (ls : Lists) (links : List ℕ) : Type 0 where
  pub size : length links ≡ suc (length ls)
  pub each : (n d : ℕ) → n ≤ length ls → get_or links n d ≡ link ls n

-- each item's text
abbrev pub item_texts : Nodes → List (List ℕ)
item_texts no_nodes = []
item_texts (node d ns) = coerced d ∷ item_texts ns

-- the texts of each list's items
abbrev pub stocks_for : Lists → List (List (List ℕ))
stocks_for ls = map (λ l. item_texts l.1) ls

-- it is the choice of the items at these places; each text that it has is lacking in its list's stock alone
pub record IsChoiceAt (ls : Lists) (ps : List ℕ) (stocks : List (List (List ℕ))) (c : Picked) : Type 0 where
  pub choice : choice_of c ≡ choice_at ls ps
  pub kept : IsChoice c
  pub size : length stocks ≡ length ls
  pub lent : (n : ℕ) (d : List (List ℕ)) (p : ℕ) (t : List ℕ × List ℕ) → n < length ls
      → set (get_or stocks n d) (get_or ps n p) (get_or c.texts.items n t).1 ≡ item_texts (list_at ls n)

-- behind the choice at the places stand those from the next places on, or none
abbrev pub GoesOn : Bool → Lists → List ℕ → List ℕ → Type 0
GoesOn more ls ps qs = MatchBool more
    (ArePlaces ls qs × (choices_from ls ps ≡ choice_at ls ps ∷ choices_from ls qs))
    (choices_from ls ps ≡ choice_at ls ps ∷ [])
