-- Members by their numbers: how many are left, and the name of one more.
use Rattle.std.proofs.Common.{◌≡◌, ◌<◌, ◌≤◌, ◌+◌, ◌-◌, ◌∙◌, ℕ, zero, suc, List, [], ◌∷◌, refl, ap, sym, arith}
use Rattle.std.proofs.Common.{Bool, true, false, ◌||◌, Option, Some, None, is_some, decimal}
use Rattle.std.specs.Option.{option_or}
use Rattle.heat_value.specs.Data.{no_nodes, node, node_last, words, fields, Members}
use Rattle.hot_strings.specs.Answers.{with_values}
use Rattle.hot_strings.specs.Pieces.{Params}
use Rattle.hot_groups.specs.Checks.{meeting_from, is_barred, some_barred}
use Rattle.hot_groups.specs.Groups.{member_name, names_from}
use Rattle.hot_groups.specs.Numbers.{meeting}
use Rattle.hot_groups.specs.declared.flaw.GroupFlaw.{GroupFlaw}

pub left_more : (n i : ℕ) → i < n → n - i ≡ suc (n - (i + 1))
left_more n i below = omega (arith, below)

pub left_none : (n i : ℕ) → n ≤ i → n - i ≡ 0
left_none n i above = omega (arith, above)

module _ (g : List ℕ) where
  names_more : (a n : ℕ) → names_from g a (suc n) ≡ node_last (names_from g a n) (words (member_name g (a + n)))
  names_more a zero =
      let same : a ≡ a + 0 = omega arith in
      ap (λ (m : ℕ). node (words (member_name g m)) no_nodes) same
  names_more a (suc n) =
      let same : (a + 1) + n ≡ a + suc n = omega arith in
      ap (node (words (member_name g a))) (names_more (a + 1) n
      ∙ ap (λ (m : ℕ). node_last (names_from g (a + 1) n) (words (member_name g m))) same)

  -- the names of one member more
  pub names_next : (n : ℕ) → node_last (names_from g 0 n) (words (member_name g n)) ≡ names_from g 0 (n + 1)
  names_next n =
      let next : suc n ≡ n + 1 = omega arith in
      let base : n ≡ 0 + n = omega arith in
      ap (λ (m : ℕ). node_last (names_from g 0 n) (words (member_name g m))) base
      ∙ sym (names_more 0 n) ∙ ap (names_from g 0) next

-- ---- the first member of which something is found

or_some : {A : Type 0} (o rest : Option A) → is_some o ≡ true → option_or o rest ≡ o
or_some None rest some = cc
or_some (Some a) rest some = refl

or_none : {A : Type 0} (o rest : Option A) → is_some o ≡ false → option_or o rest ≡ rest
or_none None rest none = refl
or_none (Some a) rest none = cc

module _ (v : List ℕ) (ms : Members) (i n : ℕ) (ps : Params) (o whole : Option GroupFlaw) (below : i < n)
    (number : ps ≡ (v, decimal i) ∷ []) (is : o ≡ meeting (with_values ps) (fields ms))
    (way : whole ≡ meeting_from v ms i (n - i)) where
  here : whole ≡ option_or o (meeting_from v ms (i + 1) (n - (i + 1)))
  here =
      way ∙ ap (meeting_from v ms i) (left_more n i below)
      ∙ ap (λ (x : Option GroupFlaw). option_or x (meeting_from v ms (i + 1) (n - (i + 1))))
      (sym (is ∙ ap (λ (qs : Params). meeting (with_values qs) (fields ms)) number))

  pub meeting_here : is_some o ≡ true → o ≡ whole
  meeting_here some = sym (here ∙ or_some o _ some)

  pub meeting_later : is_some o ≡ false → whole ≡ meeting_from v ms (i + 1) (n - (i + 1))
  meeting_later none = here ∙ or_none o _ none

barred_step : (resources : Members) (g : List ℕ) (i m : ℕ) → is_barred resources (member_name g i) ≡ false
    → some_barred resources g i (suc m) ≡ some_barred resources g (i + 1) m
barred_step resources g i m free = ap (λ (x : Bool). x || some_barred resources g (i + 1) m) free

-- the next member's name may stand
pub barred_later : (resources : Members) (g : List ℕ) (i n : ℕ) (name : List ℕ) (b whole : Bool) → i < n
    → name ≡ member_name g i → b ≡ is_barred resources name → b ≡ false
    → whole ≡ some_barred resources g i (n - i) → whole ≡ some_barred resources g (i + 1) (n - (i + 1))
barred_later resources g i n name b whole below named is none way =
    way ∙ ap (some_barred resources g i) (left_more n i below)
    ∙ barred_step resources g i (n - (i + 1)) (ap (is_barred resources) (sym named) ∙ sym is ∙ none)
