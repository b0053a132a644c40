-- A list made value by value: one value more.
use Rattle.std.proofs.Common.{◌≡◌, ◌<◌, ◌+◌, ◌∙◌, ℕ, zero, suc, List, [], ◌∷◌, length, get_or, take, refl, ap, sym, subst, arith}
use Rattle.heat_value.specs.Data.{Data, Nodes, no_nodes, node, node_last}
use Rattle.heat_value.specs.Meaning.{data_of, nodes_of}
use Rattle.heat_value.specs.declared.value.Value.{Value}
use Rattle.hot_groups.specs.References.{nodes_before}

module _ (g : Nodes → Nodes) (h : Data → Data) (none : g no_nodes ≡ no_nodes)
    (more : (d : Data) (ns : Nodes) → g (node d ns) ≡ node (h d) (g ns)) where
  made_more : (vs : List Value) (n : ℕ) (v : Value) (e : Data) → n < length vs → v ≡ get_or vs n v → e ≡ h (data_of v)
      → node_last (g (nodes_of (take n vs))) e ≡ g (nodes_of (take (suc n) vs))
  made_more [] n v e l is made = absurd (omega (arith, l))
  made_more (w ∷ vs) zero v e l is made =
      ap (λ (ns : Nodes). node_last ns e) none ∙ ap (λ (x : Data). node x no_nodes) (made ∙ ap (λ (y : Value). h (data_of y)) is)
      ∙ sym (more (data_of w) no_nodes ∙ ap (node (h (data_of w))) none)
  made_more (w ∷ vs) (suc n) v e l is made =
      ap (λ (ns : Nodes). node_last ns e) (more (data_of w) (nodes_of (take n vs)))
      ∙ ap (node (h (data_of w))) (made_more vs n v e (omega (arith, l)) is made)
      ∙ sym (more (data_of w) (nodes_of (take (suc n) vs)))

  -- the list of one value more
  pub one_more : (vs : List Value) (n : ℕ) (v : Value) (e : Data) → n < length vs → v ≡ get_or vs n v → e ≡ h (data_of v)
      → node_last (g (nodes_of (take n vs))) e ≡ g (nodes_of (take (n + 1) vs))
  one_more vs n v e l is made =
      let next : suc n ≡ n + 1 = omega arith in
      subst (λ (m : ℕ). node_last (g (nodes_of (take n vs))) e ≡ g (nodes_of (take m vs))) next
      (made_more vs n v e l is made)

-- ---- lists behind each other

before-last : (a : Nodes) (d : Data) (b : Nodes) → nodes_before (node_last a d) b ≡ nodes_before a (node d b)
before-last no_nodes d b = refl
before-last (node e a) d b = ap (node e) (before-last a d b)

pub before-none : (a : Nodes) → nodes_before a no_nodes ≡ a
before-none no_nodes = refl
before-none (node e a) = ap (node e) (before-none a)

-- one value put behind the last
pub put_behind : (all now : Nodes) (v e : Data) (left rest whole : Nodes) → left ≡ node v rest → e ≡ v
    → now ≡ node_last all e → whole ≡ nodes_before all left → whole ≡ nodes_before now rest
put_behind all now v e left rest whole split same set way =
    way ∙ ap (nodes_before all) split ∙ sym (before-last all v rest)
    ∙ ap (λ (ns : Nodes). nodes_before ns rest) (ap (node_last all) (sym same) ∙ sym set)

pub behind-one : (a : Nodes) (d : Data) → node_last a d ≡ nodes_before a (node d no_nodes)
behind-one no_nodes d = refl
behind-one (node e a) d = ap (node e) (behind-one a d)

before-before : (a b c : Nodes) → nodes_before a (nodes_before b c) ≡ nodes_before (nodes_before a b) c
before-before no_nodes b c = refl
before-before (node e a) b c = ap (node e) (before-before a b c)

-- several values put behind the last
pub put_all_behind : (all now some left rest whole : Nodes) → left ≡ nodes_before some rest → now ≡ nodes_before all some
    → whole ≡ nodes_before all left → whole ≡ nodes_before now rest
put_all_behind all now some left rest whole split set way =
    way ∙ ap (nodes_before all) split ∙ before-before all some rest
    ∙ ap (λ (ns : Nodes). nodes_before ns rest) (sym set)

pub ruleset for_putting = (behind-one)
