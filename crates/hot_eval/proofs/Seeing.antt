-- A set of values that were seen has what the list of them has.
use Rattle.std.proofs.Common.{◌≡◌, ◌∙◌, ◌<◌, ◌+◌, ◌++◌, ◌||◌, ℕ, List, [], ◌∷◌, length, get_or, take, Bool, true, false, not, refl, sym, ap, subst, cond}
use Rattle.std.proofs.lemmas.List.{take_more}
use Rattle.std.specs.BTreeSet.{BTreeSet, contains, Updates}
use Rattle.std.specs.Ordering.{is_eq}
use Rattle.std.specs.Prelude.{MatchBool}
use Rattle.std.specs.declared.cmp.Ordering.{Ordering}
use Rattle.std.specs.declared.cmp.Ordering.TheVariants.{Less, Equal, Greater}
use Rattle.heat_value.specs.Data.{Data, Nodes, no_nodes, node, node_last}
use Rattle.heat_value.specs.Meaning.{data_of, nodes_of}
use Rattle.heat_value.specs.Order.{value_cmp}
use Rattle.heat_value.specs.OrderLaws.{value_cmp_exact}
use Rattle.heat_value.specs.declared.value.Value.{Value}
use Rattle.eval_words.specs.Sameness.{is_same, has}
use Rattle.hot_eval.specs.Seen.{HoldsAll}
use Rattle.eval_words.specs.Lists.{both_lists, new_ones}
use Rattle.hot_eval.proofs.Joins.{has-last, next_new, next_seen}
use Rattle.hot_eval.proofs.Sames.{is_same-Decides}

-- what the order doesn't tell apart is the same
order-same : (d e : Data) → is_eq (value_cmp e d) ≡ is_same d e
order-same d e = by (value_cmp e d) (is_same d e) refl refl
  where
    by : (o : Ordering) (b : Bool) → value_cmp e d ≡ o → is_same d e ≡ b → is_eq o ≡ b
    by Equal true is same = refl
    by Equal false is same =
        let one : e ≡ d = (value_cmp_exact e d).0 is in
        let yes : is_same d e ≡ true = (is_same-Decides d e).1 (sym one) in cc
    by Less true is same =
        let tied : value_cmp e d ≡ Equal = (value_cmp_exact e d).1 (sym ((is_same-Decides d e).0 same)) in cc
    by Less false is same = refl
    by Greater true is same =
        let tied : value_cmp e d ≡ Equal = (value_cmp_exact e d).1 (sym ((is_same-Decides d e).0 same)) in cc
    by Greater false is same = refl

or_cond : (b c : Bool) → cond b true c ≡ (b || c)
or_cond true c = refl
or_cond false c = refl

pub holds_none : (s : BTreeSet Data) → s.keys ≡ [] → HoldsAll s no_nodes
holds_none s none d = ap (λ (ks : List Data). contains value_cmp (record { keys = ks }) d) none

pub holds_more : (old new : BTreeSet Data) (e : Data) (ns : Nodes) → HoldsAll old ns → Updates value_cmp old new e true
    → HoldsAll new (node_last ns e)
holds_more old new e ns all put d =
    put.0 d ∙ or_cond (is_eq (value_cmp e d)) (contains value_cmp old d)
    ∙ ap (λ b. b || contains value_cmp old d) (order-same d e) ∙ ap (λ b. is_same d e || b) (all d) ∙ sym (has-last d e ns)

-- the next value goes behind the last unless it was seen
pub seen_next : (items now rest next whole : Nodes) (d : Data) → rest ≡ node d next
    → MatchBool (has d items) (now ≡ items) (now ≡ node_last items d) → both_lists items (new_ones items rest) ≡ whole
    → both_lists now (new_ones now next) ≡ whole
seen_next items now rest next whole d at put all = by (has d items) refl put
  where
    by : (b : Bool) → has d items ≡ b → MatchBool b (now ≡ items) (now ≡ node_last items d)
        → both_lists now (new_ones now next) ≡ whole
    by true here same = next_seen items now rest next whole d at here same all
    by false other push = next_new items now rest next whole d at other push all

-- where a value was seen already it stays seen
pub holds_again : (old new : BTreeSet Data) (e : Data) (ns : Nodes) → has e ns ≡ true → HoldsAll old ns
    → HoldsAll new (node_last ns e) → HoldsAll new ns
holds_again old new e ns here all more d = more d ∙ has-last d e ns ∙ by (is_same d e) refl
  where
    by : (b : Bool) → is_same d e ≡ b → (b || has d ns) ≡ has d ns
    by true same = sym (ap (λ (x : Data). has x ns) ((is_same-Decides d e).0 same) ∙ here)
    by false other = refl

-- ---- one value more

was_new : (b there : Bool) → b ≡ not there → b ≡ true → there ≡ false
was_new b true is now = cc
was_new b false is now = refl

was_there : (b there : Bool) → b ≡ not there → b ≡ false → there ≡ true
was_there b true is now = refl
was_there b false is now = cc

pub new_added : (new : BTreeSet Data) (e : Data) (ns now : Nodes) (b : Bool) → b ≡ not (has e ns) → b ≡ true
    → HoldsAll new (node_last ns e) → now ≡ node_last ns e
    → HoldsAll new now × MatchBool (has e ns) (now ≡ ns) (now ≡ node_last ns e)
new_added new e ns now b is added all push = (
  λ d. all d ∙ ap (has d) (sym push),
  subst (λ x. MatchBool x (now ≡ ns) (now ≡ node_last ns e)) (sym (was_new b (has e ns) is added)) push,
)

pub old_added : (old new : BTreeSet Data) (e : Data) (ns : Nodes) (b : Bool) → b ≡ not (has e ns) → b ≡ false
    → HoldsAll old ns → HoldsAll new (node_last ns e)
    → HoldsAll new ns × MatchBool (has e ns) (ns ≡ ns) (ns ≡ node_last ns e)
old_added old new e ns b is none all more =
    let here : has e ns ≡ true = was_there b (has e ns) is none in (
      holds_again old new e ns here all more,
      subst (λ x. MatchBool x (ns ≡ ns) (ns ≡ node_last ns e)) (sym here) refl,
    )

pub new_start : (s : BTreeSet Data) (items whole : Nodes) → items ≡ no_nodes → s.keys ≡ []
    → (both_lists items (new_ones items whole) ≡ new_ones no_nodes whole) × HoldsAll s items
new_start s items whole none empty = (
  ap (λ x. both_lists x (new_ones x whole)) none,
  λ d. holds_none s empty d ∙ ap (has d) (sym none),
)

-- ---- the values of a list, one after another

nodes_push : (vs : List Value) (v : Value) → nodes_of (vs ++ v ∷ []) ≡ node_last (nodes_of vs) (data_of v)
nodes_push [] v = refl
nodes_push (w ∷ vs) v = ap (node (data_of w)) (nodes_push vs v)

pub see_next : (s : BTreeSet Data) (vs : List Value) (i : ℕ) (v : Value) → i < length vs → v ≡ get_or vs i v
    → HoldsAll s (node_last (nodes_of (take i vs)) (data_of v)) → HoldsAll s (nodes_of (take (i + 1) vs))
see_next s vs i v below at all =
    subst (HoldsAll s) (sym (ap nodes_of (take_more vs i v below)
    ∙ ap (λ (w : Value). nodes_of (take i vs ++ w ∷ [])) (sym at) ∙ nodes_push (take i vs) v)) all
