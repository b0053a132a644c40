-- How many names stand, once the texts of a list are put.
use Rattle.std.proofs.Common.{◌≡◌, ◌≤◌, ◌<◌, ◌+◌, ℕ, suc, List, [], ◌∷◌, length, get_or, drop}
use Rattle.std.proofs.Common.{false, nat_le, arith, ap, sym, subst, ◌∙◌, refl}
use Rattle.std.proofs.Math.Seq.{drop-cons}
use Rattle.std.specs.Ordering.{nat_cmp, match_ordering}
use Rattle.std.specs.Cmp.Lexicographic.{slice_cmp}
use Rattle.std.specs.declared.cmp.Ordering.{Ordering}
use Rattle.std.specs.declared.cmp.Ordering.TheVariants.{Less, Equal, Greater}
use Rattle.heat_value.specs.Data.{Data, null, flag, whole, words, items, fields, Nodes, no_nodes, node}
use Rattle.heat_value.specs.Data.{Members, no_members, member, keys_of, put}
use Rattle.heat_value.specs.Meaning.{data_of, nodes_of, members_of}
use Rattle.heat_value.specs.declared.value.Value.{Value}
use Rattle.heat_value.specs.declared.value.Member.{Member}
use Rattle.hot_catalog.specs.Definitions.{with_text, with_texts}

abbrev count : Members → ℕ
count ms = length (keys_of ms)

put_more : (k : List ℕ) (d : Data) (ms : Members) → count ms ≤ count (put k d ms)
put_more k d no_members = omega arith
put_more k d (member l e ms) = by (slice_cmp nat_cmp k l) (put_more k d ms)
  where
    by : (o : Ordering) → count ms ≤ count (put k d ms)
        → suc (count ms)
        ≤ count (match_ordering o (member k d (member l e ms)) (member k d ms) (member l e (put k d ms)))
    by Less more = omega arith
    by Equal more = omega arith
    by Greater more = omega (arith, more)

text_more : (d : Data) (ms : Members) → count ms ≤ count (with_text d ms)
text_more null ms = omega arith
text_more (flag b) ms = omega arith
text_more (whole z) ms = omega arith
text_more (words s) ms = put_more s null ms
text_more (items ns) ms = omega arith
text_more (fields fs) ms = omega arith

-- texts that are put take no name away
pub texts_more : (ns : Nodes) (ms : Members) → count ms ≤ count (with_texts ns ms)
texts_more no_nodes ms = omega arith
texts_more (node d ns) ms = omega (arith, text_more d ms, texts_more ns (with_text d ms))

pub keys_count : (ms : List Member) → length (keys_of (members_of ms)) ≡ length ms
keys_count [] = refl
keys_count (m ∷ ms) = ap suc (keys_count ms)

-- ---- one value more

above : (n : ℕ) → 64 < n → nat_le n 64 ≡ false
above n m = grind arith

nodes_from : (vs : List Value) (i : ℕ) (v : Value) → i < length vs → v ≡ get_or vs i v
    → nodes_of (drop i vs) ≡ node (data_of v) (nodes_of (drop (i + 1) vs))
nodes_from vs i v below at =
    let next : suc i ≡ i + 1 = omega arith in
    subst (λ (m : ℕ). nodes_of (drop i vs) ≡ node (data_of v) (nodes_of (drop m vs))) next
    (ap nodes_of (drop-cons vs i v below) ∙ ap (λ (x : Value). node (data_of x) (nodes_of (drop (suc i) vs))) (sym at))

module _ (vs : List Value) (i : ℕ) (v : Value) (old new whole : Members) (ms : List Member) (below : i < length vs)
    (at : v ≡ get_or vs i v) (put_is : new ≡ with_text (data_of v) old)
    (so_far : with_texts (nodes_of (drop i vs)) old ≡ whole) (listed : members_of ms ≡ new) where
  pub next_put : with_texts (nodes_of (drop (i + 1) vs)) new ≡ whole
  next_put =
      ap (with_texts (nodes_of (drop (i + 1) vs))) put_is
      ∙ sym (ap (λ (ns : Nodes). with_texts ns old) (nodes_from vs i v below at)) ∙ so_far

  counted : count new ≡ length ms
  counted = sym (ap count listed) ∙ keys_count ms

  pub still_few : length ms ≤ 64 → count new ≤ 64
  still_few few = let is = counted in omega (arith, is, few)

  pub too_many : 64 < length ms → false ≡ nat_le (count whole) 64
  too_many many =
      let is = counted in
      let more = texts_more (nodes_of (drop (i + 1) vs)) new in
      let all : count (with_texts (nodes_of (drop (i + 1) vs)) new) ≡ count whole = ap count next_put in
      sym (above (count whole) (omega (arith, is, more, all, many)))
