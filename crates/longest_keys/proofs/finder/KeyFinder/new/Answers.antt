use Rattle.std.proofs.Common.{◌≡◌, ◌<◌, ◌∙◌, ℕ, List, map, length, Some, ap, sym, subst, arith}
use Rattle.std.specs.List.{All, slice_get}
use Rattle.std.proofs.lemmas.List.Elements.{All-weaker}
use Rattle.longest_keys.specs.Finders.{IsOwn, IsNumbered}
use Rattle.longest_keys.specs.Walks.{AreFails}
use Rattle.longest_keys.specs.declared.trie.Node.{Node}
use Rattle.longest_keys.proofs.FinderLemmas.{ends_within, all_longest}
use Rattle.longest_keys.proofs.finder.KeyFinder.new.Goals as goal

pub own_of-requires : goal.own_of-requires
own_of-requires c =
    let trie = c.in_ok-nodes.ensures in
    let nodes = c.in_ok-nodes.field-0.nodes.items in
    let ends = c.in_ok-nodes.field-0.ends.items in
    subst (λ (es : List ℕ). All (λ e. e < c.len.result) es) (sym c.as_slice-2.ensures.value)
    (All-weaker (λ e. e < length nodes) (λ e. e < c.len.result) (λ e l. omega (arith, l, c.len.ensures)) ends (ends_within (map (λ k. k.now) c.args.keys.now) nodes ends trie.trie trie.ends))

pub returns : goal.returns
returns c =
    let trie = c.in_ok-nodes.ensures in
    let nodes = c.in_ok-nodes.field-0.nodes.items in
    let ends = c.in_ok-nodes.field-0.ends.items in
    let fails = c.in_ok-fails.fails.items in
    let own = c.in_ok-own.own.items in
    let fail : AreFails nodes fails = subst (λ (ns : List Node). AreFails ns fails) c.as_slice.ensures.value c.in_ok-fails.ensures.fails in
    let told : length fails ≡ length nodes = c.in_ok-fails.ensures.size ∙ ap length c.as_slice.ensures.value in
    let size : length own ≡ length nodes = omega (arith, c.in_ok-own.ensures.size, c.len.ensures) in
    let owned = subst (λ (es : List ℕ). (e m : ℕ) → slice_get own e ≡ Some m → IsOwn es e m) c.as_slice-2.ensures.value c.in_ok-own.ensures.each in
    let numbered
    = subst (λ (os : List ℕ). (i : ℕ) → IsNumbered os fails c.in_ok-longest.longest.items i) c.as_slice-3.ensures.value
    (subst (λ (fs : List ℕ). (i : ℕ) → IsNumbered c.as_slice-3.result.now fs c.in_ok-longest.longest.items i) c.as_slice-4.ensures.value c.in_ok-longest.ensures.each) in
    record {
      trie = trie.trie;
      ends = trie.ends;
      fails = fail;
      told = told;
      size = c.in_ok-longest.ensures.size ∙ (ap length c.as_slice-3.ensures.value ∙ size);
      longest = all_longest (map (λ k. k.now) c.args.keys.now) nodes ends own fails c.in_ok-longest.longest.items trie.trie trie.ends fail told size owned numbered;
    }
