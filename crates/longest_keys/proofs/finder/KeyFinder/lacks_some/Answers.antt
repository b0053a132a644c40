use Rattle.std.proofs.Common.{◌≡◌, ◌<◌, ℕ, List, Bool, true, false, length, Some, ◌↔◌, ap, sym, subst, arith}
use Rattle.std.specs.Bool.{MatchBool}
use Rattle.std.specs.List.{All, Any, slice_get}
use Rattle.std.proofs.lemmas.List.Elements.{All-weaker}
use Rattle.longest_keys.specs.Walks.{AreFails, AreStates}
use Rattle.longest_keys.specs.declared.trie.Node.{Node}
use Rattle.longest_keys.proofs.FinderLemmas.{ends_within, states_within}
use Rattle.longest_keys.proofs.MarkLemmas.{states_of_parts, states_have_parts, keys_told}
use Rattle.longest_keys.proofs.finder.KeyFinder.lacks_some.Goals as goal

pub mark_states-requires-clause-within : goal.mark_states-requires-clause-within
mark_states-requires-clause-within c =
    let index = c.requires.of.1 in
    let nodes = c.args.self.now.nodes.items in
    let told = subst (λ (ns : List Node). AreStates ns c.args.text.now c.in_ok-states.states.items) c.as_slice.ensures.value c.in_ok-states.ensures in
    let size : length nodes ≡ length c.in_ok-marks.marks.items = omega (arith, c.in_ok-marks.ensures.len, c.len.ensures, index.told) in
    subst (λ (qs : List ℕ). All (λ q. q < length c.in_ok-marks.marks.items) qs) (sym c.as_slice-3.ensures.value)
    (All-weaker (λ q. q < length nodes) (λ q. q < length c.in_ok-marks.marks.items) (λ q l. omega (arith, l, size)) c.in_ok-states.states.items (states_within nodes c.args.text.now c.in_ok-states.states.items index.trie told))

pub lacks_mark-requires : goal.lacks_mark-requires
lacks_mark-requires c =
    let index = c.requires.of.1 in
    let nodes = c.args.self.now.nodes.items in
    let size : length nodes ≡ length c.as_slice-6.result.now
    = omega (arith, ap length c.as_slice-6.ensures.value, c.mark_fails.ensures.size, c.mark_states.ensures.size, c.in_ok-marks.ensures.len, c.len.ensures, index.told) in
    subst (λ (es : List ℕ). All (λ e. e < length c.as_slice-6.result.now) es) (sym c.as_slice-5.ensures.value)
    (All-weaker (λ e. e < length nodes) (λ e. e < length c.as_slice-6.result.now) (λ e l. omega (arith, l, size)) c.args.self.now.ends.items (ends_within c.requires.of.0 nodes c.args.self.now.ends.items index.trie index.ends))

pub returns : goal.returns
returns c = λ keys index some.
    let nodes = c.args.self.now.nodes.items in
    let fails = c.args.self.now.fails.items in
    let text = c.args.text.now in
    let states = c.in_ok-states.states.items in
    let told = subst (λ (ns : List Node). AreStates ns text states) c.as_slice.ensures.value c.in_ok-states.ensures in
    let marked = subst (λ (qs : List ℕ). (i : ℕ) → (slice_get c.mark_states.new.marks.items i ≡ Some true) ↔ ((p : ℕ) × (slice_get qs p ≡ Some i))) c.as_slice-3.ensures.value c.mark_states.ensures.marked in
    let fail : AreFails nodes c.as_slice-4.result.now = subst (λ (fs : List ℕ). AreFails nodes fs) (sym c.as_slice-4.ensures.value) index.fails in
    let only = c.mark_fails.ensures.only nodes text index.trie fail (states_of_parts nodes text states c.mark_states.new.marks.items index.trie told marked) in
    let all = c.mark_fails.ensures.all nodes text index.trie fail (states_have_parts nodes text states c.mark_states.new.marks.items index.trie told marked (length c.as_slice-4.result.now)
    (omega (arith, ap length c.as_slice-4.ensures.value, c.mark_states.ensures.size, c.in_ok-marks.ensures.len, c.len.ensures))) in
    keys_told keys nodes c.args.self.now.ends.items text c.mark_fails.new.marks.items c.lacks_mark.result index.trie index.ends some only all
    (subst (λ (es : List ℕ). MatchBool c.lacks_mark.result (Any (λ e. slice_get c.mark_fails.new.marks.items e ≡ Some false) es) (All (λ e. slice_get c.mark_fails.new.marks.items e ≡ Some true) es)) c.as_slice-5.ensures.value
    (subst (λ (ms : List Bool). MatchBool c.lacks_mark.result (Any (λ e. slice_get ms e ≡ Some false) c.as_slice-5.result.now) (All (λ e. slice_get ms e ≡ Some true) c.as_slice-5.result.now)) c.as_slice-6.ensures.value c.lacks_mark.ensures))
