use Rattle.std.proofs.Common.{◌+◌, List, length, refl, subst, arith}
use Rattle.std.proofs.lemmas.Option.{slice_get_read}
use Rattle.longest_keys.specs.Walks.{AreStates}
use Rattle.longest_keys.specs.declared.trie.Node.{Node}
use Rattle.longest_keys.proofs.FinderLemmas.{one_turned, turned_within, all_turned}
use Rattle.longest_keys.proofs.finder.KeyFinder.found_in.Goals as goal

pub index-requires-in-loop-i : goal.index-requires-in-loop-i
index-requires-in-loop-i c =
    let index = c.requires.of.1 in
    let nodes = c.args.self.now.nodes.items in
    let told = subst (λ (ns : List Node). AreStates ns c.args.text.now c.in_ok-found.found.items) c.as_slice.ensures.value c.in_ok-found.ensures in
    let here = slice_get_read c.loop-i.found.items (length c.loop-i.found.items) c.loop-i.i c.index.result.now refl (omega arith) c.index.ensures in
    let within = turned_within nodes c.args.text.now c.in_ok-found.found.items c.args.self.now.longest.items c.loop-i.found.items c.loop-i.i c.index.result.now index.trie told c.loop-i.invariant here in
    omega (arith, within, index.size)

pub loop-i-preserved : goal.loop-i-preserved
loop-i-preserved c =
    let index = c.requires.of.1 in
    let longest = c.args.self.now.longest.items in
    let told = subst (λ (ns : List Node). AreStates ns c.args.text.now c.in_ok-found.found.items) c.as_slice.ensures.value c.in_ok-found.ensures in
    let here = slice_get_read c.loop-i.found.items (length c.loop-i.found.items) c.loop-i.i c.index.result.now refl (omega arith) c.index.ensures in
    let within = turned_within c.args.self.now.nodes.items c.args.text.now c.in_ok-found.found.items longest c.loop-i.found.items c.loop-i.i c.index.result.now index.trie told c.loop-i.invariant here in
    one_turned c.in_ok-found.found.items longest c.loop-i.found.items c.loop-i.i (c.loop-i.i + 1) c.index.result.now c.index-in-loop-i.result.now (omega arith) here
    (slice_get_read longest (length longest) c.index.result.now c.index-in-loop-i.result.now refl (omega (arith, within, index.size)) c.index-in-loop-i.ensures) c.loop-i.invariant

pub returns-clause-each : goal.returns-clause-each
returns-clause-each c = λ keys index.
    let told = subst (λ (ns : List Node). AreStates ns c.args.text.now c.in_ok-found.found.items) c.as_slice.ensures.value c.in_ok-found.ensures in
    all_turned keys c.args.self.now.nodes.items c.args.self.now.ends.items c.args.self.now.longest.items c.args.text.now c.in_ok-found.found.items c.loop-i.found.items c.loop-i.i
    index.ends index.longest told (omega (arith, c.loop-i-test.false)) c.loop-i.invariant
