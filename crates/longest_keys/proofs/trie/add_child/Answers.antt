use Rattle.std.proofs.Common.{refl, arith, length}
use Rattle.std.proofs.lemmas.Option.{slice_get_read}
use Rattle.longest_keys.proofs.TrieLemmas.{add_done}
use Rattle.longest_keys.proofs.trie.add_child.Goals as goal

pub returns : goal.returns
returns c =
    add_done c.args.nodes.now.items c.push.new.self.items c.args.at c.args.byte c.len-child.result c.index.result.now c.index_mut.result.now c.requires.trie c.requires.none
    (omega arith) (slice_get_read c.args.nodes.now.items (length c.args.nodes.now.items) c.args.at c.index.result.now refl c.requires.within c.index.ensures) c.in_ok-push.ensures.items
    (slice_get_read c.push.new.self.items (length c.push.new.self.items) c.args.at c.index_mut.result.now refl (omega arith) c.index_mut.ensures.value)
