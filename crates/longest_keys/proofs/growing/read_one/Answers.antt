use Rattle.std.proofs.Common.{◌≡◌, ◌∙◌, ◌-◌, sym, map, refl, arith, subst, List, suc, []}
use Rattle.std.proofs.lemmas.Option.{slice_get_within}
use Rattle.longest_keys.specs.Growing.{IsRead}
use Rattle.longest_keys.specs.declared.growing.Cursor.{Cursor}
use Rattle.longest_keys.proofs.GrowLemmas.{first_cursor, byte_read, read_whole, read_further}
use Rattle.longest_keys.proofs.TrieLemmas.{spelled_within}
use Rattle.longest_keys.proofs.growing.read_one.Goals as goal

pub child_or_new-requires-clause-within : goal.child_or_new-requires-clause-within
child_or_new-requires-clause-within c =
    let read = c.requires.read.1 in
    let here = first_cursor _ c.args.depth c.args.cursor.now c.requires.read.0 c.args.next.now.items c.args.nodes.now.items c.args.ends.now.items read in
    spelled_within c.args.nodes.now.items c.args.cursor.now.node _ read.trie here.spelled

pub index_mut-requires : goal.index_mut-requires
index_mut-requires c =
    let read = c.requires.read.1 in
    let here = first_cursor _ c.args.depth c.args.cursor.now c.requires.read.0 c.args.next.now.items c.args.nodes.now.items c.args.ends.now.items read in
    omega (arith, read.size, slice_get_within _ c.args.cursor.now.key here.key here.there)

pub returns-then-left-eq0 : goal.returns-then-left-eq0
returns-then-left-eq0 c = λ rest read.
    let here = first_cursor (map (λ k. k.now) c.args.keys.now) c.args.depth c.args.cursor.now rest c.args.next.now.items c.args.nodes.now.items c.args.ends.now.items read in
    let told = byte_read c.args.keys.now _ c.args.depth _ c.args.cursor.now c.args.nodes.now.items here refl in
    read_whole (map (λ k. k.now) c.args.keys.now) c.args.depth c.args.cursor.now rest c.args.next.now.items c.args.nodes.now.items c.child_or_new.new.nodes.items c.args.ends.now.items
    c.in_ok-node.node _ read c.in_ok-node.ensures here told.1 (sym told.0 ∙ c.if-left-eq0.true)

pub returns-in_ok-push : goal.returns-in_ok-push
returns-in_ok-push c = λ rest read.
    let here = first_cursor (map (λ k. k.now) c.args.keys.now) c.args.depth c.args.cursor.now rest c.args.next.now.items c.args.nodes.now.items c.args.ends.now.items read in
    let told = byte_read c.args.keys.now (record { ref_ptr = (0, 0); now = [] }) c.args.depth _ c.args.cursor.now c.args.nodes.now.items here refl in
    let more : here.left ≡ suc (here.left - 1) = omega (arith, told.0, c.if-left-eq0.false) in
    subst (λ (cs : List Cursor). IsRead (map (λ k. k.now) c.args.keys.now) c.args.depth rest cs c.child_or_new.new.nodes.items c.args.ends.now.items) (sym c.in_ok-push.ensures.items)
    (read_further (map (λ k. k.now) c.args.keys.now) c.args.depth c.args.cursor.now rest c.args.next.now.items c.args.nodes.now.items c.child_or_new.new.nodes.items c.args.ends.now.items
    c.in_ok-node.node _ read c.in_ok-node.ensures here told.1 (here.left - 1) more)
