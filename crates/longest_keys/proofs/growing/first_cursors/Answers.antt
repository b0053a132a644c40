use Rattle.std.proofs.Common.{◌∙◌, ◌+◌, List, [], map, get_or, Some, ap, sym, subst, arith}
use Rattle.std.proofs.lemmas.List.{length-map}
use Rattle.longest_keys.specs.declared.growing.Cursor.{Cursor}
use Rattle.longest_keys.proofs.FirstCursors.{AreFirstOf, empty_first, more_first, all_first}
use Rattle.longest_keys.proofs.GrowLemmas.{key_there}
use Rattle.longest_keys.proofs.Lists.{none_told, some_told}
use Rattle.longest_keys.proofs.growing.first_cursors.Goals as goal

pub loop-key-preserved-then-is_empty : goal.loop-key-preserved-then-is_empty
loop-key-preserved-then-is_empty c =
    let key = get_or c.args.keys.now c.loop-key.key (record { ref_ptr = (0, 0); now = [] }) in
    empty_first (map (λ k. k.now) c.args.keys.now) c.loop-key.key _ c.loop-key.cursors.items (omega arith)
    (key_there c.args.keys.now c.loop-key.key _ c.loop-key-test.true ∙ ap Some (none_told key.now c.is_empty.result c.is_empty.ensures c.if-is_empty.true)) c.loop-key.invariant

pub loop-key-preserved : goal.loop-key-preserved
loop-key-preserved c =
    let key = get_or c.args.keys.now c.loop-key.key (record { ref_ptr = (0, 0); now = [] }) in
    subst (λ (cs : List Cursor). AreFirstOf (map (λ k. k.now) c.args.keys.now) (c.loop-key.key + 1) cs) (sym c.in_ok-push.ensures.items)
    (more_first (map (λ k. k.now) c.args.keys.now) c.loop-key.key _ key.now c.loop-key.cursors.items (omega arith) (key_there c.args.keys.now c.loop-key.key _ c.loop-key-test.true)
    (some_told key.now c.is_empty.result c.is_empty.ensures c.if-is_empty.false) c.loop-key.invariant)

pub returns : goal.returns
returns c = all_first (map (λ k. k.now) c.args.keys.now) c.loop-key.key c.loop-key.cursors.items (omega (arith, length-map c.args.keys.now (λ k. k.now), c.loop-key-test.false)) c.loop-key.invariant
