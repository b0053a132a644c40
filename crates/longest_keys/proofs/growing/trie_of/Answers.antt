use Rattle.std.proofs.Common.{◌≤◌, map, length, arith}
use Rattle.std.proofs.lemmas.List.{length-map}
use Rattle.std.proofs.lemmas.List.Elements.{All-map, All-weaker}
use Rattle.longest_keys.proofs.GrowLemmas.{first_read, level_done, all_read}
use Rattle.longest_keys.proofs.growing.trie_of.Goals as goal

pub loop-depth-init : goal.loop-depth-init
loop-depth-init c =
    first_read (map (λ k. k.now) c.args.keys.now) c.in_ok-cursors.cursors.items c.in_ok-nodes.nodes.items c.in_ok-ends.ends.items c.in_ok-nodes.ensures
    (omega (arith, c.in_ok-ends.ensures.size, length-map c.args.keys.now (λ k. k.now))) c.in_ok-ends.ensures.zeros c.in_ok-cursors.ensures

pub loop-depth-preserved : goal.loop-depth-preserved
loop-depth-preserved c = level_done (map (λ k. k.now) c.args.keys.now) c.loop-depth.depth _ _ _ _ (omega arith) c.in_ok-cursors-2.ensures

pub returns : goal.returns
returns c = record {
  trie = c.loop-depth.invariant.trie;
  leveled = c.loop-depth.invariant.leveled;
  ends = all_read (map (λ k. k.now) c.args.keys.now) c.loop-depth.depth c.loop-depth.cursors.items c.loop-depth.nodes.items c.loop-depth.ends.items
      (All-map (λ k. length k ≤ c.loop-depth.depth) (λ k. k.now) c.args.keys.now
      (All-weaker (λ k. length k.now ≤ c.longest_len-depth-end.result) (λ k. length k.now ≤ c.loop-depth.depth) (λ k h. omega (arith, h, c.loop-depth-test.false)) c.args.keys.now c.longest_len-depth-end.ensures))
      c.loop-depth.invariant;
}
