use Rattle.std.proofs.Common.{ℕ, List, ◌∙◌, ap, sym, arith}
use Rattle.std.proofs.lemmas.Option.{slice_get-get_or}
use Rattle.std.specs.List.{slice_get}
use Rattle.longest_keys.specs.Texts.{but_last}
use Rattle.longest_keys.specs.Tries.{Spells}
use Rattle.longest_keys.specs.Walks.{IsDeepest}
use Rattle.longest_keys.proofs.Lists.{got_at}
use Rattle.longest_keys.proofs.WalkLemmas.{fail_of_root, fail_of_parent, fail_earlier}
use Rattle.longest_keys.proofs.walking.fail_of.Goals as goal

pub after-requires-clause-within : goal.after-requires-clause-within
after-requires-clause-within c =
    let less = c.requires.fails.earlier c.parent_of-parent.result _ (slice_get-get_or c.args.fails.now c.parent_of-parent.result 0 (omega (arith, c.parent_of-parent.ensures.earlier, c.requires.next))) in
    omega (arith, less, c.parent_of-parent.ensures.earlier, c.requires.next)

pub returns-then-parent-eq0-clause-longest : goal.returns-then-parent-eq0-clause-longest
returns-then-parent-eq0-clause-longest c =
    let here = got_at c.args.nodes.now c.args.at c.requires.within in
    λ s h. fail_of_root c.args.nodes.now c.args.at here.0 s c.requires.trie (λ e. omega (arith, e, c.requires.some)) here.1
    (sym (c.parent_of-parent.ensures.parent here.0 here.1) ∙ c.if-parent-eq0.true) h

longest : (c : goal.After-after) → (s : List ℕ) → Spells c.args.nodes.now c.args.at s → IsDeepest c.args.nodes.now (but_last s) c.after.result
longest c =
    let there = slice_get-get_or c.args.nodes.now c.args.at _ c.requires.within in
    let parent = c.parent_of-parent.ensures.parent _ there in
    let fail = slice_get-get_or c.args.fails.now c.parent_of-parent.result 0 (omega (arith, c.parent_of-parent.ensures.earlier, c.requires.next)) in
    λ s h. fail_of_parent c.args.nodes.now c.args.fails.now c.args.at _ c.after.result _ s c.requires.trie c.requires.fails (λ e. omega (arith, e, c.requires.some)) there
    (λ e. c.if-parent-eq0.false (parent ∙ e)) (ap (λ (p : ℕ). slice_get c.args.fails.now p) (sym parent) ∙ fail) c.after.ensures.longest h

pub returns-else-parent-eq0-clause-earlier : goal.returns-else-parent-eq0-clause-earlier
returns-else-parent-eq0-clause-earlier c =
    fail_earlier c.args.nodes.now c.args.at c.after.result c.requires.trie c.requires.leveled c.requires.within (λ e. omega (arith, e, c.requires.some)) (longest c)

pub returns-else-parent-eq0-clause-longest : goal.returns-else-parent-eq0-clause-longest
returns-else-parent-eq0-clause-longest c = longest c
