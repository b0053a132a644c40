use Rattle.std.proofs.Common.{◌≡◌, ◌<◌, ◌-◌, ℕ, suc, length, get_or, refl, subst, arith, Bool, true, false, Some}
use Rattle.std.specs.List.{slice_get}
use Rattle.std.proofs.lemmas.List.{length-set}
use Rattle.std.proofs.lemmas.Option.{slice_get-get_or, slice_get_read}
use Rattle.longest_keys.specs.Marks.{HaveParts}
use Rattle.longest_keys.proofs.TrieLemmas.{has_text}
use Rattle.longest_keys.proofs.MarkLemmas.{fail_of_parts, fail_has_parts, no_mark_has_parts}
use Rattle.longest_keys.proofs.marking.mark_fails.Goals as goal

pub loop-left-preserved-then-index : goal.loop-left-preserved-then-index
loop-left-preserved-then-index c =
    let n : ℕ = c.loop-left.left - 1 in
    let whole : c.loop-left.left ≡ suc n = omega (arith, c.loop-left-test.true) in
    let within : n < length c.args.fails.now = omega (arith, whole, c.loop-left.invariant.0) in
    let marks = c.loop-left.marks.items in
    let f : ℕ = get_or c.args.fails.now n 0 in
    let there = slice_get-get_or c.args.fails.now n 0 within in
    let less = c.requires.earlier n f there in
    let at : slice_get marks n ≡ Some true = slice_get_read marks (length marks) n true refl (omega (arith, within, c.loop-left.invariant.1, c.requires.size)) (subst (λ (b : Bool). b ≡ get_or marks n b) c.if-index.true c.index.ensures) in (
      omega (arith, whole, c.loop-left.invariant.0),
      omega (arith, c.loop-left.invariant.1, length-set marks f true),
      λ nodes s trie are old. fail_of_parts nodes c.args.fails.now s marks n f trie are there at (has_text nodes n trie (omega (arith, within, are.within))) (c.loop-left.invariant.2 nodes s trie are old),
      λ nodes s trie are old. fail_has_parts nodes c.args.fails.now s marks n f trie are there (omega (arith, less, within, c.loop-left.invariant.1, c.requires.size))
          (subst (HaveParts nodes s marks) whole (c.loop-left.invariant.3 nodes s trie are old)),
    )

pub loop-left-preserved : goal.loop-left-preserved
loop-left-preserved c =
    let n : ℕ = c.loop-left.left - 1 in
    let whole : c.loop-left.left ≡ suc n = omega (arith, c.loop-left-test.true) in
    let marks = c.loop-left.marks.items in
    let within : n < length c.args.fails.now = omega (arith, whole, c.loop-left.invariant.0) in
    let none : slice_get marks n ≡ Some false = slice_get_read marks (length marks) n false refl (omega (arith, within, c.loop-left.invariant.1, c.requires.size)) (subst (λ (b : Bool). b ≡ get_or marks n b) c.if-index.false c.index.ensures) in (
      omega (arith, whole, c.loop-left.invariant.0),
      c.loop-left.invariant.1,
      c.loop-left.invariant.2,
      λ nodes s trie are old. no_mark_has_parts nodes s marks n none (subst (HaveParts nodes s marks) whole (c.loop-left.invariant.3 nodes s trie are old)),
    )

pub returns-clause-all : goal.returns-clause-all
returns-clause-all c =
    let end : c.loop-left.left ≡ 0 = omega (arith, c.loop-left-test.false) in
    λ nodes s trie are old. subst (HaveParts nodes s c.loop-left.marks.items) end (c.loop-left.invariant.3 nodes s trie are old)
