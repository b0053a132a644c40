use Rattle.std.proofs.Common.{◌≡◌, ℕ, suc, List, [], ◌∷◌, length, Some, sym, subst, ap, arith, length-append}
use Rattle.std.specs.List.{slice_get}
use Rattle.longest_keys.specs.Finders.{IsNumbered}
use Rattle.longest_keys.proofs.FinderLemmas.{more_numbers}
use Rattle.longest_keys.proofs.finder.longest_of.Goals as goal

pub loop-i-preserved : goal.loop-i-preserved
loop-i-preserved c =
    let numbers : List ℕ = c.loop-i.longest.items in
    let x : ℕ = c.number_of-number.result in
    let told = c.number_of-number.ensures in
    let mine = subst (λ (ns : List ℕ). (n : ℕ) → slice_get c.args.own.now (length ns) ≡ Some (suc n) → x ≡ suc n) c.as_slice.ensures.value told.mine in
    let led = subst (λ (ns : List ℕ). slice_get c.args.own.now (length ns) ≡ Some 0 → (f : ℕ) → slice_get c.args.fails.now (length ns) ≡ Some f → slice_get ns f ≡ Some x) c.as_slice.ensures.value told.led in (
      omega (arith, c.loop-i.invariant.0, ap length c.in_ok-push-2.ensures.items, length-append numbers (x ∷ [])),
      λ i. subst (λ (ns : List ℕ). IsNumbered c.args.own.now c.args.fails.now ns i) (sym c.in_ok-push-2.ensures.items)
          (more_numbers c.args.own.now c.args.fails.now numbers x c.requires.earlier mine (λ none some f there. led none f there) (λ none end. absurd (omega (arith, end, c.loop-i.invariant.0, c.loop-i.auto.i)))
          c.loop-i.invariant.1 i),
    )
