use Rattle.std.proofs.Common.{◌≡◌, ◌++◌, ◌∷◌, [], ◌∙◌, ap, arith, sym, subst, All, List, length}
use Rattle.std.proofs.lemmas.List.Elements.{All-nil, All-cons, All-append}
use Rattle.book_lock.specs.declared.tests.Ledger.{Ledger}
use Rattle.book_lock.specs.Standing.{Standing}
use Rattle.book_lock.specs.Closing.{IsFree}
use Rattle.book_lock.proofs.Prefixes.{All-left}
use Rattle.book_lock.proofs.Callers.{count_on, count_none, count_split}
use Rattle.book_lock.proofs.tests.doubled.Goals as goal

pub loop-pass-init : goal.loop-pass-init
loop-pass-init g c = record {
  free = c.requires.free;
  next = subst (All (IsFree c.args.shared.now)) (sym c.new-next.ensures.items) (All-nil (IsFree c.args.shared.now));
  all = λ row. omega (arith, c.requires.all row, ap (count_on row) c.new-next.ensures.items);
}

pub loop-pass-preserved : goal.loop-pass-preserved
loop-pass-preserved g c =
    let Free = IsFree c.args.shared.now in
    let (elder, younger) = c.halves-elder.result in
    let next = c.loop-pass.next.items in
    let items : c.push-in-Some.new.passes.items ≡ (next ++ younger ∷ []) ++ elder ∷ [] = c.push-in-Some.ensures ∙ ap (λ (l : List (Standing Ledger)). l ++ elder ∷ []) c.push.ensures in
    record {
      free = All-left Free c.pop.new.self.items (c.in-Some.pass ∷ []) (subst (All Free) c.in-Some.ensures.items c.loop-pass.invariant.free);
      next = subst (All Free) (sym items)
          (All-append Free (next ++ younger ∷ []) (elder ∷ []) (All-append Free next (younger ∷ []) c.loop-pass.invariant.next (All-cons Free younger [] c.halves-elder.ensures.younger (All-nil Free)))
          (All-cons Free elder [] c.halves-elder.ensures.elder (All-nil Free)));
      all = λ row.
          count_split row c.loop-pass.passes.items c.pop.new.self.items next c.push-in-Some.new.passes.items c.in-Some.pass elder younger c.in-Some.ensures.items items c.halves-elder.ensures.both (c.loop-pass.invariant.all row);
    }

pub returns-clause-all : goal.returns-clause-all
returns-clause-all g c row =
    let none : length c.loop-pass.passes.items ≡ 0 = omega (arith, c.in_default.ensures.cases, c.loop-pass.passes.ok) in
    omega (arith, count_none row c.loop-pass.passes.items none, c.loop-pass.invariant.all row)
