use Rattle.std.proofs.Common.{◌≤◌, List, length, get_or, subst, sym, arith}
use Rattle.book_lock.specs.Standing.{Standing}
use Rattle.book_lock.specs.Closing.{AreAll, IsFree, Settled}
use Rattle.book_lock.proofs.Pairs.{one_left, some_there}
use Rattle.book_lock.proofs.shared.Shared.close.Goals as goal

pub loop-self-init : goal.loop-self-init
loop-self-init g c = record {
  some = omega (arith, some_there c.args.passes.items c.requires.all, c.args.passes.ok);
  free = c.requires.free;
  all = c.requires.all;
  settled = λ value s. s;
}

pub finish-requires-clause-free : goal.finish-requires-clause-free
finish-requires-clause-free g c =
    let short : length c.loop-self.passes.items ≤ 1 = omega (arith, c.loop-self-test.false, c.loop-self.passes.ok) in
    let one = one_left c.loop-self.passes.items c.pop.new.self.items c.pop.result c.unwrap-pass.result c.pop.ensures.items c.unwrap-pass.ensures short in
    subst (λ (l : List (Standing g.row.T.Denot)). IsFree c.args.self (get_or l 0 c.unwrap-pass.result)) one (c.loop-self.invariant.free 0 c.unwrap-pass.result (omega (arith, c.loop-self.invariant.some, c.loop-self.passes.ok)))

pub finish-requires-clause-all : goal.finish-requires-clause-all
finish-requires-clause-all g c =
    let short : length c.loop-self.passes.items ≤ 1 = omega (arith, c.loop-self-test.false, c.loop-self.passes.ok) in
    let one = one_left c.loop-self.passes.items c.pop.new.self.items c.pop.result c.unwrap-pass.result c.pop.ensures.items c.unwrap-pass.ensures short in
    subst AreAll one c.loop-self.invariant.all

pub returns : goal.returns
returns g c =
    let short : length c.loop-self.passes.items ≤ 1 = omega (arith, c.loop-self-test.false, c.loop-self.passes.ok) in
    let one = one_left c.loop-self.passes.items c.pop.new.self.items c.pop.result c.unwrap-pass.result c.pop.ensures.items c.unwrap-pass.ensures short in
    c.loop-self.invariant.settled c.finish.result
    (subst (λ (l : List (Standing g.row.T.Denot)). Settled g.T.Chronicle.list g.T.Chronicle.origin c.args.self.opening l c.finish.result) (sym one) c.finish.ensures)
