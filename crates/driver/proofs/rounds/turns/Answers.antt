-- The turns so far and the last one, and the work that they have spent.
use Rattle.std.proofs.Common.{arith, refl, subst, sym, ℕ, ◌+◌, ◌∙◌, ◌≡◌}
use Rattle.book.specs.Quiet.{page}
use Rattle.driver.proofs.Leavings.{leaves_begun, leaves_on}
use Rattle.driver.proofs.Resting.{no_work_idle, still_busy}
use Rattle.driver.proofs.Spending.{made_within, none_left, none_spent, spend_turned}
use Rattle.driver.proofs.Stills.{halts_fault, sound_still}
use Rattle.driver.proofs.Turning.{broken_off, failed_off, idle_all, none_so_far, one_more, rested, so_at, tired_out, worn_out}
use Rattle.driver.proofs.rounds.turns.Goals as goal

pub loop-made-init : goal.loop-made-init
loop-made-init g c = record {
  so = none_so_far _;
  spent = λ sound. none_spent _ _ (g.met.P.Provider.lawful c.args.book.now.cloud).few;
  live = refl;
  same = record { opening = refl; origin = refl };
  halt = refl;
  faults = omega arith;
  number = omega arith;
  leaves = λ none tells. leaves_begun g.K.Keeper.shown g.P.Provider.cloud _ c.args.book.now
      (g.met.K.Keeper.lawful c.args.book.now.keeper) c.promises.ensures.run c.promises.ensures.held none tells;
}

pub returns-in_default-clause-ran : goal.returns-in_default-clause-ran
returns-in_default-clause-ran g c = rested c.args.n _ _ c.loop-made.made _ c.loop-made.invariant.so
    (omega (arith, c.loop-made-test.true))
    (c.in_default.ensures.none refl)

pub returns-in_default-clause-within : goal.returns-in_default-clause-within
returns-in_default-clause-within g c = λ sound w m full is.
    let le = made_within _ _ c.loop-made.made _ _ w (c.loop-made.invariant.spent sound) full in
    let same : c.loop-made.made ≡ m = cc in
    omega (arith, le, same)

pub returns-in_default-clause-settled : goal.returns-in_default-clause-settled
returns-in_default-clause-settled g c = λ sound m is. c.in_default.ensures.settled refl
    (sound_still g.P.Provider.cloud _ _ c.loop-made.invariant.same sound)

pub returns-in-Worn-clause-ran : goal.returns-in-Worn-clause-ran
returns-in-Worn-clause-ran g c =
    worn_out _ c.loop-made.made _ _ _ _ c.loop-made.invariant.so c.in-Some.ensures.some c.args.n
    c.loop-made-test.true _ c.turn.ensures.turned c.in-Worn.is

pub returns-in-Memory-clause-ran : goal.returns-in-Memory-clause-ran
returns-in-Memory-clause-ran g c =
    broken_off _ c.loop-made.made _ _ _ _ c.loop-made.invariant.so c.in-Some.ensures.some c.args.n
    c.loop-made-test.true _ c.turn.ensures.turned c.in-Memory.is

pub returns-in-DiskFault-clause-ran : goal.returns-in-DiskFault-clause-ran
returns-in-DiskFault-clause-ran g c =
    failed_off _ c.loop-made.made _ _ _ _ c.loop-made.invariant.so c.in-Some.ensures.some c.args.n
    c.loop-made-test.true _ c.turn.ensures.turned c.in-DiskFault.is

pub returns-in-DiskFault-clause-halt : goal.returns-in-DiskFault-clause-halt
returns-in-DiskFault-clause-halt g c = halts_fault _ _ _ _ c.loop-made.invariant.faults c.turn.ensures.halt
    c.in-DiskFault.is

pub loop-made-preserved : goal.loop-made-preserved
loop-made-preserved g c = record {
  so = so_at _ _ (c.loop-made.made + 1) _ _ c.get-last.ensures.value
      (one_more _ c.loop-made.made _ _ _ _ c.loop-made.invariant.so c.in-Some.ensures.some _ c.turn.ensures.turned
      c.in-Stepped.is);
  spent = λ sound. spend_turned _ _ c.loop-made.made _ _ _ _ (c.loop-made.invariant.spent sound)
      (c.next_engine.ensures.sound (sound_still g.P.Provider.cloud _ _ c.loop-made.invariant.same sound)).standing
      (g.met.P.Provider.lawful c.turn.new.self.cloud).few c.turn.ensures.turned c.in-Stepped.is;
  live = c.turn.ensures.live ∙ c.loop-made.invariant.live;
  same = record {
    opening = c.turn.ensures.same.opening ∙ c.loop-made.invariant.same.opening;
    origin = c.turn.ensures.same.origin ∙ c.loop-made.invariant.same.origin;
  };
  halt = c.turn.ensures.halt.same (λ f. let both = sym c.in-Stepped.is ∙ f in cc) ∙ c.loop-made.invariant.halt;
  faults = (let le = c.loop-made.invariant.faults in let more = c.turn.ensures.halt.later in omega (arith, le, more));
  number = (let is = c.get-last.ensures.value in let range = c.get-last.ensures.range in omega (arith, is, range.1));
  leaves = λ none. leaves_on g.K.Keeper.shown g.P.Provider.cloud _ c.loop-made.book c.turn.new.self _ _
      c.loop-made.invariant.same c.loop-made.invariant.so.entries (c.loop-made.invariant.leaves none)
      c.next_engine.ensures.run c.next_engine.ensures.held c.turn.ensures.turned
      (c.turn.ensures.records (c.loop-made.invariant.halt ∙ none));
}

pub returns-in-Some-next_engine-clause-ran : goal.returns-in-Some-next_engine-clause-ran
returns-in-Some-next_engine-clause-ran g c = tired_out c.args.n _ _ c.loop-made.made _ c.loop-made.invariant.so
    (omega (arith, c.loop-made-test.false, c.loop-made.auto.made-end))
    (still_busy _ _ _ c.in-Some-next_engine.ensures.some)

pub returns-in-Some-next_engine-clause-enough : goal.returns-in-Some-next_engine-clause-enough
returns-in-Some-next_engine-clause-enough g c = λ sound w m full le is.
    still_busy _ _ _ c.in-Some-next_engine.ensures.some
    (no_work_idle _ _
    (c.next_engine-2.ensures.sound (sound_still g.P.Provider.cloud _ _ c.loop-made.invariant.same sound)).standing
    (none_left _ _ c.loop-made.made _ _ w (c.loop-made.invariant.spent sound) full
    (omega (arith, le, c.loop-made-test.false, c.loop-made.auto.made-end))))

pub returns-in-None-clause-ran : goal.returns-in-None-clause-ran
returns-in-None-clause-ran g c =
    let all : c.loop-made.made ≡ c.args.n = omega (arith, c.loop-made-test.false, c.loop-made.auto.made-end) in
    idle_all c.args.n c.loop-made.made _ _ all
    (rested c.args.n _ _ c.loop-made.made _ c.loop-made.invariant.so (omega (arith, all)) (c.in-None.ensures.none refl))

pub returns-in-None-clause-within : goal.returns-in-None-clause-within
returns-in-None-clause-within g c = λ sound w m full is.
    let le = made_within _ _ c.loop-made.made _ _ w (c.loop-made.invariant.spent sound) full in
    let same : c.args.n ≡ m = cc in
    omega (arith, le, same, c.loop-made-test.false, c.loop-made.auto.made-end)

pub returns-in-None-clause-settled : goal.returns-in-None-clause-settled
returns-in-None-clause-settled g c = λ sound m is. c.in-None.ensures.settled refl
    (sound_still g.P.Provider.cloud _ _ c.loop-made.invariant.same sound)

pub returns-in-Worn-clause-leaves : goal.returns-in-Worn-clause-leaves
returns-in-Worn-clause-leaves g c = λ none. leaves_on g.K.Keeper.shown g.P.Provider.cloud _ c.loop-made.book
    c.turn.new.self _ _ c.loop-made.invariant.same c.loop-made.invariant.so.entries (c.loop-made.invariant.leaves none)
    c.next_engine.ensures.run c.next_engine.ensures.held c.turn.ensures.turned
    (c.turn.ensures.records (c.loop-made.invariant.halt ∙ none))

pub returns-in-Memory-clause-leaves : goal.returns-in-Memory-clause-leaves
returns-in-Memory-clause-leaves g c = λ none. leaves_on g.K.Keeper.shown g.P.Provider.cloud _ c.loop-made.book
    c.turn.new.self _ _ c.loop-made.invariant.same c.loop-made.invariant.so.entries (c.loop-made.invariant.leaves none)
    c.next_engine.ensures.run c.next_engine.ensures.held c.turn.ensures.turned
    (c.turn.ensures.records (c.loop-made.invariant.halt ∙ none))

pub returns-in-DiskFault-clause-leaves : goal.returns-in-DiskFault-clause-leaves
returns-in-DiskFault-clause-leaves g c = λ none. leaves_on g.K.Keeper.shown g.P.Provider.cloud _ c.loop-made.book
    c.turn.new.self _ _ c.loop-made.invariant.same c.loop-made.invariant.so.entries (c.loop-made.invariant.leaves none)
    c.next_engine.ensures.run c.next_engine.ensures.held c.turn.ensures.turned
    (c.turn.ensures.records (c.loop-made.invariant.halt ∙ none))
