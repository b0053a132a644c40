-- The words say how many engines there are, or nothing is opened for them.
use Rattle.std.proofs.Common.{◌∙◌, ap, subst, ℕ}
use Rattle.converge_call.specs.declared.setup.Setup.{Setup}
use Rattle.converge_call.specs.Ends.{AsksFor, OpensWith, by_memory, by_words}
use Rattle.converge_call.proofs.Handing.{around_same, asked_more}
use Rattle.converge_call.proofs.top.converge.Goals as goal

pub returns-in-Ok-clause-unopened : goal.returns-in-Ok-clause-unopened
returns-in-Ok-clause-unopened g c k p is =
    asked_more g.K.Keeper.may_open g.K.Keeper.shown g.K.Keeper.faults g.P.Provider.cloud _ (AsksFor c.args.words.now) _ _
    _ (λ n its. record {
      mode = c.in-Ok.mode;
      form = c.in-Ok.ensures.ok;
      its = its ∙ ap (λ (s : Setup). s.workers) c.setup-setup.ensures;
    }) (c.run_serial.ensures.unopened k p is)

pub returns-in-Ok-clause-opened : goal.returns-in-Ok-clause-opened
returns-in-Ok-clause-opened g c b is = record {
  mode = c.in-Ok.mode;
  form = c.in-Ok.ensures.ok;
  opens = subst (λ (n : ℕ). OpensWith (g.K.Keeper.may_open c.args.keeper) n (g.K.Keeper.shown c.args.keeper)
      (g.K.Keeper.shown b.origin.keeper) (g.K.Keeper.faults c.args.keeper) (g.K.Keeper.faults b.origin.keeper)
      (g.P.Provider.cloud c.args.cloud) (g.P.Provider.cloud b.origin.cloud) b.opening) (ap (λ (s : Setup). s.workers) c.setup-setup.ensures)
      (c.run_serial.ensures.opened b is);
}

pub returns-in-Err-Usage-clause-unopened : goal.returns-in-Err-Usage-clause-unopened
returns-in-Err-Usage-clause-unopened g c k p is = by_words c.unopened.ensures.status
    (around_same _ _ _ _ (let both = c.unopened.ensures.end in cc) (let both = c.unopened.ensures.end in cc))

pub returns-in-Err-Memory-clause-unopened : goal.returns-in-Err-Memory-clause-unopened
returns-in-Err-Memory-clause-unopened g c k p is = by_memory c.unopened-in-Err-Memory.ensures.status
    (around_same _ _ _ _ (let both = c.unopened-in-Err-Memory.ensures.end in cc) (let both = c.unopened-in-Err-Memory.ensures.end in cc))
