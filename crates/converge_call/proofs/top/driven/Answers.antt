-- A book that was just opened is handed back as it was driven.
use Rattle.std.proofs.Common.{◌≡◌, subst, map}
use Rattle.driver.specs.Kept.{IsSameBook, Shown}
use Rattle.driver.specs.Scenes.{scene_of}
use Rattle.converge_call.specs.Ends.{HasDriven, first_scene, outside}
use Rattle.converge_call.specs.Stocks.{first_stock}
use Rattle.converge_call.proofs.Answering.{never_usage}
use Rattle.converge_call.proofs.Handing.{as_driven, halted_not}
use Rattle.converge_call.proofs.top.driven.Goals as goal

pub returns-clause-status : goal.returns-clause-status
returns-clause-status g c = rw c.ended.ensures.status (never_usage _ _ _ _ _ _ _ _ _ c.drive-status.ensures.drove)

pub returns-clause-same : goal.returns-clause-same
returns-clause-same g c b is =
    let same : c.drive-status.new.book ≡ b = (let both = c.ended.ensures.end in cc) in
    subst (λ (x : Shown _ _). IsSameBook c.args.book x) same c.drive-status.ensures.carries.same

pub returns-clause-driven : goal.returns-clause-driven
returns-clause-driven g c b is =
    let same : c.drive-status.new.book ≡ b = (let both = c.ended.ensures.end in cc) in
    rw c.ended.ensures.status (subst (λ (x : Shown _ _). HasDriven
    (first_stock (map (λ j. j.kind) c.args.registry.now.judges) (map (λ t. t.test) c.args.registry.now.customs))
    (g.K.Keeper.shown x.origin.keeper) (g.K.Keeper.shown x.keeper) (first_scene g.P.Provider.cloud x)
    (scene_of g.P.Provider.cloud x) x.halt
    (outside (g.S.Source.left c.args.source.now) (g.S.Source.faults c.args.source.now)
    (g.W.Sink.holds c.args.sink.now) (g.W.Sink.faults c.args.sink.now) (g.K.Keeper.faults x.origin.keeper))
    (outside (g.S.Source.left c.drive-status.new.source) (g.S.Source.faults c.drive-status.new.source)
    (g.W.Sink.holds c.drive-status.new.sink) (g.W.Sink.faults c.drive-status.new.sink)
    (g.K.Keeper.faults x.keeper)) c.drive-status.result) same
    (as_driven g.K.Keeper.shown g.K.Keeper.faults g.P.Provider.cloud _ c.args.book c.drive-status.new.book
    (record {
      state = c.requires.state;
      entries = c.requires.entries;
      keeper = c.requires.keeper;
      unhalted = c.requires.unhalted;
      stands = c.promises.ensures.held.stands (halted_not _ c.requires.unhalted);
    })
    c.drive-status.ensures.carries (g.K.Keeper.may_open c.args.book.keeper) (g.met.K.Keeper.lawful c.args.book.keeper)
    c.ended.ensures.promises _ _ _ _ _ _ _ _ c.drive-status.result c.drive-status.ensures.drove
    c.drive-status.ensures.read c.drive-status.ensures.write c.drive-status.ensures.short))
