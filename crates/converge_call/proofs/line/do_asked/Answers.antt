-- What is done for each line that is asked.
use Rattle.std.proofs.Common.{refl, Ok}
use Rattle.converge_call.proofs.Carrying.{carries_none}
use Rattle.converge_call.proofs.Lining.{asked_as, halts_as, kinds_as, kinds_stay}
use Rattle.converge_call.proofs.Noting.{nothing_to_do}
use Rattle.converge_call.proofs.line.do_asked.Goals as goal

pub returns-in-Blank-clause-done : goal.returns-in-Blank-clause-done
returns-in-Blank-clause-done g c =
    asked_as _ _ _ c.args.number _ _ _ _ _ c.args.asked _ _ _ c.in-Blank.is (λ es does. does) (λ es why breaks. breaks)
    (nothing_to_do _ _ _ refl refl)

pub returns-in-Create-clause-done : goal.returns-in-Create-clause-done
returns-in-Create-clause-done g c =
    asked_as _ _ _ c.args.number _ _ _ _ _ c.args.asked _ _ _ c.in-Create.is (λ es does. does)
    (λ es why breaks. breaks) c.create.ensures.done

pub returns-in-Update-clause-done : goal.returns-in-Update-clause-done
returns-in-Update-clause-done g c =
    asked_as _ _ _ c.args.number _ _ _ _ _ c.args.asked _ _ _ c.in-Update.is (λ es does. does)
    (λ es why breaks. breaks) c.update.ensures.done

pub returns-in-Delete-clause-done : goal.returns-in-Delete-clause-done
returns-in-Delete-clause-done g c =
    asked_as _ _ _ c.args.number _ _ _ _ _ c.args.asked _ _ _ c.in-Delete.is (λ es does. does)
    (λ es why breaks. breaks) c.order.ensures.done

pub returns-in-Cancel-clause-done : goal.returns-in-Cancel-clause-done
returns-in-Cancel-clause-done g c =
    asked_as _ _ _ c.args.number _ _ _ _ _ c.args.asked _ _ _ c.in-Cancel.is (λ es does. does)
    (λ es why breaks. breaks) c.order-in-Cancel.ensures.done

pub returns-in-Status-clause-done : goal.returns-in-Status-clause-done
returns-in-Status-clause-done g c =
    asked_as _ _ _ c.args.number _ _ _ _ _ c.args.asked _ _ _ c.in-Status.is (λ es does. does)
    (λ es why breaks. breaks) c.show.ensures.done

pub returns-in-Resources-clause-done : goal.returns-in-Resources-clause-done
returns-in-Resources-clause-done g c =
    asked_as _ _ _ c.args.number _ _ _ _ _ c.args.asked _ _ _ c.in-Resources.is (λ es does. does)
    (λ es why breaks. breaks) c.show-in-Resources.ensures.done

pub returns-in-Outputs-clause-done : goal.returns-in-Outputs-clause-done
returns-in-Outputs-clause-done g c =
    asked_as _ _ _ c.args.number _ _ _ _ _ c.args.asked _ _ _ c.in-Outputs.is (λ es does. does)
    (λ es why breaks. breaks) c.outputs.ensures.done

pub returns-in-Run-clause-done : goal.returns-in-Run-clause-done
returns-in-Run-clause-done g c =
    asked_as _ _ _ c.args.number _ _ _ _ _ c.args.asked _ _ _ c.in-Run.is (λ es does. does)
    (λ es why breaks. breaks) c.run.ensures.done

pub returns-in-Turn-clause-done : goal.returns-in-Turn-clause-done
returns-in-Turn-clause-done g c =
    asked_as _ _ _ c.args.number _ _ _ _ _ c.args.asked _ _ _ c.in-Turn.is (λ es does. does)
    (λ es why breaks. breaks) c.turn.ensures.done

pub returns-in-Stop-clause-done : goal.returns-in-Stop-clause-done
returns-in-Stop-clause-done g c =
    asked_as _ _ _ c.args.number _ _ _ _ _ c.args.asked _ _ _ c.in-Stop.is (λ es does. does)
    (λ es why breaks. breaks) c.stop.ensures.done

pub returns-in-Start-clause-done : goal.returns-in-Start-clause-done
returns-in-Start-clause-done g c =
    asked_as _ _ _ c.args.number _ _ _ _ _ c.args.asked _ _ _ c.in-Start.is (λ es does. does)
    (λ es why breaks. breaks) c.start.ensures.done

pub returns-in-Types-clause-done : goal.returns-in-Types-clause-done
returns-in-Types-clause-done g c =
    asked_as _ _ _ c.args.number _ _ _ _ _ c.args.asked _ _ _ c.in-Types.is (λ es does. does)
    (λ es why breaks. breaks) (c.types.ensures.done _)

pub returns-in-Restart-clause-done : goal.returns-in-Restart-clause-done
returns-in-Restart-clause-done g c =
    asked_as _ _ _ c.args.number _ _ _ _ _ c.args.asked _ _ _ c.in-Restart.is (λ es does. does)
    (λ es why breaks. breaks) c.restart.ensures.done

pub returns-in-Blank-clause-kinds : goal.returns-in-Blank-clause-kinds
returns-in-Blank-clause-kinds g c =
    kinds_as (Ok tt) c.args.asked _ c.args.catalog.now c.args.catalog.now c.in-Blank.is refl

pub returns-in-Create-clause-kinds : goal.returns-in-Create-clause-kinds
returns-in-Create-clause-kinds g c = kinds_as _ c.args.asked _ _ _ c.in-Create.is (kinds_stay _ _)

pub returns-in-Update-clause-kinds : goal.returns-in-Update-clause-kinds
returns-in-Update-clause-kinds g c = kinds_as _ c.args.asked _ _ _ c.in-Update.is (kinds_stay _ _)

pub returns-in-Delete-clause-kinds : goal.returns-in-Delete-clause-kinds
returns-in-Delete-clause-kinds g c = kinds_as _ c.args.asked _ _ _ c.in-Delete.is (kinds_stay _ _)

pub returns-in-Cancel-clause-kinds : goal.returns-in-Cancel-clause-kinds
returns-in-Cancel-clause-kinds g c = kinds_as _ c.args.asked _ _ _ c.in-Cancel.is (kinds_stay _ _)

pub returns-in-Status-clause-kinds : goal.returns-in-Status-clause-kinds
returns-in-Status-clause-kinds g c = kinds_as _ c.args.asked _ _ _ c.in-Status.is (kinds_stay _ _)

pub returns-in-Resources-clause-kinds : goal.returns-in-Resources-clause-kinds
returns-in-Resources-clause-kinds g c = kinds_as _ c.args.asked _ _ _ c.in-Resources.is (kinds_stay _ _)

pub returns-in-Outputs-clause-kinds : goal.returns-in-Outputs-clause-kinds
returns-in-Outputs-clause-kinds g c = kinds_as _ c.args.asked _ _ _ c.in-Outputs.is (kinds_stay _ _)

pub returns-in-Run-clause-kinds : goal.returns-in-Run-clause-kinds
returns-in-Run-clause-kinds g c = kinds_as _ c.args.asked _ _ _ c.in-Run.is (kinds_stay _ _)

pub returns-in-Turn-clause-kinds : goal.returns-in-Turn-clause-kinds
returns-in-Turn-clause-kinds g c = kinds_as _ c.args.asked _ _ _ c.in-Turn.is (kinds_stay _ _)

pub returns-in-Stop-clause-kinds : goal.returns-in-Stop-clause-kinds
returns-in-Stop-clause-kinds g c = kinds_as _ c.args.asked _ _ _ c.in-Stop.is (kinds_stay _ _)

pub returns-in-Start-clause-kinds : goal.returns-in-Start-clause-kinds
returns-in-Start-clause-kinds g c = kinds_as _ c.args.asked _ _ _ c.in-Start.is (kinds_stay _ _)

pub returns-in-Types-clause-kinds : goal.returns-in-Types-clause-kinds
returns-in-Types-clause-kinds g c = kinds_as _ c.args.asked _ _ _ c.in-Types.is c.types.ensures.kinds

pub returns-in-Restart-clause-kinds : goal.returns-in-Restart-clause-kinds
returns-in-Restart-clause-kinds g c = kinds_as _ c.args.asked _ _ _ c.in-Restart.is (kinds_stay _ _)

pub returns-in-Blank-clause-carries : goal.returns-in-Blank-clause-carries
returns-in-Blank-clause-carries g c = carries_none g.K.Keeper.shown g.P.Provider.cloud c.args.book.now

pub returns-in-Blank-clause-halt : goal.returns-in-Blank-clause-halt
returns-in-Blank-clause-halt g c = halts_as _ _ (Ok tt) c.args.asked _ c.in-Blank.is (λ goes. goes)

pub returns-in-Create-clause-halt : goal.returns-in-Create-clause-halt
returns-in-Create-clause-halt g c = halts_as _ _ _ c.args.asked _ c.in-Create.is c.create.ensures.halt

pub returns-in-Update-clause-halt : goal.returns-in-Update-clause-halt
returns-in-Update-clause-halt g c = halts_as _ _ _ c.args.asked _ c.in-Update.is c.update.ensures.halt

pub returns-in-Delete-clause-halt : goal.returns-in-Delete-clause-halt
returns-in-Delete-clause-halt g c = halts_as _ _ _ c.args.asked _ c.in-Delete.is c.order.ensures.halt

pub returns-in-Cancel-clause-halt : goal.returns-in-Cancel-clause-halt
returns-in-Cancel-clause-halt g c = halts_as _ _ _ c.args.asked _ c.in-Cancel.is c.order-in-Cancel.ensures.halt

pub returns-in-Status-clause-halt : goal.returns-in-Status-clause-halt
returns-in-Status-clause-halt g c = halts_as _ _ _ c.args.asked _ c.in-Status.is c.show.ensures.halt

pub returns-in-Resources-clause-halt : goal.returns-in-Resources-clause-halt
returns-in-Resources-clause-halt g c = halts_as _ _ _ c.args.asked _ c.in-Resources.is c.show-in-Resources.ensures.halt

pub returns-in-Outputs-clause-halt : goal.returns-in-Outputs-clause-halt
returns-in-Outputs-clause-halt g c = halts_as _ _ _ c.args.asked _ c.in-Outputs.is c.outputs.ensures.halt

pub returns-in-Types-clause-halt : goal.returns-in-Types-clause-halt
returns-in-Types-clause-halt g c = halts_as _ _ _ c.args.asked _ c.in-Types.is c.types.ensures.halt

pub returns-in-Run-clause-halt : goal.returns-in-Run-clause-halt
returns-in-Run-clause-halt g c = halts_as _ _ _ c.args.asked _ c.in-Run.is c.run.ensures.halt

pub returns-in-Turn-clause-halt : goal.returns-in-Turn-clause-halt
returns-in-Turn-clause-halt g c = halts_as _ _ _ c.args.asked _ c.in-Turn.is c.turn.ensures.halt

pub returns-in-Stop-clause-halt : goal.returns-in-Stop-clause-halt
returns-in-Stop-clause-halt g c = halts_as _ _ _ c.args.asked _ c.in-Stop.is c.stop.ensures.halt

pub returns-in-Start-clause-halt : goal.returns-in-Start-clause-halt
returns-in-Start-clause-halt g c = halts_as _ _ _ c.args.asked _ c.in-Start.is c.start.ensures.halt

pub returns-in-Restart-clause-halt : goal.returns-in-Restart-clause-halt
returns-in-Restart-clause-halt g c = halts_as _ _ _ c.args.asked _ c.in-Restart.is c.restart.ensures.halt
