use Rattle.std.proofs.Common.{◌∷◌, [], ◌++◌, refl}
use Rattle.std.proofs.lemmas.Result.{err_from_is_err_and}
use Rattle.heat_value.specs.Data.{words}
use Rattle.hot_strings.proofs.Sizes.{node_last-some}
use Rattle.hot_strings.proofs.Splits.{AreSplit-cons, split_exists, texts-push}
use Rattle.hot_strings.proofs.Passed.{LeadsTo-step, push_refused}
use Rattle.hot_strings.proofs.splitting.all_pieces.Goals as goal

pub returns-in_err-push-clause-err : goal.returns-in_err-push-clause-err
returns-in_err-push-clause-err c =
    let p = err_from_is_err_and c.from_residual.result c.from_residual.ensures.1 in
    let walk = c.loop-piece.invariant.1 in
    let more = split_exists c.args.delimiter.now c.in-Some.tail.now c.requires in
    let split = walk.2 (c.in-Some.piece.now ∷ more.0) (AreSplit-cons _ c.loop-piece.rest.now c.in-Some.piece.now c.in-Some.tail.now more.0 c.in-Some.ensures.parts more.1) in
    rw (p.1, p.2) (push_refused _ _ _ walk.0 c.in-Some.piece.now c.requires (more.0, split) (rw (← walk.1) c.in_err-push.ensures.err))

pub loop-piece-preserved : goal.loop-piece-preserved
loop-piece-preserved c =
    let walk = c.loop-piece.invariant.1 in (
      c.in-Some.ensures.utf8,
      (
        walk.0 ++ c.in-Some.piece.now ∷ [],
        rw (texts-push walk.0 c.in-Some.piece.now, ← walk.1) c.in_ok-push.ensures.ok,
        LeadsTo-step c.args.delimiter.now c.args.text.now walk.0 c.loop-piece.rest.now c.in-Some.piece.now c.in-Some.tail.now walk.2 c.in-Some.ensures.parts,
      ),
    )

pub returns-in_err-push-2-clause-err : goal.returns-in_err-push-2-clause-err
returns-in_err-push-2-clause-err c =
    let p = err_from_is_err_and c.from_residual-in_err-push-2.result c.from_residual-in_err-push-2.ensures.1 in
    let walk = c.loop-piece.invariant.1 in
    let split = walk.2 (c.loop-piece.rest.now ∷ []) (refl, c.in_default.ensures.parts) in
    rw (p.1, p.2) (push_refused _ _ _ walk.0 c.loop-piece.rest.now c.requires ([], split) (rw (← walk.1) c.in_err-push-2.ensures.err))

pub finish-requires : goal.finish-requires
finish-requires c = rw c.in_ok-push-2.ensures.ok (node_last-some c.loop-piece.pieces (words c.loop-piece.rest.now))

pub returns-clause-ok : goal.returns-clause-ok
returns-clause-ok c =
    let walk = c.loop-piece.invariant.1 in
    let split = walk.2 (c.loop-piece.rest.now ∷ []) (refl, c.in_default.ensures.parts) in
    (walk.0 ++ c.loop-piece.rest.now ∷ [], split, rw (c.finish.ensures.list, c.in_ok-push-2.ensures.ok, walk.1, ← (texts-push walk.0 c.loop-piece.rest.now)) refl)
