use Rattle.std.proofs.Common.{◌∷◌, [], ◌++◌, length-append, arith}
use Rattle.hot_strings.proofs.Passed.{LeadsTo-step, piece_there, last_there, none_there}
use Rattle.hot_strings.proofs.cutting.piece_at.Goals as goal

pub returns-then-left-eq0 : goal.returns-then-left-eq0
returns-then-left-eq0 c =
    let walk = c.loop-piece.invariant.1 in
    piece_there c.args.delimiter.now c.args.text.now walk.0 c.loop-piece.rest.now c.in-Some.piece.now c.in-Some.tail.now c.args.at c.requires walk.2 c.in-Some.ensures.parts
    (omega (arith, walk.1))

pub loop-piece-preserved : goal.loop-piece-preserved
loop-piece-preserved c =
    let walk = c.loop-piece.invariant.1 in (
      c.in-Some.ensures.utf8,
      (
        walk.0 ++ c.in-Some.piece.now ∷ [],
        omega (arith, walk.1, length-append walk.0 (c.in-Some.piece.now ∷ [])),
        LeadsTo-step c.args.delimiter.now c.args.text.now walk.0 c.loop-piece.rest.now c.in-Some.piece.now c.in-Some.tail.now walk.2 c.in-Some.ensures.parts,
      ),
    )

pub returns-then-left-eq0-2 : goal.returns-then-left-eq0-2
returns-then-left-eq0-2 c =
    let walk = c.loop-piece.invariant.1 in
    last_there c.args.delimiter.now c.args.text.now walk.0 c.loop-piece.rest.now c.args.at walk.2 c.in_default.ensures.parts (omega (arith, walk.1))

pub returns-else-left-eq0-2 : goal.returns-else-left-eq0-2
returns-else-left-eq0-2 c =
    let walk = c.loop-piece.invariant.1 in
    none_there c.args.delimiter.now c.args.text.now walk.0 c.loop-piece.rest.now c.args.at c.loop-piece.left walk.2 c.in_default.ensures.parts walk.1 (omega arith)
