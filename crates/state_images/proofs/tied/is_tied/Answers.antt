use Rattle.std.proofs.Common.{sym, true≢false}
use Rattle.std.proofs.lemmas.Bool.{iff_false}
use Rattle.std.proofs.lemmas.Result.{IfOk-weaker}
use Rattle.state_images.proofs.Forming.{made_formed}
use Rattle.state_images.proofs.Tying.{tied, ties}
use Rattle.state_images.proofs.tied.is_tied.Goals as goal

pub returns-then-not-are_tied : goal.returns-then-not-are_tied
returns-then-not-are_tied c =
    let s = c.args.s.now.state in (
      λ t. absurd (true≢false (sym t)),
      λ it. absurd (iff_false c.are_tied.ensures c.if-not-are_tied.true (ties s (made_formed s c.requires) it)),
    )

pub returns : goal.returns
returns c =
    let s = c.args.s.now.state in
    let f = made_formed s c.requires in
    let each = c.are_tied.ensures.0 c.if-not-are_tied.false in
    let apart = c.in_ok-are_apart.ensures.0 c.if-not-branch.false in
    let owned = c.in_ok-is_owned.ensures.0 c.if-not-branch-2.false in
    IfOk-weaker c.is_current_newest.result _ _ (λ b told.
    (λ t. tied s f each apart owned (told.0 t), λ it. told.1 it.links.current)) c.is_current_newest.ensures
