use Rattle.std.proofs.Common.{List, map, subst, sym}
use Rattle.std.specs.List.Sorted.{IsPermutation}
use Rattle.core_state.specs.declared.Row.{Row}
use Rattle.step_relation.specs.Rows.{token_of}
use Rattle.state_images.specs.Tokens.{NoneIsBeaten}
use Rattle.state_images.proofs.Forming.{made_formed}
use Rattle.state_images.proofs.Newest.{newest_unbeaten, unbeaten_newest}
use Rattle.state_images.proofs.currents.is_current_newest.Goals as goal

pub returns : goal.returns
returns c =
    let s = c.args.s.now.state in
    let once = (made_formed s c.requires).work.rows_once in
    let by = c.in_ok-sorted.ensures in
    let tokens = c.in_ok-sorted.sorted.items in
    let same = subst (λ (rows : List Row). IsPermutation (map token_of rows) tokens) c.rows.ensures by.same in
    let e = c.as_slice.ensures.value in (
      λ t. newest_unbeaten s.rows tokens once same by.sorted (subst (NoneIsBeaten s.rows) e (c.none_is_beaten.ensures.0 t)),
      λ one. c.none_is_beaten.ensures.1 (subst (NoneIsBeaten s.rows) (sym e) (unbeaten_newest s.rows tokens once same by.sorted one)),
    )
