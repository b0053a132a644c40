use Rattle.std.proofs.Common.{◌<◌, ◌≤◌, List, All, length, get_or, subst, ap, ◌∙◌, arith}
use Rattle.book_lock.specs.Standing.{Standing}
use Rattle.book_lock.specs.Closing.{AreSiblingNames}
use Rattle.book_lock.proofs.Pairs.{sibling_left, joined_left}
use Rattle.book_lock.proofs.shared.Shared.join_two.Goals as goal

pub beside-at-requires : goal.beside-at-requires
beside-at-requires g c =
    let T = g.row.T.Denot in
    let deep = c.deepest.result in
    let p = c.remove-pass.result in
    let low : deep < length c.args.passes.now.items = omega (arith, c.deepest.ensures.within, ap length c.as_slice.ensures.value) in
    let some : 1 < length c.args.passes.now.items = omega (arith, c.requires.some, c.as_slice.ensures.len, ap length c.as_slice.ensures.value) in
    let most = subst (λ (l : List (Standing T)). All (λ (pass : Standing T). length pass.name ≤ length (get_or l deep p).name) l) c.as_slice.ensures.value (c.deepest.ensures.deepest p) in
    sibling_left c.args.passes.now.items c.as_slice-2.result.now deep p low c.remove-pass.ensures.value (c.as_slice-2.ensures.value ∙ c.remove-pass.ensures.items) most c.requires.all some

pub returns : goal.returns
returns g c =
    let T = g.row.T.Denot in
    let at = c.beside-at.result in
    let q = c.index_mut.result.now in
    let low : c.deepest.result < length c.args.passes.now.items = omega (arith, c.deepest.ensures.within, ap length c.as_slice.ensures.value) in
    let lower : at < length c.remove-pass.new.self.items = omega (arith, c.beside-at.ensures.within, ap length c.as_slice-2.ensures.value) in
    let siblings = subst (λ (l : List (Standing T)). AreSiblingNames (get_or l at q).name c.remove-pass.result.name) c.as_slice-2.ensures.value (c.beside-at.ensures.sibling q) in
    joined_left g.T.Chronicle.list g.T.Chronicle.origin c.args.self.now c.args.passes.now.items c.remove-pass.new.self.items c.deepest.result at c.remove-pass.result q c.join.new.pass
    low c.remove-pass.ensures.value c.remove-pass.ensures.items lower c.index_mut.ensures.value c.join.ensures siblings c.requires.free c.requires.all
