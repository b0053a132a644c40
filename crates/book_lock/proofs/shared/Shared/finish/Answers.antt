use Rattle.std.proofs.Common.{◌≡◌, Some, is_some, ap, sym, ◌∙◌, subst, ◌∷◌, []}
use Rattle.book_lock.specs.Standing.{Lock}
use Rattle.book_lock.specs.Closing.{Settled}
use Rattle.book_lock.proofs.Ending.{ended_pass}
use Rattle.book_lock.proofs.shared.Shared.finish.Goals as goal

pub unwrap-requires : goal.unwrap-requires
unwrap-requires g c =
    ap is_some
    (ended_pass g.T.Chronicle.list g.T.Chronicle.origin c.self.inside.board.shared.key.value c.args.self.opening c.pass.inside.seat.table_id c.pass.inside.seat.id c.pass.inside.seat.me c.pass.inside.name.items c.pass.inside.holds c.args.pass _ _
    c.take-value.result (ap (λ (l : Lock g.row.T.Denot). l.opening) c.self.view_is) c.pass.view_is c.requires.free.free c.pass.invariant c.requires.all c.close_with-closed.ensures.values.2 c.take-value.ensures.value).1

pub returns : goal.returns
returns g c =
    let T = g.row.T.Denot in
    let (value, taken, settled) =
    ended_pass g.T.Chronicle.list g.T.Chronicle.origin c.self.inside.board.shared.key.value c.args.self.opening c.pass.inside.seat.table_id c.pass.inside.seat.id c.pass.inside.seat.me c.pass.inside.name.items c.pass.inside.holds c.args.pass _ _
    c.take-value.result (ap (λ (l : Lock g.row.T.Denot). l.opening) c.self.view_is) c.pass.view_is c.requires.free.free c.pass.invariant c.requires.all c.close_with-closed.ensures.values.2 c.take-value.ensures.value in
    let both : Some value ≡ Some c.unwrap.result = sym taken ∙ c.unwrap.ensures in
    let same : value ≡ c.unwrap.result = cc in
    subst (λ (v : T). Settled g.T.Chronicle.list g.T.Chronicle.origin c.args.self.opening (c.args.pass ∷ []) v) same settled
