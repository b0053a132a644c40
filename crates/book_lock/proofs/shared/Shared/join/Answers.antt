use Rattle.std.proofs.Common.{ap, ◌∙◌}
use Rattle.book_lock.specs.Standing.{Standing}
use Rattle.book_lock.specs.Closing.{joined_pass}
use Rattle.book_lock.proofs.Passes.{after_join}
use Rattle.book_lock.proofs.shared.Shared.join.Goals as goal

pub invariant_of-pass : goal.invariant_of-pass
invariant_of-pass g c =
    (after_join c.pass.inside.seat.table_id c.merge.new.seat.table_id c.other.inside.seat.table_id c.pass.inside.seat.me c.other.inside.seat.me c.merge.new.seat.me
    c.pass.inside.name.items c.other.inside.name.items c.take_back.new.name.items c.pass.inside.holds c.other.inside.holds c.merge.ensures.same
    (ap (λ (p : Standing g.row.T.Denot). p.holds) c.pass.view_is ∙ c.requires.free.free)
    (ap (λ (p : Standing g.row.T.Denot). p.holds) c.other.view_is ∙ c.requires.other.free)
    c.pass.invariant c.other.invariant c.merge.ensures.both c.take_back.ensures).0

pub returns : goal.returns
returns g c =
    (after_join c.pass.inside.seat.table_id c.merge.new.seat.table_id c.other.inside.seat.table_id c.pass.inside.seat.me c.other.inside.seat.me c.merge.new.seat.me
    c.pass.inside.name.items c.other.inside.name.items c.take_back.new.name.items c.pass.inside.holds c.other.inside.holds c.merge.ensures.same
    (ap (λ (p : Standing g.row.T.Denot). p.holds) c.pass.view_is ∙ c.requires.free.free)
    (ap (λ (p : Standing g.row.T.Denot). p.holds) c.other.view_is ∙ c.requires.other.free)
    c.pass.invariant c.other.invariant c.merge.ensures.both c.take_back.ensures).1
    ∙ (λ i. joined_pass (c.pass.view_is i) (c.other.view_is i))
