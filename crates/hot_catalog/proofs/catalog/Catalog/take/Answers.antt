-- What is counted is how many would stand.
use Rattle.std.proofs.Common.{◌≡◌, ◌∙◌, ap, sym, refl}
use Rattle.heat_value.specs.Meaning.{data_of}
use Rattle.hot_catalog.proofs.Counted.{many_told}
use Rattle.hot_catalog.specs.Paths.{here_unless}
use Rattle.hot_catalog.proofs.catalog.Catalog.take.Goals as goal

pub returns-then-not-are_few-clause-fault : goal.returns-then-not-are_few-clause-fault
returns-then-not-are_few-clause-fault c =
    many_told c.args.self.now (data_of c.args.value.now) c.members_in-line.result.now c.are_few.result
    c.members_in-line.ensures c.are_few.ensures.rising c.as_slice.ensures.distinct
    (rw (c.len.ensures, c.as_slice.ensures.kinds) at c.are_few.ensures.exact)
    ∙ rw (c.if-not-are_few.true, c.root.ensures) refl

pub returns-clause-right : goal.returns-clause-right
returns-clause-right c =
    many_told c.args.self.now (data_of c.args.value.now) c.members_in-line.result.now c.are_few.result
    c.members_in-line.ensures c.are_few.ensures.rising c.as_slice.ensures.distinct
    (rw (c.len.ensures, c.as_slice.ensures.kinds) at c.are_few.ensures.exact)
    ∙ ap here_unless c.if-not-are_few.false
