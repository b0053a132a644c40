use Rattle.std.proofs.Common.{◌∙◌, sym}
use Rattle.opening_check.proofs.PlacesLemmas.{got, listed_at, unlisted}
use Rattle.opening_check.proofs.index.listed.Goals as goal

-- src/index.rt:53:1
pub returns-in-Some : goal.returns-in-Some
returns-in-Some c =
    got c.args.all.now c.in-Some.entry.now.place c.get-in-Some.result c.get-in-Some.ensures.lookup.0 c.get-in-Some.ensures.lookup.1
    ∙ listed_at c.args.all.now c.args.index.now.items c.args.token.now c.in-Some.entry.now c.requires (sym c.in-Some.ensures)

-- src/index.rt:53:1
pub returns-in-None : goal.returns-in-None
returns-in-None c = sym (unlisted c.args.all.now c.args.index.now.items c.args.token.now c.requires (sym c.in-None.ensures))
