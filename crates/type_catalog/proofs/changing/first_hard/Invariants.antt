use Rattle.type_catalog.proofs.ChangeLemmas.{AllSoft}
use Rattle.type_catalog.proofs.changing.first_hard.Given as goal

abbrev pub invariant-loop-member : goal.invariant-loop-member
invariant-loop-member l = AllSoft l.softs l.one l.other l.member-items l.member-index
