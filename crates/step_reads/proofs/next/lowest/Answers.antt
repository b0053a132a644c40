use Rattle.step_reads.proofs.NextLemmas.{lowest_of, none_of}
use Rattle.step_reads.proofs.next.lowest.Goals as goal

pub returns-clause-some : goal.returns-clause-some
returns-clause-some c = lowest_of c.args.s.now.state.letters c.first_letter.result c.first_letter.ensures

pub returns-clause-none : goal.returns-clause-none
returns-clause-none c = none_of c.args.s.now.state.letters c.first_letter.result c.first_letter.ensures
