-- Each turn puts in the node of one row more.
use Rattle.std.proofs.Common.{sym, ◌∙◌, arith}
use Rattle.std.proofs.lemmas.Bool.{false≢true}
use Rattle.traversal_graph.proofs.NumberLemmas.{puts_none, puts_one, puts_all}
use Rattle.traversal_graph.proofs.numbered.put_rows.Goals as goal

pub loop-number-init : goal.loop-number-init
loop-number-init c = record {
  puts = puts_none _ _ _ _ _ c.requires.rising c.start_of-q.ensures.parts.0;
  from = c.start_of-q.ensures.parts.1;
}

pub loop-number-preserved : goal.loop-number-preserved
loop-number-preserved c =
    let found = c.has_number.ensures.0 c.loop-number-test.true in
    record {
      puts = puts_one _ _ _ _ found.0 _ _ _ found.1 found.2 c.loop-number.invariant.puts c.in_ok-put_in.ensures.ok;
      from = λ k d le. c.loop-number.invariant.from k d (omega arith);
    }

pub returns : goal.returns
returns c =
    puts_all _ _ _ _ _ _ c.requires.ordered c.loop-number.invariant.from
    (λ row at is. false≢true (sym c.loop-number-test.false ∙ c.has_number.ensures.1 (row, at, is))) c.loop-number.invariant.puts
