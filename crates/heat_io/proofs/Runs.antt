-- Lines that were read one after another.
use Rattle.std.proofs.Common.{ℕ, List, [], ◌∷◌, ◌++◌, length, sym, ◌∙◌, ap, arith, append_assoc}
use Rattle.heat_io.specs.Lines.{cut_lines}
use Rattle.heat_io.specs.Reading.{Reads, begins, adds, AreLines}

pub are_lines : (given : ℕ) (bytes : List ℕ) (lines : List (List ℕ)) (rest : List ℕ) (now : ℕ) → Reads given bytes lines rest now → AreLines given bytes lines rest now
are_lines given bytes _ _ _ (begins lines rest now empty same count) = record {
  lines_are = sym (ap (λ ls. ls ++ cut_lines rest) empty ∙ ap cut_lines same);
  counted = omega (arith, count, ap length same);
}
are_lines given bytes _ _ _ (adds before ahead so_far line lines rest now run gives all) =
    let first = are_lines given bytes before ahead so_far run in
    record {
      lines_are = first.lines_are ∙ ap (λ ls. before ++ ls) gives.lines ∙ sym (append_assoc before (line ∷ []) (cut_lines rest)) ∙ ap (λ ls. ls ++ cut_lines rest) (sym all);
      counted = omega (arith, first.counted, gives.counted);
    }
