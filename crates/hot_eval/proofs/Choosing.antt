-- What an `if` looks up, and a part of an object that may be left as it is.
use Rattle.std.proofs.Common.{◌≡◌, ◌∙◌, ◌<◌, ◌≤◌, ◌-◌, ◌++◌, ℕ, suc, List, [], ◌∷◌, false, length, get_or, drop, take, refl, sym}
use Rattle.std.proofs.Common.{ap, arith, bytes_eq, if◌then◌else◌}
use Rattle.std.proofs.lemmas.List.{take_all}
use Rattle.heat_value.specs.Data.{Data}
use Rattle.heat_value.specs.Meaning.{data_of, nodes_of}
use Rattle.heat_value.specs.declared.value.Value.{Value}
use Rattle.eval_words.specs.Evaluation.{Leveled, condition_outcome}
use Rattle.eval_words.specs.Looks.{Looks, LeveledReading, reads_behind}
use Rattle.eval_words.specs.Reads.{chosen_reads, condition_reads, branch_reads}
use Rattle.eval_words.specs.Scenes.{SceneData}
use Rattle.eval_words.specs.Sorts.{flag_in}
use Rattle.hot_eval.specs.Noted.{looks_unless, value_looks}
use Rattle.hot_eval.specs.declared.setting.Setting.{Setting}

module _ (A : Leveled) (R : LeveledReading) (S : SceneData) (L n : ℕ) where
  -- what the condition looks up, and behind it the branch of these that it chooses
  abbrev with_branches : Data → List Value → Looks
  with_branches d vs =
      condition_reads A R S L d n
      ++ reads_behind (condition_outcome A S L d n) (λ w s. branch_reads A R S L (flag_in w) (nodes_of vs) s)

  pub chosen_at : (vs : List Value) (v : Value) → 1 ≤ length vs → v ≡ get_or vs 0 v
      → chosen_reads A R S L (nodes_of vs) n ≡ with_branches (data_of v) (take (length vs - 1) (drop 1 vs))
  chosen_at [] v above at = absurd (omega (arith, above))
  chosen_at (x ∷ vs) v above at =
      let all : length vs ≤ suc (length vs) - 1 = omega arith in
      ap (λ (z : Value). with_branches (data_of z) vs) (sym at)
      ∙ ap (with_branches (data_of v)) (sym (take_all (suc (length vs) - 1) vs all))

  pub chosen_none : (vs : List Value) → length vs < 1 → chosen_reads A R S L (nodes_of vs) n ≡ []
  chosen_none [] below = refl
  chosen_none (x ∷ vs) below = absurd (omega (arith, below))

-- under another key it is evaluated
pub unless_other : (set : Setting) (but k : List ℕ) (d : Data) (n : ℕ) → bytes_eq k but ≡ false
    → looks_unless set but k d n ≡ value_looks set d n
unless_other set but k d n other = ap (λ b. if b then [] else value_looks set d n) other
