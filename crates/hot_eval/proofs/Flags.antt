-- The flag that the evaluation of a condition expression gives.
use Rattle.std.proofs.Common.{◌≡◌, ◌∙◌, ℕ, sym, ap}
use Rattle.heat_value.specs.Data.{Data}
use Rattle.eval_words.specs.Conditions.{flag_made}
use Rattle.eval_words.specs.Evaluation.{Leveled, condition_outcome, evaluation}
use Rattle.eval_words.specs.Outcomes.{Outcome, max_levels}
use Rattle.eval_words.specs.Scenes.{SceneData}

-- in a setting at its root
pub flag_is : (X : Leveled) (S T : SceneData) (L : ℕ) (d : Data) (n : ℕ) (o : Outcome Data) → T ≡ S → X ≡ evaluation S
    → L ≡ max_levels → n ≡ 0 → condition_outcome X T L d n ≡ o
    → flag_made o ≡ flag_made (condition_outcome (evaluation S) S max_levels d 0)
flag_is X S T L d n o scene again all none is =
    ap flag_made (sym is ∙ ap (λ (x : Leveled). condition_outcome x T L d n) again
    ∙ ap (λ (s : SceneData). condition_outcome (evaluation S) s L d n) scene
    ∙ ap (λ l. condition_outcome (evaluation S) S l d n) all
    ∙ ap (condition_outcome (evaluation S) S max_levels d) none)
