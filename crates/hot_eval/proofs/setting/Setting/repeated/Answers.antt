use Rattle.std.proofs.Common.{◌≡◌, ◌+◌, ◌-◌, ◌≤◌, ◌∙◌, ℕ, suc, ap, arith}
use Rattle.heat_value.specs.Data.{Data}
use Rattle.eval_words.specs.Evaluation.{evaluation_within, replaced, value_outcome}
use Rattle.eval_words.specs.Looks.{replaced_reads}
use Rattle.eval_words.specs.Reads.{reads_within, value_reads}
use Rattle.eval_words.specs.Outcomes.{max_levels}
use Rattle.eval_words.specs.Scenes.{SceneData, scene_data}
use Rattle.hot_eval.proofs.setting.Setting.repeated.Goals as goal

deeper : (S : SceneData) (r k l m : ℕ) → k ≡ r + 1 → k ≤ 512 → l ≡ suc m → (d : Data) (n : ℕ)
    → replaced (evaluation_within (max_levels - r) S) l d n ≡ value_outcome (evaluation_within (max_levels - k) S) S m d n
deeper S r k l m e h at d n =
    let one : max_levels - r ≡ suc (max_levels - k) = omega (arith, e, h) in
    ap (λ x. replaced (evaluation_within (max_levels - r) S) x d n) at
    ∙ ap (λ x. evaluation_within x S m d n) one

pub returns-in-Some-clause-again : goal.returns-in-Some-clause-again
returns-in-Some-clause-again c =
    deeper (scene_data c.args.self.now.scene) c.args.self.now.depth.repeats c.in-Some.depth.repeats
    c.args.self.now.depth.levels c.in-Some.depth.levels c.in-Some.ensures.0 c.in-Some.ensures.2 c.in-Some.ensures.1

deeper_reads : (S : SceneData) (r k l m : ℕ) → k ≡ r + 1 → k ≤ 512 → l ≡ suc m → (d : Data) (n : ℕ)
    → replaced_reads (reads_within (max_levels - r) S) l d n
    ≡ value_reads (evaluation_within (max_levels - k) S) (reads_within (max_levels - k) S) S m d n
deeper_reads S r k l m e h at d n =
    let one : max_levels - r ≡ suc (max_levels - k) = omega (arith, e, h) in
    ap (λ x. replaced_reads (reads_within (max_levels - r) S) x d n) at
    ∙ ap (λ x. reads_within x S m d n) one

pub returns-in-Some-clause-reads : goal.returns-in-Some-clause-reads
returns-in-Some-clause-reads c =
    deeper_reads (scene_data c.args.self.now.scene) c.args.self.now.depth.repeats c.in-Some.depth.repeats
    c.args.self.now.depth.levels c.in-Some.depth.levels c.in-Some.ensures.0 c.in-Some.ensures.2 c.in-Some.ensures.1
