use Rattle.std.proofs.Common.{◌≡◌, ◌≤◌, ◌<◌, refl, ℕ, List, [], ◌∷◌, Some, false, length, get_or, ap, sym, arith}
use Rattle.heat_value.specs.Data.{null}
use Rattle.heat_value.specs.Meaning.{data_of, nodes_of}
use Rattle.heat_value.specs.declared.value.Value.{Value}
use Rattle.eval_words.specs.Evaluation.{branch_outcome, value_outcome, alone}
use Rattle.eval_words.specs.Evaluation.{Leveled}
use Rattle.eval_words.specs.Outcomes.{Gives, made_into, under}
use Rattle.eval_words.specs.Scenes.{SceneData}
use Rattle.heat_value.specs.declared.path.Step.TheVariants.{Index}
use Rattle.eval_words.specs.Looks.{LeveledReading}
use Rattle.eval_words.specs.Reads.{branch_reads, value_reads}
use Rattle.hot_eval.proofs.branches.second_branch.Goals as goal

second : (inner : Leveled) (scene : SceneData) (levels spent : ℕ) (vs : List Value) (w : Value) → 2 ≤ length vs
    → w ≡ get_or vs 1 w
    → branch_outcome inner scene levels (Some false) (nodes_of vs) spent
    ≡ made_into alone (under (Index 2) (value_outcome inner scene levels (data_of w) spent))
second inner scene levels spent [] w above at = absurd (omega (arith, above))
second inner scene levels spent (x ∷ []) w above at = absurd (omega (arith, above))
second inner scene levels spent (x ∷ y ∷ vs) w above at =
    ap (λ (z : Value). made_into alone (under (Index 2) (value_outcome inner scene levels (data_of z) spent))) (sym at)

nothing : (inner : Leveled) (scene : SceneData) (levels spent : ℕ) (vs : List Value) → length vs < 1
    → branch_outcome inner scene levels (Some false) (nodes_of vs) spent ≡ Gives (alone null) spent
nothing inner scene levels spent [] below = refl
nothing inner scene levels spent (x ∷ vs) below = absurd (omega (arith, below))

pub returns-in-empty-clause-outcome : goal.returns-in-empty-clause-outcome
returns-in-empty-clause-outcome c inner scene levels spent = nothing inner scene levels spent c.args.branches.now c.in-empty.len_below

one : (inner : Leveled) (scene : SceneData) (levels spent : ℕ) (vs : List Value) → 1 ≤ length vs → length vs < 2
    → branch_outcome inner scene levels (Some false) (nodes_of vs) spent ≡ Gives (alone null) spent
one inner scene levels spent [] above below = absurd (omega (arith, above))
one inner scene levels spent (x ∷ []) above below = refl
one inner scene levels spent (x ∷ y ∷ vs) above below = absurd (omega (arith, below))

pub returns-in-len1-clause-outcome : goal.returns-in-len1-clause-outcome
returns-in-len1-clause-outcome c inner scene levels spent =
    one inner scene levels spent c.args.branches.now c.in-len1.len_at_least c.in-len1.len_below

pub returns-in-len2-up-clause-outcome : goal.returns-in-len2-up-clause-outcome
returns-in-len2-up-clause-outcome c inner scene levels spent =
    second inner scene levels spent c.args.branches.now c.second-item.result c.in-len2-up.len_at_least c.second-item.is

-- ---- what they look up

module _ (again : Leveled) (reads : LeveledReading) (scene : SceneData) (levels spent : ℕ) where
  second_reads : (vs : List Value) (w : Value) → 2 ≤ length vs → w ≡ get_or vs 1 w
      → branch_reads again reads scene levels (Some false) (nodes_of vs) spent
      ≡ value_reads again reads scene levels (data_of w) spent
  second_reads [] w above at = absurd (omega (arith, above))
  second_reads (x ∷ []) w above at = absurd (omega (arith, above))
  second_reads (x ∷ y ∷ vs) w above at =
      ap (λ (z : Value). value_reads again reads scene levels (data_of z) spent) (sym at)

  none_read : (vs : List Value) → length vs < 2 → branch_reads again reads scene levels (Some false) (nodes_of vs) spent ≡ []
  none_read [] below = refl
  none_read (x ∷ []) below = refl
  none_read (x ∷ y ∷ vs) below = absurd (omega (arith, below))

pub returns-in-empty-clause-looks : goal.returns-in-empty-clause-looks
returns-in-empty-clause-looks c again reads scene levels spent =
    let below : length c.args.branches.now < 2 = omega (arith, c.in-empty.len_below) in
    none_read again reads scene levels spent c.args.branches.now below

pub returns-in-len1-clause-looks : goal.returns-in-len1-clause-looks
returns-in-len1-clause-looks c again reads scene levels spent =
    none_read again reads scene levels spent c.args.branches.now c.in-len1.len_below

pub returns-in-len2-up-clause-looks : goal.returns-in-len2-up-clause-looks
returns-in-len2-up-clause-looks c again reads scene levels spent =
    second_reads again reads scene levels spent c.args.branches.now c.second-item.result c.in-len2-up.len_at_least c.second-item.is
