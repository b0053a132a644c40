-- What is made whatever it costs.
use Rattle.std.proofs.Common.{◌≡◌, ◌∙◌, ℕ, Result, Ok, Err, Bool, true, false, ◌&&◌, nat_le, ap, sym, subst}
use Rattle.std.proofs.Common.{◌≤◌, ◌-◌, [], arith, if◌then◌else◌}
use Rattle.std.proofs.lemmas.Bool.{leb-true}
use Rattle.heat_value.specs.Data.{Data, Members, fields, depth}
use Rattle.hot_eval.specs.Answers.{IsFaultIn, IsOutcome, IsMadeOf}
use Rattle.eval_words.specs.Outcomes.{Outcome, Gives, Faults, is_result, max_levels, size}
use Rattle.eval_words.specs.Evaluation.{Leveled, value_outcome, members_outcome, evaluation, evaluation_within}
use Rattle.eval_words.specs.Reads.{all_reads, reads_within}
use Rattle.eval_words.specs.Resolutions.{unless_large, eval, properties}
use Rattle.eval_words.specs.Scenes.{SceneData}
use Rattle.eval_words.specs.declared.code.FaultCode.TheVariants.{F06}
use Rattle.eval_words.specs.declared.fault.EvalFault.{EvalFault}
use Rattle.eval_words.specs.declared.fault.EvalFault.TheVariants as fault

pub made_of : {V A : Type 0} (content : V → A) (r : Result V EvalFault) (sum : ℕ) (o p : Outcome A) → o ≡ p
    → IsOutcome content r sum p → IsMadeOf content r o
made_of content (Ok v) sum o p same is = (sum, same ∙ is)
made_of content (Err (fault.Wrong c q)) sum o p same is = same ∙ is
made_of content (Err fault.Memory) sum o p same is = tt

pub large_fault : (e : EvalFault) (o p : Outcome Members) → o ≡ p → IsFaultIn e p → IsFaultIn e (unless_large o)
large_fault (fault.Wrong c q) o p same is = ap unless_large (same ∙ is)
large_fault fault.Memory o p same is = tt

-- ---- the whole evaluation, in a setting at its root

pub eval_is : (X : Leveled) (S T : SceneData) (L : ℕ) (d : Data) (n : ℕ) → T ≡ S → X ≡ evaluation S → L ≡ max_levels
    → n ≡ 0 → eval S d ≡ value_outcome X T L d n
unfolding eval
eval_is X S T L d n scene again all none =
    sym (ap (λ (x : Leveled). value_outcome x T L d n) again
    ∙ ap (λ (s : SceneData). value_outcome (evaluation S) s L d n) scene
    ∙ ap (λ l. value_outcome (evaluation S) S l d n) all
    ∙ ap (value_outcome (evaluation S) S max_levels d) none)

pub properties_are : (X : Leveled) (S T : SceneData) (L : ℕ) (ms ls : Members) (n : ℕ) → T ≡ S → X ≡ evaluation S
    → L ≡ max_levels → n ≡ 0 → ls ≡ ms → properties S ms ≡ members_outcome X T L ls n
properties_are X S T L ms ls n scene again all none same =
    sym (ap (λ (x : Leveled). members_outcome x T L ls n) again
    ∙ ap (λ (s : SceneData). members_outcome (evaluation S) s L ls n) scene
    ∙ ap (λ l. members_outcome (evaluation S) S l ls n) all
    ∙ ap (λ (l : Members). members_outcome (evaluation S) S max_levels l n) same
    ∙ ap (members_outcome (evaluation S) S max_levels ms) none)

-- ---- the whole map

second : (a b : Bool) → (a && b) ≡ true → b ≡ true
second true b e = e
second false b e = cc

pub depth_small : (b : Bool) (ms : Members) → b ≡ is_result (fields ms) → b ≡ true → depth (fields ms) ≤ 64
depth_small b ms same is = leb-true (depth (fields ms)) 64 (second (nat_le (size (fields ms)) 1048576) _ (sym same ∙ is))

pub large_is : (b : Bool) (ms : Members) (n : ℕ) → b ≡ is_result (fields ms) → b ≡ false
    → unless_large (Gives ms n) ≡ Faults F06 []
large_is b ms n same is = ap (λ b. if b then Gives ms n else Faults F06 []) (sym same ∙ is)

pub small_is : (b : Bool) (ms : Members) (n : ℕ) → b ≡ is_result (fields ms) → b ≡ true
    → unless_large (Gives ms n) ≡ Gives ms n
small_is b ms n same is = ap (λ b. if b then Gives ms n else Faults F06 []) (sym same ∙ is)

-- what is done with a map that was made is what is done with what the outcome gives
pub made_by : {V : Type 0} (content : V → Members) (r : Result V EvalFault) (o p : Outcome Members) (ms : Members) {n : ℕ}
    → o ≡ p → p ≡ Gives ms n → ((sum : ℕ) → IsMadeOf content r (unless_large (Gives ms sum)))
    → IsMadeOf content r (unless_large o)
made_by {V} content r o p ms {n} same is told =
    subst (λ (x : Outcome Members). IsMadeOf content r (unless_large x)) (sym (same ∙ is)) (told n)

-- ---- the root

up_to : (limit r : ℕ) (S T : SceneData) → r ≡ 0 → T ≡ S → evaluation_within (limit - r) T ≡ evaluation_within limit S
up_to limit r S T none scene =
    let all : limit - r ≡ limit = omega (arith, none) in
    ap (λ (m : ℕ). evaluation_within m T) all ∙ ap (evaluation_within limit) scene

pub root_is : (r : ℕ) (S T : SceneData) → r ≡ 0 → T ≡ S → evaluation_within (max_levels - r) T ≡ evaluation S
unfolding evaluation
root_is r S T none scene = up_to max_levels r S T none scene

reads_to : (limit r : ℕ) (S T : SceneData) → r ≡ 0 → T ≡ S → reads_within (limit - r) T ≡ reads_within limit S
reads_to limit r S T none scene =
    let all : limit - r ≡ limit = omega (arith, none) in
    ap (λ (m : ℕ). reads_within m T) all ∙ ap (reads_within limit) scene

pub root_reads : (r : ℕ) (S T : SceneData) → r ≡ 0 → T ≡ S → reads_within (max_levels - r) T ≡ all_reads S
unfolding all_reads
root_reads r S T none scene = reads_to max_levels r S T none scene
