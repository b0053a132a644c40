-- What the call of a function tells: its answer, or why there is none.
use Rattle.std.specs.Prelude.{◌≡◌, ◌-◌, ℕ, Bool, Option, Some, None, Result, Ok, Err, if◌then◌else◌, ⊤}
use Rattle.heat_value.specs.Data.{Data, null, Nodes, no_nodes}
use Rattle.heat_value.specs.Meaning.{data_of}
use Rattle.heat_value.specs.declared.value.Value.{Value}
use Rattle.heat_value.specs.declared.path.Step.TheVariants.{Index}
use Rattle.eval_words.specs.Evaluation.{Evaluating, Leveled, evaluation_within, replaced, value_outcome, branch_outcome, alone}
use Rattle.eval_words.specs.Outcomes.{Outcome, Gives, Faults, made_into, under, is_result, max_levels}
use Rattle.eval_words.specs.Scenes.{SceneData, scene_data}
use Rattle.hot_eval.specs.declared.branches.Picked.{Picked}
use Rattle.hot_eval.specs.declared.branches.Picked.TheVariants as pick
use Rattle.eval_words.specs.declared.code.FaultCode.{FaultCode}
use Rattle.eval_words.specs.declared.code.FaultCode.TheVariants.{F06}
use Rattle.hot_eval.specs.declared.setting.Setting.{Setting}
use Rattle.eval_words.specs.declared.fault.EvalFault.{EvalFault}
use Rattle.eval_words.specs.declared.fault.EvalFault.TheVariants as eval
use Rattle.eval_words.specs.declared.fault.FunctionFault.{FunctionFault}
use Rattle.eval_words.specs.declared.fault.FunctionFault.TheVariants.{Wrong, Memory}

-- the code of an answer that is a fault, or that is too large to be a result
abbrev pub code_of : Result Data FaultCode → Option FaultCode
code_of (Ok d) = if is_result d then None else Some F06
code_of (Err c) = Some c

-- the fault tells the answer's code, or want of memory
abbrev pub IsFaultOf : FunctionFault → Result Data FaultCode → Type 0
IsFaultOf (Wrong c) r = code_of r ≡ Some c
IsFaultOf Memory r = ⊤

-- the fault is the answer itself, or want of memory
abbrev pub IsOwnFault : FunctionFault → Result Data FaultCode → Type 0
IsOwnFault (Wrong c) r = r ≡ Err c
IsOwnFault Memory r = ⊤

-- the call tells the answer, or its fault
abbrev pub IsAnswer : Result Value FunctionFault → Result Data FaultCode → Type 0
IsAnswer (Ok v) r = r ≡ Ok (data_of v)
IsAnswer (Err e) r = IsFaultOf e r

-- ---- evaluations

-- the fault is the outcome's, or want of memory
abbrev pub IsFaultIn : {A : Type 0} → EvalFault → Outcome A → Type 0
IsFaultIn (eval.Wrong c p) o = o ≡ Faults c p
IsFaultIn eval.Memory o = ⊤

-- what was made, by its content, and the sum of costs then are the outcome; or its fault is told
abbrev pub IsOutcome : {V A : Type 0} → (V → A) → Result V EvalFault → ℕ → Outcome A → Type 0
IsOutcome content (Ok v) sum o = o ≡ Gives (content v) sum
IsOutcome content (Err e) sum o = IsFaultIn e o

-- the same whatever the sum is
abbrev pub IsMadeOf : {V A : Type 0} → (V → A) → Result V EvalFault → Outcome A → Type 0
IsMadeOf content (Ok v) o = (sum : ℕ) × (o ≡ Gives (content v) sum)
IsMadeOf content (Err e) o = IsFaultIn e o

-- the evaluation of templates that are replaced at this depth, at any number of levels
abbrev pub again : Setting → Leveled
again set = evaluation_within (max_levels - set.depth.repeats) (scene_data set.scene)

-- how many levels are left
abbrev pub levels : Setting → ℕ
levels set = set.depth.levels

-- the evaluation of a template that is replaced here
abbrev pub inside_again : Setting → Evaluating
inside_again set = replaced (again set) (levels set)

-- ---- functions and branches

-- the call tells the function's own answer, if it has one
abbrev pub IsOwnAnswer : Option (Result Value FunctionFault) → Option (Result Data FaultCode) → Type 0
IsOwnAnswer None None = ⊤
IsOwnAnswer None (Some r) = ⊥
IsOwnAnswer (Some a) None = ⊥
IsOwnAnswer (Some a) (Some r) = IsAnswer a r

-- the branch's value, if one was chosen
abbrev pub branch_nodes : Option Value → Nodes
branch_nodes None = no_nodes
branch_nodes (Some v) = alone (data_of v)

-- what comes of a branch that was picked
abbrev pub picked_outcome : Leveled → SceneData → ℕ → Picked → ℕ → Outcome Nodes
picked_outcome inner scene levels (pick.Branch i v) spent =
    made_into alone (under (Index i) (value_outcome inner scene levels (data_of v.now) spent))
picked_outcome inner scene levels pick.Null spent = Gives (alone null) spent
picked_outcome inner scene levels pick.None spent = Gives no_nodes spent

-- that is what comes of the branches
abbrev pub IsPicked : Picked → Option Bool → Nodes → Type 0
IsPicked p flag branches =
    (inner : Leveled) (scene : SceneData) (levels spent : ℕ)
    → branch_outcome inner scene levels flag branches spent ≡ picked_outcome inner scene levels p spent
