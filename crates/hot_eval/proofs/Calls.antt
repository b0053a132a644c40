-- What objects, calls and repeats come to, from what their parts come to.
use Rattle.std.proofs.Common.{◌≡◌, ◌∙◌, ◌+◌, ℕ, suc, List, [], Bool, true, false, Option, Some, None}
use Rattle.std.proofs.Common.{Result, Ok, Err, nat_le, refl, sym, ap, subst, option_map, if◌then◌else◌}
use Rattle.std.specs.Prelude.{⊤}
use Rattle.heat_value.specs.Data.{Data, items, fields, Nodes, Members, no_members, member}
use Rattle.heat_value.specs.Meaning.{data_of}
use Rattle.heat_value.specs.declared.path.Step.TheVariants.{Key}
use Rattle.heat_value.specs.declared.value.Value.{Value}
use Rattle.hot_eval.specs.Answers.{IsFaultIn, IsOutcome, IsAnswer, IsOwnAnswer}
use Rattle.eval_words.specs.Choices.{Choice, Repetition, choices, repetition}
use Rattle.eval_words.specs.Evaluation.{Evaluating, Leveled, Sole, sole_of, argument, call, called, answered_by, repeated}
use Rattle.eval_words.specs.Evaluation.{answer_of, choice_outcome, choices_outcome, counted, in_repeat, replaced}
use Rattle.eval_words.specs.Evaluation.{value_outcome, members_outcome, condition_outcome}
use Rattle.eval_words.specs.Faults.{of_function}
use Rattle.eval_words.specs.Manners.{manner_of}
use Rattle.eval_words.specs.Names.{function_of, condition_function_of, named_in, is_formed, is_condition_formed}
use Rattle.eval_words.specs.Outcomes.{Outcome, Gives, Faults, and_then, made_into, seen_from, under, charged, size, answered}
use Rattle.eval_words.specs.Outcomes.{cost_limit}
use Rattle.hot_eval.specs.Repeats.{lists_of, IsRepetition}
use Rattle.eval_words.specs.Scenes.{SceneData}
use Rattle.hot_eval.specs.declared.choices.Repetition.{Repetition as Held}
use Rattle.eval_words.specs.declared.code.FaultCode.{FaultCode}
use Rattle.eval_words.specs.declared.code.FaultCode.TheVariants.{F01, F07}
use Rattle.eval_words.specs.declared.fault.EvalFault.{EvalFault}
use Rattle.eval_words.specs.declared.fault.EvalFault.TheVariants as fault
use Rattle.eval_words.specs.declared.fault.FunctionFault.{FunctionFault}
use Rattle.eval_words.specs.declared.fault.FunctionFault.TheVariants.{Wrong, Memory}
use Rattle.eval_words.specs.declared.function.Function.{Function}
use Rattle.hot_eval.proofs.Steps.{fault_same, fault_next}

-- ---- the same outcome, said otherwise

pub outcome_is : {V A : Type 0} (content : V → A) (r : Result V EvalFault) (n : ℕ) (o p : Outcome A) → o ≡ p
    → IsOutcome content r n p → IsOutcome content r n o
outcome_is content r n o p same is = subst (IsOutcome content r n) (sym same) is

pub there : {D B : Type 0} (f : Leveled → SceneData → D → B) (A X : Leveled) (S T : SceneData) (d e : D)
    → X ≡ A → T ≡ S → e ≡ d → f A S d ≡ f X T e
there f A X S T d e a s h =
    sym (ap (λ (x : Leveled). f x T e) a ∙ ap (λ (x : SceneData). f A x e) s ∙ ap (f A S) h)

-- ---- charges

-- a cost was counted
abbrev paid : ℕ → Outcome ⊤
paid m = Gives tt m

pub charged_as : {A : Type 0} (a : A) (cost n m : ℕ) → charged {A = ⊤} tt cost n ≡ paid m → charged a cost n ≡ Gives a m
charged_as {A} a cost n m = by (nat_le (n + cost) cost_limit)
  where
    by : (b : Bool) → (if b then paid (n + cost) else Faults F07 []) ≡ paid m
        → (if b then Gives a (n + cost) else Faults F07 []) ≡ Gives a m
    by true e = ap (made_into (λ _. a)) e
    by false e = cc

pub charged_fault : {A : Type 0} (f : EvalFault) (a : A) (cost n : ℕ) → IsFaultIn f (charged {A = ⊤} tt cost n)
    → IsFaultIn f (charged a cost n)
charged_fault {A} fault.Memory a cost n is = tt
charged_fault {A} (fault.Wrong c p) a cost n is = by (nat_le (n + cost) cost_limit) is
  where
    by : (b : Bool) → (if b then paid (n + cost) else Faults F07 []) ≡ Faults c p
        → (if b then Gives a (n + cost) else Faults F07 []) ≡ Faults c p
    by true e = cc
    by false e = ap (made_into (λ _. a)) e

-- ---- objects

-- what the object is, by the function that it calls
module _ (A : Leveled) (S : SceneData) (all l : ℕ) (n : ℕ) (deep : all ≡ suc l) where
  abbrev value_by : Members → Option (List ℕ × Data × Function) → Outcome Data
  value_by ms None = made_into fields (members_outcome A S l ms n)
  value_by ms (Some c) = call (replaced A l) S c.2 (is_formed c.0 c.1) (sole_of A S l c.0 c.1) n

  abbrev condition_by : Members → Option (List ℕ × Data × Function) → Outcome Data
  condition_by ms None = Gives (fields ms) n
  condition_by ms (Some c) = call (replaced A l) S c.2 (is_condition_formed c.0 c.1) (sole_of A S l c.0 c.1) n

  by_name : (k : List ℕ) (d : Data) (o : Option Function)
      → called (replaced A l) S o (is_formed k d) (sole_of A S l k d)
      (made_into fields (members_outcome A S l (member k d no_members) n)) n
      ≡ value_by (member k d no_members) (option_map (λ f. (k, d, f)) o)
  by_name k d None = refl
  by_name k d (Some f) = refl

  by_condition : (k : List ℕ) (d : Data) (o : Option Function)
      → called (replaced A l) S o (is_condition_formed k d) (sole_of A S l k d)
      (Gives (fields (member k d no_members)) n) n
      ≡ condition_by (member k d no_members) (option_map (λ f. (k, d, f)) o)
  by_condition k d None = refl
  by_condition k d (Some f) = refl

  object_by : (ms : Members) → value_outcome A S (suc l) (fields ms) n ≡ value_by ms (named_in function_of ms)
  object_by no_members = refl
  object_by (member k d no_members) = by_name k d (function_of k)
  object_by (member k d (member l e ms)) = refl

  as_condition : (ms : Members)
      → condition_outcome A S (suc l) (fields ms) n ≡ condition_by ms (named_in condition_function_of ms)
  as_condition no_members = refl
  as_condition (member k d no_members) = by_condition k d (condition_function_of k)
  as_condition (member k d (member l e ms)) = refl

  at_value : (ms : Members) → value_outcome A S all (fields ms) n ≡ value_outcome A S (suc l) (fields ms) n
  at_value ms = ap (λ x. value_outcome A S x (fields ms) n) deep

  at_condition : (ms : Members) → condition_outcome A S all (fields ms) n ≡ condition_outcome A S (suc l) (fields ms) n
  at_condition ms = ap (λ x. condition_outcome A S x (fields ms) n) deep

  pub object_calls : (ms : Members) (c : List ℕ × Data × Function) → Some c ≡ named_in function_of ms
      → value_outcome A S all (fields ms) n ≡ call (replaced A l) S c.2 (is_formed c.0 c.1) (sole_of A S l c.0 c.1) n
  object_calls ms c is = at_value ms ∙ object_by ms ∙ ap (value_by ms) (sym is)

  pub object_plain : (ms : Members) → None ≡ named_in function_of ms
      → value_outcome A S all (fields ms) n ≡ made_into fields (members_outcome A S l ms n)
  object_plain ms is = at_value ms ∙ object_by ms ∙ ap (value_by ms) (sym is)

  pub condition_calls : (ms : Members) (c : List ℕ × Data × Function) → Some c ≡ named_in condition_function_of ms
      → condition_outcome A S all (fields ms) n
      ≡ call (replaced A l) S c.2 (is_condition_formed c.0 c.1) (sole_of A S l c.0 c.1) n
  condition_calls ms c is = at_condition ms ∙ as_condition ms ∙ ap (condition_by ms) (sym is)

  pub condition_plain : (ms : Members) → None ≡ named_in condition_function_of ms
      → condition_outcome A S all (fields ms) n ≡ Gives (fields ms) n
  condition_plain ms is = at_condition ms ∙ as_condition ms ∙ ap (condition_by ms) (sym is)

-- ---- calls

module _ (A : Evaluating) (S : SceneData) (f : Function) (m : Sole) (n : ℕ) where
  -- the call of a function whose argument has its form
  abbrev formed_call : Outcome Data
  formed_call =
      and_then (under (Key m.key) (argument (manner_of f) m n)) (λ a s.
      and_then (charged a (size a) s) (answer_of A S f))

  pub call_fault : (e : EvalFault) (formed : Bool) → formed ≡ true
      → IsFaultIn e (under (Key m.key) (argument (manner_of f) m n)) → IsFaultIn e (call A S f formed m n)
  call_fault e formed is h =
      fault_same e (call A S f formed m n) formed_call (ap (λ b. if b then formed_call else Faults F01 []) is)
      (fault_next e _ _ h)

  pub call_charge : (e : EvalFault) (formed : Bool) (a : Data) (s : ℕ) → formed ≡ true
      → under (Key m.key) (argument (manner_of f) m n) ≡ Gives a s → IsFaultIn e (charged {A = ⊤} tt (size a) s)
      → IsFaultIn e (call A S f formed m n)
  call_charge e formed a s is made h =
      fault_same e (call A S f formed m n) _
      (ap (λ b. if b then formed_call else Faults F01 []) is
      ∙ ap (λ (o : Outcome Data). and_then o (λ a s. and_then (charged a (size a) s) (answer_of A S f))) made)
      (fault_next e _ _ (charged_fault e a (size a) s h))

  pub call_gives : (formed : Bool) (a : Data) (s t : ℕ) → formed ≡ true
      → under (Key m.key) (argument (manner_of f) m n) ≡ Gives a s → charged {A = ⊤} tt (size a) s ≡ paid t
      → call A S f formed m n ≡ answer_of A S f a t
  call_gives formed a s t is made counted-too =
      ap (λ b. if b then formed_call else Faults F01 []) is
      ∙ ap (λ (o : Outcome Data). and_then o (λ a s. and_then (charged a (size a) s) (answer_of A S f))) made
      ∙ ap (λ (o : Outcome Data). and_then o (answer_of A S f)) (charged_as a (size a) s t counted-too)

-- ---- answers

pub answer_told : (A : Evaluating) (d : Data) (n m : ℕ) (res : Result Value EvalFault) (o : Option (Result Data FaultCode))
    (a : Result Value FunctionFault) → IsOwnAnswer (Some a) o
    → ((r : Result Data FaultCode) → IsAnswer a r → IsOutcome data_of res m (answered r n))
    → IsOutcome data_of res m (answered_by A d o n)
answer_told A d n m res None a own told = absurd own
answer_told A d n m res (Some r) a own told = told r own

pub answer_repeat : (A : Evaluating) (d : Data) (n m : ℕ) (res : Result Value EvalFault)
    (o : Option (Result Data FaultCode)) → IsOwnAnswer None o → IsOutcome data_of res m (repeated A (repetition d) n)
    → IsOutcome data_of res m (answered_by A d o n)
answer_repeat A d n m res None own h = h
answer_repeat A d n m res (Some r) own h = absurd own

-- ---- repeats

pub repeated_gives : (A : Evaluating) (q : Result Repetition FaultCode) (r : Held) (n m : ℕ) (ns : Nodes)
    → IsRepetition (Ok r) q
    → choices_outcome A (data_of r.template.now) (choices (lists_of r.lists.items)) n ≡ Gives ns m
    → repeated A q n ≡ answered (Ok (items ns)) m
repeated_gives A (Ok s) r n m ns is made =
    ap (λ (o : Outcome Nodes). and_then o (λ ns sum. answered (Ok (items ns)) sum)) (
    ap (λ (cs : List Choice). choices_outcome A s.1 cs n) (sym is.0)
    ∙ ap (λ (t : Data). choices_outcome A t (choices (lists_of r.lists.items)) n) (sym is.1) ∙ made)
repeated_gives A (Err c) r n m ns is made = absurd is

pub repeated_fault : (A : Evaluating) (q : Result Repetition FaultCode) (r : Held) (n : ℕ) (e : EvalFault)
    → IsRepetition (Ok r) q
    → IsFaultIn e (choices_outcome A (data_of r.template.now) (choices (lists_of r.lists.items)) n)
    → IsFaultIn e (repeated A q n)
repeated_fault A (Ok s) r n e is h =
    fault_next e _ _ (fault_same e (choices_outcome A s.1 s.0 n) _
    (ap (λ (cs : List Choice). choices_outcome A s.1 cs n) (sym is.0)
    ∙ ap (λ (t : Data). choices_outcome A t (choices (lists_of r.lists.items)) n) (sym is.1)) h)
repeated_fault A (Err c) r n e is h = absurd is

pub repeated_wrong : (A : Evaluating) (q : Result Repetition FaultCode) (n : ℕ) (f : FunctionFault)
    → IsRepetition (Err f) q → IsFaultIn (of_function f) (repeated A q n)
repeated_wrong A (Ok s) n (Wrong c) is = cc
repeated_wrong A (Ok s) n Memory is = tt
repeated_wrong A (Err c) n (Wrong d) is = ap (λ (x : FaultCode). Faults x []) (sym is)
repeated_wrong A (Err c) n Memory is = tt

-- ---- one choice

module _ (A : Evaluating) (t : Data) (c : Choice) (o : Option Data) (n : ℕ) where
  pub choice_fault : (e : EvalFault) → IsFaultIn e (counted c t o n) → IsFaultIn e (choice_outcome A t c o n)
  choice_fault e h = fault_next e _ _ h

  pub choice_gives : (r : Data) (s : ℕ) → counted c t o n ≡ Gives r s
      → choice_outcome A t c o n ≡ seen_from (in_repeat c t) (A r s)
  choice_gives r s is = ap (λ (x : Outcome Data). and_then x (λ r s. seen_from (in_repeat c t) (A r s))) is
