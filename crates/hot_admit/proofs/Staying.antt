-- What an expression gives where some conditions have values it gives too where these and others have.
use Rattle.std.proofs.Common.{◌≡◌, ◌+◌, ℕ, zero, suc, List, [], ◌∷◌, Bool, true, false, Option, Some, None}
use Rattle.std.proofs.Common.{Result, Ok, Err, refl, ap, subst, bytes_eq}
use Rattle.std.specs.Prelude.{IsSome, codes}
use Rattle.heat_plan.specs.declared.conditions.Condition.{Condition}
use Rattle.heat_value.specs.Data.{Data, null, flag, whole, words, items, fields, Nodes, no_nodes, node}
use Rattle.heat_value.specs.Data.{Members, no_members, member}
use Rattle.heat_value.specs.declared.path.Step.TheVariants.{Key, Index}
use Rattle.eval_words.specs.Choices.{Choice, Repetition, repetition}
use Rattle.eval_words.specs.Conditions.{in_conditions}
use Rattle.eval_words.specs.Evaluation.{Evaluating, Leveled, Sole, sole_of, argument, call, called, answer_of, repeated}
use Rattle.eval_words.specs.Evaluation.{choice_outcome, choices_outcome, counted, in_repeat, alone, replaced}
use Rattle.eval_words.specs.Evaluation.{value_outcome, values_outcome, members_outcome, parts_outcome, repeat_outcome}
use Rattle.eval_words.specs.Evaluation.{all_but_outcome, if_outcome, chosen_outcome, branch_outcome, condition_outcome}
use Rattle.eval_words.specs.Evaluation.{condition_parts_outcome, conditions_outcome, evaluation_within}
use Rattle.eval_words.specs.Evaluation.{sole, object_outcome, object_condition, outcome_unless}
use Rattle.eval_words.specs.Fillings.{filled}
use Rattle.eval_words.specs.Lookups.{named_condition}
use Rattle.eval_words.specs.Manners.{manner_of}
use Rattle.eval_words.specs.Names.{function_of, condition_function_of, is_formed, is_condition_formed}
use Rattle.eval_words.specs.Outcomes.{Outcome, Gives, and_then, made_into, under, charged, answered}
use Rattle.eval_words.specs.Outcomes.{size}
use Rattle.eval_words.specs.Scenes.{SceneData}
use Rattle.eval_words.specs.Sorts.{flag_in, listed}
use Rattle.eval_words.specs.declared.code.FaultCode.{FaultCode}
use Rattle.eval_words.specs.declared.function.Function.{Function}
use Rattle.eval_words.specs.declared.function.Function.TheVariants as function
use Rattle.eval_words.specs.declared.manner.Manner.{Manner}
use Rattle.eval_words.specs.declared.manner.Manner.TheVariants as manner
use Rattle.hot_admit.proofs.Outcomes.{StaysIf, Stays, Any, same_stays, stays_if, seen_stays, under_stays, made_stays}
use Rattle.hot_admit.proofs.Outcomes.{next_stays, stays_where, unless_stays}
use Rattle.hot_admit.proofs.Fitting.{HasFlag, HasFlags, HasTwo, FitsManner, fits_counted, flags_rest, first_has}

-- ---- evaluation

-- two only members whose parts come to the same, as far as a function takes them
record SoleStays (m l : Sole) : Type 0 where
  each : (n : ℕ) → Stays (m.each n) (l.each n)
  all_but_template : (n : ℕ) → Stays (m.all_but_template n) (l.all_but_template n)
  chosen_branch : (n : ℕ) → StaysIf (λ a. HasTwo (listed a)) (m.chosen_branch n) (l.chosen_branch n)
  condition : (n : ℕ) → StaysIf HasFlag (m.condition n) (l.condition n)
  conditions : (n : ℕ) → StaysIf (λ a. HasFlags (listed a)) (m.conditions n) (l.conditions n)

argument_stays : (m l : Sole) → SoleStays m l → (k : Manner) (n : ℕ)
    → StaysIf (FitsManner k) (argument k m n) (argument k l n)
argument_stays m l stays manner.Each n = stays.each n
argument_stays m l stays manner.AllButTemplate n = stays.all_but_template n
argument_stays m l stays manner.ChosenBranch n = stays.chosen_branch n
argument_stays m l stays manner.Condition n = stays.condition n
argument_stays m l stays manner.Conditions n = stays.conditions n

module _ (params : Members) (a b : List Condition) where
  abbrev pub S : SceneData
  S = in_conditions params a

  abbrev pub T : SceneData
  T = in_conditions params b

  -- a name that has a value keeps it
  abbrev pub NamesStay : Type 0
  NamesStay = (s : List ℕ) → HasFlag (named_condition S s) → named_condition T s ≡ named_condition S s

  module _ (X Y : Evaluating) (again : (d : Data) (n : ℕ) → Stays (X d n) (Y d n)) where
    -- ---- functions

    choice_stays : (t : Data) (c : Choice) (r : Option Data) (n : ℕ)
        → Stays (choice_outcome X t c r n) (choice_outcome Y t c r n)
    choice_stays t c r n =
        next_stays Any Any (counted c t r n) (counted c t r n) _ _ (same_stays Any (counted c t r n))
        (λ d m. seen_stays Any (in_repeat c t) (X d m) (Y d m) (again d m)) (λ d m e k is good. tt)

    choices_stay : (t : Data) (cs : List Choice) (n : ℕ) → Stays (choices_outcome X t cs n) (choices_outcome Y t cs n)
    choices_stay t [] n = same_stays Any (Gives no_nodes n)
    choices_stay t (c ∷ cs) n =
        next_stays Any Any (choice_outcome X t c (filled c t) n) (choice_outcome Y t c (filled c t) n) _ _
        (choice_stays t c (filled c t) n)
        (λ v m. made_stays Any (node v) (choices_outcome X t cs m) (choices_outcome Y t cs m) (choices_stay t cs m))
        (λ v m e k is good. tt)

    repeated_stays : (r : Result Repetition FaultCode) (n : ℕ) → Stays (repeated X r n) (repeated Y r n)
    repeated_stays (Ok r) n =
        next_stays Any Any (choices_outcome X r.1 r.0 n) (choices_outcome Y r.1 r.0 n) _ _ (choices_stay r.1 r.0 n)
        (λ ns m. same_stays Any (answered (Ok (items ns)) m)) (λ ns m e k is good. tt)
    repeated_stays (Err c) n = tt

    answer_stays : (f : Function) (d : Data) (n : ℕ) → Stays (answer_of X S f d n) (answer_of Y T f d n)
    answer_stays function.Parameter d n = same_stays Any (answer_of X S function.Parameter d n)
    answer_stays function.Resource d n = same_stays Any (answer_of X S function.Resource d n)
    answer_stays function.Attribute d n = same_stays Any (answer_of X S function.Attribute d n)
    answer_stays function.File d n = same_stays Any (answer_of X S function.File d n)
    answer_stays function.Join d n = same_stays Any (answer_of X S function.Join d n)
    answer_stays function.Split d n = same_stays Any (answer_of X S function.Split d n)
    answer_stays function.Replace d n = same_stays Any (answer_of X S function.Replace d n)
    answer_stays function.ReplaceStrictly d n = same_stays Any (answer_of X S function.ReplaceStrictly d n)
    answer_stays function.Repeat d n = repeated_stays (repetition d) n
    answer_stays function.Digest d n = same_stays Any (answer_of X S function.Digest d n)
    answer_stays function.MergeMaps d n = same_stays Any (answer_of X S function.MergeMaps d n)
    answer_stays function.ReplaceInMap d n = same_stays Any (answer_of X S function.ReplaceInMap d n)
    answer_stays function.Concat d n = same_stays Any (answer_of X S function.Concat d n)
    answer_stays function.ConcatUnique d n = same_stays Any (answer_of X S function.ConcatUnique d n)
    answer_stays function.Filter d n = same_stays Any (answer_of X S function.Filter d n)
    answer_stays function.Contains d n = same_stays Any (answer_of X S function.Contains d n)
    answer_stays function.If d n = same_stays Any (answer_of X S function.If d n)
    answer_stays function.FlagParameter d n = same_stays Any (answer_of X S function.FlagParameter d n)
    answer_stays function.Equals d n = same_stays Any (answer_of X S function.Equals d n)
    answer_stays function.Not d n = same_stays Any (answer_of X S function.Not d n)
    answer_stays function.And d n = same_stays Any (answer_of X S function.And d n)
    answer_stays function.Or d n = same_stays Any (answer_of X S function.Or d n)

    counted_stays : (f : Function) (d : Data) (n : ℕ)
        → Stays (and_then (charged d (size d) n) (answer_of X S f)) (and_then (charged d (size d) n) (answer_of Y T f))
    counted_stays f d n =
        next_stays Any Any (charged d (size d) n) (charged d (size d) n) (answer_of X S f) (answer_of Y T f)
        (same_stays Any (charged d (size d) n)) (answer_stays f) (λ e m v k is good. tt)

  module _ (X Y : Leveled) (inner : (l : ℕ) (d : Data) (n : ℕ) → Stays (X l d n) (Y l d n)) where
    replaced_stays : (l : ℕ) (d : Data) (n : ℕ) → Stays (replaced X l d n) (replaced Y l d n)
    replaced_stays zero d n = tt
    replaced_stays (suc l) d n = inner l d n

    -- ---- calls

    call_stays : (l : ℕ) (f : Function) (formed : Bool) (k : List ℕ) (d : Data)
        → SoleStays (sole_of X S l k d) (sole_of Y T l k d) → (n : ℕ)
        → Stays (call (replaced X l) S f formed (sole_of X S l k d) n) (call (replaced Y l) T f formed (sole_of Y T l k d) n)
    call_stays l f false k d stays n = tt
    call_stays l f true k d stays n =
        next_stays (FitsManner (manner_of f)) Any (under (Key k) (argument (manner_of f) (sole_of X S l k d) n))
        (under (Key k) (argument (manner_of f) (sole_of Y T l k d) n)) _ _
        (under_stays (FitsManner (manner_of f)) (Key k) _ _ (argument_stays _ _ stays (manner_of f) n))
        (counted_stays (replaced X l) (replaced Y l) (replaced_stays l) f)
        (λ e m v i is good. fits_counted (replaced X l) S f e m v i is)

    called_stays : (Fits : Data → Type 0) (l : ℕ) (f : Option Function) (formed : Bool) (k : List ℕ) (d : Data)
        (o p : Outcome Data) → SoleStays (sole_of X S l k d) (sole_of Y T l k d) → StaysIf Fits o p → (n : ℕ)
        → StaysIf Fits (called (replaced X l) S f formed (sole_of X S l k d) o n)
        (called (replaced Y l) T f formed (sole_of Y T l k d) p n)
    called_stays Fits l None formed k d o p stays plain n = plain
    called_stays Fits l (Some f) formed k d o p stays plain n =
        stays_if Fits (call (replaced X l) S f formed (sole_of X S l k d) n)
        (call (replaced Y l) T f formed (sole_of Y T l k d) n) (call_stays l f formed k d stays n)

    -- ---- an if

    chose : (l : ℕ) (v : Data) (ns : Nodes) (n : ℕ) (e : Nodes) (m : ℕ)
        → made_into (node v) (branch_outcome X S l (flag_in v) ns n) ≡ Gives e m → HasTwo e → HasFlag v
    chose l v ns n e m = by (flag_in v)
      where
        by : (o : Option Bool) → made_into (node v) (branch_outcome X S l o ns n) ≡ Gives e m → HasTwo e → IsSome o
        by None is two =
            let one : e ≡ node v no_nodes = cc in
            let none : HasTwo (node v no_nodes) = subst HasTwo one two in cc
        by (Some c) is two = refl

    -- ---- values and conditions

    module _ (names : NamesStay) where
      mutual
        value_stays : (l : ℕ) (d : Data) (n : ℕ) → Stays (value_outcome X S l d n) (value_outcome Y T l d n)
        value_stays l null n = λ fits. refl
        value_stays l (flag c) n = λ fits. refl
        value_stays l (whole z) n = λ fits. refl
        value_stays l (words s) n = λ fits. refl
        value_stays zero (items ns) n = tt
        value_stays (suc l) (items ns) n = made_stays Any items (values_outcome X S l 0 ns n) _ (values_stay l 0 ns n)
        value_stays zero (fields ms) n = tt
        value_stays (suc l) (fields ms) n =
            object_stays l ms _ _ (made_stays Any fields (members_outcome X S l ms n) _ (members_stay l ms n)) n

        values_stay : (l : ℕ) (i : ℕ) (ns : Nodes) (n : ℕ) → Stays (values_outcome X S l i ns n) (values_outcome Y T l i ns n)
        values_stay l i no_nodes n = λ fits. refl
        values_stay l i (node d ns) n =
            next_stays Any Any (under (Index i) (value_outcome X S l d n)) (under (Index i) (value_outcome Y T l d n)) _ _
            (under_stays Any (Index i) (value_outcome X S l d n) _ (value_stays l d n))
            (λ v m. made_stays Any (node v) (values_outcome X S l (i + 1) ns m) _ (values_stay l (i + 1) ns m))
            (λ v m e k is good. tt)

        members_stay : (l : ℕ) (ms : Members) (n : ℕ) → Stays (members_outcome X S l ms n) (members_outcome Y T l ms n)
        members_stay l no_members n = λ fits. refl
        members_stay l (member k d ms) n =
            next_stays Any Any (under (Key k) (value_outcome X S l d n)) (under (Key k) (value_outcome Y T l d n)) _ _
            (under_stays Any (Key k) (value_outcome X S l d n) _ (value_stays l d n))
            (λ v m. made_stays Any (member k v) (members_outcome X S l ms m) _ (members_stay l ms m))
            (λ v m e i is good. tt)

        object_stays : (l : ℕ) (ms : Members) (o p : Outcome Data) → Stays o p → (n : ℕ)
            → Stays (object_outcome (replaced X l) S (sole X S l ms) o n) (object_outcome (replaced Y l) T (sole Y T l ms) p n)
        object_stays l no_members o p plain n = plain
        object_stays l (member k d no_members) o p plain n =
            called_stays Any l (function_of k) (is_formed k d) k d o p (record {
              each = parts_stay l d;
              all_but_template = repeat_stays l d;
              chosen_branch = if_stays l d;
              condition = condition_stays l d;
              conditions = condition_parts_stay l d;
            }) plain n
        object_stays l (member k d (member j e ms)) o p plain n = plain

        parts_stay : (l : ℕ) (d : Data) (n : ℕ) → Stays (parts_outcome X S l d n) (parts_outcome Y T l d n)
        parts_stay l null n = λ fits. refl
        parts_stay l (flag c) n = λ fits. refl
        parts_stay l (whole z) n = λ fits. refl
        parts_stay l (words s) n = λ fits. refl
        parts_stay l (items ns) n = made_stays Any items (values_outcome X S l 0 ns n) _ (values_stay l 0 ns n)
        parts_stay l (fields ms) n = made_stays Any fields (members_outcome X S l ms n) _ (members_stay l ms n)

        repeat_stays : (l : ℕ) (d : Data) (n : ℕ) → Stays (repeat_outcome X S l d n) (repeat_outcome Y T l d n)
        repeat_stays l null n = λ fits. refl
        repeat_stays l (flag c) n = λ fits. refl
        repeat_stays l (whole z) n = λ fits. refl
        repeat_stays l (words s) n = λ fits. refl
        repeat_stays l (items ns) n = λ fits. refl
        repeat_stays l (fields ms) n =
            made_stays Any fields (all_but_outcome X S l (codes "template") ms n) _
            (all_but_stays l (codes "template") ms n)

        all_but_stays : (l : ℕ) (but : List ℕ) (ms : Members) (n : ℕ)
            → Stays (all_but_outcome X S l but ms n) (all_but_outcome Y T l but ms n)
        all_but_stays l but no_members n = λ fits. refl
        all_but_stays l but (member k d ms) n =
            next_stays Any Any (outcome_unless X S l but k d n) (outcome_unless Y T l but k d n) _ _
            (unless_stays (bytes_eq k but) d n (under (Key k) (value_outcome X S l d n)) _
            (under_stays Any (Key k) (value_outcome X S l d n) _ (value_stays l d n)))
            (λ v m. made_stays Any (member k v) (all_but_outcome X S l but ms m) _ (all_but_stays l but ms m))
            (λ v m e i is good. tt)

        if_stays : (l : ℕ) (d : Data) (n : ℕ) → StaysIf (λ a. HasTwo (listed a)) (if_outcome X S l d n) (if_outcome Y T l d n)
        if_stays l null n = λ fits. refl
        if_stays l (flag c) n = λ fits. refl
        if_stays l (whole z) n = λ fits. refl
        if_stays l (words s) n = λ fits. refl
        if_stays l (items ns) n =
            made_stays (λ a. HasTwo (listed a)) items (chosen_outcome X S l ns n) _ (chosen_stays l ns n)
        if_stays l (fields ms) n = λ fits. refl

        chosen_stays : (l : ℕ) (ns : Nodes) (n : ℕ) → StaysIf HasTwo (chosen_outcome X S l ns n) (chosen_outcome Y T l ns n)
        chosen_stays l no_nodes n = λ fits. refl
        chosen_stays l (node c ns) n =
            next_stays HasFlag HasTwo (under (Index 0) (condition_outcome X S l c n))
            (under (Index 0) (condition_outcome Y T l c n)) _ _
            (under_stays HasFlag (Index 0) (condition_outcome X S l c n) _ (condition_stays l c n))
            (λ v m. made_stays HasTwo (node v) (branch_outcome X S l (flag_in v) ns m) _
            (stays_if (λ e. HasTwo (node v e)) (branch_outcome X S l (flag_in v) ns m) _ (branch_stays l (flag_in v) ns m)))
            (λ v m. chose l v ns m)

        branch_stays : (l : ℕ) (c : Option Bool) (ns : Nodes) (n : ℕ)
            → Stays (branch_outcome X S l c ns n) (branch_outcome Y T l c ns n)
        branch_stays l None no_nodes n = λ fits. refl
        branch_stays l None (node d ns) n = λ fits. refl
        branch_stays l (Some true) no_nodes n = λ fits. refl
        branch_stays l (Some true) (node d ns) n =
            made_stays Any alone (under (Index 1) (value_outcome X S l d n)) _
            (under_stays Any (Index 1) (value_outcome X S l d n) _ (value_stays l d n))
        branch_stays l (Some false) no_nodes n = λ fits. refl
        branch_stays l (Some false) (node d no_nodes) n = λ fits. refl
        branch_stays l (Some false) (node d (node e ns)) n =
            made_stays Any alone (under (Index 2) (value_outcome X S l e n)) _
            (under_stays Any (Index 2) (value_outcome X S l e n) _ (value_stays l e n))

        condition_stays : (l : ℕ) (d : Data) (n : ℕ) → StaysIf HasFlag (condition_outcome X S l d n) (condition_outcome Y T l d n)
        condition_stays l null n = λ fits. refl
        condition_stays l (flag c) n = λ fits. refl
        condition_stays l (whole z) n = λ fits. refl
        condition_stays l (words s) n = λ fits. ap (λ v. Gives v n) (names s fits)
        condition_stays l (items ns) n = λ fits. refl
        condition_stays zero (fields ms) n = tt
        condition_stays (suc l) (fields ms) n =
            object_condition_stays l ms (Gives (fields ms) n) (Gives (fields ms) n) (λ fits. refl) n

        object_condition_stays : (l : ℕ) (ms : Members) (o p : Outcome Data) → StaysIf HasFlag o p → (n : ℕ)
            → StaysIf HasFlag (object_condition (replaced X l) S (sole X S l ms) o n) (object_condition (replaced Y l) T (sole Y T l ms) p n)
        object_condition_stays l no_members o p plain n = plain
        object_condition_stays l (member k d no_members) o p plain n =
            called_stays HasFlag l (condition_function_of k) (is_condition_formed k d) k d o p (record {
              each = parts_stay l d;
              all_but_template = repeat_stays l d;
              chosen_branch = if_stays l d;
              condition = condition_stays l d;
              conditions = condition_parts_stay l d;
            }) plain n
        object_condition_stays l (member k d (member j e ms)) o p plain n = plain

        condition_parts_stay : (l : ℕ) (d : Data) (n : ℕ)
            → StaysIf (λ a. HasFlags (listed a)) (condition_parts_outcome X S l d n) (condition_parts_outcome Y T l d n)
        condition_parts_stay l null n = λ fits. refl
        condition_parts_stay l (flag c) n = λ fits. refl
        condition_parts_stay l (whole z) n = λ fits. refl
        condition_parts_stay l (words s) n = λ fits. refl
        condition_parts_stay l (items ns) n =
            made_stays (λ a. HasFlags (listed a)) items (conditions_outcome X S l 0 ns n) _ (conditions_stay l 0 ns n)
        condition_parts_stay l (fields ms) n = λ fits. refl

        conditions_stay : (l : ℕ) (i : ℕ) (ns : Nodes) (n : ℕ)
            → StaysIf HasFlags (conditions_outcome X S l i ns n) (conditions_outcome Y T l i ns n)
        conditions_stay l i no_nodes n = λ fits. refl
        conditions_stay l i (node d ns) n =
            next_stays HasFlag HasFlags (under (Index i) (condition_outcome X S l d n))
            (under (Index i) (condition_outcome Y T l d n)) _ _
            (under_stays HasFlag (Index i) (condition_outcome X S l d n) _ (condition_stays l d n))
            (λ v m. made_stays HasFlags (node v) (conditions_outcome X S l (i + 1) ns m) _
            (stays_where HasFlags (λ e. HasFlags (node v e)) (conditions_outcome X S l (i + 1) ns m) _ (flags_rest v)
            (conditions_stay l (i + 1) ns m)))
            (λ v m. first_has v (conditions_outcome X S l (i + 1) ns m))

  -- ---- the whole

  module _ (names : NamesStay) where
    within_stays : (k l : ℕ) (d : Data) (n : ℕ) → Stays (evaluation_within k S l d n) (evaluation_within k T l d n)
    within_stays zero l d n = tt
    within_stays (suc k) l d n = value_stays (evaluation_within k S) (evaluation_within k T) (within_stays k) names l d n

    pub whole_stays : (k l : ℕ) (d : Data) (n : ℕ)
        → StaysIf HasFlag (condition_outcome (evaluation_within k S) S l d n)
        (condition_outcome (evaluation_within k T) T l d n)
    whole_stays k = condition_stays (evaluation_within k S) (evaluation_within k T) (within_stays k) names
