-- A function's call comes to the same with facts that agree at the name it refers to.
use Rattle.std.proofs.Common.{◌≡◌, ◌∙◌, ◌+◌, ℕ, zero, suc, List, [], ◌∷◌, Bool, true, false, Option, Some, None}
use Rattle.std.proofs.Common.{Result, Ok, Err, refl, sym, subst, bytes_eq, codes, nat_le, unwrap_or}
use Rattle.std.proofs.Common.{option_map, option_and_then}
use Rattle.std.specs.Prelude.{option_to_list}
use Rattle.std.proofs.Common.{if◌then◌else◌}
use Rattle.heat_plan.specs.declared.facts.Facts.{Facts}
use Rattle.heat_plan.specs.declared.facts.KnownFacts.{KnownFacts}
use Rattle.heat_value.specs.Data.{Data, null, flag, whole, words, items, fields, Nodes, no_nodes, node}
use Rattle.heat_value.specs.declared.path.Step.{Step}
use Rattle.heat_value.specs.declared.path.Step.TheVariants.{Key}
use Rattle.eval_words.specs.Choices.{Choice, Repetition, repetition}
use Rattle.eval_words.specs.Evaluation.{Evaluating, Leveled, argument, call, answer_of, replaced as level_of}
use Rattle.eval_words.specs.Evaluation.{repeated, choice_outcome, choices_outcome, counted, in_repeat}
use Rattle.eval_words.specs.Evaluation.{sole_of, values_outcome, parts_outcome, called}
use Rattle.eval_words.specs.Fillings.{filled}
use Rattle.eval_words.specs.Lookups.{resource, attribute, attributes_at}
use Rattle.eval_words.specs.Manners.{manner_of}
use Rattle.eval_words.specs.Names.{function_of, condition_function_of, is_formed, is_condition_formed}
use Rattle.eval_words.specs.Needs.{referred}
use Rattle.eval_words.specs.Outcomes.{Outcome, Gives, Faults, and_then, made_into, seen_from, under, charged, answered}
use Rattle.eval_words.specs.Outcomes.{size, cost_limit}
use Rattle.eval_words.specs.Scenes.{SceneData}
use Rattle.eval_words.specs.Sorts.{text_in}
use Rattle.eval_words.specs.declared.code.FaultCode.{FaultCode}
use Rattle.eval_words.specs.declared.code.FaultCode.TheVariants.{F07}
use Rattle.eval_words.specs.declared.function.Function.{Function}
use Rattle.eval_words.specs.declared.function.Function.TheVariants as function
use Rattle.template_laws.specs.Readings.{AgreeAt, AgreeOn}
use Rattle.template_laws.proofs.Named.{IfNamed, function_by, condition_by}
use Rattle.template_laws.proofs.Told.{agree_first}

-- ---- what is done next with what is made

-- the same of what a limit lets through
charged_same : {A B : Type 0} (a : A) (cost spent : ℕ) (f g : A → ℕ → Outcome B) → ((n : ℕ) → f a n ≡ g a n)
    → and_then (charged a cost spent) f ≡ and_then (charged a cost spent) g
charged_same {A} {B} a cost spent f g same = by (nat_le (spent + cost) cost_limit)
  where
    by : (c : Bool) → and_then (if c then Gives a (spent + cost) else Faults F07 []) f
        ≡ and_then (if c then Gives a (spent + cost) else Faults F07 []) g
    by true = same (spent + cost)
    by false = refl

-- the same of a list that begins with a text
listed_same : {B : Type 0} (s : Step) (name : List ℕ) (o : Outcome Nodes) (f g : Data → ℕ → Outcome B)
    → ((ns : Nodes) (n : ℕ) → f (items (node (words name) ns)) n ≡ g (items (node (words name) ns)) n)
    → and_then (under s (made_into items (made_into (node (words name)) o))) f
    ≡ and_then (under s (made_into items (made_into (node (words name)) o))) g
listed_same s name (Gives ns n) f g same = same ns n
listed_same s name (Faults c p) f g same = refl

module _ (S : SceneData) (other : List KnownFacts) where
  -- the scene with those other facts
  abbrev pub with_other : SceneData
  with_other = record S { facts = other }

  -- ---- what reads facts

  pub resource_same : (name : List ℕ) → AgreeAt S.facts other name
      → resource S (words name) ≡ resource with_other (words name)
  resource_same name told = λ i. Ok (unwrap_or (option_map (λ (f : Facts). words f.id) (told i)) null)

  pub attribute_same : (name : List ℕ) (rest : Nodes) → AgreeAt S.facts other name
      → attribute S (items (node (words name) rest)) ≡ attribute with_other (items (node (words name) rest))
  attribute_same name rest told = λ i. Ok (unwrap_or (option_and_then (attributes_at rest) (told i)) null)

  -- ---- repeats

  module _ (X Y : Evaluating) where
    abbrev EvaluateAlike : Type 0
    EvaluateAlike = (d : Data) (n : ℕ) → X d n ≡ Y d n

    choice_same : EvaluateAlike → (t : Data) (c : Choice) (r : Option Data) (n : ℕ)
        → choice_outcome X t c r n ≡ choice_outcome Y t c r n
    choice_same one t c r n = λ i. and_then (counted c t r n) (λ d m. seen_from (in_repeat c t) (one d m i))

    choices_same : EvaluateAlike → (t : Data) (cs : List Choice) (n : ℕ)
        → choices_outcome X t cs n ≡ choices_outcome Y t cs n
    choices_same one t [] n = refl
    choices_same one t (c ∷ cs) n =
        λ i. and_then (choice_same one t c (filled c t) n i) (λ v m. made_into (node v) (choices_same one t cs m i))

    repeated_same : EvaluateAlike → (r : Result Repetition FaultCode) (n : ℕ) → repeated X r n ≡ repeated Y r n
    repeated_same one (Ok (cs, t)) n = λ i. and_then (choices_same one t cs n i) (λ ns m. answered (Ok (items ns)) m)
    repeated_same one (Err c) n = refl

  -- at any number of levels
  abbrev pub AreOne : Leveled → Leveled → Type 0
  AreOne X Y = (l : ℕ) (d : Data) (n : ℕ) → X l d n ≡ Y l d n

  replaced_same : (X Y : Leveled) → AreOne X Y → (l : ℕ) (d : Data) (n : ℕ) → level_of X l d n ≡ level_of Y l d n
  replaced_same X Y one zero d n = refl
  replaced_same X Y one (suc l) d n = one l d n

  module _ (X Y : Leveled) (l : ℕ) where
    -- ---- answers

    -- it answers each argument the same
    abbrev pub AnswerAlike : Function → Type 0
    AnswerAlike f = (a : Data) (n : ℕ) → answer_of (level_of X l) S f a n ≡ answer_of (level_of Y l) with_other f a n

    pub calls_same : (f : Function) (formed : Bool) (k : List ℕ) (d : Data)
        → sole_of X S l k d ≡ sole_of Y with_other l k d → AnswerAlike f → (n : ℕ)
        → call (level_of X l) S f formed (sole_of X S l k d) n ≡ call (level_of Y l) with_other f formed (sole_of Y with_other l k d) n
    calls_same f false k d parts same n = refl
    calls_same f true k d parts same n =
        λ i. and_then (under (Key k) (argument (manner_of f) (parts i) n)) (λ a m.
        and_then (charged a (size a) m) (λ b q. same b q i))

    -- ---- calls of each kind

    resource_calls : (d : Data) (n : ℕ) → AgreeOn (option_to_list (text_in d)) S.facts other
        → call (level_of X l) S function.Resource (is_formed (codes "get_resource") d) (sole_of X S l (codes "get_resource") d) n
        ≡ call (level_of Y l) with_other function.Resource (is_formed (codes "get_resource") d)
        (sole_of Y with_other l (codes "get_resource") d) n
    resource_calls null n told = refl
    resource_calls (flag b) n told = refl
    resource_calls (whole z) n told = refl
    resource_calls (words s) n told =
        charged_same (words s) (size (words s)) n (answer_of (level_of X l) S function.Resource)
        (answer_of (level_of Y l) with_other function.Resource)
        (λ m i. answered (resource_same s (agree_first S.facts other s [] told) i) m)
    resource_calls (items ns) n told = refl
    resource_calls (fields ms) n told = refl

    attribute_calls : (formed : Bool) (s : List ℕ) (ns : Nodes) (n : ℕ) → AgreeAt S.facts other s
        → ((m : ℕ) → parts_outcome X S l (items (node (words s) ns)) m
        ≡ parts_outcome Y with_other l (items (node (words s) ns)) m)
        → call (level_of X l) S function.Attribute formed (sole_of X S l (codes "get_attr") (items (node (words s) ns))) n
        ≡ call (level_of Y l) with_other function.Attribute formed
        (sole_of Y with_other l (codes "get_attr") (items (node (words s) ns))) n
    attribute_calls false s ns n told parts = refl
    attribute_calls true s ns n told parts =
        listed_same (Key (codes "get_attr")) s (values_outcome X S l (0 + 1) ns n)
        (λ a m. and_then (charged a (size a) m) (answer_of (level_of X l) S function.Attribute))
        (λ a m. and_then (charged a (size a) m) (answer_of (level_of Y l) with_other function.Attribute))
        (λ ps m. charged_same (items (node (words s) ps)) (size (items (node (words s) ps))) m
        (answer_of (level_of X l) S function.Attribute) (answer_of (level_of Y l) with_other function.Attribute)
        (λ q i. answered (attribute_same s ps told i) q))
        ∙ (λ i. and_then (under (Key (codes "get_attr")) (parts n i))
        (λ a m. and_then (charged a (size a) m) (answer_of (level_of Y l) with_other function.Attribute)))

    -- ---- a member that names a function or none

    -- what has to be the same for the call of a function to be
    pub record Parts (k : List ℕ) (d : Data) : Type 0 where
      pub sole : sole_of X S l k d ≡ sole_of Y with_other l k d
      pub each : (n : ℕ) → parts_outcome X S l d n ≡ parts_outcome Y with_other l d n
      pub told : AgreeOn (option_to_list (referred (k, d))) S.facts other
      pub one : bytes_eq k (codes "repeat") ≡ true → AreOne X Y

    -- a call of the function is the same
    abbrev pub IsCalledAlike : List ℕ → Function → Type 0
    IsCalledAlike k f = (d : Data) → Parts k d → (n : ℕ)
        → call (level_of X l) S f (is_formed k d) (sole_of X S l k d) n
        ≡ call (level_of Y l) with_other f (is_formed k d) (sole_of Y with_other l k d) n

    refers : IsCalledAlike (codes "get_resource") function.Resource
    refers d parts n = resource_calls d n parts.told

    refers_to_attribute : IsCalledAlike (codes "get_attr") function.Attribute
    refers_to_attribute null parts n = refl
    refers_to_attribute (flag b) parts n = refl
    refers_to_attribute (whole z) parts n = refl
    refers_to_attribute (words s) parts n = refl
    refers_to_attribute (items no_nodes) parts n = refl
    refers_to_attribute (items (node null ns)) parts n = refl
    refers_to_attribute (items (node (flag b) ns)) parts n = refl
    refers_to_attribute (items (node (whole z) ns)) parts n = refl
    refers_to_attribute (items (node (words s) ns)) parts n =
        attribute_calls (is_formed (codes "get_attr") (items (node (words s) ns))) s ns n
        (agree_first S.facts other s [] parts.told) parts.each
    refers_to_attribute (items (node (items ps) ns)) parts n = refl
    refers_to_attribute (items (node (fields ms) ns)) parts n = refl
    refers_to_attribute (fields ms) parts n = refl

    repeats : IsCalledAlike (codes "repeat") function.Repeat
    repeats d parts n =
        calls_same function.Repeat (is_formed (codes "repeat") d) (codes "repeat") d parts.sole
        (λ a m. repeated_same (level_of X l) (level_of Y l) (replaced_same X Y (parts.one refl) l) (repetition a) m) n

    other_call : (k : List ℕ) (f : Function) → AnswerAlike f → IsCalledAlike k f
    other_call k f same d parts n = calls_same f (is_formed k d) k d parts.sole same n

    each_alike : (k : List ℕ) → IfNamed (IsCalledAlike k) (function_of k)
    each_alike k = function_by (IsCalledAlike k) k
        (λ e. other_call k function.Parameter (λ a n. refl))
        (λ e. subst (λ x. IsCalledAlike x function.Resource) (sym e) refers)
        (λ e. subst (λ x. IsCalledAlike x function.Attribute) (sym e) refers_to_attribute)
        (λ e. other_call k function.File (λ a n. refl))
        (λ e. other_call k function.Join (λ a n. refl))
        (λ e. other_call k function.Split (λ a n. refl))
        (λ e. other_call k function.Replace (λ a n. refl))
        (λ e. other_call k function.ReplaceStrictly (λ a n. refl))
        (λ e. subst (λ x. IsCalledAlike x function.Repeat) (sym e) repeats)
        (λ e. other_call k function.Digest (λ a n. refl))
        (λ e. other_call k function.MergeMaps (λ a n. refl))
        (λ e. other_call k function.ReplaceInMap (λ a n. refl))
        (λ e. other_call k function.Concat (λ a n. refl))
        (λ e. other_call k function.ConcatUnique (λ a n. refl))
        (λ e. other_call k function.Filter (λ a n. refl))
        (λ e. other_call k function.Contains (λ a n. refl))
        (λ e. other_call k function.If (λ a n. refl))

    pub value_called : (k : List ℕ) (d : Data) → Parts k d → (o p : Outcome Data) → o ≡ p → (n : ℕ)
        → called (level_of X l) S (function_of k) (is_formed k d) (sole_of X S l k d) o n
        ≡ called (level_of Y l) with_other (function_of k) (is_formed k d) (sole_of Y with_other l k d) p n
    value_called k d parts o p plain n = by (function_of k) (each_alike k)
      where
        by : (f : Option Function) → IfNamed (IsCalledAlike k) f
            → called (level_of X l) S f (is_formed k d) (sole_of X S l k d) o n
            ≡ called (level_of Y l) with_other f (is_formed k d) (sole_of Y with_other l k d) p n
        by None alike = plain
        by (Some f) alike = alike d parts n

    pub condition_called : (k : List ℕ) (d : Data) → sole_of X S l k d ≡ sole_of Y with_other l k d → (o : Outcome Data)
        (n : ℕ)
        → called (level_of X l) S (condition_function_of k) (is_condition_formed k d) (sole_of X S l k d) o n
        ≡ called (level_of Y l) with_other (condition_function_of k) (is_condition_formed k d) (sole_of Y with_other l k d) o n
    condition_called k d sole o n = by (condition_function_of k) all
      where
        all : IfNamed AnswerAlike (condition_function_of k)
        all = condition_by AnswerAlike k (λ e a m. refl) (λ e a m. refl) (λ e a m. refl) (λ e a m. refl)
            (λ e a m. refl) (λ e a m. refl)

        by : (f : Option Function) → IfNamed AnswerAlike f
            → called (level_of X l) S f (is_condition_formed k d) (sole_of X S l k d) o n
            ≡ called (level_of Y l) with_other f (is_condition_formed k d) (sole_of Y with_other l k d) o n
        by None alike = refl
        by (Some f) alike = calls_same f (is_condition_formed k d) k d sole alike n
