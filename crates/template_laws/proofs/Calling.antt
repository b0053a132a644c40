-- A call in its form is at fault by what its argument came to, at a fault of its argument, or in what it replaced.
use Rattle.std.proofs.Common.{◌≡◌, ◌+◌, List, [], ◌∷◌, ℕ, Bool, true, false, Option, Some, None, refl, sym, subst, arith}
use Rattle.std.proofs.Common.{Result, Ok, Err, Contains, codes, nat_le, if◌then◌else◌}
use Rattle.std.specs.Prelude.{⊤}
use Rattle.heat_value.specs.Data.{Data, items, fields, node}
use Rattle.heat_value.specs.Data.{no_members, member}
use Rattle.heat_value.specs.declared.path.Step.{Step}
use Rattle.heat_value.specs.declared.path.Step.TheVariants.{Key}
use Rattle.eval_words.specs.Choices.{Choice, Repetition, repetition}
use Rattle.eval_words.specs.Evaluation.{Evaluating, argument, call, answer_of, answered_by, own_answer, sole_of}
use Rattle.eval_words.specs.Evaluation.{repeated, choice_outcome, choices_outcome, added, counted, choice_cost, in_repeat, Leveled, replaced as level_of}
use Rattle.eval_words.specs.Fillings.{filled, filled_size, literal_path}
use Rattle.eval_words.specs.Manners.{manner_of}
use Rattle.eval_words.specs.Outcomes.{Outcome, Gives, Faults, and_then, made_into, seen_from, under, charged, answered}
use Rattle.eval_words.specs.Outcomes.{size, is_result, cost_limit}
use Rattle.eval_words.specs.Scenes.{SceneData}
use Rattle.eval_words.specs.declared.code.FaultCode.{FaultCode}
use Rattle.eval_words.specs.declared.code.FaultCode.TheVariants.{F05, F06, F07}
use Rattle.eval_words.specs.declared.function.Function.{Function}
use Rattle.eval_words.specs.declared.function.Function.TheVariants as function
use Rattle.hot_functions.specs.Forms.{has_form}
use Rattle.template_laws.specs.Faulting.{MayFault, own, faults_of, IsCallAt}
use Rattle.template_laws.specs.Formed.{IsThere}
use Rattle.template_laws.specs.Reached.{IsPart}
use Rattle.template_laws.specs.Roles.{Role, argument_role}
use Rattle.template_laws.proofs.Codes.{Answers, Fits, MayRepeat, may_cost, may_repeat}
use Rattle.template_laws.proofs.Forms.{form_for}
use Rattle.template_laws.proofs.Holding.{Fault, Holds, under_holds, then_holds, made_holds, deeper}
use Rattle.template_laws.proofs.Likeness.{ComesTo, IsOwned, owned}

-- ---- limits

-- within the limit, or F07
charged_holds : {A : Type 0} (P : A → Type 0) (Q : Fault) (a : A) (cost spent : ℕ) → P a → Q F07 []
    → Holds P Q (charged a cost spent)
charged_holds {A} P Q a cost spent made over = by (nat_le (spent + cost) cost_limit)
  where
    by : (b : Bool) → Holds P Q (if b then Gives a (spent + cost) else Faults F07 [])
    by true = made
    by false = over

module _ (f : Function) (Q : Fault) (all : (c : FaultCode) → Contains (faults_of f) c → Q c []) where
  -- an answer, F06 where it is too large, F07 where it costs too much
  answered_holds : (r : Result Data FaultCode) (spent : ℕ) → Answers f r → Holds (Fits f) Q (answered r spent)
  answered_holds (Ok v) spent (large, fits) = by (is_result v) refl
    where
      by : (b : Bool) → is_result v ≡ b
          → Holds (Fits f) Q (if b then charged v (size v) spent else Faults F06 [])
      by true is = charged_holds (Fits f) Q v (size v) spent fits (all F07 (may_cost f))
      by false is = all F06 (large is)
  answered_holds (Err c) spent is = all c is

-- ---- repeats

module _ (X : Evaluating) (Q : Fault) (all : (c : FaultCode) → Contains (faults_of function.Repeat) c → Q c [])
    (inside : (c : FaultCode) (p : List Step) → Q c (Key (codes "repeat") ∷ Key (codes "template") ∷ p)) where
  -- a replaced template's faults stand inside
  inside_holds : (c : Choice) (t : Data) (o : Outcome Data) → Holds (λ d. ⊤) Q (seen_from (in_repeat c t) o)
  inside_holds c t (Gives d n) = tt
  inside_holds c t (Faults code p) = inside code (literal_path c t p)

  added_holds : (t : Data) (r : Option Data) (spent : ℕ) → Holds (λ d. ⊤) Q (added t r spent)
  added_holds t None spent = all F05 (2, omega arith, refl)
  added_holds t (Some d) spent =
      charged_holds (λ e. ⊤) Q d (choice_cost t d) spent tt (all F07 (may_cost function.Repeat))

  counted_holds : (c : Choice) (t : Data) (r : Option Data) (spent : ℕ) → Holds (λ d. ⊤) Q (counted c t r spent)
  counted_holds c t r spent = by (nat_le (spent + filled_size c t) cost_limit)
    where
      by : (b : Bool) → Holds (λ d. ⊤) Q (if b then added t r spent else Faults F07 [])
      by true = added_holds t r spent
      by false = all F07 (may_cost function.Repeat)

  choice_holds : (t : Data) (c : Choice) (r : Option Data) (spent : ℕ)
      → Holds (λ d. ⊤) Q (choice_outcome X t c r spent)
  choice_holds t c r spent =
      then_holds (λ d. ⊤) Q (λ d. ⊤) (counted c t r spent) (λ d n. seen_from (in_repeat c t) (X d n))
      (counted_holds c t r spent) (λ d n any. inside_holds c t (X d n))

  choices_hold : (t : Data) (cs : List Choice) (spent : ℕ) → Holds (λ ns. ⊤) Q (choices_outcome X t cs spent)
  choices_hold t [] spent = tt
  choices_hold t (c ∷ cs) spent =
      then_holds (λ d. ⊤) Q (λ ns. ⊤) (choice_outcome X t c (filled c t) spent)
      (λ v n. made_into (node v) (choices_outcome X t cs n)) (choice_holds t c (filled c t) spent) (λ v n any.
      made_holds (λ ns. ⊤) Q (λ ns. ⊤) (node v) (choices_outcome X t cs n) (λ ns any. tt) (choices_hold t cs n))

  pub repeat_holds : (r : Result Repetition FaultCode) (spent : ℕ) → MayRepeat r
      → Holds (λ d. ⊤) Q (repeated X r spent)
  repeat_holds (Ok (cs, t)) spent may =
      then_holds (λ ns. ⊤) Q (λ d. ⊤) (choices_outcome X t cs spent) (λ ns n. answered (Ok (items ns)) n)
      (choices_hold t cs spent) (λ ns n any.
      answered_holds function.Repeat Q all (Ok (items ns)) n ((λ small. (3, omega arith, refl)), tt))
  repeat_holds (Err c) spent may = all c may

-- ---- answers and calls

-- what a repeat replaced is inside, whatever its fault
abbrev pub Inside : Function → Fault → Type 0
Inside f Q = function.Repeat ≡ f → (c : FaultCode) (p : List Step)
    → Q c (Key (codes "repeat") ∷ Key (codes "template") ∷ p)

module _ (S : SceneData) (X : Leveled) (l : ℕ) where
  answer_holds : (f : Function) (Q : Fault) → ((c : FaultCode) → Contains (faults_of f) c → Q c []) → Inside f Q
      → (a : Data) (o : Option (Result Data FaultCode)) → IsOwned S f o → (n : ℕ)
      → Holds (Fits f) Q (answered_by (level_of X l) a o n)
  answer_holds f Q all inside a None is n =
      subst (λ g. ((c : FaultCode) → Contains (faults_of g) c → Q c []) → Inside g Q
      → Holds (Fits g) Q (repeated (level_of X l) (repetition a) n)) is
      (λ every within. repeat_holds (level_of X l) Q every (within refl) (repetition a) n (may_repeat a)) all inside
  answer_holds f Q all inside a (Some r) is n = answered_holds f Q all r n is

  -- the argument of a function in its form
  abbrev pub ArgumentHolds : List ℕ → Data → Function → Type 0
  ArgumentHolds k d f = (n : ℕ)
      → Holds (ComesTo (manner_of f) d) (MayFault (argument_role (manner_of f)) d)
      (argument (manner_of f) (sole_of X S l k d) n)

  -- a call of a function in its form
  pub call_holds : (r : Role) (k : List ℕ) (d : Data) (f : Function) (formed : Bool)
      → IsCallAt r (fields (member k d no_members)) [] f → Inside f (MayFault r (fields (member k d no_members)))
      → IsPart r (fields (member k d no_members)) (Key k) (argument_role (manner_of f)) d → formed ≡ true
      → has_form (form_for f) d ≡ true → IsThere S f d → ArgumentHolds k d f → (n : ℕ)
      → Holds (Fits f) (MayFault r (fields (member k d no_members))) (call (level_of X l) S f formed (sole_of X S l k d) n)
  call_holds r k d f formed here inside part is has there argued n =
      subst (λ b. Holds (Fits f) Q (call (level_of X l) S f b (sole_of X S l k d) n)) (sym is) (
      then_holds (ComesTo (manner_of f) d) Q (Fits f) (under (Key k) (argument (manner_of f) (sole_of X S l k d) n))
      (λ a m. and_then (charged a (size a) m) (answer_of (level_of X l) S f))
      (under_holds (ComesTo (manner_of f) d) (MayFault (argument_role (manner_of f)) d) Q (Key k)
      (argument (manner_of f) (sole_of X S l k d) n)
      (deeper r (fields (member k d no_members)) (Key k) (argument_role (manner_of f)) d part) (argued n))
      (λ a m like. then_holds (ComesTo (manner_of f) d) Q (Fits f) (charged a (size a) m) (answer_of (level_of X l) S f)
      (charged_holds (ComesTo (manner_of f) d) Q a (size a) m like (all F07 (may_cost f))) (λ b m came.
      answer_holds f Q all inside b (own_answer S f b) (owned S f d b has there came) m)))
    where
      Q : Fault
      Q = MayFault r (fields (member k d no_members))

      all : (c : FaultCode) → Contains (faults_of f) c → Q c []
      all c may = own f here may
