-- What objects, calls and repeats look up, by what they are.
use Rattle.std.proofs.Common.{◌≡◌, ◌∙◌, ◌++◌, ℕ, suc, List, [], ◌∷◌, Bool, true, false, Option, Some, None}
use Rattle.std.proofs.Common.{refl, sym, ap, option_map, if◌then◌else◌}
use Rattle.heat_value.specs.Data.{Data, fields, Members, no_members, member}
use Rattle.eval_words.specs.Choices.{Choice, Lists}
use Rattle.eval_words.specs.Evaluation.{Leveled, Evaluating, Sole, argument, choice_outcome, counted, replaced, sole_of}
use Rattle.eval_words.specs.Fillings.{filled}
use Rattle.eval_words.specs.Looks.{Looks, Reading, LeveledReading, SoleReads, reads_behind, replaced_reads, choices_reads}
use Rattle.eval_words.specs.Looks.{answer_reads, call_reads, called_reads, argument_reads}
use Rattle.eval_words.specs.Manners.{manner_of}
use Rattle.eval_words.specs.Names.{function_of, condition_function_of, is_formed, is_condition_formed, named_in}
use Rattle.eval_words.specs.Outcomes.{Gives, charged, size}
use Rattle.eval_words.specs.Reads.{value_reads, condition_reads, members_reads}
use Rattle.eval_words.specs.Scenes.{SceneData}
use Rattle.eval_words.specs.declared.fault.EvalFault.{EvalFault}
use Rattle.eval_words.specs.declared.function.Function.{Function}
use Rattle.hot_eval.specs.Answers.{IsFaultIn}
use Rattle.hot_eval.specs.Noted.{noted, IsNotedTo, sole_reads_of}
use Rattle.hot_eval.specs.Repeats.{ArePlaces, GoesOn, choice_at, choices_from}
use Rattle.hot_eval.proofs.Noting.{IsReadWay, way_next, way_stops}
use Rattle.hot_eval.proofs.Steps.{first_choice}

-- ---- objects

module _ (A : Leveled) (R : LeveledReading) (S : SceneData) (all l : ℕ) (n : ℕ) (deep : all ≡ suc l) where
  abbrev looks_by : Members → Option (List ℕ × Data × Function) → Looks
  looks_by ms None = members_reads A R S l ms n
  looks_by ms (Some c) =
      call_reads (replaced A l) (replaced_reads R l) c.2 (is_formed c.0 c.1) (sole_of A S l c.0 c.1) (sole_reads_of A R S l c.1) n

  abbrev condition_looks_by : Members → Option (List ℕ × Data × Function) → Looks
  condition_looks_by ms None = []
  condition_looks_by ms (Some c) =
      call_reads (replaced A l) (replaced_reads R l) c.2 (is_condition_formed c.0 c.1) (sole_of A S l c.0 c.1)
      (sole_reads_of A R S l c.1) n

  by_name : (k : List ℕ) (d : Data) (o : Option Function)
      → called_reads (replaced A l) (replaced_reads R l) o (is_formed k d) (sole_of A S l k d) (sole_reads_of A R S l d)
      (members_reads A R S l (member k d no_members) n) n
      ≡ looks_by (member k d no_members) (option_map (λ f. (k, d, f)) o)
  by_name k d None = refl
  by_name k d (Some f) = refl

  by_condition : (k : List ℕ) (d : Data) (o : Option Function)
      → called_reads (replaced A l) (replaced_reads R l) o (is_condition_formed k d) (sole_of A S l k d) (sole_reads_of A R S l d)
      [] n
      ≡ condition_looks_by (member k d no_members) (option_map (λ f. (k, d, f)) o)
  by_condition k d None = refl
  by_condition k d (Some f) = refl

  object_by : (ms : Members) → value_reads A R S (suc l) (fields ms) n ≡ looks_by ms (named_in function_of ms)
  object_by no_members = refl
  object_by (member k d no_members) = by_name k d (function_of k)
  object_by (member k d (member m e ms)) = refl

  as_condition : (ms : Members)
      → condition_reads A R S (suc l) (fields ms) n ≡ condition_looks_by ms (named_in condition_function_of ms)
  as_condition no_members = refl
  as_condition (member k d no_members) = by_condition k d (condition_function_of k)
  as_condition (member k d (member m e ms)) = refl

  at_value : (ms : Members) → value_reads A R S all (fields ms) n ≡ value_reads A R S (suc l) (fields ms) n
  at_value ms = ap (λ x. value_reads A R S x (fields ms) n) deep

  at_condition : (ms : Members) → condition_reads A R S all (fields ms) n ≡ condition_reads A R S (suc l) (fields ms) n
  at_condition ms = ap (λ x. condition_reads A R S x (fields ms) n) deep

  pub object_looks : (ms : Members) (c : List ℕ × Data × Function) → Some c ≡ named_in function_of ms
      → value_reads A R S all (fields ms) n
      ≡ call_reads (replaced A l) (replaced_reads R l) c.2 (is_formed c.0 c.1) (sole_of A S l c.0 c.1) (sole_reads_of A R S l c.1) n
  object_looks ms c is = at_value ms ∙ object_by ms ∙ ap (looks_by ms) (sym is)

  pub object_plain_looks : (ms : Members) → None ≡ named_in function_of ms
      → value_reads A R S all (fields ms) n ≡ members_reads A R S l ms n
  object_plain_looks ms is = at_value ms ∙ object_by ms ∙ ap (looks_by ms) (sym is)

  pub condition_calls_looks : (ms : Members) (c : List ℕ × Data × Function) → Some c ≡ named_in condition_function_of ms
      → condition_reads A R S all (fields ms) n
      ≡ call_reads (replaced A l) (replaced_reads R l) c.2 (is_condition_formed c.0 c.1) (sole_of A S l c.0 c.1)
      (sole_reads_of A R S l c.1) n
  condition_calls_looks ms c is = at_condition ms ∙ as_condition ms ∙ ap (condition_looks_by ms) (sym is)

-- ---- calls

module _ (A : Evaluating) (R : Reading) (f : Function) (m : Sole) (r : SoleReads) (n : ℕ) where
  abbrev then_answers : Data → ℕ → Looks
  then_answers a s = reads_behind (charged a (size a) s) (answer_reads A R f)

  abbrev formed_looks : Looks
  formed_looks = argument_reads (manner_of f) r n ++ reads_behind (argument (manner_of f) m n) then_answers

  pub formed_are : (formed : Bool) → formed ≡ true → call_reads A R f formed m r n ≡ formed_looks
  formed_are formed is = ap (λ b. if b then formed_looks else []) is

-- ---- repeats

module _ (A : Evaluating) (R : Reading) (t : Data) (whole : Looks) (ls : Lists) (ps : List ℕ) (c : Choice)
    (same : c ≡ choice_at ls ps) where
  -- what this choice looks up
  abbrev here : ℕ → Looks
  here n = reads_behind (counted c t (filled c t) n) R

  at_first : (rest : List Choice) (n : ℕ) → choices_from ls ps ≡ choice_at ls ps ∷ rest
      → choices_reads A R t (choices_from ls ps) n
      ≡ here n ++ reads_behind (choice_outcome A t c (filled c t) n) (λ v s. choices_reads A R t rest s)
  at_first rest n is =
      ap (λ (cs : List Choice). choices_reads A R t cs n) (is ∙ ap (λ (x : Choice). x ∷ rest) (sym same))

  pub turn_reads_stop : (e : EvalFault) (n : ℕ) (old now new : Option Looks) → ArePlaces ls ps
      → IsReadWay whole (choices_reads A R t (choices_from ls ps) n) old now
      → IsFaultIn e (choice_outcome A t c (filled c t) n) → IsNotedTo e now new (here n) → IsNotedTo e old new whole
  turn_reads_stop e n old now new places way is h =
      let first = first_choice ls ps places in
      way_stops e whole _ (here n) (choice_outcome A t c (filled c t) n) (λ v s. choices_reads A R t first.0 s)
      old now new way (at_first first.0 n first.1) is h

  pub turn_reads_on : (b : Bool) (qs : List ℕ) (d : Data) (n m : ℕ) (old now then' : Option Looks) → b ≡ true
      → IsReadWay whole (choices_reads A R t (choices_from ls ps) n) old now
      → choice_outcome A t c (filled c t) n ≡ Gives d m → then' ≡ noted (here n) now → GoesOn b ls ps qs
      → IsReadWay whole (choices_reads A R t (choices_from ls qs) m) old then'
  turn_reads_on false qs d n m old now then' b way is first goes = cc
  turn_reads_on true qs d n m old now then' b way is first goes =
      way_next whole _ (here n) (choice_outcome A t c (filled c t) n) (λ v s. choices_reads A R t (choices_from ls qs) s)
      d m old now then' way (at_first (choices_from ls qs) n goes.1) is first
