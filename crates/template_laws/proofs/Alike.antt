-- What is evaluated comes to the same with facts that agree at each name that the evaluation looks up.
use Rattle.std.proofs.Common.{◌≡◌, ◌∙◌, ◌+◌, ◌++◌, ℕ, zero, suc, List, [], ◌∷◌, Bool, true, false, Option, Some}
use Rattle.std.proofs.Common.{None, Result, Ok, Err, refl, ap, sym, bytes_eq, codes, nat_le, if◌then◌else◌}
use Rattle.std.specs.Prelude.{option_to_list}
use Rattle.heat_plan.specs.declared.facts.KnownFacts.{KnownFacts}
use Rattle.heat_value.specs.Data.{Data, null, flag, whole, words, items, fields, Nodes, no_nodes, node}
use Rattle.heat_value.specs.Data.{Members, no_members, member}
use Rattle.heat_value.specs.declared.path.Step.{Step}
use Rattle.heat_value.specs.declared.path.Step.TheVariants.{Key, Index}
use Rattle.eval_words.specs.Choices.{Choice, Repetition, repetition}
use Rattle.eval_words.specs.Evaluation.{Evaluating, Leveled, alone, argument, answer_of, call, called, replaced as level_of}
use Rattle.eval_words.specs.Evaluation.{choice_outcome, choices_outcome, counted, in_repeat, repeated, sole_of}
use Rattle.eval_words.specs.Evaluation.{value_outcome, values_outcome, members_outcome, parts_outcome, repeat_outcome}
use Rattle.eval_words.specs.Evaluation.{all_but_outcome, if_outcome, chosen_outcome, branch_outcome, condition_outcome}
use Rattle.eval_words.specs.Evaluation.{condition_parts_outcome, conditions_outcome, sole, object_outcome, object_condition}
use Rattle.eval_words.specs.Fillings.{filled}
use Rattle.eval_words.specs.Looks.{Looks, Reading, LeveledReading, SoleReads, reads_behind, reads_inside, replaced_reads}
use Rattle.eval_words.specs.Looks.{answer_reads, argument_reads, call_reads, called_reads, choices_reads, repeated_reads}
use Rattle.eval_words.specs.Looks.{object_reads, object_condition_reads}
use Rattle.eval_words.specs.Manners.{manner_of}
use Rattle.eval_words.specs.Names.{function_of, condition_function_of, is_formed, is_condition_formed}
use Rattle.eval_words.specs.Outcomes.{Outcome, Gives, Faults, and_then, made_into, seen_from, under, charged, answered, size}
use Rattle.eval_words.specs.Reads.{value_reads, values_reads, members_reads, sole_reads, parts_reads, repeat_reads}
use Rattle.eval_words.specs.Reads.{all_but_reads, if_reads, chosen_reads, branch_reads, condition_reads}
use Rattle.eval_words.specs.Reads.{condition_parts_reads, conditions_reads}
use Rattle.eval_words.specs.Scenes.{SceneData}
use Rattle.eval_words.specs.Sorts.{flag_in}
use Rattle.eval_words.specs.declared.code.FaultCode.{FaultCode}
use Rattle.eval_words.specs.declared.function.Function.{Function}
use Rattle.eval_words.specs.declared.function.Function.TheVariants as function
use Rattle.eval_words.specs.declared.manner.Manner.{Manner}
use Rattle.eval_words.specs.declared.manner.Manner.TheVariants as manner
use Rattle.template_laws.specs.Readings.{AgreeOn}
use Rattle.template_laws.proofs.Calls.{with_other, resource_same, attribute_same}
use Rattle.template_laws.proofs.Told.{agree_first, agree_front, agree_back}

module _ (S : SceneData) (other : List KnownFacts) where
  abbrev T : SceneData
  T = with_other S other

  -- facts are told of these names alike
  abbrev pub Told : Looks → Type 0
  Told names = AgreeOn names S.facts other

  front : (one two : Looks) → Told (one ++ two) → Told one
  front one two = agree_front S.facts other one two

  back : (one two : Looks) → Told (one ++ two) → Told two
  back one two = agree_back S.facts other one two

  -- what is done next is the same, where what it looks up is told of alike
  next_alike : {A B : Type 0} (out : List Step → List Step) (o p : Outcome A) (f g : A → ℕ → Outcome B) (h : A → ℕ → Looks)
      → o ≡ p → Told (reads_behind o h) → ((a : A) (n : ℕ) → Told (h a n) → f a n ≡ g a n)
      → and_then (seen_from out o) f ≡ and_then (seen_from out p) g
  next_alike out (Gives a n) p f g h same told next = next a n told ∙ ap (λ o. and_then (seen_from out o) g) same
  next_alike out (Faults c q) p f g h same told next = ap (λ o. and_then (seen_from out o) g) same

  then_alike : {A B : Type 0} (o p : Outcome A) (f g : A → ℕ → Outcome B) (h : A → ℕ → Looks)
      → o ≡ p → Told (reads_behind o h) → ((a : A) (n : ℕ) → Told (h a n) → f a n ≡ g a n)
      → and_then o f ≡ and_then p g
  then_alike (Gives a n) p f g h same told next = next a n told ∙ ap (λ o. and_then o g) same
  then_alike (Faults c q) p f g h same told next = ap (λ o. and_then o g) same

  -- ---- functions

  module _ (X Y : Evaluating) (R : Reading) (again : (d : Data) (n : ℕ) → Told (R d n) → X d n ≡ Y d n) where
    choice_alike : (t : Data) (c : Choice) (r : Option Data) (n : ℕ) → Told (reads_behind (counted c t r n) R)
        → choice_outcome X t c r n ≡ choice_outcome Y t c r n
    choice_alike t c r n told =
        then_alike (counted c t r n) (counted c t r n) (λ d m. seen_from (in_repeat c t) (X d m))
        (λ d m. seen_from (in_repeat c t) (Y d m)) R refl told
        (λ d m more. ap (seen_from (in_repeat c t)) (again d m more))

    choices_alike : (t : Data) (cs : List Choice) (n : ℕ) → Told (choices_reads X R t cs n)
        → choices_outcome X t cs n ≡ choices_outcome Y t cs n
    choices_alike t [] n told = refl
    choices_alike t (c ∷ cs) n told =
        then_alike (choice_outcome X t c (filled c t) n) (choice_outcome Y t c (filled c t) n)
        (λ v m. made_into (node v) (choices_outcome X t cs m)) (λ v m. made_into (node v) (choices_outcome Y t cs m))
        (λ v m. choices_reads X R t cs m)
        (choice_alike t c (filled c t) n (front (reads_behind (counted c t (filled c t) n) R) _ told))
        (back (reads_behind (counted c t (filled c t) n) R) _ told)
        (λ v m more. ap (made_into (node v)) (choices_alike t cs m more))

    repeated_alike : (r : Result Repetition FaultCode) (n : ℕ) → Told (repeated_reads X R r n) → repeated X r n ≡ repeated Y r n
    repeated_alike (Ok (cs, t)) n told =
        ap (λ (o : Outcome Nodes). and_then o (λ ns m. answered (Ok (items ns)) m)) (choices_alike t cs n told)
    repeated_alike (Err c) n told = refl

    resource_alike : (a : Data) (n : ℕ) → Told (answer_reads X R function.Resource a n)
        → answer_of X S function.Resource a n ≡ answer_of Y T function.Resource a n
    resource_alike null n told = refl
    resource_alike (flag b) n told = refl
    resource_alike (whole z) n told = refl
    resource_alike (words s) n told =
        λ i. answered (resource_same S other s (agree_first S.facts other s [] told) i) n
    resource_alike (items ns) n told = refl
    resource_alike (fields ms) n told = refl

    attribute_alike : (a : Data) (n : ℕ) → Told (answer_reads X R function.Attribute a n)
        → answer_of X S function.Attribute a n ≡ answer_of Y T function.Attribute a n
    attribute_alike null n told = refl
    attribute_alike (flag b) n told = refl
    attribute_alike (whole z) n told = refl
    attribute_alike (words s) n told = refl
    attribute_alike (items no_nodes) n told = refl
    attribute_alike (items (node null ns)) n told = refl
    attribute_alike (items (node (flag b) ns)) n told = refl
    attribute_alike (items (node (whole z) ns)) n told = refl
    attribute_alike (items (node (words s) ns)) n told =
        λ i. answered (attribute_same S other s ns (agree_first S.facts other s [] told) i) n
    attribute_alike (items (node (items ps) ns)) n told = refl
    attribute_alike (items (node (fields ms) ns)) n told = refl
    attribute_alike (fields ms) n told = refl

    answer_alike : (f : Function) (a : Data) (n : ℕ) → Told (answer_reads X R f a n)
        → answer_of X S f a n ≡ answer_of Y T f a n
    answer_alike function.Parameter a n told = refl
    answer_alike function.Resource a n told = resource_alike a n told
    answer_alike function.Attribute a n told = attribute_alike a n told
    answer_alike function.File a n told = refl
    answer_alike function.Join a n told = refl
    answer_alike function.Split a n told = refl
    answer_alike function.Replace a n told = refl
    answer_alike function.ReplaceStrictly a n told = refl
    answer_alike function.Repeat a n told = repeated_alike (repetition a) n told
    answer_alike function.Digest a n told = refl
    answer_alike function.MergeMaps a n told = refl
    answer_alike function.ReplaceInMap a n told = refl
    answer_alike function.Concat a n told = refl
    answer_alike function.ConcatUnique a n told = refl
    answer_alike function.Filter a n told = refl
    answer_alike function.Contains a n told = refl
    answer_alike function.If a n told = refl
    answer_alike function.FlagParameter a n told = refl
    answer_alike function.Equals a n told = refl
    answer_alike function.Not a n told = refl
    answer_alike function.And a n told = refl
    answer_alike function.Or a n told = refl

  -- ---- calls

  module _ (X Y : Leveled) (R : LeveledReading) (inner : (l : ℕ) (d : Data) (n : ℕ) → Told (R l d n) → X l d n ≡ Y l d n) where
    replaced_alike : (l : ℕ) (d : Data) (n : ℕ) → Told (replaced_reads R l d n) → level_of X l d n ≡ level_of Y l d n
    replaced_alike zero d n told = refl
    replaced_alike (suc l) d n told = inner l d n told

    -- what the only member of an object looks up
    abbrev its_reads : ℕ → Data → SoleReads
    its_reads l d = record {
      each = parts_reads X R S l d;
      all_but_template = repeat_reads X R S l d;
      chosen_branch = if_reads X R S l d;
      condition = condition_reads X R S l d;
      conditions = condition_parts_reads X R S l d;
    }

    -- it comes to the same as an argument in each manner
    record SoleAlike (l : ℕ) (d : Data) : Type 0 where
      each : (n : ℕ) → Told (parts_reads X R S l d n) → parts_outcome X S l d n ≡ parts_outcome Y T l d n
      all_but_template : (n : ℕ) → Told (repeat_reads X R S l d n) → repeat_outcome X S l d n ≡ repeat_outcome Y T l d n
      chosen_branch : (n : ℕ) → Told (if_reads X R S l d n) → if_outcome X S l d n ≡ if_outcome Y T l d n
      condition : (n : ℕ) → Told (condition_reads X R S l d n) → condition_outcome X S l d n ≡ condition_outcome Y T l d n
      conditions : (n : ℕ) → Told (condition_parts_reads X R S l d n)
          → condition_parts_outcome X S l d n ≡ condition_parts_outcome Y T l d n

    argument_alike : (l : ℕ) (k : List ℕ) (d : Data) → SoleAlike l d → (m : Manner) (n : ℕ)
        → Told (argument_reads m (its_reads l d) n)
        → argument m (sole_of X S l k d) n ≡ argument m (sole_of Y T l k d) n
    argument_alike l k d alike manner.Each n told = alike.each n told
    argument_alike l k d alike manner.AllButTemplate n told = alike.all_but_template n told
    argument_alike l k d alike manner.ChosenBranch n told = alike.chosen_branch n told
    argument_alike l k d alike manner.Condition n told = alike.condition n told
    argument_alike l k d alike manner.Conditions n told = alike.conditions n told

    call_alike : (l : ℕ) (f : Function) (formed : Bool) (k : List ℕ) (d : Data) → SoleAlike l d → (n : ℕ)
        → Told (call_reads (level_of X l) (replaced_reads R l) f formed (sole_of X S l k d) (its_reads l d) n)
        → call (level_of X l) S f formed (sole_of X S l k d) n ≡ call (level_of Y l) T f formed (sole_of Y T l k d) n
    call_alike l f false k d alike n told = refl
    call_alike l f true k d alike n told =
        next_alike (λ p. Key k ∷ p) (argument (manner_of f) (sole_of X S l k d) n) (argument (manner_of f) (sole_of Y T l k d) n)
        (λ a m. and_then (charged a (size a) m) (answer_of (level_of X l) S f))
        (λ a m. and_then (charged a (size a) m) (answer_of (level_of Y l) T f))
        (λ a m. reads_behind (charged a (size a) m) (answer_reads (level_of X l) (replaced_reads R l) f))
        (argument_alike l k d alike (manner_of f) n (front (argument_reads (manner_of f) (its_reads l d) n) _ told))
        (back (argument_reads (manner_of f) (its_reads l d) n) _ told)
        (λ a m more. then_alike (charged a (size a) m) (charged a (size a) m) (answer_of (level_of X l) S f)
        (answer_of (level_of Y l) T f) (answer_reads (level_of X l) (replaced_reads R l) f) refl more
        (answer_alike (level_of X l) (level_of Y l) (replaced_reads R l) (replaced_alike l) f))

    called_alike : (l : ℕ) (x : Option Function) (formed : Bool) (k : List ℕ) (d : Data) → SoleAlike l d → (o p : Outcome Data)
        (plain : Looks) → (Told plain → o ≡ p) → (n : ℕ)
        → Told (called_reads (level_of X l) (replaced_reads R l) x formed (sole_of X S l k d) (its_reads l d) plain n)
        → called (level_of X l) S x formed (sole_of X S l k d) o n
        ≡ called (level_of Y l) T x formed (sole_of Y T l k d) p n
    called_alike l None formed k d alike o p plain same n told = same told
    called_alike l (Some f) formed k d alike o p plain same n told = call_alike l f formed k d alike n told

    -- ---- a member of a repeat

    unless_alike : (l : ℕ) (but k : List ℕ) (d : Data) (ms : Members) (b : Bool) (n : ℕ)
        → ((m : ℕ) → Told (all_but_reads X R S l but ms m)
        → all_but_outcome X S l but ms m ≡ all_but_outcome Y T l but ms m)
        → (Told (value_reads X R S l d n) → value_outcome X S l d n ≡ value_outcome Y T l d n)
        → Told (if b then all_but_reads X R S l but ms n else value_reads X R S l d n
        ++ reads_behind (value_outcome X S l d n) (λ v m. all_but_reads X R S l but ms m))
        → and_then (if b then Gives d n else under (Key k) (value_outcome X S l d n))
        (λ v m. made_into (member k v) (all_but_outcome X S l but ms m))
        ≡ and_then (if b then Gives d n else under (Key k) (value_outcome Y T l d n))
        (λ v m. made_into (member k v) (all_but_outcome Y T l but ms m))
    unless_alike l but k d ms true n rest value told = ap (made_into (member k d)) (rest n told)
    unless_alike l but k d ms false n rest value told =
        next_alike (λ p. Key k ∷ p) (value_outcome X S l d n) (value_outcome Y T l d n)
        (λ v m. made_into (member k v) (all_but_outcome X S l but ms m))
        (λ v m. made_into (member k v) (all_but_outcome Y T l but ms m)) (λ v m. all_but_reads X R S l but ms m)
        (value (front (value_reads X R S l d n) _ told)) (back (value_reads X R S l d n) _ told)
        (λ v m more. ap (made_into (member k v)) (rest m more))

    -- ---- values and conditions

    mutual
      pub value_alike : (l : ℕ) (d : Data) (n : ℕ) → Told (value_reads X R S l d n)
          → value_outcome X S l d n ≡ value_outcome Y T l d n
      value_alike l null n told = refl
      value_alike l (flag b) n told = refl
      value_alike l (whole z) n told = refl
      value_alike l (words s) n told = refl
      value_alike zero (items ns) n told = refl
      value_alike (suc l) (items ns) n told = ap (made_into items) (values_alike l 0 ns n told)
      value_alike zero (fields ms) n told = refl
      value_alike (suc l) (fields ms) n told =
          object_alike l ms _ _ (members_reads X R S l ms n) (λ more. ap (made_into fields) (members_alike l ms n more)) n told

      values_alike : (l j : ℕ) (ns : Nodes) (n : ℕ) → Told (values_reads X R S l ns n)
          → values_outcome X S l j ns n ≡ values_outcome Y T l j ns n
      values_alike l j no_nodes n told = refl
      values_alike l j (node d ns) n told =
          next_alike (λ p. Index j ∷ p) (value_outcome X S l d n) (value_outcome Y T l d n)
          (λ v m. made_into (node v) (values_outcome X S l (j + 1) ns m))
          (λ v m. made_into (node v) (values_outcome Y T l (j + 1) ns m)) (λ v m. values_reads X R S l ns m)
          (value_alike l d n (front (value_reads X R S l d n) _ told)) (back (value_reads X R S l d n) _ told)
          (λ v m more. ap (made_into (node v)) (values_alike l (j + 1) ns m more))

      pub members_alike : (l : ℕ) (ms : Members) (n : ℕ) → Told (members_reads X R S l ms n)
          → members_outcome X S l ms n ≡ members_outcome Y T l ms n
      members_alike l no_members n told = refl
      members_alike l (member k d ms) n told =
          next_alike (λ p. Key k ∷ p) (value_outcome X S l d n) (value_outcome Y T l d n)
          (λ v m. made_into (member k v) (members_outcome X S l ms m))
          (λ v m. made_into (member k v) (members_outcome Y T l ms m)) (λ v m. members_reads X R S l ms m)
          (value_alike l d n (front (value_reads X R S l d n) _ told)) (back (value_reads X R S l d n) _ told)
          (λ v m more. ap (made_into (member k v)) (members_alike l ms m more))

      object_alike : (l : ℕ) (ms : Members) (o p : Outcome Data) (plain : Looks) → (Told plain → o ≡ p) → (n : ℕ)
          → Told (object_reads (level_of X l) (replaced_reads R l) (sole_reads X R S l ms) plain n)
          → object_outcome (level_of X l) S (sole X S l ms) o n ≡ object_outcome (level_of Y l) T (sole Y T l ms) p n
      object_alike l no_members o p plain same n told = same told
      object_alike l (member k d no_members) o p plain same n told =
          called_alike l (function_of k) (is_formed k d) k d (record {
            each = parts_alike l d;
            all_but_template = repeat_alike l d;
            chosen_branch = if_alike l d;
            condition = condition_alike l d;
            conditions = condition_parts_alike l d;
          }) o p plain same n told
      object_alike l (member k d (member j e ms)) o p plain same n told = same told

      parts_alike : (l : ℕ) (d : Data) (n : ℕ) → Told (parts_reads X R S l d n)
          → parts_outcome X S l d n ≡ parts_outcome Y T l d n
      parts_alike l null n told = refl
      parts_alike l (flag b) n told = refl
      parts_alike l (whole z) n told = refl
      parts_alike l (words s) n told = refl
      parts_alike l (items ns) n told = ap (made_into items) (values_alike l 0 ns n told)
      parts_alike l (fields ms) n told = ap (made_into fields) (members_alike l ms n told)

      repeat_alike : (l : ℕ) (d : Data) (n : ℕ) → Told (repeat_reads X R S l d n)
          → repeat_outcome X S l d n ≡ repeat_outcome Y T l d n
      repeat_alike l null n told = refl
      repeat_alike l (flag b) n told = refl
      repeat_alike l (whole z) n told = refl
      repeat_alike l (words s) n told = refl
      repeat_alike l (items ns) n told = refl
      repeat_alike l (fields ms) n told = ap (made_into fields) (all_but_alike l (codes "template") ms n told)

      all_but_alike : (l : ℕ) (but : List ℕ) (ms : Members) (n : ℕ) → Told (all_but_reads X R S l but ms n)
          → all_but_outcome X S l but ms n ≡ all_but_outcome Y T l but ms n
      all_but_alike l but no_members n told = refl
      all_but_alike l but (member k d ms) n told =
          unless_alike l but k d ms (bytes_eq k but) n (λ m more. all_but_alike l but ms m more)
          (value_alike l d n) told

      if_alike : (l : ℕ) (d : Data) (n : ℕ) → Told (if_reads X R S l d n) → if_outcome X S l d n ≡ if_outcome Y T l d n
      if_alike l null n told = refl
      if_alike l (flag b) n told = refl
      if_alike l (whole z) n told = refl
      if_alike l (words s) n told = refl
      if_alike l (items ns) n told = ap (made_into items) (chosen_alike l ns n told)
      if_alike l (fields ms) n told = refl

      chosen_alike : (l : ℕ) (ns : Nodes) (n : ℕ) → Told (chosen_reads X R S l ns n)
          → chosen_outcome X S l ns n ≡ chosen_outcome Y T l ns n
      chosen_alike l no_nodes n told = refl
      chosen_alike l (node c ns) n told =
          next_alike (λ p. Index 0 ∷ p) (condition_outcome X S l c n) (condition_outcome Y T l c n)
          (λ v m. made_into (node v) (branch_outcome X S l (flag_in v) ns m))
          (λ v m. made_into (node v) (branch_outcome Y T l (flag_in v) ns m))
          (λ v m. branch_reads X R S l (flag_in v) ns m)
          (condition_alike l c n (front (condition_reads X R S l c n) _ told)) (back (condition_reads X R S l c n) _ told)
          (λ v m more. ap (made_into (node v)) (branch_alike l (flag_in v) ns m more))

      branch_alike : (l : ℕ) (b : Option Bool) (ns : Nodes) (n : ℕ) → Told (branch_reads X R S l b ns n)
          → branch_outcome X S l b ns n ≡ branch_outcome Y T l b ns n
      branch_alike l None no_nodes n told = refl
      branch_alike l None (node d ns) n told = refl
      branch_alike l (Some true) no_nodes n told = refl
      branch_alike l (Some true) (node d ns) n told =
          ap (λ (o : Outcome Data). made_into alone (under (Index 1) o)) (value_alike l d n told)
      branch_alike l (Some false) no_nodes n told = refl
      branch_alike l (Some false) (node d no_nodes) n told = refl
      branch_alike l (Some false) (node d (node e ns)) n told =
          ap (λ (o : Outcome Data). made_into alone (under (Index 2) o)) (value_alike l e n told)

      condition_alike : (l : ℕ) (d : Data) (n : ℕ) → Told (condition_reads X R S l d n)
          → condition_outcome X S l d n ≡ condition_outcome Y T l d n
      condition_alike l null n told = refl
      condition_alike l (flag b) n told = refl
      condition_alike l (whole z) n told = refl
      condition_alike l (words s) n told = refl
      condition_alike l (items ns) n told = refl
      condition_alike zero (fields ms) n told = refl
      condition_alike (suc l) (fields ms) n told = object_condition_alike l ms (Gives (fields ms) n) n told

      object_condition_alike : (l : ℕ) (ms : Members) (o : Outcome Data) (n : ℕ)
          → Told (object_condition_reads (level_of X l) (replaced_reads R l) (sole_reads X R S l ms) n)
          → object_condition (level_of X l) S (sole X S l ms) o n ≡ object_condition (level_of Y l) T (sole Y T l ms) o n
      object_condition_alike l no_members o n told = refl
      object_condition_alike l (member k d no_members) o n told =
          called_alike l (condition_function_of k) (is_condition_formed k d) k d (record {
            each = parts_alike l d;
            all_but_template = repeat_alike l d;
            chosen_branch = if_alike l d;
            condition = condition_alike l d;
            conditions = condition_parts_alike l d;
          }) o o [] (λ more. refl) n told
      object_condition_alike l (member k d (member j e ms)) o n told = refl

      condition_parts_alike : (l : ℕ) (d : Data) (n : ℕ) → Told (condition_parts_reads X R S l d n)
          → condition_parts_outcome X S l d n ≡ condition_parts_outcome Y T l d n
      condition_parts_alike l null n told = refl
      condition_parts_alike l (flag b) n told = refl
      condition_parts_alike l (whole z) n told = refl
      condition_parts_alike l (words s) n told = refl
      condition_parts_alike l (items ns) n told = ap (made_into items) (conditions_alike l 0 ns n told)
      condition_parts_alike l (fields ms) n told = refl

      conditions_alike : (l j : ℕ) (ns : Nodes) (n : ℕ) → Told (conditions_reads X R S l ns n)
          → conditions_outcome X S l j ns n ≡ conditions_outcome Y T l j ns n
      conditions_alike l j no_nodes n told = refl
      conditions_alike l j (node d ns) n told =
          next_alike (λ p. Index j ∷ p) (condition_outcome X S l d n) (condition_outcome Y T l d n)
          (λ v m. made_into (node v) (conditions_outcome X S l (j + 1) ns m))
          (λ v m. made_into (node v) (conditions_outcome Y T l (j + 1) ns m)) (λ v m. conditions_reads X R S l ns m)
          (condition_alike l d n (front (condition_reads X R S l d n) _ told)) (back (condition_reads X R S l d n) _ told)
          (λ v m more. ap (made_into (node v)) (conditions_alike l (j + 1) ns m more))
