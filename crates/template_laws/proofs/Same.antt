-- What is evaluated comes to the same with facts that agree at each name it refers to; where a repeat stands in it, what
-- repeats make has to come to the same too.
use Rattle.std.proofs.Common.{◌≡◌, ◌+◌, ◌++◌, ◌||◌, ℕ, zero, suc, List, Bool, true, false, Option, Some}
use Rattle.std.proofs.Common.{None, refl, bytes_eq, codes, if◌then◌else◌}
use Rattle.heat_plan.specs.declared.facts.KnownFacts.{KnownFacts}
use Rattle.heat_value.specs.Data.{Data, null, flag, whole, words, items, fields, Nodes, no_nodes, node}
use Rattle.heat_value.specs.Data.{Members, no_members, member}
use Rattle.heat_value.specs.declared.path.Step.TheVariants.{Key, Index}
use Rattle.eval_words.specs.Evaluation.{Leveled, alone, replaced as level_of}
use Rattle.eval_words.specs.Evaluation.{value_outcome, values_outcome, members_outcome, parts_outcome, repeat_outcome}
use Rattle.eval_words.specs.Evaluation.{all_but_outcome, if_outcome, chosen_outcome, branch_outcome, condition_outcome}
use Rattle.eval_words.specs.Evaluation.{condition_parts_outcome, conditions_outcome}
use Rattle.eval_words.specs.Evaluation.{sole, object_outcome, object_condition}
use Rattle.eval_words.specs.Needs.{references_in, references_among, references_under, own_reference}
use Rattle.eval_words.specs.Outcomes.{Outcome, Gives, and_then, made_into, under}
use Rattle.eval_words.specs.Scenes.{SceneData}
use Rattle.eval_words.specs.Sorts.{flag_in}
use Rattle.hot_functions.specs.Forms.{lone}
use Rattle.template_laws.specs.Readings.{AgreeOn, is_repeat, repeats_in, repeats_among, repeats_under}
use Rattle.template_laws.proofs.Calls.{AreOne, with_other, value_called, condition_called}
use Rattle.template_laws.proofs.Told.{agree_front, agree_back, if_left, if_right}

module _ (S : SceneData) (other : List KnownFacts) (X Y : Leveled) where
  abbrev pub T : SceneData
  T = with_other S other

  -- these names are told of alike, and what repeats make is the same if there is one
  pub record Reads (names : List (List ℕ)) (repeats : Bool) : Type 0 where
    pub told : AgreeOn names S.facts other
    pub one : repeats ≡ true → AreOne S other X Y

  front : (one two : List (List ℕ)) (b c : Bool) → Reads (one ++ two) (b || c) → Reads one b
  front one two b c reads = record {
    told = agree_front S.facts other one two reads.told;
    one = if_left b c reads.one;
  }

  back : (one two : List (List ℕ)) (b c : Bool) → Reads (one ++ two) (b || c) → Reads two c
  back one two b c reads = record {
    told = agree_back S.facts other one two reads.told;
    one = if_right b c reads.one;
  }

  abbrev pub ReadsIn : Data → Type 0
  ReadsIn d = Reads (references_in d) (repeats_in d)

  abbrev pub ReadsAmong : Nodes → Type 0
  ReadsAmong ns = Reads (references_among ns) (repeats_among ns)

  abbrev pub ReadsUnder : Members → Type 0
  ReadsUnder ms = Reads (references_under ms) (repeats_under ms)

  first_part : (d : Data) (ns : Nodes) → ReadsAmong (node d ns) → ReadsIn d
  first_part d ns = front (references_in d) (references_among ns) (repeats_in d) (repeats_among ns)

  later_parts : (d : Data) (ns : Nodes) → ReadsAmong (node d ns) → ReadsAmong ns
  later_parts d ns = back (references_in d) (references_among ns) (repeats_in d) (repeats_among ns)

  first_member : (k : List ℕ) (d : Data) (ms : Members) → ReadsUnder (member k d ms) → ReadsIn d
  first_member k d ms = front (references_in d) (references_under ms) (repeats_in d) (repeats_under ms)

  later_members : (k : List ℕ) (d : Data) (ms : Members) → ReadsUnder (member k d ms) → ReadsUnder ms
  later_members k d ms = back (references_in d) (references_under ms) (repeats_in d) (repeats_under ms)

  itself : (ms : Members) → ReadsIn (fields ms) → Reads (own_reference ms) (is_repeat (lone ms))
  itself ms = front (own_reference ms) (references_under ms) (is_repeat (lone ms)) (repeats_under ms)

  its_members : (ms : Members) → ReadsIn (fields ms) → ReadsUnder ms
  its_members ms = back (own_reference ms) (references_under ms) (is_repeat (lone ms)) (repeats_under ms)

  mutual
    pub value_same : (l : ℕ) (d : Data) → ReadsIn d → (n : ℕ) → value_outcome X S l d n ≡ value_outcome Y T l d n
    value_same l null reads n = refl
    value_same l (flag c) reads n = refl
    value_same l (whole z) reads n = refl
    value_same l (words s) reads n = refl
    value_same zero (items ns) reads n = refl
    value_same (suc l) (items ns) reads n = λ i. made_into items (values_same l 0 ns reads n i)
    value_same zero (fields ms) reads n = refl
    value_same (suc l) (fields ms) reads n =
        object_same l ms reads _ _ (λ i. made_into fields (members_same l ms (its_members ms reads) n i)) n

    values_same : (l : ℕ) (j : ℕ) (ns : Nodes) → ReadsAmong ns → (n : ℕ)
        → values_outcome X S l j ns n ≡ values_outcome Y T l j ns n
    values_same l j no_nodes reads n = refl
    values_same l j (node d ns) reads n =
        λ i. and_then (under (Index j) (value_same l d (first_part d ns reads) n i)) (λ v m.
        made_into (node v) (values_same l (j + 1) ns (later_parts d ns reads) m i))

    pub members_same : (l : ℕ) (ms : Members) → ReadsUnder ms → (n : ℕ) → members_outcome X S l ms n ≡ members_outcome Y T l ms n
    members_same l no_members reads n = refl
    members_same l (member k d ms) reads n =
        λ i. and_then (under (Key k) (value_same l d (first_member k d ms reads) n i)) (λ v m.
        made_into (member k v) (members_same l ms (later_members k d ms reads) m i))

    object_same : (l : ℕ) (ms : Members) → ReadsIn (fields ms) → (o p : Outcome Data) → o ≡ p → (n : ℕ)
        → object_outcome (level_of X l) S (sole X S l ms) o n ≡ object_outcome (level_of Y l) T (sole Y T l ms) p n
    object_same l no_members reads o p plain n = plain
    object_same l (member k d no_members) reads o p plain n =
        let under_it = its_members (member k d no_members) reads in
        let inside = first_member k d no_members under_it in
        let own = itself (member k d no_members) reads in
        value_called S other X Y l k d (record {
          sole = λ i. record {
            key = k;
            given = d;
            each = λ m. parts_same l d inside m i;
            all_but_template = λ m. repeat_same l d inside m i;
            chosen_branch = λ m. if_same l d inside m i;
            condition = λ m. condition_same l d inside m i;
            conditions = λ m. condition_parts_same l d inside m i;
          };
          each = parts_same l d inside;
          told = own.told;
          one = own.one;
        }) o p plain n
    object_same l (member k d (member j e ms)) reads o p plain n = plain

    parts_same : (l : ℕ) (d : Data) → ReadsIn d → (n : ℕ) → parts_outcome X S l d n ≡ parts_outcome Y T l d n
    parts_same l null reads n = refl
    parts_same l (flag c) reads n = refl
    parts_same l (whole z) reads n = refl
    parts_same l (words s) reads n = refl
    parts_same l (items ns) reads n = λ i. made_into items (values_same l 0 ns reads n i)
    parts_same l (fields ms) reads n = λ i. made_into fields (members_same l ms (its_members ms reads) n i)

    repeat_same : (l : ℕ) (d : Data) → ReadsIn d → (n : ℕ) → repeat_outcome X S l d n ≡ repeat_outcome Y T l d n
    repeat_same l null reads n = refl
    repeat_same l (flag c) reads n = refl
    repeat_same l (whole z) reads n = refl
    repeat_same l (words s) reads n = refl
    repeat_same l (items ns) reads n = refl
    repeat_same l (fields ms) reads n =
        λ i. made_into fields (all_but_same l (codes "template") ms (its_members ms reads) n i)

    all_but_same : (l : ℕ) (but : List ℕ) (ms : Members) → ReadsUnder ms → (n : ℕ)
        → all_but_outcome X S l but ms n ≡ all_but_outcome Y T l but ms n
    all_but_same l but no_members reads n = refl
    all_but_same l but (member k d ms) reads n =
        λ i. and_then
        (if bytes_eq k but then Gives d n else under (Key k) (value_same l d (first_member k d ms reads) n i)) (λ v m.
        made_into (member k v) (all_but_same l but ms (later_members k d ms reads) m i))

    if_same : (l : ℕ) (d : Data) → ReadsIn d → (n : ℕ) → if_outcome X S l d n ≡ if_outcome Y T l d n
    if_same l null reads n = refl
    if_same l (flag c) reads n = refl
    if_same l (whole z) reads n = refl
    if_same l (words s) reads n = refl
    if_same l (items ns) reads n = λ i. made_into items (chosen_same l ns reads n i)
    if_same l (fields ms) reads n = refl

    chosen_same : (l : ℕ) (ns : Nodes) → ReadsAmong ns → (n : ℕ) → chosen_outcome X S l ns n ≡ chosen_outcome Y T l ns n
    chosen_same l no_nodes reads n = refl
    chosen_same l (node c ns) reads n =
        λ i. and_then (under (Index 0) (condition_same l c (first_part c ns reads) n i)) (λ v m.
        made_into (node v) (branch_same l (flag_in v) ns (later_parts c ns reads) m i))

    branch_same : (l : ℕ) (c : Option Bool) (ns : Nodes) → ReadsAmong ns → (n : ℕ)
        → branch_outcome X S l c ns n ≡ branch_outcome Y T l c ns n
    branch_same l None no_nodes reads n = refl
    branch_same l None (node d ns) reads n = refl
    branch_same l (Some true) no_nodes reads n = refl
    branch_same l (Some true) (node d ns) reads n =
        λ i. made_into alone (under (Index 1) (value_same l d (first_part d ns reads) n i))
    branch_same l (Some false) no_nodes reads n = refl
    branch_same l (Some false) (node d no_nodes) reads n = refl
    branch_same l (Some false) (node d (node e ns)) reads n =
        λ i. made_into alone (under (Index 2) (value_same l e (first_part e ns (later_parts d (node e ns) reads)) n i))

    condition_same : (l : ℕ) (d : Data) → ReadsIn d → (n : ℕ) → condition_outcome X S l d n ≡ condition_outcome Y T l d n
    condition_same l null reads n = refl
    condition_same l (flag c) reads n = refl
    condition_same l (whole z) reads n = refl
    condition_same l (words s) reads n = refl
    condition_same l (items ns) reads n = refl
    condition_same zero (fields ms) reads n = refl
    condition_same (suc l) (fields ms) reads n = object_condition_same l ms reads (Gives (fields ms) n) n

    object_condition_same : (l : ℕ) (ms : Members) → ReadsIn (fields ms) → (o : Outcome Data) (n : ℕ)
        → object_condition (level_of X l) S (sole X S l ms) o n ≡ object_condition (level_of Y l) T (sole Y T l ms) o n
    object_condition_same l no_members reads o n = refl
    object_condition_same l (member k d no_members) reads o n =
        let inside = first_member k d no_members (its_members (member k d no_members) reads) in
        condition_called S other X Y l k d (λ i. record {
          key = k;
          given = d;
          each = λ m. parts_same l d inside m i;
          all_but_template = λ m. repeat_same l d inside m i;
          chosen_branch = λ m. if_same l d inside m i;
          condition = λ m. condition_same l d inside m i;
          conditions = λ m. condition_parts_same l d inside m i;
        }) o n
    object_condition_same l (member k d (member j e ms)) reads o n = refl

    condition_parts_same : (l : ℕ) (d : Data) → ReadsIn d → (n : ℕ)
        → condition_parts_outcome X S l d n ≡ condition_parts_outcome Y T l d n
    condition_parts_same l null reads n = refl
    condition_parts_same l (flag c) reads n = refl
    condition_parts_same l (whole z) reads n = refl
    condition_parts_same l (words s) reads n = refl
    condition_parts_same l (items ns) reads n = λ i. made_into items (conditions_same l 0 ns reads n i)
    condition_parts_same l (fields ms) reads n = refl

    conditions_same : (l : ℕ) (j : ℕ) (ns : Nodes) → ReadsAmong ns → (n : ℕ)
        → conditions_outcome X S l j ns n ≡ conditions_outcome Y T l j ns n
    conditions_same l j no_nodes reads n = refl
    conditions_same l j (node d ns) reads n =
        λ i. and_then (under (Index j) (condition_same l d (first_part d ns reads) n i)) (λ v m.
        made_into (node v) (conditions_same l (j + 1) ns (later_parts d ns reads) m i))
