-- A value in which template checks and admission find nothing is in its form.
use Rattle.std.proofs.Common.{◌≡◌, ◌+◌, ◌==◌, ◌&&◌, List, ℕ, Bool, true, false, not, Option, Some, None}
use Rattle.std.proofs.Common.{arith, ne_eqb, refl, sym, subst, bytes_eq, codes, is_some, if◌then◌else◌}
use Rattle.std.proofs.lemmas.Slice.Eq.{bytes_eq-Decides}
use Rattle.heat_value.specs.Data.{Data, null, flag, whole, words, items, fields, Nodes, no_nodes, node}
use Rattle.heat_value.specs.Data.{Members, no_members, member, lookup}
use Rattle.hot_admit.specs.Basis.{BasisData}
use Rattle.hot_admit.specs.References.{is_unknown_reference}
use Rattle.hot_admit.specs.Unsupported.{is_left_out}
use Rattle.eval_words.specs.Lookups.{condition_named, file_named}
use Rattle.eval_words.specs.Manners.{manner_of}
use Rattle.eval_words.specs.Names.{function_of, condition_function_of}
use Rattle.eval_words.specs.Scenes.{SceneData}
use Rattle.eval_words.specs.declared.function.Function.{Function}
use Rattle.eval_words.specs.declared.function.Function.TheVariants as function
use Rattle.eval_words.specs.declared.manner.Manner.TheVariants as manner
use Rattle.hot_forms.specs.Shapes.{members_in}
use Rattle.hot_forms.specs.declared.code.HotCode.TheVariants.{H24}
use Rattle.hot_functions.specs.Forms.{lone, maps_form, stands, form_of, condition_form_of}
use Rattle.hot_functions.specs.Places.{item_place, argument_place, operand_place, plain_place, form_at}
use Rattle.hot_functions.specs.Walk.{is_parameter, argument_flaw}
use Rattle.hot_functions.specs.declared.place.Place.{Place}
use Rattle.hot_functions.specs.declared.place.Place.TheVariants as place
use Rattle.template_laws.specs.Formed.{IsFormed, AreFormed, HoldFormed, IsRight, IsThere}
use Rattle.template_laws.specs.Roles.{as_value, as_branches, as_condition, as_conditions}
use Rattle.template_laws.specs.Roles.{argument_role}
use Rattle.template_laws.proofs.Forms.{Suits, form_for, value_suits, condition_suits}
use Rattle.template_laws.proofs.Named.{IfNamed, function_by, condition_by}
use Rattle.template_laws.proofs.Absent.{unless_none, right_false, second_false}
use Rattle.template_laws.proofs.Clean.{Clean, AreClean, HoldClean, IsChecked, IsArgument, of_list, first_item, later_items}
use Rattle.template_laws.proofs.Clean.{first_member, later_members, of_object, of_call, of_argument, is_bound, is_file}
use Rattle.template_laws.proofs.Many.{replacement_is_many, repetition_is_many, replacement_permutes_not, permutes_not}
use Rattle.template_laws.proofs.Written.{uncalled, written, left_written, as_argument, as_repeated}

-- ---- places of values, also where no resource may be named

abbrev pub value_place : Bool → Place
value_place false = place.Open
value_place true = place.Barred

abbrev pub branch_place : Bool → Place
branch_place false = place.Branches
branch_place true = place.BarredBranches

value_item : (b : Bool) (i : ℕ) → item_place (value_place b) i ≡ value_place b
value_item false i = refl
value_item true i = refl

first_branch : (b : Bool) → item_place (branch_place b) 0 ≡ place.Condition
first_branch false = refl
first_branch true = refl

later_branch : (b : Bool) (i : ℕ) → (i == 0) ≡ false → item_place (branch_place b) i ≡ value_place b
later_branch false i later = λ j. if later j then place.Condition else place.Open
later_branch true i later = λ j. if later j then place.Condition else place.Barred

further : (i : ℕ) → (i + 1 == 0) ≡ false
further i = ne_eqb (i + 1) 0 (λ is. omega (arith, is))

plain_argument : (b : Bool) (k : List ℕ) → bytes_eq k (codes "if") ≡ false
    → argument_place (value_place b) k ≡ value_place b
plain_argument false k is = λ i. if is i then place.Branches else place.Open
plain_argument true k is = λ i. if is i then place.BarredBranches else place.Barred

chosen_argument : (b : Bool) → argument_place (value_place b) (codes "if") ≡ branch_place b
chosen_argument false = refl
chosen_argument true = refl

plain_values : (b : Bool) → plain_place (value_place b) ≡ value_place b
plain_values false = refl
plain_values true = refl

value_form : (b : Bool) (k : List ℕ) → form_at (value_place b) k ≡ form_of k
value_form false k = refl
value_form true k = refl

-- a key that names no function isn't that of an `if`
no_if : (k : List ℕ) → function_of k ≡ None → bytes_eq k (codes "if") ≡ false
no_if k none = by (bytes_eq k (codes "if")) refl
  where
    never : function_of (codes "if") ≡ None → ⊥
    never is = cc

    by : (b : Bool) → bytes_eq k (codes "if") ≡ b → b ≡ false
    by true is = absurd (never (subst (λ x. function_of x ≡ None) ((bytes_eq-Decides k (codes "if")).0 is) none))
    by false is = refl

module _ (params conds : Members) (basis : BasisData) (S : SceneData)
    (bound : (s : List ℕ) → is_parameter params s ≡ true → (e : Data) × (lookup s S.params ≡ Some e))
    (valued : (s : List ℕ) → is_some (lookup s conds) ≡ true → (b : Bool) × (condition_named S s ≡ Some b))
    (filed : (s : List ℕ) → is_some (lookup s basis.files) ≡ true → (t : List ℕ) × (file_named S s ≡ Some t)) where
  abbrev IsClean : Place → Data → Type 0
  IsClean p d = Clean params conds basis p d

  -- ---- calls of functions of values

  -- a call is right, and its argument in its form
  record IsRightly (d : Data) (f : Function) : Type 0 where
    pub permits : stands (codes "permutations") (members_in d) ≡ false
    pub there : IsThere S f d
    pub argument : IsFormed S (argument_role (manner_of f)) d

  -- objects of several members, without `permutations`
  abbrev AreOrdinary : Function → Type 0
  AreOrdinary f = (ms : Members) → maps_form (form_for f) ms ≡ true
      → (lone ms ≡ None) × (stands (codes "permutations") ms ≡ false)

  module _ (b : Bool) (k : List ℕ) (d : Data) (checked : IsChecked params conds basis (value_place b) k d)
      (inside : IsClean (argument_place (value_place b) k) d) (value : IsClean (value_place b) d → IsFormed S as_value d)
      (branches : IsClean (branch_place b) d → IsFormed S as_branches d) where
    -- the argument is a value
    plain_value : bytes_eq k (codes "if") ≡ false → IsFormed S as_value d
    plain_value is = value (subst (λ p. IsClean p d) (plain_argument b k is) inside)

    -- a function of this key
    abbrev IsCalled : Function → Type 0
    IsCalled f = IsArgument params conds basis f (form_of k) d → IsRightly d f

    ordinary : (f : Function) (key : List ℕ) → bytes_eq key (codes "if") ≡ false → manner_of f ≡ manner.Each
        → AreOrdinary f → (k ≡ key → IsArgument params conds basis f (form_of k) d → IsThere S f d) → k ≡ key
        → IsCalled f
    ordinary f key apart each objects there e argument = record {
      permits = permutes_not (form_for f) d argument.has (λ ms is. (objects ms is).1);
      there = there e argument;
      argument = subst (λ m. IsFormed S (argument_role m) d) (sym each)
          (as_argument S (form_for f) d argument.has (λ ms is. (objects ms is).0)
          (plain_value (subst (λ x. bytes_eq x (codes "if") ≡ false) (sym e) apart)));
    }

    -- a function whose argument is a list or a text
    listed : (f : Function) (key : List ℕ) → bytes_eq key (codes "if") ≡ false → manner_of f ≡ manner.Each
        → ((ms : Members) → maps_form (form_for f) ms ≡ true → ⊥) → IsThere S f d → k ≡ key → IsCalled f
    listed f key apart each objects there =
        ordinary f key apart each (λ ms is. absurd (objects ms is)) (λ e argument. there)

    of_file : k ≡ codes "get_file" → IsArgument params conds basis function.File (form_of k) d → IsThere S function.File d
    of_file e argument =
        is_file params conds basis S filed d argument.has
        (subst (λ x. is_unknown_reference basis x d ≡ false) e checked.known)

    of_repeat : k ≡ codes "repeat" → IsCalled function.Repeat
    of_repeat e argument = record {
      permits = second_false (bytes_eq k (codes "repeat")) (stands (codes "permutations") (members_in d))
          (subst (λ x. bytes_eq x (codes "repeat") ≡ true) (sym e) refl)
          (right_false (is_left_out k) _ checked.supported);
      there = tt;
      argument = as_repeated S (form_for function.Repeat) d argument.has repetition_is_many
          (plain_value (subst (λ x. bytes_eq x (codes "if") ≡ false) (sym e) refl));
    }

    of_if : k ≡ codes "if" → IsCalled function.If
    of_if e argument = record {
      permits = permutes_not (form_for function.If) d argument.has (λ ms is. cc);
      there = tt;
      argument = branches (subst (λ p. IsClean p d) (chosen_argument b)
          (subst (λ x. IsClean (argument_place (value_place b) x) d) e inside));
    }

    called_right : IfNamed IsCalled (function_of k)
    called_right = function_by IsCalled k
        (ordinary function.Parameter (codes "get_param") refl refl (λ ms is. cc)
        (λ e argument. is_bound params conds basis S bound d argument.has argument.named))
        (listed function.Resource (codes "get_resource") refl refl (λ ms is. cc) tt)
        (listed function.Attribute (codes "get_attr") refl refl (λ ms is. cc) tt)
        (ordinary function.File (codes "get_file") refl refl (λ ms is. cc) of_file)
        (listed function.Join (codes "list_join") refl refl (λ ms is. cc) tt)
        (listed function.Split (codes "str_split") refl refl (λ ms is. cc) tt)
        (ordinary function.Replace (codes "str_replace") refl refl
        (λ ms is. (replacement_is_many ms is, replacement_permutes_not ms is)) (λ e argument. tt))
        (ordinary function.ReplaceStrictly (codes "str_replace_strict") refl refl
        (λ ms is. (replacement_is_many ms is, replacement_permutes_not ms is)) (λ e argument. tt))
        of_repeat
        (listed function.Digest (codes "digest") refl refl (λ ms is. cc) tt)
        (listed function.MergeMaps (codes "map_merge") refl refl (λ ms is. cc) tt)
        (listed function.ReplaceInMap (codes "map_replace") refl refl (λ ms is. cc) tt)
        (listed function.Concat (codes "list_concat") refl refl (λ ms is. cc) tt)
        (listed function.ConcatUnique (codes "list_concat_unique") refl refl (λ ms is. cc) tt)
        (listed function.Filter (codes "filter") refl refl (λ ms is. cc) tt)
        (listed function.Contains (codes "contains") refl refl (λ ms is. cc) tt)
        of_if

    -- an object of one member
    value_call : (x : Option Function) → function_of k ≡ x → IfNamed IsCalled x
        → IsRight S as_value (Some (k, d)) x × HoldFormed S as_value x (member k d no_members)
    value_call None is right = (tt, (plain_value (no_if k is), tt))
    value_call (Some f) is right = (
      record {
        formed = λ i. argument.found i && not (rightly.permits i);
        there = rightly.there;
      },
      (rightly.argument, tt),
    )
      where
        argument : IsArgument params conds basis f (form_of k) d
        argument = of_argument params conds basis f (form_of k) d (subst (λ y. Suits y (form_of k)) is (value_suits k))
            (subst (λ y. argument_flaw params y d ≡ None) (value_form b k) checked.argument)

        rightly : IsRightly d f
        rightly = right argument

  -- ---- calls of functions of conditions

  module _ (k : List ℕ) (d : Data) (checked : IsChecked params conds basis place.Condition k d)
      (inside : IsClean (operand_place k) d) (value : IsClean place.Barred d → IsFormed S as_value d)
      (condition : IsClean place.Condition d → IsFormed S as_condition d)
      (conditions : IsClean place.Conditions d → IsFormed S as_conditions d) where
    -- the argument stands where that of this key does
    at_key : (key : List ℕ) (p : Place) → operand_place key ≡ p → k ≡ key → IsClean p d
    at_key key p is e =
        subst (λ q. IsClean q d) is (subst (λ x. IsClean (operand_place x) d) e inside)

    -- a function of conditions of this key
    abbrev IsOperated : Function → Type 0
    IsOperated f = IsArgument params conds basis f (condition_form_of k) d
        → IsThere S f d × IsFormed S (argument_role (manner_of f)) d

    operated_right : IfNamed IsOperated (condition_function_of k)
    operated_right = condition_by IsOperated k
        (λ e argument. (
          tt,
          as_argument S (form_for function.Equals) d argument.has (λ ms is. cc)
              (value (at_key (codes "equals") place.Barred refl e)),
        ))
        (λ e argument. (
          is_bound params conds basis S bound d argument.has argument.named,
          as_argument S (form_for function.FlagParameter) d argument.has (λ ms is. cc)
              (value (at_key (codes "get_param") place.Barred refl e)),
        ))
        (λ e argument. (tt, condition (at_key (codes "not") place.Condition refl e)))
        (λ e argument. (tt, conditions (at_key (codes "and") place.Conditions refl e)))
        (λ e argument. (tt, conditions (at_key (codes "or") place.Conditions refl e)))
        (λ e argument. (
          tt,
          as_argument S (form_for function.Contains) d argument.has (λ ms is. cc)
              (value (at_key (codes "contains") place.Barred refl e)),
        ))

    condition_call : (x : Option Function) → condition_function_of k ≡ x → IfNamed IsOperated x
        → IsRight S as_condition (Some (k, d)) x × HoldFormed S as_condition x (member k d no_members)
    condition_call None is right = (tt, (written S d, tt))
    condition_call (Some f) is right =
        (record { formed = argument.found; there = (right argument).0 }, ((right argument).1, tt))
      where
        argument : IsArgument params conds basis f (condition_form_of k) d
        argument = of_argument params conds basis f (condition_form_of k) d
            (subst (λ y. Suits y (condition_form_of k)) is (condition_suits k)) checked.argument

  -- ---- values

  mutual
    pub value_formed : (b : Bool) (d : Data) → IsClean (value_place b) d → IsFormed S as_value d
    value_formed b null c = tt
    value_formed b (flag x) c = tt
    value_formed b (whole z) c = tt
    value_formed b (words s) c = tt
    value_formed b (items ns) c = items_formed b 0 ns (of_list params conds basis (value_place b) ns c)
    value_formed b (fields ms) c = object_formed b ms c (members_formed b ms)

    items_formed : (b : Bool) (i : ℕ) (ns : Nodes) → AreClean params conds basis (value_place b) i ns
        → AreFormed S as_value i ns
    items_formed b i no_nodes c = tt
    items_formed b i (node d ns) c = (
      value_formed b d (subst (λ p. IsClean p d) (value_item b i)
          (first_item params conds basis (value_place b) i d ns c)),
      items_formed b (i + 1) ns (later_items params conds basis (value_place b) i d ns c),
    )

    pub members_formed : (b : Bool) (ms : Members) → HoldClean params conds basis (value_place b) ms
        → HoldFormed S as_value None ms
    members_formed b no_members c = tt
    members_formed b (member k d ms) c = (
      value_formed b d (first_member params conds basis (value_place b) k d ms c),
      members_formed b ms (later_members params conds basis (value_place b) k d ms c),
    )

    object_formed : (b : Bool) (ms : Members) → IsClean (value_place b) (fields ms)
        → (HoldClean params conds basis (value_place b) ms → HoldFormed S as_value None ms)
        → IsFormed S as_value (fields ms)
    object_formed b no_members c plain = (tt, tt)
    object_formed b (member k d no_members) c plain =
        value_call b k d (of_call params conds basis (value_place b) k d c)
        (first_member params conds basis (argument_place (value_place b) k) k d no_members
        (of_object params conds basis (value_place b) (member k d no_members) c)) (value_formed b d) (branches_formed b d)
        (function_of k) refl
        (called_right b k d (of_call params conds basis (value_place b) k d c)
        (first_member params conds basis (argument_place (value_place b) k) k d no_members
        (of_object params conds basis (value_place b) (member k d no_members) c)) (value_formed b d) (branches_formed b d))
    object_formed b (member k d (member l e ms)) c plain = (
      tt,
      plain (subst (λ p. HoldClean params conds basis p (member k d (member l e ms))) (plain_values b)
          (of_object params conds basis (value_place b) (member k d (member l e ms)) c)),
    )

    branches_formed : (b : Bool) (d : Data) → IsClean (branch_place b) d → IsFormed S as_branches d
    branches_formed b null c = tt
    branches_formed b (flag x) c = tt
    branches_formed b (whole z) c = tt
    branches_formed b (words s) c = tt
    branches_formed b (items ns) c = all_branches_formed b ns (of_list params conds basis (branch_place b) ns c)
    branches_formed b (fields ms) c =
        (uncalled S as_branches (λ k. refl) ms, left_written S as_branches _ (λ k. refl) ms)

    all_branches_formed : (b : Bool) (ns : Nodes) → AreClean params conds basis (branch_place b) 0 ns
        → AreFormed S as_branches 0 ns
    all_branches_formed b no_nodes c = tt
    all_branches_formed b (node d ns) c = (
      condition_formed d (subst (λ p. IsClean p d) (first_branch b)
          (first_item params conds basis (branch_place b) 0 d ns c)),
      later_branches_formed b 0 ns (later_items params conds basis (branch_place b) 0 d ns c),
    )

    later_branches_formed : (b : Bool) (i : ℕ) (ns : Nodes) → AreClean params conds basis (branch_place b) (i + 1) ns
        → AreFormed S as_branches (i + 1) ns
    later_branches_formed b i no_nodes c = tt
    later_branches_formed b i (node d ns) c = (
      subst (λ r. IsFormed S r d) (λ j. if sym (further i) j then as_condition else as_value)
          (value_formed b d (subst (λ p. IsClean p d) (later_branch b (i + 1) (further i))
          (first_item params conds basis (branch_place b) (i + 1) d ns c))),
      later_branches_formed b (i + 1) ns (later_items params conds basis (branch_place b) (i + 1) d ns c),
    )

    condition_formed : (d : Data) → IsClean place.Condition d → IsFormed S as_condition d
    condition_formed null c = tt
    condition_formed (flag x) c = tt
    condition_formed (whole z) c = tt
    condition_formed (words s) c = valued s (unless_none (is_some (lookup s conds)) H24 c.flaw)
    condition_formed (items ns) c = all_written 0 ns
    condition_formed (fields ms) c = object_condition_formed ms c

    all_written : (i : ℕ) (ns : Nodes) → AreFormed S as_condition i ns
    all_written i no_nodes = tt
    all_written i (node d ns) = (written S d, all_written (i + 1) ns)

    object_condition_formed : (ms : Members) → IsClean place.Condition (fields ms) → IsFormed S as_condition (fields ms)
    object_condition_formed no_members c = (tt, tt)
    object_condition_formed (member k d no_members) c =
        condition_call k d (of_call params conds basis place.Condition k d c)
        (first_member params conds basis (operand_place k) k d no_members
        (of_object params conds basis place.Condition (member k d no_members) c)) (value_formed true d)
        (condition_formed d) (conditions_formed d) (condition_function_of k) refl
        (operated_right k d (of_call params conds basis place.Condition k d c)
        (first_member params conds basis (operand_place k) k d no_members
        (of_object params conds basis place.Condition (member k d no_members) c)) (value_formed true d)
        (condition_formed d) (conditions_formed d))
    object_condition_formed (member k d (member l e ms)) c =
        (tt, left_written S as_condition None (λ m. refl) (member k d (member l e ms)))

    conditions_formed : (d : Data) → IsClean place.Conditions d → IsFormed S as_conditions d
    conditions_formed null c = tt
    conditions_formed (flag x) c = tt
    conditions_formed (whole z) c = tt
    conditions_formed (words s) c = tt
    conditions_formed (items ns) c = each_condition_formed 0 ns (of_list params conds basis place.Conditions ns c)
    conditions_formed (fields ms) c =
        (uncalled S as_conditions (λ k. refl) ms, left_written S as_conditions _ (λ k. refl) ms)

    each_condition_formed : (i : ℕ) (ns : Nodes) → AreClean params conds basis place.Conditions i ns
        → AreFormed S as_conditions i ns
    each_condition_formed i no_nodes c = tt
    each_condition_formed i (node d ns) c = (
      condition_formed d (first_item params conds basis place.Conditions i d ns c),
      each_condition_formed (i + 1) ns (later_items params conds basis place.Conditions i d ns c),
    )
