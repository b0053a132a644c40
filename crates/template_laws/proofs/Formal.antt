-- Evaluation of values in their form, by their parts: what is made is like what was written, and faults are the allowed ones.
use Rattle.std.proofs.Common.{◌≡◌, ◌+◌, ◌≤◌, List, [], ◌∷◌, ℕ, zero, suc, arith, Bool, true, false, ◌&&◌, Option, Some, None, refl, sym, subst}
use Rattle.std.proofs.Common.{inl, inr, bytes_eq, codes, nat_le, option_map, option_and_then, unwrap_or}
use Rattle.std.proofs.Common.{if◌then◌else◌}
use Rattle.std.specs.Prelude.{⊤}
use Rattle.heat_value.specs.Data.{Data, null, flag, whole, words, items, fields, Nodes, no_nodes, node}
use Rattle.heat_value.specs.Data.{Members, no_members, member, depth, nodes_depth, members_depth}
use Rattle.heat_value.specs.declared.path.Step.{Step}
use Rattle.heat_value.specs.declared.path.Step.TheVariants.{Key, Index}
use Rattle.eval_words.specs.Evaluation.{Leveled, alone, replaced as level_of, sole, object_outcome, object_condition}
use Rattle.eval_words.specs.Evaluation.{value_outcome, values_outcome, members_outcome, parts_outcome, repeat_outcome}
use Rattle.eval_words.specs.Evaluation.{all_but_outcome, if_outcome, chosen_outcome, branch_outcome, condition_outcome}
use Rattle.eval_words.specs.Evaluation.{condition_parts_outcome, conditions_outcome}
use Rattle.eval_words.specs.Functions.{flags_in}
use Rattle.eval_words.specs.Names.{function_of, condition_function_of}
use Rattle.eval_words.specs.Outcomes.{Outcome, Gives, Faults, made_into, under}
use Rattle.eval_words.specs.Scenes.{SceneData}
use Rattle.eval_words.specs.Sorts.{flag_in, two_of}
use Rattle.eval_words.specs.declared.code.FaultCode.{FaultCode}
use Rattle.eval_words.specs.declared.function.Function.{Function}
use Rattle.eval_words.specs.declared.manner.Manner.TheVariants as manner
use Rattle.hot_functions.specs.Forms.{has_form, is_condition, are_conditions, lists_form, count_of}
use Rattle.hot_functions.specs.declared.form.Form.TheVariants as form
use Rattle.template_laws.specs.Faulting.{MayFault}
use Rattle.template_laws.specs.Formed.{IsFormed, AreFormed, HoldFormed}
use Rattle.template_laws.specs.Reached.{HasItem, HasMember}
use Rattle.template_laws.specs.Roles.{Role, as_value, as_parts, as_repetition, as_branches, as_condition, as_conditions}
use Rattle.template_laws.specs.Roles.{as_written, argument_or}
use Rattle.template_laws.proofs.Arguments.{value_called, condition_called}
use Rattle.template_laws.proofs.Codes.{IsFlag}
use Rattle.template_laws.proofs.Forms.{left_holds, right_holds}
use Rattle.template_laws.proofs.Holding.{Fault, Holds, under_holds, then_holds, made_holds, deeper}
use Rattle.template_laws.proofs.Likeness.{ComesTo, IsLike, KeepsText, KeepTexts}

-- the branch that is chosen stands behind the condition
abbrev pub IsChosen : Nodes → Type 0
IsChosen vs = (p : Data × Data) × (two_of vs ≡ Some p)

-- a branch is there
abbrev pub HasOne : Nodes → Type 0
HasOne no_nodes = ⊥
HasOne (node d ns) = ⊤

-- each is a flag
abbrev pub AreFlags : Nodes → Type 0
AreFlags vs = (bs : List Bool) × (flags_in vs ≡ Some bs)

-- where an item or a member is at fault, its list or object is
abbrev pub OfItems : Fault → ℕ → Nodes → Role → Type 0
OfItems Q i ns r = (j : ℕ) (e : Data) → HasItem i ns j e → (c : FaultCode) (p : List Step) → MayFault r e c p
    → Q c (Index j ∷ p)

abbrev pub OfMembers : Fault → Members → Type 0
OfMembers Q ms = (k : List ℕ) (e : Data) → HasMember ms k e → (c : FaultCode) (p : List Step) → MayFault as_value e c p
    → Q c (Key k ∷ p)

module _ (S : SceneData) (X : Leveled) where
  parts_as_values : (i : ℕ) (ns : Nodes) → AreFormed S as_parts i ns → AreFormed S as_value i ns
  parts_as_values i no_nodes formed = tt
  parts_as_values i (node d ns) formed = (formed.0, parts_as_values (i + 1) ns formed.1)

  pub members_as_values : (f : Option Function) (ms : Members) → HoldFormed S as_parts f ms → HoldFormed S as_value None ms
  members_as_values f no_members formed = tt
  members_as_values f (member k d ms) formed = (formed.0, members_as_values f ms formed.1)

  -- a member of a repeat, as it is written or evaluated
  unless_template : (Q : Fault) (l : ℕ) (k : List ℕ) (d : Data) (n : ℕ) (b : Bool)
      → IsFormed S (if b then as_written else as_value) d
      → (IsFormed S as_value d → Holds (KeepsText d) (MayFault as_value d) (value_outcome X S l d n))
      → ((c : FaultCode) (p : List Step) → b ≡ false → MayFault as_value d c p → Q c (Key k ∷ p))
      → Holds (λ v. ⊤) Q (if b then Gives d n else under (Key k) (value_outcome X S l d n))
  unless_template Q l k d n true formed value out = tt
  unless_template Q l k d n false formed value out =
      under_holds (λ v. ⊤) (MayFault as_value d) Q (Key k) (value_outcome X S l d n) (λ c p. out c p refl)
      (any (value_outcome X S l d n) (value formed))
    where
      any : (o : Outcome Data) → Holds (KeepsText d) (MayFault as_value d) o → Holds (λ v. ⊤) (MayFault as_value d) o
      any (Gives v m) holds = tt
      any (Faults c p) holds = holds

  mutual
    pub value_holds : (l : ℕ) (d : Data) → depth d ≤ l → IsFormed S as_value d → (n : ℕ)
        → Holds (KeepsText d) (MayFault as_value d) (value_outcome X S l d n)
    value_holds l null room formed n = tt
    value_holds l (flag b) room formed n = tt
    value_holds l (whole z) room formed n = tt
    value_holds l (words s) room formed n = refl
    value_holds zero (items ns) room formed n = absurd (omega (arith, room))
    value_holds (suc l) (items ns) room formed n =
        made_holds (KeepTexts ns) (MayFault as_value (items ns)) (λ v. ⊤) items (values_outcome X S l 0 ns n) (λ vs kept. tt)
        (values_hold l as_value (items ns) 0 ns (omega (arith, room)) formed
        (λ j e within. deeper as_value (items ns) (Index j) as_value e (within, refl)) n)
    value_holds zero (fields ms) room formed n = absurd (omega (arith, room))
    value_holds (suc l) (fields ms) room formed n =
        object_holds l ms (omega (arith, room)) formed n
        (λ right out. members_hold l as_value (fields ms) ms (omega (arith, room)) right out n)

    values_hold : (l : ℕ) (r : Role) (w : Data) (i : ℕ) (ns : Nodes) → nodes_depth ns ≤ l → AreFormed S as_value i ns
        → OfItems (MayFault r w) i ns as_value → (n : ℕ)
        → Holds (KeepTexts ns) (MayFault r w) (values_outcome X S l i ns n)
    values_hold l r w i no_nodes room formed out n = tt
    values_hold l r w i (node d ns) room formed out n =
        then_holds (KeepsText d) (MayFault r w) (KeepTexts (node d ns)) (under (Index i) (value_outcome X S l d n))
        (λ v m. made_into (node v) (values_outcome X S l (i + 1) ns m))
        (under_holds (KeepsText d) (MayFault as_value d) (MayFault r w) (Index i) (value_outcome X S l d n)
        (out i d (inl (refl, refl))) (value_holds l d (omega (arith, room)) formed.0 n)) (λ v m kept.
        made_holds (KeepTexts ns) (MayFault r w) (KeepTexts (node d ns)) (node v) (values_outcome X S l (i + 1) ns m)
        (λ vs more. (kept, more))
        (values_hold l r w (i + 1) ns (omega (arith, room)) formed.1 (λ j e within. out j e (inr within)) m))

    pub members_hold : (l : ℕ) (r : Role) (w : Data) (ms : Members) → members_depth ms ≤ l → HoldFormed S as_value None ms
        → OfMembers (MayFault r w) ms → (n : ℕ)
        → Holds (λ v. ⊤) (MayFault r w) (members_outcome X S l ms n)
    members_hold l r w no_members room formed out n = tt
    members_hold l r w (member k d ms) room formed out n =
        then_holds (KeepsText d) (MayFault r w) (λ v. ⊤) (under (Key k) (value_outcome X S l d n))
        (λ v m. made_into (member k v) (members_outcome X S l ms m))
        (under_holds (KeepsText d) (MayFault as_value d) (MayFault r w) (Key k) (value_outcome X S l d n)
        (out k d (inl (refl, refl))) (value_holds l d (omega (arith, room)) formed.0 n)) (λ v m kept.
        made_holds (λ vs. ⊤) (MayFault r w) (λ vs. ⊤) (member k v) (members_outcome X S l ms m) (λ vs any. tt)
        (members_hold l r w ms (omega (arith, room)) formed.1 (λ m e within. out m e (inr within)) m))

    object_holds : (l : ℕ) (ms : Members) → members_depth ms ≤ l → IsFormed S as_value (fields ms) → (n : ℕ)
        → (HoldFormed S as_value None ms → OfMembers (MayFault as_value (fields ms)) ms
        → Holds (λ v. ⊤) (MayFault as_value (fields ms)) (members_outcome X S l ms n))
        → Holds (λ v. ⊤) (MayFault as_value (fields ms))
        (object_outcome (level_of X l) S (sole X S l ms) (made_into fields (members_outcome X S l ms n)) n)
    object_holds l no_members room formed n plain = tt
    object_holds l (member k d no_members) room formed n plain =
        value_called S X l k d (record {
          each = parts_hold l d (omega (arith, room));
          repetition = repetition_holds l d (omega (arith, room));
          branches = branches_hold l d (omega (arith, room));
          condition = condition_holds l d (omega (arith, room));
          conditions = conditions_hold l d (omega (arith, room));
        }) (made_into fields (members_outcome X S l (member k d no_members) n)) n (function_of k) refl formed.0 formed.1
        (λ none. made_holds (λ v. ⊤) (MayFault as_value (fields (member k d no_members))) (λ v. ⊤) fields
        (members_outcome X S l (member k d no_members) n) (λ v any. tt)
        (plain (subst (λ x. HoldFormed S as_value x (member k d no_members)) none formed.1) (λ m e within.
        deeper as_value (fields (member k d no_members)) (Key m) as_value e
        (within, λ i. argument_or as_value (sym none i)))))
    object_holds l (member k d (member j e ms)) room formed n plain =
        made_holds (λ v. ⊤) (MayFault as_value (fields (member k d (member j e ms)))) (λ v. ⊤) fields
        (members_outcome X S l (member k d (member j e ms)) n) (λ v any. tt)
        (plain formed.1 (λ m x within. deeper as_value (fields (member k d (member j e ms))) (Key m) as_value x
        (within, refl)))

    -- ---- arguments

    pub parts_hold : (l : ℕ) (d : Data) → depth d ≤ l → IsFormed S as_parts d → (n : ℕ)
        → Holds (IsLike d) (MayFault as_parts d) (parts_outcome X S l d n)
    parts_hold l null room formed n = tt
    parts_hold l (flag b) room formed n = tt
    parts_hold l (whole z) room formed n = tt
    parts_hold l (words s) room formed n = refl
    parts_hold l (items ns) room formed n =
        made_holds (KeepTexts ns) (MayFault as_parts (items ns)) (IsLike (items ns)) items (values_outcome X S l 0 ns n)
        (λ vs kept. (vs, refl, kept))
        (values_hold l as_parts (items ns) 0 ns (omega (arith, room)) (parts_as_values 0 ns formed)
        (λ j e within. deeper as_parts (items ns) (Index j) as_value e (within, refl)) n)
    parts_hold l (fields ms) room formed n =
        made_holds (λ v. ⊤) (MayFault as_parts (fields ms)) (λ v. ⊤) fields (members_outcome X S l ms n) (λ v any. tt)
        (members_hold l as_parts (fields ms) ms (omega (arith, room)) (members_as_values _ ms formed.1)
        (λ k e within. deeper as_parts (fields ms) (Key k) as_value e (within, refl)) n)

    repetition_holds : (l : ℕ) (d : Data) → depth d ≤ l → IsFormed S as_repetition d → (n : ℕ)
        → Holds (λ v. ⊤) (MayFault as_repetition d) (repeat_outcome X S l d n)
    repetition_holds l null room formed n = tt
    repetition_holds l (flag b) room formed n = tt
    repetition_holds l (whole z) room formed n = tt
    repetition_holds l (words s) room formed n = tt
    repetition_holds l (items ns) room formed n = tt
    repetition_holds l (fields ms) room formed n =
        made_holds (λ v. ⊤) (MayFault as_repetition (fields ms)) (λ v. ⊤) fields
        (all_but_outcome X S l (codes "template") ms n) (λ v any. tt)
        (all_but_hold l as_repetition (fields ms) _ ms (omega (arith, room)) formed.1 (λ k e within is c p.
        deeper as_repetition (fields ms) (Key k) as_value e
        (within, λ i. if sym is i then as_written else as_value) c p) n)

    all_but_hold : (l : ℕ) (r : Role) (w : Data) (f : Option Function) (ms : Members) → members_depth ms ≤ l
        → HoldFormed S as_repetition f ms
        → ((k : List ℕ) (e : Data) → HasMember ms k e → bytes_eq k (codes "template") ≡ false → (c : FaultCode)
        (p : List Step) → MayFault as_value e c p → (MayFault r w) c (Key k ∷ p)) → (n : ℕ)
        → Holds (λ v. ⊤) (MayFault r w) (all_but_outcome X S l (codes "template") ms n)
    all_but_hold l r w f no_members room formed out n = tt
    all_but_hold l r w f (member k d ms) room formed out n =
        then_holds (λ v. ⊤) (MayFault r w) (λ v. ⊤)
        (if bytes_eq k (codes "template") then Gives d n else under (Key k) (value_outcome X S l d n))
        (λ v m. made_into (member k v) (all_but_outcome X S l (codes "template") ms m))
        (unless_template (MayFault r w) l k d n (bytes_eq k (codes "template")) formed.0 (λ right. value_holds l d (omega (arith, room)) right n)
        (λ c p is. out k d (inl (refl, refl)) is c p)) (λ v m any.
        made_holds (λ vs. ⊤) (MayFault r w) (λ vs. ⊤) (member k v) (all_but_outcome X S l (codes "template") ms m) (λ vs any. tt)
        (all_but_hold l r w f ms (omega (arith, room)) formed.1 (λ m e within. out m e (inr within)) m))

    branches_hold : (l : ℕ) (d : Data) → depth d ≤ l → has_form form.Branches d ≡ true → IsFormed S as_branches d → (n : ℕ)
        → Holds (ComesTo manner.ChosenBranch d) (MayFault as_branches d) (if_outcome X S l d n)
    branches_hold l null room has formed n = cc
    branches_hold l (flag b) room has formed n = cc
    branches_hold l (whole z) room has formed n = cc
    branches_hold l (words s) room has formed n = cc
    branches_hold l (items ns) room has formed n =
        made_holds IsChosen (MayFault as_branches (items ns)) (ComesTo manner.ChosenBranch (items ns)) items
        (chosen_outcome X S l ns n) (λ vs chosen. chosen) (chosen_holds l ns (omega (arith, room)) has formed n)
    branches_hold l (fields ms) room has formed n = cc

    chosen_holds : (l : ℕ) (ns : Nodes) → nodes_depth ns ≤ l → lists_form form.Branches ns ≡ true → AreFormed S as_branches 0 ns → (n : ℕ)
        → Holds IsChosen (MayFault as_branches (items ns)) (chosen_outcome X S l ns n)
    chosen_holds l no_nodes room has formed n = cc
    chosen_holds l (node c no_nodes) room has formed n = cc
    chosen_holds l (node c (node d ns)) room has formed n =
        then_holds IsFlag (MayFault as_branches (items (node c (node d ns)))) IsChosen
        (under (Index 0) (condition_outcome X S l c n))
        (λ v m. made_into (node v) (branch_outcome X S l (flag_in v) (node d ns) m))
        (under_holds IsFlag (MayFault as_condition c) (MayFault as_branches (items (node c (node d ns)))) (Index 0)
        (condition_outcome X S l c n)
        (deeper as_branches (items (node c (node d ns))) (Index 0) as_condition c (inl (refl, refl), refl))
        (condition_holds l c (omega (arith, room)) (right_holds (nat_le 2 (count_of (node c (node d ns))) && nat_le (count_of (node c (node d ns))) 3)
        (is_condition c) has) formed.0 n)) (λ v m flagged.
        subst (λ u. Holds IsChosen (MayFault as_branches (items (node c (node d ns))))
        (made_into (node u) (branch_outcome X S l (flag_in u) (node d ns) m))) (sym flagged.1)
        (made_holds (λ vs. IsChosen (node (flag flagged.0) vs)) (MayFault as_branches (items (node c (node d ns)))) IsChosen
        (node (flag flagged.0)) (branch_outcome X S l (Some flagged.0) (node d ns) m) (λ vs chosen. chosen)
        (branch_holds l c (node d ns) (omega (arith, room)) tt formed.1 flagged.0 m)))

    -- the branch of the condition's flag
    branch_holds : (l : ℕ) (c : Data) (bs : Nodes) → nodes_depth bs ≤ l → HasOne bs → AreFormed S as_branches 1 bs → (b : Bool) (n : ℕ)
        → Holds (λ vs. IsChosen (node (flag b) vs)) (MayFault as_branches (items (node c bs)))
        (branch_outcome X S l (Some b) bs n)
    branch_holds l c no_nodes room some formed true n = absurd some
    branch_holds l c no_nodes room some formed false n = absurd some
    branch_holds l c (node d ns) room some formed true n =
        made_holds (KeepsText d) (MayFault as_branches (items (node c (node d ns)))) (λ vs. IsChosen (node (flag true) vs))
        alone (under (Index 1) (value_outcome X S l d n)) (λ v kept. ((flag true, v), refl))
        (under_holds (KeepsText d) (MayFault as_value d) (MayFault as_branches (items (node c (node d ns)))) (Index 1)
        (value_outcome X S l d n)
        (deeper as_branches (items (node c (node d ns))) (Index 1) as_value d (inr (inl (refl, refl)), refl))
        (value_holds l d (omega (arith, room)) formed.0 n))
    branch_holds l c (node d no_nodes) room some formed false n = ((flag false, null), refl)
    branch_holds l c (node d (node e ns)) room some formed false n =
        made_holds (KeepsText e) (MayFault as_branches (items (node c (node d (node e ns)))))
        (λ vs. IsChosen (node (flag false) vs)) alone (under (Index 2) (value_outcome X S l e n))
        (λ v kept. ((flag false, v), refl))
        (under_holds (KeepsText e) (MayFault as_value e) (MayFault as_branches (items (node c (node d (node e ns)))))
        (Index 2) (value_outcome X S l e n)
        (deeper as_branches (items (node c (node d (node e ns)))) (Index 2) as_value e
        (inr (inr (inl (refl, refl))), refl)) (value_holds l e (omega (arith, room)) formed.1.0 n))

    -- ---- conditions

    pub condition_holds : (l : ℕ) (d : Data) → depth d ≤ l → is_condition d ≡ true → IsFormed S as_condition d → (n : ℕ)
        → Holds IsFlag (MayFault as_condition d) (condition_outcome X S l d n)
    condition_holds l null room is formed n = cc
    condition_holds l (flag b) room is formed n = (b, refl)
    condition_holds l (whole z) room is formed n = cc
    condition_holds l (words s) room is (b, named) n = (b, λ i. unwrap_or (option_map flag (named i)) (words s))
    condition_holds l (items ns) room is formed n = cc
    condition_holds zero (fields ms) room is formed n = absurd (omega (arith, room))
    condition_holds (suc l) (fields ms) room is formed n = object_condition_holds l ms (omega (arith, room)) is formed n

    object_condition_holds : (l : ℕ) (ms : Members) → members_depth ms ≤ l → is_condition (fields ms) ≡ true → IsFormed S as_condition (fields ms)
        → (n : ℕ)
        → Holds IsFlag (MayFault as_condition (fields ms)) (object_condition (level_of X l) S (sole X S l ms) (Gives (fields ms) n) n)
    object_condition_holds l no_members room is formed n = cc
    object_condition_holds l (member k d no_members) room is formed n =
        condition_called S X l k d (record {
          each = parts_hold l d (omega (arith, room));
          repetition = repetition_holds l d (omega (arith, room));
          branches = branches_hold l d (omega (arith, room));
          condition = condition_holds l d (omega (arith, room));
          conditions = conditions_hold l d (omega (arith, room));
        }) (Gives (fields (member k d no_members)) n) n (condition_function_of k) refl formed.0 formed.1 is
    object_condition_holds l (member k d (member j e ms)) room is formed n = cc

    conditions_hold : (l : ℕ) (d : Data) → depth d ≤ l → has_form form.Combined d ≡ true → IsFormed S as_conditions d → (n : ℕ)
        → Holds (ComesTo manner.Conditions d) (MayFault as_conditions d) (condition_parts_outcome X S l d n)
    conditions_hold l null room has formed n = cc
    conditions_hold l (flag b) room has formed n = cc
    conditions_hold l (whole z) room has formed n = cc
    conditions_hold l (words s) room has formed n = cc
    conditions_hold l (items ns) room has formed n =
        made_holds AreFlags (MayFault as_conditions (items ns)) (ComesTo manner.Conditions (items ns)) items
        (conditions_outcome X S l 0 ns n) (λ vs flags. flags)
        (each_condition_holds l as_conditions (items ns) 0 ns (omega (arith, room)) (right_holds (nat_le 2 (count_of ns)) _ has) formed
        (λ j e within. deeper as_conditions (items ns) (Index j) as_condition e (within, refl)) n)
    conditions_hold l (fields ms) room has formed n = cc

    each_condition_holds : (l : ℕ) (r : Role) (w : Data) (i : ℕ) (ns : Nodes) → nodes_depth ns ≤ l → are_conditions ns ≡ true → AreFormed S as_conditions i ns
        → OfItems (MayFault r w) i ns as_condition → (n : ℕ) → Holds AreFlags (MayFault r w) (conditions_outcome X S l i ns n)
    each_condition_holds l r w i no_nodes room are formed out n = ([], refl)
    each_condition_holds l r w i (node d ns) room are formed out n =
        then_holds IsFlag (MayFault r w) AreFlags (under (Index i) (condition_outcome X S l d n))
        (λ v m. made_into (node v) (conditions_outcome X S l (i + 1) ns m))
        (under_holds IsFlag (MayFault as_condition d) (MayFault r w) (Index i) (condition_outcome X S l d n)
        (out i d (inl (refl, refl)))
        (condition_holds l d (omega (arith, room)) (left_holds (is_condition d) (are_conditions ns) are) formed.0 n)) (λ v m flagged.
        made_holds AreFlags (MayFault r w) AreFlags (node v) (conditions_outcome X S l (i + 1) ns m) (λ vs flags. (
          flagged.0 ∷ flags.0,
          λ j. option_and_then (λ b. option_map (λ bs. b ∷ bs) (flags.1 j)) (flag_in (flagged.1 j)),
        ))
        (each_condition_holds l r w (i + 1) ns (omega (arith, room)) (right_holds (is_condition d) (are_conditions ns) are) formed.1
        (λ j e within. out j e (inr within)) m))
