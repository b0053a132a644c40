-- What the argument of a call comes to, and what its key says of it.
use Rattle.std.proofs.Common.{◌≡◌, List, [], ℕ, true, Option, Some, None, refl, sym, subst}
use Rattle.std.proofs.Common.{inl, is_some}
use Rattle.std.specs.Prelude.{⊤}
use Rattle.heat_value.specs.Data.{Data, null, flag, whole, words, items, fields}
use Rattle.heat_value.specs.Data.{no_members, member}
use Rattle.eval_words.specs.Evaluation.{Leveled, called, replaced as level_of, sole_of}
use Rattle.eval_words.specs.Evaluation.{parts_outcome, repeat_outcome, if_outcome, condition_outcome, condition_parts_outcome}
use Rattle.eval_words.specs.Manners.{manner_of}
use Rattle.eval_words.specs.Names.{function_of, condition_function_of, is_formed, is_condition_formed}
use Rattle.eval_words.specs.Outcomes.{Outcome}
use Rattle.eval_words.specs.Scenes.{SceneData}
use Rattle.eval_words.specs.declared.function.Function.{Function}
use Rattle.eval_words.specs.declared.function.Function.TheVariants as function
use Rattle.eval_words.specs.declared.manner.Manner.TheVariants as manner
use Rattle.hot_functions.specs.Forms.{condition_form_of, has_form, is_condition}
use Rattle.hot_functions.specs.declared.form.Form.TheVariants as form
use Rattle.template_laws.specs.Faulting.{MayFault, replaced, IsCallAt}
use Rattle.template_laws.specs.Formed.{IsFormed, HoldFormed, IsRight}
use Rattle.template_laws.specs.Roles.{as_value, as_parts, as_repetition, as_branches, as_condition, as_conditions}
use Rattle.template_laws.specs.Roles.{as_written, argument_role, argument_or}
use Rattle.template_laws.proofs.Calling.{ArgumentHolds, Inside, call_holds}
use Rattle.template_laws.proofs.Codes.{Fits, IsFlag}
use Rattle.template_laws.proofs.Forms.{form_for, value_form, condition_form, condition_named_by}
use Rattle.template_laws.proofs.Holding.{Holds, gives_hold}
use Rattle.template_laws.proofs.Likeness.{ComesTo, IsLike}
use Rattle.template_laws.proofs.Named.{IfNamed, condition_by}

-- ---- what a key says

-- no function of conditions is a repeat, and each gives a flag
abbrev IsOfConditions : Function → Type 0
IsOfConditions f = (function.Repeat ≡ f → ⊥) × ((v : Data) → Fits f v → IsFlag v)

of_conditions : (k : List ℕ) → IfNamed IsOfConditions (condition_function_of k)
of_conditions k = condition_by IsOfConditions k
    (λ e. ((λ is. cc), (λ v fits. fits))) (λ e. ((λ is. cc), (λ v fits. fits))) (λ e. ((λ is. cc), (λ v fits. fits)))
    (λ e. ((λ is. cc), (λ v fits. fits))) (λ e. ((λ is. cc), (λ v fits. fits))) (λ e. ((λ is. cc), (λ v fits. fits)))

-- what holds of each function that a key may name holds of this one
of_named : (P : Function → Type 0) (x : Option Function) (f : Function) → x ≡ Some f → IfNamed P x → P f
of_named P x f is holds = subst (IfNamed P) is holds

-- ---- what a form says

-- the argument of a `not`
negated_is : (d : Data) → has_form form.Negated d ≡ true → is_condition d ≡ true
negated_is null has = cc
negated_is (flag b) has = refl
negated_is (whole z) has = cc
negated_is (words s) has = refl
negated_is (items ns) has = cc
negated_is (fields ms) has = has

module _ (S : SceneData) (X : Leveled) (l : ℕ) where
  -- what an argument comes to in each manner, where it is in its form
  pub record Evaluated (d : Data) : Type 0 where
    pub each : IsFormed S as_parts d → (n : ℕ) → Holds (IsLike d) (MayFault as_parts d) (parts_outcome X S l d n)
    pub repetition : IsFormed S as_repetition d → (n : ℕ)
        → Holds (λ v. ⊤) (MayFault as_repetition d) (repeat_outcome X S l d n)
    pub branches : has_form form.Branches d ≡ true → IsFormed S as_branches d → (n : ℕ)
        → Holds (ComesTo manner.ChosenBranch d) (MayFault as_branches d) (if_outcome X S l d n)
    pub condition : is_condition d ≡ true → IsFormed S as_condition d → (n : ℕ)
        → Holds IsFlag (MayFault as_condition d) (condition_outcome X S l d n)
    pub conditions : has_form form.Combined d ≡ true → IsFormed S as_conditions d → (n : ℕ)
        → Holds (ComesTo manner.Conditions d) (MayFault as_conditions d) (condition_parts_outcome X S l d n)

  -- the argument of each function
  argued : (k : List ℕ) (d : Data) (f : Function) → Evaluated d → has_form (form_for f) d ≡ true
      → IsFormed S (argument_role (manner_of f)) d → ArgumentHolds S X l k d f
  argued k d function.Parameter all has formed n = all.each formed n
  argued k d function.Resource all has formed n = all.each formed n
  argued k d function.Attribute all has formed n = all.each formed n
  argued k d function.File all has formed n = all.each formed n
  argued k d function.Join all has formed n = all.each formed n
  argued k d function.Split all has formed n = all.each formed n
  argued k d function.Replace all has formed n = all.each formed n
  argued k d function.ReplaceStrictly all has formed n = all.each formed n
  argued k d function.Repeat all has formed n = all.repetition formed n
  argued k d function.Digest all has formed n = all.each formed n
  argued k d function.MergeMaps all has formed n = all.each formed n
  argued k d function.ReplaceInMap all has formed n = all.each formed n
  argued k d function.Concat all has formed n = all.each formed n
  argued k d function.ConcatUnique all has formed n = all.each formed n
  argued k d function.Filter all has formed n = all.each formed n
  argued k d function.Contains all has formed n = all.each formed n
  argued k d function.If all has formed n = all.branches has formed n
  argued k d function.FlagParameter all has formed n = all.each formed n
  argued k d function.Equals all has formed n = all.each formed n
  argued k d function.Not all has formed n = all.condition (negated_is d has) formed n
  argued k d function.And all has formed n = all.conditions has formed n
  argued k d function.Or all has formed n = all.conditions has formed n

  -- ---- objects with one member

  module _ (k : List ℕ) (d : Data) (all : Evaluated d) (o : Outcome Data) (n : ℕ) where
    -- a function of values is called, or the object is plain
    pub value_called : (x : Option Function) → function_of k ≡ x → IsRight S as_value (Some (k, d)) x
        → HoldFormed S as_value x (member k d no_members)
        → (x ≡ None → Holds (λ v. ⊤) (MayFault as_value (fields (member k d no_members))) o)
        → Holds (λ v. ⊤) (MayFault as_value (fields (member k d no_members)))
        (called (level_of X l) S x (is_formed k d) (sole_of X S l k d) o n)
    value_called None is right formed plain = plain refl
    value_called (Some f) is right formed plain =
        gives_hold (Fits f) (MayFault as_value (fields (member k d no_members))) (λ v. ⊤)
        (called (level_of X l) S (Some f) (is_formed k d) (sole_of X S l k d) o n) (λ v fits. tt)
        (call_holds S X l as_value k d f (is_formed k d) here within
        (inl (refl, refl), λ i. argument_or as_value (sym is i)) right.formed has right.there
        (argued k d f all has formed.0) n)
      where
        has : has_form (form_for f) d ≡ true
        has = value_form k d f is right.formed

        here : IsCallAt as_value (fields (member k d no_members)) [] f
        here = record {
          role = as_value;
          key = k;
          argument = d;
          reached = (refl, refl);
          names = is;
          formed = right.formed;
        }

        within : Inside f (MayFault as_value (fields (member k d no_members)))
        within same c p = replaced (record {
          front = [];
          rest = p;
          repeat = subst (IsCallAt as_value (fields (member k d no_members)) []) (sym same) here;
          split = refl;
        })

    -- a function of conditions is called
    pub condition_called : (x : Option Function) → condition_function_of k ≡ x → IsRight S as_condition (Some (k, d)) x
        → HoldFormed S as_condition x (member k d no_members) → is_some (condition_form_of k) ≡ true
        → Holds IsFlag (MayFault as_condition (fields (member k d no_members)))
        (called (level_of X l) S x (is_condition_formed k d) (sole_of X S l k d) o n)
    condition_called None is right formed known = absurd (condition_named_by k is known)
    condition_called (Some f) is right formed known =
        gives_hold (Fits f) (MayFault as_condition (fields (member k d no_members))) IsFlag
        (called (level_of X l) S (Some f) (is_condition_formed k d) (sole_of X S l k d) o n) kind.1
        (call_holds S X l as_condition k d f (is_condition_formed k d) here (λ same. absurd (kind.0 same))
        (inl (refl, refl), λ i. argument_or as_written (sym is i)) right.formed has right.there
        (argued k d f all has formed.0) n)
      where
        has : has_form (form_for f) d ≡ true
        has = condition_form k d f is right.formed

        kind : IsOfConditions f
        kind = of_named IsOfConditions (condition_function_of k) f is (of_conditions k)

        here : IsCallAt as_condition (fields (member k d no_members)) [] f
        here = record {
          role = as_condition;
          key = k;
          argument = d;
          reached = (refl, refl);
          names = is;
          formed = right.formed;
        }
