-- The codes that each function's answers may have, whatever its argument came to.
use Rattle.std.proofs.Common.{◌≡◌, List, ℕ, Bool, true, false, Option, Some, None, refl, arith, codes}
use Rattle.std.proofs.Common.{Result, Ok, Err, Contains, if◌then◌else◌, option_and_then}
use Rattle.std.specs.List.{list_any}
use Rattle.std.specs.Prelude.{⊤}
use Rattle.heat_value.specs.Data.{Data, null, flag, whole, words, items, fields, Nodes}
use Rattle.heat_value.specs.Data.{Members, lookup}
use Rattle.eval_words.specs.Choices.{Repetition, Lists, choices, repetition, repeat_over, lists_in}
use Rattle.eval_words.specs.Functions.{only_flag}
use Rattle.eval_words.specs.Lists.{list_concat, list_concat_unique, filter, filter_with, contains, contains_in}
use Rattle.eval_words.specs.Lists.{concatenated}
use Rattle.eval_words.specs.Maps.{map_merge, map_replace, merged_onto, rename_in, renaming_in, unless_same, map_of, renamed}
use Rattle.eval_words.specs.Outcomes.{is_result}
use Rattle.eval_words.specs.Sorts.{wanted, text_in, text_taken, flag_in, list_in, object_in, listed, first_and_rest, two_of}
use Rattle.eval_words.specs.Texts.{list_join, join_with, str_split, split_with, split_text, split_asked, piece_found}
use Rattle.eval_words.specs.Texts.{asked_in, str_replace, put_into, params_of, has_empty_key, lacks_some_key, digest}
use Rattle.eval_words.specs.Texts.{digest_with, is_empty}
use Rattle.eval_words.specs.declared.code.FaultCode.{FaultCode}
use Rattle.eval_words.specs.declared.code.FaultCode.TheVariants.{F01, F03, F06, F07}
use Rattle.eval_words.specs.declared.function.Function.{Function}
use Rattle.eval_words.specs.declared.function.Function.TheVariants as function
use Rattle.hot_forms.specs.Shapes.{members_in}
use Rattle.hot_strings.specs.Answers.{digest_of}
use Rattle.hot_strings.specs.Pieces.{Params}
use Rattle.hot_strings.specs.Split.{Asked, all, one, unfit}
use Rattle.template_laws.specs.Faulting.{faults_of}

-- each function may pass the limit of costs
pub may_cost : (f : Function) → Contains (faults_of f) F07
may_cost function.Parameter = (1, omega arith, refl)
may_cost function.Resource = (1, omega arith, refl)
may_cost function.Attribute = (1, omega arith, refl)
may_cost function.File = (1, omega arith, refl)
may_cost function.Join = (2, omega arith, refl)
may_cost function.Split = (4, omega arith, refl)
may_cost function.Replace = (3, omega arith, refl)
may_cost function.ReplaceStrictly = (4, omega arith, refl)
may_cost function.Repeat = (4, omega arith, refl)
may_cost function.Digest = (2, omega arith, refl)
may_cost function.MergeMaps = (2, omega arith, refl)
may_cost function.ReplaceInMap = (3, omega arith, refl)
may_cost function.Concat = (2, omega arith, refl)
may_cost function.ConcatUnique = (2, omega arith, refl)
may_cost function.Filter = (2, omega arith, refl)
may_cost function.Contains = (1, omega arith, refl)
may_cost function.If = (1, omega arith, refl)
may_cost function.FlagParameter = (1, omega arith, refl)
may_cost function.Equals = (0, omega arith, refl)
may_cost function.Not = (0, omega arith, refl)
may_cost function.And = (0, omega arith, refl)
may_cost function.Or = (0, omega arith, refl)

-- the value is a flag
abbrev pub IsFlag : Data → Type 0
IsFlag v = (b : Bool) × (v ≡ flag b)

-- what a function of conditions gives is a flag
abbrev pub Fits : Function → Data → Type 0
Fits function.Parameter v = ⊤
Fits function.Resource v = ⊤
Fits function.Attribute v = ⊤
Fits function.File v = ⊤
Fits function.Join v = ⊤
Fits function.Split v = ⊤
Fits function.Replace v = ⊤
Fits function.ReplaceStrictly v = ⊤
Fits function.Repeat v = ⊤
Fits function.Digest v = ⊤
Fits function.MergeMaps v = ⊤
Fits function.ReplaceInMap v = ⊤
Fits function.Concat v = ⊤
Fits function.ConcatUnique v = ⊤
Fits function.Filter v = ⊤
Fits function.Contains v = IsFlag v
Fits function.If v = ⊤
Fits function.FlagParameter v = IsFlag v
Fits function.Equals v = IsFlag v
Fits function.Not v = IsFlag v
Fits function.And v = IsFlag v
Fits function.Or v = IsFlag v

-- the answer's code is one of the function's, also where it is too large
abbrev pub Answers : Function → Result Data FaultCode → Type 0
Answers f (Ok v) = (is_result v ≡ false → Contains (faults_of f) F06) × Fits f v
Answers f (Err c) = Contains (faults_of f) c

-- ---- what the answers are made of

-- F01, or what is made
module _ {A : Type 0} (f : Function) (wrong : Contains (faults_of f) F01) where
  wants : (o : Option A) (made : A → Result Data FaultCode) → ((a : A) → Answers f (made a)) → Answers f (wanted o made)
  wants None made each = wrong
  wants (Some a) made each = each a

-- the one or the other
either : (f : Function) (b : Bool) (x y : Result Data FaultCode) → Answers f x → Answers f y
    → Answers f (if b then x else y)
either f true x y here there = here
either f false x y here there = there

flag_is_small : (b : Bool) → is_result (flag b) ≡ false → ⊥
flag_is_small true is = cc
flag_is_small false is = cc

-- ---- texts

join_answers : (p : Data × Nodes) → Answers function.Join (join_with p)
join_answers (d, ls) =
    wants function.Join (0, omega arith, refl) (text_taken d) _ (λ t.
    wants function.Join (0, omega arith, refl) (concatenated ls) _ (λ ns. ((λ is. (1, omega arith, refl)), tt)))

piece_answers : (o : Option (List ℕ)) → Answers function.Split (piece_found o)
piece_answers None = (1, omega arith, refl)
piece_answers (Some p) = ((λ is. (3, omega arith, refl)), tt)

asked_answers : (a : Asked) (d s : List ℕ) → Answers function.Split (split_asked a d s)
asked_answers all d s =
    either function.Split (is_empty d) _ _ (2, omega arith, refl) ((λ is. (3, omega arith, refl)), tt)
asked_answers (one i) d s = either function.Split (is_empty d) _ _ (2, omega arith, refl) (piece_answers _)
asked_answers unfit d s = (1, omega arith, refl)

split_answers : (d : List ℕ) (p : Data × Nodes) → Answers function.Split (split_text d p)
split_answers d (t, index) =
    wants function.Split (0, omega arith, refl) (text_taken t) _ (λ s. asked_answers (asked_in index) d s)

parts_answer : (p : Data × Nodes) → Answers function.Split (split_with p)
parts_answer (d, rest) =
    wants function.Split (0, omega arith, refl) (text_taken d) _ (λ t.
    wants function.Split (0, omega arith, refl) (first_and_rest rest) _ (split_answers t))

put_answers : (ps : Params) (s : List ℕ) → Answers function.Replace (put_into false ps s)
put_answers ps s =
    either function.Replace (has_empty_key ps) _ _ (1, omega arith, refl) ((λ is. (2, omega arith, refl)), tt)

strictly_answers : (ps : Params) (s : List ℕ) → Answers function.ReplaceStrictly (put_into true ps s)
strictly_answers ps s =
    either function.ReplaceStrictly (has_empty_key ps) _ _ (1, omega arith, refl) (
    either function.ReplaceStrictly (lacks_some_key ps s) _ _ (2, omega arith, refl)
    ((λ is. (3, omega arith, refl)), tt))

digest_answers : (p : Data × Data) → Answers function.Digest (digest_with p)
digest_answers (n, t) =
    wants function.Digest (0, omega arith, refl) (text_taken t) _ (λ s.
    wants function.Digest (0, omega arith, refl) (option_and_then (λ m. digest_of m s) (text_in n)) _ (λ h.
    ((λ is. (1, omega arith, refl)), tt)))

-- ---- maps and lists

same_answers : (o : Option Members) → Answers function.ReplaceInMap (unless_same o)
same_answers None = (1, omega arith, refl)
same_answers (Some ms) = ((λ is. (2, omega arith, refl)), tt)

rename_answers : (p : Data × Data) → Answers function.ReplaceInMap (rename_in p)
rename_answers (m, by) =
    wants function.ReplaceInMap (0, omega arith, refl) (object_in m) _ (λ ms.
    wants function.ReplaceInMap (0, omega arith, refl) (option_and_then renaming_in (object_in by)) _ (λ r.
    same_answers (map_of (renamed r ms))))

filter_answers : (p : Data × Data) → Answers function.Filter (filter_with p)
filter_answers (out, from) =
    wants function.Filter (0, omega arith, refl) (list_in out) _ (λ ns.
    wants function.Filter (0, omega arith, refl) (list_in from) _ (λ ps. ((λ is. (1, omega arith, refl)), tt)))

contains_answers : (d e : Data) → Answers function.Contains (contains_in d e)
contains_answers d null = (0, omega arith, refl)
contains_answers d (flag b) = (0, omega arith, refl)
contains_answers d (whole z) = (0, omega arith, refl)
contains_answers d (words s) =
    wants function.Contains (0, omega arith, refl) (text_in d) _ (λ part.
    ((λ is. absurd (flag_is_small _ is)), (_, refl)))
contains_answers d (items ns) = ((λ is. absurd (flag_is_small _ is)), (_, refl))
contains_answers d (fields ms) = (0, omega arith, refl)

-- ---- the functions that answer so for any argument

module _ (a : Data) where
  pub join_may : Answers function.Join (list_join a)
  join_may = wants function.Join (0, omega arith, refl) (first_and_rest (listed a)) _ join_answers

  pub split_may : Answers function.Split (str_split a)
  split_may = wants function.Split (0, omega arith, refl) (first_and_rest (listed a)) _ parts_answer

  pub replace_may : Answers function.Replace (str_replace false a)
  replace_may =
      wants function.Replace (0, omega arith, refl) (option_and_then object_in (lookup (codes "params") (members_in a))) _
      (λ ps. wants function.Replace (0, omega arith, refl)
      (option_and_then text_taken (lookup (codes "template") (members_in a))) _ (put_answers (params_of ps)))

  pub strictly_may : Answers function.ReplaceStrictly (str_replace true a)
  strictly_may =
      wants function.ReplaceStrictly (0, omega arith, refl)
      (option_and_then object_in (lookup (codes "params") (members_in a))) _
      (λ ps. wants function.ReplaceStrictly (0, omega arith, refl)
      (option_and_then text_taken (lookup (codes "template") (members_in a))) _ (strictly_answers (params_of ps)))

  pub digest_may : Answers function.Digest (digest a)
  digest_may = wants function.Digest (0, omega arith, refl) (two_of (listed a)) _ digest_answers

  pub merge_may : Answers function.MergeMaps (map_merge a)
  merge_may =
      wants function.MergeMaps (0, omega arith, refl) (merged_onto _ (listed a)) _ (λ ms. ((λ is. (1, omega arith, refl)), tt))

  pub rename_may : Answers function.ReplaceInMap (map_replace a)
  rename_may = wants function.ReplaceInMap (0, omega arith, refl) (two_of (listed a)) _ rename_answers

  pub concat_may : Answers function.Concat (list_concat a)
  concat_may =
      wants function.Concat (0, omega arith, refl) (concatenated (listed a)) _ (λ ns. ((λ is. (1, omega arith, refl)), tt))

  pub unique_may : Answers function.ConcatUnique (list_concat_unique a)
  unique_may =
      wants function.ConcatUnique (0, omega arith, refl) (concatenated (listed a)) _
      (λ ns. ((λ is. (1, omega arith, refl)), tt))

  pub filter_may : Answers function.Filter (filter a)
  filter_may = wants function.Filter (0, omega arith, refl) (two_of (listed a)) _ filter_answers

  pub contains_may : Answers function.Contains (contains a)
  contains_may =
      wants function.Contains (0, omega arith, refl) (two_of (listed a)) _ (λ p. contains_answers p.0 p.1)

-- a get_param as a condition, where the parameter is bound
pub flag_may : (d : Data) → Answers function.FlagParameter (only_flag (Ok d))
flag_may d =
    wants function.FlagParameter (0, omega arith, refl) (flag_in d) _ (λ b.
    ((λ is. absurd (flag_is_small b is)), (b, refl)))

-- a flag is a small answer
pub gives_flag : (b : Bool) → (is_result (flag b) ≡ false → ⊥) × IsFlag (flag b)
gives_flag b = ((flag_is_small b), (b, refl))

-- ---- a repeat's own faults

-- what it does, or F01 or F03
abbrev pub MayRepeat : Result Repetition FaultCode → Type 0
MayRepeat (Ok r) = ⊤
MayRepeat (Err c) = Contains (faults_of function.Repeat) c

repeats_want : {A : Type 0} (o : Option A) (made : A → Result Repetition FaultCode)
    → ((a : A) → MayRepeat (made a)) → MayRepeat (wanted o made)
repeats_want None made each = (0, omega arith, refl)
repeats_want (Some a) made each = each a

repeats_over : (template : Data) (ls : Lists) → MayRepeat (repeat_over template ls)
repeats_over template ls = by (list_any (λ l. is_empty l.0) ls)
  where
    by : (b : Bool) → MayRepeat (if b then Err F03 else Ok (choices ls, template))
    by true = (1, omega arith, refl)
    by false = tt

pub may_repeat : (a : Data) → MayRepeat (repetition a)
may_repeat a =
    repeats_want (lookup (codes "template") (members_in a)) _ (λ template.
    repeats_want (option_and_then lists_in (option_and_then object_in (lookup (codes "for_each") (members_in a)))) _
    (repeats_over template))
