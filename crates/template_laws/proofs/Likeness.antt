-- What an argument comes to, where it has its form: what its function needs of it.
use Rattle.std.proofs.Common.{◌≡◌, List, ℕ, Bool, true, Option, Some, None, refl, sym, subst, arith}
use Rattle.std.proofs.Common.{Result, Ok, unwrap_or, eqb-true}
use Rattle.std.specs.Prelude.{⊤, []}
use Rattle.std.specs.List.{list_all, list_any}
use Rattle.heat_value.specs.Data.{Data, null, flag, whole, words, items, fields, Nodes, no_nodes, node}
use Rattle.heat_value.specs.Data.{lookup}
use Rattle.eval_words.specs.Evaluation.{own_answer}
use Rattle.eval_words.specs.Functions.{branch, negated, conjoined, disjoined, only_flag, flags_in}
use Rattle.eval_words.specs.Lists.{equals}
use Rattle.eval_words.specs.Lookups.{parameter, parameter_at, resource, attribute, file}
use Rattle.eval_words.specs.Lookups.{walked}
use Rattle.eval_words.specs.Manners.{manner_of}
use Rattle.eval_words.specs.Scenes.{SceneData}
use Rattle.eval_words.specs.Sorts.{wanted, listed, two_of}
use Rattle.eval_words.specs.declared.code.FaultCode.{FaultCode}
use Rattle.eval_words.specs.declared.function.Function.{Function}
use Rattle.eval_words.specs.declared.function.Function.TheVariants as function
use Rattle.eval_words.specs.declared.manner.Manner.{Manner}
use Rattle.eval_words.specs.declared.manner.Manner.TheVariants as manner
use Rattle.hot_functions.specs.Forms.{has_form, count_of}
use Rattle.hot_functions.specs.declared.form.Form.TheVariants as form
use Rattle.template_laws.specs.Formed.{IsBound, IsFile, IsThere}
use Rattle.template_laws.proofs.Codes.{Answers, IsFlag, join_may, split_may, replace_may, strictly_may, digest_may}
use Rattle.template_laws.proofs.Codes.{merge_may, rename_may, concat_may, unique_may, filter_may, contains_may, flag_may}
use Rattle.template_laws.proofs.Codes.{gives_flag}
use Rattle.template_laws.proofs.Forms.{form_for}

-- ---- arguments whose parts are evaluated

-- a text stays what it is
abbrev pub KeepsText : Data → Data → Type 0
KeepsText null v = ⊤
KeepsText (flag b) v = ⊤
KeepsText (whole z) v = ⊤
KeepsText (words s) v = v ≡ words s
KeepsText (items ns) v = ⊤
KeepsText (fields ms) v = ⊤

-- part by part
abbrev pub KeepTexts : Nodes → Nodes → Type 0
KeepTexts no_nodes no_nodes = ⊤
KeepTexts no_nodes (node v vs) = ⊥
KeepTexts (node d ns) no_nodes = ⊥
KeepTexts (node d ns) (node v vs) = KeepsText d v × KeepTexts ns vs

-- a text stays what it is, a list has as many parts, of which texts stay what they are
abbrev pub IsLike : Data → Data → Type 0
IsLike null v = ⊤
IsLike (flag b) v = ⊤
IsLike (whole z) v = ⊤
IsLike (words s) v = v ≡ words s
IsLike (items ns) v = (vs : Nodes) × (v ≡ items vs) × KeepTexts ns vs
IsLike (fields ms) v = ⊤

-- what an argument came to, by the manner
abbrev pub ComesTo : Manner → Data → Data → Type 0
ComesTo manner.Each d v = IsLike d v
ComesTo manner.AllButTemplate d v = ⊤
ComesTo manner.ChosenBranch d v = (p : Data × Data) × (two_of (listed v) ≡ Some p)
ComesTo manner.Condition d v = IsFlag v
ComesTo manner.Conditions d v = (bs : List Bool) × (flags_in (listed v) ≡ Some bs)

-- ---- a name stays first

-- the argument is a list that begins with this text
abbrev Begins : List ℕ → Data → Type 0
Begins s v = (vs : Nodes) × (v ≡ items (node (words s) vs))

begins : (s : List ℕ) (ns : Nodes) (v : Data) → IsLike (items (node (words s) ns)) v → Begins s v
begins s ns v (vs, is, like) = by vs is like
  where
    by : (vs : Nodes) → v ≡ items vs → KeepTexts (node (words s) ns) vs → Begins s v
    by no_nodes is like = absurd like
    by (node w ws) is like = (ws, subst (λ x. v ≡ items (node x ws)) like.0 is)

module _ (S : SceneData) where
  -- ---- what is there is found

  -- an answer that is no fault
  abbrev IsAnswered : Result Data FaultCode → Type 0
  IsAnswered r = (w : Data) × (r ≡ Ok w)

  parameter_named : (s : List ℕ) (path : Nodes) (e : Data) → lookup s S.params ≡ Some e
      → IsAnswered (parameter_at S (words s, path))
  parameter_named s path e is =
      (unwrap_or (walked path e) (words []), λ i. wanted (is i) (λ d. Ok (unwrap_or (walked path d) (words []))))

  parameter_given : (d v : Data) → has_form form.Parameter d ≡ true → IsBound S d → IsLike d v → IsAnswered (parameter S v)
  parameter_given null v has bound like = cc
  parameter_given (flag b) v has bound like = cc
  parameter_given (whole z) v has bound like = cc
  parameter_given (words s) v has (e, is) like =
      subst (λ x. IsAnswered (parameter S x)) (sym like) (parameter_named s no_nodes e is)
  parameter_given (items no_nodes) v has bound like = cc
  parameter_given (items (node null ns)) v has bound like = cc
  parameter_given (items (node (flag b) ns)) v has bound like = cc
  parameter_given (items (node (whole z) ns)) v has bound like = cc
  parameter_given (items (node (words s) ns)) v has (e, is) like = by (begins s ns v like)
    where
      by : Begins s v → IsAnswered (parameter S v)
      by (vs, first) = subst (λ x. IsAnswered (parameter S x)) (sym first) (parameter_named s vs e is)
  parameter_given (items (node (items ps) ns)) v has bound like = cc
  parameter_given (items (node (fields ms) ns)) v has bound like = cc
  parameter_given (fields ms) v has bound like = cc

  resource_given : (d v : Data) → has_form form.Resource d ≡ true → IsLike d v → IsAnswered (resource S v)
  resource_given null v has like = cc
  resource_given (flag b) v has like = cc
  resource_given (whole z) v has like = cc
  resource_given (words s) v has like = subst (λ x. IsAnswered (resource S x)) (sym like) (_, refl)
  resource_given (items ns) v has like = cc
  resource_given (fields ms) v has like = cc

  attribute_given : (d v : Data) → has_form form.Attribute d ≡ true → IsLike d v → IsAnswered (attribute S v)
  attribute_given null v has like = cc
  attribute_given (flag b) v has like = cc
  attribute_given (whole z) v has like = cc
  attribute_given (words s) v has like = cc
  attribute_given (items no_nodes) v has like = cc
  attribute_given (items (node null ns)) v has like = cc
  attribute_given (items (node (flag b) ns)) v has like = cc
  attribute_given (items (node (whole z) ns)) v has like = cc
  attribute_given (items (node (words s) ns)) v has like = by (begins s ns v like)
    where
      by : Begins s v → IsAnswered (attribute S v)
      by (vs, first) = subst (λ x. IsAnswered (attribute S x)) (sym first) (_, refl)
  attribute_given (items (node (items ps) ns)) v has like = cc
  attribute_given (items (node (fields ms) ns)) v has like = cc
  attribute_given (fields ms) v has like = cc

  file_given : (d v : Data) → has_form form.File d ≡ true → IsFile S d → IsLike d v → IsAnswered (file S v)
  file_given null v has there like = cc
  file_given (flag b) v has there like = cc
  file_given (whole z) v has there like = cc
  file_given (words s) v has (text, is) like =
      subst (λ x. IsAnswered (file S x)) (sym like) (words text, λ i. wanted (is i) (λ t. Ok (words t)))
  file_given (items ns) v has there like = cc
  file_given (fields ms) v has there like = cc

  -- ---- answers

  -- the own answer of a function that has one; a repeat has none
  abbrev pub IsOwned : Function → Option (Result Data FaultCode) → Type 0
  IsOwned f None = function.Repeat ≡ f
  IsOwned f (Some r) = Answers f r

  -- an answer of a function that gives no flag
  plain : (r : Result Data FaultCode) (f : Function) → ((w : Data) → Answers f (Ok w)) → IsAnswered r → Answers f r
  plain r f each (w, is) = subst (Answers f) (sym is) (each w)

  equals_answers : (d v : Data) → has_form form.Pair d ≡ true → IsLike d v → Answers function.Equals (equals v)
  equals_answers null v has like = cc
  equals_answers (flag b) v has like = cc
  equals_answers (whole z) v has like = cc
  equals_answers (words s) v has like = cc
  equals_answers (items no_nodes) v has like = cc
  equals_answers (items (node a no_nodes)) v has like = cc
  equals_answers (items (node a (node b no_nodes))) v has (vs, is, like) = by vs is like
    where
      by : (vs : Nodes) → v ≡ items vs → KeepTexts (node a (node b no_nodes)) vs → Answers function.Equals (equals v)
      by no_nodes is like = absurd like
      by (node x no_nodes) is like = absurd like.1
      by (node x (node y no_nodes)) is like =
          subst (λ u. Answers function.Equals (equals u)) (sym is)
          ((λ small. absurd ((gives_flag _).0 small)), (gives_flag _).1)
      by (node x (node y (node z zs))) is like = absurd like.1.1
  equals_answers (items (node a (node b (node c ns)))) v has like =
      absurd (omega (arith, eqb-true (count_of (node a (node b (node c ns)))) 2 has))
  equals_answers (fields ms) v has like = cc

  negated_answers : (v : Data) → IsFlag v → Answers function.Not (negated v)
  negated_answers v (b, is) =
      subst (λ u. Answers function.Not (negated u)) (sym is)
      ((λ small. absurd ((gives_flag _).0 small)), (gives_flag _).1)

  conjoined_answers : (v : Data) → ComesTo manner.Conditions v v → Answers function.And (conjoined v)
  conjoined_answers v (bs, is) =
      subst (λ o. Answers function.And (wanted o (λ cs. Ok (flag (list_all (λ b. b) cs))))) (sym is)
      ((λ small. absurd ((gives_flag _).0 small)), (gives_flag _).1)

  disjoined_answers : (v : Data) → ComesTo manner.Conditions v v → Answers function.Or (disjoined v)
  disjoined_answers v (bs, is) =
      subst (λ o. Answers function.Or (wanted o (λ cs. Ok (flag (list_any (λ b. b) cs))))) (sym is)
      ((λ small. absurd ((gives_flag _).0 small)), (gives_flag _).1)

  branch_answers : (v : Data) → ComesTo manner.ChosenBranch v v → Answers function.If (branch v)
  branch_answers v (p, is) =
      subst (λ o. Answers function.If (wanted o (λ q. Ok q.1))) (sym is) ((λ small. (0, omega arith, refl)), tt)

  -- what a function answers for an argument that came of one in its form
  pub owned : (f : Function) (d v : Data) → has_form (form_for f) d ≡ true → IsThere S f d → ComesTo (manner_of f) d v
      → IsOwned f (own_answer S f v)
  owned function.Parameter d v has there like =
      plain (parameter S v) function.Parameter (λ w. ((λ small. (0, omega arith, refl)), tt))
      (parameter_given d v has there like)
  owned function.Resource d v has there like =
      plain (resource S v) function.Resource (λ w. ((λ small. (0, omega arith, refl)), tt)) (resource_given d v has like)
  owned function.Attribute d v has there like =
      plain (attribute S v) function.Attribute (λ w. ((λ small. (0, omega arith, refl)), tt))
      (attribute_given d v has like)
  owned function.File d v has there like =
      plain (file S v) function.File (λ w. ((λ small. (0, omega arith, refl)), tt)) (file_given d v has there like)
  owned function.Join d v has there like = join_may v
  owned function.Split d v has there like = split_may v
  owned function.Replace d v has there like = replace_may v
  owned function.ReplaceStrictly d v has there like = strictly_may v
  owned function.Repeat d v has there like = refl
  owned function.Digest d v has there like = digest_may v
  owned function.MergeMaps d v has there like = merge_may v
  owned function.ReplaceInMap d v has there like = rename_may v
  owned function.Concat d v has there like = concat_may v
  owned function.ConcatUnique d v has there like = unique_may v
  owned function.Filter d v has there like = filter_may v
  owned function.Contains d v has there like = contains_may v
  owned function.If d v has there like = branch_answers v like
  owned function.FlagParameter d v has there like = by (parameter_given d v has there like)
    where
      by : IsAnswered (parameter S v) → Answers function.FlagParameter (only_flag (parameter S v))
      by (w, is) = subst (λ r. Answers function.FlagParameter (only_flag r)) (sym is) (flag_may w)
  owned function.Equals d v has there like = equals_answers d v has like
  owned function.Not d v has there like = negated_answers v like
  owned function.And d v has there like = conjoined_answers v like
  owned function.Or d v has there like = disjoined_answers v like
