-- What holds of each function that a key may name holds of the one that it names.
use Rattle.std.proofs.Common.{◌≡◌, ℕ, List, Bool, true, false, Option, Some, None, refl, bytes_eq, codes}
use Rattle.std.proofs.Common.{if◌then◌else◌}
use Rattle.std.proofs.lemmas.Slice.Eq.{bytes_eq-Decides}
use Rattle.std.specs.Prelude.{⊤}
use Rattle.eval_words.specs.Names.{function_of, condition_function_of}
use Rattle.eval_words.specs.declared.function.Function.{Function}
use Rattle.eval_words.specs.declared.function.Function.TheVariants as function

abbrev pub IfNamed : (Function → Type 0) → Option Function → Type 0
IfNamed P None = ⊤
IfNamed P (Some f) = P f

module _ (P : Function → Type 0) (k : List ℕ) where
  -- it names this function, or one of the others
  or_else : (key : List ℕ) (f : Function) (rest : Option Function) → (k ≡ key → P f) → IfNamed P rest
      → IfNamed P (if bytes_eq k key then Some f else rest)
  or_else key f rest here later = by (bytes_eq k key) refl
    where
      by : (b : Bool) → bytes_eq k key ≡ b → IfNamed P (if b then Some f else rest)
      by true is = here ((bytes_eq-Decides k key).0 is)
      by false is = later

  pub function_by : (k ≡ codes "get_param" → P function.Parameter)
      → (k ≡ codes "get_resource" → P function.Resource)
      → (k ≡ codes "get_attr" → P function.Attribute)
      → (k ≡ codes "get_file" → P function.File)
      → (k ≡ codes "list_join" → P function.Join)
      → (k ≡ codes "str_split" → P function.Split)
      → (k ≡ codes "str_replace" → P function.Replace)
      → (k ≡ codes "str_replace_strict" → P function.ReplaceStrictly)
      → (k ≡ codes "repeat" → P function.Repeat)
      → (k ≡ codes "digest" → P function.Digest)
      → (k ≡ codes "map_merge" → P function.MergeMaps)
      → (k ≡ codes "map_replace" → P function.ReplaceInMap)
      → (k ≡ codes "list_concat" → P function.Concat)
      → (k ≡ codes "list_concat_unique" → P function.ConcatUnique)
      → (k ≡ codes "filter" → P function.Filter)
      → (k ≡ codes "contains" → P function.Contains)
      → (k ≡ codes "if" → P function.If)
      → IfNamed P (function_of k)
  function_by param resource attribute file join split replace strictly repeats digest merge rename concat unique filter contains choose =
      or_else (codes "get_param") function.Parameter _ param (
      or_else (codes "get_resource") function.Resource _ resource (
      or_else (codes "get_attr") function.Attribute _ attribute (
      or_else (codes "get_file") function.File _ file (
      or_else (codes "list_join") function.Join _ join (
      or_else (codes "str_split") function.Split _ split (
      or_else (codes "str_replace") function.Replace _ replace (
      or_else (codes "str_replace_strict") function.ReplaceStrictly _ strictly (
      or_else (codes "repeat") function.Repeat _ repeats (
      or_else (codes "digest") function.Digest _ digest (
      or_else (codes "map_merge") function.MergeMaps _ merge (
      or_else (codes "map_replace") function.ReplaceInMap _ rename (
      or_else (codes "list_concat") function.Concat _ concat (
      or_else (codes "list_concat_unique") function.ConcatUnique _ unique (
      or_else (codes "filter") function.Filter _ filter (
      or_else (codes "contains") function.Contains _ contains (
      or_else (codes "if") function.If None choose tt))))))))))))))))

  pub condition_by : (k ≡ codes "equals" → P function.Equals)
      → (k ≡ codes "get_param" → P function.FlagParameter)
      → (k ≡ codes "not" → P function.Not)
      → (k ≡ codes "and" → P function.And)
      → (k ≡ codes "or" → P function.Or)
      → (k ≡ codes "contains" → P function.Contains)
      → IfNamed P (condition_function_of k)
  condition_by equals param negated conjoined disjoined contains =
      or_else (codes "equals") function.Equals _ equals (
      or_else (codes "get_param") function.FlagParameter _ param (
      or_else (codes "not") function.Not _ negated (
      or_else (codes "and") function.And _ conjoined (
      or_else (codes "or") function.Or _ disjoined (
      or_else (codes "contains") function.Contains None contains tt)))))
