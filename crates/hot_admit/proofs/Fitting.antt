-- A function answers only an argument in which each condition that decides has a flag.
use Rattle.std.proofs.Common.{◌≡◌, ◌+◌, ℕ, List, [], ◌∷◌, Bool, true, false, Option, Some, None}
use Rattle.std.proofs.Common.{Result, refl, sym, subst, nat_le, option_map, if◌then◌else◌}
use Rattle.std.specs.Prelude.{⊤, IsSome, option_and_then}
use Rattle.heat_value.specs.Data.{Data, Nodes, node}
use Rattle.eval_words.specs.Evaluation.{Evaluating, answer_of}
use Rattle.eval_words.specs.Functions.{flags_in}
use Rattle.eval_words.specs.Manners.{manner_of}
use Rattle.eval_words.specs.Outcomes.{Outcome, Gives, Faults, and_then, made_into, charged, answered}
use Rattle.eval_words.specs.Outcomes.{size, cost_limit}
use Rattle.eval_words.specs.Scenes.{SceneData}
use Rattle.eval_words.specs.Sorts.{flag_in, listed, two_of, wanted}
use Rattle.eval_words.specs.declared.code.FaultCode.{FaultCode}
use Rattle.eval_words.specs.declared.code.FaultCode.TheVariants.{F07}
use Rattle.eval_words.specs.declared.function.Function.{Function}
use Rattle.eval_words.specs.declared.function.Function.TheVariants as function
use Rattle.eval_words.specs.declared.manner.Manner.{Manner}
use Rattle.eval_words.specs.declared.manner.Manner.TheVariants as manner

-- ---- which arguments a function answers at all

abbrev pub HasFlag : Data → Type 0
HasFlag d = IsSome (flag_in d)

abbrev pub HasFlags : Nodes → Type 0
HasFlags ns = IsSome (flags_in ns)

abbrev pub HasTwo : Nodes → Type 0
HasTwo ns = IsSome (two_of ns)

-- the argument is of the sort that the function takes, as far as conditions in it decide that
abbrev pub FitsManner : Manner → Data → Type 0
FitsManner manner.Each a = ⊤
FitsManner manner.AllButTemplate a = ⊤
FitsManner manner.ChosenBranch a = HasTwo (listed a)
FitsManner manner.Condition a = HasFlag a
FitsManner manner.Conditions a = HasFlags (listed a)

answers_wanted : {A : Type 0} (o : Option A) (made : A → Result Data FaultCode) (n m : ℕ) (b : Data)
    → answered (wanted o made) n ≡ Gives b m → IsSome o
answers_wanted None made n m b is = cc
answers_wanted (Some a) made n m b is = refl

answers_fitting : (X : Evaluating) (S : SceneData) (f : Function) (a b : Data) (n m : ℕ)
    → answer_of X S f a n ≡ Gives b m → FitsManner (manner_of f) a
answers_fitting X S function.Parameter a b n m is = tt
answers_fitting X S function.Resource a b n m is = tt
answers_fitting X S function.Attribute a b n m is = tt
answers_fitting X S function.File a b n m is = tt
answers_fitting X S function.Join a b n m is = tt
answers_fitting X S function.Split a b n m is = tt
answers_fitting X S function.Replace a b n m is = tt
answers_fitting X S function.ReplaceStrictly a b n m is = tt
answers_fitting X S function.Repeat a b n m is = tt
answers_fitting X S function.Digest a b n m is = tt
answers_fitting X S function.MergeMaps a b n m is = tt
answers_fitting X S function.ReplaceInMap a b n m is = tt
answers_fitting X S function.Concat a b n m is = tt
answers_fitting X S function.ConcatUnique a b n m is = tt
answers_fitting X S function.Filter a b n m is = tt
answers_fitting X S function.Contains a b n m is = tt
answers_fitting X S function.If a b n m is = answers_wanted (two_of (listed a)) _ n m b is
answers_fitting X S function.FlagParameter a b n m is = tt
answers_fitting X S function.Equals a b n m is = tt
answers_fitting X S function.Not a b n m is = answers_wanted (flag_in a) _ n m b is
answers_fitting X S function.And a b n m is = answers_wanted (flags_in (listed a)) _ n m b is
answers_fitting X S function.Or a b n m is = answers_wanted (flags_in (listed a)) _ n m b is

-- what a counted argument is answered with
pub fits_counted : (X : Evaluating) (S : SceneData) (f : Function) (a : Data) (n : ℕ) (b : Data) (m : ℕ)
    → and_then (charged a (size a) n) (answer_of X S f) ≡ Gives b m → FitsManner (manner_of f) a
fits_counted X S f a n b m = by (nat_le (n + size a) cost_limit)
  where
    by : (c : Bool) → and_then (if c then Gives a (n + size a) else Faults F07 []) (answer_of X S f) ≡ Gives b m
        → FitsManner (manner_of f) a
    by true is = answers_fitting X S f a b (n + size a) m is
    by false is = cc

-- parts of which all have flags: the first, and the rest
pub flags_first : (d : Data) (ns : Nodes) → HasFlags (node d ns) → HasFlag d
flags_first d ns = by (flag_in d)
  where
    by : (o : Option Bool) → IsSome (option_and_then (λ b. option_map (λ bs. b ∷ bs) (flags_in ns)) o) → IsSome o
    by None is = cc
    by (Some b) is = refl

pub flags_rest : (d : Data) (ns : Nodes) → HasFlags (node d ns) → HasFlags ns
flags_rest d ns = by (flag_in d) (flags_in ns)
  where
    by : (o : Option Bool) (r : Option (List Bool)) → IsSome (option_and_then (λ b. option_map (λ bs. b ∷ bs) r) o)
        → IsSome r
    by None r is = cc
    by (Some b) None is = cc
    by (Some b) (Some bs) is = refl

pub first_has : (v : Data) (o : Outcome Nodes) (e : Nodes) (k : ℕ)
    → made_into (node v) o ≡ Gives e k → HasFlags e → HasFlag v
first_has v (Gives ns m) e k is flags =
    let whole : node v ns ≡ e = cc in
    flags_first v ns (subst HasFlags (sym whole) flags)
first_has v (Faults c q) e k is flags = cc
