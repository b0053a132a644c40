-- What an evaluation comes to, and the running sum of its costs.
use Rattle.std.specs.Prelude.{ℕ, zero, suc, ◌+◌, nat_le, List, [], ◌∷◌, Result, Ok, Err, ◌&&◌, Bool, length, if◌then◌else◌}
use Rattle.heat_value.specs.Compact.{compact}
use Rattle.heat_value.specs.Data.{Data, depth}
use Rattle.heat_value.specs.declared.path.Step.{Step}
use Rattle.eval_words.specs.declared.code.FaultCode.{FaultCode}
use Rattle.eval_words.specs.declared.code.FaultCode.TheVariants.{F06, F07}

-- what is made, with the sum of costs so far; or the first fault's code and where it stands
pub data Outcome (A : Type 0) : Type 0 where
  Gives : (made : A) → (spent : ℕ) → Outcome A
  Faults : (code : FaultCode) → (path : List Step) → Outcome A

-- what is done next with what was made, at the sum that was reached; a fault ends it
abbrev pub and_then : {A B : Type 0} → Outcome A → (A → ℕ → Outcome B) → Outcome B
and_then (Gives a n) next = next a n
and_then (Faults c p) next = Faults c p

-- what is made of it, at no cost
abbrev pub made_into : {A B : Type 0} → (A → B) → Outcome A → Outcome B
made_into f (Gives a n) = Gives (f a) n
made_into f (Faults c p) = Faults c p

-- the same, where paths are seen from further out
abbrev pub seen_from : {A : Type 0} → (List Step → List Step) → Outcome A → Outcome A
seen_from out (Gives a n) = Gives a n
seen_from out (Faults c p) = Faults c (out p)

-- the same, seen from one step above
abbrev pub under : {A : Type 0} → Step → Outcome A → Outcome A
under s o = seen_from (λ p. s ∷ p) o

-- ---- levels

-- how many lists, objects and replaced templates may be evaluated in one another
abbrev pub max_levels : ℕ
max_levels = 512

-- what is evaluated one level further, where so many are left; F07 where none is
abbrev pub one_level : {A : Type 0} → ℕ → (ℕ → Outcome A) → Outcome A
one_level zero next = Faults F07 []
one_level (suc levels) next = next levels

-- ---- costs

-- what one evaluation may cost
abbrev pub cost_limit : ℕ
cost_limit = 16777216

-- a value's size: the bytes of its compact JSON
abbrev pub size : Data → ℕ
size d = length (compact d)

-- the greater of two costs
abbrev pub greater : ℕ → ℕ → ℕ
greater a b = if nat_le a b then b else a

-- F07 where the sum passes the limit by this cost
abbrev pub charged : {A : Type 0} → A → ℕ → ℕ → Outcome A
charged a cost spent = if nat_le (spent + cost) cost_limit then Gives a (spent + cost) else Faults F07 []

-- ---- results

-- it has the size and the depth that results may have
abbrev pub is_result : Data → Bool
is_result d = nat_le (size d) 1048576 && nat_le (depth d) 64

-- what a function answers: its own fault; F06 where the result is too large; and then the result's size is added
abbrev pub answered : Result Data FaultCode → ℕ → Outcome Data
answered (Ok d) spent = if is_result d then charged d (size d) spent else Faults F06 []
answered (Err c) spent = Faults c []
