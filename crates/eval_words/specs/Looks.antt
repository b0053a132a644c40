-- The names of resources that calls and repeats look up, in order, up to the first fault.
use Rattle.std.specs.Prelude.{ℕ, zero, suc, List, [], ◌∷◌, ◌++◌, Bool, Option, Some, None}
use Rattle.std.specs.Prelude.{Result, Ok, Err, option_to_list, if◌then◌else◌}
use Rattle.heat_value.specs.Data.{Data}
use Rattle.eval_words.specs.Choices.{Choice, Repetition, repetition}
use Rattle.eval_words.specs.Evaluation.{Evaluating, Sole, argument, choice_outcome, counted}
use Rattle.eval_words.specs.Fillings.{filled}
use Rattle.eval_words.specs.Manners.{manner_of}
use Rattle.eval_words.specs.Names.{function_of, condition_function_of, is_formed, is_condition_formed}
use Rattle.eval_words.specs.Needs.{first_text}
use Rattle.eval_words.specs.Outcomes.{Outcome, Gives, Faults, charged, size}
use Rattle.eval_words.specs.Sorts.{text_in}
use Rattle.eval_words.specs.declared.code.FaultCode.{FaultCode}
use Rattle.eval_words.specs.declared.function.Function.{Function}
use Rattle.eval_words.specs.declared.function.Function.TheVariants as function
use Rattle.eval_words.specs.declared.manner.Manner.{Manner}
use Rattle.eval_words.specs.declared.manner.Manner.TheVariants as manner

-- names in the order in which they are looked up
abbrev pub Looks : Type 0
Looks = List (List ℕ)

-- what an evaluation of a value looks up, from a sum of costs on
abbrev pub Reading : Type 0
Reading = Data → ℕ → Looks

-- the same at any number of levels that are left
abbrev pub LeveledReading : Type 0
LeveledReading = ℕ → Reading

-- what is looked up next, with what was made; nothing behind a fault
abbrev pub reads_behind : {A : Type 0} → Outcome A → (A → ℕ → Looks) → Looks
reads_behind (Gives a n) next = next a n
reads_behind (Faults c p) next = []

-- one level further; nothing where no level is left
abbrev pub reads_inside : ℕ → (ℕ → Looks) → Looks
reads_inside zero next = []
reads_inside (suc levels) next = next levels

-- what a replaced template looks up, which takes a level itself
abbrev pub replaced_reads : LeveledReading → ℕ → Reading
replaced_reads reads levels r spent = reads_inside levels (λ inside. reads inside r spent)

-- ---- functions

-- choice by choice
abbrev pub choices_reads : Evaluating → Reading → Data → List Choice → ℕ → Looks
choices_reads again reads template [] spent = []
choices_reads again reads template (c ∷ cs) spent =
    reads_behind (counted c template (filled c template) spent) reads
    ++ reads_behind (choice_outcome again template c (filled c template) spent) (λ v sum.
    choices_reads again reads template cs sum)

-- what the replaced templates of a repeat look up; nothing where it has a fault of its own
abbrev pub repeated_reads : Evaluating → Reading → Result Repetition FaultCode → ℕ → Looks
repeated_reads again reads (Ok (cs, template)) spent = choices_reads again reads template cs spent
repeated_reads again reads (Err c) spent = []

-- a name whose facts a function looks up, once its argument is counted; and what replaced templates look up
abbrev pub answer_reads : Evaluating → Reading → Function → Data → ℕ → Looks
answer_reads again reads function.Parameter a spent = []
answer_reads again reads function.Resource a spent = option_to_list (text_in a)
answer_reads again reads function.Attribute a spent = option_to_list (first_text a)
answer_reads again reads function.File a spent = []
answer_reads again reads function.Join a spent = []
answer_reads again reads function.Split a spent = []
answer_reads again reads function.Replace a spent = []
answer_reads again reads function.ReplaceStrictly a spent = []
answer_reads again reads function.Repeat a spent = repeated_reads again reads (repetition a) spent
answer_reads again reads function.Digest a spent = []
answer_reads again reads function.MergeMaps a spent = []
answer_reads again reads function.ReplaceInMap a spent = []
answer_reads again reads function.Concat a spent = []
answer_reads again reads function.ConcatUnique a spent = []
answer_reads again reads function.Filter a spent = []
answer_reads again reads function.Contains a spent = []
answer_reads again reads function.If a spent = []
answer_reads again reads function.FlagParameter a spent = []
answer_reads again reads function.Equals a spent = []
answer_reads again reads function.Not a spent = []
answer_reads again reads function.And a spent = []
answer_reads again reads function.Or a spent = []

-- ---- calls

-- what the only member of an object looks up as an argument in each manner
pub record SoleReads : Type 0 where
  pub each : ℕ → Looks
  pub all_but_template : ℕ → Looks
  pub chosen_branch : ℕ → Looks
  pub condition : ℕ → Looks
  pub conditions : ℕ → Looks

-- what the argument looks up in the manner of its function
abbrev pub argument_reads : Manner → SoleReads → ℕ → Looks
argument_reads manner.Each r spent = r.each spent
argument_reads manner.AllButTemplate r spent = r.all_but_template spent
argument_reads manner.ChosenBranch r spent = r.chosen_branch spent
argument_reads manner.Condition r spent = r.condition spent
argument_reads manner.Conditions r spent = r.conditions spent

-- what its argument looks up, and then the function where that argument is counted
abbrev pub call_reads : Evaluating → Reading → Function → Bool → Sole → SoleReads → ℕ → Looks
call_reads again reads f formed m r spent =
    if formed
    then argument_reads (manner_of f) r spent
    ++ reads_behind (argument (manner_of f) m spent) (λ a sum.
    reads_behind (charged a (size a) sum) (answer_reads again reads f))
    else []

-- what the call looks up where the member names a function, else what is looked up without one
abbrev pub called_reads : Evaluating → Reading → Option Function → Bool → Sole → SoleReads → Looks → ℕ → Looks
called_reads again reads None formed m r plain spent = plain
called_reads again reads (Some f) formed m r plain spent = call_reads again reads f formed m r spent

-- what an object looks up: as a call where its only key names a function of values, else by its parts
abbrev pub object_reads : Evaluating → Reading → Option (Sole × SoleReads) → Looks → ℕ → Looks
object_reads again reads None plain spent = plain
object_reads again reads (Some (m, r)) plain spent =
    called_reads again reads (function_of m.key) (is_formed m.key m.given) m r plain spent

-- and as a condition, where any object that isn't a call looks up nothing
abbrev pub object_condition_reads : Evaluating → Reading → Option (Sole × SoleReads) → ℕ → Looks
object_condition_reads again reads None spent = []
object_condition_reads again reads (Some (m, r)) spent =
    called_reads again reads (condition_function_of m.key) (is_condition_formed m.key m.given) m r [] spent
