-- What a line is read as: what it asks for, or what is wrong with it. Behind each first word there is a case for each
-- fault, in their order, and one for what is asked.
use Rattle.std.specs.Prelude.{◌≡◌, ◌≢◌, ℕ, List, Result, Ok, Err, Some, None, IsUtf8, decimal}
use Rattle.heat_value.specs.Reading.{IsReadAs}
use Rattle.heat_value.specs.Meaning.{data_of}
use Rattle.heat_value.specs.declared.value.Value.{Value}
use Rattle.heat_plan.specs.Names.{IsStackName}
use Rattle.heat_plan.specs.Numbers.{IsNumber}
use Rattle.script_lines.specs.Words.{AreSpaces, BeginsWith}
use Rattle.script_lines.specs.Behind.{IsLone, IsText, IsWordAndText, IsCount}
use Rattle.script_lines.specs.Heads.{BeginsComment, head_of}
use Rattle.script_lines.specs.Requested.{BodyData, IsNoValue, IsBodyText, IsNoBody}
use Rattle.script_lines.specs.declared.head.Head.{Head}
use Rattle.script_lines.specs.declared.head.Head.TheVariants as head
use Rattle.script_lines.specs.declared.head.BodyVerb.{BodyVerb}
use Rattle.script_lines.specs.declared.head.BodyVerb.TheVariants as put
use Rattle.script_lines.specs.declared.head.StackVerb.{StackVerb}
use Rattle.script_lines.specs.declared.head.StackVerb.TheVariants as named
use Rattle.script_lines.specs.declared.head.EngineVerb.{EngineVerb}
use Rattle.script_lines.specs.declared.head.EngineVerb.TheVariants as numbered
use Rattle.script_lines.specs.declared.head.LoneVerb.{LoneVerb}
use Rattle.script_lines.specs.declared.head.LoneVerb.TheVariants as lone
use Rattle.script_lines.specs.declared.line.Line.{Line}
use Rattle.script_lines.specs.declared.line.Line.TheVariants.{Blank, Create, Update, Delete, Cancel, Status, Resources}
use Rattle.script_lines.specs.declared.line.Line.TheVariants.{Outputs, Types, Run, Turn, Stop, Start, Restart}
use Rattle.script_lines.specs.declared.misread.Misread.{Misread}
use Rattle.script_lines.specs.declared.misread.Misread.TheVariants.{L01, L02, L03, L04, L05}

-- what is asked with a stack and a body
abbrev pub body_line : BodyVerb → List ℕ → BodyData → Line
body_line put.Create stack body = Create stack body
body_line put.Update stack body = Update stack body

-- what is asked of a stack
abbrev pub stack_line : StackVerb → List ℕ → Line
stack_line named.Delete stack = Delete stack
stack_line named.Cancel stack = Cancel stack
stack_line named.Status stack = Status stack
stack_line named.Resources stack = Resources stack
stack_line named.Outputs stack = Outputs stack

-- what is asked of an engine
abbrev pub engine_line : EngineVerb → ℕ → Line
engine_line numbered.Turn engine = Turn engine
engine_line numbered.Stop engine = Stop engine

-- what is asked by a word alone
abbrev pub lone_line : LoneVerb → Line
lone_line lone.Start = Start
lone_line lone.Restart = Restart

-- behind `create` and `update`: a stack's name, and a body
pub data ReadsBody (verb : BodyVerb) (rest : List ℕ) (r : Result Line Misread) : Type 0 where
  body_short : ((stack text : List ℕ) → ¬ IsWordAndText rest stack text) → r ≡ Err L03 → ReadsBody verb rest r
  body_unnamed : (stack text : List ℕ) → IsWordAndText rest stack text → ¬ IsStackName stack → r ≡ Err L04
      → ReadsBody verb rest r
  body_wrong : (stack text : List ℕ) → IsWordAndText rest stack text → IsStackName stack → (why : Misread)
      → IsNoBody text why → r ≡ Err why → ReadsBody verb rest r
  body_asked : (stack text : List ℕ) → IsWordAndText rest stack text → IsStackName stack → (body : BodyData)
      → IsBodyText text body → r ≡ Ok (body_line verb stack body) → ReadsBody verb rest r

-- behind `delete`, `cancel`, `status`, `resources` and `outputs`: a stack's name alone
pub data ReadsStack (verb : StackVerb) (rest : List ℕ) (r : Result Line Misread) : Type 0 where
  stack_not_one : ((stack : List ℕ) → ¬ IsLone rest stack) → r ≡ Err L03 → ReadsStack verb rest r
  stack_unnamed : (stack : List ℕ) → IsLone rest stack → ¬ IsStackName stack → r ≡ Err L04 → ReadsStack verb rest r
  stack_asked : (stack : List ℕ) → IsLone rest stack → IsStackName stack → r ≡ Ok (stack_line verb stack)
      → ReadsStack verb rest r

-- behind `turn` and `stop`: an engine's number alone
pub data ReadsEngine (verb : EngineVerb) (rest : List ℕ) (r : Result Line Misread) : Type 0 where
  engine_not_one : ((word : List ℕ) → ¬ IsLone rest word) → r ≡ Err L03 → ReadsEngine verb rest r
  engine_no_number : (word : List ℕ) → IsLone rest word → ((n : ℕ) → IsNumber n → decimal n ≢ word) → r ≡ Err L05
      → ReadsEngine verb rest r
  engine_asked : (word : List ℕ) → IsLone rest word → (n : ℕ) → IsNumber n → decimal n ≡ word
      → r ≡ Ok (engine_line verb n) → ReadsEngine verb rest r

-- behind `start` and `restart`: nothing
pub data ReadsAlone (verb : LoneVerb) (rest : List ℕ) (r : Result Line Misread) : Type 0 where
  alone_more : ¬ AreSpaces rest → r ≡ Err L03 → ReadsAlone verb rest r
  alone_asked : AreSpaces rest → r ≡ Ok (lone_line verb) → ReadsAlone verb rest r

-- behind `types`: a catalogue
pub data ReadsTypes (rest : List ℕ) (r : Result Line Misread) : Type 0 where
  types_short : ((text : List ℕ) → ¬ IsText rest text) → r ≡ Err L03 → ReadsTypes rest r
  types_wrong : (text : List ℕ) → IsText rest text → (why : Misread) → IsNoValue text why → r ≡ Err why
      → ReadsTypes rest r
  types_asked : (text : List ℕ) → IsText rest text → (value : Value) → IsReadAs text (data_of value)
      → r ≡ Ok (Types value) → ReadsTypes rest r

-- behind `run`: nothing, or a count of turns alone
pub data ReadsRun (rest : List ℕ) (r : Result Line Misread) : Type 0 where
  run_too_many : ¬ AreSpaces rest → ((word : List ℕ) → ¬ IsLone rest word) → r ≡ Err L03 → ReadsRun rest r
  run_no_count : (word : List ℕ) → IsLone rest word → ((n : ℕ) → IsCount n → decimal n ≢ word) → r ≡ Err L05
      → ReadsRun rest r
  run_whole : AreSpaces rest → r ≡ Ok (Run None) → ReadsRun rest r
  run_counted : (word : List ℕ) → IsLone rest word → (n : ℕ) → IsCount n → decimal n ≡ word → r ≡ Ok (Run (Some n))
      → ReadsRun rest r

-- behind a first word that asks for this
abbrev pub ReadsBehind : Head → List ℕ → Result Line Misread → Type 0
ReadsBehind (head.WithBody verb) rest r = ReadsBody verb rest r
ReadsBehind (head.WithStack verb) rest r = ReadsStack verb rest r
ReadsBehind (head.WithEngine verb) rest r = ReadsEngine verb rest r
ReadsBehind (head.Alone verb) rest r = ReadsAlone verb rest r
ReadsBehind head.Types rest r = ReadsTypes rest r
ReadsBehind head.Run rest r = ReadsRun rest r
ReadsBehind head.Unknown rest r = r ≡ Err L02

-- what a line's first word and the rest ask for
pub data ReadsWords (word rest : List ℕ) (r : Result Line Misread) : Type 0 where
  comment : BeginsComment word → r ≡ Ok Blank → ReadsWords word rest r
  headed : ¬ BeginsComment word → ReadsBehind (head_of word) rest r → ReadsWords word rest r

-- what a line is read as
pub data Reads (line : List ℕ) (r : Result Line Misread) : Type 0 where
  no_text : ¬ IsUtf8 line → r ≡ Err L01 → Reads line r
  no_word : IsUtf8 line → AreSpaces line → r ≡ Ok Blank → Reads line r
  worded : IsUtf8 line → (word rest : List ℕ) → BeginsWith line word rest → ReadsWords word rest r → Reads line r

-- a line is read as one thing
abbrev pub IsReadOneWay : List ℕ → Type 0
IsReadOneWay line = (a b : Result Line Misread) → Reads line a → Reads line b → a ≡ b
