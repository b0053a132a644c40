-- What each line of the script adds to the history, and the history of a list of lines.
use Rattle.std.specs.Prelude.{◌≡◌, ◌+◌, ℕ, Bool, List, [], ◌∷◌, ◌++◌, None, Option, Some, Ok, Err, length}
use Rattle.core_state.specs.declared.entry.Entry.{Entry}
use Rattle.core_state.specs.declared.entry.ShowWhat.TheVariants as show
use Rattle.core_state.specs.State.{StateData}
use Rattle.step_relation.specs.Opening.{Opening}
use Rattle.provider.specs.Cloud.{Cloud}
use Rattle.heat_value.specs.Meaning.{data_of}
use Rattle.script_lines.specs.Readings.{Reads}
use Rattle.script_lines.specs.Misreads.{misread_code, misread_path}
use Rattle.script_lines.specs.declared.line.Line.{Line}
use Rattle.script_lines.specs.declared.line.Line.TheVariants.{Blank, Create, Update, Delete, Cancel, Status, Resources}
use Rattle.script_lines.specs.declared.line.Line.TheVariants.{Outputs, Types, Run, Turn, Stop, Start, Restart}
use Rattle.script_lines.specs.declared.misread.Misread.{Misread}
use Rattle.book.specs.declared.halting.Halt.{Halt}
use Rattle.driver.specs.declared.StackCommand.TheVariants as order
use Rattle.converge_call.specs.declared.exit.Exit.{Exit}
use Rattle.converge_call.specs.Notes.{refused_at, Notes, IsNothing, IsUndone, IsUnkept}
use Rattle.converge_call.specs.Stocks.{Stock, StockBehind}
use Rattle.converge_call.specs.Commands.{BodyDoes, TypesDoes, OrderDoes, StopDoes, StartDoes}
use Rattle.converge_call.specs.Shows.{ShowDoes, OutputsDoes}
use Rattle.converge_call.specs.Runs.{RunDoes, RunBreaks, TurnDoes, TurnBreaks}
use Rattle.converge_call.specs.Restarts.{RestartDoes, RestartBreaks}
use Rattle.converge_call.specs.Halting.{halt_for}

-- what is done behind the history h, with what is in stock, for a line that asks for this: the state behind it, and the
-- entries that it adds
abbrev pub AskedDoes : Opening → List Entry → Stock → ℕ → Line → StateData → StateData → List Entry → Type 0
AskedDoes o h t number Blank old new es = IsNothing old new es
AskedDoes o h t number (Create name body) old new es =
    BodyDoes t number name body (λ plan. order.Create name plan body.rollback) old new es
AskedDoes o h t number (Update name body) old new es =
    BodyDoes t number name body (λ plan. order.Update name plan body.rollback) old new es
AskedDoes o h t number (Delete name) old new es = OrderDoes number (order.Delete name) old new es
AskedDoes o h t number (Cancel name) old new es = OrderDoes number (order.Cancel name) old new es
AskedDoes o h t number (Status name) old new es = ShowDoes number show.Status name old new es
AskedDoes o h t number (Resources name) old new es = ShowDoes number show.Resources name old new es
AskedDoes o h t number (Outputs name) old new es = OutputsDoes number name old new es
AskedDoes o h t number (Types given) old new es = TypesDoes t number (data_of given) old new es
AskedDoes o h t number (Run asked) old new es = RunDoes o h number asked old new es
AskedDoes o h t number (Turn e) old new es = TurnDoes number e old new es
AskedDoes o h t number (Stop e) old new es = StopDoes number e old new es
AskedDoes o h t number Start old new es = StartDoes number old new es
AskedDoes o h t number Restart old new es = RestartDoes o h old new es

-- where it is broken off, and why; the keeper recalls what it reads as, or doesn't, and the cloud is then this one
abbrev pub AskedBreaks : Opening → List Entry → Bool → Line → Cloud → StateData → StateData → List Entry → Exit
    → Type 0
AskedBreaks o h recalls Blank cloud old new es why = IsUndone old new es why
AskedBreaks o h recalls (Create name body) cloud old new es why = IsUnkept old new es why
AskedBreaks o h recalls (Update name body) cloud old new es why = IsUnkept old new es why
AskedBreaks o h recalls (Delete name) cloud old new es why = IsUnkept old new es why
AskedBreaks o h recalls (Cancel name) cloud old new es why = IsUnkept old new es why
AskedBreaks o h recalls (Status name) cloud old new es why = IsUndone old new es why
AskedBreaks o h recalls (Resources name) cloud old new es why = IsUndone old new es why
AskedBreaks o h recalls (Outputs name) cloud old new es why = IsUndone old new es why
AskedBreaks o h recalls (Types given) cloud old new es why = IsUndone old new es why
AskedBreaks o h recalls (Run asked) cloud old new es why = RunBreaks asked old new es why
AskedBreaks o h recalls (Turn e) cloud old new es why = TurnBreaks e old new es why
AskedBreaks o h recalls (Stop e) cloud old new es why = IsUnkept old new es why
AskedBreaks o h recalls Start cloud old new es why = IsUnkept old new es why
AskedBreaks o h recalls Restart cloud old new es why = RestartBreaks o h recalls cloud old new es why

-- the line was refused with the code of this fault, at its place
pub record IsMisreadFor (number : ℕ) (why : Misread) (old new : StateData) (es : List Entry) : Type 0 where
  pub code : List ℕ
  pub its_code : misread_code why ≡ Some code
  pub noted : Notes (refused_at number code (misread_path why)) old new es

-- what the line of this number does: what it asks for, or a note of the first fault of it
pub data LineDoes (o : Opening) (h : List Entry) (t : Stock) (number : ℕ) (line : List ℕ) (old new : StateData)
    (es : List Entry) : Type 0 where
  asks : (said : Line) → Reads line (Ok said) → AskedDoes o h t number said old new es
      → LineDoes o h t number line old new es
  misread : (why : Misread) → Reads line (Err why) → IsMisreadFor number why old new es
      → LineDoes o h t number line old new es

-- Where a line behind the history h was broken off, and why; the cloud is then this one, and so is what halts the book,
-- which wasn't halted before.
pub data LineBreaks (o : Opening) (h : List Entry) (recalls : Bool) (line : List ℕ) (cloud : Cloud) (halt : Option Halt)
    (old new : StateData) (es : List Entry) (why : Exit) : Type 0 where
  unread : IsUndone old new es why → halt ≡ None → LineBreaks o h recalls line cloud halt old new es why
  asked : (said : Line) → Reads line (Ok said) → AskedBreaks o h recalls said cloud old new es why
      → halt ≡ halt_for said why → LineBreaks o h recalls line cloud halt old new es why

-- the history of a list of lines, numbered from 1, from the opening on; each line is done with what is in stock behind
-- those before it, and the first with this
pub data Serial (o : Opening) (first : Stock) : List (List ℕ) → StateData → List Entry → Type 0 where
  begins : (lines : List (List ℕ)) (last : StateData) (all : List Entry)
      → lines ≡ [] → last ≡ o.state → all ≡ [] → Serial o first lines last all
  adds : (before : List (List ℕ)) (mid : StateData) (so_far : List Entry) (t : Stock) (line : List ℕ)
      (lines : List (List ℕ)) (last : StateData) (es all : List Entry)
      → Serial o first before mid so_far → StockBehind first before t
      → LineDoes o so_far t (length before + 1) line mid last es
      → lines ≡ before ++ line ∷ [] → all ≡ so_far ++ es → Serial o first lines last all
