-- What driving a book by a script comes to: the lines that were read, the history, and what was written.
use Rattle.std.specs.Prelude.{◌≡◌, ◌+◌, Bool, ℕ, List, [], ◌∷◌, ◌++◌, None, Option, Some, Result, Ok, Err, length}
use Rattle.core_state.specs.declared.entry.Entry.{Entry}
use Rattle.core_state.specs.State.{StateData}
use Rattle.provider.specs.Cloud.{Cloud}
use Rattle.step_relation.specs.Opening.{Opening}
use Rattle.heat_io.specs.Streams.{grown}
use Rattle.report.specs.Text.{text_of, text_after}
use Rattle.book.specs.declared.halting.Halt.{Halt}
use Rattle.book.specs.declared.halting.Halt.TheVariants as halted
use Rattle.driver.specs.Quiet.{Page}
use Rattle.converge_call.specs.declared.exit.Exit.{Exit}
use Rattle.converge_call.specs.declared.exit.Exit.TheVariants as exit
use Rattle.converge_call.specs.Lines.{LineDoes, LineBreaks, Serial}
use Rattle.converge_call.specs.Sources.{AllRead, FirstRead, JustRead, LimitRead, UnendedRead}
use Rattle.converge_call.specs.Stocks.{Stock, StockBehind}

-- a fault of the writing
pub data EndsWriting : Exit → Type 0 where
  write_fault : EndsWriting exit.WriteFault
  no_memory : EndsWriting exit.Memory

-- the text is written, or the first of it
pub data Written (holds_old holds_new : Option (List ℕ)) (text : List ℕ)
    (result : Result (Unit {0}) Exit) : Type 0 where
  all : holds_new ≡ grown holds_old text → result ≡ Ok tt → Written holds_old holds_new text result
  first : (written rest : List ℕ) (why : Exit) → text ≡ written ++ rest → holds_new ≡ grown holds_old written
      → EndsWriting why → result ≡ Err why → Written holds_old holds_new text result

-- a book behind a line: its cloud, and what halts it
pub record LineEnd : Type 0 where
  pub cloud : Cloud
  pub halt : Option Halt

abbrev pub line_end : Cloud → Option Halt → LineEnd
line_end cloud halt = record { cloud = cloud; halt = halt }

-- A line was done and what it added to the text was written, or the first of it; or it was broken off, and
-- nothing was written.
pub data LineAnswered (o : Opening) (t : Stock) (recalls : Bool) (number : ℕ) (line : List ℕ) (old new : Page)
    (ends : LineEnd) (holds_old holds_new : Option (List ℕ))
    (result : Result (Unit {0}) Exit) : Type 0 where
  done : (es : List Entry) → LineDoes o old.entries t number line old.state new.state es
      → new.entries ≡ old.entries ++ es → ends.halt ≡ None
      → Written holds_old holds_new (text_after o.state new.entries (length old.entries)) result
      → LineAnswered o t recalls number line old new ends holds_old holds_new result
  broke : (es : List Entry) (why : Exit)
      → LineBreaks o old.entries recalls line ends.cloud ends.halt old.state new.state es why
      → new.entries ≡ old.entries ++ es
      → holds_new ≡ holds_old → result ≡ Err why
      → LineAnswered o t recalls number line old new ends holds_old holds_new result

-- what a source had left and a sink held
pub record Streams : Type 0 where
  pub left : Option (List ℕ)
  pub holds : Option (List ℕ)

abbrev pub streams : Option (List ℕ) → Option (List ℕ) → Streams
streams left holds = record { left = left; holds = holds }

-- A drive over a book on which nothing was done, from its opening with this in stock to the state last with the
-- history h, the cloud and the halt: the script was read to its end; the next line wasn't read, for its limit, a failed
-- read, or want of memory; the keeper failed where it was to be compacted; a line was broken off; a line was done, and
-- of what it added to the text no more than a first part is written, behind the text of all lines before it.
pub data Drove (o : Opening) (first : Stock) (recalls : Bool) (old new : Streams) (last : StateData) (h : List Entry)
    (ends : LineEnd) (status : Exit) : Type 0 where
  done : (lines : List (List ℕ)) → Serial o first lines last h → AllRead old.left new.left lines
      → new.holds ≡ grown old.holds (text_of o.state h) → ends.halt ≡ None → status ≡ exit.Done
      → Drove o first recalls old new last h ends status
  too_long : (lines : List (List ℕ)) → Serial o first lines last h → LimitRead old.left new.left lines
      → new.holds ≡ grown old.holds (text_of o.state h) → ends.halt ≡ None → status ≡ exit.TooLong
      → Drove o first recalls old new last h ends status
  not_read : (lines : List (List ℕ)) → Serial o first lines last h → UnendedRead old.left new.left lines
      → new.holds ≡ grown old.holds (text_of o.state h) → ends.halt ≡ None → status ≡ exit.ReadFault
      → Drove o first recalls old new last h ends status
  lacking : (lines : List (List ℕ)) → Serial o first lines last h → FirstRead old.left new.left lines
      → new.holds ≡ grown old.holds (text_of o.state h) → ends.halt ≡ None → status ≡ exit.Memory
      → Drove o first recalls old new last h ends status
  not_compacted : (lines : List (List ℕ)) → Serial o first lines last h → JustRead old.left new.left lines
      → new.holds ≡ grown old.holds (text_of o.state h) → ends.halt ≡ Some halted.DiskFault
      → status ≡ exit.DiskFault → Drove o first recalls old new last h ends status
  broken_off : (lines : List (List ℕ)) (mid : StateData) (so_far : List Entry) (line : List ℕ) (rest : List Entry)
      → Serial o first lines mid so_far
      → LineBreaks o so_far recalls line ends.cloud ends.halt mid last rest status → h ≡ so_far ++ rest
      → JustRead old.left new.left (lines ++ line ∷ []) → new.holds ≡ grown old.holds (text_of o.state so_far)
      → Drove o first recalls old new last h ends status
  not_written : (lines : List (List ℕ)) (mid : StateData) (so_far : List Entry) (line : List ℕ) (es : List Entry)
      (written rest : List ℕ) (t : Stock)
      → Serial o first lines mid so_far → StockBehind first lines t
      → LineDoes o so_far t (length lines + 1) line mid last es → h ≡ so_far ++ es
      → JustRead old.left new.left (lines ++ line ∷ []) → text_after o.state h (length so_far) ≡ written ++ rest
      → new.holds ≡ grown old.holds (text_of o.state so_far ++ written) → ends.halt ≡ None
      → EndsWriting status → Drove o first recalls old new last h ends status
