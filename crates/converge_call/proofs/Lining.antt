-- What a line does, from what is done for what it asks, or from the note of its fault.
use Rattle.std.proofs.Common.{◌≡◌, ◌∙◌, ap, ℕ, List, refl, sym, subst, Result, Ok, Err, OnOk}
use Rattle.std.specs.Prelude.{Bool, None, Option}
use Rattle.provider.specs.Cloud.{Cloud}
use Rattle.book.specs.declared.halting.Halt.{Halt}
use Rattle.core_state.specs.declared.entry.Entry.{Entry}
use Rattle.core_state.specs.State.{StateData}
use Rattle.step_relation.specs.Opening.{Opening}
use Rattle.script_lines.specs.Readings.{Reads}
use Rattle.script_lines.specs.declared.line.Line.{Line}
use Rattle.script_lines.specs.declared.misread.Misread.{Misread}
use Rattle.driver.specs.Quiet.{Page}
use Rattle.converge_call.specs.declared.exit.Exit.{Exit}
use Rattle.converge_call.specs.Halting.{HaltsBehind, halt_behind, halt_broken, halt_for}
use Rattle.converge_call.specs.Notes.{IsUndone, HasDone}
use Rattle.converge_call.specs.Lines.{AskedDoes, AskedBreaks, LineDoes, LineBreaks, IsMisreadFor, asks, misread, unread}
use Rattle.converge_call.specs.Lines.{asked}
use Rattle.converge_call.specs.Notes as notes
use Rattle.converge_call.specs.Stocks.{Stock, CatalogAsked, CatalogBehind}
use Rattle.converge_call.specs.Stocks as stocks
use Rattle.hot_catalog.specs.declared.catalog.Catalog.{Catalog}
use Rattle.converge_call.proofs.Noting.{done_as}

module _ (o : Opening) (h : List Entry) (t : Stock) (number : ℕ) (line : List ℕ) (recalls : Bool) (cloud : Cloud)
    (halt : Option Halt) (old new : Page) (result : Result (Unit {0}) Exit) where
  -- what a line came to
  abbrev pub LineEnds : Type 0
  LineEnds = HasDone (LineDoes o h t number line) (LineBreaks o h recalls line cloud halt) old new result

  pub asked_by : (said : Line) → Reads line (Ok said) → halt ≡ halt_behind (halt_for said) result
      → HasDone (AskedDoes o h t number said) (AskedBreaks o h recalls said cloud) old new result → LineEnds
  asked_by said reads halts (notes.did es does is went) = notes.did es (asks said reads does) is went
  asked_by said reads halts (notes.broke es why breaks is failed) =
      notes.broke es why (asked said reads breaks (halts ∙ ap (halt_behind (halt_for said)) failed)) is failed

  pub misread_by : (why : Misread)
      → ((code : List ℕ) (es : List Entry) → IsMisreadFor number why old.state new.state es → Reads line (Err why))
      → halt ≡ halt_behind halt_broken result → HasDone (IsMisreadFor number why) IsUndone old new result → LineEnds
  misread_by why reads halts (notes.did es noted is went) =
      notes.did es (misread why (reads noted.code es noted) noted) is went
  misread_by why reads halts (notes.broke es cause un is failed) =
      notes.broke es cause
      (unread un (halts ∙ ap (halt_behind halt_broken) failed ∙ ap halt_broken un.memory)) is failed

-- what was done for a line that asks for this
pub asked_as : (o : Opening) (h : List Entry) (t : Stock) (number : ℕ) (recalls : Bool) (cloud : Cloud) (old new : Page)
    (result : Result (Unit {0}) Exit) (said asks_for : Line)
    (D : StateData → StateData → List Entry → Type 0) (B : StateData → StateData → List Entry → Exit → Type 0)
    → said ≡ asks_for
    → ((es : List Entry) → D old.state new.state es → AskedDoes o h t number asks_for old.state new.state es)
    → ((es : List Entry) (why : Exit) → B old.state new.state es why
    → AskedBreaks o h recalls asks_for cloud old.state new.state es why)
    → HasDone D B old new result
    → HasDone (AskedDoes o h t number said) (AskedBreaks o h recalls said cloud) old new result
asked_as o h t number recalls cloud old new result said asks_for D B is does breaks it =
    subst (λ (l : Line). HasDone (AskedDoes o h t number l) (AskedBreaks o h recalls l cloud) old new result) (sym is)
    (done_as D (AskedDoes o h t number asks_for) B (AskedBreaks o h recalls asks_for cloud) old new result does breaks it)

-- what halts a book where a line asks for this
pub halts_as : (before now : Option Halt) (result : Result (Unit {0}) Exit) (said asks_for : Line) → said ≡ asks_for
    → HaltsBehind (halt_for asks_for) before now result → HaltsBehind (halt_for said) before now result
halts_as before now result said asks_for is it =
    subst (λ (l : Line). HaltsBehind (halt_for l) before now result) (sym is) it

-- a line that was done halts nothing
pub halts_none : (broken : Exit → Option Halt) (now : Option Halt) (result : Result (Unit {0}) Exit)
    → now ≡ halt_behind broken result → OnOk result (now ≡ None)
halts_none broken now (Ok u) is = is
halts_none broken now (Err why) is = tt

-- the catalogue stays where a line's fault is noted
pub kinds_noted : (number : ℕ) (line : List ℕ) (why : Misread) (c : Catalog) (old new : Page)
    (result : Result (Unit {0}) Exit)
    → ((code : List ℕ) (es : List Entry) → IsMisreadFor number why old.state new.state es → Reads line (Err why))
    → HasDone (IsMisreadFor number why) IsUndone old new result → OnOk result (CatalogBehind line c c)
kinds_noted number line why c old new (Ok u) reads (notes.did es noted is went) =
    stocks.misread why (reads noted.code es noted) refl
kinds_noted number line why c old new (Ok u) reads (notes.broke es cause un is failed) = cc
kinds_noted number line why c old new (Err e) reads it = tt

-- the catalogue behind a line that asks for this
pub kinds_as : (result : Result (Unit {0}) Exit) (said asks_for : Line) (old new : Catalog) → said ≡ asks_for
    → OnOk result (CatalogAsked asks_for old new) → OnOk result (CatalogAsked said old new)
kinds_as result said asks_for old new is it =
    subst (λ (l : Line). OnOk result (CatalogAsked l old new)) (sym is) it

-- the catalogue behind a line is that behind what it asks for
pub kinds_read : (result : Result (Unit {0}) Exit) (line : List ℕ) (said : Line) (old new : Catalog)
    → Reads line (Ok said) → OnOk result (CatalogAsked said old new) → OnOk result (CatalogBehind line old new)
kinds_read (Ok u) line said old new reads it = stocks.asks said reads it
kinds_read (Err e) line said old new reads it = tt

-- a catalogue that nobody changed
pub kinds_stay : (result : Result (Unit {0}) Exit) (c : Catalog) → OnOk result (c ≡ c)
kinds_stay (Ok u) c = refl
kinds_stay (Err e) c = tt

-- what holds at all holds where all went well
pub where_well : (A : Type 0) (result : Result (Unit {0}) Exit) → A → OnOk result A
where_well A (Ok u) it = it
where_well A (Err e) it = tt

-- all went well
pub goes_well : (A : Type 0) (result : Result (Unit {0}) Exit) → OnOk result A → result ≡ Ok tt → A
goes_well A (Ok u) it is = it
goes_well A (Err e) it is = cc
