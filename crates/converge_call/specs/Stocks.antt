-- What the bodies of lines are planned with beside the state: the tests that are registered, and the catalogue that
-- stands behind the lines so far.
use Rattle.std.specs.Prelude.{◌≡◌, ℕ, List, [], ◌∷◌, ◌++◌, Some, None, Ok, Err}
use Rattle.heat_value.specs.Data.{Data}
use Rattle.heat_value.specs.Meaning.{data_of}
use Rattle.heat_value.specs.declared.path.Step.{Step}
use Rattle.hot_catalog.specs.Catalogs.{read_flaw, after}
use Rattle.hot_catalog.specs.declared.catalog.Catalog.{Catalog}
use Rattle.type_catalog.specs.declared.custom.NamedTest.{NamedTest}
use Rattle.type_catalog.specs.declared.kind.KindDef.{KindDef}
use Rattle.script_lines.specs.Readings.{Reads}
use Rattle.script_lines.specs.declared.line.Line.{Line}
use Rattle.script_lines.specs.declared.line.Line.TheVariants.{Blank, Create, Update, Delete, Cancel, Status, Resources}
use Rattle.script_lines.specs.declared.line.Line.TheVariants.{Outputs, Types, Run, Turn, Stop, Start, Restart}
use Rattle.script_lines.specs.declared.misread.Misread.{Misread}

pub record Stock : Type 0 where
  pub tests : List NamedTest
  pub catalog : Catalog

abbrev pub stock : List NamedTest → Catalog → Stock
stock tests catalog = record { tests = tests; catalog = catalog }

-- before the first line: what is registered alone
abbrev pub first_stock : List KindDef → List NamedTest → Stock
first_stock kinds tests = stock tests (record { registered = kinds; given = [] })

-- a catalogue with no fault is taken, and any other changes nothing
pub data TakesKinds (given : Data) (old new : Catalog) : Type 0 where
  taken : read_flaw old given ≡ None → new ≡ after old given → TakesKinds given old new
  not_taken : (path : List Step) → read_flaw old given ≡ Some path → new ≡ old → TakesKinds given old new

-- the catalogue behind a line that asks for this
abbrev pub CatalogAsked : Line → Catalog → Catalog → Type 0
CatalogAsked Blank old new = new ≡ old
CatalogAsked (Create name body) old new = new ≡ old
CatalogAsked (Update name body) old new = new ≡ old
CatalogAsked (Delete name) old new = new ≡ old
CatalogAsked (Cancel name) old new = new ≡ old
CatalogAsked (Status name) old new = new ≡ old
CatalogAsked (Resources name) old new = new ≡ old
CatalogAsked (Outputs name) old new = new ≡ old
CatalogAsked (Types given) old new = TakesKinds (data_of given) old new
CatalogAsked (Run asked) old new = new ≡ old
CatalogAsked (Turn e) old new = new ≡ old
CatalogAsked (Stop e) old new = new ≡ old
CatalogAsked Start old new = new ≡ old
CatalogAsked Restart old new = new ≡ old

-- the catalogue behind a line
pub data CatalogBehind (line : List ℕ) (old new : Catalog) : Type 0 where
  asks : (said : Line) → Reads line (Ok said) → CatalogAsked said old new → CatalogBehind line old new
  misread : (why : Misread) → Reads line (Err why) → new ≡ old → CatalogBehind line old new

-- the stock behind a list of lines
pub data StockBehind (first : Stock) : List (List ℕ) → Stock → Type 0 where
  begins : (lines : List (List ℕ)) (last : Stock) → lines ≡ [] → last ≡ first → StockBehind first lines last
  adds : (before : List (List ℕ)) (mid : Stock) (line : List ℕ) (lines : List (List ℕ)) (last : Stock)
      → StockBehind first before mid → CatalogBehind line mid.catalog last.catalog → last.tests ≡ mid.tests
      → lines ≡ before ++ line ∷ [] → StockBehind first lines last
