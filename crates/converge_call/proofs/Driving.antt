-- A drive so far, and how each line takes it on or ends it.
use Rattle.std.proofs.Common.{◌≡◌, ◌<◌, ◌≤◌, ◌+◌, ℕ, List, [], ◌∷◌, ◌++◌, Option, Some, None, length}
use Rattle.std.proofs.Common.{take, drop, refl, sym, ap, ◌∙◌, subst, Result, Ok, Err, arith}
use Rattle.std.specs.Prelude.{Bool}
use Rattle.std.proofs.Math.Seq.{take-append_seam}
use Rattle.std.proofs.lemmas.List.{length-append, drop_all}
use Rattle.core_state.specs.declared.entry.Entry.{Entry}
use Rattle.core_state.specs.State.{StateData}
use Rattle.step_relation.specs.Opening.{Opening}
use Rattle.heat_io.specs.Lines.{script_limit}
use Rattle.heat_io.specs.Streams.{grown}
use Rattle.heat_io.proofs.Streaming.{grown-grown}
use Rattle.report.specs.Text.{text_of, text_after, told}
use Rattle.report.proofs.Parts.{is_parted}
use Rattle.book.specs.declared.halting.Halt.TheVariants as halted
use Rattle.record_keeper.specs.Shown.{ShownKeeper}
use Rattle.driver.specs.Kept.{Shown}
use Rattle.driver.specs.Quiet.{Page, page}
use Rattle.converge_call.specs.declared.exit.Exit.{Exit}
use Rattle.converge_call.specs.declared.exit.Exit.TheVariants as exit
use Rattle.converge_call.specs.Lines.{LineDoes, LineBreaks, Serial}
use Rattle.converge_call.specs.Lines as lines
use Rattle.converge_call.specs.Sources.{AllRead, FirstRead, JustRead, LimitRead, UnendedRead}
use Rattle.converge_call.specs.Stocks.{Stock, StockBehind, CatalogBehind, stock, first_stock}
use Rattle.hot_catalog.specs.declared.catalog.Catalog.{Catalog}
use Rattle.type_catalog.specs.declared.custom.NamedTest.{NamedTest}
use Rattle.type_catalog.specs.declared.kind.KindDef.{KindDef}
use Rattle.converge_call.specs.Stocks as stocks
use Rattle.converge_call.specs.Drives.{LineAnswered, LineEnd, Drove, EndsWriting, Streams, streams, Written}
use Rattle.converge_call.specs.Drives as drives
use Rattle.converge_call.specs.Shortening.{Shortens}
use Rattle.converge_call.specs.Shortening as shortening
use Rattle.converge_call.proofs.Noting.{append-none}
use Rattle.converge_call.proofs.Compacting.{shortened_entries, shortened_state}
use Rattle.converge_call.proofs.Sourcing.{IsAt, at_first, just_read}

-- a drive so far, before the line of this number: what the reader holds, and what the source has left
pub record SoFar (old : Streams) (o : Opening) (first now_in : Stock) (now : Page) (held : List ℕ)
    (left holds : Option (List ℕ)) (given number : ℕ) : Type 0 where
  pub lines : List (List ℕ)
  pub serial : Serial o first lines now.state now.entries
  pub behind : StockBehind first lines now_in
  pub count : length lines + 1 ≡ number
  pub few : length lines ≤ given
  pub within : given ≤ script_limit
  pub at : IsAt old.left held left lines given
  pub text : holds ≡ grown old.holds (text_of o.state now.entries)

pub grown-none : (held : Option (List ℕ)) → held ≡ grown held []
grown-none None = refl
grown-none (Some all) = ap Some (sym (append-none all))

-- what tells nothing of no entry
told_of_none : {S : Type 0} (f : S → List Entry → List ℕ) (seen : S) (es : List Entry) → ((s : S) → f s [] ≡ [])
    → es ≡ [] → f seen es ≡ []
told_of_none f seen es empty none = ap (λ (rest : List Entry). f seen rest) none ∙ empty seen

-- no entry adds nothing to the text
pub nothing_told : (opening : StateData) (entries : List Entry) (from : ℕ) → from ≡ length entries
    → text_after opening entries from ≡ []
nothing_told opening entries from all =
    told_of_none told _ (drop from entries) (λ s. refl) (drop_all from entries (omega (arith, all)))

-- no text is written by writing nothing
pub nothing_written : (holds : Option (List ℕ)) (text : List ℕ) → text ≡ [] → Written holds holds text (Ok tt)
nothing_written holds text none = drives.all (grown-none holds ∙ ap (λ (t : List ℕ). grown holds t) (sym none)) refl

-- a catalogue of what is registered alone
pub first_is : (kinds : List KindDef) (tests : List NamedTest) (c : Catalog) → c.registered ≡ kinds → c.given ≡ []
    → stock tests c ≡ first_stock kinds tests
first_is kinds tests c registered given = rw (registered, given) refl

-- before the first line
pub starts : (old : Streams) (o : Opening) (first t : Stock) (now : Page) (held : List ℕ) (given : ℕ)
    → now.state ≡ o.state → now.entries ≡ [] → t ≡ first
    → held ≡ [] → given ≡ 0 → SoFar old o first t now held old.left old.holds given 1
starts old o first t now held given at_start none same empty zero = record {
  lines = [];
  serial = lines.begins [] now.state now.entries refl at_start none;
  behind = stocks.begins [] t refl same;
  count = refl;
  few = omega arith;
  within = let none = zero in omega (arith, none);
  at = at_first old.left held given empty zero;
  text = grown-none old.holds ∙ ap (λ (h : List Entry). grown old.holds (text_of o.state h)) (sym none);
}

module _ (old : Streams) (o : Opening) (first t : Stock) (recalls : Bool) (now : Page) (held : List ℕ)
    (left holds : Option (List ℕ)) (given number : ℕ) (so : SoFar old o first t now held left holds given number) where
  -- the lines with one more
  abbrev pub with_line : List ℕ → List (List ℕ)
  with_line line = so.lines ++ line ∷ []

  -- what a line added to the text
  text_on : (es : List Entry) (new : Page) → new.entries ≡ now.entries ++ es
      → text_of o.state new.entries ≡ text_of o.state now.entries ++ text_after o.state new.entries (length now.entries)
  text_on es new is =
      is_parted o.state new.entries (length now.entries)
      ∙ ap (λ (h : List Entry). text_of o.state h ++ text_after o.state new.entries (length now.entries))
      (ap (λ (h : List Entry). take (length now.entries) h) is ∙ take-append_seam now.entries es)

  written_on : (es : List Entry) (new : Page) (holds_new : Option (List ℕ)) (text : List ℕ)
      → text_of o.state new.entries ≡ text_of o.state now.entries ++ text → holds_new ≡ grown holds text
      → holds_new ≡ grown old.holds (text_of o.state new.entries)
  written_on es new holds_new text parted is =
      is ∙ ap (λ (h : Option (List ℕ)). grown h text) so.text ∙ grown-grown old.holds (text_of o.state now.entries) text
      ∙ ap (λ (t : List ℕ). grown old.holds t) (sym parted)

  -- the line's number is that of its place
  numbered : (line : List ℕ) (es : List Entry) (new : Page)
      → LineDoes o now.entries t number line now.state new.state es
      → LineDoes o now.entries t (length so.lines + 1) line now.state new.state es
  numbered line es new does = subst (λ (n : ℕ). LineDoes o now.entries t n line now.state new.state es)
      (sym so.count) does

  serial_on : (line : List ℕ) (es : List Entry) (new : Page)
      → LineDoes o now.entries t number line now.state new.state es → new.entries ≡ now.entries ++ es
      → Serial o first (with_line line) new.state new.entries
  serial_on line es new does is =
      lines.adds so.lines now.state now.entries t line (with_line line) new.state es new.entries so.serial so.behind
      (numbered line es new does) refl is

  -- a line was done and what it added is written
  pub goes_on : (held_new : List ℕ) (left_new : Option (List ℕ)) (given_new : ℕ) (line : List ℕ) (u : Stock)
      (new : Page) (ends : LineEnd) (holds_new : Option (List ℕ)) (result : Result (Unit {0}) Exit)
      → IsAt old.left held_new left_new (with_line line) given_new → given < given_new → given_new ≤ script_limit
      → LineAnswered o t recalls number line now new ends holds holds_new result → result ≡ Ok tt
      → CatalogBehind line t.catalog u.catalog → u.tests ≡ t.tests
      → SoFar old o first u new held_new left_new holds_new given_new (number + 1)
  goes_on held_new left_new given_new line u new ends holds_new result at rises within
      (drives.done es does is goes (drives.all grows ended)) went kinds tests = record {
        lines = with_line line;
        serial = serial_on line es new does is;
        behind = stocks.adds so.lines t line (with_line line) u so.behind kinds tests refl;
        count = let one = length-append so.lines (line ∷ []) in let n = so.count in omega (arith, one, n);
        few = let one = length-append so.lines (line ∷ []) in let n = so.few in omega (arith, one, n, rises);
        within = within;
        at = at;
        text = written_on es new holds_new _ (text_on es new is) grows;
      }
  goes_on held_new left_new given_new line u new ends holds_new result at rises within
      (drives.done es does is goes (drives.first written rest why parts grows cause ended)) went kinds tests = cc
  goes_on held_new left_new given_new line u new ends holds_new result at rises within
      (drives.broke es why breaks is same ended) went kinds tests = cc

  -- a line was broken off, or what it added isn't all written
  pub ends_at : (held_new : List ℕ) (left_new : Option (List ℕ)) (given_new : ℕ) (line : List ℕ) (new : Page)
      (ends : LineEnd) (holds_new : Option (List ℕ)) (result : Result (Unit {0}) Exit) (why : Exit)
      → IsAt old.left held_new left_new (with_line line) given_new
      → LineAnswered o t recalls number line now new ends holds holds_new result → result ≡ Err why
      → Drove o first recalls old (streams left_new holds_new) new.state new.entries ends why
  ends_at held_new left_new given_new line new ends holds_new result why at
      (drives.done es does is goes (drives.all grows ended)) went = cc
  ends_at held_new left_new given_new line new ends holds_new result why at
      (drives.done es does is goes (drives.first written rest cause parts grows writing ended)) went =
      let same : cause ≡ why = cc in
      drives.not_written so.lines now.state now.entries line es written rest t so.serial so.behind
      (numbered line es new does) is (just_read old.left held_new left_new (with_line line) given_new at) parts
      (grows ∙ ap (λ (h : Option (List ℕ)). grown h written) so.text
      ∙ grown-grown old.holds (text_of o.state now.entries) written) goes
      (subst EndsWriting same writing)
  ends_at held_new left_new given_new line new ends holds_new result why at
      (drives.broke es cause breaks is same_held ended) went =
      let same : cause ≡ why = cc in
      drives.broken_off so.lines now.state now.entries line es so.serial
      (subst (λ (x : Exit). LineBreaks o now.entries recalls line ends.cloud ends.halt now.state new.state es x) same
      breaks) is
      (just_read old.left held_new left_new (with_line line) given_new at) (same_held ∙ so.text)

  -- no further line was done
  module _ (left_new : Option (List ℕ)) (ends : LineEnd) where
    pub ends_well : AllRead old.left left_new so.lines → ends.halt ≡ None
        → Drove o first recalls old (streams left_new holds) now.state now.entries ends exit.Done
    ends_well all goes = drives.done so.lines so.serial all so.text goes refl

    pub ends_long : LimitRead old.left left_new so.lines → ends.halt ≡ None
        → Drove o first recalls old (streams left_new holds) now.state now.entries ends exit.TooLong
    ends_long limit goes = drives.too_long so.lines so.serial limit so.text goes refl

    pub ends_unread : UnendedRead old.left left_new so.lines → ends.halt ≡ None
        → Drove o first recalls old (streams left_new holds) now.state now.entries ends exit.ReadFault
    ends_unread unended goes = drives.not_read so.lines so.serial unended so.text goes refl

    pub ends_lacking : FirstRead old.left left_new so.lines → ends.halt ≡ None
        → Drove o first recalls old (streams left_new holds) now.state now.entries ends exit.Memory
    ends_lacking read goes = drives.lacking so.lines so.serial read so.text goes refl

    pub ends_uncompacted : JustRead old.left left_new so.lines → ends.halt ≡ Some halted.DiskFault
        → Drove o first recalls old (streams left_new holds) now.state now.entries ends exit.DiskFault
    ends_uncompacted read fault = drives.not_compacted so.lines so.serial read so.text fault refl

-- what leaves the state and the history as they are leaves a drive so far as it is
pub still_so : (old : Streams) (o : Opening) (first t : Stock) (now new : Page) (held : List ℕ)
    (left holds : Option (List ℕ)) (given number : ℕ) → new.state ≡ now.state → new.entries ≡ now.entries
    → SoFar old o first t now held left holds given number → SoFar old o first t new held left holds given number
still_so old o first t now new held left holds given number same none so = record {
  lines = so.lines;
  serial = subst (λ (s : StateData). Serial o first so.lines s new.entries) (sym same)
      (subst (λ (h : List Entry). Serial o first so.lines now.state h) (sym none) so.serial);
  behind = so.behind;
  count = so.count;
  few = so.few;
  within = so.within;
  at = so.at;
  text = so.text ∙ ap (λ (h : List Entry). grown old.holds (text_of o.state h)) (sym none);
}

-- the keeper couldn't be compacted
pub ends_shortened : {K P : Type 0} (shown : K → ShownKeeper) (old : Streams) (o : Opening) (first t : Stock)
    (recalls : Bool) (mid new : Shown K P) (held : List ℕ) (left holds : Option (List ℕ)) (given number : ℕ)
    (ends : LineEnd) (status : Exit)
    → SoFar old o first t (page mid.state mid.entries) held left holds given number → mid.halt ≡ None
    → ends.halt ≡ new.halt → Shortens shown mid new (Err status)
    → Drove o first recalls old (streams left holds) new.state new.entries ends status
unfolding still_so
ends_shortened shown old o first t recalls mid new held left holds given number ends status so goes halts it =
    by it where
      still : SoFar old o first t (page new.state new.entries) held left holds given number
      still = still_so old o first t (page mid.state mid.entries) (page new.state new.entries) held left holds given number
          (shortened_state shown mid new (Err status) it) (shortened_entries shown mid new (Err status) it) so

      read : JustRead old.left left so.lines
      read = just_read old.left held left so.lines given so.at

      by : Shortens shown mid new (Err status) → Drove o first recalls old (streams left holds) new.state new.entries ends status
      by (shortening.done same short is) = cc
      by (shortening.lacking same is) =
          let memory : status ≡ exit.Memory = cc in
          subst (λ (why : Exit). Drove o first recalls old (streams left holds) new.state new.entries ends why)
          (sym memory) (ends_lacking old o first t recalls (page new.state new.entries) held left holds given
          number still left ends read.first (halts ∙ ap (λ (b : Shown _ _). b.halt) same ∙ goes))
      by (shortening.failed same is) =
          let fault : status ≡ exit.DiskFault = cc in
          subst (λ (why : Exit). Drove o first recalls old (streams left holds) new.state new.entries ends why)
          (sym fault) (ends_uncompacted old o first t recalls (page new.state new.entries) held left holds given
          number still left ends read (halts ∙ ap (λ (b : Shown _ _). b.halt) same))

-- no line was read
pub ends_unbegun : (old : Streams) (o : Opening) (first : Stock) (recalls : Bool) (now : Page) (ends : LineEnd)
    → now.state ≡ o.state → now.entries ≡ [] → ends.halt ≡ None
    → Drove o first recalls old old now.state now.entries ends exit.Memory
unfolding starts
ends_unbegun old o first recalls now ends at_start none goes =
    ends_lacking old o first first recalls now [] old.left old.holds 0 1 so old.left ends
    (just_read old.left [] old.left [] 0 so.at).first goes where
      so : SoFar old o first first now [] old.left old.holds 0 1
      so = starts old o first first now [] 0 at_start none refl refl refl
