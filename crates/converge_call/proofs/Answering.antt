-- What a line is answered, from what it did and what was written then.
use Rattle.std.proofs.Common.{◌≡◌, inl, inr, ℕ, List, ◌++◌, Option, length, take, refl, sym, ap, ◌∙◌, subst}
use Rattle.std.proofs.Common.{Result, Ok, Err}
use Rattle.std.specs.Prelude.{Bool, None}
use Rattle.core_state.specs.declared.entry.Entry.{Entry}
use Rattle.core_state.specs.State.{StateData}
use Rattle.provider.specs.Cloud.{Cloud}
use Rattle.step_relation.specs.Opening.{Opening}
use Rattle.script_lines.specs.declared.line.Line.{Line}
use Rattle.script_lines.specs.declared.line.Line.TheVariants as form
use Rattle.book.specs.declared.halting.Halt.{Halt}
use Rattle.book.specs.declared.restarting.Unrestarted.{Unrestarted}
use Rattle.book.specs.declared.restarting.Unrestarted.TheVariants as why_not
use Rattle.driver.specs.declared.ran.Ran.{Ran}
use Rattle.driver.specs.declared.ran.Ran.TheVariants as ran
use Rattle.report.specs.Seen.{SeenData, seen_of}
use Rattle.report.specs.Text.{seen_after, text_after}
use Rattle.driver.specs.Quiet.{Page}
use Rattle.converge_call.specs.declared.exit.Exit.{Exit}
use Rattle.converge_call.specs.declared.exit.Exit.TheVariants as exit
use Rattle.converge_call.specs.Exits.{exit_of}
use Rattle.converge_call.specs.Notes.{HasDone, IsUndone, IsUnkept}
use Rattle.converge_call.specs.Notes as notes
use Rattle.converge_call.specs.Runs.{RunBreaks, TurnBreaks, break_of}
use Rattle.converge_call.specs.Runs as runs
use Rattle.converge_call.specs.Lines.{AskedBreaks, LineDoes, LineBreaks}
use Rattle.converge_call.specs.Lines as lines
use Rattle.converge_call.specs.Stocks.{Stock}
use Rattle.converge_call.specs.Drives.{Streams, Written, LineAnswered, LineEnd, Drove}
use Rattle.converge_call.specs.Drives as drives
use Rattle.converge_call.proofs.Reporting.{seen_before}

-- the same answer over the drive's own opening and the line that was read
pub answered_as : (number : ℕ) (line read : List ℕ) (p o : Opening) (r recalls : Bool) (t : Stock) (old new : Page)
    (ends : LineEnd) (holds holds_new : Option (List ℕ)) (result : Result (Unit {0}) Exit)
    → line ≡ read → p ≡ o → r ≡ recalls → LineAnswered p t r number line old new ends holds holds_new result
    → LineAnswered o t recalls number read old new ends holds holds_new result
answered_as number line read p o r recalls t old new ends holds holds_new result same_line same_opening same_keeper it =
    subst (λ (x : Bool). LineAnswered o t x number read old new ends holds holds_new result) same_keeper
    (subst (λ (x : Opening). LineAnswered x t r number read old new ends holds holds_new result) same_opening
    (subst (λ (l : List ℕ). LineAnswered p t r number l old new ends holds holds_new result) same_line it))

module _ (o : Opening) (t : Stock) (recalls : Bool) (number : ℕ) (line : List ℕ) (old new : Page) (ends : LineEnd)
    (holds : Option (List ℕ)) where
  -- what a line did
  abbrev pub LineDone : Result (Unit {0}) Exit → Type 0
  LineDone done = HasDone (LineDoes o old.entries t number line)
      (LineBreaks o old.entries recalls line ends.cloud ends.halt) old new done

  -- a line that was broken off
  pub broken_answered : (done answered : Result (Unit {0}) Exit) (why : Exit) → LineDone done → done ≡ Err why
      → answered ≡ Err why
      → LineAnswered o t recalls number line old new ends holds holds answered
  broken_answered done answered why (notes.did es does is ended) failed same = cc
  broken_answered done answered why (notes.broke es cause breaks is ended) failed same =
      let both : cause ≡ why = cc in
      drives.broke es why (subst (λ (x : Exit).
      LineBreaks o old.entries recalls line ends.cloud ends.halt old.state new.state es x) both breaks) is refl same

  -- a line that was done, and what was written then
  pub done_answered : (holds_new : Option (List ℕ)) (done answered : Result (Unit {0}) Exit) (opened : StateData)
      (from : ℕ) → LineDone done
      → done ≡ Ok tt → ends.halt ≡ None → opened ≡ o.state → from ≡ length old.entries
      → Written holds holds_new (text_after opened new.entries from) answered
      → LineAnswered o t recalls number line old new ends holds holds_new answered
  done_answered holds_new done answered opened from (notes.did es does is ended) went goes same at written =
      drives.done es does is goes (subst (λ (s : StateData). Written holds holds_new
      (text_after s new.entries (length old.entries)) answered) same
      (subst (λ (n : ℕ). Written holds holds_new (text_after opened new.entries n) answered) at written))
  done_answered holds_new done answered opened from (notes.broke es cause breaks is ended) went goes same at written =
      cc

  -- what a line added
  pub grows_by : (done : Result (Unit {0}) Exit) → LineDone done → (es : List Entry) × (new.entries ≡ old.entries ++ es)
  grows_by done (notes.did es does is went) = (es, is)
  grows_by done (notes.broke es why breaks is failed) = (es, is)

  -- who has seen all before a line has seen all before what it adds
  pub seen_then : (done : Result (Unit {0}) Exit) → LineDone done → (seen : SeenData) (first last : StateData) (from : ℕ)
      → last ≡ first → from ≡ length old.entries
      → seen ≡ seen_after (seen_of first) old.entries → seen ≡ seen_after (seen_of last) (take from new.entries)
  seen_then done ended seen first last from same at was =
      let (es, is) = grows_by done ended in
      was ∙ sym (seen_before (seen_of first) old.entries new.entries es is)
      ∙ ap (λ (s : StateData). seen_after (seen_of s) (take (length old.entries) new.entries)) (sym same)
      ∙ ap (λ (n : ℕ). seen_after (seen_of last) (take n new.entries)) (sym at)

-- the causes for which a line is broken off
abbrev pub IsBreak : Exit → Type 0
IsBreak exit.Done = ⊥
IsBreak exit.Usage = ⊥
IsBreak exit.TooLong = ⊥
IsBreak exit.ReadFault = ⊥
IsBreak exit.WriteFault = ⊥
IsBreak exit.DiskFault = Unit {0}
IsBreak exit.Memory = Unit {0}
IsBreak exit.Foreign = Unit {0}
IsBreak (exit.Disagree token finding) = Unit {0}
IsBreak exit.CloudFault = Unit {0}
IsBreak exit.Worn = Unit {0}

break_is : (ended : Ran) → IsBreak (break_of ended)
break_is (ran.Idle m) = tt
break_is (ran.Tired n) = tt
break_is ran.Worn = tt
break_is ran.DiskFault = tt
break_is ran.Memory = tt

exit_is : (w : Unrestarted) → IsBreak (exit_of w)
exit_is why_not.Foreign = tt
exit_is (why_not.Disagree token finding) = tt
exit_is why_not.DiskFault = tt
exit_is why_not.CloudFault = tt
exit_is why_not.Worn = tt
exit_is why_not.Memory = tt

by_exit : (why other : Exit) → why ≡ other → IsBreak other → IsBreak why
by_exit why other is it = subst (λ (x : Exit). IsBreak x) (sym is) it

undone_is : (old new : StateData) (es : List Entry) (why : Exit) → IsUndone old new es why → IsBreak why
undone_is old new es why un = by_exit why exit.Memory un.memory tt

unkept_is : (old new : StateData) (es : List Entry) (why : Exit) → IsUnkept old new es why → IsBreak why
unkept_is old new es why un = elim un.cause
    [ inl memory ↦ by_exit why exit.Memory memory tt | inr fault ↦ by_exit why exit.DiskFault fault tt ]

run_broken_for : (asked : Option ℕ) (old new : StateData) (es : List Entry) (why : Exit)
    → RunBreaks asked old new es why → IsBreak why
run_broken_for asked old new es why (runs.unrun un) = undone_is old new es why un
run_broken_for asked old new es why (runs.stops n limit it) = by_exit why (break_of it.ended) it.cause
    (break_is it.ended)

turn_broken_for : (e : ℕ) (old new : StateData) (es : List Entry) (why : Exit) → TurnBreaks e old new es why
    → IsBreak why
turn_broken_for e old new es why (runs.lacking lacks memory) = by_exit why exit.Memory memory tt
turn_broken_for e old new es why (runs.unkept lacks fault) = by_exit why exit.DiskFault fault tt
turn_broken_for e old new es why (runs.worn_out by same none worn) = by_exit why exit.Worn worn tt

module _ (o : Opening) (h : List Entry) (recalls : Bool) (cloud : Cloud) (old new : StateData) (es : List Entry)
    (why : Exit) where
  asked_broken_for : (said : Line) → AskedBreaks o h recalls said cloud old new es why → IsBreak why
  asked_broken_for form.Blank it = undone_is old new es why it
  asked_broken_for (form.Create name body) it = unkept_is old new es why it
  asked_broken_for (form.Update name body) it = unkept_is old new es why it
  asked_broken_for (form.Delete name) it = unkept_is old new es why it
  asked_broken_for (form.Cancel name) it = unkept_is old new es why it
  asked_broken_for (form.Status name) it = undone_is old new es why it
  asked_broken_for (form.Resources name) it = undone_is old new es why it
  asked_broken_for (form.Outputs name) it = undone_is old new es why it
  asked_broken_for (form.Types given) it = undone_is old new es why it
  asked_broken_for (form.Run asked) it = run_broken_for asked old new es why it
  asked_broken_for (form.Turn e) it = turn_broken_for e old new es why it
  asked_broken_for (form.Stop e) it = unkept_is old new es why it
  asked_broken_for form.Start it = unkept_is old new es why it
  asked_broken_for form.Restart it = by_exit why (exit_of it.cause) it.is_why (exit_is it.cause)

  -- why a line is broken off
  pub broken_for : (text : List ℕ) (halt : Option Halt)
      → LineBreaks o h recalls text cloud halt old new es why → IsBreak why
  broken_for text halt (lines.unread un goes) = undone_is old new es why un
  broken_for text halt (lines.asked said reads breaks halts) = asked_broken_for said breaks

-- the source has no part in a line's answer
pub never_read : (o : Opening) (t : Stock) (recalls : Bool) (number : ℕ) (line : List ℕ) (old new : Page)
    (ends : LineEnd) (holds holds_new : Option (List ℕ)) (answered : Result (Unit {0}) Exit) (why : Exit)
    → LineAnswered o t recalls number line old new ends holds holds_new answered
    → answered ≡ Err why → why ≡ exit.ReadFault → ⊥
never_read o t recalls number line old new ends holds holds_new answered why
    (drives.done es does is goes (drives.all grows ended)) failed same = cc
never_read o t recalls number line old new ends holds holds_new answered why
    (drives.done es does is goes (drives.first written rest cause parts grows drives.write_fault ended)) failed same = cc
never_read o t recalls number line old new ends holds holds_new answered why
    (drives.done es does is goes (drives.first written rest cause parts grows drives.no_memory ended)) failed same = cc
never_read o t recalls number line old new ends holds holds_new answered why
    (drives.broke es cause breaks is kept ended) failed same =
    let both : cause ≡ why = cc in
    subst (λ (x : Exit). IsBreak x) (both ∙ same) (broken_for o old.entries recalls ends.cloud old.state new.state es
    cause line ends.halt breaks)

-- no line's answer says that the script was read to its end
pub never_done : (o : Opening) (t : Stock) (recalls : Bool) (number : ℕ) (line : List ℕ) (old new : Page)
    (ends : LineEnd) (holds holds_new : Option (List ℕ)) (answered : Result (Unit {0}) Exit) (why : Exit)
    → LineAnswered o t recalls number line old new ends holds holds_new answered
    → answered ≡ Err why → why ≡ exit.Done → ⊥
never_done o t recalls number line old new ends holds holds_new answered why
    (drives.done es does is goes (drives.all grows ended)) failed same = cc
never_done o t recalls number line old new ends holds holds_new answered why
    (drives.done es does is goes (drives.first written rest cause parts grows drives.write_fault ended)) failed same = cc
never_done o t recalls number line old new ends holds holds_new answered why
    (drives.done es does is goes (drives.first written rest cause parts grows drives.no_memory ended)) failed same = cc
never_done o t recalls number line old new ends holds holds_new answered why
    (drives.broke es cause breaks is kept ended) failed same =
    let both : cause ≡ why = cc in
    subst (λ (x : Exit). IsBreak x) (both ∙ same) (broken_for o old.entries recalls ends.cloud old.state new.state es
    cause line ends.halt breaks)

-- no drive ends for its words
pub never_usage : (o : Opening) (first : Stock) (recalls : Bool) (old new : Streams) (last : StateData) (h : List Entry)
    (ends : LineEnd) (status : Exit) → Drove o first recalls old new last h ends status → status ≡ exit.Usage → ⊥
never_usage o first recalls old new last h ends status (drives.done all run read text goes is) same = cc
never_usage o first recalls old new last h ends status (drives.too_long all run read text goes is) same = cc
never_usage o first recalls old new last h ends status (drives.not_read all run read text goes is) same = cc
never_usage o first recalls old new last h ends status (drives.lacking all run read text goes is) same = cc
never_usage o first recalls old new last h ends status (drives.not_compacted all run read text fault is) same = cc
never_usage o first recalls old new last h ends status
    (drives.broken_off all mid so_far line rest run breaks parts read text) same =
    subst (λ (x : Exit). IsBreak x) same (broken_for o so_far recalls ends.cloud mid last rest status line ends.halt breaks)
never_usage o first recalls old new last h ends status
    (drives.not_written all mid so_far line es written rest t run behind does parts read text grows goes drives.write_fault) same = cc
never_usage o first recalls old new last h ends status
    (drives.not_written all mid so_far line es written rest t run behind does parts read text grows goes drives.no_memory) same = cc
