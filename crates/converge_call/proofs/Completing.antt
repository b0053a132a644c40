-- What came in the way of a drive that didn't end well.
use Rattle.std.proofs.Common.{◌≡◌, ◌⊎◌, inl, inr, ◌+◌, ◌≤◌, ◌^◌, ℕ, List, [], Option, refl, sym, subst, arith, length}
use Rattle.std.specs.Prelude.{Bool, IsTrue}
use Rattle.heat_value.specs.Counts.{Rose}
use Rattle.core_state.specs.declared.entry.Entry.{Entry}
use Rattle.core_state.specs.State.{StateData}
use Rattle.provider.specs.Cloud.{Cloud}
use Rattle.step_relation.specs.Could.{Allows}
use Rattle.step_relation.specs.Laws.{SoundAt, opening_at}
use Rattle.step_relation.specs.Opening.{Opening, first_of}
use Rattle.step_relation.specs.Sound.{Sound}
use Rattle.history_laws.proofs.headline.Openings.{states_are_openings}
use Rattle.workable_laws.proofs.Admissions.{sound_admitted}
use Rattle.workable_laws.specs.Admitted.{IsAdmitted}
use Rattle.script_lines.specs.declared.line.Line.{Line}
use Rattle.script_lines.specs.declared.line.Line.TheVariants as form
use Rattle.book.specs.Restarts as of_book
use Rattle.book.specs.declared.halting.Halt.{Halt}
use Rattle.book.specs.declared.restarting.Unrestarted.{Unrestarted}
use Rattle.driver.specs.Scenes.{Scene, scene}
use Rattle.driver.specs.Turned.{IsWornBy}
use Rattle.driver.specs.Turns.{RanTo}
use Rattle.driver.specs.Turns as turns
use Rattle.driver.specs.declared.ran.Ran.{Ran}
use Rattle.converge_call.specs.declared.exit.Exit.{Exit}
use Rattle.converge_call.specs.declared.exit.Exit.TheVariants as exit
use Rattle.converge_call.specs.Exits.{exit_of}
use Rattle.converge_call.specs.Notes.{IsUndone}
use Rattle.converge_call.specs.Restarts.{RestartBreaks}
use Rattle.converge_call.specs.Runs.{RunBreaks, TurnBreaks, break_of}
use Rattle.converge_call.specs.Runs as runs
use Rattle.converge_call.specs.Lines.{AskedBreaks, LineBreaks}
use Rattle.converge_call.specs.Lines as lines
use Rattle.converge_call.specs.Stocks.{Stock}
use Rattle.converge_call.specs.Sources.{LimitRead, StaysWithin}
use Rattle.converge_call.specs.Drives.{Drove, EndsWriting, line_end}
use Rattle.converge_call.specs.Drives as drives
use Rattle.converge_call.specs.Ends.{Outside, streams_of, HasFailedList, IsCalm, EndsCalmly, opening_in}
use Rattle.converge_call.proofs.Differing.{found_not}

-- Over a state that is sound with the last cloud: where no number is worn out, no list failed and the keeper recalls, what
-- broke a line off is want of memory, or a fault of the keeper.
module _ (count : ℕ) (recalls : Bool) (cloud : Cloud) (last : StateData) (recalled : IsTrue recalls)
    (sound : SoundAt last cloud) (listed : ¬ HasFailedList cloud) (unworn : (e : ℕ) → ¬ IsWornBy last e)
    (engines : last.next.engine + count ≤ 2 ^ 62) where
  abbrev pub IsOutside : Exit → Type 0
  IsOutside why = (why ≡ exit.Memory) ⊎ (why ≡ exit.DiskFault)

  admitted : IsAdmitted (opening_at last cloud)
  admitted = sound_admitted (opening_at last cloud) sound

  undone_by : (old new : StateData) (es : List Entry) (why : Exit) → IsUndone old new es why → IsOutside why
  undone_by old new es why un = inl un.memory

  ran_by : (n : ℕ) (old : StateData) (es : List Entry) (ended : Ran) → RanTo n old last es ended
      → IsOutside (break_of ended)
  ran_by n old es ended (turns.idle by within run rests is) =
      subst (λ (r : Ran). IsOutside (break_of r)) (sym is) (inl refl)
  ran_by n old es ended (turns.tired by all run busy is) =
      subst (λ (r : Ran). IsOutside (break_of r)) (sym is) (inl refl)
  ran_by n old es ended (turns.worn by e few run next worn_by is) = absurd (unworn e worn_by)
  ran_by n old es ended (turns.memory by e mid before after few run next lacks parts is) =
      subst (λ (r : Ran). IsOutside (break_of r)) (sym is) (inl refl)
  ran_by n old es ended (turns.fault by e mid before after few run next lacks parts is) =
      subst (λ (r : Ran). IsOutside (break_of r)) (sym is) (inr refl)

  run_by : (asked : Option ℕ) (old : StateData) (es : List Entry) (why : Exit) → RunBreaks asked old last es why
      → IsOutside why
  run_by asked old es why (runs.unrun un) = inl un.memory
  run_by asked old es why (runs.stops n limit it) =
      subst IsOutside (sym it.cause) (ran_by n old es it.ended it.ran_to)

  turn_by : (by : ℕ) (old : StateData) (es : List Entry) (why : Exit) → TurnBreaks by old last es why → IsOutside why
  turn_by by old es why (runs.lacking lacks memory) = inl memory
  turn_by by old es why (runs.unkept lacks fault) = inr fault
  turn_by by old es why (runs.worn_out worn_by same none is) =
      absurd (unworn by (subst (λ (s : StateData). IsWornBy s by) (sym same) worn_by))

  restart_by : (before : Cloud) (w : Unrestarted)
      → of_book.RestartBreaks recalls count (scene last [] before) (scene last [] cloud) w → IsOutside (exit_of w)
  restart_by before _ (of_book.foreign unfit same) = absurd (unfit recalled admitted.read admitted.tied)
  restart_by before _ (of_book.disagree all token finding lists found) =
      absurd (found_not (opening_at last cloud) token finding admitted.compared found)
  restart_by before _ (of_book.cloud_fault none) = absurd (listed (before.trace, none.noted.trace))
  restart_by before _ (of_book.worn all lists nothing over) = absurd (omega (arith, over, engines))
  restart_by before _ (of_book.disk_fault may) = inr refl
  restart_by before _ (of_book.memory may) = inl refl

  restarted_by : (o : Opening) (h : List Entry) (old : StateData) (es : List Entry) (why : Exit)
      → length o.state.live ≡ count → RestartBreaks o h recalls cloud old last es why → IsOutside why
  restarted_by o h old es why counted it =
      subst IsOutside (sym it.is_why) (restart_by it.before it.cause
      (subst (λ (xs : List Entry). of_book.RestartBreaks recalls count (scene last [] it.before) (scene last xs cloud)
      it.cause) it.none
      (subst (λ (s : StateData). of_book.RestartBreaks recalls count (scene s [] it.before) (scene last es cloud)
      it.cause) (sym it.state)
      (subst (λ (n : ℕ). of_book.RestartBreaks recalls n (scene old [] it.before) (scene last es cloud) it.cause)
      counted it.breaks))))

  module _ (o : Opening) (h : List Entry) (counted : length o.state.live ≡ count) (old : StateData) (es : List Entry)
      (why : Exit) where
    asked_by : (said : Line) → AskedBreaks o h recalls said cloud old last es why → IsOutside why
    asked_by form.Blank it = inl it.memory
    asked_by (form.Create name body) it = it.cause
    asked_by (form.Update name body) it = it.cause
    asked_by (form.Delete name) it = it.cause
    asked_by (form.Cancel name) it = it.cause
    asked_by (form.Status name) it = inl it.memory
    asked_by (form.Resources name) it = inl it.memory
    asked_by (form.Outputs name) it = inl it.memory
    asked_by (form.Types given) it = inl it.memory
    asked_by (form.Run asked) it = run_by asked old es why it
    asked_by (form.Turn e) it = turn_by e old es why it
    asked_by (form.Stop e) it = it.cause
    asked_by form.Start it = it.cause
    asked_by form.Restart it = restarted_by o h old es why counted it

    pub line_by : (text : List ℕ) (halt : Option Halt) → LineBreaks o h recalls text cloud halt old last es why
        → IsOutside why
    line_by text halt (lines.unread un goes) = inl un.memory
    line_by text halt (lines.asked said reads breaks halts) = asked_by said breaks

no_limit : (left left_new : Option (List ℕ)) (all : List (List ℕ)) → StaysWithin left → LimitRead left left_new all → ⊥
no_limit left left_new all stays limit =
    let (rest, given, read, past) = limit.told stays.bytes stays.told in
    stays.within all rest given read past

unwritten : (status : Exit) → EndsWriting status → (status ≡ exit.WriteFault) ⊎ (status ≡ exit.Memory)
unwritten _ drives.write_fault = inl refl
unwritten _ drives.no_memory = inr refl

module _ (t : Stock) (recalls : Bool) (first last : Scene) (halt : Option Halt) (old new : Outside) (status : Exit)
    (read : status ≡ exit.ReadFault → Rose old.read_faults new.read_faults)
    (write : status ≡ exit.WriteFault → Rose old.write_faults new.write_faults)
    (disk : status ≡ exit.DiskFault → Rose old.disk_faults new.disk_faults)
    (agrees : Allows (first_of (opening_in first)) last.entries last.cloud)
    (sound : Sound (opening_in first) [] first.state → Sound (opening_in first) last.entries last.state) where
  pub calm_end : Drove (opening_in first) t recalls (streams_of old) (streams_of new) last.state last.entries
      (line_end last.cloud halt) status → IsCalm recalls first last old new → EndsCalmly status
  calm_end (drives.done all run reads text goes is) calm = inl is
  calm_end (drives.too_long all run limit text goes is) calm =
      absurd (no_limit old.left new.left all calm.within limit)
  calm_end (drives.not_read all run unended text goes is) calm = absurd (calm.read (read is))
  calm_end (drives.lacking all run reads text goes is) calm = inr is
  calm_end (drives.not_compacted all run reads text fault is) calm = absurd (calm.disk (disk is))
  calm_end (drives.broken_off all mid so_far line rest run breaks parts reads text) calm =
      elim (line_by (length first.state.live) recalls last.cloud last.state calm.recalled
      (states_are_openings (opening_in first) last.entries last.state last.cloud (sound calm.sound) agrees)
      calm.listed calm.unworn calm.engines (opening_in first) so_far refl mid rest status line halt breaks)
      [ inl memory ↦ inr memory | inr fault ↦ absurd (calm.disk (disk fault)) ]
  calm_end (drives.not_written all mid so_far line es written rest u run behind does parts reads text grows goes
      ends) calm =
      elim (unwritten status ends) [ inl fault ↦ absurd (calm.write (write fault)) | inr memory ↦ inr memory ]
