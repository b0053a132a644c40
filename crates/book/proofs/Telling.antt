-- What the entries of a turn tell: no call where nobody was asked; else one call first, and none behind it.
use Rattle.std.proofs.Common.{List, Option, [], ap, refl, subst, sym, ℕ, ◌++◌, ◌∙◌, ◌∷◌, ◌≡◌}
use Rattle.std.specs.Prelude.{map}
use Rattle.heat_plan.specs.declared.calls.Answered.{Answered}
use Rattle.heat_plan.specs.declared.calls.Request.{Request}
use Rattle.row_table.specs.declared.row.Row.{Row}
use Rattle.mail_table.specs.declared.mail.Letter.{Letter}
use Rattle.mail_table.specs.declared.mail.Stage.{Stage}
use Rattle.mail_table.specs.declared.mail.Stage.TheVariants.{Asking, Ending, Polling}
use Rattle.core_state.specs.State.{StateData}
use Rattle.core_state.specs.declared.change.Change.{Change}
use Rattle.core_state.specs.declared.entry.Actor.TheVariants.{Engine}
use Rattle.core_state.specs.declared.entry.Entry.{Entry}
use Rattle.core_state.specs.declared.entry.MailWrite.TheVariants.{Dropped, Ended, Held, Sent}
use Rattle.core_state.specs.declared.entry.MailWrite.{MailWrite}
use Rattle.core_state.specs.declared.entry.RowWrite.{RowWrite}
use Rattle.core_state.specs.declared.entry.RowWrite.TheVariants.{Set}
use Rattle.core_state.specs.declared.entry.Why.{Why}
use Rattle.core_state.specs.declared.stack.Stack.{Stack}
use Rattle.step_relation.specs.Asks.{Calls, cause_at, failed_entries, fault_of, looks, polls}
use Rattle.step_relation.specs.Begins.{Begins, begun_entries, left_entries, onward_entries}
use Rattle.step_relation.specs.Cleanups.{purged_entries}
use Rattle.step_relation.specs.Finishes.{Finishes, finished_entries, ready_letters}
use Rattle.step_relation.specs.Given.{Answer, Given}
use Rattle.step_relation.specs.Rows.{failed_row, ready_row}
use Rattle.step_relation.specs.Turns.{FollowsFailure, Turn}
use Rattle.step_relation.specs.Takes.{relayed_letter, taken_job}
use Rattle.step_relation.specs.Writes.{call_entry, complete_mark, failed_mark, lock_writes, mail_entry}
use Rattle.step_relation.specs.Writes.{rows_entry, unlock_writes}
use Rattle.next_laws.proofs.Parts.{Kind, Part, begins, clears, drops, ends, faults, goes, overruns, placed, prepares}
use Rattle.next_laws.proofs.Parts.{readies, refuses, relays, relieves, settles, steals, takes, waits}
use Rattle.next_laws.proofs.Parts as part
use Rattle.next_laws.proofs.Turns.{ByMove, Whole, by_move, follows, stops}
use Rattle.next_laws.proofs.Verdicts.{Created, Deleted, Fate, Kept, Left, Lot, Passed, Purged, Replaced, Resumed}
use Rattle.next_laws.proofs.Verdicts.{Retained, Stuck, Updated}
use Rattle.next_laws.specs.Found.{IsAskedAt}
use Rattle.next_laws.specs.Found as asked_at
use Rattle.heat_plan.specs.declared.calls.Request.TheVariants as request
use Rattle.book.specs.Turned.{IsQuiet}
use Rattle.book.proofs.Silent.{AreSilent, laid_silent, silent-both, silent_mark, silent_rows}

-- rows, and then mail
silent_writes : (e : ℕ) (ws : List RowWrite) (m : MailWrite) (ms : List MailWrite)
    → AreSilent (rows_entry (Engine e) ws ++ mail_entry (Engine e) (m ∷ ms))
silent_writes e ws m ms = silent-both (rows_entry (Engine e) ws) (mail_entry (Engine e) (m ∷ ms))
    (silent_rows (Engine e) ws) (tt, tt)

module _ (s : StateData) (e : ℕ) where
  silent_fate : (k : Begins s e) (props : _) (fate : Fate) → AreSilent (part.fate_entries s e k props fate)
  silent_fate k props Created = (tt, (tt, tt))
  silent_fate k props Kept = (tt, (tt, tt))
  silent_fate k props Updated = (tt, (tt, tt))
  silent_fate k props Resumed = (tt, tt)
  silent_fate k props Left = (tt, (tt, tt))
  silent_fate k props Replaced = (tt, (tt, tt))

  silent_lot : (j : _) (trav : ℕ) (lot : Lot) → AreSilent (part.lot_entries e j trav lot)
  silent_lot j trav Passed = (tt, tt)
  silent_lot j trav (Purged r) = (tt, (tt, tt))
  silent_lot j trav (Stuck r) = (tt, (tt, tt))
  silent_lot j trav (Retained r) = (tt, (tt, (tt, tt)))
  silent_lot j trav (Deleted r) = (tt, (tt, tt))

  finish_silent : (k : Finishes s e) (mark : List Entry) → AreSilent mark → AreSilent
      (finished_entries s e k mark)
  finish_silent k mark h =
      silent-both (rows_entry (Engine e) (unlock_writes k.fresh.row))
      (mail_entry (Engine e) (Ended e ∷ map Sent (ready_letters s e k)) ++ mark)
      (silent_rows (Engine e) (unlock_writes k.fresh.row))
      (silent-both (mail_entry (Engine e) (Ended e ∷ map Sent (ready_letters s e k))) mark (tt, tt) h)

  fail_silent : (r : Row) (letters : List Letter) (failed : Option Stack) (reason : Why) → AreSilent
      (failed_entries e r letters failed reason)
  fail_silent r letters failed reason =
      silent-both (rows_entry (Engine e) (Set (failed_row r) ∷ []))
      (mail_entry (Engine e) (Ended e ∷ map Sent letters) ++ failed_mark (Engine e) failed (cause_at r reason))
      (tt, tt) (silent-both (mail_entry (Engine e) (Ended e ∷ map Sent letters))
      (failed_mark (Engine e) failed (cause_at r reason))
      (tt, tt) (silent_mark (Engine e) failed (cause_at r reason)))

  told : (es fs : List Entry) → es ≡ fs → AreSilent fs → AreSilent es
  told es fs is h = subst AreSilent (sym is) h

  -- a move that nobody answered
  part_silent : (kind : Kind) (given : Given) (f : Option Stack) (cs : List Change) (es : List Entry) → IsQuiet given
      → Part s e kind given f cs es → AreSilent es
  part_silent _ _ _ cs es quiet (drops l _ _ t i c d) = told es _ d (tt, tt)
  part_silent _ _ _ cs es quiet (takes k _ _ free c d) =
      told es _ d (silent_writes e (lock_writes k.meant.fresh.row e) (Dropped k.letter.no)
      (Held (taken_job s e k) ∷ []))
  part_silent _ _ _ cs es quiet (steals k f j _ _ h n c d) =
      told es _ d (silent_writes e (lock_writes k.meant.fresh.row e) (Dropped k.letter.no)
      (Ended f ∷ Held (taken_job s e k) ∷ []))
  part_silent _ _ _ cs es quiet (overruns j stage _ _ w k c d) = told es _ d
      (silent_writes e (unlock_writes k.row) (Ended e) (map Sent k.letters))
  part_silent _ _ _ cs es quiet (faults k code path failed _ _ falls c d) =
      told es _ d (silent-both (left_entries e k.row)
      (failed_mark (Engine e) failed (fault_of k.item.name k.row.no code path))
      (tt, (tt, tt)) (silent_mark (Engine e) failed (fault_of k.item.name k.row.no code path)))
  part_silent _ _ _ cs es quiet (prepares k props effect fate _ _ x c d) = told es _ d (silent_fate k props fate)
  part_silent _ _ _ cs es quiet (clears k row lot _ _ at x c d) = told es _ d (silent_lot k.job k.stack.trav lot)
  part_silent _ _ _ cs es quiet (begins k asked _ _ a c d) = absurd (quiet _ refl)
  part_silent _ _ _ cs es quiet (waits k asked _ _ a c d) = absurd (quiet _ refl)
  part_silent _ _ _ cs es quiet (readies k facts _ _ a c d) = absurd (quiet _ refl)
  part_silent _ _ _ cs es quiet (goes k _ _ a c d) = absurd (quiet _ refl)
  part_silent _ _ _ cs es quiet (refuses stage k asked g reason letters failed _ _ a x falls c d) = absurd
      (quiet _ refl)
  part_silent _ _ _ cs es quiet (ends k _ _ n c d) =
      told es _ d (finish_silent k [] tt)
  part_silent _ _ _ cs es quiet (settles k _ _ y c d) =
      told es _ d (finish_silent k (complete_mark (Engine e) k.fresh.stack ∷ []) (tt, tt))
  part_silent _ _ _ cs es quiet (relieves f j _ _ t k c d) = told es _ d
      (silent_writes e (unlock_writes k.row) (Ended f) (map Sent k.letters))
  part_silent _ _ _ cs es quiet (relays f k _ _ c d) =
      told es _ d (silent_writes e (unlock_writes k.fresh.row) (Ended f) (map Sent (relayed_letter s e f k ∷ [])))

  -- the call that a turn tells first
  pub record FirstCall (given : Answered) (es : List Entry) : Type 0 where
    pub stage : Stage
    pub calls : Calls s e stage
    pub asked : Request
    pub asks : IsAskedAt calls.row stage asked
    pub rest : List Entry
    pub entries : es ≡ call_entry e calls.row asked given ∷ rest
    pub silent : AreSilent rest

  at_stage : (r : Row) (stage : Stage) (asked : Request) → part.IsAsked r stage asked → IsAskedAt r stage asked
  at_stage r _ _ (part.at_ask asked a) = asked_at.asks asked a
  at_stage r _ _ (part.at_poll asked a) = asked_at.polls asked a

  part_calls : (kind : Kind) (given : Answered) (f : Option Stack) (cs : List Change) (es : List Entry)
      → Part s e kind (Answer given) f cs es → FirstCall given es
  part_calls _ _ _ cs es (begins k asked _ _ a c d) =
      record {
        stage = Asking;
        calls = k;
        asked = asked;
        asks = asked_at.asks asked a;
        rest =
            onward_entries e k.job Polling;
        entries = d;
        silent = (tt, tt);
      }
  part_calls _ _ _ cs es (waits k asked _ _ a c d) =
      record {
        stage = Polling;
        calls = k;
        asked = asked;
        asks = asked_at.polls asked a;
        rest = [];
        entries =
            d;
        silent = tt;
      }
  part_calls _ _ _ cs es (readies k facts _ _ a c d) =
      record {
        stage = Polling;
        calls = k;
        asked = request.Poll;
        asks = asked_at.polls request.Poll (polls a);
        rest =
            begun_entries e k.job Ending (ready_row k.row facts);
        entries = d;
        silent = (tt, (tt, tt));
      }
  part_calls _ _ _ cs es (goes k _ _ a c d) =
      record {
        stage = Polling;
        calls = k;
        asked = request.Gone;
        asks = asked_at.polls request.Gone (looks a);
        rest =
            purged_entries e k.job k.row;
        entries = d;
        silent = (tt, (tt, tt));
      }
  part_calls _ _ _ cs es (refuses stage k asked g reason letters failed _ _ a x falls c d) = record {
    stage = stage;
    calls = k;
    asked = asked;
    asks = at_stage k.row stage asked a;
    rest = failed_entries e k.row letters failed reason;
    entries = d;
    silent = fail_silent k.row letters failed reason;
  }

  behind_silent : (t : StateData) (st : Stack) (cs : List Change) (es : List Entry) → FollowsFailure t e st cs es
      → AreSilent es
  behind_silent t st cs es k = told es _ k.entries (laid_silent t k.failed.name _ _ k.lays)

  -- a turn that nobody answered tells of no call
  pub turn_silent : (given : Given) (cs : List Change) (es : List Entry) → IsQuiet given → Turn s e given cs es
      → AreSilent es
  turn_silent given cs es quiet t = by a.whole where
    a : ByMove s e given cs es
    a = by_move s e given cs es t

    first : AreSilent a.firsts
    first = let p = placed s e given a.failed a.first a.firsts a.move in
        part_silent p.kind given a.failed a.first a.firsts quiet p.part

    by : Whole s e a.failed a.first a.firsts cs es → AreSilent es
    by (stops p c d) = told es _ d first
    by (follows st last lasts is due k c d) = told es _ d
        (silent-both a.firsts lasts first (behind_silent _ st last lasts k))

  -- one that was answered tells of its call first
  pub turn_calls : (given : Answered) (cs : List Change) (es : List Entry) → Turn s e (Answer given) cs es
      → FirstCall given es
  turn_calls given cs es t = by a.whole where
    a : ByMove s e (Answer given) cs es
    a = by_move s e (Answer given) cs es t

    first : FirstCall given a.firsts
    first = let p = placed s e (Answer given) a.failed a.first a.firsts a.move in
        part_calls p.kind given a.failed a.first a.firsts p.part

    by : Whole s e a.failed a.first a.firsts cs es → FirstCall given es
    by (stops p c d) = subst (FirstCall given) (sym d) first
    by (follows st last lasts is due k c d) = record {
      stage = first.stage;
      calls = first.calls;
      asked = first.asked;
      asks = first.asks;
      rest = first.rest ++ lasts;
      entries = d ∙ ap (λ (x : List Entry). x ++ lasts) first.entries;
      silent = silent-both first.rest lasts first.silent (behind_silent _ st last lasts k);
    }
