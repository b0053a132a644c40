-- What proper payloads give is fit to be an image.
use Rattle.std.proofs.Common.{◌∷◌, ◌≤◌, ◌^◌, [], ℕ, List, All, arith, refl, subst, sym}
use Rattle.std.specs.Prelude.{IsTrue, false}
use Rattle.std.proofs.lemmas.List.Elements.{All-head, All-tail}
use Rattle.core_state.specs.Changes.{applied, apply}
use Rattle.core_state.specs.State.{StateData}
use Rattle.core_state.specs.declared.change.Change.{Change}
use Rattle.core_state.specs.declared.change.Change.TheVariants as change
use Rattle.core_state.specs.declared.numbers.Numbers.{Numbers}
use Rattle.record_keeper.specs.Calls.{HasOpened}
use Rattle.record_keeper.specs.Nothing.{nothing_kept, opens_empty}
use Rattle.record_keeper.proofs.Bare.{bare_opened}
use Rattle.row_codec.specs.Changes.{IsProper}
use Rattle.row_codec.specs.Records.{IsProperRow}
use Rattle.state_images.specs.Replays.{joined}
use Rattle.state_images.proofs.Forming.{made_formed}
use Rattle.state_images.proofs.Found.{formed_read, keepable_applied}
use Rattle.state_images.proofs.Making.{replay_made}
use Rattle.step_relation.specs.Images.{AreKeepable, HasKeepableRows, IsInRange, IsMade, IsRead}
use Rattle.step_relation.specs.Opening.{bare}
use Rattle.state_journal.specs.Payloads.{AreSpellings, Give}
use Rattle.state_journal.proofs.Payloads.{both_applied}

-- the next numbers are in range
record AreInRange (n : Numbers) : Type 0 where
  stack : n.stack ≤ 2 ^ 62
  trav : n.trav ≤ 2 ^ 62
  row : n.row ≤ 2 ^ 62
  engine : n.engine ≤ 2 ^ 62
  letter : n.letter ≤ 2 ^ 62

one_in_range : (c : Change) (s : StateData) → IsProper c → AreInRange s.next → AreInRange (apply c s).next
one_in_range (change.PutStack x) s proper range = range
one_in_range (change.DropStack x) s proper range = range
one_in_range (change.PutRow x) s proper range = range
one_in_range (change.DropRow x) s proper range = range
one_in_range (change.PutGraph n g) s proper range = range
one_in_range (change.PutPoint x) s proper range = range
one_in_range (change.Send x) s proper range = range
one_in_range (change.Drop x) s proper range = range
one_in_range (change.PutJob x) s proper range = range
one_in_range (change.EndJob x) s proper range = range
one_in_range (change.Enlist x) s proper range = range
one_in_range (change.Stop x) s proper range = range
one_in_range (change.Numbers n) s proper range = record {
  stack = proper.stack.1;
  trav = proper.trav.1;
  row = proper.row.1;
  engine = proper.engine.1;
  letter = proper.letter.1;
}
one_in_range (change.PutPast x) s proper range = range
one_in_range (change.Release x) s proper range = range

all_in_range : (cs : List Change) (s : StateData) → All IsProper cs → AreInRange s.next → AreInRange (applied cs s).next
all_in_range [] s proper range = range
all_in_range (c ∷ cs) s proper range = all_in_range cs (apply c s) (All-tail IsProper c cs proper)
    (one_in_range c s (All-head IsProper c cs proper) range)

-- proper changes have rows that a record may hold
keepable : (cs : List Change) → All IsProper cs → AreKeepable cs
keepable cs proper r among =
    let row : IsProperRow r = subst IsProper among.2 (proper among.0 (change.PutRow r) among.1) in
    record { key = row.key; act = row.act }

-- the empty state, as nothing kept is opened
empty : HasOpened opens_empty nothing_kept bare
empty = bare_opened opens_empty nothing_kept bare refl refl
    (record { going = refl; told = λ tells. (let none : IsTrue false = tells in cc); only = λ t stands. absurd stands })

record IsKept (s : StateData) : Type 0 where
  rows : HasKeepableRows s
  next : AreInRange s.next

spelled_kept : (payloads : List (List ℕ)) (lists : List (List Change)) (s : StateData) → AreSpellings payloads lists
    → IsKept s → IsKept (applied (joined lists) s)
spelled_kept [] [] s all kept = kept
spelled_kept [] (cs ∷ lists) s all kept = absurd all
spelled_kept (p ∷ ps) [] s all kept = absurd all
spelled_kept (p ∷ ps) (cs ∷ lists) s all kept =
    let proper : All IsProper cs = all.0.1.1 in
    subst IsKept (sym (both_applied cs (joined lists) s)) (spelled_kept ps lists (applied cs s) all.1 (record {
      rows = keepable_applied s cs kept.rows (keepable cs proper);
      next = all_in_range cs s proper kept.next;
    }))

-- made, whole and in range
pub record IsFitting (s : StateData) : Type 0 where
  pub made : IsMade s
  pub read : IsRead s
  pub range : IsInRange s

pub give_fits : (payloads : List (List ℕ)) (s : StateData) → Give payloads s → IsFitting s
give_fits payloads s give =
    let kept : IsKept s = subst IsKept (sym give.replay.gives) (spelled_kept payloads give.lists bare give.spellings (record {
      rows = λ n r found. record { key = empty.range.keys n r found; act = empty.read.acts n r found };
      next = record { stack = omega arith; trav = omega arith; row = omega arith; engine = omega arith; letter = omega arith };
    })) in
    let made : IsMade s = replay_made give.lists s give.replay in record {
      made = made;
      read = formed_read s (made_formed s made) kept.rows;
      range = record {
        stack = kept.next.stack;
        trav = kept.next.trav;
        row = kept.next.row;
        engine = kept.next.engine;
        letter = kept.next.letter;
        keys = λ n r found. (kept.rows n r found).key;
      };
    }
