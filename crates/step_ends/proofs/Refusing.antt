-- Why a release, a rollback and a failure are refused.
use Rattle.std.proofs.Common.{◌≡◌, inl, inr, ◌≤◌, ◌<◌, ◌+◌, ◌^◌, ℕ, Bool, false, List, [], ◌∷◌, None, Option, Some, Bor, refl, sym, subst, length, map, arith}
use Rattle.std.specs.Prelude.{IfSome, IsTrue, option_map}
use Rattle.std.proofs.lemmas.Bool.{both_ways}
use Rattle.heat_plan.specs.declared.phase.Status.TheVariants.{InProgress}
use Rattle.heat_plan.specs.declared.refusal.Refusal.{Refusal}
use Rattle.row_table.specs.Rows.{row_at}
use Rattle.row_table.specs.declared.row.Row.{Row}
use Rattle.mail_table.specs.declared.mail.Job.{Job}
use Rattle.mail_table.specs.declared.mail.Letter.{Letter}
use Rattle.core_state.specs.State.{StateData, stack_at}
use Rattle.core_state.specs.declared.change.Change.{Change}
use Rattle.core_state.specs.declared.change.Change.TheVariants as change
use Rattle.core_state.specs.declared.entry.Entry.{Entry}
use Rattle.core_state.specs.declared.made.Made.{Made}
use Rattle.core_state.specs.declared.stack.Stack.{Stack}
use Rattle.step_relation.specs.Freshness.{IsOverrun}
use Rattle.step_relation.specs.Given.{Nothing, same}
use Rattle.step_relation.specs.Moves.{Move}
use Rattle.step_relation.specs.Rows.{unlocked}
use Rattle.step_relation.specs.Takes.{Releases, released_changes, released_entries}
use Rattle.step_relation.specs.Turns.{IsDue, IsWorn, Turn, key, plain, unfailed}
use Rattle.step_relation.specs.Writes.{draw_letters}
use Rattle.command_steps.specs.Rooms.{MayRise}
use Rattle.command_steps.specs.Turns.{IsTurn, IsTurnRefusal, memory as turn_memory, worn as turn_worn}
use Rattle.command_steps.specs.Answers.{OrMemory, WearsOutBehind}
use Rattle.next_laws.proofs.Worn.{quiet_not_worn}
use Rattle.history_laws.proofs.tables.Puts.{contains_head}
use Rattle.step_ends.specs.Marks.{IsBehindRefusal, memory as behind_memory, worn as behind_worn}
use Rattle.step_ends.specs.Releases.{IsAgainRefusal, IsRelease, IsReleaseRefusal}
use Rattle.step_ends.specs.Releases.IsReleaseRefusal.{memory as release_memory, worn as release_worn}
use Rattle.step_ends.specs.Releases.IsAgainRefusal.{memory as again_memory, worn as again_worn}
use Rattle.step_ends.proofs.Behind.{due_after, follows_after}
use Rattle.step_ends.proofs.Turns.{drawn_keeps, letters_worn}

-- a test that failed
pub beyond : (b : Bool) (m n : ℕ) → (m < n → IsTrue b) → b ≡ false → n ≤ m
beyond b m n says fails = grind (arith, says, fails)

-- a row stands whose key can't rise
pub no_rise : (row : Option (Bor Row)) (b : Bool) → (IfSome row (λ r. MayRise r.now) → IsTrue b) → b ≡ false
    → (r : Row) × (option_map (λ r. r.now) row ≡ Some r) × (2 ^ 62 ≤ r.key + 1)
no_rise None b says fails = absurd (both_ways b fails (says _))
no_rise (Some r) b says fails = (r.now, refl, beyond b (r.now.key + 1) (2 ^ 62) says fails)

-- where it would be unlocked, or a number would be drawn past the last
pub release_high : (s : StateData) (f : ℕ) (row : Option Row) (r : Row) (letters : List Letter)
    → row ≡ Some r → 2 ^ 62 ≤ r.key + 1
    → IsWorn (released_changes s f row letters)
release_high s f row r letters is high = subst (λ (o : Option Row). IsWorn (released_changes s f o letters))
    (sym is) (record {
      change = change.PutRow (unlocked r);
      among = drawn_keeps s.next letters _ _ (contains_head (change.PutRow (unlocked r))
          (change.EndJob f ∷ map change.Send letters));
      overflows = key (unlocked r) high;
    })

pub drawn_worn : (s : StateData) (letters : List Letter) (rest : List Change) → s.next.letter ≤ 2 ^ 62
    → 2 ^ 62 < s.next.letter + length letters
    → IsWorn (draw_letters s.next letters rest)
drawn_worn s [] rest range over = absurd (past range over)
  where
    past : s.next.letter ≤ 2 ^ 62 → 2 ^ 62 < s.next.letter + 0 → ⊥
    past range over = omega (arith, range, over)
drawn_worn s (l ∷ ls) rest range over = letters_worn s l ls rest over

-- a release is the turn of the move that it is
pub release_turn : (s : StateData) (e f : ℕ) (j : Job) (made : Made)
    → ((k : Releases s f j) (cs : List Change) (es : List Entry) → cs ≡ released_changes s f k.row k.letters
    → es ≡ released_entries e f k.row k.letters → Move s e Nothing None cs es)
    → IsRelease s e f j made → IsTurn s e Nothing made
release_turn s e f j made move k =
    let turn : Turn s e Nothing made.changes made.entries = plain None
    (move k.releases _ _ k.changes k.entries) unfailed in
    record { turn = turn; lasts = quiet_not_worn s e Nothing _ _ (λ a is. cc) turn k.lasts }

pub release_refusal : (s : StateData) (e f : ℕ) (j : Job) (r : Refusal)
    → ((k : Releases s f j) (cs : List Change) (es : List Entry) → cs ≡ released_changes s f k.row k.letters
    → es ≡ released_entries e f k.row k.letters → Move s e Nothing None cs es)
    → IsReleaseRefusal s f j r → IsTurnRefusal s e Nothing r
release_refusal s e f j r move (release_memory is) = turn_memory is
release_refusal s e f j r move (release_worn is k w) = turn_worn is (record {
  other = Nothing;
  like = same Nothing;
  changes = released_changes s f k.row k.letters;
  entries = released_entries e f k.row k.letters;
  turn = plain None (move k _ _ refl refl) unfailed;
  worn = w;
})

-- the rollback's refusal, on the state before the mark, is that behind the mark
pub behind_refusal : (s : StateData) (e : ℕ) (st : Stack) (r : Refusal) → stack_at s.stacks st.name ≡ Some st
    → st.status ≡ InProgress → IsDue s st
    → OrMemory (WearsOutBehind s e st) r → IsBehindRefusal s e st r
behind_refusal s e st r found running due (inl is) = behind_memory is
behind_refusal s e st r found running due (inr k) = behind_worn k.is k.changes k.entries (λ q w. record {
  due = due_after s e q st w due;
  follows = follows_after s e q st w found running _ _ k.follows;
}) k.worn

-- no number is left for the letter that the release would send
pub again_refusal : (s : StateData) (f : ℕ) (j : Job) (r : Refusal) → IsOverrun s j → s.next.letter ≤ 2 ^ 62
    → IsAgainRefusal s j.letter.stack j.row r → IsReleaseRefusal s f j r
again_refusal s f j r overrun range (again_memory is) = release_memory is
again_refusal s f j r overrun range (again_worn is letters resends over) = release_worn is (record {
  row = row_at s.rows j.row;
  found = refl;
  overrun = overrun;
  letters = letters;
  resends = resends;
}) (drawn_worn s letters _ range over)
