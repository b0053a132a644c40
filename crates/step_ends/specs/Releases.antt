-- What the release of a job that is overrun answers.
use Rattle.std.specs.Prelude.{List, None, Option, Some, length, ℕ, ◌+◌, ◌<◌, ◌^◌, ◌≡◌, ◌≤◌}
use Rattle.heat_plan.specs.declared.refusal.Refusal.{Refusal}
use Rattle.heat_plan.specs.declared.refusal.Refusal.TheVariants.{Memory, Worn}
use Rattle.mail_table.specs.declared.mail.Job.{Job}
use Rattle.mail_table.specs.declared.mail.Letter.{Letter}
use Rattle.core_state.specs.State.{StateData}
use Rattle.core_state.specs.declared.made.Made.{Made}
use Rattle.step_relation.specs.Resends.{Resends}
use Rattle.step_relation.specs.Takes.{Releases, released_changes, released_entries}
use Rattle.step_relation.specs.Turns.{IsWorn}

-- the next letter's number; none where it is worn out
abbrev pub IsNextLetter : StateData → Option ℕ → Type 0
IsNextLetter s (Some n) = (n ≡ s.next.letter) × (s.next.letter < 2 ^ 62)
IsNextLetter s None = 2 ^ 62 ≤ s.next.letter

-- the letters that are sent again, whose numbers can be drawn
pub record AreAgain (s : StateData) (stack : List ℕ) (row : ℕ) (letters : List Letter) : Type 0 where
  pub resends : Resends s stack row letters
  pub room : s.next.letter + length letters ≤ 2 ^ 62

-- want of memory, or no number is left for the letter that would be sent again
pub data IsAgainRefusal (s : StateData) (stack : List ℕ) (row : ℕ) (r : Refusal) : Type 0 where
  memory : r ≡ Memory → IsAgainRefusal s stack row r
  worn : r ≡ Worn → (letters : List Letter) → Resends s stack row letters → 2 ^ 62 < s.next.letter + length letters
      → IsAgainRefusal s stack row r

-- the engine e released the job of f
pub record IsRelease (s : StateData) (e f : ℕ) (j : Job) (made : Made) : Type 0 where
  pub releases : Releases s f j
  pub changes : made.changes ≡ released_changes s f releases.row releases.letters
  pub entries : made.entries ≡ released_entries e f releases.row releases.letters
  pub lasts : ¬ IsWorn made.changes

-- want of memory, or the release would wear a number or a key out
pub data IsReleaseRefusal (s : StateData) (f : ℕ) (j : Job) (r : Refusal) : Type 0 where
  memory : r ≡ Memory → IsReleaseRefusal s f j r
  worn : r ≡ Worn → (k : Releases s f j) → IsWorn (released_changes s f k.row k.letters) → IsReleaseRefusal s f j r
