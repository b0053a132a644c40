-- Changes that wear something out.
use Rattle.std.proofs.Common.{Bor, ◌≡◌, ◌≢◌, ◌<◌, ◌≤◌, ◌+◌, ◌^◌, ◌++◌, ◌∷◌, ◌⊎◌, [], List, None, Some, ap, arith, inl}
use Rattle.std.proofs.Common.{inr, length, refl, subst, suc, sym, ℕ}
use Rattle.std.proofs.lemmas.Bool.{cases_lt}
use Rattle.std.proofs.lemmas.List.Elements.{Contains-append_cases, Contains-append_left, Contains-append_right}
use Rattle.std.specs.Prelude.{Contains, IfSome, Option, option_map}
use Rattle.heat_plan.specs.declared.refusal.Refusal.{Refusal}
use Rattle.row_table.specs.declared.row.Row.{Row}
use Rattle.mail_table.specs.declared.mail.Letter.{Letter}
use Rattle.core_state.specs.declared.change.Change.{Change}
use Rattle.core_state.specs.declared.numbers.Numbers.{Numbers}
use Rattle.core_state.specs.declared.stack.Stack.{Stack}
use Rattle.step_relation.specs.Rows.{locked, unlocked}
use Rattle.step_relation.specs.Writes.{draw_letters, letters_to, lock, unlock}
use Rattle.step_relation.specs.Turns.{IsWorn, Overflows, key, letter}
use Rattle.step_parts.specs.Rooms.{MayRise}
use Rattle.check_steps.specs.Makes.{MakesNone, memory, worn}

-- the first one does
pub worn_first : (c : Change) (cs : List Change) → Overflows c → IsWorn (c ∷ cs)
worn_first c cs out = record { change = c; among = (0, omega arith, refl); overflows = out }

-- a later one does
pub worn_later : (c : Change) (cs : List Change) → IsWorn cs → IsWorn (c ∷ cs)
worn_later c cs is = record { change = is.change; among = later is.among; overflows = is.overflows } where
  later : Contains cs is.change → Contains (c ∷ cs) is.change
  later (k, lt, at) = (suc k, omega arith, at)

-- a key that can't rise
pub cannot_rise : (r : Row) → ¬ MayRise r → 2 ^ 62 ≤ r.key + 1
cannot_rise r cannot = by (cases_lt (r.key + 1) (2 ^ 62)) where
  by : (r.key + 1 < 2 ^ 62) ⊎ (2 ^ 62 ≤ r.key + 1) → 2 ^ 62 ≤ r.key + 1
  by (inl below) = absurd (cannot below)
  by (inr past) = past

-- so many more numbers than there are
pub no_room : (next more : ℕ) → ¬ next + more ≤ 2 ^ 62 → 2 ^ 62 < next + more
no_room next more none = by (cases_lt (2 ^ 62) (next + more)) where
  by : (2 ^ 62 < next + more) ⊎ (next + more ≤ 2 ^ 62) → 2 ^ 62 < next + more
  by (inl past) = past
  by (inr within) = absurd (none within)

-- a row that stands and can't be locked
pub lock_worn : (row : Option (Bor Row)) (e : ℕ) (rest : List Change) → ¬ IfSome row (λ r. MayRise r.now)
    → IsWorn (lock (option_map (λ r. r.now) row) e rest)
lock_worn None e rest cannot = absurd (cannot tt)
lock_worn (Some r) e rest cannot = worn_first _ _ (key (locked e r.now) (cannot_rise r.now cannot))

-- a row that stands and can't be unlocked
pub unlock_worn : (row : Option (Bor Row)) (rest : List Change) → ¬ IfSome row (λ r. MayRise r.now)
    → IsWorn (unlock (option_map (λ r. r.now) row) rest)
unlock_worn None rest cannot = absurd (cannot tt)
unlock_worn (Some r) rest cannot = worn_first _ _ (key (unlocked r.now) (cannot_rise r.now cannot))

-- letters, one for each node
pub letters_length : (st : Stack) (number : ℕ) (nodes : List ℕ) → length (letters_to st number nodes) ≡ length nodes
letters_length st number [] = refl
letters_length st number (node ∷ nodes) = ap suc (letters_length st (number + 1) nodes)

-- letters whose numbers can't be drawn
pub draw_worn : (next : Numbers) (st : Stack) (nodes : List ℕ) (rest : List Change) → nodes ≢ [] → 2 ^ 62 <
    next.letter + length nodes
    → IsWorn (draw_letters next (letters_to st next.letter nodes) rest)
draw_worn next st [] rest some many = absurd (some refl)
draw_worn next st (node ∷ nodes) rest some many = worn_first _ _ (letter _ (subst (λ (n : ℕ). 2 ^ 62 < next.letter + n)
    (sym (letters_length st next.letter (node ∷ nodes))) many))

-- what follows the drawing of letters
pub drawn_worn : (next : Numbers) (letters : List Letter) (rest : List Change) → IsWorn rest → IsWorn
    (draw_letters next letters rest)
drawn_worn next [] rest is = is
drawn_worn next (l ∷ ls) rest is = worn_later _ _ is

-- room for letters to these nodes
pub room_kept : (n m : Numbers) (nodes ready : List ℕ) (letters : List Letter) → n ≡ m → nodes ≡ ready
    → length letters ≡ length ready → n.letter + length nodes ≤ 2 ^ 62 → m.letter + length letters ≤ 2 ^ 62
room_kept n m nodes ready letters next_is nodes_are many room = subst (λ (k : ℕ). m.letter + k ≤ 2 ^ 62) (sym many)
    (subst (λ (ns : List ℕ). m.letter + length ns ≤ 2 ^ 62) nodes_are
    (subst (λ (x : Numbers). x.letter + length nodes ≤ 2 ^ 62) next_is room))

-- the first of two lists, and both
pub worn_left : (cs ds : List Change) → IsWorn cs → IsWorn (cs ++ ds)
worn_left cs ds is =
    record { change = is.change; among = Contains-append_left cs ds is.change is.among; overflows = is.overflows }

pub worn_right : (cs ds : List Change) → IsWorn ds → IsWorn (cs ++ ds)
worn_right cs ds is =
    record { change = is.change; among = Contains-append_right cs ds is.change is.among; overflows = is.overflows }

pub worn_neither : (cs ds : List Change) → ¬ IsWorn cs → ¬ IsWorn ds → ¬ IsWorn (cs ++ ds)
worn_neither cs ds first last is = by (Contains-append_cases cs ds is.change is.among) where
  by : Contains cs is.change ⊎ Contains ds is.change → ⊥
  by (inl among) = first (record { change = is.change; among = among; overflows = is.overflows })
  by (inr among) = last (record { change = is.change; among = among; overflows = is.overflows })

-- what follows a list that isn't made isn't made either
pub none_more : (cs ds : List Change) (r : Refusal) → MakesNone cs r → MakesNone (cs ++ ds) r
none_more cs ds r (memory is) = memory is
none_more cs ds r (worn is out) = worn is (worn_left cs ds out)
