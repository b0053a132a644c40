-- What is taken stops at a line's end, so behind the line less than one read is held, or a rest of what was.
use Rattle.std.proofs.Common.{◌≡◌, inl, inr, ℕ, ◌+◌, ◌<◌, ◌≤◌, List, ◌++◌, length, take, drop, refl, sym, ap, ◌∙◌, subst, arith, length-append, length-drop, append_assoc, append-nil}
use Rattle.std.proofs.lemmas.List.{take-append-drop}
use Rattle.heat_io.specs.declared.next.Next.{Next}
use Rattle.heat_io.specs.declared.next.Next.TheVariants as next
use Rattle.heat_io.specs.Lines.{is_lf, length_of_line, behind_line, most_read}
use Rattle.heat_io.specs.Reading as reading
use Rattle.heat_io.specs.Reading.{HasEnd, HasNoEnd, StopsAtEnd, HoldsFew, IsNext, Gave}
use Rattle.heat_io.proofs.Ends.{position_or_len-within, searched_more}

-- what was held and what was taken are held
abbrev pub TakesOn : List ℕ → List ℕ → Type 0
TakesOn old held = (taken : List ℕ) × (held ≡ old ++ taken) × StopsAtEnd old taken

-- where no end is held, none was held before
pub no_end_before : (old held : List ℕ) → TakesOn old held → HasNoEnd held → ¬ HasEnd old
no_end_before old held (taken, is, stops) none some =
    omega (arith, some, subst HasNoEnd is none, position_or_len-within is_lf old taken some, length-append old taken)

-- no piece more
pub takes_same : (old held new : List ℕ) → TakesOn old held → new ≡ held → TakesOn old new
takes_same old held new (taken, is, stops) same = (taken, same ∙ is, stops)

-- one piece more, where no end is held
pub takes_more : (old held piece new : List ℕ) → TakesOn old held → HasNoEnd held → new ≡ held ++ piece → length piece ≤ most_read
    → TakesOn old new
takes_more old held piece new (taken, is, stops) none grows few = (
  taken ++ piece,
  grows ∙ ap (λ (xs : List ℕ). xs ++ piece) is ∙ append_assoc old taken piece,
  reading.read taken piece refl (subst HasNoEnd is none) few,
)

-- what comes of all that is held, by what was held and taken
pub seen_next : (given : ℕ) (old held : List ℕ) (result : Next) (rest : List ℕ) (now : ℕ) → TakesOn old held → IsNext given held result rest now
    → (taken : List ℕ) × IsNext given (old ++ taken) result rest now × StopsAtEnd old taken
seen_next given old held result rest now (taken, is, stops) comes =
    (taken, subst (λ (h : List ℕ). IsNext given h result rest now) is comes, stops)

-- behind the line's end is less than the piece that brought it
few_behind : (front last : List ℕ) → HasNoEnd front → length last ≤ most_read → length (behind_line (front ++ last)) < most_read
few_behind front last none few =
    omega (
      arith,
      few,
      searched_more is_lf front last (front ++ last) refl none,
      length-append front last,
      length-drop (length_of_line (front ++ last) + 1) (front ++ last),
    )

pub holds_few : (old taken new : List ℕ) → StopsAtEnd old taken → new ≡ behind_line (old ++ taken) → HoldsFew old new
holds_few old taken new (reading.unread none) is =
    let all : new ≡ drop (length_of_line old + 1) old = is ∙ ap behind_line (ap (λ (xs : List ℕ). old ++ xs) none ∙ append-nil old) in
    inr (
      take (length_of_line old + 1) old,
      sym (take-append-drop (length_of_line old + 1) old) ∙ ap (λ (xs : List ℕ). take (length_of_line old + 1) old ++ xs) (sym all),
    )
holds_few old taken new (reading.read before last parts none few) is =
    let all : old ++ taken ≡ (old ++ before) ++ last = ap (λ (xs : List ℕ). old ++ xs) parts ∙ sym (append_assoc old before last) in
    inl (subst (λ (xs : List ℕ). length xs < most_read) (sym (is ∙ ap behind_line all)) (few_behind (old ++ before) last none few))

-- the same behind a line that was given
pub few_behind_line : (given : ℕ) (old taken : List ℕ) (result : Next) (new : List ℕ) (now : ℕ) → IsNext given (old ++ taken) result new now
    → StopsAtEnd old taken → (line : List ℕ) → result ≡ next.Line line → HoldsFew old new
few_behind_line given old taken result new now is stops line at =
    let gives = subst (λ (r : Next). IsNext given (old ++ taken) r new now) at is in holds_few old taken new stops gives.behind

-- the same behind each line of a run
pub few_held : (lines : List (List ℕ)) (held : List ℕ) (given : ℕ) → Gave lines held given → length held < most_read
few_held _ _ _ (reading.begins lines held given empty none zero) = let size = ap length none in omega (arith, size)
few_held _ _ _ (reading.adds before mid so_far taken line lines held given gave stops gives all) =
    by (few_held before mid so_far gave) (holds_few mid taken held stops gives.behind) where
      by : length mid < most_read → HoldsFew mid held → length held < most_read
      by less (inl few) = few
      by less (inr (front, parts)) = omega (arith, less, ap length parts, length-append front held)
