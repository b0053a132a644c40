-- Letters that are sent: which are found then, and their numbers.
use Rattle.std.proofs.Common.{◌≡◌, ◌⊎◌, inl, inr, ℕ, List, [], ◌∷◌, Some, map, subst, sym}
use Rattle.std.specs.Prelude.{Contains}
use Rattle.mail_table.specs.Mails.{letter_at, put_letter}
use Rattle.mail_table.specs.declared.mail.Letter.{Letter}
use Rattle.history_laws.proofs.tables.Rows.{letter_put}
use Rattle.workable_laws.proofs.Below.{sent_to}
use Rattle.next_laws.proofs.Listings.{cons_cases, in_head, in_tail, no_member}

pub found_sent : (ls ms : List Letter) (i : ℕ) (y : Letter) → letter_at (sent_to ls ms) i ≡ Some y
    → (letter_at ms i ≡ Some y) ⊎ Contains ls y
found_sent [] ms i y z = inl z
found_sent (p ∷ ls) ms i y z = elim (found_sent ls (put_letter p ms) i y z) [
  | inl w ↦ elim (letter_put p ms w) [
    | inl new ↦ inr (subst (Contains (p ∷ ls)) new.1 (in_head ls p))
    | inr old ↦ inl old.1
  ]
  | inr later ↦ inr (in_tail ls p y later)
]

pub numbers_in : (ls : List Letter) (l : Letter) → Contains ls l → Contains (map (λ (x : Letter). x.no) ls) l.no
numbers_in [] l c = absurd (no_member l c)
numbers_in (x ∷ ls) l c = elim (cons_cases ls x l c) [
  | inl is ↦ subst (λ (y : Letter). Contains (x.no ∷ map (λ (z : Letter). z.no) ls) y.no) (sym is)
      (in_head (map (λ (z : Letter). z.no) ls) x.no)
  | inr later ↦ in_tail (map (λ (z : Letter). z.no) ls) x.no l.no (numbers_in ls l later)
]
