-- What stands whole behind a gate, and what doesn't.
use Rattle.std.proofs.Common.{◌≡◌, ◌∙◌, ◌++◌, ◌∷◌, ◌≤◌, ◌-◌, [], ℕ, List, ap, arith, drop, length, subst, sym, take}
use Rattle.std.specs.Prelude.{Err, IfOk, None, Ok, Option, Result, Some, get_or}
use Rattle.std.proofs.lemmas.List.{take_all}
use Rattle.row_journal.specs.declared.version.Version.{Version}
use Rattle.row_journal.specs.Forms.{body, IsSized}
use Rattle.row_journal.specs.Ends.{IsClosed}
use Rattle.row_journal.specs.Pending.{IsThe, IsWhole, StandsBehind}
use Rattle.row_journal.proofs.Spelled.{body-same}

-- behind the one payload no byte 00 stands, so none is whole
pub not_whole : (version : Version) (n : ℕ) (payload rest bytes : List ℕ) → bytes ≡ body version n payload ++ rest
    → IsSized payload → (IsClosed rest → ⊥) → (other : List ℕ) → IsWhole version n bytes other → ⊥
not_whole version n payload rest bytes parts small ajar other it =
    let same = body-same version n payload other rest (0 ∷ it.rest) small it.sized (sym parts ∙ it.parts) in
    ajar (record { rest = it.rest; gate = same.1 })

module _ (version : Version) (n gate : ℕ) (record_bytes at : List ℕ) (front : gate ∷ record_bytes ≡ at)
    (torn : gate ≡ 0 → ⊥) where
  one_behind : {E : Type 0} (r : Result (Option (List ℕ)) E) → IfOk r (IsThe (IsWhole version n record_bytes))
      → IfOk r (IsThe (StandsBehind version n at))
  one_behind (Err e) h = tt
  one_behind (Ok None) h = λ payload it.
      h payload (subst (λ (l : List ℕ). IsWhole version n l payload) (sym (ap (drop 1) (front ∙ it.front))) it.whole)
  one_behind (Ok (Some payload)) h =
      record { gate = gate; torn = torn; record_bytes = record_bytes; front = sym front; whole = h }

-- what stands whole behind a gate is what stands behind it, if it isn't closed
pub behind_torn : {E : Type 0} (version : Version) (n : ℕ) (bytes at : List ℕ) → bytes ≡ at → 1 ≤ length bytes
    → (get_or bytes 0 0 ≡ 0 → ⊥) → (r : Result (Option (List ℕ)) E)
    → IfOk r (IsThe (IsWhole version n (take (length bytes - 1) (drop 1 bytes))))
    → IfOk r (IsThe (StandsBehind version n at))
behind_torn version n [] at is some torn r h = absurd (omega (arith, some))
behind_torn version n (gate ∷ record_bytes) at is some torn r h = one_behind version n gate record_bytes at is torn r
    (subst (λ (l : List ℕ). IfOk r (IsThe (IsWhole version n l))) (take_all (length (gate ∷ record_bytes) - 1) record_bytes (omega arith)) h)
