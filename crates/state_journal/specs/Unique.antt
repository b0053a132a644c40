-- What two halves stand for is one thing.
use Rattle.std.proofs.Common.{◌≡◌, ◌∙◌, ◌++◌, ◌∷◌, ◌≤◌, ◌+◌, [], ℕ, List, Option, Some, None, ap, arith, drop, length, length-append, length-drop, refl, subst, sym}
use Rattle.std.specs.Prelude.{get_or}
use Rattle.core_state.specs.Changes.{applied}
use Rattle.core_state.specs.State.{StateData}
use Rattle.core_state.specs.declared.change.Change.{Change}
use Rattle.heat_disk.specs.Halves.{Pair, part}
use Rattle.heat_disk.specs.declared.half.Half.{Half}
use Rattle.record_keeper.specs.Shown.{Left, at_rest}
use Rattle.row_codec.specs.ChangeLaws.{one_reading}
use Rattle.row_journal.specs.Ends as ends
use Rattle.row_journal.specs.Ends.{IsSealed, LeavesSealed, behind, end_of}
use Rattle.row_journal.specs.Forms.{body}
use Rattle.row_journal.specs.Images.{ImageData, IsImage}
use Rattle.row_journal.specs.Pending.{IsPending, StandsBehind}
use Rattle.row_journal.specs.declared.version.Version.{Version}
use Rattle.row_journal.specs.declared.version.Version.TheVariants.{One, Two}
use Rattle.row_journal.proofs.Found.{image_same}
use Rattle.row_journal.proofs.Spelled.{body-same}
use Rattle.state_images.specs.Replays.{joined}
use Rattle.step_relation.specs.Opening.{bare}
use Rattle.state_journal.specs.Payloads.{AreSpellings, Give}
use Rattle.state_journal.specs.Readings.{Holds, Reads, StandFor, sealed, torn}

-- payloads are spellings of one list of lists at most
pub lists_one : (payloads : List (List ℕ)) (a b : List (List Change)) → AreSpellings payloads a → AreSpellings payloads b → a ≡ b
lists_one [] [] [] x y = refl
lists_one [] [] (c ∷ cs) x y = absurd y
lists_one [] (c ∷ cs) b x y = absurd x
lists_one (p ∷ ps) [] b x y = absurd x
lists_one (p ∷ ps) (c ∷ cs) [] x y = absurd y
lists_one (p ∷ ps) (c ∷ cs) (d ∷ ds) x y =
    ap (λ (l : List Change). l ∷ cs) (one_reading p c d x.0 y.0) ∙ ap (λ (l : List (List Change)). d ∷ l) (lists_one ps cs ds x.1 y.1)

-- so they give one state at most
pub give_one : (payloads : List (List ℕ)) (s t : StateData) → Give payloads s → Give payloads t → s ≡ t
give_one payloads s t a b =
    a.replay.gives
    ∙ ap (λ (l : List (List Change)). applied (joined l) bare) (lists_one payloads a.lists b.lists a.spellings b.spellings)
    ∙ sym b.replay.gives

-- halves hold one state at most
pub holds_one : (halves : Pair) (s t : StateData) → Holds s halves → Holds t halves → s ≡ t
holds_one halves s t a b = give_one b.image.payloads s t
    (subst (λ (i : ImageData). Give i.payloads s) (image_same halves a.image b.image a.is_image b.is_image) a.give) b.give

body_long : (version : Version) (n : ℕ) (payload : List ℕ) → 8 ≤ length (body version n payload)
body_long One n payload = omega arith
body_long Two n payload = omega arith

-- what stands whole behind a gate takes more than 9 bytes
whole_long : (version : Version) (n : ℕ) (bytes payload : List ℕ) → StandsBehind version n bytes payload → 10 ≤ length bytes
whole_long version n bytes payload it =
    let long = body_long version n payload in
    let all = ap length it.front in
    let parts = ap length it.whole.parts in
    let sum = length-append (body version n payload) (0 ∷ it.whole.rest) in
    omega (arith, long, all, parts, sum)

-- an image whose end is sealed has nothing that could come to count behind it
pub sealed_none : (halves : Pair) (image : ImageData) (payload : List ℕ) → IsSealed halves image
    → IsPending halves image (Some payload) → ⊥
sealed_none halves image payload (ends.closed c) it =
    it.torn (ap (λ (l : List ℕ). get_or l 0 0) (sym it.front ∙ c.gate))
sealed_none halves image payload (ends.short first few) it =
    let long = whole_long image.version (length image.payloads + 1) (behind halves image) payload it in
    let less = length-drop (end_of image) (part image.half halves) in
    let here : length (part image.half halves) ≡ length halves.0 = ap (λ (h : Half). length (part h halves)) first in
    omega (arith, long, less, here, few)

-- one record at most stands there
pub pending_one : (halves : Pair) (image : ImageData) (p q : List ℕ) → IsPending halves image (Some p)
    → IsPending halves image (Some q) → p ≡ q
pending_one halves image p q a b =
    let same : a.record_bytes ≡ b.record_bytes = ap (drop 1) (sym a.front ∙ b.front) in
    (body-same image.version (length image.payloads + 1) p q (0 ∷ a.whole.rest) (0 ∷ b.whole.rest) a.whole.sized b.whole.sized
    (sym a.whole.parts ∙ same ∙ b.whole.parts)).0

module _ (halves : Pair) (i j : ImageData) (a : IsImage halves i) (b : IsImage halves j) where
  one : i ≡ j
  one = image_same halves i j a b

  moved : (P : ImageData → Type 0) → P i → P j
  moved P = subst P one

-- they read as one thing at most
pub reads_one : (halves : Pair) (l m : Left) → Reads halves l → Reads halves m → l ≡ m
reads_one halves _ _ (sealed i s a g) (sealed j t b h) =
    ap at_rest (give_one j.payloads s t (moved halves i j a.is_image b.is_image (λ (x : ImageData). Give x.payloads s) g) h)
reads_one halves _ _ (sealed i s a g) (torn j p t u b w h k) =
    absurd (sealed_none halves j p (moved halves i j a.is_image b (λ (x : ImageData). IsSealed halves x) a.sealed) w)
reads_one halves _ _ (torn i p s u a w g k) (sealed j t b h) =
    absurd (sealed_none halves i p (moved halves j i b.is_image a (λ (x : ImageData). IsSealed halves x) b.sealed) w)
reads_one halves _ _ (torn i p s u a w g k) (torn j q t v b x h m) =
    let to = moved halves i j a b in
    let first : s ≡ t = give_one j.payloads s t (to (λ (y : ImageData). Give y.payloads s) g) h in
    let payload : p ≡ q = pending_one halves j p q (to (λ (y : ImageData). IsPending halves y (Some p)) w) x in
    let behind_both : u ≡ v = give_one (j.payloads ++ q ∷ []) u v
    (subst (λ (z : List ℕ). Give (j.payloads ++ z ∷ []) u) payload (to (λ (y : ImageData). Give (y.payloads ++ p ∷ []) u) k)) m in
    ap (λ (z : StateData). record { reads = z; next = Some u }) first
    ∙ ap (λ (z : StateData). record { reads = t; next = Some z }) behind_both

-- and stand for one
pub stand_one : (halves : Pair) (l m : Option Left) → StandFor halves l → StandFor halves m → l ≡ m
stand_one halves None None a b = refl
stand_one halves None (Some m) a b = absurd (a m b)
stand_one halves (Some l) None a b = absurd (b l a)
stand_one halves (Some l) (Some m) a b = ap Some (reads_one halves l m a b)
