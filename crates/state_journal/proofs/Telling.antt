-- What halves stand for is known once their payloads, and what stands behind them, were looked at.
use Rattle.std.proofs.Common.{◌≡◌, ◌∙◌, ◌⊎◌, ◌++◌, ◌∷◌, ◌≤◌, [], ℕ, List, Option, Some, None, ap, arith, inl, inr, length, refl, subst, sym}
use Rattle.std.specs.Prelude.{Err, IfOk, Ok, Result, false, get_or, nat_le, true, ◌<◌}
use Rattle.std.proofs.lemmas.Bool.Decides.{leb_tells}
use Rattle.core_state.specs.State.{Held, StateData}
use Rattle.heat_disk.specs.Halves.{Pair}
use Rattle.heat_disk.specs.declared.half.Half.{Half}
use Rattle.heat_disk.specs.declared.half.Half.TheVariants.{First, Second}
use Rattle.record_keeper.specs.Shown.{Left, at_rest}
use Rattle.row_journal.specs.Ends as ends
use Rattle.row_journal.specs.Ends.{IsClosed, IsSealed, LeavesSealed, behind}
use Rattle.row_journal.specs.Images.{ImageData, IsImage}
use Rattle.row_journal.specs.Pending.{AreContents, IsPending}
use Rattle.row_journal.specs.declared.contents.Contents.{Contents}
use Rattle.row_journal.proofs.Found.{image_same}
use Rattle.state_journal.specs.Payloads.{Give}
use Rattle.state_journal.specs.Readings.{Holds, IsKnownBehind, ReadAs, Reads, StandFor, sealed, torn}
use Rattle.state_journal.specs.Unique.{pending_one, sealed_none}

-- which of two numbers is greater
abbrev Compared : ℕ → ℕ → Type 0
Compared a b = ((nat_le a b ≡ true) × (a ≤ b)) ⊎ ((nat_le a b ≡ false) × (b < a))

-- whether a gate 00 stands in front is known
is_closed : (bytes : List ℕ) → IsClosed bytes ⊎ (IsClosed bytes → ⊥)
is_closed [] = inr (λ it. let none : [] ≡ 0 ∷ it.rest = it.gate in cc)
is_closed (gate ∷ rest) = by (leb_tells gate 0) where
  by : Compared gate 0 → IsClosed (gate ∷ rest) ⊎ (IsClosed (gate ∷ rest) → ⊥)
  by (inl low) = inl (let zero : gate ≡ 0 = omega (arith, low.1) in
      record { rest = rest; gate = ap (λ (g : ℕ). g ∷ rest) zero })
  by (inr high) = inr (λ it. let zero = ap (λ (l : List ℕ). get_or l 0 0) it.gate in omega (arith, high.1, zero))

module _ (halves : Pair) (image : ImageData) where
  is_first : (half : Half) → image.half ≡ half → (image.half ≡ First) ⊎ (image.half ≡ First → ⊥)
  is_first First is = inl is
  is_first Second is = inr (λ it. let both : Second ≡ First = sym is ∙ it in cc)

  -- and so whether the end is sealed
  pub is_sealed : IsSealed halves image ⊎ (IsSealed halves image → ⊥)
  is_sealed = by (is_closed (behind halves image)) (is_first image.half refl) (leb_tells (length halves.0) 9) where
    by : IsClosed (behind halves image) ⊎ (IsClosed (behind halves image) → ⊥)
        → (image.half ≡ First) ⊎ (image.half ≡ First → ⊥) → Compared (length halves.0) 9
        → IsSealed halves image ⊎ (IsSealed halves image → ⊥)
    by (inl closed) half few = inl (ends.closed closed)
    by (inr open_) (inl first) (inl few) = inl (ends.short first few.1)
    by (inr open_) (inl first) (inr many) = inr (λ it. elim it [
      | ends.short half few ↦ omega (arith, few, many.1)
      | ends.closed closed ↦ open_ closed
    ])
    by (inr open_) (inr second) few = inr (λ it. elim it [
      | ends.short half few ↦ second half
      | ends.closed closed ↦ open_ closed
    ])

  module _ (is : IsImage halves image) where
    give_none : ((s : StateData) → ¬ Give image.payloads s) → (l : Left) → ¬ Reads halves l
    give_none none _ (sealed i s leaves give) =
        none s (subst (λ (x : ImageData). Give x.payloads s) (image_same halves i image leaves.is_image is) give)
    give_none none _ (torn i p s t is_image pending give more) =
        none s (subst (λ (x : ImageData). Give x.payloads s) (image_same halves i image is_image is) give)

    -- an end that is neither sealed nor torn reads as nothing
    untidy_none : (IsSealed halves image → ⊥) → IsPending halves image None → (l : Left) → ¬ Reads halves l
    untidy_none open_ none _ (sealed i s leaves give) =
        open_ (subst (IsSealed halves) (image_same halves i image leaves.is_image is) leaves.sealed)
    untidy_none open_ none _ (torn i p s t is_image pending give more) =
        none p (subst (λ (x : ImageData). IsPending halves x (Some p)) (image_same halves i image is_image is) pending)

    -- so does a torn one, where the record behind it gives no state
    torn_none : (payload : List ℕ) → IsPending halves image (Some payload)
        → ((t : StateData) → ¬ Give (image.payloads ++ payload ∷ []) t) → (l : Left) → ¬ Reads halves l
    torn_none payload it none _ (sealed i s leaves give) =
        sealed_none halves image payload
        (subst (IsSealed halves) (image_same halves i image leaves.is_image is) leaves.sealed) it
    torn_none payload it none _ (torn i p s t is_image pending give more) =
        let same : i ≡ image = image_same halves i image is_image is in
        let here : IsPending halves image (Some p) =
        subst (λ (x : ImageData). IsPending halves x (Some p)) same pending in
        none t (subst (λ (q : List ℕ). Give (image.payloads ++ q ∷ []) t) (pending_one halves image p payload here it)
        (subst (λ (x : ImageData). Give (x.payloads ++ p ∷ []) t) same more))

    stands : (s : StateData) → Give image.payloads s → (pending : Option (List ℕ)) → IsPending halves image pending
        → IsKnownBehind image.payloads pending → IsSealed halves image ⊎ (IsSealed halves image → ⊥)
        → (l : Option Left) × StandFor halves l
    stands s give pending it tells (inl ends_sealed) =
        (Some (at_rest s), sealed image s (record { is_image = is; sealed = ends_sealed }) give)
    stands s give None it tells (inr open_) = (None, untidy_none open_ it)
    stands s give (Some payload) it (inl told) (inr open_) =
        (Some (record { reads = s; next = Some told.0 }), torn image payload s told.0 is it give told.1)
    stands s give (Some payload) it (inr none) (inr open_) = (None, torn_none payload it none)

    pub tells_left : (pending : Option (List ℕ)) → IsPending halves image pending → IsKnownBehind image.payloads pending
        → (s : StateData) → Give image.payloads s → (l : Option Left) × StandFor halves l
    tells_left pending it tells s give = stands s give pending it tells is_sealed

    pub tells_none : ((s : StateData) → ¬ Give image.payloads s) → StandFor halves None
    tells_none none = give_none none

-- so what was found is read as the state that it gives
read_as : (halves : Pair) (c : Contents) (it : AreContents halves c) (s : StateData) → Give c.payloads.items s
    → IsKnownBehind c.payloads.items c.pending → ReadAs halves s
read_as halves c it s give known =
    let gives : Give it.image.payloads s = subst (λ (ps : List (List ℕ)). Give ps s) it.payloads give in
    let tells : IsKnownBehind it.image.payloads c.pending =
    subst (λ (ps : List (List ℕ)). IsKnownBehind ps c.pending) it.payloads known in
    let left = tells_left halves it.image it.is_image c.pending it.pending tells s gives in record {
      holds = record { image = it.image; is_image = it.is_image; give = gives };
      left = left.0;
      stand = left.1;
    }

-- and holds none where it gives none
pub holds_none : (halves : Pair) (c : Contents) (it : AreContents halves c) → ((s : StateData) → ¬ Give c.payloads.items s)
    → (s : StateData) → ¬ Holds s halves
holds_none halves c it none s holds = none s (subst (λ (ps : List (List ℕ)). Give ps s) (sym it.payloads)
    (subst (λ (i : ImageData). Give i.payloads s) (image_same halves holds.image it.image holds.is_image it.is_image)
    holds.give))

pub read_found : {E : Type 0} (halves : Pair) (c : Contents) → AreContents halves c → (r : Result Held E)
    → IfOk r (λ s. Give c.payloads.items s.state) → IfOk r (λ _. IsKnownBehind c.payloads.items c.pending)
    → IfOk r (λ s. ReadAs halves s.state)
read_found halves c it (Ok s) give known = read_as halves c it s.state give known
read_found halves c it (Err e) give known = tt
