-- What is numbered is the spelling, where there are fewer than 2^64 changes.
use Rattle.std.proofs.Common.{◌≡◌, ◌∙◌, ◌<◌, ◌≤◌, ◌+◌, ◌-◌, ◌^◌, ℕ, List, [], ◌∷◌, ◌++◌, All, ap, sym, subst, refl, arith}
use Rattle.std.proofs.Common.{length, min}
use Rattle.std.specs.Prelude.{Contains}
use Rattle.std.specs.List.{flat_map}
use Rattle.std.proofs.lemmas.List.{length-append, take_all}
use Rattle.std.proofs.lemmas.List.Elements.{All-contains_itself, All-weaker}
use Rattle.core_state.specs.declared.change.Change.{Change}
use Rattle.core_state.specs.declared.change.Change.TheVariants as change
use Rattle.plan_codec.specs.Numbers.{spelled_number}
use Rattle.plan_codec.specs.Sheets.{SheetData, behind, blank}
use Rattle.row_codec.specs.Changes.{spelled, spelled_change, the_tag, the_fields, IsProper, IsStorable}
use Rattle.state_images.specs.Images.{AreKeepable}
use Rattle.snapshot_codec.specs.Puts.{IsKept, numbered}

eight : (n : ℕ) → length (spelled_number n) ≡ 8
unfolding spelled_number
eight n = refl

pub same_length : (cs : List Change) → length (numbered cs) ≡ length (spelled cs)
same_length cs =
    let n : ℕ = min (length cs) (2 ^ 64 - 1) in
    length-append (spelled_number n) (flat_map spelled_change cs)
    ∙ ap (λ (k : ℕ). k + length (flat_map spelled_change cs)) (eight n ∙ sym (eight (length cs)))
    ∙ sym (length-append (spelled_number (length cs)) (flat_map spelled_change cs))

-- a change has a byte at least
a_byte_each : (cs : List Change) → length cs ≤ length (flat_map spelled_change cs)
a_byte_each [] = omega arith
a_byte_each (c ∷ cs) =
    omega (arith, a_byte_each cs, length-append (the_tag c ∷ the_fields c) (flat_map spelled_change cs))

fewer : (cs : List Change) → length (numbered cs) < 2 ^ 64 → length cs < 2 ^ 64 - 8
fewer cs less =
    let n : ℕ = min (length cs) (2 ^ 64 - 1) in
    omega (arith, less, a_byte_each cs, eight n, length-append (spelled_number n) (flat_map spelled_change cs))

the_number : (n : ℕ) → n < 2 ^ 64 - 8 → min n (2 ^ 64 - 1) ≡ n
the_number n less = omega (arith, less)

pub numbered_is : (cs : List Change) → length (numbered cs) < 2 ^ 64 → numbered cs ≡ spelled cs
numbered_is cs less = ap (λ (n : ℕ). spelled_number n ++ flat_map spelled_change cs) (the_number (length cs) (fewer cs less))

-- what is kept on a blank sheet
module _ (cs : List Change) (room : ℕ) (fits : length (spelled cs) ≤ room) where
  pub all_kept : (behind (blank room) (numbered cs)).kept ≡ numbered cs
  unfolding behind
  all_kept = take_all room (numbered cs) (subst (λ (n : ℕ). n ≤ room) (sym (same_length cs)) fits)

  pub kept_is : (s : SheetData) → s ≡ behind (blank room) (numbered cs) → length s.kept < 2 ^ 64 → s.kept ≡ spelled cs
  kept_is s is less =
      let kept : s.kept ≡ numbered cs = ap (λ (t : SheetData). t.kept) is ∙ all_kept in
      kept ∙ numbered_is cs (subst (λ (bs : List ℕ). length bs < 2 ^ 64) kept less)

  pub are_fewer : (s : SheetData) → s ≡ behind (blank room) (numbered cs) → length s.kept < 2 ^ 64 → length cs < 2 ^ 64
  are_fewer s is less =
      let kept : s.kept ≡ numbered cs = ap (λ (t : SheetData). t.kept) is ∙ all_kept in
      omega (arith, fewer cs (subst (λ (bs : List ℕ). length bs < 2 ^ 64) kept less))

-- a change among keepable ones may be stored
storable_among : (cs : List Change) → AreKeepable cs → (c : Change) → Contains cs c → IsStorable c
storable_among cs may (change.PutRow r) among = let k = may r among in (k.key, k.act)
storable_among cs may (change.PutStack s) among = tt
storable_among cs may (change.DropStack n) among = tt
storable_among cs may (change.DropRow n) among = tt
storable_among cs may (change.PutGraph n g) among = tt
storable_among cs may (change.PutPoint p) among = tt
storable_among cs may (change.Send l) among = tt
storable_among cs may (change.Drop n) among = tt
storable_among cs may (change.PutJob j) among = tt
storable_among cs may (change.EndJob e) among = tt
storable_among cs may (change.Enlist e) among = tt
storable_among cs may (change.Stop e) among = tt
storable_among cs may (change.Numbers n) among = tt
storable_among cs may (change.PutPast p) among = tt
storable_among cs may (change.Release t) among = tt

pub all_storable : (cs : List Change) → AreKeepable cs → All IsStorable cs
all_storable cs may = All-weaker (Contains cs) IsStorable (storable_among cs may) cs (All-contains_itself cs)

pub kept_proper : (cs : List Change) → AreKeepable cs → All IsKept cs → All IsProper cs
kept_proper cs may kept = λ k d less. kept k d less (all_storable cs may k d less)
