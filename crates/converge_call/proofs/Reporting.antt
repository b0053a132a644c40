-- What a reporter has seen of a history, in two parts.
use Rattle.std.proofs.Common.{◌≡◌, ◌-◌, ℕ, zero, suc, List, [], ◌∷◌, ◌++◌, take, drop, length, refl, ap, ◌∙◌}
use Rattle.std.proofs.Math.Seq.{take-append_seam}
use Rattle.std.proofs.lemmas.List.{take_rest}
use Rattle.core_state.specs.declared.entry.Entry.{Entry}
use Rattle.core_state.specs.State.{StateData}
use Rattle.report.specs.Seen.{SeenData, seen_of}
use Rattle.report.specs.Entries.{after_what}
use Rattle.report.specs.Text.{seen_after, told, text_after}

seen_in_parts : (seen : SeenData) (from : ℕ) (es : List Entry)
    → seen_after (seen_after seen (take from es)) (drop from es) ≡ seen_after seen es
seen_in_parts seen zero es = refl
seen_in_parts seen (suc from) [] = refl
seen_in_parts seen (suc from) (e ∷ es) = seen_in_parts (after_what seen e.what) from es

-- before the place where a history grew, all of the earlier one is seen
pub seen_before : (seen : SeenData) (old new es : List Entry) → new ≡ old ++ es
    → seen_after seen (take (length old) new) ≡ seen_after seen old
seen_before seen old new es grows =
    ap (λ (h : List Entry). seen_after seen h)
    (ap (λ (h : List Entry). take (length old) h) grows ∙ take-append_seam old es)

-- what a reporter tells and has seen of the entries from a place on, where it has seen those before it
module _ (s : SeenData) (opening : StateData) (es shown : List Entry) (from : ℕ)
    (was : s ≡ seen_after (seen_of opening) (take from es)) (same : shown ≡ es) where
  abbrev behind : List Entry → List Entry
  behind h = take (length h - from) (drop from h)

  rest_is : behind shown ≡ drop from es
  rest_is = ap behind same ∙ take_rest es from

  pub told_from : told s (take (length shown - from) (drop from shown)) ≡ text_after opening es from
  told_from = ap (λ (h : List Entry). told s h) rest_is ∙ ap (λ (x : SeenData). told x (drop from es)) was

  pub seen_from : seen_after s (take (length shown - from) (drop from shown)) ≡ seen_after (seen_of opening) es
  seen_from =
      ap (λ (h : List Entry). seen_after s h) rest_is ∙ ap (λ (x : SeenData). seen_after x (drop from es)) was
      ∙ seen_in_parts (seen_of opening) from es
