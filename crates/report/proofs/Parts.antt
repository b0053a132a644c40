-- A text in two parts.
use Rattle.std.proofs.Common.{◌≡◌, ℕ, zero, suc, List, [], ◌∷◌, ◌++◌, take, drop, refl, ap, sym, ◌∙◌, append_assoc}
use Rattle.core_state.specs.declared.entry.Entry.{Entry}
use Rattle.core_state.specs.State.{StateData}
use Rattle.report.specs.Seen.{SeenData, seen_of}
use Rattle.report.specs.Entries.{what_text, after_what}
use Rattle.report.specs.Text.{seen_after, told, IsParted}

pub told-parts : (seen : SeenData) (from : ℕ) (es : List Entry) → told seen es ≡ told seen (take from es)
    ++ told (seen_after seen (take from es)) (drop from es)
told-parts seen zero es = refl
told-parts seen (suc from) [] = refl
told-parts seen (suc from) (e ∷ es) =
    ap (λ text. what_text seen e.what ++ text) (told-parts (after_what seen e.what) from es)
    ∙ sym (append_assoc (what_text seen e.what) _ _)

pub is_parted : (opening : StateData) (entries : List Entry) (from : ℕ) → IsParted opening entries from
is_parted opening entries from = told-parts (seen_of opening) from entries
