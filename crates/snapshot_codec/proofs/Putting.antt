-- Changes that are put one behind another.
use Rattle.std.proofs.Common.{◌≡◌, ◌∙◌, ◌<◌, ◌+◌, ℕ, List, [], ◌∷◌, ◌++◌, All, ap, sym, subst, append_assoc}
use Rattle.std.proofs.Common.{length, take, map, get_or}
use Rattle.std.specs.List.{flat_map}
use Rattle.std.proofs.lemmas.Grind.{flat_map-append}
use Rattle.std.proofs.lemmas.List.{append-nil, map-append, take_more}
use Rattle.std.proofs.lemmas.List.Elements.{All-append, All-cons, All-from_recursion, All-nil}
use Rattle.core_state.specs.State.{StateData}
use Rattle.core_state.specs.declared.change.Change.{Change}
use Rattle.core_state.specs.declared.graph.Graph.{Graph}
use Rattle.plan_codec.specs.Sheets.{SheetData, behind}
use Rattle.plan_codec.proofs.Sheets.{behind_behind}
use Rattle.row_codec.specs.Changes.{spelled_change}
use Rattle.state_images.specs.Formed.{IsAligned}
use Rattle.state_images.specs.Images.{IsMade}
use Rattle.state_images.proofs.Forming.{made_aligned}
use Rattle.snapshot_codec.specs.Puts.{HasPut, IsKept}

-- a change, and nothing behind it
pub one_put : (c : Change) (a b : SheetData) → b ≡ behind a (spelled_change c) → IsKept c → HasPut (c ∷ []) a b
one_put c a b put k = record {
  bytes = λ sheet front e. put ∙ ap (λ (s : SheetData). behind s (spelled_change c)) e
      ∙ behind_behind sheet front (spelled_change c)
      ∙ ap (λ (bs : List ℕ). behind sheet (front ++ bs)) (sym (append-nil (spelled_change c)));
  kept = All-cons IsKept c [] k (All-nil IsKept);
}

-- changes, and changes behind them
pub then_put : {cs ds : List Change} {a b c : SheetData} → HasPut cs a b → HasPut ds b c → HasPut (cs ++ ds) a c
then_put {cs = cs} {ds = ds} h g = record {
  bytes = λ sheet front e. g.bytes sheet (front ++ flat_map spelled_change cs) (h.bytes sheet front e)
      ∙ ap (behind sheet) (append_assoc front (flat_map spelled_change cs) (flat_map spelled_change ds)
      ∙ ap (λ (bs : List ℕ). front ++ bs) (sym (flat_map-append spelled_change cs ds)));
  kept = All-append IsKept cs ds h.kept g.kept;
}

-- one more of a list of changes
pub more_put : {A : Type 0} (bringing : A → Change) (xs : List A) (i : ℕ) (x : A) (a b c : SheetData) → i < length xs
    → x ≡ get_or xs i x → HasPut (map bringing (take i xs)) a b → c ≡ behind b (spelled_change (bringing x))
    → IsKept (bringing x) → HasPut (map bringing (take (i + 1) xs)) a c
more_put bringing xs i x a b c less is h put k =
    let more : take (i + 1) xs ≡ take i xs ++ x ∷ [] = take_more xs i x less ∙ ap (λ (y : _). take i xs ++ y ∷ []) (sym is) in
    subst (λ (cs : List Change). HasPut cs a c) (sym (ap (map bringing) more ∙ map-append bringing (take i xs) (x ∷ [])))
    (then_put h (one_put (bringing x) b c put k))

-- graphs that changes made have as many points as nodes
pub graphs_aligned : (s : StateData) (graphs : List Graph) → IsMade s → graphs ≡ s.graphs → All IsAligned graphs
graphs_aligned s graphs made is =
    subst (All IsAligned) (sym is) (All-from_recursion IsAligned s.graphs (made_aligned s made))
