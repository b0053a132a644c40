-- One point more of a graph whose points are written in order.
use Rattle.std.proofs.Common.{◌≡◌, ◌+◌, ℕ, List, [], ◌∷◌, ◌++◌, Some, map, take, sym, ap, ◌∙◌, append_assoc}
use Rattle.std.specs.Prelude.{slice_get}
use Rattle.std.proofs.lemmas.List.{map-append, take_more}
use Rattle.std.proofs.lemmas.Option.{get_or_from_slice_get, slice_get_within}
use Rattle.core_state.specs.declared.Point.{Point}
use Rattle.core_state.specs.declared.change.Change.{Change}
use Rattle.core_state.specs.declared.change.Change.TheVariants.{PutPoint}

pub point_more : (points : List Point) (i : ℕ) (p : Point) (front old new : List Change) → slice_get points i ≡ Some p
    → old ≡ front ++ map PutPoint (take i points) → new ≡ old ++ PutPoint p ∷ [] → new ≡ front ++ map PutPoint (take (i + 1) points)
point_more points i p front old new at was is =
    let more : take (i + 1) points ≡ take i points ++ p ∷ [] = take_more points i p (slice_get_within points i p at)
    ∙ ap (λ (q : Point). take i points ++ q ∷ []) (get_or_from_slice_get points i p p at) in
    is ∙ (ap (λ (cs : List Change). cs ++ PutPoint p ∷ []) was ∙ (append_assoc front (map PutPoint (take i points)) (PutPoint p ∷ [])
    ∙ ap (λ (cs : List Change). front ++ cs) (sym (map-append PutPoint (take i points) (p ∷ [])) ∙ ap (map PutPoint) (sym more))))
