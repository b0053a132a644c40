-- The pieces that a walk has passed, with the rest of the text.
use Rattle.std.proofs.Common.{◌≡◌, ◌≢◌, ◌+◌, ◌<◌, ◌≤◌, ℕ, List, [], ◌∷◌, ◌++◌, length, Some, refl, ap, sym, subst, arith, append_assoc, length-append, true}
use Rattle.std.specs.List.{slice_get}
use Rattle.heat_value.specs.Compact.{nodes_text}
use Rattle.heat_value.specs.Data.{words, items, Nodes, no_nodes, node_last}
use Rattle.hot_strings.specs.Places.{Lacks, StandsFirst}
use Rattle.hot_strings.specs.Size.{IsTooLong}
use Rattle.hot_strings.specs.Split.{AreSplit, texts, all, IsSplitTooLong, IsSplitFault}
use Rattle.hot_strings.specs.Faults.{IsOfResult}
use Rattle.hot_strings.specs.declared.fault.StringFault.{StringFault}
use Rattle.hot_strings.specs.declared.fault.StringFault.TheVariants.{F02, F03, F04, F06, Memory}
use Rattle.hot_strings.proofs.Sizes.{length-nodes_text-true, node_last-some}
use Rattle.hot_strings.proofs.Splits.{AreSplit-cons, split_exists, texts-push, length-texts-append}

-- whatever the pieces of the rest are, behind those that were passed they are those of the text
abbrev pub LeadsTo : List ℕ → List ℕ → List (List ℕ) → List ℕ → Type 0
LeadsTo d s done rest = (ps : List (List ℕ)) → AreSplit d rest ps → AreSplit d s (done ++ ps)

pub LeadsTo-step : (d s : List ℕ) (done : List (List ℕ)) (rest p tail : List ℕ) → LeadsTo d s done rest → StandsFirst d rest p tail → LeadsTo d s (done ++ p ∷ []) tail
LeadsTo-step d s done rest p tail leads first ps h =
    subst (λ (qs : List (List ℕ)). AreSplit d s qs) (sym (append_assoc done (p ∷ []) ps)) (leads (p ∷ ps) (AreSplit-cons d rest p tail ps first h))

slice_get_seam : (xs : List (List ℕ)) (y : List ℕ) (ys : List (List ℕ)) → slice_get (xs ++ y ∷ ys) (length xs) ≡ Some y
slice_get_seam [] y ys = refl
slice_get_seam (x ∷ xs) y ys = slice_get_seam xs y ys

-- the next piece stands at the place of as many pieces as were passed
pub piece_there : (d s : List ℕ) (done : List (List ℕ)) (rest p tail : List ℕ) (at : ℕ) → d ≢ [] → LeadsTo d s done rest → StandsFirst d rest p tail → length done ≡ at
    → (ps : List (List ℕ)) × AreSplit d s ps × (slice_get ps at ≡ Some p)
piece_there d s done rest p tail at some leads first is =
    let more = split_exists d tail some in
    (done ++ p ∷ more.0, leads (p ∷ more.0) (AreSplit-cons d rest p tail more.0 first more.1), rw (← is) (slice_get_seam done p more.0))

pub last_there : (d s : List ℕ) (done : List (List ℕ)) (rest : List ℕ) (at : ℕ) → LeadsTo d s done rest → Lacks d rest → length done ≡ at
    → (ps : List (List ℕ)) × AreSplit d s ps × (slice_get ps at ≡ Some rest)
last_there d s done rest at leads lacks is = (done ++ rest ∷ [], leads (rest ∷ []) (refl, lacks), rw (← is) (slice_get_seam done rest []))

pub none_there : (d s : List ℕ) (done : List (List ℕ)) (rest : List ℕ) (at left : ℕ) → LeadsTo d s done rest → Lacks d rest → length done + left ≡ at → 0 < left
    → (ps : List (List ℕ)) × AreSplit d s ps × (length ps ≤ at)
none_there d s done rest at left leads lacks is more = (done ++ rest ∷ [], leads (rest ∷ []) (refl, lacks), omega (arith, length-append done (rest ∷ [])))

-- what is too long up to a piece is too long with more
pub too_long_there : (d s : List ℕ) (done ps : List (List ℕ)) (p : List ℕ) → AreSplit d s (done ++ p ∷ ps) → IsTooLong (items (node_last (texts done) (words p))) → IsSplitTooLong d s all
too_long_there d s done ps p split h =
    let whole : texts ((done ++ p ∷ []) ++ ps) ≢ no_nodes
    = λ e. node_last-some (texts done) (words p) (none_before (done ++ p ∷ []) ps e (texts-push done p)) in
    let long : IsTooLong (items (texts ((done ++ p ∷ []) ++ ps))) = omega (
      arith,
      length-nodes_text-true (texts ((done ++ p ∷ []) ++ ps)) whole,
      length-nodes_text-true (node_last (texts done) (words p)) (node_last-some (texts done) (words p)),
      length-texts-append (done ++ p ∷ []) ps,
      ap (λ n. length (nodes_text true n)) (texts-push done p),
    ) in
    (items (texts (done ++ p ∷ ps)), (done ++ p ∷ ps, split, refl), subst (λ (qs : List (List ℕ)). IsTooLong (items (texts qs))) (append_assoc done (p ∷ []) ps) long)
  where
    none_before : (xs ys : List (List ℕ)) {n : Nodes} → texts (xs ++ ys) ≡ no_nodes → texts xs ≡ n → n ≡ no_nodes
    none_before [] ys e is = sym is
    none_before (x ∷ xs) ys e is = cc

-- the push that found no room, or no memory
pub push_refused : (e : StringFault) (d s : List ℕ) (done : List (List ℕ)) (p : List ℕ) → d ≢ [] → ((ps : List (List ℕ)) × AreSplit d s (done ++ p ∷ ps))
    → IsOfResult e (items (node_last (texts done) (words p))) → IsSplitFault e d s all
push_refused F02 d s done p some more h = absurd h
push_refused F03 d s done p some more h = absurd h
push_refused F04 d s done p some more h = h
push_refused F06 d s done p some more h = (λ e. cc, some, too_long_there d s done more.0 p more.1 h)
push_refused Memory d s done p some more h = h
