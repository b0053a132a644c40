-- The pieces of a text: that there is one list of them, and that it joins to the text.
use Rattle.std.proofs.Common.{◌≡◌, ◌≢◌, ◌<◌, ◌≤◌, ℕ, zero, suc, List, [], ◌∷◌, ◌++◌, length, ◌⊎◌, inl, inr, refl, ap, sym, ◌∙◌, subst, arith, true, length-append}
use Rattle.std.proofs.lemmas.List.{append_cancel_left}
use Rattle.heat_value.specs.Data.{words, node, node_last}
use Rattle.heat_value.specs.Compact.{compact, nodes_text}
use Rattle.hot_strings.specs.Joined.{joined}
use Rattle.hot_strings.specs.Only.{HoldsOfOne}
use Rattle.hot_strings.specs.Places.{Lacks, StandsFirst}
use Rattle.hot_strings.specs.Split.{AreSplit, texts}
use Rattle.hot_strings.proofs.PlaceLemmas.{append_same, first_place}

-- a first piece before the pieces of the rest
pub AreSplit-cons : (d s p rest : List ℕ) (ps : List (List ℕ)) → StandsFirst d s p rest → AreSplit d rest ps → AreSplit d s (p ∷ ps)
AreSplit-cons d s p rest [] first h = absurd h
AreSplit-cons d s p rest (q ∷ ps) first h = (rest, first, h)

-- a delimiter that isn't empty makes the rest shorter
pub length-rest : (d s p rest : List ℕ) → d ≢ [] → StandsFirst d s p rest → length rest < length s
length-rest [] s p rest some first = absurd (some refl)
length-rest (x ∷ d) s p rest some first = omega (arith, ap length first.whole, length-append p ((x ∷ d) ++ rest), length-append d rest)

split_within : (n : ℕ) (d s : List ℕ) → d ≢ [] → length s ≤ n → (ps : List (List ℕ)) × AreSplit d s ps
split_within zero d s some fits = go (first_place d s)
  where
    go : ((front : List ℕ) × (rest : List ℕ) × StandsFirst d s front rest) ⊎ Lacks d s → (ps : List (List ℕ)) × AreSplit d s ps
    go (inr lacks) = (s ∷ [], (refl, lacks))
    go (inl (front, rest, first)) = absurd (omega (arith, length-rest d s front rest some first))
split_within (suc m) d s some fits = go (λ rest. split_within m d rest some) (first_place d s)
  where
    go : ((rest : List ℕ) → length rest ≤ m → (ps : List (List ℕ)) × AreSplit d rest ps)
        → ((front : List ℕ) × (rest : List ℕ) × StandsFirst d s front rest) ⊎ Lacks d s → (ps : List (List ℕ)) × AreSplit d s ps
    go more (inr lacks) = (s ∷ [], (refl, lacks))
    go more (inl (front, rest, first)) =
        let others = more rest (omega (arith, length-rest d s front rest some first)) in
        (front ∷ others.0, AreSplit-cons d s front rest others.0 first others.1)

pub split_exists : (d s : List ℕ) → d ≢ [] → (ps : List (List ℕ)) × AreSplit d s ps
split_exists d s some = split_within (length s) d s some (omega arith)

-- a delimiter stands first at one place
pub StandsFirst-same : (d s p q rest more : List ℕ) → StandsFirst d s p rest → StandsFirst d s q more → (p ≡ q) × (rest ≡ more)
StandsFirst-same d s p q rest more a b =
    let one : length p ≤ length q = a.first q more b.whole in
    let other : length q ≤ length p = b.first p rest a.whole in
    let cuts = append_same p q (d ++ rest) (d ++ more) (omega arith) (sym a.whole ∙ b.whole) in
    (cuts.0, append_cancel_left d rest more cuts.1)

pub AreSplit-same : (d s : List ℕ) (ps qs : List (List ℕ)) → AreSplit d s ps → AreSplit d s qs → ps ≡ qs
AreSplit-same d s [] qs h k = absurd h
AreSplit-same d s (p ∷ []) [] h k = absurd k
AreSplit-same d s (p ∷ []) (q ∷ []) h k = ap (λ x. x ∷ []) (h.0 ∙ sym k.0)
AreSplit-same d s (p ∷ []) (q ∷ r ∷ qs) h k = absurd (h.1 q k.0 k.1.whole)
AreSplit-same d s (p ∷ o ∷ ps) [] h k = absurd k
AreSplit-same d s (p ∷ o ∷ ps) (q ∷ []) h k = absurd (k.1 p h.0 h.1.whole)
AreSplit-same d s (p ∷ o ∷ ps) (q ∷ r ∷ qs) h k =
    let same = StandsFirst-same d s p q h.0 k.0 h.1 k.1 in
    let rests = AreSplit-same d h.0 (o ∷ ps) (r ∷ qs) h.2 (subst (λ (t : List ℕ). AreSplit d t (r ∷ qs)) (sym same.1) k.2) in
    let fronts : p ≡ q = same.0 in (cc (rests, fronts))

pub AreSplit-one : (d s : List ℕ) → d ≢ [] → HoldsOfOne (AreSplit d s)
AreSplit-one d s some = let found = split_exists d s some in (found.0, found.1, λ qs k. AreSplit-same d s qs found.0 k found.1)

-- joined again, the pieces are the text
pub joined-AreSplit : (d s : List ℕ) (ps : List (List ℕ)) → AreSplit d s ps → joined d ps ≡ s
joined-AreSplit d s [] h = absurd h
joined-AreSplit d s (p ∷ []) h = h.0
joined-AreSplit d s (p ∷ q ∷ ps) h = ap (λ t. p ++ (d ++ t)) (joined-AreSplit d h.0 (q ∷ ps) h.2) ∙ sym h.1.whole

pub texts-push : (ps : List (List ℕ)) (p : List ℕ) → texts (ps ++ p ∷ []) ≡ node_last (texts ps) (words p)
texts-push [] p = refl
texts-push (q ∷ ps) p = ap (node (words q)) (texts-push ps p)

-- more pieces take no less room
pub length-texts-append : (ps qs : List (List ℕ)) → length (nodes_text true (texts ps)) ≤ length (nodes_text true (texts (ps ++ qs)))
length-texts-append [] [] = omega arith
length-texts-append [] (q ∷ qs) = omega (arith, length-append (compact (words q)) (nodes_text true (texts qs)))
length-texts-append (p ∷ ps) qs = omega (arith, length-texts-append ps qs, length-append (compact (words p)) (nodes_text true (texts ps)), length-append (compact (words p)) (nodes_text true (texts (ps ++ qs))))
