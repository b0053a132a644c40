-- From choice to choice: what stands behind the choice at some places.
use Rattle.std.proofs.Common.{◌≡◌, ◌∙◌, ◌<◌, ◌≤◌, ◌+◌, ℕ, zero, suc, List, [], ◌∷◌, ◌++◌}
use Rattle.std.proofs.Common.{length, get_or, take, drop, refl, ap, sym, subst, arith}
use Rattle.std.proofs.lemmas.List.{drop_all, drop-set, take-set, length-set, take-take, get_or-take}
use Rattle.std.proofs.Math.ListN.{set}
use Rattle.std.specs.Prelude.{⊤, unwrap_or}
use Rattle.hot_eval.proofs.Places.{rest_at}
use Rattle.heat_value.specs.Data.{Data, null, Nodes, no_nodes, node}
use Rattle.eval_words.specs.Choices.{Lists, Choice, choices, each_with}
use Rattle.eval_words.specs.Lookups.{node_at}
use Rattle.hot_eval.specs.Repeats.{count_of, ArePlaces, choice_at, each_from, choices_from}

-- ---- the first choice

abbrev pub AreZeros : Lists → List ℕ → Type 0
AreZeros [] [] = ⊤
AreZeros [] (p ∷ ps) = ⊥
AreZeros (l ∷ ls) [] = ⊥
AreZeros (l ∷ ls) (p ∷ ps) = (0 < count_of l.1) × (p ≡ 0) × AreZeros ls ps

pub zeros_push : (ls : Lists) (ps : List ℕ) (l : List ℕ × Nodes) → 0 < count_of l.1 → AreZeros ls ps
    → AreZeros (ls ++ l ∷ []) (ps ++ 0 ∷ [])
zeros_push [] [] l some h = (some, refl, tt)
zeros_push [] (p ∷ ps) l some h = absurd h
zeros_push (m ∷ ls) [] l some h = absurd h
zeros_push (m ∷ ls) (p ∷ ps) l some h = (h.0, h.1, zeros_push ls ps l some h.2)

pub each_from-zero : (k : List ℕ) (ns : Nodes) (all : List Choice) → 0 < count_of ns
    → each_from k ns 0 all all ≡ each_with k ns all
each_from-zero k no_nodes all some = absurd (omega arith)
each_from-zero k (node d ns) all some = refl

pub zeros_first : (ls : Lists) (ps : List ℕ) → AreZeros ls ps → choices_from ls ps ≡ choices ls
zeros_first [] [] h = refl
zeros_first [] (p ∷ ps) h = absurd h
zeros_first (l ∷ ls) [] h = absurd h
zeros_first (l ∷ ls) (p ∷ ps) h =
    ap (λ q. each_from l.0 l.1 q (choices_from ls ps) (choices ls)) h.1
    ∙ (ap (λ cs. each_from l.0 l.1 0 cs (choices ls)) (zeros_first ls ps h.2) ∙ each_from-zero l.0 l.1 (choices ls) h.0)

pub zeros_are : (ls : Lists) (ps : List ℕ) → AreZeros ls ps → ArePlaces ls ps
zeros_are [] [] h = tt
zeros_are [] (p ∷ ps) h = absurd h
zeros_are (l ∷ ls) [] h = absurd h
zeros_are (l ∷ ls) (p ∷ ps) h = (omega (arith, h.0, h.1), zeros_are ls ps h.2)

each_with-none : (k : List ℕ) (ns : Nodes) → each_with k ns [] ≡ []
each_with-none k no_nodes = refl
each_with-none k (node d ns) = each_with-none k ns

-- where a list is empty there is no choice
pub no_choice : (ls : Lists) (n : ℕ) (d : List ℕ × Nodes) → n < length ls → (get_or ls n d).1 ≡ no_nodes → choices ls ≡ []
no_choice [] n d below e = absurd (omega (arith, below))
no_choice (l ∷ ls) zero d below e = ap (λ ns. each_with l.0 ns (choices ls)) e
no_choice (l ∷ ls) (suc n) d below e =
    ap (each_with l.0 l.1) (no_choice ls n d (omega (arith, below)) e) ∙ each_with-none l.0 l.1

-- ---- one item

-- the item at a place of a list
abbrev item : Nodes → ℕ → Data
item ns p = unwrap_or (node_at ns p) null

pub each_from-here : (k : List ℕ) (ns : Nodes) (p : ℕ) (c : Choice) (cs all : List Choice) → p < count_of ns
    → each_from k ns p (c ∷ cs) all ≡ ((k, item ns p) ∷ c) ∷ each_from k ns p cs all
each_from-here k no_nodes p c cs all below = absurd (omega arith)
each_from-here k (node d ns) zero c cs all below = refl
each_from-here k (node d ns) (suc p) c cs all below = each_from-here k ns p c cs all (omega arith)

pub each_from-last : (k : List ℕ) (ns : Nodes) (p : ℕ) (c : Choice) (all : List Choice) → suc p ≡ count_of ns
    → each_from k ns p (c ∷ []) all ≡ ((k, item ns p) ∷ c) ∷ []
each_from-last k no_nodes p c all last = absurd (omega arith)
each_from-last k (node d no_nodes) zero c all last = refl
each_from-last k (node d (node e ns)) zero c all last = absurd (omega arith)
each_from-last k (node d ns) (suc p) c all last = each_from-last k ns p c all (omega arith)

pub each_from-next : (k : List ℕ) (ns : Nodes) (p : ℕ) (c : Choice) (all : List Choice) → suc p < count_of ns
    → each_from k ns p (c ∷ []) all ≡ ((k, item ns p) ∷ c) ∷ each_from k ns (suc p) all all
each_from-next k no_nodes p c all below = absurd (omega arith)
each_from-next k (node d no_nodes) zero c all below = absurd (omega arith)
each_from-next k (node d (node e ns)) zero c all below = refl
each_from-next k (node d ns) (suc p) c all below = each_from-next k ns p c all (omega arith)

-- ---- the lists in front

abbrev pub Goes : Lists → List ℕ → List ℕ → Type 0
Goes ls ps qs = choices_from ls ps ≡ choice_at ls ps ∷ choices_from ls qs

pub goes_front : (n : ℕ) (ls : Lists) (ps qs : List ℕ) → ArePlaces ls ps → n ≤ length ls → n ≤ length qs
    → take n ps ≡ take n qs → Goes (drop n ls) (drop n ps) (drop n qs) → Goes ls ps qs
goes_front zero ls ps qs h below under same goes = goes
goes_front (suc n) [] ps qs h below under same goes = absurd (omega (arith, below))
goes_front (suc n) (l ∷ ls) [] qs h below under same goes = absurd h
goes_front (suc n) (l ∷ ls) (p ∷ ps) [] h below under same goes = absurd (omega (arith, under))
goes_front (suc n) (l ∷ ls) (p ∷ ps) (q ∷ qs) h below under same goes =
    let here : p ≡ q = cc in
    let rest : take n ps ≡ take n qs = cc in
    let more = goes_front n ls ps qs h.1 (omega (arith, below)) (omega (arith, under)) rest goes in
    ap (λ cs. each_from l.0 l.1 p cs (choices ls)) more
    ∙ (each_from-here l.0 l.1 p (choice_at ls ps) (choices_from ls qs) (choices ls) h.0
    ∙ ap (λ x. choice_at (l ∷ ls) (p ∷ ps) ∷ each_from l.0 l.1 x (choices_from ls qs) (choices ls)) here)

pub places_length : (ls : Lists) (ps : List ℕ) → ArePlaces ls ps → length ps ≡ length ls
places_length [] [] h = refl
places_length [] (p ∷ ps) h = absurd h
places_length (l ∷ ls) [] h = absurd h
places_length (l ∷ ls) (p ∷ ps) h = ap suc (places_length ls ps h.1)

-- each place is one of its list
pub place_within : (ls : Lists) (ps : List ℕ) (n : ℕ) (d : List ℕ × Nodes) (e : ℕ) → ArePlaces ls ps → n < length ls
    → get_or ps n e < count_of (get_or ls n d).1
place_within [] ps n d e h below = absurd (omega (arith, below))
place_within (l ∷ ls) [] n d e h below = absurd h
place_within (l ∷ ls) (p ∷ ps) zero d e h below = h.0
place_within (l ∷ ls) (p ∷ ps) (suc n) d e h below = place_within ls ps n d e h.1 (omega (arith, below))

pub places_set : (ls : Lists) (ps : List ℕ) (n q : ℕ) (d : List ℕ × Nodes) → ArePlaces ls ps → n < length ls
    → q < count_of (get_or ls n d).1 → ArePlaces ls (set ps n q)
places_set [] ps n q d h below within = absurd (omega (arith, below))
places_set (l ∷ ls) [] n q d h below within = absurd h
places_set (l ∷ ls) (p ∷ ps) zero q d h below within = (within, h.1)
places_set (l ∷ ls) (p ∷ ps) (suc n) q d h below within = (h.0, places_set ls ps n q d h.1 (omega (arith, below)) within)

-- ---- the loop from the last place to the first

-- two lists with one front have shorter ones too
take_front : (n : ℕ) (xs ys : List ℕ) → take (n + 1) xs ≡ take (n + 1) ys → take n xs ≡ take n ys
take_front n xs ys e =
    sym (take-take n (n + 1) xs (omega arith)) ∙ (ap (take n) e ∙ take-take n (n + 1) ys (omega arith))

read_front : (n : ℕ) (xs ys : List ℕ) (d : ℕ) → take (n + 1) xs ≡ take (n + 1) ys → get_or xs n d ≡ get_or ys n d
read_front n xs ys d e =
    sym (get_or-take (n + 1) xs n d (omega arith)) ∙ (ap (λ zs. get_or zs n d) e ∙ get_or-take (n + 1) ys n d (omega arith))

-- from the place n on the choice is the last, and the places are the first again
pub record AreTurned (ls : Lists) (old now : List ℕ) (n : ℕ) : Type 0 where
  pub places : ArePlaces ls now
  pub within : n ≤ length ls
  pub front : take n old ≡ take n now
  pub first : choices_from (drop n ls) (drop n now) ≡ choices (drop n ls)
  pub last : choices_from (drop n ls) (drop n old) ≡ choice_at (drop n ls) (drop n old) ∷ []

pub turned_none : (ls : Lists) (ps : List ℕ) (n : ℕ) → ArePlaces ls ps → n ≡ length ls → AreTurned ls ps ps n
turned_none ls ps n h e =
    let none : drop n ls ≡ [] = drop_all n ls (omega (arith, e)) in record {
      places = h;
      within = omega (arith, e);
      front = refl;
      first = rw none refl;
      last = rw none refl;
    }

-- the next place goes on
pub turned_next : (ls : Lists) (old now : List ℕ) (n p : ℕ) (l : List ℕ × Nodes) → ArePlaces ls old
    → AreTurned ls old now (n + 1) → n < length ls → l ≡ get_or ls n l → p ≡ get_or now n p → p + 1 < count_of l.1
    → ArePlaces ls (set now n (p + 1)) × Goes ls old (set now n (p + 1))
turned_next ls old now n p l was h below at here within = (
  places_set ls now n (p + 1) l h.places below (subst (λ (m : List ℕ × Nodes). p + 1 < count_of m.1) at within),
  goes_front n ls old (set now n (p + 1)) was (omega (arith, below))
      (omega (arith, below, places_length ls now h.places, length-set now n (p + 1)))
      (take_front n old now h.front ∙ sym (take-set now n (p + 1)))
      (rw (rest_at ls n l l below at, old_at, new_at) goes),
)
  where
    lengths : n < length now
    lengths = omega (arith, below, places_length ls now h.places)

    same : get_or old n p ≡ p
    same = read_front n old now p h.front ∙ sym here

    old_at : drop n old ≡ p ∷ drop (n + 1) old
    old_at = rest_at old n p p (omega (arith, below, places_length ls old was)) (sym same)

    new_at : drop n (set now n (p + 1)) ≡ (p + 1) ∷ drop (n + 1) now
    new_at = drop-set now n (p + 1) lengths

    goes : Goes (l ∷ drop (n + 1) ls) (p ∷ drop (n + 1) old) ((p + 1) ∷ drop (n + 1) now)
    goes =
        ap (λ cs. each_from l.0 l.1 p cs (choices (drop (n + 1) ls))) h.last
        ∙ (each_from-next l.0 l.1 p (choice_at (drop (n + 1) ls) (drop (n + 1) old)) (choices (drop (n + 1) ls)) (omega (arith, within))
        ∙ (ap (λ q. choice_at (l ∷ drop (n + 1) ls) (p ∷ drop (n + 1) old) ∷ each_from l.0 l.1 q (choices (drop (n + 1) ls)) (choices (drop (n + 1) ls))) (omega arith)
        ∙ ap (λ cs. choice_at (l ∷ drop (n + 1) ls) (p ∷ drop (n + 1) old) ∷ each_from l.0 l.1 (p + 1) cs (choices (drop (n + 1) ls))) (sym h.first)))

-- the next place is the last, and becomes the first again
pub turned_back : (ls : Lists) (old now : List ℕ) (n p : ℕ) (l : List ℕ × Nodes) → ArePlaces ls old
    → AreTurned ls old now (n + 1) → n < length ls → l ≡ get_or ls n l → p ≡ get_or now n p → count_of l.1 ≤ p + 1
    → AreTurned ls old (set now n 0) n
turned_back ls old now n p l was h below at here above = record {
  places = places_set ls now n 0 l h.places below (subst (λ (m : List ℕ × Nodes). 0 < count_of m.1) at (omega (arith, placed)));
  within = omega (arith, below);
  front = take_front n old now h.front ∙ sym (take-set now n 0);
  first = rw (rest_at ls n l l below at, new_at) (ap (λ cs. each_from l.0 l.1 0 cs (choices (drop (n + 1) ls))) h.first
      ∙ each_from-zero l.0 l.1 (choices (drop (n + 1) ls)) (omega (arith, placed)));
  last = rw (rest_at ls n l l below at, old_at) (ap (λ cs. each_from l.0 l.1 p cs (choices (drop (n + 1) ls))) h.last
      ∙ each_from-last l.0 l.1 p (choice_at (drop (n + 1) ls) (drop (n + 1) old)) (choices (drop (n + 1) ls)) (omega (arith, placed, above)));
}
  where
    placed : p < count_of l.1
    placed =
        subst (λ (m : List ℕ × Nodes). p < count_of m.1) (sym at)
        (subst (λ (q : ℕ). q < count_of (get_or ls n l).1) (sym here) (place_within ls now n l p h.places below))

    same : get_or old n p ≡ p
    same = read_front n old now p h.front ∙ sym here

    old_at : drop n old ≡ p ∷ drop (n + 1) old
    old_at = rest_at old n p p (omega (arith, below, places_length ls old was)) (sym same)

    new_at : drop n (set now n 0) ≡ 0 ∷ drop (n + 1) now
    new_at = drop-set now n 0 (omega (arith, below, places_length ls now h.places))
