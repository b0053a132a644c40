-- The facts that a reader finds of what an item needs: `facts_found`, `facts_some`; and how it looks for them.
use Rattle.std.proofs.Common.{◌≡◌, ℕ, ◌+◌, ◌<◌, ◌≤◌, zero, suc, Bool, true, false, List, [], ◌∷◌, ◌++◌, Option, None, Some}
use Rattle.std.proofs.Common.{refl, sym, ap, ◌∙◌, subst, arith, append_assoc, drop, get_or, length}
use Rattle.std.specs.Prelude.{Contains, bytes_eq, if◌then◌else◌, option_map, slice_index_or}
use Rattle.std.proofs.lemmas.List.{append-nil, drop_all}
use Rattle.std.proofs.lemmas.Slice.Eq.{bytes_eq-Decides}
use Rattle.heat_plan.specs.declared.facts.Facts.{Facts}
use Rattle.heat_plan.specs.declared.facts.KnownFacts.{KnownFacts}
use Rattle.provider.specs.Table.{Living, TokenState}
use Rattle.headline_reader.specs.declared.possible.Possible.{Possible}
use Rattle.headline_reader.specs.Items.{facts_named, facts_or, facts_under, known_before, known_of, ready_facts, sole}
use Rattle.headline_reader.proofs.Lists.{left_at}

-- the resource whose facts they are
pub record HasFacts (states : List TokenState) (facts : Facts) : Type 0 where
  pub it : Living
  pub alone : states ≡ Some it ∷ []
  pub its : it.facts ≡ Some facts

-- one of them has the facts under this name
pub record Tells (ps : List Possible) (need : List ℕ) (facts : Facts) : Type 0 where
  pub p : Possible
  pub among : Contains ps p
  pub named : p.token.name ≡ need
  pub has : HasFacts p.states facts

has_facts : (states : List TokenState) (facts : Facts) → ready_facts states ≡ Some facts → HasFacts states facts
has_facts [] facts is = cc
has_facts (None ∷ []) facts is = cc
has_facts (Some it ∷ []) facts is = record { it = it; alone = refl; its = is }
has_facts (s ∷ t ∷ rest) facts is = cc

are_ready : (states : List TokenState) (facts : Facts) → HasFacts states facts → ready_facts states ≡ Some facts
are_ready states facts has = rw has.alone has.its

named_facts : (need : List ℕ) (p : Possible) (facts : Facts) → facts_named need p ≡ Some facts
    → (p.token.name ≡ need) × HasFacts p.states facts
named_facts need p facts is = by (bytes_eq p.token.name need) refl is where
  by : (b : Bool) → bytes_eq p.token.name need ≡ b → (if b then ready_facts p.states else None) ≡ Some facts
      → (p.token.name ≡ need) × HasFacts p.states facts
  by true named it = ((bytes_eq-Decides p.token.name need).0 named, has_facts p.states facts it)
  by false named it = cc

facts_are : (need : List ℕ) (p : Possible) (facts : Facts) → p.token.name ≡ need → HasFacts p.states facts
    → facts_named need p ≡ Some facts
facts_are need p facts named has =
    let same : bytes_eq p.token.name need ≡ true = (bytes_eq-Decides p.token.name need).1 named in
    rw same (are_ready p.states facts has)

-- the facts that are found are those of one that is certainly there
pub facts_found : (ps : List Possible) (need : List ℕ) (facts : Facts) → facts_under ps need ≡ Some facts
    → Tells ps need facts
unfolding facts_under
facts_found [] need facts is = cc
facts_found (p ∷ ps) need facts is =
    by (λ (it : facts_under ps need ≡ Some facts). facts_found ps need facts it) (facts_named need p) refl is where
      by : (facts_under ps need ≡ Some facts → Tells ps need facts) → (o : Option Facts) → facts_named need p ≡ o
          → facts_or o (facts_under ps need) ≡ Some facts → Tells (p ∷ ps) need facts
      by behind (Some f) named it =
          let (name, has) = named_facts need p f named in
          let same : f ≡ facts = cc in
          record { p = p; among = (0, omega arith, refl); named = name; has = subst (HasFacts p.states) same has }
      by behind None named it =
          let t = behind it in
          record {
            p = t.p;
            among = (suc t.among.0, omega (arith, t.among.1), t.among.2);
            named = t.named;
            has = t.has;
          }

-- where one is certainly there, facts are found
pub facts_some : (ps : List Possible) (need : List ℕ) (facts : Facts) → Tells ps need facts
    → (found : Facts) × (facts_under ps need ≡ Some found)
unfolding facts_under
facts_some [] need facts t = absurd (omega (arith, t.among.1))
facts_some (q ∷ ps) need facts t =
    by (λ (u : Tells ps need facts). facts_some ps need facts u) (facts_named need q) refl where
      later : (Tells ps need facts → (found : Facts) × (facts_under ps need ≡ Some found))
          → (k : ℕ) → k < suc (length ps) → slice_index_or (q ∷ ps) k t.p ≡ t.p → facts_named need q ≡ None
          → (found : Facts) × (facts_under ps need ≡ Some found)
      later behind zero lt here none =
          let same : q ≡ t.p = here in
          let first : facts_named need q ≡ Some facts =
          subst (λ (x : Possible). facts_named need x ≡ Some facts) (sym same) (facts_are need t.p facts t.named t.has) in cc
      later behind (suc k) lt here none =
          behind (record {
            p = t.p;
            among = (k, omega (arith, lt), here);
            named = t.named;
            has = t.has;
          })

      by : (Tells ps need facts → (found : Facts) × (facts_under ps need ≡ Some found))
          → (o : Option Facts) → facts_named need q ≡ o
          → (found : Facts) × (facts_or o (facts_under ps need) ≡ Some found)
      by behind (Some f) named = (f, refl)
      by behind None named = later behind t.among.0 t.among.1 t.among.2 named

-- ---- the search for one name

under_cons : (p : Possible) (ps : List Possible) (need : List ℕ)
    → facts_under (p ∷ ps) need ≡ facts_or (facts_named need p) (facts_under ps need)
unfolding facts_under
under_cons p ps need = refl

module _ (ps : List Possible) (need : List ℕ) (i : ℕ) where
  under_at : (p : Possible) → i < length ps → p ≡ get_or ps i p
      → facts_under (drop i ps) need ≡ facts_or (facts_named need p) (facts_under (drop (i + 1) ps) need)
  under_at p lt is =
      ap (λ (xs : List Possible). facts_under xs need) (left_at ps i p lt is) ∙ under_cons p (drop (i + 1) ps) need

  pub under_more : (p : Possible) → i < length ps → p ≡ get_or ps i p → facts_named need p ≡ None
      → facts_under ps need ≡ facts_under (drop i ps) need → facts_under ps need ≡ facts_under (drop (i + 1) ps) need
  under_more p lt is none left =
      left ∙ (under_at p lt is ∙ ap (λ (o : Option Facts). facts_or o (facts_under (drop (i + 1) ps) need)) none)

  pub under_here : (p : Possible) (facts : Facts) → i < length ps → p ≡ get_or ps i p
      → facts_named need p ≡ Some facts → facts_under ps need ≡ facts_under (drop i ps) need
      → facts_under ps need ≡ Some facts
  under_here p facts lt is some left =
      left ∙ (under_at p lt is ∙ ap (λ (o : Option Facts). facts_or o (facts_under (drop (i + 1) ps) need)) some)

  pub under_none : length ps ≤ i → facts_under ps need ≡ facts_under (drop i ps) need → facts_under ps need ≡ None
  unfolding facts_under
  under_none end left = left ∙ ap (λ (xs : List Possible). facts_under xs need) (drop_all i ps end)

-- ---- the search for all names

shifted : (before : List KnownFacts) (it : KnownFacts) (r : Option (List KnownFacts))
    → option_map (λ (ks : List KnownFacts). before ++ ks) (option_map (λ (ks : List KnownFacts). it ∷ ks) r)
    ≡ option_map (λ (ks : List KnownFacts). (before ++ it ∷ []) ++ ks) r
shifted before it None = refl
shifted before it (Some ks) = ap Some (sym (append_assoc before (it ∷ []) ks))

known_cons : (ps : List Possible) (need : List ℕ) (needs : List (List ℕ))
    → known_of ps (need ∷ needs) ≡ known_before need (facts_under ps need) (known_of ps needs)
unfolding known_of
known_cons ps need needs = refl

module _ (ps : List Possible) (needs : List (List ℕ)) (i : ℕ) where
  -- the facts so far, and then those of the names that are left
  abbrev pub AreSoFar : List KnownFacts → Type 0
  AreSoFar before = known_of ps needs ≡ option_map (λ (ks : List KnownFacts). before ++ ks) (known_of ps (drop i needs))

  known_at : (need : List ℕ) (found : Option Facts) → i < length needs → need ≡ get_or needs i need
      → facts_under ps need ≡ found → known_of ps (drop i needs) ≡ known_before need found (known_of ps (drop (i + 1) needs))
  known_at need found lt is told =
      ap (known_of ps) (left_at needs i need lt is)
      ∙ (known_cons ps need (drop (i + 1) needs)
      ∙ ap (λ (o : Option Facts). known_before need o (known_of ps (drop (i + 1) needs))) told)

  pub known_more : (need : List ℕ) (facts : Facts) (before : List KnownFacts) → i < length needs
      → need ≡ get_or needs i need → facts_under ps need ≡ Some facts → AreSoFar before
      → known_of ps needs
      ≡ option_map (λ (ks : List KnownFacts). (before ++ record { name = need; facts = facts } ∷ []) ++ ks)
      (known_of ps (drop (i + 1) needs))
  known_more need facts before lt is found so_far =
      so_far
      ∙ (ap (option_map (λ (ks : List KnownFacts). before ++ ks)) (known_at need (Some facts) lt is found)
      ∙ shifted before (record { name = need; facts = facts }) (known_of ps (drop (i + 1) needs)))

  pub known_none : (need : List ℕ) (before : List KnownFacts) → i < length needs → need ≡ get_or needs i need
      → facts_under ps need ≡ None → AreSoFar before → known_of ps needs ≡ None
  known_none need before lt is none so_far =
      so_far ∙ ap (option_map (λ (ks : List KnownFacts). before ++ ks)) (known_at need None lt is none)

  pub known_all : (before : List KnownFacts) → length needs ≤ i → AreSoFar before → known_of ps needs ≡ Some before
  unfolding known_of
  known_all before end so_far =
      so_far
      ∙ (ap (λ (ns : List (List ℕ)). option_map (λ (ks : List KnownFacts). before ++ ks) (known_of ps ns))
      (drop_all i needs end)
      ∙ ap Some (append-nil before))
