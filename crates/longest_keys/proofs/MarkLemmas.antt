-- Marking the states of a text's places, and then the next shorter of each, marks the nodes whose texts stand in it.
use Rattle.std.proofs.Common.{◌≡◌, ◌≢◌, ◌<◌, ◌≤◌, ℕ, suc, pred, List, [], ◌∷◌, length, drop, set, Bool, true, false, ◌⊎◌, inl, inr, Some, ◌↔◌, refl, ap, sym, ◌∙◌, subst, arith}
use Rattle.std.specs.Bool.{MatchBool}
use Rattle.std.specs.List.{All, Any, slice_get}
use Rattle.std.proofs.lemmas.Bool.{cases_eq, cases_lt}
use Rattle.std.proofs.lemmas.Option.{slice_get_within, get_or_from_slice_get}
use Rattle.longest_keys.specs.Texts.{Begins, IsPart, Lacks, but_last}
use Rattle.longest_keys.specs.Tries.{Spells, IsTrie, AreEnds}
use Rattle.longest_keys.specs.Walks.{AreFails, AreStates}
use Rattle.longest_keys.specs.Marks.{AreOfParts, IsBegun, HaveParts}
use Rattle.longest_keys.specs.declared.trie.Node.{Node}
use Rattle.longest_keys.proofs.Lists.{one_at, got_set, set_here, set_else, got_at, all_got, got_all}
use Rattle.longest_keys.proofs.Beginnings.{begins_through, begins_all, begins_shorter, begins-but_last, begins_but_last, IsPart-begins, IsPart-at, part_at}
use Rattle.longest_keys.proofs.TrieLemmas.{one_text, one_node}
use Rattle.longest_keys.proofs.FinderLemmas.{key_spelled}

set_marks : (marks : List Bool) (f i : ℕ) → slice_get marks i ≡ Some true → slice_get (set marks f true) i ≡ Some true
set_marks marks f i at = go (cases_eq i f)
  where
    go : (i ≡ f) ⊎ (i ≡ f → ⊥) → slice_get (set marks f true) i ≡ Some true
    go (inl e) =
        ap (λ (x : ℕ). slice_get (set marks f true) x) e ∙ set_here marks f true (subst (λ (x : ℕ). x < length marks) e (slice_get_within marks i true at))
    go (inr other) = set_else marks f true i true other at

-- ---- the states of the places

-- just the states of the places before n are marked
abbrev pub AreMarked : List ℕ → List Bool → ℕ → Type 0
AreMarked states marks n = (i : ℕ) → (slice_get marks i ≡ Some true) ↔ ((p : ℕ) × (p < n) × (slice_get states p ≡ Some i))

pub none_marked : (states : List ℕ) (marks : List Bool) → All (λ m. m ≡ false) marks → AreMarked states marks 0
none_marked states marks none i = (λ at. (let no_mark : true ≡ false = all_got (λ m. m ≡ false) marks i true none at in cc), λ h. absurd (omega (arith, h.1)))

pub one_marked : (states : List ℕ) (marks : List Bool) (n k q : ℕ) → k ≡ suc n → q < length marks → slice_get states n ≡ Some q → AreMarked states marks n → AreMarked states (set marks q true) k
one_marked states marks n k q is within here h i = subst (λ (x : ℕ). (slice_get (set marks q true) i ≡ Some true) ↔ ((p : ℕ) × (p < x) × (slice_get states p ≡ Some i))) (sym is) (there, back)
  where
    there : slice_get (set marks q true) i ≡ Some true → (p : ℕ) × (p < suc n) × (slice_get states p ≡ Some i)
    there at = go (got_set marks q true i true at)
      where
        go : ((i ≡ q) × (true ≡ true)) ⊎ ((i ≢ q) × (slice_get marks i ≡ Some true)) → (p : ℕ) × (p < suc n) × (slice_get states p ≡ Some i)
        go (inl (e, same)) = (n, omega arith, here ∙ ap Some (sym e))
        go (inr (other, was)) = let before = (h i).0 was in (before.0, omega (arith, before.1), before.2)

    back : (p : ℕ) × (p < suc n) × (slice_get states p ≡ Some i) → slice_get (set marks q true) i ≡ Some true
    back (p, l, at) = go (cases_lt p n)
      where
        go : (p < n) ⊎ (n ≤ p) → slice_get (set marks q true) i ≡ Some true
        go (inl less) = set_marks marks q i ((h i).1 (p, less, at))
        go (inr more) =
            let last : p ≡ n = omega (arith, l, more) in
            let same : i ≡ q = one_at states n i q (ap (slice_get states) (sym last) ∙ at) here in
            ap (λ (x : ℕ). slice_get (set marks q true) x) same ∙ set_here marks q true within

pub all_marked : (states : List ℕ) (marks : List Bool) (n : ℕ) → length states ≤ n → AreMarked states marks n → (i : ℕ) → (slice_get marks i ≡ Some true) ↔ ((p : ℕ) × (slice_get states p ≡ Some i))
all_marked states marks n most h i =
    (λ at. (let here = (h i).0 at in (here.0, here.2)), λ here. (h i).1 (here.0, omega (arith, most, slice_get_within states here.0 i here.1), here.1))

module _ (nodes : List Node) (text states : List ℕ) (marks : List Bool) (trie : IsTrie nodes) (told : AreStates nodes text states)
    (marked : (i : ℕ) → (slice_get marks i ≡ Some true) ↔ ((p : ℕ) × (slice_get states p ≡ Some i))) where
  pub states_of_parts : AreOfParts nodes text marks
  states_of_parts i t at h =
      let place = (marked i).0 at in
      let deep = told.each place.0 i place.1 in
      let same : deep.text ≡ t = one_text nodes i deep.text t deep.spelled h in
      IsPart-at t text place.0 (subst (λ (x : List ℕ). Begins x (drop place.0 text)) same deep.stands)

  pub states_have_parts : (n : ℕ) → length marks ≤ n → HaveParts nodes text marks n
  states_have_parts n most j t h some part =
      let place = part_at t text (longer t some) part in
      let state = got_at states place.0 (omega (arith, told.size, place.1)) in
      let deep = told.each place.0 state.0 state.1 in
      let at = (marked state.0).1 (place.0, state.1) in
      record {
        place = state.0;
        text = deep.text;
        marked = at;
        spelled = deep.spelled;
        begun = begins_shorter t deep.text (drop place.0 text) place.2 deep.stands (deep.longest j t h place.2);
        before = inl (omega (arith, most, slice_get_within marks state.0 true at));
      }
    where
      longer : (t : List ℕ) → t ≢ [] → 0 < length t
      longer [] some = absurd (some refl)
      longer (x ∷ t) some = omega arith

-- ---- the next shorter of a marked one

module _ (nodes : List Node) (fails text : List ℕ) (marks : List Bool) (n f : ℕ) (trie : IsTrie nodes) (are : AreFails nodes fails) (there : slice_get fails n ≡ Some f) where
  pub fail_of_parts : slice_get marks n ≡ Some true → ((s : List ℕ) × Spells nodes n s) → AreOfParts nodes text marks → AreOfParts nodes text (set marks f true)
  fail_of_parts at own old i t mark h = go (got_set marks f true i true mark)
    where
      go : ((i ≡ f) × (true ≡ true)) ⊎ ((i ≢ f) × (slice_get marks i ≡ Some true)) → IsPart t text
      go (inr (other, was)) = old i t was h
      go (inl (here, same)) =
          let deep = are.longest n f own.0 there own.1 in
          let is : deep.text ≡ t = one_text nodes f deep.text t deep.spelled (subst (λ (x : ℕ). Spells nodes x t) here h) in
          let front : Begins t own.0 = begins_through t (but_last own.0) own.0 (subst (λ (x : List ℕ). Begins x (but_last own.0)) is deep.stands) (begins-but_last own.0) in
          IsPart-begins t own.0 text front (old n own.0 at own.1)

  pub fail_has_parts : f < length marks → HaveParts nodes text marks (suc n) → HaveParts nodes text (set marks f true) n
  fail_has_parts within old j t h some part = go (cases_eq (old j t h some part).place n) (cases_eq (old j t h some part).place j)
    where
      was : IsBegun nodes marks (suc n) j t
      was = old j t h some part

      keep : ((was.place < n) ⊎ (was.place ≡ j)) → IsBegun nodes (set marks f true) n j t
      keep before = record { place = was.place; text = was.text; marked = set_marks marks f was.place was.marked; spelled = was.spelled; begun = was.begun; before = before }

      earlier : (was.place < suc n) ⊎ (was.place ≡ j) → (was.place ≡ n → ⊥) → (was.place < n) ⊎ (was.place ≡ j)
      earlier (inl l) other = inl (omega (arith, l, other))
      earlier (inr e) other = inr e

      shorter : was.place ≡ n → (was.place ≡ j → ⊥) → IsBegun nodes (set marks f true) n j t
      shorter here other =
          let spelled : Spells nodes n was.text = subst (λ (x : ℕ). Spells nodes x was.text) here was.spelled in
          let deep = are.longest n f was.text there spelled in
          let less : length t < length was.text = shorter_text (cases_lt (length t) (length was.text)) in
          let front = begins_but_last t was.text was.begun less in
          let bound = are.earlier n f there in
          record {
            place = f;
            text = deep.text;
            marked = set_here marks f true within;
            spelled = deep.spelled;
            begun = begins_shorter t deep.text (but_last was.text) front deep.stands (deep.longest j t h front);
            before = inl (below (cases_eq n 0) bound spelled less);
          }
        where
          shorter_text : (length t < length was.text) ⊎ (length was.text ≤ length t) → length t < length was.text
          shorter_text (inl l) = l
          shorter_text (inr l) =
              let same : t ≡ was.text = begins_all t was.text was.begun l in
              absurd (other (one_node nodes was.place j t trie (subst (Spells nodes was.place) (sym same) was.spelled) h))

          below : (n ≡ 0) ⊎ (n ≡ 0 → ⊥) → f ≤ pred n → Spells nodes n was.text → length t < length was.text → f < n
          below (inr more) bound spelled less = omega (arith, bound, more)
          below (inl root) bound spelled less =
              let empty : was.text ≡ [] = one_text nodes n was.text [] spelled root in
              absurd (omega (arith, less, ap length empty))

      go : (was.place ≡ n) ⊎ (was.place ≡ n → ⊥) → (was.place ≡ j) ⊎ (was.place ≡ j → ⊥) → IsBegun nodes (set marks f true) n j t
      go e (inl own) = keep (inr own)
      go (inl here) (inr other) = shorter here other
      go (inr apart) (inr other) = keep (earlier was.before apart)

-- what isn't marked leads to none
pub no_mark_has_parts : (nodes : List Node) (text : List ℕ) (marks : List Bool) (n : ℕ) → slice_get marks n ≡ Some false → HaveParts nodes text marks (suc n) → HaveParts nodes text marks n
no_mark_has_parts nodes text marks n none old j t h some part =
    let was = old j t h some part in
    record { place = was.place; text = was.text; marked = was.marked; spelled = was.spelled; begun = was.begun; before = go was.place was.marked was.before }
  where
    go : (p : ℕ) → slice_get marks p ≡ Some true → (p < suc n) ⊎ (p ≡ j) → (p < n) ⊎ (p ≡ j)
    go p at (inr e) = inr e
    go p at (inl l) = by (cases_eq p n)
      where
        by : (p ≡ n) ⊎ (p ≡ n → ⊥) → (p < n) ⊎ (p ≡ j)
        by (inl e) = let both : true ≡ false = one_at marks n true false (ap (slice_get marks) (sym e) ∙ at) none in cc
        by (inr other) = inl (omega (arith, l, other))

-- ---- keys without a mark

pub keys_told : (keys : List (List ℕ)) (nodes : List Node) (ends text : List ℕ) (marks : List Bool) (b : Bool) → IsTrie nodes → AreEnds keys nodes ends → All (λ k. k ≢ []) keys
    → AreOfParts nodes text marks → HaveParts nodes text marks 0 → MatchBool b (Any (λ e. slice_get marks e ≡ Some false) ends) (All (λ e. slice_get marks e ≡ Some true) ends)
    → MatchBool b (Any (λ k. Lacks k text) keys) (All (λ k. IsPart k text) keys)
keys_told keys nodes ends text marks false trie are some only all told = got_all (λ k. IsPart k text) keys part
  where
    part : (i : ℕ) (k : List ℕ) → slice_get keys i ≡ Some k → IsPart k text
    part i k there =
        let end = key_spelled keys nodes ends i k are there in
        only end.0 k (all_got (λ e. slice_get marks e ≡ Some true) ends i end.0 told end.1) end.2
keys_told keys nodes ends text marks true trie are some only all (i, e, l, at, none) =
    let end = got_at ends i l in
    let same : end.0 ≡ e = sym (get_or_from_slice_get ends i end.0 e end.1) ∙ at in
    let key = got_at keys i (omega (arith, are.size, l)) in
    let spelled : Spells nodes e key.0 = subst (λ (x : ℕ). Spells nodes x key.0) same (are.each i end.0 key.0 end.1 key.1) in (
      i,
      key.0,
      slice_get_within keys i key.0 key.1,
      get_or_from_slice_get keys i key.0 key.0 key.1,
      λ before after whole. (
          let begun = all e key.0 spelled (all_got (λ k. k ≢ []) keys i key.0 some key.1) (before, after, whole) in
          marked begun.place begun.marked begun.before
          ),
    )
  where
    marked : (p : ℕ) → slice_get marks p ≡ Some true → (p < 0) ⊎ (p ≡ e) → ⊥
    marked p mark (inl l) = omega (arith, l)
    marked p mark (inr here) =
        let both : true ≡ false = one_at marks e true false (ap (slice_get marks) (sym here) ∙ mark) none in cc
