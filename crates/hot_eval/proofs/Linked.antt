-- Walking from choice to choice past the lists of one item, and a choice with one item set anew.
use Rattle.std.proofs.Common.{◌≡◌, ◌∙◌, ◌<◌, ◌≤◌, ◌+◌, ◌⊎◌, inl, inr, ℕ, zero, suc, List, [], ◌∷◌, ◌++◌, Bool, true, false}
use Rattle.std.proofs.Common.{length, get_or, set, refl, ap, sym, subst, arith, nat_le, if◌then◌else◌, ◌≢◌, ◌==◌, Decides}
use Rattle.std.proofs.lemmas.Bool.{cases_lt}
use Rattle.std.proofs.lemmas.Bool.Decides.{Decides-eqb}
use Rattle.std.proofs.lemmas.List.{get_or_append_left, get_or_push, length_push, set-get_or, length-set, length-map}
use Rattle.std.proofs.lemmas.List.{get_or-set_same, get_or-set_other, get_or_default}
use Rattle.std.specs.Prelude.{unwrap_or}
use denote.Ref.{Bor}
use Rattle.heat_value.specs.Coercion.{coerced}
use Rattle.heat_value.specs.Data.{Data, null, Nodes, no_nodes, node}
use Rattle.heat_value.specs.Meaning.{data_of}
use Rattle.heat_value.specs.declared.value.Value.{Value}
use Rattle.heat_plan.specs.Order.{Rising}
use Rattle.hot_strings.specs.Indexes.{keys_in, IsIndexOf}
use Rattle.hot_strings.specs.Pieces.{Params, AreDistinct, HasNoEmptyKey}
use Rattle.eval_words.specs.Choices.{Lists, Choice}
use Rattle.eval_words.specs.Fillings.{texts_for}
use Rattle.eval_words.specs.Lookups.{node_at}
use Rattle.hot_eval.specs.Repeats.{count_of, ArePlaces, AreKeys, AreLinks, IsChoice, IsChoiceAt, choice_at, choice_of, link, list_at}
use Rattle.hot_eval.specs.Repeats.{item_texts, stocks_for}
use Rattle.hot_eval.specs.Repeats.{with_items}
use Rattle.hot_eval.specs.declared.choices.Choice.{Choice as Picked}
use Rattle.hot_eval.proofs.Picks.{distinct_texts, rising_texts, full_texts}
use Rattle.hot_eval.proofs.Turns.{AreTurned, place_within, places_length, turned_back}

-- ---- links

pub record AreLinked (ls : Lists) (links : List ℕ) (at : ℕ) : Type 0 where
  pub within : at ≤ length ls
  pub size : length links ≡ suc at
  pub each : (n d : ℕ) → n ≤ at → get_or links n d ≡ link ls n

pub linked_none : (ls : Lists) (links : List ℕ) → links ≡ 0 ∷ [] → AreLinked ls links 0
linked_none ls links is =
    subst (λ x. AreLinked ls x 0) (sym is) (record { within = omega arith; size = refl; each = first })
  where
    first : (n d : ℕ) → n ≤ 0 → get_or (0 ∷ []) n d ≡ link ls n
    first zero d below = refl
    first (suc n) d below = absurd (omega (arith, below))

pub linked_next : (ls : Lists) (links pushed : List ℕ) (at x : ℕ) → AreLinked ls links at → pushed ≡ links ++ x ∷ []
    → at < length ls → x ≡ link ls (suc at) → AreLinked ls pushed (at + 1)
linked_next ls links pushed at x h push under is = subst (λ y. AreLinked ls y (at + 1)) (sym push) (record {
  within = omega (arith, under);
  size = omega (arith, length_push links x, h.size);
  each = λ n d below. by n d (cases_lt n (length links)) below;
})
  where
    by : (n d : ℕ) → (n < length links) ⊎ (length links ≤ n) → n ≤ at + 1 → get_or (links ++ x ∷ []) n d ≡ link ls n
    by n d (inl less) below = get_or_append_left links (x ∷ []) d n less ∙ h.each n d (omega (arith, less, h.size))
    by n d (inr last) below =
        let here : n ≡ suc at = omega (arith, last, below, h.size) in
        get_or_push links x d n (omega (arith, here, h.size)) ∙ is ∙ ap (link ls) (sym here)

pub linked_all : (ls : Lists) (links : List ℕ) (at : ℕ) → length ls ≤ at → AreLinked ls links at → AreLinks ls links
linked_all ls links at all h = record {
  size = omega (arith, h.size, h.within, all);
  each = λ n d below. h.each n d (omega (arith, below, all));
}

-- a link goes back
pub link_below : (ls : Lists) (n : ℕ) → link ls n ≤ n
link_below ls zero = omega arith
link_below ls (suc n) = by (nat_le 2 (count_of (list_at ls n))) (link_below ls n)
  where
    by : (b : Bool) → link ls n ≤ n → (if b then suc n else link ls n) ≤ suc n
    by true h = omega arith
    by false h = omega (arith, h)

-- a place of a list of one item is the first
one_place : (ls : Lists) (ps : List ℕ) (n : ℕ) → ArePlaces ls ps → n < length ls → count_of (list_at ls n) ≤ 1
    → get_or ps n 0 ≡ 0
one_place ls ps n h below few = omega (arith, place_within ls ps n ([], no_nodes) 0 h below, few)

-- the lists down to the link are turned too
pub turned_down : (ls : Lists) (old now : List ℕ) (n : ℕ) → ArePlaces ls old → AreTurned ls old now n
    → AreTurned ls old now (link ls n)
turned_down ls old now zero was h = h
turned_down ls old now (suc n) was h = by (nat_le 2 (count_of (list_at ls n))) refl (turned_down ls old now n was)
  where
    below : n < length ls
    below = omega (arith, h.within)

    further : AreTurned ls old now (n + 1)
    further = subst (AreTurned ls old now) (omega arith) h

    by : (b : Bool) → nat_le 2 (count_of (list_at ls n)) ≡ b
        → (AreTurned ls old now n → AreTurned ls old now (link ls n))
        → AreTurned ls old now (if b then suc n else link ls n)
    by true many rest = h
    by false few rest =
        let one : count_of (list_at ls n) ≤ 1 = grind (arith, few) in
        let first : get_or now n 0 ≡ 0 = one_place ls now n h.places below one in
        let same : set now n 0 ≡ now =
        ap (set now n) (sym first) ∙ set-get_or now n 0 in
        rest (subst (λ x. AreTurned ls old x n) same
        (turned_back ls old now n 0 (get_or ls n ([], no_nodes)) was further below
        (get_or_default ls n ([], no_nodes) (get_or ls n ([], no_nodes)) below) (sym first) (omega (arith, one))))

-- ---- one item set anew

choice_set : (ls : Lists) (ps : List ℕ) (n q : ℕ) → ArePlaces ls ps → n < length ls
    → choice_at ls (set ps n q)
    ≡ set (choice_at ls ps) n ((get_or ls n ([], no_nodes)).0, unwrap_or (node_at (list_at ls n) q) null)
choice_set [] ps n q h below = absurd (omega (arith, below))
choice_set (l ∷ ls) [] n q h below = absurd h
choice_set (l ∷ ls) (p ∷ ps) zero q h below = refl
choice_set (l ∷ ls) (p ∷ ps) (suc n) q h below =
    ap (λ (c : Choice). (l.0, unwrap_or (node_at l.1 p) null) ∷ c) (choice_set ls ps n q h.1 (omega (arith, below)))

items_set : (ps : Params) (vs : List (Bor Value)) (n : ℕ) (k t : List ℕ) (v : Bor Value) → n < length ps → n < length vs
    → with_items (set ps n (k, t)) (set vs n v) ≡ set (with_items ps vs) n (k, data_of v.now)
items_set [] vs n k t v below within = absurd (omega (arith, below))
items_set (p ∷ ps) [] n k t v below within = absurd (omega (arith, within))
items_set (p ∷ ps) (w ∷ vs) zero k t v below within = refl
items_set (p ∷ ps) (w ∷ vs) (suc n) k t v below within =
    ap (λ (c : Choice). (p.0, data_of w.now) ∷ c) (items_set ps vs n k t v (omega (arith, below)) (omega (arith, within)))

texts_set : (c : Choice) (n : ℕ) (k : List ℕ) (d : Data) → texts_for (set c n (k, d)) ≡ set (texts_for c) n (k, coerced d)
texts_set [] n k d = refl
texts_set (p ∷ c) zero k d = refl
texts_set (p ∷ c) (suc n) k d = ap (λ (ps : Params). (p.0, coerced p.1) ∷ ps) (texts_set c n k d)

keys_set : (ps : Params) (n : ℕ) (d : List ℕ × List ℕ) (k t : List ℕ) → k ≡ (get_or ps n d).0 → n < length ps
    → keys_in (set ps n (k, t)) ≡ keys_in ps
keys_set [] n d k t is below = absurd (omega (arith, below))
keys_set (p ∷ ps) zero d k t is below = ap (λ x. x ∷ keys_in ps) is
keys_set (p ∷ ps) (suc n) d k t is below = ap (λ x. p.0 ∷ x) (keys_set ps n d k t is (omega (arith, below)))

key_at : (ls : Lists) (ps : List ℕ) (n : ℕ) (d : List ℕ × List ℕ) → ArePlaces ls ps → n < length ls
    → (get_or (texts_for (choice_at ls ps)) n d).0 ≡ (get_or ls n ([], no_nodes)).0
key_at [] ps n d h below = absurd (omega (arith, below))
key_at (l ∷ ls) [] n d h below = absurd h
key_at (l ∷ ls) (p ∷ ps) zero d h below = refl
key_at (l ∷ ls) (p ∷ ps) (suc n) d h below = key_at ls ps n d h.1 (omega (arith, below))

texts_length : (ls : Lists) (ps : List ℕ) → ArePlaces ls ps → length (texts_for (choice_at ls ps)) ≡ length ls
texts_length [] [] h = refl
texts_length [] (p ∷ ps) h = absurd h
texts_length (l ∷ ls) [] h = absurd h
texts_length (l ∷ ls) (p ∷ ps) h = ap suc (texts_length ls ps h.1)

-- how many keys a choice has
pub keys_there : (ls : Lists) (ps : List ℕ) (stocks : List (List (List ℕ))) (c : Picked) → ArePlaces ls ps
    → IsChoiceAt ls ps stocks c → length c.texts.items ≡ length ls
keys_there ls ps stocks c h is =
    ap length (is.kept.texts ∙ ap texts_for is.choice) ∙ texts_length ls ps h

items_longer : (ps : Params) (vs : List (Bor Value)) → length ps ≡ length (with_items ps vs) → length ps ≤ length vs
items_longer [] vs e = omega arith
items_longer (p ∷ ps) [] e = absurd (omega (arith, e))
items_longer (p ∷ ps) (v ∷ vs) e = omega (arith, items_longer ps vs (omega (arith, e)))

-- and how many items at least
pub items_there : (ls : Lists) (ps : List ℕ) (stocks : List (List (List ℕ))) (c : Picked) → ArePlaces ls ps
    → IsChoiceAt ls ps stocks c → length ls ≤ length c.items.items
items_there ls ps stocks c h is =
    omega (
      arith,
      keys_there ls ps stocks c h is,
      items_longer c.texts.items c.items.items (ap length is.kept.texts ∙ mapped (choice_of c)),
    )
  where
    mapped : (x : Choice) → length (texts_for x) ≡ length x
    mapped [] = refl
    mapped (p ∷ x) = ap suc (mapped x)

-- ---- the texts of items

length-texts : (ns : Nodes) → length (item_texts ns) ≡ count_of ns
length-texts no_nodes = refl
length-texts (node d ns) = ap suc (length-texts ns)

text_there : (ns : Nodes) (q : ℕ) (e : List ℕ) → q < count_of ns
    → get_or (item_texts ns) q e ≡ coerced (unwrap_or (node_at ns q) null)
text_there no_nodes q e below = absurd (omega (arith, below))
text_there (node d ns) zero e below = refl
text_there (node d ns) (suc q) e below = text_there ns q e (omega (arith, below))

stock_there : (ls : Lists) (n : ℕ) (d : List (List ℕ)) → n < length ls
    → get_or (stocks_for ls) n d ≡ item_texts (list_at ls n)
stock_there [] n d below = absurd (omega (arith, below))
stock_there (l ∷ ls) zero d below = refl
stock_there (l ∷ ls) (suc n) d below = stock_there ls n d (omega (arith, below))

-- as many as there are items
pub stock_length : (ls : Lists) (ps : List ℕ) (stocks : List (List (List ℕ))) (c : Picked) (n : ℕ) (d : List (List ℕ))
    → IsChoiceAt ls ps stocks c → n < length ls → length (get_or stocks n d) ≡ count_of (list_at ls n)
stock_length ls ps stocks c n d is below =
    sym (length-set (get_or stocks n d) (get_or ps n 0) (get_or c.texts.items n ([], [])).1)
    ∙ ap length (is.lent n d 0 ([], []) below) ∙ length-texts (list_at ls n)

-- the text of a choice's key
text_at : (ls : Lists) (ps : List ℕ) (n p : ℕ) (t : List ℕ × List ℕ) → ArePlaces ls ps → n < length ls
    → (get_or (texts_for (choice_at ls ps)) n t).1 ≡ coerced (unwrap_or (node_at (list_at ls n) (get_or ps n p)) null)
text_at [] ps n p t h below = absurd (omega (arith, below))
text_at (l ∷ ls) [] n p t h below = absurd h
text_at (l ∷ ls) (q ∷ ps) zero p t h below = refl
text_at (l ∷ ls) (q ∷ ps) (suc n) p t h below = text_at ls ps n p t h.1 (omega (arith, below))

-- where no text was lent yet, none is lacking
pub choice_first : (ls : Lists) (ps : List ℕ) (stocks : List (List (List ℕ))) (c : Picked) → ArePlaces ls ps
    → stocks ≡ stocks_for ls → choice_of c ≡ choice_at ls ps → IsChoice c → IsChoiceAt ls ps stocks c
choice_first ls ps stocks c h all whole kept = record {
  choice = whole;
  kept = kept;
  size = ap length all ∙ length-map {B = List (List ℕ)} ls (λ l. item_texts l.1);
  lent = λ n d p t below. (
      let stock : get_or stocks n d ≡ item_texts (list_at ls n) =
      ap (λ (x : List (List (List ℕ))). get_or x n d) all ∙ stock_there ls n d below in
      let within : get_or ps n p < count_of (list_at ls n) = place_within ls ps n ([], no_nodes) p h below in
      let text : (get_or c.texts.items n t).1 ≡ get_or (item_texts (list_at ls n)) (get_or ps n p) [] =
      ap (λ (x : Params). (get_or x n t).1) (kept.texts ∙ ap texts_for whole) ∙ text_at ls ps n p t h below
      ∙ sym (text_there (list_at ls n) (get_or ps n p) [] within) in
      ap (λ (x : List (List ℕ)). set x (get_or ps n p) (get_or c.texts.items n t).1) stock
      ∙ ap (set (item_texts (list_at ls n)) (get_or ps n p)) text
      ∙ set-get_or (item_texts (list_at ls n)) (get_or ps n p) []
      );
}

same_or_not : (m n : ℕ) → (m ≡ n) ⊎ (m ≢ n)
same_or_not m n = by (m == n) (Decides-eqb m n)
  where
    by : (b : Bool) → Decides b (m ≡ n) → (m ≡ n) ⊎ (m ≢ n)
    by true told = inl (told.0 refl)
    by false told = inr (λ e. (let no-other : false ≡ true = told.1 e in cc))

-- the choice with the item at another place of one list
module _ (ls : Lists) (ps : List ℕ) (stocks stocks' : List (List (List ℕ))) (old new : Picked) (n q : ℕ)
    (pair was : List ℕ × List ℕ) (stock stock' : List (List ℕ)) (p : ℕ) (v : Bor Value) (keys : AreKeys ls)
    (h : ArePlaces ls ps) (below : n < length ls) (within : q < count_of (list_at ls n))
    (is : IsChoiceAt ls ps stocks old) (was-is : was ≡ get_or old.texts.items n was) (there : pair.0 ≡ was.0)
    (stock-is : stock ≡ get_or stocks n stock) (place-is : p ≡ get_or ps n p)
    (lent : pair.1 ≡ get_or (set stock p was.1) q []) (rest : set stock' q pair.1 ≡ set stock p was.1)
    (item : data_of v.now ≡ unwrap_or (node_at (list_at ls n) q) null)
    (texts : new.texts.items ≡ set old.texts.items n pair) (items : new.items.items ≡ set old.items.items n v)
    (index : new.index ≡ old.index) (stocked : stocks' ≡ set stocks n stock') where
  in_texts : n < length old.texts.items
  in_texts = omega (arith, below, keys_there ls ps stocks old h is)

  -- the stock with what it lacks
  all_texts : set stock p was.1 ≡ item_texts (list_at ls n)
  all_texts =
      ap (λ (x : List (List ℕ)). set x p was.1) stock-is ∙ ap (λ (x : ℕ). set (get_or stocks n stock) x was.1) place-is
      ∙ ap (λ (x : List ℕ × List ℕ). set (get_or stocks n stock) (get_or ps n p) x.1) was-is
      ∙ is.lent n stock p was below

  text : pair.1 ≡ coerced (data_of v.now)
  text =
      lent ∙ ap (λ (x : List (List ℕ)). get_or x q []) all_texts ∙ text_there (list_at ls n) q [] within
      ∙ ap coerced (sym item)

  key_is : pair.0 ≡ (get_or ls n ([], no_nodes)).0
  key_is =
      there ∙ ap (λ (x : List ℕ × List ℕ). x.0) was-is
      ∙ ap (λ (x : Params). (get_or x n was).0) (is.kept.texts ∙ ap texts_for is.choice)
      ∙ key_at ls ps n was h below

  made : choice_of new ≡ set (choice_of old) n (pair.0, data_of v.now)
  made =
      ap (λ (x : Params). with_items x new.items.items) texts
      ∙ ap (λ (x : List (Bor Value)). with_items (set old.texts.items n pair) x) items
      ∙ items_set old.texts.items old.items.items n pair.0 pair.1 v in_texts
      (omega (arith, below, items_there ls ps stocks old h is))

  whole : choice_of new ≡ choice_at ls (set ps n q)
  whole =
      made ∙ ap (λ (x : Choice). set x n (pair.0, data_of v.now)) is.choice
      ∙ ap (λ (k : List ℕ). set (choice_at ls ps) n (k, data_of v.now)) key_is
      ∙ ap (λ (d : Data). set (choice_at ls ps) n ((get_or ls n ([], no_nodes)).0, d)) item
      ∙ sym (choice_set ls ps n q h below)

  of_texts : new.texts.items ≡ texts_for (choice_of new)
  of_texts =
      texts ∙ ap (λ (x : Params). set x n pair) is.kept.texts
      ∙ ap (λ (t : List ℕ). set (texts_for (choice_of old)) n (pair.0, t)) text
      ∙ sym (texts_set (choice_of old) n pair.0 (data_of v.now)) ∙ sym (ap texts_for made)

  of_places : new.texts.items ≡ texts_for (choice_at ls (set ps n q))
  of_places = of_texts ∙ ap texts_for whole

  same_keys : keys_in new.texts.items ≡ keys_in old.texts.items
  same_keys =
      ap keys_in texts
      ∙ keys_set old.texts.items n was pair.0 pair.1 (there ∙ ap (λ (x : List ℕ × List ℕ). x.0) was-is) in_texts

  anew : IsChoice new
  anew = record {
    texts = of_texts;
    rising = subst (λ (x : Params). Rising (keys_in x)) (sym of_places) (rising_texts ls (set ps n q) keys);
    distinct = subst AreDistinct (sym of_places) (distinct_texts ls (set ps n q) keys);
    keys = subst HasNoEmptyKey (sym of_places) (full_texts ls (set ps n q) keys);
    index = subst (λ (x : List (List ℕ)). IsIndexOf x new.index) (sym same_keys)
        (subst (IsIndexOf (keys_in old.texts.items)) (sym index) is.kept.index);
  }

  -- the texts that are lacking now: at this list, and at another
  lacking : (m : ℕ) (d : List (List ℕ)) (x : ℕ) (t : List ℕ × List ℕ) → (m ≡ n) ⊎ (m ≢ n) → m < length ls
      → set (get_or stocks' m d) (get_or (set ps n q) m x) (get_or new.texts.items m t).1 ≡ item_texts (list_at ls m)
  lacking m d x t (inl e) under = subst
      (λ (k : ℕ). set (get_or stocks' k d) (get_or (set ps n q) k x) (get_or new.texts.items k t).1 ≡ item_texts (list_at ls k))
      (sym e) here
    where
      here : set (get_or stocks' n d) (get_or (set ps n q) n x) (get_or new.texts.items n t).1 ≡ item_texts (list_at ls n)
      here =
          ap (λ (s : List (List ℕ)). set s (get_or (set ps n q) n x) (get_or new.texts.items n t).1)
          (ap (λ (s : List (List (List ℕ))). get_or s n d) stocked
          ∙ get_or-set_same stocks n stock' d (omega (arith, below, is.size)))
          ∙ ap (λ (k : ℕ). set stock' k (get_or new.texts.items n t).1)
          (get_or-set_same ps n q x (omega (arith, below, places_length ls ps h)))
          ∙ ap (λ (k : List ℕ × List ℕ). set stock' q k.1)
          (ap (λ (s : Params). get_or s n t) texts ∙ get_or-set_same old.texts.items n pair t in_texts)
          ∙ rest ∙ all_texts
  lacking m d x t (inr e) under =
      ap (λ (s : List (List ℕ)). set s (get_or (set ps n q) m x) (get_or new.texts.items m t).1)
      (ap (λ (s : List (List (List ℕ))). get_or s m d) stocked ∙ get_or-set_other stocks n m stock' d e)
      ∙ ap (λ (k : ℕ). set (get_or stocks m d) k (get_or new.texts.items m t).1) (get_or-set_other ps n m q x e)
      ∙ ap (λ (k : List ℕ × List ℕ). set (get_or stocks m d) (get_or ps m x) k.1)
      (ap (λ (s : Params). get_or s m t) texts ∙ get_or-set_other old.texts.items n m pair t e)
      ∙ is.lent m d x t under

  pub set_anew : IsChoiceAt ls (set ps n q) stocks' new
  set_anew = record {
    choice = whole;
    kept = anew;
    size = ap length stocked ∙ length-set stocks n stock' ∙ is.size;
    lent = λ m d x t under. lacking m d x t (same_or_not m n) under;
  }
