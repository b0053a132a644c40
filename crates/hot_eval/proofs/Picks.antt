-- Keys with their lists, and choices made key by key.
use Rattle.std.proofs.Common.{◌≡◌, ◌≢◌, ◌∙◌, ◌<◌, ◌≤◌, ◌+◌, ◌||◌, ℕ, suc, List, [], ◌∷◌, ◌++◌, Bool, true, false}
use Rattle.std.proofs.Common.{Option, Some, None, option_map, option_and_then, length, get_or, drop, refl, ap, sym}
use Rattle.std.proofs.Common.{subst, arith, append_assoc, find, zero}
use Rattle.std.proofs.lemmas.List.{map-append, append-nil, length-append, length-map, drop_all}
use Rattle.std.proofs.lemmas.List.Elements.{All-nil, All-cons}
use Rattle.std.proofs.lemmas.Map.Text.{is_eq-slice_cmp}
use Rattle.std.proofs.lemmas.Slice.Eq.{bytes_eq-Decides}
use Rattle.std.specs.Cmp.Lexicographic.{slice_cmp}
use Rattle.std.specs.List.{All, list_any, AllByRecursion}
use Rattle.std.specs.List.Sorted.{IsStrictlySortedBy}
use Rattle.std.specs.Ordering.{nat_cmp, is_eq}
use Rattle.std.specs.Prelude.{unwrap_or, if◌then◌else◌}
use Rattle.std.specs.Str.{bytes_eq}
use Rattle.std.specs.declared.cmp.Ordering.TheVariants.{Less, Equal}
use denote.Ref.{Bor}
use Rattle.heat_value.specs.Coercion.{coerced}
use Rattle.heat_value.specs.Data.{Data, null, Nodes, Members, no_members, member, keys_of, Rises}
use Rattle.heat_value.specs.Meaning.{data_of}
use Rattle.heat_value.specs.declared.value.Value.{Value}
use Rattle.heat_plan.specs.Order.{Rising}
use Rattle.heat_plan.proofs.Searched.{same_by, below_same, below_at}
use Rattle.hot_strings.specs.Indexes.{keys_in}
use Rattle.hot_strings.specs.Pieces.{Params, AreDistinct, HasNoEmptyKey}
use Rattle.eval_words.specs.Choices.{Lists, lists_in}
use Rattle.eval_words.specs.Fillings.{texts_for, item_of}
use Rattle.eval_words.specs.Lookups.{node_at}
use Rattle.hot_eval.specs.Repeats.{AreKeys, choice_at, with_items}
use Rattle.eval_words.specs.Sorts.{list_in}
use Rattle.eval_words.specs.Texts.{is_empty}
use Rattle.hot_eval.proofs.Places.{rest_at}
use Rattle.hot_eval.proofs.Replacements.{is_empty-none}

-- ---- the lists of an object

onto-key : (done : Lists) (l : List ℕ × Nodes) (o : Option Lists)
    → option_map (λ ls. (done ++ l ∷ []) ++ ls) o ≡ option_map (λ ls. done ++ ls) (option_map (λ ls. l ∷ ls) o)
onto-key done l None = refl
onto-key done l (Some ls) = ap Some (append_assoc done (l ∷ []) ls)

pub next_key : (done pushed : Lists) (rest next : Members) (k : List ℕ) (d : Data) (ns : Nodes) (whole : Option Lists)
    → rest ≡ member k d next → Some ns ≡ list_in d → pushed ≡ done ++ (k, ns) ∷ []
    → option_map (λ ls. done ++ ls) (lists_in rest) ≡ whole → option_map (λ ls. pushed ++ ls) (lists_in next) ≡ whole
next_key done pushed rest next k d ns whole at is push all =
    ap (λ x. option_map (λ ls. x ++ ls) (lists_in next)) push
    ∙ (onto-key done (k, ns) (lists_in next)
    ∙ (ap (λ o. option_map (λ ls. done ++ ls) (option_and_then (λ ns. option_map (λ ls. (k, ns) ∷ ls) (lists_in next)) o)) is
    ∙ (ap (λ x. option_map (λ ls. done ++ ls) (lists_in x)) (sym at) ∙ all)))

pub no_key : (done : Lists) (rest next : Members) (k : List ℕ) (d : Data) (whole : Option Lists)
    → rest ≡ member k d next → None ≡ list_in d
    → option_map (λ ls. done ++ ls) (lists_in rest) ≡ whole → None ≡ whole
no_key done rest next k d whole at is all =
    ap (λ o. option_map (λ ls. done ++ ls) (option_and_then (λ ns. option_map (λ ls. (k, ns) ∷ ls) (lists_in next)) o)) is
    ∙ (ap (λ x. option_map (λ ls. done ++ ls) (lists_in x)) (sym at) ∙ all)

pub all_keys : (done : Lists) (rest : Members) (whole : Option Lists) → rest ≡ no_members
    → option_map (λ ls. done ++ ls) (lists_in rest) ≡ whole → Some done ≡ whole
all_keys done rest whole end all =
    ap Some (sym (append-nil done)) ∙ (ap (λ x. option_map (λ ls. done ++ ls) (lists_in x)) (sym end) ∙ all)

-- the parts of a list of an object
cases_in : (k : List ℕ) (ms : Members) (ls : Lists) (o : Option Nodes)
    → option_and_then (λ ns. option_map (λ ls. (k, ns) ∷ ls) (lists_in ms)) o ≡ Some ls
    → (ns : Nodes) × (more : Lists) × (lists_in ms ≡ Some more) × (ls ≡ (k, ns) ∷ more)
cases_in k ms ls None e = cc
cases_in k ms ls (Some ns) e = go (lists_in ms) refl e
  where
    go : (o : Option Lists) → lists_in ms ≡ o → option_map (λ ls. (k, ns) ∷ ls) o ≡ Some ls
        → (ns : Nodes) × (more : Lists) × (lists_in ms ≡ Some more) × (ls ≡ (k, ns) ∷ more)
    go None is f = cc
    go (Some more) is f = (ns, more, is, let same : ls ≡ (k, ns) ∷ more = cc in same)

-- a key below those of an object is below those of its lists
below_lists : (k : List ℕ) (ms : Members) (ls : Lists) → AllByRecursion (λ y. slice_cmp nat_cmp k y ≡ Less) (keys_of ms)
    → lists_in ms ≡ Some ls → All (λ m. slice_cmp nat_cmp k m.0 ≡ Less) ls
below_lists k no_members ls h e =
    let none : [] ≡ ls = cc in
    subst (λ (x : Lists). All (λ m. slice_cmp nat_cmp k m.0 ≡ Less) x) none (All-nil (λ m. slice_cmp nat_cmp k m.0 ≡ Less))
below_lists k (member l d ms) ls h e =
    let c = cases_in l ms ls (list_in d) e in
    subst (λ (x : Lists). All (λ m. slice_cmp nat_cmp k m.0 ≡ Less) x) (sym c.3)
    (All-cons (λ m. slice_cmp nat_cmp k m.0 ≡ Less) (l, c.0) c.1 h.0 (below_lists k ms c.1 h.1 c.2))

neither : (a b : Bool) → (a || b) ≡ false → (a ≡ false) × (b ≡ false)
neither true b e = cc
neither false b e = (refl, e)

-- the keys of an object with lists, none of them empty
pub are_keys : (ms : Members) (ls : Lists) → Rises ms → lists_in ms ≡ Some ls → list_any (λ l. is_empty l.0) ls ≡ false
    → AreKeys ls
unfolding IsStrictlySortedBy
are_keys no_members ls h e some = let none : [] ≡ ls = cc in subst AreKeys none tt
are_keys (member k d ms) ls h e some =
    let c = cases_in k ms ls (list_in d) e in
    let two = neither (is_empty k) (list_any (λ l. is_empty l.0) c.1)
    (subst (λ (x : Lists). list_any (λ l. is_empty l.0) x ≡ false) c.3 some) in
    subst AreKeys (sym c.3) (
      λ e. (let none : is_empty k ≡ true = is_empty-none k e in let full : is_empty k ≡ false = two.0 in cc),
      below_lists k ms c.1 h.0 c.2,
      are_keys ms c.1 h.1 c.2 two.1,
    )

-- ---- a choice, key by key

pub with_items-push : (ps : Params) (vs : List (Bor Value)) (p : List ℕ × List ℕ) (v : Bor Value)
    → length ps ≡ length vs → with_items (ps ++ p ∷ []) (vs ++ v ∷ []) ≡ with_items ps vs ++ (p.0, data_of v.now) ∷ []
with_items-push [] [] p v e = refl
with_items-push [] (w ∷ vs) p v e = absurd (omega (arith, e))
with_items-push (q ∷ ps) [] p v e = absurd (omega (arith, e))
with_items-push (q ∷ ps) (w ∷ vs) p v e = ap (λ c. (q.0, data_of w.now) ∷ c) (with_items-push ps vs p v (omega (arith, e)))

unwrapped : (o : Option Data) (d : Data) → Some d ≡ o → unwrap_or o null ≡ d
unwrapped None d e = cc
unwrapped (Some x) d e = let same : d ≡ x = cc in sym same

-- the choice of the places left, with the item at the next
pub choice_at-next : (ls : Lists) (ps : List ℕ) (n : ℕ) (l : List ℕ × Nodes) (p : ℕ) (d : Data) → n < length ls
    → n < length ps → l ≡ get_or ls n l → p ≡ get_or ps n p → Some d ≡ node_at l.1 p
    → choice_at (drop n ls) (drop n ps) ≡ (l.0, d) ∷ choice_at (drop (n + 1) ls) (drop (n + 1) ps)
choice_at-next ls ps n l p d below within at here is =
    rw (rest_at ls n l l below at, rest_at ps n p p within here)
    (ap (λ x. (l.0, x) ∷ choice_at (drop (n + 1) ls) (drop (n + 1) ps)) (unwrapped (node_at l.1 p) d is))

-- one key more of a choice that is made
pub record IsMaking (ls : Lists) (places : List ℕ) (n : ℕ) (texts : Params) (vs : List (Bor Value)) : Type 0 where
  pub lengths : length texts ≡ length vs
  pub texts_are : texts ≡ texts_for (with_items texts vs)
  pub whole : with_items texts vs ++ choice_at (drop n ls) (drop n places) ≡ choice_at ls places

pub making_next : (ls : Lists) (ps : List ℕ) (n : ℕ) (l : List ℕ × Nodes) (p : ℕ) (texts : Params)
    (vs : List (Bor Value)) (k t : List ℕ) (v : Bor Value) → n < length ls → n < length ps → l ≡ get_or ls n l
    → p ≡ get_or ps n p → Some (data_of v.now) ≡ node_at l.1 p → k ≡ l.0 → t ≡ coerced (data_of v.now)
    → IsMaking ls ps n texts vs → IsMaking ls ps (n + 1) (texts ++ (k, t) ∷ []) (vs ++ v ∷ [])
making_next ls ps n l p texts vs k t v below within at here is key text h = record {
  lengths = omega (arith, h.lengths, length-append texts ((k, t) ∷ []), length-append vs (v ∷ []));
  texts_are = sym (ap texts_for pushed ∙ (map-append (λ q. (q.0, coerced q.1)) (with_items texts vs) ((k, data_of v.now) ∷ [])
      ∙ (ap (λ x. x ++ (k, coerced (data_of v.now)) ∷ []) (sym h.texts_are) ∙ ap (λ x. texts ++ (k, x) ∷ []) (sym text))));
  whole = ap (λ x. x ++ choice_at (drop (n + 1) ls) (drop (n + 1) ps)) pushed
      ∙ (append_assoc (with_items texts vs) ((k, data_of v.now) ∷ []) (choice_at (drop (n + 1) ls) (drop (n + 1) ps))
      ∙ (ap (λ x. with_items texts vs ++ (x, data_of v.now) ∷ choice_at (drop (n + 1) ls) (drop (n + 1) ps)) key
      ∙ (ap (λ x. with_items texts vs ++ x) (sym (choice_at-next ls ps n l p (data_of v.now) below within at here is)) ∙ h.whole)));
}
  where
    pushed : with_items (texts ++ (k, t) ∷ []) (vs ++ v ∷ []) ≡ with_items texts vs ++ (k, data_of v.now) ∷ []
    pushed = with_items-push texts vs (k, t) v h.lengths

-- ---- the keys of a choice

-- a key above another is not that one
above_other : (k l : List ℕ) → slice_cmp nat_cmp k l ≡ Less → l ≢ k
above_other k l below e =
    let same : bytes_eq k l ≡ true = (bytes_eq-Decides k l).1 (sym e) in
    let other : false ≡ bytes_eq k l = ap is_eq (sym below) ∙ is_eq-slice_cmp k l in
    cc

apart_texts : (k : List ℕ) (ls : Lists) (ps : List ℕ) → All (λ m. slice_cmp nat_cmp k m.0 ≡ Less) ls
    → All (λ q. q.0 ≢ k) (texts_for (choice_at ls ps))
apart_texts k [] ps h = All-nil (λ q. q.0 ≢ k)
apart_texts k (l ∷ ls) [] h = All-nil (λ q. q.0 ≢ k)
apart_texts k (l ∷ ls) (p ∷ ps) h =
    All-cons (λ q. q.0 ≢ k) (l.0, coerced (unwrap_or (node_at l.1 p) null)) (texts_for (choice_at ls ps))
    (above_other k l.0 (h 0 l (omega arith))) (apart_texts k ls ps (λ i d b. h (suc i) d (omega arith)))

pub distinct_texts : (ls : Lists) (ps : List ℕ) → AreKeys ls → AreDistinct (texts_for (choice_at ls ps))
distinct_texts [] ps h = tt
distinct_texts (l ∷ ls) [] h = tt
distinct_texts (l ∷ ls) (p ∷ ps) h = (apart_texts l.0 ls ps h.1, distinct_texts ls ps h.2)

below_texts : (k : List ℕ) (ls : Lists) (ps : List ℕ) → All (λ m. slice_cmp nat_cmp k m.0 ≡ Less) ls
    → AllByRecursion (λ y. slice_cmp nat_cmp k y ≡ Less) (keys_in (texts_for (choice_at ls ps)))
below_texts k [] ps h = tt
below_texts k (l ∷ ls) [] h = tt
below_texts k (l ∷ ls) (p ∷ ps) h = (h 0 l (omega arith), below_texts k ls ps (λ i d b. h (suc i) d (omega arith)))

pub rising_texts : (ls : Lists) (ps : List ℕ) → AreKeys ls → Rising (keys_in (texts_for (choice_at ls ps)))
unfolding IsStrictlySortedBy
rising_texts [] ps h = tt
rising_texts (l ∷ ls) [] h = tt
rising_texts (l ∷ ls) (p ∷ ps) h = (below_texts l.0 ls ps h.1, rising_texts ls ps h.2)

pub full_texts : (ls : Lists) (ps : List ℕ) → AreKeys ls → HasNoEmptyKey (texts_for (choice_at ls ps))
full_texts [] ps h = All-nil (λ q. q.0 ≢ [])
full_texts (l ∷ ls) [] h = All-nil (λ q. q.0 ≢ [])
full_texts (l ∷ ls) (p ∷ ps) h =
    All-cons (λ q. q.0 ≢ []) (l.0, coerced (unwrap_or (node_at l.1 p) null)) (texts_for (choice_at ls ps)) h.0
    (full_texts ls ps h.2)

-- the whole choice
pub making_all : (ls : Lists) (ps : List ℕ) (n : ℕ) (texts : Params) (vs : List (Bor Value)) → length ls ≤ n
    → IsMaking ls ps n texts vs → with_items texts vs ≡ choice_at ls ps
making_all ls ps n texts vs above h =
    sym (append-nil (with_items texts vs))
    ∙ (ap (λ x. with_items texts vs ++ choice_at x (drop n ps)) (sym (drop_all n ls above)) ∙ h.whole)

-- ---- the item of a key

pub length-items : (ps : Params) (vs : List (Bor Value)) → ps ≡ texts_for (with_items ps vs) → length ps ≤ length vs
length-items ps vs e =
    omega (arith, ap length e, length-map {B = List ℕ × List ℕ} (with_items ps vs) (λ q. (q.0, coerced q.1)), shorter ps vs)
  where
    shorter : (ps : Params) (vs : List (Bor Value)) → length (with_items ps vs) ≤ length vs
    shorter [] vs = omega arith
    shorter (p ∷ ps) [] = omega arith
    shorter (p ∷ ps) (v ∷ vs) = omega (arith, shorter ps vs)

-- the item at the place at which a search found the key
pub item_found : (s : List ℕ) (ps : Params) (vs : List (Bor Value)) (n : ℕ) (v : Bor Value) → Rising (keys_in ps)
    → n < length ps → length ps ≤ length vs → ((e : List ℕ × List ℕ) → slice_cmp nat_cmp (get_or ps n e).0 s ≡ Equal)
    → v ≡ get_or vs n v → Some (data_of v.now) ≡ item_of (with_items ps vs) s
unfolding IsStrictlySortedBy
item_found s [] vs n v up below within here there = absurd (omega arith)
item_found s (p ∷ ps) [] n v up below within here there = absurd (omega arith)
item_found s (p ∷ ps) (w ∷ vs) zero v up below within here there =
    ap (λ (x : Bor Value). Some (data_of x.now)) there
    ∙ sym (ap (λ b. if b then Some (data_of w.now) else item_of (with_items ps vs) s) (same_by p.0 s Equal (here p)))
item_found s (p ∷ ps) (w ∷ vs) (suc n) v up below within here there =
    let before : slice_cmp nat_cmp p.0 s ≡ Less =
    below_same p.0 (get_or ps n p).0 s (below_at (λ (q : List ℕ × List ℕ). q.0) p.0 ps n p up.0 (omega arith)) (here p) in
    item_found s ps vs n v up.1 (omega arith) (omega arith) here there
    ∙ sym (ap (λ b. if b then Some (data_of w.now) else item_of (with_items ps vs) s) (same_by p.0 s Less before))

-- no item, where no key is found
pub item_none : (s : List ℕ) (ps : Params) (vs : List (Bor Value)) → None ≡ find (λ q. bytes_eq q.0 s) ps
    → None ≡ item_of (with_items ps vs) s
item_none s [] vs e = refl
item_none s (p ∷ ps) [] e = refl
item_none s (p ∷ ps) (w ∷ vs) e = by (bytes_eq p.0 s) (λ f. item_none s ps vs f) e
  where
    by : (b : Bool) → (None ≡ find (λ q. bytes_eq q.0 s) ps → None ≡ item_of (with_items ps vs) s)
        → None ≡ (if b then Some p else find (λ q. bytes_eq q.0 s) ps)
        → None ≡ (if b then Some (data_of w.now) else item_of (with_items ps vs) s)
    by true more e = cc
    by false more e = more e
