-- A tree of members is put into as a map is, and gives the map in order.
use Rattle.std.proofs.Common.{◌≡◌, ◌∙◌, ◌++◌, ◌||◌, ℕ, List, [], ◌∷◌, Bool, true, false, Decides, cond, refl, ap, sym, subst, is_some, Some}
use Rattle.std.proofs.lemmas.Map.Text.{is_eq-slice_cmp}
use Rattle.std.proofs.lemmas.Slice.Eq.{bytes_eq-Decides}
use Rattle.std.specs.BTreeMap.{insert_entry, is_at}
use Rattle.std.specs.Cmp.Lexicographic.{slice_cmp}
use Rattle.std.specs.List.Sorted.{IsStrictlySortedBy}
use Rattle.std.specs.Map.{keys_of as entry_keys, lookup}
use Rattle.std.specs.Ordering.{nat_cmp, is_eq, match_ordering}
use Rattle.std.specs.Str.{bytes_eq}
use Rattle.std.specs.declared.cmp.Ordering.{Ordering}
use Rattle.std.specs.declared.cmp.Ordering.TheVariants.{Less, Equal, Greater}
use Rattle.heat_value.specs.Data.{Members, no_members, member, keys_of, put}
use Rattle.heat_value.specs.Meaning.{data_of}
use Rattle.heat_value.specs.declared.value.Value.{Value}
use Rattle.hot_functions.specs.Forms.{stands}
use Rattle.hot_eval.specs.Gathered.{members_in}
use Rattle.hot_eval.proofs.Steps.{in_front, in_front-none, in_front-last, member_last, put_last, cmp}

-- ---- putting

key_same : (k l : List ℕ) → slice_cmp nat_cmp k l ≡ Equal → l ≡ k
key_same k l e = sym ((bytes_eq-Decides k l).0 (sym (is_eq-slice_cmp k l) ∙ ap is_eq e))

pub put_entry : (es : List (List ℕ × Value)) (k : List ℕ) (v : Value)
    → members_in (insert_entry (slice_cmp nat_cmp) es k v) ≡ put k (data_of v) (members_in es)
put_entry [] k v = refl
put_entry (e ∷ es) k v = by (slice_cmp nat_cmp k e.0) refl (put_entry es k v)
  where
    by : (o : Ordering) → slice_cmp nat_cmp k e.0 ≡ o
        → members_in (insert_entry (slice_cmp nat_cmp) es k v) ≡ put k (data_of v) (members_in es)
        → members_in (match_ordering o ((k, v) ∷ e ∷ es) ((e.0, v) ∷ es) (e ∷ insert_entry (slice_cmp nat_cmp) es k v))
        ≡ match_ordering o (member k (data_of v) (members_in (e ∷ es))) (member k (data_of v) (members_in es))
        (member e.0 (data_of e.1) (put k (data_of v) (members_in es)))
    by Less is rest = refl
    by Equal is rest = ap (λ (x : List ℕ). member x (data_of v) (members_in es)) (key_same k e.0 is)
    by Greater is rest = ap (member e.0 (data_of e.1)) rest

-- ---- what stands

same_either : (k l : List ℕ) → bytes_eq k l ≡ bytes_eq l k
same_either k l = by (bytes_eq k l) (bytes_eq l k) (bytes_eq-Decides k l) (bytes_eq-Decides l k)
  where
    by : (a b : Bool) → Decides a (k ≡ l) → Decides b (l ≡ k) → a ≡ b
    by true true h g = refl
    by true false h g = sym (g.1 (sym (h.0 refl)))
    by false true h g = h.1 (sym (g.0 refl))
    by false false h g = refl

pub stands_entry : (es : List (List ℕ × Value)) (k : List ℕ)
    → is_some (lookup (is_at (slice_cmp nat_cmp k)) es) ≡ stands k (members_in es)
stands_entry [] k = refl
stands_entry (e ∷ es) k =
    by (is_eq (slice_cmp nat_cmp k e.0)) (bytes_eq e.0 k) (is_eq-slice_cmp k e.0 ∙ same_either k e.0) (stands_entry es k)
  where
    by : (a b : Bool) → a ≡ b → is_some (lookup (is_at (slice_cmp nat_cmp k)) es) ≡ stands k (members_in es)
        → is_some (cond a (Some e.1) (lookup (is_at (slice_cmp nat_cmp k)) es)) ≡ (b || stands k (members_in es))
    by true true same rest = refl
    by true false same rest = cc
    by false true same rest = cc
    by false false same rest = rest

-- ---- the whole map, from the first member on

keys-front : (a b : Members) → keys_of (in_front a b) ≡ keys_of a ++ keys_of b
keys-front no_members b = refl
keys-front (member k d ms) b = ap (λ (x : List (List ℕ)). k ∷ x) (keys-front ms b)

pub gathered_next : (whole made now : Members) (k : List ℕ) (v : Value) (rest next : List (List ℕ × Value))
    → IsStrictlySortedBy cmp (keys_of whole) → rest ≡ (k, v) ∷ next → now ≡ put k (data_of v) made
    → in_front made (members_in rest) ≡ whole → in_front now (members_in next) ≡ whole
gathered_next whole made now k v rest next rising at set way =
    ap (λ (ms : Members). in_front ms (members_in next)) last ∙ in_front-last made k (data_of v) (members_in next)
    ∙ ap (λ (es : List (List ℕ × Value)). in_front made (members_in es)) (sym at) ∙ way
  where
    keys : keys_of made ++ k ∷ keys_of (members_in next) ≡ keys_of whole
    keys =
        sym (keys-front made (member k (data_of v) (members_in next)))
        ∙ ap (λ (es : List (List ℕ × Value)). keys_of (in_front made (members_in es))) (sym at) ∙ ap keys_of way

    last : now ≡ member_last made k (data_of v)
    last = set ∙ put_last made k (data_of v) (keys_of (members_in next)) (subst (IsStrictlySortedBy cmp) (sym keys) rising)

entry_keys-members : (es : List (List ℕ × Value)) → entry_keys es ≡ keys_of (members_in es)
entry_keys-members [] = refl
entry_keys-members (e ∷ es) = ap (λ (x : List (List ℕ)). e.0 ∷ x) (entry_keys-members es)

pub gathered_rises : (whole : Members) (es : List (List ℕ × Value)) → members_in es ≡ whole
    → IsStrictlySortedBy cmp (entry_keys es) → IsStrictlySortedBy cmp (keys_of whole)
gathered_rises whole es is rising = subst (IsStrictlySortedBy cmp) (entry_keys-members es ∙ ap keys_of is) rising

pub gathered_all : (whole made : Members) (rest : List (List ℕ × Value)) → rest ≡ []
    → in_front made (members_in rest) ≡ whole → made ≡ whole
gathered_all whole made rest none way =
    sym (in_front-none made) ∙ ap (λ (es : List (List ℕ × Value)). in_front made (members_in es)) (sym none) ∙ way
