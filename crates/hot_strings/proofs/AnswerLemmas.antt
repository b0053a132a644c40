-- The relations of the text functions have the answers that are read from left to right.
use Rattle.std.proofs.Common.{◌≡◌, ◌≢◌, ◌<◌, ◌≤◌, ℕ, zero, suc, List, [], ◌∷◌, ◌++◌, length, inl, inr, Bool, true, false, ◌&&◌, ◌==◌, Some, None, refl, ap, sym, ◌∙◌, subst, arith}
use Rattle.std.proofs.lemmas.Bool.{leb-true, le-leb}
use Rattle.std.proofs.lemmas.Bool.Decides.{Decides-eqb}
use Rattle.std.proofs.lemmas.List.Elements.{All-contains}
use Rattle.std.specs.Bool.{nat_le}
use Rattle.std.specs.Char.{encode_utf8}
use Rattle.std.specs.List.{All, Contains}
use Rattle.std.specs.Prelude.{if◌then◌else◌}
use Rattle.hot_strings.specs.Answers.{begins, cut_behind, cuts, key_length, longest_at, key_at, put_behind, with_values, digest_of}
use Rattle.heat_value.specs.Data.{words}
use Rattle.hot_strings.specs.Digest.{IsDigestName, IsDigest}
use Rattle.hot_strings.specs.Faults.{IsOfLimit}
use Rattle.hot_strings.specs.Pieces.{Params, Piece, key, character, source, target, ArePieces, IsFirstPiece, IsLongestKey, NoKeyBegins, AreDistinct, HasNoEmptyKey, at_character, replaced}
use Rattle.hot_strings.proofs.Characters.{AreInner, CharBytes, char_bytes, at_character-inner}
use Rattle.hot_strings.specs.Places.{Begins, Lacks, StandsFirst}
use Rattle.hot_strings.specs.Replacing.{IsOfReplaced}
use Rattle.hot_strings.specs.declared.fault.StringFault.{StringFault}
use Rattle.hot_strings.specs.declared.fault.StringFault.TheVariants.{F02, F03, F04, F06, Memory}
use Rattle.hot_strings.specs.Split.{AreSplit}
use Rattle.hot_strings.proofs.KeyLemmas.{key_some}
use Rattle.hot_strings.proofs.PieceLemmas.{both_true}
use Rattle.hot_strings.proofs.PlaceLemmas.{append_same}
use Rattle.hot_strings.proofs.Splits.{AreSplit-one, joined-AreSplit}

-- ---- whether a text begins with another

bool_false : (b : Bool) → (b ≡ true → ⊥) → b ≡ false
bool_false true h = absurd (h refl)
bool_false false h = refl

begins-append : (d rest : List ℕ) → begins d (d ++ rest) ≡ true
begins-append [] rest = refl
begins-append (x ∷ d) rest = rw ((Decides-eqb x x).1 refl) (begins-append d rest)

begins-true : (d s : List ℕ) → begins d s ≡ true → Begins d s
begins-true [] s e = (s, refl)
begins-true (x ∷ d) [] e = cc
begins-true (x ∷ d) (y ∷ s) e =
    let both = both_true (x == y) (begins d s) e in
    let same : x ≡ y = (Decides-eqb x y).0 both.0 in
    let more = begins-true d s both.1 in
    let tail : s ≡ d ++ more.0 = more.1 in (more.0, cc)

-- ---- the pieces between delimiters

cut_skip : (d xs t : List ℕ) → cut_behind d (length xs) (xs ++ t) ≡ cut_behind d 0 t
cut_skip d [] t = refl
cut_skip d (x ∷ xs) t = cut_skip d xs t

cut_here : (d s p rest : List ℕ) → d ≢ [] → StandsFirst d s p rest → cut_behind d 0 s ≡ p ∷ cut_behind d 0 rest
cut_here [] s p rest some st = absurd (some refl)
cut_here (x ∷ d) s [] rest some st = rw (st.whole, begins-append (x ∷ d) rest) (ap (λ t. [] ∷ t) (cut_skip (x ∷ d) d rest))
cut_here (x ∷ d) [] (b ∷ p) rest some st = absurd (let e : [] ≡ b ∷ (p ++ ((x ∷ d) ++ rest)) = st.whole in cc)
cut_here (x ∷ d) (y ∷ s) (b ∷ p) rest some st =
    let whole : y ∷ s ≡ b ∷ (p ++ ((x ∷ d) ++ rest)) = st.whole in
    let head : y ≡ b = cc in
    let tail : s ≡ p ++ ((x ∷ d) ++ rest) = cc in
    let later : StandsFirst (x ∷ d) s p rest = record {
      whole = tail;
      first = λ before after e. (let bound = st.first (y ∷ before) after (ap (λ (t : List ℕ). y ∷ t) e) in omega (arith, bound));
    } in
    let not : begins (x ∷ d) (y ∷ s) ≡ false
    = bool_false (begins (x ∷ d) (y ∷ s)) (λ e. (let here = begins-true (x ∷ d) (y ∷ s) e in let bound = st.first [] here.0 here.1 in absurd (omega (arith, bound)))) in
    rw (not, cut_here (x ∷ d) s p rest some later, head) refl

cut_last : (d s : List ℕ) → d ≢ [] → Lacks d s → cut_behind d 0 s ≡ s ∷ []
cut_last d [] some lacks = refl
cut_last d (y ∷ s) some lacks =
    let not : begins d (y ∷ s) ≡ false = bool_false (begins d (y ∷ s)) (λ e. (let here = begins-true d (y ∷ s) e in lacks [] here.0 here.1)) in
    rw (not, cut_last d s some (λ before after e. lacks (y ∷ before) after (ap (λ (t : List ℕ). y ∷ t) e))) refl

-- a text's pieces are the cuts
pub cuts-split : (d s : List ℕ) (ps : List (List ℕ)) → d ≢ [] → AreSplit d s ps → cuts d s ≡ ps
cuts-split d s [] some h = absurd h
cuts-split d s (p ∷ []) some h = cut_last d s some h.1 ∙ ap (λ (t : List ℕ). t ∷ []) (sym h.0)
cuts-split d s (p ∷ q ∷ ps) some h = cut_here d s p h.0 some h.1 ∙ ap (λ (t : List (List ℕ)). p ∷ t) (cuts-split d h.0 (q ∷ ps) some h.2)

pub ruleset for_split = (AreSplit-one, joined-AreSplit, cuts-split)

-- ---- the longest key at a place

longest_none : (params : Params) (s : List ℕ) → NoKeyBegins params s → longest_at params s ≡ None
longest_none [] s none = refl
longest_none (p ∷ ps) s none =
    let not : begins p.0 s ≡ false = bool_false (begins p.0 s) (λ e. none 0 p (omega arith) (begins-true p.0 s e)) in
    rw (not, longest_none ps s (λ k d l. none (suc k) d (omega arith))) refl

key_bound : (params : Params) (s : List ℕ) (n : ℕ) → All (λ p. Begins p.0 s → length p.0 ≤ n) params → key_length (longest_at params s) ≤ n
key_bound [] s n all = omega arith
key_bound (p ∷ ps) s n all = go (key_bound ps s n (λ k d l. all (suc k) d (omega arith))) (begins p.0 s && nat_le (key_length (longest_at ps s)) (length p.0)) refl
  where
    go : key_length (longest_at ps s) ≤ n → (c : Bool) → (begins p.0 s && nat_le (key_length (longest_at ps s)) (length p.0)) ≡ c → key_length (if c then Some p else longest_at ps s) ≤ n
    go behind true e = all 0 p (omega arith) (begins-true p.0 s (both_true (begins p.0 s) (nat_le (key_length (longest_at ps s)) (length p.0)) e).0)
    go behind false e = behind

longest_some : (params : Params) (s k v : List ℕ) → AreDistinct params → IsLongestKey params s k v → longest_at params s ≡ Some (k, v)
longest_some [] s k v distinct best = absurd (let l = best.listed.1 in omega (arith, l))
longest_some (p ∷ ps) s k v distinct best =
    by (λ listed. longest_some ps s k v distinct.1 (record { listed = listed; stands = best.stands; longest = λ i d m. best.longest (suc i) d (omega arith) })) best.listed
  where
    by : (Contains ps (k, v) → longest_at ps s ≡ Some (k, v)) → Contains (p ∷ ps) (k, v) → longest_at (p ∷ ps) s ≡ Some (k, v)
    by behind (zero, l, e) =
        let same : p ≡ (k, v) = e in
        let stands : begins p.0 s ≡ true = rw (same, best.stands.1) (begins-append k best.stands.0) in
        let bound : key_length (longest_at ps s) ≤ length k = key_bound ps s (length k) (λ i d m. best.longest (suc i) d (omega arith)) in
        let longer : nat_le (key_length (longest_at ps s)) (length p.0) ≡ true = rw same (le-leb (key_length (longest_at ps s)) (length k) bound) in
        rw (stands, longer, same) refl
    by behind (suc i, l, e) =
        let listed : Contains ps (k, v) = (i, omega arith, e) in
        let rest = behind listed in
        let not : (begins p.0 s && nat_le (length k) (length p.0)) ≡ false
        = bool_false (begins p.0 s && nat_le (length k) (length p.0)) (λ both. (
        let two = both_true (begins p.0 s) (nat_le (length k) (length p.0)) both in
        let here = begins-true p.0 s two.0 in
        let bound = best.longest 0 p (omega arith) here in
        let other = leb-true (length k) (length p.0) two.1 in
        let same = append_same k p.0 best.stands.0 here.0 (omega (arith, bound, other)) (sym best.stands.1 ∙ here.1) in
        All-contains (λ (q : List ℕ × List ℕ). q.0 ≢ p.0) ps (k, v) distinct.0 listed same.0
        )) in
        rw (rest, not) refl

-- ---- the longest key where a character begins

key_at-longest : (params : Params) (s : List ℕ) → at_character s ≡ true → key_at params s ≡ longest_at params s
key_at-longest params s at = rw at refl

key_at-none : (params : Params) (s : List ℕ) → longest_at params s ≡ None → key_at params s ≡ None
key_at-none params s none = go (at_character s)
  where
    go : (t : Bool) → (if t then longest_at params s else None) ≡ None
    go true = none
    go false = refl

key_at-inner : (params : Params) (s : List ℕ) (b : ℕ) → 128 ≤ b → b < 192 → key_at params (b ∷ s) ≡ None
key_at-inner params s b low high = rw (at_character-inner s b low high) refl

-- ---- replacing

module _ (params : Params) (distinct : AreDistinct params) (some : HasNoEmptyKey params) where
  put_skip : (xs t : List ℕ) → put_behind params (length xs) (xs ++ t) ≡ with_values params t
  put_skip [] t = refl
  put_skip (x ∷ xs) t = put_skip xs t

  put_none : (b : ℕ) (t : List ℕ) → key_at params (b ∷ t) ≡ None → with_values params (b ∷ t) ≡ b ∷ with_values params t
  put_none b t none = rw none refl

  put_inner : (bs t : List ℕ) → AreInner bs → with_values params (bs ++ t) ≡ bs ++ with_values params t
  put_inner [] t within = refl
  put_inner (b ∷ bs) t within =
      put_none b (bs ++ t) (key_at-inner params (bs ++ t) b within.0 within.1) ∙ ap (λ (r : List ℕ). b ∷ r) (put_inner bs t within.2)

  put_character : (c : ℕ) (t : List ℕ) → NoKeyBegins params (encode_utf8 c ++ t) → with_values params (encode_utf8 c ++ t) ≡ encode_utf8 c ++ with_values params t
  put_character c t none = by (char_bytes c)
    where
      by : CharBytes c → with_values params (encode_utf8 c ++ t) ≡ encode_utf8 c ++ with_values params t
      by (a, bs, bytes, side, within) =
          let here : key_at params (a ∷ (bs ++ t)) ≡ None
          = key_at-none params (a ∷ (bs ++ t)) (longest_none params (a ∷ (bs ++ t)) (subst (λ (w : List ℕ). NoKeyBegins params (w ++ t)) bytes none)) in
          rw bytes (put_none a (bs ++ t) here ∙ ap (λ (r : List ℕ). a ∷ r) (put_inner bs t within))

  put_key : (k v t : List ℕ) → IsFirstPiece params (k ++ t) (key k v) → with_values params (k ++ t) ≡ v ++ with_values params t
  put_key [] v t first = absurd (key_some params [] v some first.1.listed refl)
  put_key (x ∷ k) v t first =
      let here : key_at params (x ∷ (k ++ t)) ≡ Some (x ∷ k, v) = key_at-longest params (x ∷ (k ++ t)) first.0 ∙ longest_some params (x ∷ (k ++ t)) (x ∷ k) v distinct first.1 in
      rw here (ap (λ (r : List ℕ). v ++ r) (put_skip k t))

  -- what stands in place of a text's first piece, and then of the rest
  pub with_values-step : (s : List ℕ) (p : Piece) (rest : List ℕ) → s ≡ source p ++ rest → IsFirstPiece params s p → with_values params s ≡ target p ++ with_values params rest
  with_values-step s (key k v) rest e first = rw e (put_key k v rest (subst (λ (w : List ℕ). IsFirstPiece params w (key k v)) e first))
  with_values-step s (character c) rest e first = rw e (put_character c rest (subst (λ (w : List ℕ). NoKeyBegins params w) e first.1))

  -- what stands in place of a text's pieces is the text with the values
  pub with_values-pieces : (s : List ℕ) (ps : List Piece) → ArePieces params s ps → with_values params s ≡ replaced ps
  with_values-pieces s [] h = rw h refl
  with_values-pieces s (p ∷ ps) h = with_values-step s p h.0 h.1 h.2 ∙ ap (λ (r : List ℕ). target p ++ r) (with_values-pieces h.0 ps h.3)

-- what the pass makes too long is what stands in place of the pieces
pub IsOfReplaced-pass : (e : StringFault) (limit : ℕ) (params : Params) (s : List ℕ) (ps : List Piece) → AreDistinct params → HasNoEmptyKey params → ArePieces params s ps
    → IsOfLimit e limit (words (with_values params s)) → IsOfReplaced e limit params s
IsOfReplaced-pass F02 limit params s ps distinct some pieces h = h
IsOfReplaced-pass F03 limit params s ps distinct some pieces h = h
IsOfReplaced-pass F04 limit params s ps distinct some pieces h = h
IsOfReplaced-pass F06 limit params s ps distinct some pieces h = (with_values params s, (ps, pieces, with_values-pieces params distinct some s ps pieces), h)
IsOfReplaced-pass Memory limit params s ps distinct some pieces h = h

-- ---- digests

pub digest_of-digest : (name text hex : List ℕ) → IsDigestName name → IsDigest name text hex → digest_of name text ≡ Some hex
digest_of-digest name text hex (inl e) h = rw e (ap Some (sym (h.md5 e)))
digest_of-digest name text hex (inr (inl e)) h = rw e (ap Some (sym (h.sha1 e)))
digest_of-digest name text hex (inr (inr (inl e))) h = rw e (ap Some (sym (h.sha224 e)))
digest_of-digest name text hex (inr (inr (inr (inl e)))) h = rw e (ap Some (sym (h.sha256 e)))
digest_of-digest name text hex (inr (inr (inr (inr (inl e))))) h = rw e (ap Some (sym (h.sha384 e)))
digest_of-digest name text hex (inr (inr (inr (inr (inr e))))) h = rw e (ap Some (sym (h.sha512 e)))

pub ruleset for_digest = (digest_of-digest)
