-- Records behind one another: how they grow by one, and that bytes are read in one way.
use Rattle.std.proofs.Common.{◌≡◌, ◌≢◌, ℕ, suc, ◌+◌, ◌<◌, ◌^◌, List, [], ◌∷◌, ◌++◌, length, get_or, take, drop, refl, sym, ◌∙◌, ap, subst, arith, append_assoc, All}
use Rattle.std.proofs.lemmas.List.{append-nil, take_at, drop_at}
use Rattle.std.proofs.lemmas.List.Elements.{All-nil, All-cons, All-append}
use Rattle.std.proofs.lemmas.Nat.{from_be_bytes-to_be_bytes_8}
use Rattle.row_journal.specs.declared.version.Version.{Version}
use Rattle.row_journal.specs.declared.version.Version.TheVariants.{One, Two}
use Rattle.row_journal.specs.Forms.{word, number, body, record_of, spelled, IsEnd, IsSized, AreRecords}

-- one record more behind the others
pub spelled-push : (version : Version) (n : ℕ) (payloads : List (List ℕ)) (payload : List ℕ) → spelled version n (payloads ++ payload ∷ []) ≡ spelled version n payloads ++ record_of version (n + length payloads) payload
spelled-push version n [] payload =
    let place : n ≡ n + 0 = omega arith in
    append-nil (record_of version n payload) ∙ ap (λ (k : ℕ). record_of version k payload) place
spelled-push version n (first ∷ payloads) payload =
    let rest = spelled-push version (n + 1) payloads payload in
    let place : n + 1 + length payloads ≡ n + length (first ∷ payloads) = omega arith in
    ap (λ (l : List ℕ). record_of version n first ++ l) (rest ∙ ap (λ (k : ℕ). spelled version (n + 1) payloads ++ record_of version k payload) place)
    ∙ sym (append_assoc (record_of version n first) (spelled version (n + 1) payloads) (record_of version (n + length (first ∷ payloads)) payload))

word-same : (a b : ℕ) → a < 2 ^ 64 → b < 2 ^ 64 → word a ≡ word b → a ≡ b
word-same a b small_a small_b same = sym (from_be_bytes-to_be_bytes_8 a small_a) ∙ ap number same ∙ from_be_bytes-to_be_bytes_8 b small_b

-- two lists of one length in front of others
same_fronts : (p q x y : List ℕ) → length p ≡ length q → p ++ x ≡ q ++ y → (p ≡ q) × (x ≡ y)
same_fronts p q x y long same = (
  sym (take_at p x (length p) refl) ∙ ap (take (length p)) same ∙ take_at q y (length p) (sym long),
  sym (drop_at p x (length p) refl) ∙ ap (drop (length p)) same ∙ drop_at q y (length p) (sym long),
)

-- a payload behind its length is read in one way
sized_same : (p q x y : List ℕ) (front back : List ℕ) → IsSized p → IsSized q → front ≡ word (length p) → back ≡ word (length q) → front ≡ back → p ++ x ≡ q ++ y → (p ≡ q) × (x ≡ y)
sized_same p q x y front back small_p small_q is_front is_back same rest =
    same_fronts p q x y (word-same (length p) (length q) small_p small_q (sym is_front ∙ same ∙ is_back)) rest

-- what stands behind an open gate is one payload and one rest
pub body-same : (version : Version) (n : ℕ) (p q x y : List ℕ) → IsSized p → IsSized q → body version n p ++ x ≡ body version n q ++ y → (p ≡ q) × (x ≡ y)
body-same One n p q x y small_p small_q same =
    sized_same p q x y (word (length p)) (word (length q)) small_p small_q refl refl (ap (take 8) same) (ap (drop 8) same)
body-same Two n p q x y small_p small_q same =
    sized_same p q x y (word (length p)) (word (length q)) small_p small_q refl refl (ap (take 8) same) (ap (drop 16) same)

-- what begins with an open gate is no end
open_is_no_end : (rest tail : List ℕ) → 1 ∷ rest ≡ tail → IsEnd tail → ⊥
open_is_no_end rest [] same ends = omega (arith, ap length same)
open_is_no_end rest (gate ∷ tail) same ends = ends (sym (ap (λ (l : List ℕ). get_or l 0 0) same))

-- the first of them
pub sized_first : (p : List ℕ) (ps : List (List ℕ)) → All IsSized (p ∷ ps) → IsSized p
sized_first p ps small = small 0 [] (omega arith)

-- all but the first
pub sized_rest : (p : List ℕ) (ps : List (List ℕ)) → All IsSized (p ∷ ps) → All IsSized ps
sized_rest p ps small = λ k d lt. small (suc k) d (omega (arith, lt))

-- behind these records an open gate stands, with no record behind it: so the bytes are no records
pub no_records : (version : Version) (n k : ℕ) (done payloads : List (List ℕ)) (rest tail : List ℕ) → n + length done ≡ k
    → ((payload later : List ℕ) → IsSized payload → rest ≢ body version k payload ++ later)
    → All IsSized done → All IsSized payloads → IsEnd tail → spelled version n done ++ 1 ∷ rest ≡ spelled version n payloads ++ tail → ⊥
no_records version n k [] [] rest tail place broken small_done small ends same = open_is_no_end rest tail same ends
no_records version n k [] (p ∷ ps) rest tail place broken small_done small ends same =
    let later = spelled version (n + 1) ps ++ tail in
    let here : n ≡ k = omega (arith, place) in
    broken p later (sized_first p ps small)
    (ap (drop 1) same ∙ append_assoc (body version n p) (spelled version (n + 1) ps) tail ∙ ap (λ (j : ℕ). body version j p ++ later) here)
no_records version n k (d ∷ ds) [] rest tail place broken small_done small ends same =
    open_is_no_end (body version n d ++ spelled version (n + 1) ds ++ 1 ∷ rest) tail same ends
no_records version n k (d ∷ ds) (p ∷ ps) rest tail place broken small_done small ends same =
    let bodies = sym (append_assoc (body version n d) (spelled version (n + 1) ds) (1 ∷ rest)) ∙ ap (drop 1) same ∙ append_assoc (body version n p) (spelled version (n + 1) ps) tail in
    let both = body-same version n d p (spelled version (n + 1) ds ++ 1 ∷ rest) (spelled version (n + 1) ps ++ tail) (sized_first d ds small_done) (sized_first p ps small) bodies in
    no_records version (n + 1) k ds ps rest tail (omega (arith, place)) broken (sized_rest d ds small_done) (sized_rest p ps small) ends both.1

-- the records up to an end are read in one way
pub same_records : (version : Version) (n : ℕ) (ps qs : List (List ℕ)) (s t : List ℕ) → All IsSized ps → All IsSized qs → IsEnd s → IsEnd t
    → spelled version n ps ++ s ≡ spelled version n qs ++ t → ps ≡ qs
same_records version n [] [] s t small_p small_q end_s end_t same = refl
same_records version n [] (q ∷ qs) s t small_p small_q end_s end_t same =
    absurd (open_is_no_end (body version n q ++ spelled version (n + 1) qs ++ t) s (sym same) end_s)
same_records version n (p ∷ ps) [] s t small_p small_q end_s end_t same =
    absurd (open_is_no_end (body version n p ++ spelled version (n + 1) ps ++ s) t same end_t)
same_records version n (p ∷ ps) (q ∷ qs) s t small_p small_q end_s end_t same =
    let bodies = sym (append_assoc (body version n p) (spelled version (n + 1) ps) s) ∙ ap (drop 1) same ∙ append_assoc (body version n q) (spelled version (n + 1) qs) t in
    let both = body-same version n p q (spelled version (n + 1) ps ++ s) (spelled version (n + 1) qs ++ t) (sized_first p ps small_p) (sized_first q qs small_q) bodies in
    let rest = same_records version (n + 1) ps qs s t (sized_rest p ps small_p) (sized_rest q qs small_q) end_s end_t both.1 in
    ap (λ (x : List ℕ). x ∷ ps) both.0 ∙ ap (λ (l : List (List ℕ)). q ∷ l) rest

pub one_reading : (version : Version) (bytes : List ℕ) (ps qs : List (List ℕ)) → AreRecords version 1 bytes ps → AreRecords version 1 bytes qs → ps ≡ qs
one_reading version bytes ps qs first second =
    same_records version 1 ps qs first.tail second.tail first.sized second.sized first.ends second.ends (sym first.parts ∙ second.parts)

-- the same of what was read
pub are_none : (version : Version) (k : ℕ) (bytes rest : List ℕ) (done payloads : List (List ℕ)) → 1 + length done ≡ k
    → ((payload later : List ℕ) → IsSized payload → rest ≢ body version k payload ++ later)
    → All IsSized done → bytes ≡ spelled version 1 done ++ 1 ∷ rest → AreRecords version 1 bytes payloads → ⊥
are_none version k bytes rest done payloads place broken small_done parts found =
    no_records version 1 k done payloads rest found.tail place broken small_done found.sized found.ends (sym parts ∙ found.parts)

-- a record more was read
module _ (done all : List (List ℕ)) (p q : List ℕ) (is_all : all ≡ done ++ q ∷ []) (is_payload : q ≡ p) where
  is_more : done ++ p ∷ [] ≡ all
  is_more = ap (λ (r : List ℕ). done ++ r ∷ []) (sym is_payload) ∙ sym is_all

  pub one_more : (version : Version) (k : ℕ) (bytes rest later : List ℕ) → 1 + length done ≡ k → bytes ≡ spelled version 1 done ++ 1 ∷ rest → rest ≡ body version k p ++ later
      → bytes ≡ spelled version 1 all ++ later
  one_more version k bytes rest later place parts found =
      parts
      ∙ ap (λ (l : List ℕ). spelled version 1 done ++ 1 ∷ l) found
      ∙ sym (append_assoc (spelled version 1 done) (record_of version k p) later)
      ∙ ap (λ (j : ℕ). (spelled version 1 done ++ record_of version j p) ++ later) (sym place)
      ∙ ap (λ (l : List ℕ). l ++ later) (sym (spelled-push version 1 done p))
      ∙ ap (λ (l : List (List ℕ)). spelled version 1 l ++ later) is_more

  pub sized_more : All IsSized done → IsSized p → All IsSized all
  sized_more small_done small =
      subst (All IsSized) is_more (All-append IsSized done (p ∷ []) small_done (All-cons IsSized p [] small (All-nil IsSized)))
