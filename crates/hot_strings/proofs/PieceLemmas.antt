-- The pieces of a template: there is exactly one list of them.
use Rattle.std.proofs.Common.{◌≡◌, ◌≢◌, ◌<◌, ◌≤◌, ℕ, zero, suc, List, [], ◌∷◌, ◌++◌, length, ◌⊎◌, inl, inr, Result, Ok, Err, Bool, true, false, ◌&&◌, refl, ap, sym, ◌∙◌, subst, arith, append_assoc, length-append}
use lib.Utf8.{scalar as scalar_of, scalars}
use Rattle.std.proofs.lemmas.Grind.{flat_map-append}
use Rattle.heat_value.specs.Data.{words}
use Rattle.hot_strings.specs.Faults.{IsOfLimit}
use Rattle.hot_strings.specs.declared.fault.StringFault.{StringFault}
use Rattle.hot_strings.specs.declared.fault.StringFault.TheVariants.{F02, F03, F04, F06, Memory}
use Rattle.hot_strings.proofs.Sizes.{IsLongerThan-append}
use Rattle.std.specs.Bool.{IsTrue}
use Rattle.std.specs.Result.{OnOk}
use Rattle.std.specs.List.{All}
use Rattle.std.specs.Str.{IsUtf8, encode_utf8_all}
use Rattle.std.proofs.lemmas.List.{append_cancel_left, append-nil}
use Rattle.std.proofs.lemmas.List.Elements.{All-contains}
use Rattle.std.proofs.lemmas.Str.{encode_same}
use Rattle.hot_strings.specs.Only.{HoldsOfOne}
use Rattle.hot_strings.specs.Places.{Begins}
use Rattle.hot_strings.specs.Pieces.{Params, Piece, key, character, source, target, IsLongestKey, NoKeyBegins, IsFirstPiece, ArePieces, AreDistinct, HasNoEmptyKey, HasEveryKey, replaced}
use Rattle.hot_strings.specs.Answers.{with_values}
use Rattle.hot_strings.specs.Replacing.{IsReplaceFault, IsWithinFault, IsOfReplaced}
use Rattle.hot_strings.proofs.Characters.{IsUtf8-behind, encode_some, at_character-text}
use Rattle.hot_strings.proofs.KeyLemmas.{longest_key, IsLongestKey-same, key_some}

-- no piece is empty
pub source_some : (params : Params) (s : List ℕ) (p : Piece) → HasNoEmptyKey params → IsFirstPiece params s p → source p ≢ []
source_some params s (key k v) some first = key_some params k v some first.1.listed
source_some params s (character c) some first = encode_some c

pub length-behind : (p : Piece) (s rest : List ℕ) → source p ≢ [] → s ≡ source p ++ rest → length rest < length s
length-behind p s rest some e = go (source p) some e
  where
    go : (front : List ℕ) → front ≢ [] → s ≡ front ++ rest → length rest < length s
    go [] some e = absurd (some refl)
    go (x ∷ front) some e = omega (arith, ap length e, length-append front rest)

pub both_true : (a b : Bool) → (a && b) ≡ true → (a ≡ true) × (b ≡ true)
both_true true b e = (refl, e)
both_true false b e = cc

-- a text that isn't empty has a first piece, behind which a text stands
abbrev HasFirst : Params → List ℕ → Type 0
HasFirst params s = (p : Piece) × (rest : List ℕ) × (s ≡ source p ++ rest) × IsFirstPiece params s p × IsUtf8 rest

first_there : (params : Params) (s : List ℕ) → All (λ p. IsUtf8 p.0) params → IsUtf8 s → s ≢ [] → HasFirst params s
first_there params s texts (cs, (scalar, is)) some = go (longest_key params s)
  where
    one : NoKeyBegins params s → (cs : List ℕ) → scalars cs ≡ true → s ≡ encode_utf8_all cs → HasFirst params s
    one none [] scalar e = absurd (some e)
    one none (c ∷ cs) scalar e =
        let both = both_true (scalar_of c) (scalars cs) scalar in
        (character c, encode_utf8_all cs, e, (both.0, none), (cs, (both.1, refl)))

    go : ((k : List ℕ) × (v : List ℕ) × IsLongestKey params s k v) ⊎ NoKeyBegins params s → HasFirst params s
    go (inl (k, v, best)) =
        (key k v, best.stands.0, best.stands.1, (at_character-text s (cs, (scalar, is)), best), IsUtf8-behind k s best.stands.0 (cs, (scalar, is)) (All-contains (λ p. IsUtf8 p.0) params (k, v) texts best.listed) best.stands.1)
    go (inr none) = one none cs scalar (sym is)

pub pieces_exist : (n : ℕ) (params : Params) (s : List ℕ) → HasNoEmptyKey params → All (λ p. IsUtf8 p.0) params → IsUtf8 s → length s ≤ n → (ps : List Piece) × ArePieces params s ps
pieces_exist n params [] some texts text fits = ([], refl)
pieces_exist zero params (x ∷ s) some texts text fits = absurd (omega arith)
pieces_exist (suc n) params (x ∷ s) some texts text fits =
    let first = first_there params (x ∷ s) texts text (λ e. cc) in
    let shorter = length-behind first.0 (x ∷ s) first.1 (source_some params (x ∷ s) first.0 some first.3) first.2 in
    let more = pieces_exist n params first.1 some texts first.4 (omega arith) in
    (first.0 ∷ more.0, (first.1, first.2, first.3, more.1))

-- a text begins with one piece
pub IsFirstPiece-same : (params : Params) (s : List ℕ) (p q : Piece) (rest more : List ℕ) → AreDistinct params → s ≡ source p ++ rest → s ≡ source q ++ more
    → IsFirstPiece params s p → IsFirstPiece params s q → p ≡ q
IsFirstPiece-same params s (key j v) (key k w) rest more distinct e f a b = let same = IsLongestKey-same params s j v k w distinct a.1 b.1 in let fronts : j ≡ k = same.0 in let values : v ≡ w = same.1 in cc
IsFirstPiece-same params s (key j v) (character c) rest more distinct e f a b = absurd (All-contains (λ p. ¬ (Begins p.0 s)) params (j, v) b.1 a.1.listed a.1.stands)
IsFirstPiece-same params s (character c) (key k w) rest more distinct e f a b = absurd (All-contains (λ p. ¬ (Begins p.0 s)) params (k, w) a.1 b.1.listed b.1.stands)
IsFirstPiece-same params s (character c) (character d) rest more distinct e f a b = ap character (encode_same c d rest more (sym e ∙ f)).0

pub ArePieces-same : (params : Params) (s : List ℕ) (ps qs : List Piece) → AreDistinct params → HasNoEmptyKey params → ArePieces params s ps → ArePieces params s qs → ps ≡ qs
ArePieces-same params s [] [] distinct some h k = refl
ArePieces-same params s [] (q ∷ qs) distinct some h k = absurd (omega (arith, ap length h, length-behind q s k.0 (source_some params s q some k.2) k.1))
ArePieces-same params s (p ∷ ps) [] distinct some h k = absurd (omega (arith, ap length k, length-behind p s h.0 (source_some params s p some h.2) h.1))
ArePieces-same params s (p ∷ ps) (q ∷ qs) distinct some h k =
    let first = IsFirstPiece-same params s p q h.0 k.0 distinct h.1 k.1 h.2 k.2 in
    let rests : h.0 ≡ k.0 = append_cancel_left (source p) h.0 k.0 (sym h.1 ∙ (k.1 ∙ ap (λ (x : Piece). source x ++ k.0) (sym first))) in
    let others = ArePieces-same params h.0 ps qs distinct some h.3 (subst (λ (t : List ℕ). ArePieces params t qs) (sym rests) k.3) in
    (cc (first, others))

pub ArePieces-one : (params : Params) (s : List ℕ) → AreDistinct params → All (λ p. IsUtf8 p.0) params → IsUtf8 s → HasNoEmptyKey params → HoldsOfOne (ArePieces params s)
ArePieces-one params s distinct texts text some =
    let found = pieces_exist (length s) params s some texts text (omega arith) in
    (found.0, found.1, λ qs k. ArePieces-same params s qs found.0 distinct some k found.1)

-- whatever the pieces of the rest are, behind those that were passed they are those of the template
abbrev pub LeadsTo : Params → List ℕ → List Piece → List ℕ → Type 0
LeadsTo params s done rest = (ps : List Piece) → ArePieces params rest ps → ArePieces params s (done ++ ps)

pub LeadsTo-step : (params : Params) (s : List ℕ) (done : List Piece) (rest : List ℕ) (p : Piece) (tail : List ℕ) → LeadsTo params s done rest → rest ≡ source p ++ tail → IsFirstPiece params rest p
    → LeadsTo params s (done ++ p ∷ []) tail
LeadsTo-step params s done rest p tail leads e first ps h =
    subst (λ (qs : List Piece). ArePieces params s qs) (sym (append_assoc done (p ∷ []) ps)) (leads (p ∷ ps) (tail, e, first, h))

pub replaced-push : (done : List Piece) (p : Piece) → replaced (done ++ p ∷ []) ≡ replaced done ++ target p
replaced-push done p = flat_map-append target done (p ∷ []) ∙ ap (λ t. replaced done ++ t) (append-nil (target p))

-- a text with the values is what was put for what was passed, and then what is put for the rest
pub values_pushed : (params : Params) (s done rest put tail : List ℕ) → with_values params s ≡ done ++ with_values params rest → with_values params rest ≡ put ++ with_values params tail
    → with_values params s ≡ (done ++ put) ++ with_values params tail
values_pushed params s done rest put tail whole step = whole ∙ (ap (λ (t : List ℕ). done ++ t) step ∙ sym (append_assoc done put (with_values params tail)))

-- the push that found no room, or no memory
pub push_refused : (e : StringFault) (limit : ℕ) (params : Params) (s done rest : List ℕ) → with_values params s ≡ done ++ rest → IsOfLimit e limit (words done)
    → IsOfLimit e limit (words (with_values params s))
push_refused F02 limit params s done rest is h = h
push_refused F03 limit params s done rest is h = h
push_refused F04 limit params s done rest is h = h
push_refused F06 limit params s done rest is h = rw is (IsLongerThan-append limit done rest h)
push_refused Memory limit params s done rest is h = h

-- behind the checks of the keys only the result has faults
pub IsReplaceFault-checked : (e : StringFault) (params : Params) (s : List ℕ) (strict : Bool) → HasNoEmptyKey params → (IsTrue strict → HasEveryKey params s) → IsOfReplaced e 1048576 params s
    → IsReplaceFault e params s strict
IsReplaceFault-checked F02 params s strict some all h = h
IsReplaceFault-checked F03 params s strict some all h = absurd h
IsReplaceFault-checked F04 params s strict some all h = absurd h
IsReplaceFault-checked F06 params s strict some all h = (some, all, h)
IsReplaceFault-checked Memory params s strict some all h = h

pub IsWithinFault-checked : (e : StringFault) (limit : ℕ) (params : Params) (s : List ℕ) → HasNoEmptyKey params → IsOfReplaced e limit params s → IsWithinFault e limit params s
IsWithinFault-checked F02 limit params s some h = h
IsWithinFault-checked F03 limit params s some h = absurd h
IsWithinFault-checked F04 limit params s some h = h
IsWithinFault-checked F06 limit params s some h = (some, h)
IsWithinFault-checked Memory limit params s some h = h

pub OnOk-always : {T E P : Type 0} (r : Result T E) → P → OnOk r P
OnOk-always (Ok v) h = h
OnOk-always (Err e) h = tt
