-- A cut, from the last record to the first.
use Rattle.std.proofs.Common.{◌≡◌, ◌<◌, ◌+◌, ◌∙◌, ℕ, Bool, true, false, cond, List, [], ◌∷◌, ◌++◌, length, get_or, take, drop, refl, sym, ap, append_assoc, append-nil, arith}
use Rattle.std.specs.Prelude.{remove, not}
use Rattle.std.proofs.lemmas.List.{take_more, drop_more, length-take-le, get_or_push}
use Rattle.std.proofs.lemmas.List.Edits.{remove-append_left}
use Rattle.std.proofs.Math.ListN.{get_or-append}
use Rattle.std.proofs.Math.Seq.{take-length}
use Rattle.heat_plan.specs.Tables.{cut}

remove-last : {A : Type 0} (xs : List A) (x : A) → remove (xs ++ x ∷ []) (length xs) ≡ xs
remove-last [] x = refl
remove-last (y ∷ ys) x = ap (λ (zs : _). y ∷ zs) (remove-last ys x)

drop-length : {A : Type 0} (xs : List A) → drop (length xs) xs ≡ []
drop-length [] = refl
drop-length (x ∷ xs) = drop-length xs

-- before the first turn nothing is cut
pub cut-none : {K A : Type 0} (same : K → K → Bool) (key : A → K) (k : K) (xs : List A)
    → xs ≡ take (length xs) xs ++ cut same key k (drop (length xs) xs)
unfolding cut
cut-none same key k xs = rw (drop-length xs, take-length xs, append-nil xs) refl

-- the record at a place is the last of those in front
part : {A : Type 0} (xs ys : List A) (j : ℕ) (x : A) → j < length xs
    → x ≡ get_or (take (j + 1) xs ++ ys) j x → get_or xs j x ≡ x
part xs ys j x lt read =
    let n : length (take j xs) ≡ j = length-take-le j xs (omega arith) in
    let m : length (take (j + 1) xs) ≡ j + 1 = length-take-le (j + 1) xs (omega arith) in
    sym (read ∙ get_or-append (take (j + 1) xs) ys x j (omega arith)
    ∙ ap (λ (l : List _). get_or l j x) (take_more xs j x lt) ∙ get_or_push (take j xs) (get_or xs j x) x j n)

pub cut-hit : {K A : Type 0} (same : K → K → Bool) (key : A → K) (k : K) (xs : List A) (j : ℕ) (x : A)
    → j < length xs → x ≡ get_or (take (j + 1) xs ++ cut same key k (drop (j + 1) xs)) j x → same (key x) k ≡ true
    → remove (take (j + 1) xs ++ cut same key k (drop (j + 1) xs)) j ≡ take j xs ++ cut same key k (drop j xs)
unfolding cut
cut-hit same key k xs j x lt read hit =
    let e : get_or xs j x ≡ x = part xs (cut same key k (drop (j + 1) xs)) j x lt read in
    let n : length (take j xs) ≡ j = length-take-le j xs (omega arith) in
    let m : length (take (j + 1) xs) ≡ j + 1 = length-take-le (j + 1) xs (omega arith) in
    remove-append_left (take (j + 1) xs) (cut same key k (drop (j + 1) xs)) j (omega arith)
    ∙ ap (λ (l : List _). l ++ cut same key k (drop (j + 1) xs))
    (ap (λ (l : List _). remove l j) (take_more xs j x lt) ∙ ap (λ (i : ℕ). remove (take j xs ++ get_or xs j x ∷ []) i) (sym n) ∙ remove-last (take j xs) (get_or xs j x))
    ∙ ap (λ (l : List _). take j xs ++ l) (sym (ap (cut same key k) (drop_more xs j x lt ∙ ap (λ (y : _). y ∷ drop (j + 1) xs) e) ∙ ap (λ (b : Bool). cond (not b) (x ∷ cut same key k (drop (j + 1) xs)) (cut same key k (drop (j + 1) xs))) hit))

pub cut-miss : {K A : Type 0} (same : K → K → Bool) (key : A → K) (k : K) (xs : List A) (j : ℕ) (x : A)
    → j < length xs → x ≡ get_or (take (j + 1) xs ++ cut same key k (drop (j + 1) xs)) j x → same (key x) k ≡ false
    → take (j + 1) xs ++ cut same key k (drop (j + 1) xs) ≡ take j xs ++ cut same key k (drop j xs)
unfolding cut
cut-miss same key k xs j x lt read miss =
    let e : get_or xs j x ≡ x = part xs (cut same key k (drop (j + 1) xs)) j x lt read in
    ap (λ (l : List _). l ++ cut same key k (drop (j + 1) xs)) (take_more xs j x lt ∙ ap (λ (y : _). take j xs ++ y ∷ []) e)
    ∙ append_assoc (take j xs) (x ∷ []) (cut same key k (drop (j + 1) xs))
    ∙ ap (λ (l : List _). take j xs ++ l) (sym (ap (cut same key k) (drop_more xs j x lt ∙ ap (λ (y : _). y ∷ drop (j + 1) xs) e) ∙ ap (λ (b : Bool). cond (not b) (x ∷ cut same key k (drop (j + 1) xs)) (cut same key k (drop (j + 1) xs))) miss))

pub cut-hit_at : {K A : Type 0} (same : K → K → Bool) (key : A → K) (k : K) (xs items : List A) (n j : ℕ) (x : A)
    → n ≡ j + 1 → items ≡ take n xs ++ cut same key k (drop n xs) → j < length xs → x ≡ get_or items j x → same (key x) k ≡ true
    → remove items j ≡ take j xs ++ cut same key k (drop j xs)
cut-hit_at same key k xs items n j x e is lt read hit =
    let is' : items ≡ take (j + 1) xs ++ cut same key k (drop (j + 1) xs) = rw (← e) is in
    ap (λ (l : List _). remove l j) is' ∙ cut-hit same key k xs j x lt (rw (← is') read) hit

pub cut-miss_at : {K A : Type 0} (same : K → K → Bool) (key : A → K) (k : K) (xs items : List A) (n j : ℕ) (x : A)
    → n ≡ j + 1 → items ≡ take n xs ++ cut same key k (drop n xs) → j < length xs → x ≡ get_or items j x → same (key x) k ≡ false
    → items ≡ take j xs ++ cut same key k (drop j xs)
cut-miss_at same key k xs items n j x e is lt read miss =
    let is' : items ≡ take (j + 1) xs ++ cut same key k (drop (j + 1) xs) = rw (← e) is in
    is' ∙ cut-miss same key k xs j x lt (rw (← is') read) miss
