-- Fronts and rests of lists of bytes, and what a write makes of them.
use Rattle.std.proofs.Common.{◌≡◌, ℕ, ◌+◌, ◌<◌, ◌≤◌, List, [], ◌∷◌, ◌++◌, length, get_or, take, drop, sym, ◌∙◌, ap, arith, append_assoc, length-append, take-append-drop}
use Rattle.std.proofs.lemmas.List.{take_at, drop_at, drop_more, drop-drop, length-take, length-drop, length-take-le}
use Rattle.heat_disk.specs.Images.{overwritten, Torn}

-- a front, and what is in front of the rest
pub front_more : (n : ℕ) (bytes s tail : List ℕ) → n ≤ length bytes → drop n bytes ≡ s ++ tail → take (n + length s) bytes ≡ take n bytes ++ s
front_more n bytes s tail within rest =
    let whole : bytes ≡ take n bytes ++ s ++ tail =
    sym (take-append-drop n bytes) ∙ ap (λ (l : List ℕ). take n bytes ++ l) rest ∙ sym (append_assoc (take n bytes) s tail) in
    let long : length (take n bytes ++ s) ≡ n + length s = omega (arith, length-append (take n bytes) s, length-take-le n bytes within) in
    ap (take (n + length s)) whole ∙ take_at (take n bytes ++ s) tail (n + length s) long

-- what stands behind both
pub behind_more : (n : ℕ) (bytes front s tail : List ℕ) → length front ≡ n → bytes ≡ front ++ s ++ tail → drop (n + length s) bytes ≡ tail
behind_more n bytes front s tail long parts =
    let both : length (front ++ s) ≡ n + length s = omega (arith, length-append front s, long) in
    ap (drop (n + length s)) parts ∙ drop_at (front ++ s) tail (n + length s) both

-- where something stands, the bytes go on
pub goes_past : (n : ℕ) (bytes : List ℕ) (x : ℕ) (rest : List ℕ) → drop n bytes ≡ x ∷ rest → n < length bytes
goes_past n bytes x rest here = omega (arith, ap length here, length-drop n bytes)

module _ (n : ℕ) (bytes : List ℕ) (x : ℕ) (rest : List ℕ) (here : drop n bytes ≡ x ∷ rest) where
  within : n < length bytes
  within = goes_past n bytes x rest here

  one_more : take (n + 1) bytes ≡ take n bytes ++ x ∷ []
  one_more = front_more n bytes (x ∷ []) rest (omega (arith, within)) here

  later : drop (n + 1) bytes ≡ rest
  later = sym (drop-drop 1 n bytes) ∙ ap (drop 1) here

  -- a write behind it leaves it, also where a crash breaks it off
  pub torn_behind : (k : ℕ) (c : List ℕ) → Torn (n + 1) k bytes c → c ≡ take n bytes ++ x ∷ drop (n + 1) c
  torn_behind k c torn =
      let long : length (take (n + 1) bytes) ≡ n + 1 = length-take-le (n + 1) bytes (omega (arith, within)) in
      let front : take (n + 1) c ≡ take n bytes ++ x ∷ [] = ap (λ (i : ℕ). take i c) (sym long) ∙ torn.front ∙ one_more in
      sym (take-append-drop (n + 1) c) ∙ ap (λ (l : List ℕ). l ++ drop (n + 1) c) front ∙ append_assoc (take n bytes) (x ∷ []) (drop (n + 1) c)

  -- a write of it alone leaves all else
  pub torn_at : (c : List ℕ) → Torn n 1 bytes c → c ≡ take n bytes ++ get_or c n 0 ∷ rest
  torn_at c torn =
      let long : length (take n bytes) ≡ n = length-take-le n bytes (omega (arith, within)) in
      let front : take n c ≡ take n bytes = ap (λ (i : ℕ). take i c) (sym long) ∙ torn.front in
      let back : drop n c ≡ get_or c n 0 ∷ rest =
      drop_more c n 0 (omega (arith, within, torn.no_shorter)) ∙ ap (λ (l : List ℕ). get_or c n 0 ∷ l) (torn.behind ∙ later) in
      sym (take-append-drop n c) ∙ ap (λ (l : List ℕ). l ++ drop n c) front ∙ ap (λ (l : List ℕ). take n bytes ++ l) back

  pub written_behind : (more : List ℕ) → overwritten (n + 1) more bytes ≡ take n bytes ++ x ∷ (more ++ drop (n + 1 + length more) bytes)
  written_behind more =
      let rest_now = drop (n + 1 + length more) bytes in
      ap (λ (l : List ℕ). l ++ more ++ rest_now) one_more
      ∙ ap (λ (l : List ℕ). l ++ rest_now) (append_assoc (take n bytes) (x ∷ []) more)
      ∙ append_assoc (take n bytes) (x ∷ more) rest_now

  pub written_at : (y : ℕ) → overwritten n (y ∷ []) bytes ≡ take n bytes ++ y ∷ rest
  written_at y =
      append_assoc (take n bytes) (y ∷ []) (drop (n + 1) bytes) ∙ ap (λ (l : List ℕ). take n bytes ++ y ∷ l) later

  -- what a front of that length and these bytes stand for
  pub behind_front : (c tail : List ℕ) → c ≡ take n bytes ++ tail → drop n c ≡ tail
  behind_front c tail parts = ap (drop n) parts ∙ drop_at (take n bytes) tail n (length-take-le n bytes (omega (arith, within)))

  pub same_front : (c tail : List ℕ) → c ≡ take n bytes ++ tail → take n c ≡ take n bytes
  same_front c tail parts = ap (take n) parts ∙ take_at (take n bytes) tail n (length-take-le n bytes (omega (arith, within)))

pub no_shorter : (at : ℕ) (more bytes : List ℕ) → length bytes ≤ length (overwritten at more bytes)
no_shorter at more bytes = omega (arith, length-append (take at bytes ++ more) (drop (at + length more) bytes), length-append (take at bytes) more, length-take at bytes, length-drop (at + length more) bytes)
