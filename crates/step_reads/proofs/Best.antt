-- The least of a kind by its key, looked for from the first record to the last.
use Rattle.std.proofs.Common.{◌≡◌, ◌<◌, ◌≤◌, ◌⊎◌, inl, inr, ℕ, Bool, true, false, cond, List, [], ◌∷◌, ◌++◌, Some, None}
use Rattle.std.proofs.Common.{refl, arith}
use Rattle.std.specs.Prelude.{Option, nat_eq, nat_le}
use Rattle.std.proofs.lemmas.Bool.Decides.{Decides-eqb, nat_tests}
use Rattle.heat_plan.specs.Tables.{at}
use Rattle.step_reads.specs.Best.{first_by}

module _ {A : Type 0} (key : A → ℕ) where
  -- what is found in a list with one record more was found before, or is that record
  pub at_push : (seen : List A) (y : A) (n : ℕ) (x : A) → at nat_eq key (seen ++ y ∷ []) n ≡ Some x
      → (at nat_eq key seen n ≡ Some x) ⊎ ((at nat_eq key seen n ≡ None) × (key y ≡ n) × (y ≡ x))
  unfolding at
  at_push [] y n x h = by (nat_eq (key y) n) refl h where
    by : (b : Bool) → nat_eq (key y) n ≡ b → cond b (Some y) None ≡ Some x
        → (None ≡ Some x) ⊎ ((at nat_eq key [] n ≡ None) × (key y ≡ n) × (y ≡ x))
    by true e h = let is : y ≡ x = cc in inr (refl, (Decides-eqb (key y) n).0 e, is)
    by false e h = inl h
  at_push (z ∷ zs) y n x h = by (nat_eq (key z) n) (at_push zs y n x) h where
    by : (b : Bool) → (at nat_eq key (zs ++ y ∷ []) n ≡ Some x
        → (at nat_eq key zs n ≡ Some x) ⊎ ((at nat_eq key zs n ≡ None) × (key y ≡ n) × (y ≡ x)))
        → cond b (Some z) (at nat_eq key (zs ++ y ∷ []) n) ≡ Some x
        → (cond b (Some z) (at nat_eq key zs n) ≡ Some x) ⊎
        ((cond b (Some z) (at nat_eq key zs n) ≡ None) × (key y ≡ n) × (y ≡ x))
    by true rest h = inl h
    by false rest h = rest h

  -- what was found is found
  pub at_was : (seen : List A) (y : A) (n : ℕ) (x : A) → at nat_eq key seen n ≡ Some x
      → at nat_eq key (seen ++ y ∷ []) n ≡ Some x
  unfolding at
  at_was [] y n x h = cc
  at_was (z ∷ zs) y n x h = by (nat_eq (key z) n) (at_was zs y n x) h where
    by : (b : Bool) → (at nat_eq key zs n ≡ Some x → at nat_eq key (zs ++ y ∷ []) n ≡ Some x)
        → cond b (Some z) (at nat_eq key zs n) ≡ Some x → cond b (Some z) (at nat_eq key (zs ++ y ∷ []) n) ≡ Some x
    by true rest h = h
    by false rest h = rest h

  -- where nothing had its key, the record is found
  pub at_new : (seen : List A) (y : A) → at nat_eq key seen (key y) ≡ None → at nat_eq key (seen ++ y ∷ [])
      (key y) ≡ Some y
  unfolding at
  at_new [] y h = let t : nat_eq (key y) (key y) ≡ true = (Decides-eqb (key y) (key y)).1 refl in rw t refl
  at_new (z ∷ zs) y h = by (nat_eq (key z) (key y)) (at_new zs y) h where
    by : (b : Bool) → (at nat_eq key zs (key y) ≡ None → at nat_eq key (zs ++ y ∷ []) (key y) ≡ Some y)
        → cond b (Some z) (at nat_eq key zs (key y)) ≡ None → cond b (Some z) (at nat_eq key (zs ++ y ∷ []) (key y)) ≡
        Some y
    by true rest h = cc
    by false rest h = rest h

  module _ (Of : ℕ → Type 0) where
    -- of what was seen the first record of the least key of the kind
    pub record IsLeastOf (seen : List A) (b : A) : Type 0 where
      pub found : at nat_eq key seen (key b) ≡ Some b
      pub of : Of (key b)
      pub least : (n : ℕ) (x : A) → at nat_eq key seen n ≡ Some x → Of n → key b ≤ n

    -- the best so far
    abbrev pub IsBest : List A → Option A → Type 0
    IsBest seen None = (n : ℕ) (x : A) → at nat_eq key seen n ≡ Some x → ¬ Of n
    IsBest seen (Some b) = IsLeastOf seen b

    pub best_more : (seen : List A) (best : Option A) (y : A) → Of (key y) → IsBest seen best
        → IsBest (seen ++ y ∷ []) (Some (first_by nat_le key best y))
    best_more seen None y is h = record {
      found = at_new seen y (none (at nat_eq key seen (key y)) refl);
      of = is;
      least = λ n x found of_n. elim (at_push seen y n x found) [
        | inl was ↦ absurd (h n x was of_n)
        | inr new ↦ (let (_, same, _) = new in omega (arith, same))
      ];
    }
      where
        none : (o : Option A) → at nat_eq key seen (key y) ≡ o → at nat_eq key seen (key y) ≡ None
        none None e = e
        none (Some x) e = absurd (h (key y) x e is)
    best_more seen (Some b) y is h = by (nat_le (key b) (key y)) refl where
      none : key y < key b → (o : Option A) → at nat_eq key seen (key y) ≡ o → at nat_eq key seen (key y) ≡ None
      none lt None e = e
      none lt (Some x) e = let le : key b ≤ key y = h.least (key y) x e is in absurd (omega (arith, lt, le))

      by : (t : Bool) → nat_le (key b) (key y) ≡ t → IsBest (seen ++ y ∷ []) (Some (cond t b y))
      by true e =
          let le : key b ≤ key y = grind (arith, nat_tests, e) in
          record {
            found = at_was seen y (key b) b h.found;
            of = h.of;
            least = λ n x found of_n. elim (at_push seen y n x found) [
              | inl was ↦ h.least n x was of_n
              | inr new ↦ (let (_, same, _) = new in omega (arith, same, le))
            ];
          }
      by false e =
          let lt : key y < key b = grind (arith, nat_tests, e) in
          record {
            found = at_new seen y (none lt (at nat_eq key seen (key y)) refl);
            of = is;
            least = λ n x found of_n. elim (at_push seen y n x found) [
              | inl was ↦ (let le : key b ≤ n = h.least n x was of_n in omega (arith, lt, le))
              | inr new ↦ (let (_, same, _) = new in omega (arith, same))
            ];
          }

    pub best_skip : (seen : List A) (best : Option A) (y : A) → ¬ Of (key y) → IsBest seen best
        → IsBest (seen ++ y ∷ []) best
    best_skip seen None y not h = λ n x found of_n. elim (at_push seen y n x found) [
      | inl was ↦ h n x was of_n
      | inr new ↦ (let (_, same, _) = new in not (rw same of_n))
    ]
    best_skip seen (Some b) y not h = record {
      found = at_was seen y (key b) b h.found;
      of = h.of;
      least = λ n x found of_n. elim (at_push seen y n x found) [
        | inl was ↦ h.least n x was of_n
        | inr new ↦ (let (_, same, _) = new in absurd (not (rw same of_n)))
      ];
    }
