-- Names of resources rise with their numbers.
use Rattle.std.proofs.Common.{◌≡◌, ◌∙◌, ℕ, ◌+◌, ◌-◌, ◌<◌, ◌≤◌, ◌/◌, ◌%◌, ◌⊎◌, List, [], ◌∷◌, ◌++◌, length, replicate, sym, ap, inl, inr, arith, decimal}
use Rattle.std.specs.Ordering.{nat_cmp, ordering_then}
use Rattle.std.specs.Cmp.{nat_cmp_is}
use Rattle.std.specs.declared.cmp.Ordering.TheVariants.{Less, Equal}
use Rattle.std.specs.Cmp.Lexicographic.{slice_cmp}
use Rattle.std.proofs.lemmas.Bool.{cases_order}
use Rattle.std.proofs.lemmas.Fmt.{decimal_digit, decimal_step}
use Rattle.script_generator.specs.Resources.{four_digits, name_of}

-- four numbers as a list
abbrev four : ℕ → ℕ → ℕ → ℕ → List ℕ
four a b c d = a ∷ b ∷ c ∷ d ∷ []

-- the digits of a number below 10000
abbrev digits_of : ℕ → List ℕ
digits_of i = four (48 + i / 1000) (48 + i / 100 % 10) (48 + i / 10 % 10) (48 + i % 10)

-- four numbers that are equal, one by one
same_four : (a b c d p q r s : ℕ) → a ≡ p → b ≡ q → c ≡ r → d ≡ s → four a b c d ≡ four p q r s
same_four a b c d p q r s e f g h = λ j. four (e j) (f j) (g j) (h j)

one_digit : (i : ℕ) → i < 10 → four_digits i ≡ digits_of i
one_digit i low =
    ap (λ ds. replicate (4 - length ds) 48 ++ ds) (decimal_digit i low)
    ∙ same_four _ _ _ _ _ _ _ _ (omega arith) (omega arith) (omega arith) (omega arith)

two_digits : (i : ℕ) → 10 ≤ i → i < 100 → decimal i ≡ (48 + i / 10) ∷ (48 + i % 10) ∷ []
two_digits i high low =
    decimal_step i high (omega arith) ∙ ap (λ ds. ds ++ (48 + i % 10) ∷ []) (decimal_digit (i / 10) (omega arith))

three_digits : (i : ℕ) → 100 ≤ i → i < 1000 → decimal i ≡ (48 + i / 10 / 10) ∷ (48 + i / 10 % 10) ∷ (48 + i % 10) ∷ []
three_digits i high low =
    decimal_step i (omega arith) (omega arith) ∙ ap (λ ds. ds ++ (48 + i % 10) ∷ []) (two_digits (i / 10) (omega arith) (omega arith))

all_digits : (i : ℕ) → 1000 ≤ i → i < 10000 → decimal i ≡ four (48 + i / 10 / 10 / 10) (48 + i / 10 / 10 % 10) (48 + i / 10 % 10) (48 + i % 10)
all_digits i high low =
    decimal_step i (omega arith) (omega arith) ∙ ap (λ ds. ds ++ (48 + i % 10) ∷ []) (three_digits (i / 10) (omega arith) (omega arith))

below : (a b : ℕ) → (a < b) ⊎ (b ≤ a)
below a b = from (cases_order a b)
  where
    from : (a ≡ b) ⊎ ((a < b) ⊎ (b < a)) → (a < b) ⊎ (b ≤ a)
    from (inl same) = inr (omega arith)
    from (inr (inl less)) = inl less
    from (inr (inr more)) = inr (omega arith)

-- the four digits, whatever their number of zeros
are_digits : (i : ℕ) → i < 10000 → four_digits i ≡ digits_of i
are_digits i small = from (below i 10) (below i 100) (below i 1000)
  where
    from : (i < 10) ⊎ (10 ≤ i) → (i < 100) ⊎ (100 ≤ i) → (i < 1000) ⊎ (1000 ≤ i) → four_digits i ≡ digits_of i
    from (inl a) b c = one_digit i a
    from (inr a) (inl b) c =
        ap (λ ds. replicate (4 - length ds) 48 ++ ds) (two_digits i a b)
        ∙ same_four _ _ _ _ _ _ _ _ (omega arith) (omega arith) (omega arith) (omega arith)
    from (inr a) (inr b) (inl c) =
        ap (λ ds. replicate (4 - length ds) 48 ++ ds) (three_digits i b c)
        ∙ same_four _ _ _ _ _ _ _ _ (omega arith) (omega arith) (omega arith) (omega arith)
    from (inr a) (inr b) (inr c) =
        ap (λ ds. replicate (4 - length ds) 48 ++ ds) (all_digits i c small)
        ∙ same_four _ _ _ _ _ _ _ _ (omega arith) (omega arith) (omega arith) (omega arith)

-- a list is less where its first number is, or where that is the same and the rest is less
by_first : (x y : ℕ) (xs ys : List ℕ) → x < y → slice_cmp nat_cmp (x ∷ xs) (y ∷ ys) ≡ Less
by_first x y xs ys less = ap (λ o. ordering_then o (slice_cmp nat_cmp xs ys)) (sym (nat_cmp_is x y Less less))

by_rest : (x y : ℕ) (xs ys : List ℕ) → x ≡ y → slice_cmp nat_cmp xs ys ≡ Less → slice_cmp nat_cmp (x ∷ xs) (y ∷ ys) ≡ Less
by_rest x y xs ys same rest = ap (λ o. ordering_then o (slice_cmp nat_cmp xs ys)) (sym (nat_cmp_is x y Equal same)) ∙ rest

-- four numbers are less where the first that isn't the same is
four_less : (a b c d p q r s : ℕ) → (a < p) ⊎ ((a ≡ p) × ((b < q) ⊎ ((b ≡ q) × ((c < r) ⊎ ((c ≡ r) × (d < s))))))
    → slice_cmp nat_cmp (four a b c d) (four p q r s) ≡ Less
four_less a b c d p q r s (inl l) = by_first a p (b ∷ c ∷ d ∷ []) (q ∷ r ∷ s ∷ []) l
four_less a b c d p q r s (inr (e, inl l)) =
    by_rest a p (b ∷ c ∷ d ∷ []) (q ∷ r ∷ s ∷ []) e (by_first b q (c ∷ d ∷ []) (r ∷ s ∷ []) l)
four_less a b c d p q r s (inr (e, inr (f, inl l))) =
    by_rest a p (b ∷ c ∷ d ∷ []) (q ∷ r ∷ s ∷ []) e (by_rest b q (c ∷ d ∷ []) (r ∷ s ∷ []) f (by_first c r (d ∷ []) (s ∷ []) l))
four_less a b c d p q r s (inr (e, inr (f, inr (g, l)))) =
    by_rest a p (b ∷ c ∷ d ∷ []) (q ∷ r ∷ s ∷ []) e
    (by_rest b q (c ∷ d ∷ []) (r ∷ s ∷ []) f (by_rest c r (d ∷ []) (s ∷ []) g (by_first d s [] [] l)))

-- what is at most another is less, or the same
less_or_same : (a p : ℕ) (R : Type 0) → a ≤ p → (a ≡ p → R) → (a < p) ⊎ ((a ≡ p) × R)
less_or_same a p R most then = from (cases_order a p)
  where
    from : (a ≡ p) ⊎ ((a < p) ⊎ (p < a)) → (a < p) ⊎ ((a ≡ p) × R)
    from (inl same) = inr (same, then same)
    from (inr (inl less)) = inl less
    from (inr (inr more)) = absurd (omega arith)

-- the digits of a lesser number are less
digits_rise : (i j : ℕ) → i < j → j < 10000 → slice_cmp nat_cmp (digits_of i) (digits_of j) ≡ Less
digits_rise i j less small =
    four_less (48 + i / 1000) (48 + i / 100 % 10) (48 + i / 10 % 10) (48 + i % 10)
    (48 + j / 1000) (48 + j / 100 % 10) (48 + j / 10 % 10) (48 + j % 10)
    (less_or_same (48 + i / 1000) (48 + j / 1000) _ (omega arith)
    (λ e. less_or_same (48 + i / 100 % 10) (48 + j / 100 % 10) _ (omega arith)
    (λ f. less_or_same (48 + i / 10 % 10) (48 + j / 10 % 10) _ (omega arith) (λ g. omega arith))))

-- the name of a lesser number is less
pub name_rises : (i j : ℕ) → i < j → j < 10000 → slice_cmp nat_cmp (name_of i) (name_of j) ≡ Less
name_rises i j less small =
    (λ k. slice_cmp nat_cmp (114 ∷ are_digits i (omega arith) k) (114 ∷ are_digits j small k)) ∙ digits_rise i j less small
