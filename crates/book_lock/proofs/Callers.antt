-- For whoever has the passes of a lock: they are all that there are, before and after the passes are split and used.
use Rattle.std.proofs.Common.{◌≡◌, ◌<◌, ◌+◌, ◌++◌, ℕ, suc, Bool, List, [], ◌∷◌, length, get_or, take, drop, append-nil, refl, sym, ap, ◌∙◌, subst, arith}
use Rattle.std.specs.Prelude.{sum_by, All}
use Rattle.std.proofs.lemmas.List.Elements.{All-nil, All-cons, All-append}
use Rattle.book_lock.proofs.Prefixes.{All-left}
use Rattle.std.proofs.Math.ListN.{drop_of_length-le}
use Rattle.std.proofs.Math.Seq.{take-length}
use Rattle.std.proofs.lemmas.List.Sums.{sum_by-cons, sum_by_push}
use Rattle.book_lock.specs.Names.{on}
use Rattle.book_lock.specs.Standing.{Standing}
use Rattle.book_lock.specs.Closing.{AreAll, StandFor, KeepNames}

-- a sum over lists that count the same at each place
sum_same : {X : Type 0} (f : X → ℕ) (xs ys : List X) → length ys ≡ length xs → ((k : ℕ) (d : X) → k < length xs → f (get_or ys k d) ≡ f (get_or xs k d)) → sum_by f ys ≡ sum_by f xs
sum_same f [] [] e same = refl
sum_same f [] (y ∷ ys) e same = absurd (omega arith)
sum_same f (x ∷ xs) [] e same = absurd (omega arith)
sum_same f (x ∷ xs) (y ∷ ys) e same =
    omega (arith, sum_by-cons f x xs, sum_by-cons f y ys, same 0 x (omega arith), sum_same f xs ys (omega arith) (λ k d h. same (suc k) d (omega (arith, h))))

module _ {T : Type 0} where
  -- how many of the passes the row begins with
  abbrev pub count_on : (ℕ → Bool) → List (Standing T) → ℕ
  count_on row passes = sum_by (λ (pass : Standing T). on row pass.name) passes

  pub count_none : (row : ℕ → Bool) (passes : List (Standing T)) → length passes ≡ 0 → count_on row passes ≡ 0
  count_none row [] e = refl
  count_none row (pass ∷ passes) e = absurd (omega (arith, e))

  -- passes that keep their names stay all that there are
  pub all_same : (xs ys : List (Standing T)) → length ys ≡ length xs → KeepNames xs ys → AreAll xs → AreAll ys
  all_same xs ys e same all row = sum_same (λ (pass : Standing T). on row pass.name) xs ys e (λ k d h. ap (on row) (same k d h)) ∙ all row

  -- the same of a vector whose passes were lent as a slice
  pub all_lent : (n : ℕ) (xs ys : List (Standing T)) → n ≡ length xs → length ys ≡ length xs → KeepNames xs ys → AreAll xs → AreAll (take n (ys ++ drop (length ys) xs))
  all_lent n xs ys long e same all =
      let none : drop (length ys) xs ≡ [] = drop_of_length-le xs (omega (arith, e)) in
      let whole : take n (ys ++ drop (length ys) xs) ≡ ys
      = ap (λ (l : List (Standing T)). take n (ys ++ l)) none ∙ ap (take n) (append-nil ys) ∙ ap (λ (m : ℕ). take m ys) (long ∙ sym e) ∙ take-length ys in
      subst AreAll (sym whole) (all_same xs ys e same all)

  -- a pass is taken from one list, and the two that it was split into go to another
  pub count_split : (row : ℕ → Bool) (from left to after : List (Standing T)) (pass elder younger : Standing T) → from ≡ left ++ pass ∷ [] → after ≡ (to ++ younger ∷ []) ++ elder ∷ [] → StandFor pass elder younger
      → count_on row to + count_on row from ≡ 1 → count_on row after + count_on row left ≡ 1
  count_split row from left to after pass elder younger taken given both all =
      let f = λ (p : Standing T). on row p.name in
      omega (arith, ap (sum_by f) taken, ap (sum_by f) given, sum_by_push f left pass, sum_by_push f to younger, sum_by_push f (to ++ younger ∷ []) elder, both row, all)

  -- a pass at the end of a list gives way to the two that it was split into
  pub all_split : (from left after : List (Standing T)) (pass elder younger : Standing T) → from ≡ left ++ pass ∷ [] → after ≡ (left ++ younger ∷ []) ++ elder ∷ [] → StandFor pass elder younger → AreAll from → AreAll after
  all_split from left after pass elder younger taken given both all row =
      let f = λ (p : Standing T). on row p.name in
      omega (arith, ap (sum_by f) taken, ap (sum_by f) given, sum_by_push f left pass, sum_by_push f left younger, sum_by_push f (left ++ younger ∷ []) elder, both row, all row)

  -- what is true of each pass but the last, and of the two
  pub each_split : (P : Standing T → Type 0) (from left after : List (Standing T)) (pass elder younger : Standing T) → from ≡ left ++ pass ∷ [] → after ≡ (left ++ younger ∷ []) ++ elder ∷ [] → P elder → P younger → All P from → All P after
  each_split P from left after pass elder younger taken given first second all =
      let before : All P left = All-left P left (pass ∷ []) (subst (All P) taken all) in
      subst (All P) (sym given)
      (All-append P (left ++ younger ∷ []) (elder ∷ []) (All-append P left (younger ∷ []) before (All-cons P younger [] second (All-nil P))) (All-cons P elder [] first (All-nil P)))
