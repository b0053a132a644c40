-- What holds of each record of a table, behind a put and a cut.
use Rattle.std.proofs.Common.{◌≡◌, ◌≢◌, inl, inr, Bool, List, [], ◌∷◌}
use Rattle.std.specs.Prelude.{Decides}
use Rattle.std.specs.List.{AllByRecursion}
use Rattle.heat_plan.specs.Tables.{cut, put}
use Rattle.history_laws.proofs.tables.Tables.{cases}

module _ {K A : Type 0} (same : K → K → Bool) (decides : (x y : K) → Decides (same x y) (x ≡ y)) (key : A → K) where
  pub all_put : (P : A → Type 0) (x : A) (xs : List A) → P x → AllByRecursion P xs → AllByRecursion P (put same key x xs)
  unfolding put
  all_put P x [] p h = (p, tt)
  all_put P x (y ∷ ys) p h = elim (cases same decides key (key y) (key x)) [
    | inl is ↦ rw is.0 (p, h.1)
    | inr not ↦ rw not.0 (h.0, all_put P x ys p h.1)
  ]

  -- where what holds of each may become another thing of those that stay
  pub all_cut : (P Q : A → Type 0) (c : K) (xs : List A) → ((x : A) → key x ≢ c → P x → Q x) → AllByRecursion P xs
      → AllByRecursion Q (cut same key c xs)
  unfolding cut
  all_cut P Q c [] f h = tt
  all_cut P Q c (y ∷ ys) f h = elim (cases same decides key (key y) c) [
    | inl is ↦ rw is.0 (all_cut P Q c ys f h.1)
    | inr not ↦ rw not.0 (f y not.1 h.0, all_cut P Q c ys f h.1)
  ]

pub all_weaker : {A : Type 0} (P Q : A → Type 0) (xs : List A) → ((x : A) → P x → Q x) → AllByRecursion P xs → AllByRecursion Q xs
all_weaker P Q [] f h = tt
all_weaker P Q (x ∷ xs) f h = (f x h.0, all_weaker P Q xs f h.1)
