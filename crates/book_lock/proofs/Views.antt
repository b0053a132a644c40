-- The views, of which one changes while the others stay.
use Rattle.std.proofs.Common.{◌≡◌, ◌≢◌, ◌<◌, ℕ, zero, suc, List, [], ◌∷◌, length, set, refl, sym, ap, subst, ◌∙◌, ⊎_elim, arith}
use Rattle.std.specs.Prelude.{sum_by, slice_index, slice_set}
use mathlib.Core.Option.{some, some-injective, some-ne-none}
use lib.ListN.{get_elem?}
use Rattle.atomic_table.specs.Table.{State, Act, stepped}
use Rattle.atomic_table.proofs.Lists.{at_set, set_again}
use Rattle.book_lock.specs.declared.view.Stand.{Stand}
use Rattle.book_lock.specs.declared.view.View.{View}
use Rattle.book_lock.specs.declared.view.View.TheVariants.{Live}
use Rattle.book_lock.proofs.Counts.{sum_set}

pub within : {A : Type 0} (l : List A) (i : ℕ) (a : A) → get_elem? l i ≡ some a → i < length l
within [] i a e = absurd (some-ne-none a (sym e))
within (x ∷ xs) zero a e = omega arith
within (x ∷ xs) (suc i) a e = omega (arith, within xs i a e)

-- a list has one element at a place
pub one_at : {A : Type 0} (l : List A) (i j : ℕ) (a b : A) → i ≡ j → get_elem? l i ≡ some a → get_elem? l j ≡ some b → a ≡ b
one_at l i j a b same e d = some-injective a b (sym (subst (λ (n : ℕ). get_elem? l n ≡ some a) same e) ∙ d)

pub live-injective : {T : Type 0} (v w : Stand T) → Live v ≡ Live w → v ≡ w
live-injective v w e = cc

module _ {T : Type 0} where
  -- a fact of each pass that is in use
  abbrev pub Each : (Stand T → Type 0) → List (View T) → Type 0
  Each P views = (by : ℕ) (stand : Stand T) → get_elem? views by ≡ some (Live stand) → P stand

  -- it is kept where one view changes, if it holds of the others and of the new one
  pub each_set : (P : Stand T → Type 0) (views : List (View T)) (id : ℕ) (w : Stand T) → ((by : ℕ) (u : Stand T) → by ≢ id → get_elem? views by ≡ some (Live u) → P u) → P w
      → Each P (set views id (Live w))
  each_set P views id w others new by u e = ⊎_elim (λ p. subst P (live-injective w u p.1) new) (λ p. others by u p.0 p.1) (at_set views id by (Live w) (Live u) e)

  -- a sum stays where the view that changes counts as much as before
  pub sum_same : (f : View T → ℕ) (views : List (View T)) (id : ℕ) (v w : View T) → get_elem? views id ≡ some v → f w ≡ f v → sum_by f (set views id w) ≡ sum_by f views
  sum_same f views id v w here same = omega (arith, sum_set f views id v w here, same)

-- the two words
pub first_is : (ws : List ℕ) (a b : ℕ) → ws ≡ a ∷ b ∷ [] → slice_index ws 0 ≡ a
first_is ws a b e = subst (λ (xs : List ℕ). slice_index xs 0 ≡ a) (sym e) refl

pub second_is : (ws : List ℕ) (a b : ℕ) → ws ≡ a ∷ b ∷ [] → slice_index ws 1 ≡ b
second_is ws a b e = subst (λ (xs : List ℕ). slice_index xs 1 ≡ b) (sym e) refl

pub first_set : (ws : List ℕ) (a b c : ℕ) → ws ≡ a ∷ b ∷ [] → slice_set ws 0 c ≡ c ∷ b ∷ []
first_set ws a b c e = subst (λ (xs : List ℕ). slice_set xs 0 c ≡ c ∷ b ∷ []) (sym e) refl

pub second_set : (ws : List ℕ) (a b c : ℕ) → ws ≡ a ∷ b ∷ [] → slice_set ws 1 c ≡ a ∷ c ∷ []
second_set ws a b c e = subst (λ (xs : List ℕ). slice_set xs 1 c ≡ a ∷ c ∷ []) (sym e) refl

-- a step that changes nothing
pub first_same : {S V : Type 0} (s : State S V) (id : ℕ) (v : V) (a b : ℕ) → s.words ≡ a ∷ b ∷ [] → get_elem? s.views id ≡ some v
    → stepped s 0 (slice_index s.words 0) id [] v Act.keeps ≡ s
first_same s id v a b e here =
    let ws : slice_set s.words 0 (slice_index s.words 0) ≡ s.words = first_set s.words a b (slice_index s.words 0) e ∙ ap (λ (n : ℕ). n ∷ b ∷ []) (first_is s.words a b e) ∙ sym e in
    let vs = set_again s.views id v here in
    λ i. record { words = ws i; homes = s.homes; views = vs i }

pub second_same : {S V : Type 0} (s : State S V) (id : ℕ) (v : V) (a b : ℕ) → s.words ≡ a ∷ b ∷ [] → get_elem? s.views id ≡ some v
    → stepped s 1 (slice_index s.words 1) id [] v Act.keeps ≡ s
second_same s id v a b e here =
    let ws : slice_set s.words 1 (slice_index s.words 1) ≡ s.words = second_set s.words a b (slice_index s.words 1) e ∙ ap (λ (n : ℕ). a ∷ n ∷ []) (second_is s.words a b e) ∙ sym e in
    let vs = set_again s.views id v here in
    λ i. record { words = ws i; homes = s.homes; views = vs i }
