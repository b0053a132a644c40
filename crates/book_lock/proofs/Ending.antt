-- The last pass and the rule say what holds of the value and of all passes.
use Rattle.std.proofs.Common.{◌≡◌, ◌≢◌, ℕ, zero, suc, Bool, false, List, [], ◌∷◌, Option, Some, All, length, refl, sym, ap, ◌∙◌, subst, ⊎_elim, arith}
use Rattle.std.specs.Prelude.{sum_by}
use Rattle.std.proofs.lemmas.List.Elements.{All-cons, All-nil}
use Rattle.std.proofs.lemmas.List.Sums.{sum_by-cons}
use mathlib.Core.List.{IsPrefix}
use mathlib.Core.Logic.{dite}
use mathlib.Core.Option as maybe
use native.Mathlib.Decide.{ℕ_discrete}
use lib.ListN.{get_elem?}
use Rattle.atomic_table.specs.Seated.{TableId}
use Rattle.atomic_table.specs.Table.{Me, Final, Seen}
use Rattle.book_lock.specs.declared.view.Stand.{Stand}
use Rattle.book_lock.specs.declared.view.View.{View}
use Rattle.book_lock.specs.declared.view.View.TheVariants.{Spent, Live}
use Rattle.book_lock.specs.declared.view.Role.TheVariants as role
use Rattle.book_lock.specs.Names.{on}
use Rattle.book_lock.specs.Places.{once_between}
use Rattle.book_lock.specs.Standing.{Standing, standing_of, stand_of, IsSeated}
use Rattle.book_lock.specs.Rule.{IsAccount, AtHome, IsKept, is_on, has_place, times_added, accounts_of}
use Rattle.book_lock.specs.Closing.{AreAll, Settled, accounts}
use Rattle.book_lock.proofs.Counts.{sum_two}
use Rattle.book_lock.proofs.NamesLemmas.{row_of, on_own}
use Rattle.book_lock.proofs.Passes.{idle_seat}
use Rattle.book_lock.proofs.Views.{one_at, live-injective}

module _ {A : Type 0} (f : A → ℕ) where
  -- a sum over elements that count nothing
  sum_none : (l : List A) → ((j : ℕ) (b : A) → get_elem? l j ≡ maybe.some b → f b ≡ 0) → sum_by f l ≡ 0
  sum_none [] none = refl
  sum_none (x ∷ xs) none = omega (arith, sum_by-cons f x xs, none 0 x refl, sum_none xs (λ j. none (suc j)))

  -- a sum over elements of which one alone counts
  sum_only : (l : List A) (i : ℕ) (a : A) → get_elem? l i ≡ maybe.some a → ((j : ℕ) (b : A) → j ≢ i → get_elem? l j ≡ maybe.some b → f b ≡ 0) → sum_by f l ≡ f a
  sum_only [] i a e none = absurd (maybe.some-ne-none a (sym e))
  sum_only (x ∷ xs) zero a e none =
      omega (arith, sum_by-cons f x xs, ap f (maybe.some-injective x a e), sum_none xs (λ j b d. none (suc j) b (λ h. omega (arith, h)) d))
  sum_only (x ∷ xs) (suc i) a e none =
      omega (arith, sum_by-cons f x xs, none 0 x (λ h. omega (arith, h)) refl, sum_only xs i a e (λ j b n d. none (suc j) b (λ h. n (omega (arith, h))) d))

module _ {T E O : Type 0} (list : T → List E) (origin : T → O) (opening : T) where
  -- where each row begins with the name of one pass, no other is in use
  no_other : (views : List (View T)) (id : ℕ) (v : Stand T) → ((row : ℕ → Bool) → sum_by (is_on row) views ≡ 1) → ((row : ℕ → Bool) → on row v.name ≡ 1) → get_elem? views id ≡ maybe.some (Live v)
      → (by : ℕ) (u : Stand T) → by ≢ id → get_elem? views by ≡ maybe.some (Live u) → ⊥
  no_other views id v names all here by u other there =
      omega (arith, names (row_of u.name), sum_two (is_on (row_of u.name)) views by id (Live u) (Live v) other there here, on_own u.name, all (row_of u.name))

  -- a view that is of no pass in use has no places
  nothing : (x : ℕ) (view : View T) → ((u : Stand T) → view ≡ Live u → ⊥) → has_place x view ≡ 0
  nothing x Spent none = refl
  nothing x (Live u) none = absurd (none u refl)

  pub ended : (table : TableId) (id : ℕ) (me : Me (Option T) (View T)) (name : List Bool) (holds : Bool) (words : List ℕ) (slots : List (Option T)) (taken : Option T) → holds ≡ false
      → IsSeated table me name holds → AreAll (standing_of table me name holds ∷ []) → Final (Seen (IsKept list origin opening) id me.0) words slots → get_elem? slots 0 ≡ maybe.some taken
      → (value : T) × (taken ≡ Some value) × Settled list origin opening (standing_of table me name holds ∷ []) value
  ended table id me name holds words slots taken free inv all (s, ((ticket, serving, log, k), at), same, sizes, values) took =
      let pass = standing_of table me name holds in
      let v = stand_of (standing_of table me name false) role.Idle in
      let is : me.0 ≡ Live v = ap (λ (m : Me (Option T) (View T)). m.0) (idle_seat table me name holds free inv) in
      let here : get_elem? s.views id ≡ maybe.some (Live v) = at ∙ ap maybe.some is in
      let alone = no_other s.views id v k.names (λ row. omega (arith, all row)) here in
      let fits = k.each id v here in
      let home : AtHome list origin opening log s = ⊎_elim (λ h. h)
      (λ o. absurd (dite (ℕ_discrete o.by id)
      (λ mine.
      let one : o.holder ≡ v = live-injective o.holder v (one_at s.views o.by id (Live o.holder) (Live v) mine o.there here) in
      let wrong : role.Holds serving ≡ role.Idle = sym o.holds ∙ ap (λ (y : Stand T). y.role) one in
      cc)
      (λ other. alone o.by o.holder other o.there)))
      k.place in
      let slot : get_elem? slots 0 ≡ maybe.some (Some home.value) = values 0 (Some home.value) (ap (λ (hs : List (maybe.Option (Option T))). get_elem? hs 0) home.homes) in
      let counted : (x : ℕ) → sum_by (has_place x) s.views ≡ times_added x (accounts_of v)
      = λ x. sum_only (has_place x) s.views id (Live v) here (λ j b other there. nothing x b (λ u e. alone j u other (there ∙ ap maybe.some e))) in (
        home.value,
        maybe.some-injective taken (Some home.value) (sym took ∙ slot),
        record {
          origin_stays = home.same;
          begins = subst (IsPrefix (list opening)) (sym home.shown) k.begun;
          accounts_fit = All-cons (λ (p : Standing T). All (IsAccount list origin opening (list home.value)) (accounts p)) pass []
              (subst (λ (l : List E). All (IsAccount list origin opening l) (accounts_of v)) (sym home.shown) fits.accounts)
              (All-nil (λ (p : Standing T). All (IsAccount list origin opening (list home.value)) (accounts p)));
          once = λ x.
              let long : once_between (length (list opening)) (length log) x ≡ once_between (length (list opening)) (length (list home.value)) x = ap (λ (l : List E). once_between (length (list opening)) (length l) x) (sym home.shown) in
              omega (arith, counted x, k.mines x, long);
        },
      )

  -- the same of what is seen from outside
  pub ended_pass : (end : T) (table : TableId) (id : ℕ) (me : Me (Option T) (View T)) (name : List Bool) (holds : Bool) (pass : Standing T) (words : List ℕ) (slots : List (Option T)) (taken : Option T)
      → opening ≡ end → standing_of table me name holds ≡ pass → pass.holds ≡ false → IsSeated table me name holds → AreAll (pass ∷ [])
      → Final (Seen (IsKept list origin opening) id me.0) words slots → get_elem? slots 0 ≡ maybe.some taken → (value : T) × (taken ≡ Some value) × Settled list origin end (pass ∷ []) value
  ended_pass end table id me name holds pass words slots taken same is free inv all last took =
      let whole : AreAll (standing_of table me name holds ∷ []) = subst (λ (p : Standing T). AreAll (p ∷ [])) (sym is) all in
      let (value, e, settled) = ended table id me name holds words slots taken (ap (λ (p : Standing T). p.holds) is ∙ free) inv whole last took in
      (value, e, subst (λ (o : T). Settled list origin o (pass ∷ []) value) same (subst (λ (p : Standing T). Settled list origin opening (p ∷ []) value) is settled))
