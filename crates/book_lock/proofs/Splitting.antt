-- Cutting a view in two keeps the rule.
use Rattle.std.proofs.Common.{◌≡◌, ◌+◌, ◌++◌, ℕ, List, [], ◌∷◌, sym, ap, ◌∙◌, subst, inl, inr, ⊎_elim, arith}
use Rattle.std.specs.Prelude.{Option, slice_set, sum_by}
use Rattle.std.proofs.lemmas.List.Elements.{All-cons, All-nil}
use Rattle.std.proofs.lemmas.List.Sums.{sum_by_push}
use mathlib.Core.Logic.{dite}
use mathlib.Core.Option as maybe
use native.Mathlib.Decide.{ℕ_discrete}
use lib.ListN.{get_elem?}
use Rattle.atomic_table.specs.Table.{State, Splits}
use Rattle.atomic_table.proofs.Lists.{set_here, set_else, at_longer, at_snoc}
use Rattle.book_lock.specs.declared.view.Stand.{Stand}
use Rattle.book_lock.specs.declared.view.View.{View}
use Rattle.book_lock.specs.declared.view.View.TheVariants.{Live}
use Rattle.book_lock.specs.declared.view.Role.TheVariants as role
use Rattle.book_lock.specs.Rule.{IsAccount, Fits, Kept, IsKept, has_ticket, is_on, has_place}
use Rattle.book_lock.specs.Steps.{changed, elder, younger}
use Rattle.book_lock.proofs.Counts.{sum_set}
use Rattle.book_lock.proofs.NamesLemmas.{on_split}
use Rattle.book_lock.proofs.Prefixes.{All-head}
use Rattle.book_lock.proofs.Views.{one_at, live-injective, each_set, within}

module _ {T E O : Type 0} (list : T → List E) (origin : T → O) (opening : T) where
  -- the sum over the views after a split
  sum_cut : (f : View T → ℕ) (views : List (View T)) (id : ℕ) (v : Stand T) → get_elem? views id ≡ maybe.some (Live v) → f (Live (elder v)) + f (Live (younger v)) ≡ f (Live v)
      → sum_by f (slice_set views id (Live (elder v)) ++ Live (younger v) ∷ []) ≡ sum_by f views
  sum_cut f views id v here same = omega (arith, sum_by_push f (slice_set views id (Live (elder v))) (Live (younger v)), sum_set f views id (Live v) (Live (elder v)) here, same)

  younger_fits : (serving : ℕ) (log : List E) (v : Stand T) → Fits list origin opening serving log v → Fits list origin opening serving log (younger v)
  younger_fits serving log v fits =
      let own = All-head (IsAccount list origin opening log) v.own v.joined fits.accounts in
      record {
        opened = fits.opened;
        accounts = All-cons (IsAccount list origin opening log) (younger v).own []
            (record { begins = own.begins; same = own.same; rising = λ k h. absurd (omega arith); within = λ k d h. absurd (omega arith) })
            (All-nil (IsAccount list origin opening log));
        served = λ t e. let wrong : role.Idle ≡ role.Holds t = e in cc;
      }

  halved : (s : State (Option T) (View T)) (id ticket serving : ℕ) (log : List E) (v : Stand T) → Kept list origin opening ticket serving log s → get_elem? s.views id ≡ maybe.some (Live v)
      → Kept list origin opening ticket serving log (record { words = s.words; homes = s.homes; views = slice_set s.views id (Live (elder v)) ++ Live (younger v) ∷ [] })
  halved s id ticket serving log v k here =
      let fits = k.each id v here in
      let cut = slice_set s.views id (Live (elder v)) in
      record {
        words = k.words;
        small = k.small;
        served = k.served;
        begun = k.begun;
        place = ⊎_elim
            (λ h. inl (record { value = h.value; homes = h.homes; shown = h.shown; same = h.same }))
            (λ o. inr (dite (ℕ_discrete o.by id)
            (λ same.
            let one : o.holder ≡ v = live-injective o.holder v (one_at s.views o.by id (Live o.holder) (Live v) same o.there here) in
            record {
              homes = o.homes;
              by = id;
              holder = elder v;
              there = at_longer cut (Live (younger v) ∷ []) id (Live (elder v)) (set_here s.views id (Live (elder v)) (within s.views id (Live v) here));
              holds = ap (λ (y : Stand T). y.role) (sym one) ∙ o.holds;
            })
            (λ other. record {
              homes = o.homes;
              by = o.by;
              holder = o.holder;
              there = at_longer cut (Live (younger v) ∷ []) o.by (Live o.holder) (set_else s.views id o.by (Live (elder v)) other ∙ o.there);
              holds = o.holds;
            })))
            k.place;
        tickets = λ x. sum_cut (has_ticket x) s.views id v here (omega arith) ∙ k.tickets x;
        names = λ row. sum_cut (is_on row) s.views id v here (on_split row v.name) ∙ k.names row;
        mines = λ x. sum_cut (has_place x) s.views id v here (omega arith) ∙ k.mines x;
        each = λ by u e. ⊎_elim
            (λ old. each_set (Fits list origin opening serving log) s.views id (elder v) (λ i w n d. k.each i w d) (record { opened = fits.opened; accounts = fits.accounts; served = fits.served }) by u old)
            (λ new. subst (Fits list origin opening serving log) (live-injective (younger v) u new) (younger_fits serving log v fits))
            (at_snoc cut (Live (younger v)) (Live u) by e);
      }

  pub splits_for : (id : ℕ) (view : View T) → (v : Stand T) × (view ≡ Live v) → Splits (IsKept list origin opening) id view (changed elder view) (changed younger view)
  splits_for id view (v, is) =
      subst (λ (w : View T). Splits (IsKept list origin opening) id w (changed elder w) (changed younger w)) (sym is)
      (λ s (ticket, serving, log, k) here. (ticket, serving, log, halved s id ticket serving log v k here))
