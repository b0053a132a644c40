-- Joining two views keeps the rule.
use Rattle.std.proofs.Common.{◌≡◌, ◌≢◌, ◌+◌, ℕ, Bool, not, List, refl, sym, ap, ◌∙◌, subst, inl, inr, ⊎_elim, arith}
use Rattle.std.specs.Prelude.{Option, slice_set, sum_by}
use Rattle.std.proofs.lemmas.List.Elements.{All-append}
use Rattle.std.proofs.lemmas.List.Sums.{sum_by-append}
use mathlib.Core.Option as maybe
use lib.ListN.{get_elem?}
use Rattle.atomic_table.specs.Table.{State, Joins}
use Rattle.atomic_table.proofs.Lists.{at_set, set_else}
use Rattle.book_lock.specs.declared.view.Account.{Account}
use Rattle.book_lock.specs.declared.view.Stand.{Stand}
use Rattle.book_lock.specs.declared.view.View.{View}
use Rattle.book_lock.specs.declared.view.View.TheVariants.{Spent, Live}
use Rattle.book_lock.specs.declared.view.Role.TheVariants as role
use Rattle.book_lock.specs.Names.{on, child, parent}
use Rattle.book_lock.specs.Places.{times}
use Rattle.book_lock.specs.Rule.{IsAccount, Fits, Kept, IsKept, has_ticket, is_on, has_place, times_drawn, accounts_of}
use Rattle.book_lock.specs.Steps.{both, merged, AreSiblings}
use Rattle.book_lock.proofs.Counts.{sum_set}
use Rattle.book_lock.proofs.NamesLemmas.{on_children, parent-child}
use Rattle.book_lock.proofs.Views.{one_at, live-injective, each_set}

module _ {T E O : Type 0} (list : T → List E) (origin : T → O) (opening : T) where
  -- the sum over the views after a join
  sum_join : (f : View T → ℕ) (views : List (View T)) (id other : ℕ) (v w : Stand T) → get_elem? views id ≡ maybe.some (Live v) → get_elem? (slice_set views id (Live (merged v w))) other ≡ maybe.some (Live w)
      → f (Live (merged v w)) ≡ f (Live v) + f (Live w) → f Spent ≡ 0 → sum_by f (slice_set (slice_set views id (Live (merged v w))) other Spent) ≡ sum_by f views
  sum_join f views id other v w here there both none =
      omega (arith, sum_set f views id (Live v) (Live (merged v w)) here, sum_set f (slice_set views id (Live (merged v w))) other (Live w) Spent there, both, none)

  joined : (s : State (Option T) (View T)) (id other ticket serving : ℕ) (log : List E) (v w : Stand T) (name : List Bool) (flag : Bool) → Kept list origin opening ticket serving log s
      → v.role ≡ role.Idle → w.role ≡ role.Idle → v.name ≡ child name flag → w.name ≡ child name (not flag) → other ≢ id
      → get_elem? s.views id ≡ maybe.some (Live v) → get_elem? (slice_set s.views id (Live (merged v w))) other ≡ maybe.some (Live w)
      → Kept list origin opening ticket serving log (record { words = s.words; homes = s.homes; views = slice_set (slice_set s.views id (Live (merged v w))) other Spent })
  joined s id other ticket serving log v w name flag k idle rests first second apart here there =
      let one = merged v w in
      let set = slice_set s.views id (Live one) in
      let old : get_elem? s.views other ≡ maybe.some (Live w) = sym (set_else s.views id other (Live one) apart) ∙ there in
      let fits = k.each id v here in
      let theirs = k.each other w old in
      let none : (x : ℕ) → has_ticket x (Live v) ≡ 0 = λ x. ap (times_drawn x) idle in
      let nothing : (x : ℕ) → has_ticket x (Live w) ≡ 0 = λ x. ap (times_drawn x) rests in
      let free : (by : ℕ) (u holder : Stand T) (i : ℕ) → u.role ≡ role.Idle → holder.role ≡ role.Holds serving → get_elem? s.views by ≡ maybe.some (Live holder) → get_elem? s.views i ≡ maybe.some (Live u) → by ≢ i
      = λ by u holder i idles holds e d same.
      let are : holder ≡ u = live-injective holder u (one_at s.views by i (Live holder) (Live u) same e d) in
      let wrong : role.Holds serving ≡ role.Idle = sym holds ∙ ap (λ (y : Stand T). y.role) are ∙ idles in
      cc in
      record {
        words = k.words;
        small = k.small;
        served = k.served;
        begun = k.begun;
        place = ⊎_elim
            (λ h. inl (record { value = h.value; homes = h.homes; shown = h.shown; same = h.same }))
            (λ o. inr (record {
              homes = o.homes;
              by = o.by;
              holder = o.holder;
              there = set_else set other o.by Spent (free o.by w o.holder other rests o.holds o.there old) ∙ set_else s.views id o.by (Live one) (free o.by v o.holder id idle o.holds o.there here) ∙ o.there;
              holds = o.holds;
            }))
            k.place;
        tickets = λ x. sum_join (has_ticket x) s.views id other v w here there (omega (arith, none x, nothing x)) refl ∙ k.tickets x;
        names = λ row.
            let up : on row (parent v.name) ≡ on row name = ap (on row) (ap parent first ∙ parent-child name flag) in
            sum_join (is_on row) s.views id other v w here there (omega (arith, up, on_children row name flag, ap (on row) first, ap (on row) second)) refl ∙ k.names row;
        mines = λ x. sum_join (has_place x) s.views id other v w here there (sum_by-append (λ (account : Account T). times x account.places) (accounts_of v) (accounts_of w)) refl ∙ k.mines x;
        each = λ by u e. ⊎_elim
            (λ p. let wrong : Spent ≡ Live u = p.1 in cc)
            (λ p. each_set (Fits list origin opening serving log) s.views id one (λ i y n d. k.each i y d) (record {
              opened = fits.opened;
              accounts = All-append (IsAccount list origin opening log) (accounts_of v) (accounts_of w) fits.accounts theirs.accounts;
              served = λ t d. let wrong : role.Idle ≡ role.Holds t = sym idle ∙ d in cc;
            }) by u p.1)
            (at_set set other by Spent (Live u) e);
      }

  pub joins_for : (id other : ℕ) (view theirs : View T) → (v : Stand T) × (w : Stand T) × (view ≡ Live v) × (theirs ≡ Live w) × AreSiblings v w
      → Joins (IsKept list origin opening) id view other theirs (both view theirs) Spent
  joins_for id other view theirs (v, w, is, are, siblings) =
      subst (λ (x : View T). Joins (IsKept list origin opening) id x other theirs (both x theirs) Spent) (sym is)
      (subst (λ (y : View T). Joins (IsKept list origin opening) id (Live v) other y (both (Live v) y) Spent) (sym are)
      (λ s (ticket, serving, log, k) here apart there.
      (ticket, serving, log, joined s id other ticket serving log v w siblings.name siblings.flag k siblings.idle siblings.rests siblings.first siblings.second apart here there)))
