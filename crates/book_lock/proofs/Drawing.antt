-- Drawing a ticket keeps the rule.
use Rattle.std.proofs.Common.{◌≡◌, ◌≢◌, ◌<◌, ◌+◌, ℕ, List, [], refl, sym, ap, ◌∙◌, subst, inl, inr, ⊎_elim, arith, suc}
use Rattle.std.specs.Prelude.{Option, slice_index, ◌==◌}
use mathlib.Core.Option as maybe
use lib.ListN.{get_elem?}
use prog.Atomic.{either}
use Rattle.atomic_table.specs.Table.{State, Step, Act, Me, Allows, stepped, Valid, carried_after}
use Rattle.atomic_table.proofs.Lists.{set_else, exchanged}
use Rattle.book_lock.specs.declared.view.Stand.{Stand}
use Rattle.book_lock.specs.declared.view.View.{View}
use Rattle.book_lock.specs.declared.view.View.TheVariants.{Live}
use Rattle.book_lock.specs.declared.view.Role.TheVariants as role
use Rattle.book_lock.specs.Places.{once_between}
use Rattle.book_lock.specs.Rule.{Fits, Kept, IsKept, has_ticket, is_on, has_place, times_drawn}
use Rattle.book_lock.specs.Steps.{waiting, IsIdle, Draws}
use Rattle.book_lock.proofs.Counts.{sum_set, once_split}
use Rattle.book_lock.proofs.Views.{one_at, live-injective, each_set, sum_same, first_is, first_set, first_same}

module _ {T E O : Type 0} (list : T → List E) (origin : T → O) (opening : T) where
  drawn : (s : State (Option T) (View T)) (id ticket serving : ℕ) (log : List E) (v : Stand T) → Kept list origin opening ticket serving log s
      → get_elem? s.views id ≡ maybe.some (Live v) → v.role ≡ role.Idle → ticket < 18446744073709551615
      → Kept list origin opening (ticket + 1) serving log (stepped s 0 (ticket + 1) id [] (Live (waiting ticket v)) Act.keeps)
  drawn s id ticket serving log v k here idle room =
      let w = waiting ticket v in
      let fits = k.each id v here in
      record {
        words = first_set s.words ticket serving (ticket + 1) k.words;
        small = omega (arith, room);
        served = omega (arith, k.served);
        begun = k.begun;
        place = ⊎_elim
            (λ h. inl (record { value = h.value; homes = h.homes; shown = h.shown; same = h.same }))
            (λ o.
            let other : o.by ≢ id = λ same.
            let one : o.holder ≡ v = live-injective o.holder v (one_at s.views o.by id (Live o.holder) (Live v) same o.there here) in
            let wrong : role.Holds serving ≡ role.Idle = sym o.holds ∙ ap (λ (y : Stand T). y.role) one ∙ idle in
            cc in
            inr (record { homes = o.homes; by = o.by; holder = o.holder; there = set_else s.views id o.by (Live w) other ∙ o.there; holds = o.holds }))
            k.place;
        tickets = λ x.
            let none_yet : has_ticket x (Live v) ≡ 0 = ap (times_drawn x) idle in
            let more : once_between serving ticket x + once_between ticket (suc ticket) x ≡ once_between serving (suc ticket) x = once_split serving ticket (suc ticket) x k.served (omega arith) in
            let same : once_between serving (suc ticket) x ≡ once_between serving (ticket + 1) x = ap (λ n. once_between serving n x) (omega arith) in
            omega (arith, sum_set (has_ticket x) s.views id (Live v) (Live w) here, none_yet, k.tickets x, more, same);
        names = λ row. sum_same (is_on row) s.views id (Live v) (Live w) here refl ∙ k.names row;
        mines = λ x. sum_same (has_place x) s.views id (Live v) (Live w) here refl ∙ k.mines x;
        each = each_set (Fits list origin opening serving log) s.views id w (λ by u n e. k.each by u e) (record {
          opened = fits.opened;
          accounts = fits.accounts;
          served = λ t e. let wrong : role.Waits ticket ≡ role.Holds t = e in cc;
        });
      }

  draws_at : (slots id next : ℕ) (s : Step (Option T)) (v : Stand T) → v.role ≡ role.Idle → next < 18446744073709551615 → s.first ≡ next
      → Allows (IsKept list origin opening) slots id (Live v, []) 0 (λ n. either (n == next) (next + 1) n) (Draws s (Live v, []))
  draws_at slots id next st v idle room told s (ticket, serving, log, k) homes here small =
      let n = slice_index s.words 0 in
      let is : n ≡ ticket = first_is s.words ticket serving k.words in
      exchanged n next (next + 1)
      (λ (to : ℕ). (w : View T) × (a : Act (Option T)) × Valid s.homes [] a × IsKept list origin opening (stepped s 0 to id [] w a) × Draws st (Live v, []) n (w, carried_after [] a))
      (λ hit.
      let same : next ≡ ticket = sym hit ∙ is in (
        Live (waiting n v),
        Act.keeps,
        tt,
        (
          ticket + 1,
          serving,
          log,
          subst (λ (x : ℕ). Kept list origin opening (ticket + 1) serving log (stepped s 0 (x + 1) id [] (Live (waiting n v)) Act.keeps)) (sym same)
              (subst (λ (x : ℕ). Kept list origin opening (ticket + 1) serving log (stepped s 0 (ticket + 1) id [] (Live (waiting x v)) Act.keeps)) (sym is)
              (drawn s id ticket serving log v k here idle (subst (λ (x : ℕ). x < 18446744073709551615) same room))),
        ),
        ((λ e. refl), (λ ne. absurd (ne (hit ∙ sym told)))),
      ))
      (λ miss. (
        Live v,
        Act.keeps,
        tt,
        (ticket, serving, log, subst (Kept list origin opening ticket serving log) (sym (first_same s id (Live v) ticket serving k.words here)) k),
        ((λ e. absurd (miss (e ∙ told))), (λ ne. refl)),
      ))

  pub draws_for : (slots id next : ℕ) (s : Step (Option T)) (me : Me (Option T) (View T)) → IsIdle me → next < 18446744073709551615 → s.first ≡ next
      → Allows (IsKept list origin opening) slots id me 0 (λ n. either (n == next) (next + 1) n) (Draws s me)
  draws_for slots id next st me (v, whole, idle) room told =
      subst (λ (m : Me (Option T) (View T)). Allows (IsKept list origin opening) slots id m 0 (λ n. either (n == next) (next + 1) n) (Draws st m)) (sym whole) (draws_at slots id next st v idle room told)
