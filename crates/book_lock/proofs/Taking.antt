-- Taking the value in one's turn keeps the rule.
use Rattle.std.proofs.Common.{◌≡◌, ◌≢◌, ◌<◌, ℕ, List, [], ◌∷◌, length, refl, sym, ap, ◌∙◌, subst, inr, ⊎_elim, arith, suc, append-nil}
use Rattle.std.specs.Prelude.{Option, Some, slice_index, slice_set, option_map}
use Rattle.std.proofs.lemmas.List.Elements.{All-cons}
use mathlib.Core.List.{IsPrefix}
use mathlib.Core.Logic.{dite}
use mathlib.Core.Option as maybe
use native.Mathlib.Decide.{ℕ_discrete}
use lib.ListN.{get_elem?}
use Rattle.atomic_table.specs.Table.{State, Act, Me, Allows, stepped}
use Rattle.atomic_table.proofs.Lists.{set_here}
use Rattle.book_lock.specs.declared.view.Account.{Account}
use Rattle.book_lock.specs.declared.view.Stand.{Stand}
use Rattle.book_lock.specs.declared.view.View.{View}
use Rattle.book_lock.specs.declared.view.View.TheVariants.{Live}
use Rattle.book_lock.specs.declared.view.Role.TheVariants as role
use Rattle.book_lock.specs.Places.{once_between}
use Rattle.book_lock.specs.Standing.{seen}
use Rattle.book_lock.specs.Rule.{IsAccount, Fits, AtHome, Kept, IsKept, has_ticket, is_on, has_place, times_drawn}
use Rattle.book_lock.specs.Steps.{holding, IsWaiting, Takes}
use Rattle.book_lock.proofs.Counts.{sum_two, once_at_most, once_here}
use Rattle.book_lock.proofs.Prefixes.{length-prefix, All-weaker, All-head, All-tail}
use Rattle.book_lock.proofs.Views.{one_at, live-injective, each_set, sum_same, second_is, second_set, second_same, within}

module _ {T E O : Type 0} (list : T → List E) (origin : T → O) (opening : T) where
  -- who waits for the ticket that is served finds the value at home
  at_home : (s : State (Option T) (View T)) (id ticket serving : ℕ) (log : List E) (v : Stand T) → Kept list origin opening ticket serving log s
      → get_elem? s.views id ≡ maybe.some (Live v) → v.role ≡ role.Waits serving → AtHome list origin opening log s
  at_home s id ticket serving log v k here waits =
      ⊎_elim (λ h. h)
      (λ o.
      let mine : has_ticket serving (Live v) ≡ once_between serving (suc serving) serving = ap (times_drawn serving) waits in
      let theirs : has_ticket serving (Live o.holder) ≡ once_between serving (suc serving) serving = ap (times_drawn serving) o.holds in
      let other : o.by ≢ id = λ same.
      let one : o.holder ≡ v = live-injective o.holder v (one_at s.views o.by id (Live o.holder) (Live v) same o.there here) in
      let wrong : role.Holds serving ≡ role.Waits serving = sym o.holds ∙ ap (λ (w : Stand T). w.role) one ∙ waits in
      cc in
      absurd (omega (arith, sum_two (has_ticket serving) s.views o.by id (Live o.holder) (Live v) other o.there here, mine, theirs, k.tickets serving, once_at_most serving ticket serving, once_here serving)))
      k.place

  -- the account of who has taken the value
  account_taken : (log : List E) (value : T) (account : Account T) → list value ≡ log → origin value ≡ origin opening → IsAccount list origin opening log account
      → IsAccount list origin opening log (record { last = Some value; places = account.places })
  account_taken log value account shown same a = record {
    begins = ([], append-nil (list value) ∙ shown);
    same = ap Some same;
    rising = a.rising;
    within = All-weaker (λ place. place < length (seen list account)) (λ place. place < length (list value)) (λ place h. omega (arith, h, length-prefix (seen list account) log a.begins, ap length shown)) account.places a.within;
  }

  taken : (s : State (Option T) (View T)) (id ticket serving : ℕ) (log : List E) (v : Stand T) → Kept list origin opening ticket serving log s
      → get_elem? s.views id ≡ maybe.some (Live v) → v.role ≡ role.Waits serving → (h : AtHome list origin opening log s)
      → Kept list origin opening ticket serving log (stepped s 1 (slice_index s.words 1) id [] (Live (holding serving h.value v)) (Act.takes 0 (Some h.value)))
  taken s id ticket serving log v k here waits h =
      let w = holding serving h.value v in
      let fits = k.each id v here in
      record {
        words = second_set s.words ticket serving (slice_index s.words 1) k.words ∙ ap (λ (n : ℕ). ticket ∷ n ∷ []) (second_is s.words ticket serving k.words);
        small = k.small;
        served = k.served;
        begun = k.begun;
        place = inr (record {
          homes = ap (λ (hs : List (maybe.Option (Option T))). slice_set hs 0 maybe.none) h.homes;
          by = id;
          holder = w;
          there = set_here s.views id (Live w) (within s.views id (Live v) here);
          holds = refl;
        });
        tickets = λ x. sum_same (has_ticket x) s.views id (Live v) (Live w) here (sym (ap (times_drawn x) waits)) ∙ k.tickets x;
        names = λ row. sum_same (is_on row) s.views id (Live v) (Live w) here refl ∙ k.names row;
        mines = λ x. sum_same (has_place x) s.views id (Live v) (Live w) here refl ∙ k.mines x;
        each = each_set (Fits list origin opening serving log) s.views id w (λ by u n e. k.each by u e) (record {
          opened = fits.opened;
          accounts = All-cons (IsAccount list origin opening log) w.own v.joined
              (account_taken log h.value v.own h.shown h.same (All-head (IsAccount list origin opening log) v.own v.joined fits.accounts))
              (All-tail (IsAccount list origin opening log) v.own v.joined fits.accounts);
          served = λ t e. let same : role.Holds serving ≡ role.Holds t = e in let is : t ≡ serving = cc in (is, h.shown);
        });
      }

  takes_at : (slots id t : ℕ) (v : Stand T) → v.role ≡ role.Waits t
      → Allows (IsKept list origin opening) slots id (Live v, []) 1 (λ n. n) (Takes list origin (Live v, []))
  takes_at slots id t v waits s (ticket, serving, log, k) homes here small =
      let n = slice_index s.words 1 in
      let found : n ≡ serving = second_is s.words ticket serving k.words in
      let fits = k.each id v here in
      dite (ℕ_discrete serving t)
      (λ turn.
      let now : v.role ≡ role.Waits serving = waits ∙ ap role.Waits (sym turn) in
      let h = at_home s id ticket serving log v k here now in (
        Live (holding serving h.value v),
        Act.takes 0 (Some h.value),
        ap (λ (hs : List (maybe.Option (Option T))). get_elem? hs 0) h.homes,
        (ticket, serving, log, taken s id ticket serving log v k here now h),
        (
          (λ e. (
            h.value,
            (λ i. (Live (holding (sym found i) h.value v), (0, Some h.value) ∷ [])),
            record {
              begins = subst (IsPrefix (seen list v.own)) (sym h.shown) ((All-head (IsAccount list origin opening log) v.own v.joined fits.accounts).begins);
              same = ap (option_map origin) fits.opened ∙ ap Some (sym h.same);
            },
          )),
          (λ ne. absurd (ne (now ∙ ap role.Waits (sym found)))),
        ),
      ))
      (λ other. (
        Live v,
        Act.keeps,
        tt,
        (ticket, serving, log, subst (Kept list origin opening ticket serving log) (sym (second_same s id (Live v) ticket serving k.words here)) k),
        (
          (λ e. let both : role.Waits t ≡ role.Waits n = sym waits ∙ e in let is : t ≡ n = cc in absurd (other (sym found ∙ sym is))),
          (λ ne. refl),
        ),
      ))

  pub takes_for : (slots id t : ℕ) (me : Me (Option T) (View T)) → IsWaiting t me
      → Allows (IsKept list origin opening) slots id me 1 (λ n. n) (Takes list origin me)
  takes_for slots id t me (v, whole, waits) =
      subst (λ (m : Me (Option T) (View T)). Allows (IsKept list origin opening) slots id m 1 (λ n. n) (Takes list origin m)) (sym whole) (takes_at slots id t v waits)
