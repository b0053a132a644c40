-- Giving the value back and serving the next ticket keeps the rule.
use Rattle.std.proofs.Common.{◌≡◌, ◌<◌, ◌≤◌, ◌+◌, ◌-◌, ◌%◌, ℕ, List, [], ◌∷◌, length, refl, sym, ap, ◌∙◌, subst, inl, ⊎_elim, arith, suc, mod-eq_of_lt}
use Rattle.std.specs.Prelude.{Option, Some, slice_index, slice_set}
use Rattle.std.proofs.lemmas.List.Elements.{All-cons}
use Rattle.std.proofs.lemmas.List.Sums.{sum_by-cons, sum_by-append}
use mathlib.Core.List.{IsPrefix}
use mathlib.Core.Option as maybe
use lib.ListN.{get_elem?}
use Rattle.atomic_table.specs.Table.{State, Act, Me, Allows, stepped}
use Rattle.book_lock.specs.declared.view.Account.{Account}
use Rattle.book_lock.specs.declared.view.Stand.{Stand}
use Rattle.book_lock.specs.declared.view.View.{View}
use Rattle.book_lock.specs.declared.view.View.TheVariants.{Live}
use Rattle.book_lock.specs.declared.view.Role.TheVariants as role
use Rattle.book_lock.specs.Places.{once_between, places_from, times}
use Rattle.book_lock.specs.Standing.{seen}
use Rattle.book_lock.specs.Rule.{IsAccount, Fits, Kept, IsKept, has_ticket, is_on, has_place, times_drawn, accounts_of}
use Rattle.book_lock.specs.Steps.{grown, released, Continues, GivesBack, Raises}
use Rattle.book_lock.proofs.Counts.{sum_set, sum_at, sum_two, once_split, once_within_high, once_at_most, once_here, times-places_from}
use Rattle.book_lock.proofs.PlacesLemmas.{All-behind, rising-behind}
use Rattle.book_lock.proofs.Prefixes.{length-prefix, prefix-trans, prefix-refl, All-weaker, All-head, All-tail}
use Rattle.book_lock.proofs.Views.{each_set, sum_same, second_is, second_set}

module _ {T E O : Type 0} (list : T → List E) (origin : T → O) (opening : T) where
  -- an account stays true where the one list goes on
  pub account_later : (log more : List E) → IsPrefix log more → (account : Account T) → IsAccount list origin opening log account → IsAccount list origin opening more account
  account_later log more longer account a = record { begins = prefix-trans (seen list account) log more a.begins longer; same = a.same; rising = a.rising; within = a.within }

  -- the account of who has given this value back
  account_grown : (log : List E) (value : T) (account : Account T) → IsAccount list origin opening log account → IsPrefix (seen list account) (list value) → origin value ≡ origin opening
      → IsAccount list origin opening (list value) (grown list value account)
  account_grown log value account a longer same =
      let first = length (seen list account) in
      let count = length (list value) - first in
      let size : first ≤ length (list value) = length-prefix (seen list account) (list value) longer in
      record {
        begins = prefix-refl (list value);
        same = ap Some same;
        rising = rising-behind account.places first count a.rising a.within;
        within = All-behind (λ place. place < length (list value)) account.places first count
            (All-weaker (λ place. place < first) (λ place. place < length (list value)) (λ place h. omega (arith, h, size)) account.places a.within)
            (λ k low high. omega (arith, low, high, size));
      }

  -- what was added is counted in Mine
  places_grown : (value : T) (v : Stand T) (x : ℕ) → length (seen list v.own) ≤ length (list value)
      → has_place x (Live (released list value v)) ≡ has_place x (Live v) + once_between (length (seen list v.own)) (length (list value)) x
  places_grown value v x size =
      let first = length (seen list v.own) in
      let count = length (list value) - first in
      let w = released list value v in
      let same : once_between first (first + count) x ≡ once_between first (length (list value)) x = ap (λ n. once_between first n x) (omega (arith, size)) in
      omega (
        arith,
        sum_by-cons (λ (account : Account T). times x account.places) w.own v.joined,
        sum_by-cons (λ (account : Account T). times x account.places) v.own v.joined,
        sum_by-append (λ y. once_between y (suc y) x) v.own.places (places_from first count),
        times-places_from first count x,
        same,
      )

  raised : (s : State (Option T) (View T)) (id ticket serving : ℕ) (log : List E) (v : Stand T) (value : T) → Kept list origin opening ticket serving log s
      → get_elem? s.views id ≡ maybe.some (Live v) → v.role ≡ role.Holds serving → seen list v.own ≡ log → Continues list origin v.own value
      → Kept list origin opening ticket (serving + 1) (list value) (stepped s 1 (serving + 1) id ((0, Some value) ∷ []) (Live (released list value v)) Act.gives)
  raised s id ticket serving log v value k here holds knows follows =
      let w = released list value v in
      let fits = k.each id v here in
      let longer : IsPrefix log (list value) = subst (λ (l : List E). IsPrefix l (list value)) knows follows.begins in
      let e : Some (origin value) ≡ Some (origin opening) = sym follows.same ∙ (All-head (IsAccount list origin opening log) v.own v.joined fits.accounts).same in
      let same : origin value ≡ origin opening = cc in
      let mine : (x : ℕ) → has_ticket x (Live v) ≡ once_between serving (suc serving) x = λ x. ap (times_drawn x) holds in
      let below : serving < ticket = once_within_high serving ticket serving (omega (arith, mine serving, once_here serving, sum_at (has_ticket serving) s.views id (Live v) here, k.tickets serving)) in
      record {
        words = second_set s.words ticket serving (serving + 1) k.words;
        small = k.small;
        served = omega (arith, below);
        begun = prefix-trans (list opening) log (list value) k.begun longer;
        place = inl (record {
          value = value;
          homes = ⊎_elim
              (λ h. ap (λ (hs : List (maybe.Option (Option T))). slice_set hs 0 (maybe.some (Some value))) h.homes)
              (λ o. ap (λ (hs : List (maybe.Option (Option T))). slice_set hs 0 (maybe.some (Some value))) o.homes)
              k.place;
          shown = refl;
          same = same;
        });
        tickets = λ x.
            let split = once_split serving (suc serving) ticket x (omega arith) (omega (arith, below)) in
            let next : once_between (suc serving) ticket x ≡ once_between (serving + 1) ticket x = ap (λ n. once_between n ticket x) (omega arith) in
            omega (arith, sum_set (has_ticket x) s.views id (Live v) (Live w) here, mine x, k.tickets x, split, next);
        names = λ row. sum_same (is_on row) s.views id (Live v) (Live w) here refl ∙ k.names row;
        mines = λ x.
            let first : length (seen list v.own) ≡ length log = ap length knows in
            let from : once_between (length (seen list v.own)) (length (list value)) x ≡ once_between (length log) (length (list value)) x = ap (λ n. once_between n (length (list value)) x) first in
            let split = once_split (length (list opening)) (length log) (length (list value)) x (length-prefix (list opening) log k.begun) (length-prefix log (list value) longer) in
            omega (arith, sum_set (has_place x) s.views id (Live v) (Live w) here, places_grown value v x (length-prefix (seen list v.own) (list value) follows.begins), k.mines x, from, split);
        each = each_set (Fits list origin opening (serving + 1) (list value)) s.views id w
            (λ by u other there.
            let old = k.each by u there in
            record {
              opened = old.opened;
              accounts = All-weaker (IsAccount list origin opening log) (IsAccount list origin opening (list value)) (account_later log (list value) longer) (accounts_of u) old.accounts;
              served = λ t e.
                  let two : u.role ≡ role.Holds serving = e ∙ ap role.Holds ((old.served t e).0) in
                  let theirs : has_ticket serving (Live u) ≡ once_between serving (suc serving) serving = ap (times_drawn serving) two in
                  absurd (omega (arith, sum_two (has_ticket serving) s.views by id (Live u) (Live v) other there here, mine serving, theirs, k.tickets serving, once_at_most serving ticket serving, once_here serving));
            })
            (record {
              opened = fits.opened;
              accounts = All-cons (IsAccount list origin opening (list value)) w.own v.joined
                  (account_grown log value v.own (All-head (IsAccount list origin opening log) v.own v.joined fits.accounts) follows.begins same)
                  (All-weaker (IsAccount list origin opening log) (IsAccount list origin opening (list value)) (account_later log (list value) longer) v.joined (All-tail (IsAccount list origin opening log) v.own v.joined fits.accounts));
              served = λ t e. let wrong : role.Idle ≡ role.Holds t = e in cc;
            });
      }

  raises_at : (slots id t : ℕ) (v : Stand T) (value : T) → v.role ≡ role.Holds t → Continues list origin v.own value
      → Allows (IsKept list origin opening) slots id (Live v, (0, Some value) ∷ []) 1 (λ n. (n + 1) % 18446744073709551616) (λ _. Raises list (Live v, (0, Some value) ∷ []))
  raises_at slots id t v value holds follows s (ticket, serving, log, k) homes here small =
      let n = slice_index s.words 1 in
      let found : n ≡ serving = second_is s.words ticket serving k.words in
      let fits = k.each id v here in
      let turn : t ≡ serving = (fits.served t holds).0 in
      let now : v.role ≡ role.Holds serving = holds ∙ ap role.Holds turn in
      let after : Kept list origin opening ticket (serving + 1) (list value) (stepped s 1 (serving + 1) id ((0, Some value) ∷ []) (Live (released list value v)) Act.gives)
      = raised s id ticket serving log v value k here now ((fits.served t holds).1) follows in
      let mine : has_ticket serving (Live v) ≡ once_between serving (suc serving) serving = ap (times_drawn serving) now in
      let below : serving < ticket = once_within_high serving ticket serving (omega (arith, mine, once_here serving, sum_at (has_ticket serving) s.views id (Live v) here, k.tickets serving)) in
      let fit : n + 1 < 18446744073709551616 = omega (arith, found, below, k.small) in
      let word : serving + 1 ≡ (n + 1) % 18446744073709551616 = ap (λ (m : ℕ). m + 1) (sym found) ∙ sym (mod-eq_of_lt fit) in (
        Live (released list value v),
        Act.gives,
        tt,
        (ticket, serving + 1, list value, subst (λ (m : ℕ). Kept list origin opening ticket (serving + 1) (list value) (stepped s 1 m id ((0, Some value) ∷ []) (Live (released list value v)) Act.gives)) word after),
        refl,
      )

  pub raises_for : (slots id : ℕ) (me : Me (Option T) (View T)) → GivesBack list origin me
      → Allows (IsKept list origin opening) slots id me 1 (λ n. (n + 1) % 18446744073709551616) (λ _. Raises list me)
  raises_for slots id me (v, value, t, whole, holds, follows) =
      subst (λ (m : Me (Option T) (View T)). Allows (IsKept list origin opening) slots id m 1 (λ n. (n + 1) % 18446744073709551616) (λ _. Raises list m)) (sym whole) (raises_at slots id t v value holds follows)
