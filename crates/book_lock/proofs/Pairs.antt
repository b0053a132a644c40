-- Two passes of a list become one.
use Rattle.std.proofs.Common.{◌≡◌, ◌<◌, ◌≤◌, ◌+◌, ◌++◌, ℕ, zero, suc, Bool, not, true, false, List, [], ◌∷◌, Option, Some, option_to_list, All, length, get_or, take, drop, set, remove, refl, sym, ap, ◌∙◌, subst, ⊎_elim, arith, length-append}
use Rattle.std.specs.Prelude.{sum_by, HoldsAt}
use Rattle.std.proofs.lemmas.List.Elements.{All-cons, All-append, All-set}
use Rattle.std.proofs.lemmas.List.Sums.{sum_by-cons, sum_by-append, sum_by-set, sum_by-remove, get_or-le-sum_by}
use Rattle.std.proofs.lemmas.List.{get_or-set_same, take-append-drop}
use Rattle.std.proofs.Math.ListN.{length-set}
use Rattle.std.proofs.Math.Seq.{drop-cons}
use Rattle.std.proofs.Math.Decide.{dec_lt}
use mathlib.Core.Logic.{dite}
use Rattle.book_lock.specs.declared.view.Account.{Account}
use Rattle.book_lock.specs.Names.{on, child, parent}
use Rattle.book_lock.specs.Places.{times}
use Rattle.book_lock.specs.Standing.{Lock, Standing}
use Rattle.book_lock.specs.Rule.{IsAccount, times_added}
use Rattle.book_lock.specs.Closing.{AreAll, IsFree, AreSiblingNames, accounts, joined_pass, JoinsTwo}
use Rattle.book_lock.proofs.NamesLemmas.{parent-child, on_children, row_of, on_own, on_sibling, on_child, last_flag}
use Rattle.book_lock.proofs.Prefixes.{All-tail, All-left, All-right}

module _ {X : Type 0} where
  -- a list round one of its elements
  whole : (xs : List X) (i : ℕ) (x : X) → i < length xs → x ≡ get_or xs i x → xs ≡ take i xs ++ x ∷ drop (suc i) xs
  whole xs i x h is = sym (take-append-drop i xs) ∙ ap (λ (l : List X). take i xs ++ l) (drop-cons xs i x h ∙ ap (λ (y : X). y ∷ drop (suc i) xs) (sym is))

  -- what is true of each element but one, and of that one
  All-remove : (P : X → Type 0) (xs : List X) (i : ℕ) (x : X) → i < length xs → x ≡ get_or xs i x → All P xs → All P (remove xs i)
  All-remove P xs i x h is a =
      let b : All P (take i xs ++ x ∷ drop (suc i) xs) = subst (All P) (whole xs i x h is) a in
      All-append P (take i xs) (drop (suc i) xs) (All-left P (take i xs) (x ∷ drop (suc i) xs) b) (All-tail P x (drop (suc i) xs) (All-right P (take i xs) (x ∷ drop (suc i) xs) b))

  All-unremove : (P : X → Type 0) (xs : List X) (i : ℕ) (x : X) → i < length xs → x ≡ get_or xs i x → P x → All P (remove xs i) → All P xs
  All-unremove P xs i x h is p a =
      subst (All P) (sym (whole xs i x h is))
      (All-append P (take i xs) (x ∷ drop (suc i) xs) (All-left P (take i xs) (drop (suc i) xs) a) (All-cons P x (drop (suc i) xs) p (All-right P (take i xs) (drop (suc i) xs) a)))

  -- what is set and then removed
  removed : (xs : List X) (i : ℕ) (y : X) → i < length xs → remove (set xs i y) i ≡ remove xs i
  removed [] i y h = refl
  removed (x ∷ xs) zero y h = refl
  removed (x ∷ xs) (suc i) y h = ap (λ (l : List X). x ∷ l) (removed xs i y (omega (arith, h)))

  All-unset : (P : X → Type 0) (xs : List X) (i : ℕ) (x y : X) → i < length xs → x ≡ get_or xs i x → P x → All P (set xs i y) → All P xs
  All-unset P xs i x y h is p a =
      All-unremove P xs i x h is p
      (subst (All P) (removed xs i y h)
      (All-remove P (set xs i y) i y (omega (arith, h, length-set xs i y)) (sym (get_or-set_same xs i y y h)) a))

  length-remove : (xs : List X) (i : ℕ) (x : X) → i < length xs → x ≡ get_or xs i x → length (remove xs i) + 1 ≡ length xs
  length-remove xs i x h is = omega (arith, ap length (whole xs i x h is), length-append (take i xs) (x ∷ drop (suc i) xs), length-append (take i xs) (drop (suc i) xs))

  -- an element that counts
  sum_some : (f : X → ℕ) (xs : List X) → 1 ≤ sum_by f xs → (k : ℕ) × (k < length xs) × HoldsAt (λ x. 1 ≤ f x) xs k
  sum_some f [] h = absurd (omega arith)
  sum_some f (x ∷ xs) h =
      dite (dec_lt 0 (f x))
      (λ yes. (0, omega arith, (λ d. yes)))
      (λ no. let (k, l, c) = sum_some f xs (omega (arith, no, h, sum_by-cons f x xs)) in (suc k, omega (arith, l), c))

  none_left : (xs : List X) → length xs ≡ 0 → xs ≡ []
  none_left [] h = refl
  none_left (x ∷ xs) h = absurd (omega (arith, h))

  -- a list of one, of which that one was taken off the end
  pub one_left : (xs rest : List X) (taken : Option X) (x : X) → xs ≡ rest ++ option_to_list taken → taken ≡ Some x → length xs ≤ 1 → xs ≡ x ∷ []
  one_left xs rest taken x e is short =
      let d : xs ≡ rest ++ x ∷ [] = e ∙ ap (λ (o : Option X). rest ++ option_to_list o) is in
      d ∙ ap (λ (l : List X). l ++ x ∷ []) (none_left rest (omega (arith, ap length d, length-append rest (x ∷ []), short)))

not_not : (flag : Bool) → not (not flag) ≡ flag
not_not true = refl
not_not false = refl

module _ {T : Type 0} where
  -- the sibling of a pass that was split as often as any is there too
  pub sibling_there : (deep : Standing T) (others : List (Standing T)) → ((row : ℕ → Bool) → on row deep.name + sum_by (λ pass. on row pass.name) others ≡ 1)
      → All (λ pass. length pass.name ≤ length deep.name) others → 0 < length others → (k : ℕ) × (k < length others) × HoldsAt (λ other. AreSiblingNames other.name deep.name) others k
  sibling_there deep others all short some = ⊎_elim
      (λ none.
      let first = get_or others 0 deep in
      let row = row_of first.name in
      absurd (omega (arith, all row, ap (on row) none, on_own first.name, get_or-le-sum_by (λ (pass : Standing T). on row pass.name) others 0 deep some)))
      (λ (front, flag, is).
      let row = row_of (child front (not flag)) in
      let other : on row deep.name ≡ 0 = ap (on row) is ∙ on_sibling front flag in
      let (k, l, counts) = sum_some (λ (pass : Standing T). on row pass.name) others (omega (arith, all row, other)) in (
        k,
        l,
        (λ d.
            let o = get_or others k d in
            ⊎_elim
            (λ same. record { parent = front; flag = not flag; first = same; second = is ∙ ap (child front) (sym (not_not flag)) })
            (λ too.
            let mine : child front (not (not flag)) ≡ deep.name = ap (child front) (not_not flag) ∙ sym is in
            let theirs : 1 ≤ on (row_of deep.name) o.name = subst (λ (n : List Bool). 1 ≤ on (row_of n) o.name) mine too in
            absurd (omega (arith, all (row_of deep.name), on_own deep.name, theirs, get_or-le-sum_by (λ (pass : Standing T). on (row_of deep.name) pass.name) others k d l)))
            (on_child front (not flag) o.name (counts d) (omega (arith, short k d l, ap length is, length-append front (flag ∷ []))))),
      ))
      (last_flag deep.name)

module _ {T E O : Type 0} (list : T → List E) (origin : T → O) where
  pub joins_two : (lock : Lock T) (xs : List (Standing T)) (i j : ℕ) (p q : Standing T) → i < length xs → p ≡ get_or xs i p → j < length (remove xs i) → q ≡ get_or (remove xs i) j q
      → AreSiblingNames q.name p.name → All (IsFree lock) xs → AreAll xs → JoinsTwo list origin lock xs (set (remove xs i) j (joined_pass q p))
  joins_two lock xs i j p q low here lower there siblings free all =
      let ys = remove xs i in
      let z = joined_pass q p in
      let frees = All-remove (IsFree lock) xs i p low here free in
      let own : IsFree lock q = subst (IsFree lock) (sym there) (frees j q lower) in
      -- a sum over the passes stays where the one that is left counts as much as the two
      let sum : (f : Standing T → ℕ) → f z ≡ f q + f p → sum_by f (set ys j z) ≡ sum_by f xs
      = λ f both. omega (arith, sum_by-remove f xs i p low, sum_by-set f ys j z q lower, ap f here, ap f there, both) in
      record {
        fewer = omega (arith, length-set ys j z, length-remove xs i p low here);
        free = All-set (IsFree lock) ys j z (record { here = record { table = own.here.table; opening = own.here.opening }; free = own.free }) frees;
        all = λ row.
            let up : on row (parent q.name) ≡ on row siblings.parent = ap (on row) (ap parent siblings.first ∙ parent-child siblings.parent siblings.flag) in
            sum (λ pass. on row pass.name) (omega (arith, up, on_children row siblings.parent siblings.flag, ap (on row) siblings.first, ap (on row) siblings.second)) ∙ all row;
        settled = λ value s.
            let I = IsAccount list origin lock.opening (list value) in
            let Q : Standing T → Type 0 = λ pass. All I (accounts pass) in
            let at : Q z = subst Q (get_or-set_same ys j z z lower) (s.accounts_fit j z (omega (arith, lower, length-set ys j z))) in
            record {
              origin_stays = s.origin_stays;
              begins = s.begins;
              accounts_fit = All-unremove Q xs i p low here (All-right I (accounts q) (accounts p) at) (All-unset Q ys j q z lower there (All-left I (accounts q) (accounts p) at) s.accounts_fit);
              once = λ place. sym (sum (λ pass. times_added place (accounts pass)) (sum_by-append (λ (account : Account T). times place account.places) (accounts q) (accounts p))) ∙ s.once place;
            };
      }

module _ {T : Type 0} where
  -- where the pass that was split most often is taken out of the list, its sibling is among those that are left
  pub sibling_left : (xs ys : List (Standing T)) (i : ℕ) (p : Standing T) → i < length xs → p ≡ get_or xs i p → ys ≡ remove xs i → All (λ pass. length pass.name ≤ length (get_or xs i p).name) xs → AreAll xs
      → 1 < length xs → (k : ℕ) × (k < length ys) × HoldsAt (λ other. AreSiblingNames other.name p.name) ys k
  sibling_left xs ys i p low here left deep all some =
      let short : All (λ (pass : Standing T). length pass.name ≤ length p.name) xs = subst (λ (o : Standing T). All (λ (pass : Standing T). length pass.name ≤ length o.name) xs) (sym here) deep in
      subst (λ (l : List (Standing T)). (k : ℕ) × (k < length l) × HoldsAt (λ (other : Standing T). AreSiblingNames other.name p.name) l k) (sym left)
      (sibling_there p (remove xs i)
      (λ row. omega (arith, sum_by-remove (λ (pass : Standing T). on row pass.name) xs i p low, ap (λ (pass : Standing T). on row pass.name) here, all row))
      (All-remove (λ (pass : Standing T). length pass.name ≤ length p.name) xs i p low here short)
      (omega (arith, length-remove xs i p low here, some)))

  -- passes that are all there are, are some
  pub some_there : (passes : List (Standing T)) → AreAll passes → 0 < length passes
  some_there [] all = absurd (omega (arith, all (λ k. false)))
  some_there (pass ∷ passes) all = omega arith

  pub joined_left : {E O : Type 0} (list : T → List E) (origin : T → O) (lock : Lock T) (xs ys : List (Standing T)) (i j : ℕ) (p q z : Standing T) → i < length xs → p ≡ get_or xs i p → ys ≡ remove xs i
      → j < length ys → q ≡ get_or ys j q → z ≡ joined_pass q p → AreSiblingNames (get_or ys j q).name p.name → All (IsFree lock) xs → AreAll xs → JoinsTwo list origin lock xs (set ys j z)
  joined_left list origin lock xs ys i j p q z low here left lower there one siblings free all =
      let related : AreSiblingNames q.name p.name = subst (λ (o : Standing T). AreSiblingNames o.name p.name) (sym there) siblings in
      subst (λ (o : Standing T). JoinsTwo list origin lock xs (set ys j o)) (sym one)
      (subst (λ (l : List (Standing T)). JoinsTwo list origin lock xs (set l j (joined_pass q p))) (sym left)
      (joins_two list origin lock xs i j p q low here (subst (λ (l : List (Standing T)). j < length l) left lower) (subst (λ (l : List (Standing T)). q ≡ get_or l j q) left there) related free all))
