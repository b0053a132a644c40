-- Names in byte order are determined by which they are.
use Rattle.std.proofs.Common.{◌≡◌, ◌↔◌, ◌⊎◌, ◌∙◌, ℕ, List, [], ◌∷◌, Contains, refl, sym, subst, inl, inr}
use Rattle.std.specs.Ordering.{nat_cmp, ordering_reverse}
use Rattle.std.specs.Cmp.Lexicographic.{slice_cmp}
use Rattle.std.specs.declared.cmp.Ordering.{Ordering}
use Rattle.std.specs.declared.cmp.Ordering.TheVariants.{Less, Equal, Greater}
use Rattle.std.proofs.lemmas.List.Elements.{All-from_recursion, All-contains}
use Rattle.std.proofs.lemmas.Map.Keys.{sorted_head, sorted_tail}
use Rattle.heat_value.proofs.Searches.{flipped}
use Rattle.heat_plan.specs.Order.{Rising}
use Rattle.traversal_graph.proofs.NeedMembers.{same_name}
use Rattle.hot_admit.proofs.Members.{none_in, front_cases, first_is, behind}

abbrev cmp : List ℕ → List ℕ → Ordering
cmp = slice_cmp nat_cmp

pub less_than_rest : (x : List ℕ) (xs : List (List ℕ)) (n : List ℕ) → Rising (x ∷ xs) → Contains xs n → cmp x n ≡ Less
less_than_rest x xs n up h =
    All-contains (λ y. cmp x y ≡ Less) xs n (All-from_recursion (λ y. cmp x y ≡ Less) xs (sorted_head cmp x xs up)) h

not_both : (o : Ordering) → o ≡ Less → ordering_reverse o ≡ Less → ⊥
not_both Less a b = cc
not_both Equal a b = cc
not_both Greater a b = cc

pub not_less_both : (x y : List ℕ) → cmp x y ≡ Less → cmp y x ≡ Less → ⊥
not_less_both x y a b = let turned : cmp y x ≡ ordering_reverse Less = flipped x y Less a in cc

pub not_less_itself : (x : List ℕ) → cmp x x ≡ Less → ⊥
not_less_itself x a = let level = same_name x in cc

pub rising_unique : (xs ys : List (List ℕ)) → Rising xs → Rising ys
    → ((n : List ℕ) → Contains xs n ↔ Contains ys n) → xs ≡ ys
rising_unique [] [] a b same = refl
rising_unique [] (y ∷ ys) a b same = absurd (none_in y ((same y).1 (first_is y ys y refl)))
rising_unique (x ∷ xs) [] a b same = absurd (none_in x ((same x).0 (first_is x xs x refl)))
rising_unique (x ∷ xs) (y ∷ ys) a b same =
    let rest : xs ≡ ys = rising_unique xs ys (sorted_tail cmp x xs a) (sorted_tail cmp y ys b)
    (λ n. (there n, back n)) in
    let first : x ≡ y = heads in cc
  where
    by : (x ≡ y) ⊎ Contains ys x → (y ≡ x) ⊎ Contains xs y → x ≡ y
    by (inl e) h = e
    by (inr g) (inl e) = sym e
    by (inr g) (inr h) = absurd (not_less_both x y (less_than_rest x xs y a h) (less_than_rest y ys x b g))

    heads : x ≡ y
    heads = by (front_cases y ys x ((same x).0 (first_is x xs x refl)))
        (front_cases x xs y ((same y).1 (first_is y ys y refl)))

    there : (n : List ℕ) → Contains xs n → Contains ys n
    there n h = in' (front_cases y ys n ((same n).0 (behind x xs n h)))
      where
        in' : (n ≡ y) ⊎ Contains ys n → Contains ys n
        in' (inr k) = k
        in' (inl e) = absurd (not_less_itself n
            (subst (λ (z : List ℕ). cmp z n ≡ Less) (heads ∙ sym e) (less_than_rest x xs n a h)))

    back : (n : List ℕ) → Contains ys n → Contains xs n
    back n h = in' (front_cases x xs n ((same n).1 (behind y ys n h)))
      where
        in' : (n ≡ x) ⊎ Contains xs n → Contains xs n
        in' (inr k) = k
        in' (inl e) = absurd (not_less_itself n
            (subst (λ (z : List ℕ). cmp z n ≡ Less) (sym heads ∙ sym e) (less_than_rest y ys n b h)))
