-- How two lists or maps compare where one of them ends.
use Rattle.std.proofs.Common.{◌≡◌, ◌∙◌, ℕ, zero, suc, ◌<◌, ◌≤◌, List, [], ◌∷◌, length, drop, refl, nat_cmp, Greater, arith}
use Rattle.std.proofs.lemmas.Bool.Decides.{nat_tests}
use Rattle.heat_value.specs.Meaning.{nodes_of, members_of}
use Rattle.heat_value.specs.Order.{nodes_cmp, members_cmp}
use Rattle.heat_value.specs.declared.value.Value.{Value}
use Rattle.heat_value.specs.declared.value.Member.{Member}

pub nodes_cmp-ended : (xs ys : List Value) (i : ℕ) → i ≡ length xs → i ≤ length ys → nodes_cmp (nodes_of (drop i xs)) (nodes_of (drop i ys)) ≡ nat_cmp (length xs) (length ys)
nodes_cmp-ended [] [] zero e l = refl
nodes_cmp-ended [] (y ∷ ys) zero e l = grind (arith, nat_tests)
nodes_cmp-ended [] ys (suc i) e l = absurd (omega arith)
nodes_cmp-ended (x ∷ xs) ys zero e l = absurd (omega arith)
nodes_cmp-ended (x ∷ xs) [] (suc i) e l = absurd (omega arith)
nodes_cmp-ended (x ∷ xs) (y ∷ ys) (suc i) e l = nodes_cmp-ended xs ys i (omega arith) (omega arith) ∙ grind (arith, nat_tests)

pub nodes_cmp-longer : (xs ys : List Value) (i : ℕ) → i < length xs → length ys ≤ i → i ≤ length ys → nodes_cmp (nodes_of (drop i xs)) (nodes_of (drop i ys)) ≡ Greater
nodes_cmp-longer [] ys i l end most = absurd (omega arith)
nodes_cmp-longer (x ∷ xs) [] zero l end most = refl
nodes_cmp-longer (x ∷ xs) (y ∷ ys) zero l end most = absurd (omega arith)
nodes_cmp-longer (x ∷ xs) [] (suc i) l end most = absurd (omega arith)
nodes_cmp-longer (x ∷ xs) (y ∷ ys) (suc i) l end most = nodes_cmp-longer xs ys i (omega arith) (omega arith) (omega arith)

pub members_cmp-ended : (xs ys : List Member) (i : ℕ) → i ≡ length xs → i ≤ length ys → members_cmp (members_of (drop i xs)) (members_of (drop i ys)) ≡ nat_cmp (length xs) (length ys)
members_cmp-ended [] [] zero e l = refl
members_cmp-ended [] (y ∷ ys) zero e l = grind (arith, nat_tests)
members_cmp-ended [] ys (suc i) e l = absurd (omega arith)
members_cmp-ended (x ∷ xs) ys zero e l = absurd (omega arith)
members_cmp-ended (x ∷ xs) [] (suc i) e l = absurd (omega arith)
members_cmp-ended (x ∷ xs) (y ∷ ys) (suc i) e l = members_cmp-ended xs ys i (omega arith) (omega arith) ∙ grind (arith, nat_tests)

pub members_cmp-longer : (xs ys : List Member) (i : ℕ) → i < length xs → length ys ≤ i → i ≤ length ys → members_cmp (members_of (drop i xs)) (members_of (drop i ys)) ≡ Greater
members_cmp-longer [] ys i l end most = absurd (omega arith)
members_cmp-longer (x ∷ xs) [] zero l end most = refl
members_cmp-longer (x ∷ xs) (y ∷ ys) zero l end most = absurd (omega arith)
members_cmp-longer (x ∷ xs) [] (suc i) l end most = absurd (omega arith)
members_cmp-longer (x ∷ xs) (y ∷ ys) (suc i) l end most = members_cmp-longer xs ys i (omega arith) (omega arith) (omega arith)
