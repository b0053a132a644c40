-- Tokens are sorted by their rows, stacks and names (`token_sorting`).
use Rattle.std.proofs.Common.{◌≡◌, ◌∙◌, ℕ, Bool, true, false, List, refl, sym, ap, subst}
use Rattle.std.specs.Ordering.{nat_cmp, ordering_then, is_eq}
use Rattle.std.specs.Cmp.{IsTotalOrder, then_total, on_total}
use Rattle.std.specs.Cmp.Lexicographic.{nat_list_cmp_total}
use Rattle.std.specs.declared.cmp.Ordering.{Ordering}
use Rattle.std.specs.declared.cmp.Ordering.TheVariants.{Less, Equal, Greater}
use Rattle.std.proofs.lemmas.Cmp.{nat_cmp_total}
use Rattle.std.proofs.lemmas.Map.Lookups.{CmpEqualImpliesEq, exact_unsigned, exact_bytes}
use Rattle.heat_plan.specs.declared.token.Token.{Token}
use Rattle.keyed_table.specs.Orders.{IsSorting}
use Rattle.keyed_table.specs.Sortings.{text_cmp}
use Rattle.keyed_table.proofs.Sortings.{order_sorting}
use Rattle.provider.specs.Same.{same_token}
use Rattle.provider.proofs.Sames.{same_token-same, same_token-true, same_token-other}
use Rattle.opening_check.specs.Places.{token_cmp, token_below}

total : IsTotalOrder token_cmp
total = then_total (on_total (λ (t : Token). t.row) nat_cmp_total)
    (then_total (on_total (λ (t : Token). t.stack) nat_list_cmp_total) (on_total (λ (t : Token). t.name) nat_list_cmp_total))

equal_of_then : (a b : Ordering) → ordering_then a b ≡ Equal → (a ≡ Equal) × (b ≡ Equal)
equal_of_then Less b e = cc
equal_of_then Equal b e = (refl, e)
equal_of_then Greater b e = cc

abbrev token : List ℕ → List ℕ → ℕ → Token
token stack name row = record { stack = stack; name = name; row = row }

exact : CmpEqualImpliesEq token_cmp
exact a b e =
    let p = equal_of_then (nat_cmp a.row b.row) _ e in
    let q = equal_of_then (text_cmp a.stack b.stack) _ p.1 in
    let row : a.row ≡ b.row = exact_unsigned a.row b.row p.0 in
    let stack : a.stack ≡ b.stack = exact_bytes a.stack b.stack q.0 in
    let name : a.name ≡ b.name = exact_bytes a.name b.name q.1 in
    ap (λ s. token s a.name a.row) stack ∙ ap (λ n. token b.stack n a.row) name ∙ ap (λ r. token b.stack b.name r) row

sorting : IsSorting (λ (a b : Token). is_eq (token_cmp a b)) token_below
sorting = order_sorting token_cmp total exact

pub token_sorting : IsSorting same_token token_below
token_sorting = record {
  itself = same_token-same;
  equal = same_token-true;
  apart = sorting.apart;
  onward = sorting.onward;
  either = sorting.either;
}

-- both tests are the same
pub same_token-is : (a b : Token) → is_eq (token_cmp a b) ≡ same_token a b
same_token-is a b = by (is_eq (token_cmp a b)) refl where
  by : (r : Bool) → is_eq (token_cmp a b) ≡ r → is_eq (token_cmp a b) ≡ same_token a b
  by true e = let is : a ≡ b = sorting.equal a b e in e ∙ sym (subst (λ (c : Token). same_token a c ≡ true) is (same_token-same a))
  by false e = e ∙ sym (same_token-other a b (λ is. let f : is_eq (token_cmp a b) ≡ true = subst (λ (c : Token). is_eq (token_cmp a c) ≡ true) is (sorting.itself a) in cc))
