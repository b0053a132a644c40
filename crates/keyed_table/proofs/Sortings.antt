-- Numbers, texts and pairs are sorted by strict orders.
use Rattle.std.proofs.Common.{◌≡◌, ◌<◌, ◌∙◌, ℕ, Bool, true, false, List, true≢false, ltb, ltb-true, ltb-false, lt-ltb, refl, sym, ap, arith}
use Rattle.std.specs.Prelude.{nat_eq, nat_lt, not}
use Rattle.std.specs.Str.{bytes_eq}
use Rattle.std.specs.Ordering.{nat_cmp, ordering_then, ordering_reverse, is_lt, is_eq, is_gt}
use Rattle.std.specs.Cmp.{IsTotalOrder, Equal-is, then_total, on_total, tied_itself, alike_right}
use Rattle.std.specs.Cmp.Lexicographic.{nat_list_cmp_total}
use Rattle.std.specs.declared.cmp.Ordering.{Ordering}
use Rattle.std.specs.declared.cmp.Ordering.TheVariants.{Less, Equal, Greater}
use Rattle.std.proofs.lemmas.Bool.Decides.{Decides-eqb}
use Rattle.std.proofs.lemmas.Cmp.{nat_cmp_total}
use Rattle.std.proofs.lemmas.Map.Text.{is_eq-slice_cmp}
use Rattle.std.proofs.lemmas.Map.Lookups.{CmpEqualImpliesEq, exact_unsigned, exact_bytes, exact_pairs}
use Rattle.keyed_table.specs.Orders.{IsSorting, IsDownward}
use Rattle.keyed_table.specs.Sortings.{text_cmp, text_below, pair_cmp, pair_same, pair_below}

pub number_sorting : IsSorting nat_eq nat_lt
number_sorting = record {
  itself = λ a. (Decides-eqb a a).1 refl;
  equal = λ a b e. (Decides-eqb a b).0 e;
  apart = λ a. never (ltb a a) a refl;
  onward = λ a b c p q. lt-ltb a c (omega (arith, ltb-true a b p, ltb-true b c q));
  either = λ a b p q. omega (arith, ltb-false a b p, ltb-false b a q);
} where
  never : (t : Bool) (a : ℕ) → ltb a a ≡ t → t ≡ false
  never false a e = refl
  never true a e = absurd (omega (arith, ltb-true a a e))

is_less : (r : Ordering) → is_lt r ≡ true → r ≡ Less
is_less Less e = refl
is_less Equal e = absurd (true≢false (sym e))
is_less Greater e = absurd (true≢false (sym e))

pub order_sorting : {K : Type 0} (R : K → K → Ordering) → IsTotalOrder R → CmpEqualImpliesEq R → IsSorting (λ a b. is_eq (R a b)) (λ a b. is_lt (R a b))
order_sorting {K} R o exact = record {
  itself = λ a. ap is_eq (tied_itself o a);
  equal = λ a b e. exact a b ((Equal-is (R a b)).0 e);
  apart = λ a. ap is_lt (tied_itself o a);
  onward = λ a b c p q. ap is_lt (o.trans a b c (is_less (R a b) p) (is_less (R b c) q));
  either = λ a b p q. even a b (R a b) refl p q;
} where
  even : (a b : K) (r : Ordering) → R a b ≡ r → is_lt (R a b) ≡ false → is_lt (R b a) ≡ false → a ≡ b
  even a b Less e p q = absurd (true≢false (sym (ap is_lt e) ∙ p))
  even a b Equal e p q = exact a b e
  even a b Greater e p q = absurd (true≢false (sym (ap is_lt (o.antisymm b a ∙ ap ordering_reverse e)) ∙ q))

-- texts, told apart by `bytes_eq`
pub text_sorting : IsSorting bytes_eq text_below
text_sorting = let s = order_sorting text_cmp nat_list_cmp_total exact_bytes in record {
  itself = λ a. sym (is_eq-slice_cmp a a) ∙ s.itself a;
  equal = λ a b e. s.equal a b (is_eq-slice_cmp a b ∙ e);
  apart = s.apart;
  onward = s.onward;
  either = s.either;
}

module _ {G H : Type 0} (first : G → G → Ordering) (second : H → H → Ordering) where
  pub pair_total : IsTotalOrder first → IsTotalOrder second → IsTotalOrder (pair_cmp first second)
  pair_total f s = then_total (on_total (λ (p : G × H). p.0) f) (on_total (λ (p : G × H). p.1) s)

  pub pair_sorting : IsTotalOrder first → CmpEqualImpliesEq first → IsTotalOrder second → CmpEqualImpliesEq second
      → IsSorting (pair_same first second) (pair_below first second)
  pair_sorting tf ef ts es = order_sorting (pair_cmp first second) (pair_total tf ts) (exact_pairs first second ef es)

  -- where the pairs of a group end
  pub group_end : IsTotalOrder first → (g : G) → IsDownward (pair_below first second) (λ p. not (is_gt (first p.0 g)))
  group_end t g (a, c) (b, d) lt h = by (first a b) refl (is_less (pair_cmp first second (a, c) (b, d)) lt) where
    up : (r : Ordering) → first b g ≡ r → first a b ≡ Less → not (is_gt r) ≡ true → not (is_gt (first a g)) ≡ true
    up Less e l h = ap (λ r. not (is_gt r)) (t.trans a b g l e)
    up Equal e l h = ap (λ r. not (is_gt r)) (sym (alike_right t b g a e) ∙ l)
    up Greater e l h = absurd (true≢false (sym h))

    by : (r : Ordering) → first a b ≡ r → ordering_then r (second c d) ≡ Less → not (is_gt (first a g)) ≡ true
    by Less e l = up (first b g) refl e h
    by Equal e l = ap (λ r. not (is_gt r)) (t.congr a b g e) ∙ h
    by Greater e l = absurd (true≢false (sym (ap is_lt l)))
