-- Sorted tokens tell whether each current row is the newest of its stack and name.
use Rattle.std.proofs.Common.{◌≡◌, ◌≢◌, ◌⊎◌, inl, inr, ◌<◌, ◌≤◌, ◌+◌, ◌-◌, ℕ, zero, suc, Bool, true, false, List, map, Some, get_or, length, refl, sym, ap, ◌∙◌, subst, arith, lt-ltb, true≢false}
use Rattle.std.specs.Prelude.{Contains, nat_eq}
use Rattle.std.specs.Ordering.{is_lt, nat_cmp, ordering_reverse, ordering_then}
use Rattle.std.specs.Cmp.{IsTotalOrder, nat_cmp_total, on_total, then_total, tied_itself}
use Rattle.std.specs.Cmp.Lexicographic.{nat_list_cmp_total, slice_cmp}
use Rattle.std.specs.List.Sorted.{IsPermutation}
use Rattle.std.specs.declared.cmp.Ordering.{Ordering}
use Rattle.std.specs.declared.cmp.Ordering.TheVariants.{Equal, Greater, Less}
use Rattle.std.proofs.lemmas.Bool.{cases_lt}
use Rattle.std.proofs.lemmas.Bool.Decides.{Decides-eqb}
use Rattle.std.proofs.lemmas.List.{get_or_default}
use Rattle.std.proofs.lemmas.List.Elements.{Contains-get_or}
use Rattle.std.proofs.lemmas.List.Sorted.{Contains-permutation, IsPermutation-sym, ranks_by, sorted_far}
use Rattle.std.proofs.lemmas.Map.Lookups.{exact_bytes}
use Rattle.heat_plan.specs.declared.token.Token.{Token}
use Rattle.row_table.specs.Chains.{IsCurrent}
use Rattle.row_table.specs.Rows.{row_at, row_key}
use Rattle.core_state.specs.declared.Row.{Row}
use Rattle.step_relation.specs.Linked.{OneCurrent}
use Rattle.step_relation.specs.Rows.{token_of}
use Rattle.step_relation.specs.Tokens.{token_at}
use Rattle.history_laws.proofs.tables.Rows.{row-key, same_or_not, same_some}
use Rattle.state_images.specs.Formed.{HasKeysOnce}
use Rattle.state_images.specs.Tokens.{AreSorted, NoneIsBeaten, token_cmp}
use Rattle.state_images.proofs.Found.{among_found, found_among}
use Rattle.state_images.proofs.Listed.{map_has, of_map}

token_total : IsTotalOrder token_cmp
token_total = then_total (on_total (λ (t : Token). t.stack) nat_list_cmp_total)
    (then_total (on_total (λ (t : Token). t.name) nat_list_cmp_total) (on_total (λ (t : Token). t.row) nat_cmp_total))

-- what isn't below by both parts isn't by the first, nor by the second where the first parts are one
first_low : (o p : Ordering) → is_lt (ordering_then o p) ≡ false → is_lt o ≡ false
first_low Less p h = h
first_low Equal p h = refl
first_low Greater p h = refl

second_low : (x : List ℕ) (p : Ordering) → is_lt (ordering_then (slice_cmp nat_cmp x x) p) ≡ false → is_lt p ≡ false
second_low x p h = subst (λ (o : Ordering). is_lt (ordering_then o p) ≡ false) (tied_itself nat_list_cmp_total x) h

number_low : (m n : ℕ) → is_lt (nat_cmp m n) ≡ false → n ≤ m
number_low m n h = elim (cases_lt m n) [
  | inl below ↦ absurd (never (is_lt (nat_cmp m n)) h (less m n below))
  | inr le ↦ le
] where
  never : (b : Bool) → b ≡ false → b ≡ true → ⊥
  never b e f = true≢false (sym f ∙ e)

  less : (m n : ℕ) → m < n → is_lt (nat_cmp m n) ≡ true
  less m n lt = rw (lt-ltb m n lt) refl

-- of two texts neither of which is below the other, both are one
even : (a b : List ℕ) → is_lt (slice_cmp nat_cmp a b) ≡ false → is_lt (slice_cmp nat_cmp b a) ≡ false → a ≡ b
even a b up down = by (slice_cmp nat_cmp a b) refl up where
  by : (o : Ordering) → slice_cmp nat_cmp a b ≡ o → is_lt o ≡ false → a ≡ b
  by Less e h = absurd (true≢false h)
  by Equal e h = exact_bytes a b e
  by Greater e h = absurd (true≢false (sym (ap is_lt (nat_list_cmp_total.antisymm b a ∙ ap ordering_reverse e)) ∙ down))

-- what stands between two texts that are one is that text
between_texts : (a b c : List ℕ) → is_lt (slice_cmp nat_cmp b a) ≡ false → is_lt (slice_cmp nat_cmp c b) ≡ false → a ≡ c → b ≡ a
between_texts a b c low up same = even b a low (subst (λ (x : List ℕ). is_lt (slice_cmp nat_cmp x b) ≡ false) (sym same) up)

-- the first word and the second one, and the rest
module _ (xa xb xc ya yb yc : List ℕ) (p q : Ordering) (low : is_lt (ordering_then (slice_cmp nat_cmp xb xa) (ordering_then (slice_cmp nat_cmp yb ya) p)) ≡ false)
    (up : is_lt (ordering_then (slice_cmp nat_cmp xc xb) (ordering_then (slice_cmp nat_cmp yc yb) q)) ≡ false) (stacks : xa ≡ xc) (names : ya ≡ yc) where
  stack_between : xb ≡ xa
  stack_between = between_texts xa xb xc (first_low (slice_cmp nat_cmp xb xa) (ordering_then (slice_cmp nat_cmp yb ya) p) low)
      (first_low (slice_cmp nat_cmp xc xb) (ordering_then (slice_cmp nat_cmp yc yb) q) up) stacks

  low_names : is_lt (ordering_then (slice_cmp nat_cmp yb ya) p) ≡ false
  low_names = second_low xa (ordering_then (slice_cmp nat_cmp yb ya) p)
      (subst (λ (x : List ℕ). is_lt (ordering_then (slice_cmp nat_cmp x xa) (ordering_then (slice_cmp nat_cmp yb ya) p)) ≡ false) stack_between low)

  up_names : is_lt (ordering_then (slice_cmp nat_cmp yc yb) q) ≡ false
  up_names = second_low xb (ordering_then (slice_cmp nat_cmp yc yb) q)
      (subst (λ (x : List ℕ). is_lt (ordering_then (slice_cmp nat_cmp x xb) (ordering_then (slice_cmp nat_cmp yc yb) q)) ≡ false) (sym stacks ∙ sym stack_between) up)

  name_between : yb ≡ ya
  name_between = between_texts ya yb yc (first_low (slice_cmp nat_cmp yb ya) p low_names) (first_low (slice_cmp nat_cmp yc yb) q up_names) names

between : (t u v : Token) → is_lt (token_cmp u t) ≡ false → is_lt (token_cmp v u) ≡ false → t.stack ≡ v.stack → t.name ≡ v.name
    → (u.stack ≡ t.stack) × (u.name ≡ t.name)
between t u v low up stacks names = (
  stack_between t.stack u.stack v.stack t.name u.name v.name (nat_cmp u.row t.row) (nat_cmp v.row u.row) low up stacks names,
  name_between t.stack u.stack v.stack t.name u.name v.name (nat_cmp u.row t.row) (nat_cmp v.row u.row) low up stacks names,
)

same_parts : (xa xb ya yb : List ℕ) (m n : ℕ) → xa ≡ xb → ya ≡ yb → m ≡ n → token_at xa ya m ≡ token_at xb yb n
same_parts xa xb ya yb m n stacks names rows = rw (stacks, names, rows) refl

same_token : (t u : Token) → t.stack ≡ u.stack → t.name ≡ u.name → t.row ≡ u.row → t ≡ u
same_token t u stacks names rows = same_parts t.stack u.stack t.name u.name t.row u.row stacks names rows

-- of one name, the one that isn't below has no lower number
rises_with : (xa xb ya yb : List ℕ) (m n : ℕ) → xa ≡ xb → ya ≡ yb
    → is_lt (ordering_then (slice_cmp nat_cmp xb xa) (ordering_then (slice_cmp nat_cmp yb ya) (nat_cmp n m))) ≡ false → m ≤ n
rises_with xa xb ya yb m n stacks names low = number_low n m (second_low yb (nat_cmp n m)
    (second_low xb (ordering_then (slice_cmp nat_cmp yb yb) (nat_cmp n m)) (rw (stacks, names) at low)))

module _ (rows : List Row) (tokens : List Token) (once : HasKeysOnce nat_eq row_key rows) (same : IsPermutation (map token_of rows) tokens)
    (sorted : AreSorted tokens) where
  far : (i j : ℕ) (d : Token) → i ≤ j → j < length tokens → is_lt (token_cmp (get_or tokens j d) (get_or tokens i d)) ≡ false
  far i j d le lt = sorted_far (λ (x y : Token). is_lt (token_cmp x y)) (ranks_by token_total (λ (t : Token). t)) tokens sorted i j d le lt

  place_of : (n : ℕ) (r : Row) → row_at rows n ≡ Some r → Contains tokens (token_of r)
  place_of n r at = Contains-permutation (map token_of rows) tokens (token_of r) same
      (map_has token_of rows r (found_among nat_eq Decides-eqb row_key rows n r at))

  row_of_token : (t : Token) → Contains tokens t → (r : Row) × (row_at rows r.no ≡ Some r) × (t ≡ token_of r)
  row_of_token t c = let (r, among, is) = of_map token_of rows t
      (Contains-permutation tokens (map token_of rows) t (IsPermutation-sym (map token_of rows) tokens same) c) in
      (r, among_found nat_eq Decides-eqb row_key rows r once among, is)

  -- from a current row's token on, all tokens of its name up to a greater one would be its own
  walk : NoneIsBeaten rows tokens → (a b : Row) → row_at rows a.no ≡ Some a → IsCurrent a → a.stack ≡ b.stack → a.name ≡ b.name → a.no < b.no
      → (more p : ℕ) → p + more < length tokens → get_or tokens p (token_of a) ≡ token_of a
      → get_or tokens (p + more) (token_of a) ≡ token_of b → ⊥
  walk none a b at current stacks names lt zero p within is_a is_b =
      let same_place : p + 0 ≡ p = omega arith in
      let e : token_of a ≡ token_of b = sym is_a ∙ (sym (ap (λ (k : ℕ). get_or tokens k (token_of a)) same_place) ∙ is_b) in
      let f : a.no ≡ b.no = ap (λ (t : Token). t.row) e in omega (arith, lt, f)
  walk none a b at current stacks names lt (suc more) p within is_a is_b =
      step (same_or_not (get_or tokens (p + 1) (token_of a)).row a.no) (walk none a b at current stacks names lt more (p + 1)) where
        end : get_or tokens ((p + 1) + more) (token_of a) ≡ token_of b
        end = let e : (p + 1) + more ≡ p + suc more = omega arith in ap (λ (k : ℕ). get_or tokens k (token_of a)) e ∙ is_b

        low : is_lt (token_cmp (get_or tokens (p + 1) (token_of a)) (token_of a)) ≡ false
        low = subst (λ (t : Token). is_lt (token_cmp (get_or tokens (p + 1) (token_of a)) t) ≡ false) is_a
            (far p (p + 1) (token_of a) (omega arith) (omega (arith, within)))

        up : is_lt (token_cmp (token_of b) (get_or tokens (p + 1) (token_of a))) ≡ false
        up = subst (λ (t : Token). is_lt (token_cmp t (get_or tokens (p + 1) (token_of a))) ≡ false) end
            (far (p + 1) ((p + 1) + more) (token_of a) (omega arith) (omega (arith, within)))

        group : ((get_or tokens (p + 1) (token_of a)).stack ≡ a.stack) × ((get_or tokens (p + 1) (token_of a)).name ≡ a.name)
        group = between (token_of a) (get_or tokens (p + 1) (token_of a)) (token_of b) low up stacks names

        step : ((get_or tokens (p + 1) (token_of a)).row ≡ a.no) ⊎ ((get_or tokens (p + 1) (token_of a)).row ≢ a.no)
            → ((p + 1) + more < length tokens → get_or tokens (p + 1) (token_of a) ≡ token_of a
            → get_or tokens ((p + 1) + more) (token_of a) ≡ token_of b → ⊥) → ⊥
        step (inl is) rest = rest (omega (arith, within)) (same_token (get_or tokens (p + 1) (token_of a)) (token_of a) group.0 group.1 is) end
        step (inr ne) rest = none p (token_of a) (omega (arith, within)) (record {
          stack = ap (λ (t : Token). t.stack) is_a ∙ sym group.0;
          name = ap (λ (t : Token). t.name) is_a ∙ sym group.1;
          apart = λ e. ne (sym e ∙ ap (λ (t : Token). t.row) is_a);
          current = record { row = a; its = ap (row_at rows) (ap (λ (t : Token). t.row) is_a) ∙ at; current = current };
        })

  -- the token of the newer row stands behind that of the older one
  ordered : (a b : Row) → a.stack ≡ b.stack → a.name ≡ b.name → a.no < b.no → (p q : ℕ) → p < length tokens
      → get_or tokens p (token_of a) ≡ token_of a → get_or tokens q (token_of a) ≡ token_of b → q ≤ p → ⊥
  ordered a b stacks names below p q in_p is_a is_b le =
      let low = far q p (token_of a) le in_p in
      let turned : is_lt (token_cmp (token_of a) (token_of b)) ≡ false =
      subst (λ (t : Token). is_lt (token_cmp t (token_of b)) ≡ false) is_a
      (subst (λ (t : Token). is_lt (token_cmp (get_or tokens p (token_of a)) t) ≡ false) is_b low) in
      let up = rises_with b.stack a.stack b.name a.name b.no a.no (sym stacks) (sym names) turned in omega (arith, up, below)

  none_newer : NoneIsBeaten rows tokens → (a b : Row) → row_at rows a.no ≡ Some a → IsCurrent a → a.stack ≡ b.stack → a.name ≡ b.name
      → a.no < b.no → Contains tokens (token_of a) → Contains tokens (token_of b) → ⊥
  none_newer none a b own current stacks names below (p, in_p, is_a) (q, in_q, its_b) =
      let is_b : get_or tokens q (token_of a) ≡ token_of b = get_or_default tokens q (token_of a) (token_of b) in_q ∙ its_b in
      elim (cases_lt p q) [
        | inl lt ↦ (let e : p + (q - p) ≡ q = omega (arith, lt) in
            walk none a b own current stacks names below (q - p) p (omega (arith, e, in_q)) is_a
            (ap (λ (k : ℕ). get_or tokens k (token_of a)) e ∙ is_b))
        | inr le ↦ ordered a b stacks names below p q in_p is_a is_b le
      ]

  pub newest_unbeaten : NoneIsBeaten rows tokens → OneCurrent rows
  newest_unbeaten none = record {
    newest = λ n m a b at_n at_m stacks names current.
        let no_a = row-key rows n a at_n in
        let no_b = row-key rows m b at_m in
        elim (cases_lt n m) [
          | inl lt ↦ absurd (none_newer none a b (subst (λ (k : ℕ). row_at rows k ≡ Some a) (sym no_a) at_n) current stacks names
              (omega (arith, lt, no_a, no_b)) (place_of n a at_n) (place_of m b at_m))
          | inr le ↦ le
        ];
  }

  pub unbeaten_newest : OneCurrent rows → NoneIsBeaten rows tokens
  unbeaten_newest one k d lt beaten = clash (row_of_token (get_or tokens k d) (Contains-get_or tokens k d (omega (arith, lt))))
      (row_of_token (get_or tokens (k + 1) d) (Contains-get_or tokens (k + 1) d lt)) where
        clash : (r : Row) × (row_at rows r.no ≡ Some r) × (get_or tokens k d ≡ token_of r)
            → (q : Row) × (row_at rows q.no ≡ Some q) × (get_or tokens (k + 1) d ≡ token_of q) → ⊥
        clash (r, at_r, is_r) (q, at_q, is_q) =
            let same_row : beaten.current.row ≡ r = same_some beaten.current.row r beaten.current.its
            (ap (row_at rows) (ap (λ (t : Token). t.row) is_r) ∙ at_r) in
            let current : IsCurrent r = subst IsCurrent same_row beaten.current.current in
            let stacks : r.stack ≡ q.stack = sym (ap (λ (t : Token). t.stack) is_r) ∙ (beaten.stack ∙ ap (λ (t : Token). t.stack) is_q) in
            let names : r.name ≡ q.name = sym (ap (λ (t : Token). t.name) is_r) ∙ (beaten.name ∙ ap (λ (t : Token). t.name) is_q) in
            let le : q.no ≤ r.no = one.newest r.no q.no r q at_r at_q stacks names current in
            let low : is_lt (token_cmp (token_of q) (token_of r)) ≡ false =
            subst (λ (t : Token). is_lt (token_cmp t (token_of r)) ≡ false) is_q
            (subst (λ (t : Token). is_lt (token_cmp (get_or tokens (k + 1) d) t) ≡ false) is_r (far k (k + 1) d (omega arith) lt)) in
            let up : r.no ≤ q.no = rises_with r.stack q.stack r.name q.name r.no q.no stacks names low in
            let even : r.no ≡ q.no = omega (arith, le, up) in
            beaten.apart (ap (λ (t : Token). t.row) is_r ∙ (even ∙ sym (ap (λ (t : Token). t.row) is_q)))
