-- The order of values is total, and tells apart whatever differs: it is the order of their lists of tokens.
use Rattle.std.specs.Prelude.{◌≡◌, ◌↔◌, true, false, List, [], ◌++◌, refl}
use Rattle.std.proofs.Common.{ap, sym, ◌∙◌, append_assoc, append-nil, subst}
use Rattle.std.specs.Ordering.{nat_cmp, int_cmp, bool_cmp, ordering_then, then_cmp, on}
use Rattle.std.specs.Cmp.{IsTotalOrder, nat_cmp_total, int_cmp_total, bool_cmp_total, on_total, then_total, tied_itself}
use Rattle.std.specs.Cmp.Lexicographic.{slice_cmp, lists_total, nat_list_cmp_total}
use Rattle.std.proofs.lemmas.Map.Lookups.{exact_signed, exact_bytes}
use Rattle.std.specs.declared.cmp.Ordering.{Ordering}
use Rattle.std.specs.declared.cmp.Ordering.TheVariants.{Less, Equal, Greater}
use Rattle.heat_value.specs.Data.{Data, null, flag, whole, words, items, fields, Nodes}
use Rattle.heat_value.specs.Data.{no_nodes, node, Members, no_members, member}
use Rattle.heat_value.specs.Code.{Token, tokens, nodes_tokens, members_tokens}
use Rattle.heat_value.specs.Order.{value_cmp, nodes_cmp, members_cmp}

-- how two tokens compare: by the kind, then the flag, the number and the text
abbrev token_cmp : Token → Token → Ordering
token_cmp =
    then_cmp (on (λ t. t.0) nat_cmp)
    (then_cmp (on (λ t. t.1.0) bool_cmp) (then_cmp (on (λ t. t.1.1.0) int_cmp) (on (λ t. t.1.1.1) (slice_cmp nat_cmp))))

-- the order of tokens is total
token_cmp_total : IsTotalOrder token_cmp
token_cmp_total =
    then_total (on_total (λ t. t.0) nat_cmp_total)
    (then_total (on_total (λ t. t.1.0) bool_cmp_total)
    (then_total (on_total (λ t. t.1.1.0) int_cmp_total) (on_total (λ t. t.1.1.1) nat_list_cmp_total)))

-- how two lists of tokens compare: by the first token that differs, the shorter first
abbrev listed_cmp : List Token → List Token → Ordering
listed_cmp = slice_cmp token_cmp

-- a tie behind an order changes nothing of it
then-Equal : (o : Ordering) → ordering_then o Equal ≡ o
then-Equal Less = refl
then-Equal Equal = refl
then-Equal Greater = refl

-- three orders one after the other, however they are bracketed
then-then : (o p q : Ordering) → ordering_then (ordering_then o p) q ≡ ordering_then o (ordering_then p q)
then-then Less p q = refl
then-then Equal p q = refl
then-then Greater p q = refl

-- ---- the tokens are ordered as what they stand for, whatever stands behind them

-- the tokens of two values compare as the values, and behind the same value as what follows
mutual
  tokens-cmp : (d e : Data) (r s : List Token) → listed_cmp (tokens d ++ r) (tokens e ++ s) ≡ ordering_then (value_cmp d e) (listed_cmp r s)
  tokens-cmp null null r s = refl
  tokens-cmp (flag a) (flag b) r s = ap (λ o. ordering_then o (listed_cmp r s)) (then-Equal (bool_cmp a b))
  tokens-cmp (whole y) (whole z) r s = ap (λ o. ordering_then o (listed_cmp r s)) (then-Equal (int_cmp y z))
  tokens-cmp (words a) (words b) r s = refl
  tokens-cmp (items ms) (items ns) r s = nodes_tokens-cmp ms ns r s
  tokens-cmp (fields ms) (fields ns) r s = members_tokens-cmp ms ns r s
  tokens-cmp _ _ r s = refl

  -- the same of the values of two lists
  nodes_tokens-cmp : (ms ns : Nodes) (r s : List Token) → listed_cmp (nodes_tokens ms ++ r) (nodes_tokens ns ++ s) ≡ ordering_then (nodes_cmp ms ns) (listed_cmp r s)
  nodes_tokens-cmp no_nodes no_nodes r s = refl
  nodes_tokens-cmp no_nodes (node e ns) r s = refl
  nodes_tokens-cmp (node d ms) no_nodes r s = refl
  nodes_tokens-cmp (node d ms) (node e ns) r s =
      rw (append_assoc (tokens d) (nodes_tokens ms) r, append_assoc (tokens e) (nodes_tokens ns) s)
      (tokens-cmp d e (nodes_tokens ms ++ r) (nodes_tokens ns ++ s)
      ∙ ap (ordering_then (value_cmp d e)) (nodes_tokens-cmp ms ns r s)
      ∙ sym (then-then (value_cmp d e) (nodes_cmp ms ns) (listed_cmp r s)))

  -- the same of the members of two maps
  members_tokens-cmp : (ms ns : Members) (r s : List Token) → listed_cmp (members_tokens ms ++ r) (members_tokens ns ++ s) ≡ ordering_then (members_cmp ms ns) (listed_cmp r s)
  members_tokens-cmp no_members no_members r s = refl
  members_tokens-cmp no_members (member l e ns) r s = refl
  members_tokens-cmp (member k d ms) no_members r s = refl
  members_tokens-cmp (member k d ms) (member l e ns) r s =
      rw (append_assoc (tokens d) (members_tokens ms) r, append_assoc (tokens e) (members_tokens ns) s)
      (ap (ordering_then (slice_cmp nat_cmp k l)) (
      tokens-cmp d e (members_tokens ms ++ r) (members_tokens ns ++ s)
      ∙ ap (ordering_then (value_cmp d e)) (members_tokens-cmp ms ns r s)
      ∙ sym (then-then (value_cmp d e) (members_cmp ms ns) (listed_cmp r s)))
      ∙ sym (then-then (slice_cmp nat_cmp k l) (ordering_then (value_cmp d e) (members_cmp ms ns)) (listed_cmp r s)))

-- the order of values is that of their tokens
by_tokens : (d e : Data) → on tokens listed_cmp d e ≡ value_cmp d e
by_tokens d e =
    sym (λ i. listed_cmp (append-nil (tokens d) i) (append-nil (tokens e) i))
    ∙ tokens-cmp d e [] [] ∙ then-Equal (value_cmp d e)

-- the order of values is total
pub value_cmp_total : IsTotalOrder value_cmp
value_cmp_total = subst IsTotalOrder (λ i d e. by_tokens d e i) (on_total tokens (lists_total token_cmp_total))

-- ---- only what is the same isn't told apart

-- where both together tie, the first ties
then_first : (o p : Ordering) → ordering_then o p ≡ Equal → o ≡ Equal
then_first Less p h = cc
then_first Equal p h = refl
then_first Greater p h = cc

-- where both together tie, the second ties
then_second : (o p : Ordering) → ordering_then o p ≡ Equal → p ≡ Equal
then_second Less p h = cc
then_second Equal p h = h
then_second Greater p h = cc

-- two values that tie are the same
mutual
  pub value_cmp-same : (d e : Data) → value_cmp d e ≡ Equal → d ≡ e
  value_cmp-same null null h = refl
  value_cmp-same (flag true) (flag true) h = refl
  value_cmp-same (flag true) (flag false) h = cc
  value_cmp-same (flag false) (flag true) h = cc
  value_cmp-same (flag false) (flag false) h = refl
  value_cmp-same (whole y) (whole z) h = ap whole (exact_signed y z h)
  value_cmp-same (words s) (words t) h = ap words (exact_bytes s t h)
  value_cmp-same (items ms) (items ns) h = ap items (nodes_cmp-same ms ns h)
  value_cmp-same (fields ms) (fields ns) h = ap fields (members_cmp-same ms ns h)
  value_cmp-same _ _ h = cc

  -- the values of two lists that tie are the same
  nodes_cmp-same : (ms ns : Nodes) → nodes_cmp ms ns ≡ Equal → ms ≡ ns
  nodes_cmp-same no_nodes no_nodes h = refl
  nodes_cmp-same no_nodes (node e ns) h = cc
  nodes_cmp-same (node d ms) no_nodes h = cc
  nodes_cmp-same (node d ms) (node e ns) h =
      let first : d ≡ e = value_cmp-same d e (then_first (value_cmp d e) (nodes_cmp ms ns) h) in
      let rest : ms ≡ ns = nodes_cmp-same ms ns (then_second (value_cmp d e) (nodes_cmp ms ns) h) in
      cc

  -- the members of two maps that tie are the same
  members_cmp-same : (ms ns : Members) → members_cmp ms ns ≡ Equal → ms ≡ ns
  members_cmp-same no_members no_members h = refl
  members_cmp-same no_members (member l e ns) h = cc
  members_cmp-same (member k d ms) no_members h = cc
  members_cmp-same (member k d ms) (member l e ns) h =
      let behind : ordering_then (value_cmp d e) (members_cmp ms ns) ≡ Equal = then_second (slice_cmp nat_cmp k l) _ h in
      let key : k ≡ l = exact_bytes k l (then_first (slice_cmp nat_cmp k l) _ h) in
      let first : d ≡ e = value_cmp-same d e (then_first (value_cmp d e) (members_cmp ms ns) behind) in
      let rest : ms ≡ ns = members_cmp-same ms ns (then_second (value_cmp d e) (members_cmp ms ns) behind) in
      cc

-- whether the order doesn't tell two apart decides whether they are the same
pub value_cmp_exact : (d e : Data) → (value_cmp d e ≡ Equal) ↔ (d ≡ e)
value_cmp_exact d e = (value_cmp-same d e, λ same. subst (λ (x : Data). value_cmp d x ≡ Equal) same (tied_itself value_cmp_total d))
