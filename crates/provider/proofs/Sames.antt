-- The tests of sameness decide equality.
use Rattle.std.proofs.Common.{◌≡◌, ◌&&◌, Bool, true, false, List, ℕ, Some, None, Option, refl, ap, ◌∙◌}
use Rattle.std.proofs.lemmas.Slice.Eq.{bytes_eq-Decides}
use Rattle.std.proofs.lemmas.Bool.Decides.{Decides-int_eq, Decides-eqb}
use Rattle.heat_value.specs.Data.{Data, null, flag, whole, words, items, fields, Nodes, no_nodes, node, Members, no_members, member}
use Rattle.heat_plan.specs.declared.token.Token.{Token}
use Rattle.heat_plan.specs.declared.facts.Facts.{Facts}
use Rattle.provider.specs.Same.{same_token, same_flag, same_data, same_nodes, same_members, same_facts}
use Rattle.provider.specs.Table.{Living, TokenState, same_told, same_state}

pub both : (x y : Bool) → (x && y) ≡ true → (x ≡ true) × (y ≡ true)
both true true e = (refl, refl)
both true false e = cc
both false y e = cc

pub joint : (x y : Bool) → x ≡ true → y ≡ true → (x && y) ≡ true
joint true y e f = f
joint false y e f = cc

pub not_true : (b : Bool) → (b ≡ true → ⊥) → b ≡ false
not_true true h = absurd (h refl)
not_true false h = refl

-- ---- the same as itself

pub same_token-same : (a : Token) → same_token a a ≡ true
same_token-same a = joint _ _ ((bytes_eq-Decides a.stack a.stack).1 refl) (joint _ _ ((bytes_eq-Decides a.name a.name).1 refl) ((Decides-eqb a.row a.row).1 refl))

same_flag-same : (b : Bool) → same_flag b b ≡ true
same_flag-same true = refl
same_flag-same false = refl

mutual
  pub same_data-same : (a : Data) → same_data a a ≡ true
  same_data-same null = refl
  same_data-same (flag b) = same_flag-same b
  same_data-same (whole z) = (Decides-int_eq z z).1 refl
  same_data-same (words s) = (bytes_eq-Decides s s).1 refl
  same_data-same (items ns) = same_nodes-same ns
  same_data-same (fields ms) = same_members-same ms

  pub same_nodes-same : (a : Nodes) → same_nodes a a ≡ true
  same_nodes-same no_nodes = refl
  same_nodes-same (node a more) = joint _ _ (same_data-same a) (same_nodes-same more)

  pub same_members-same : (a : Members) → same_members a a ≡ true
  same_members-same no_members = refl
  same_members-same (member k a more) = joint _ _ ((bytes_eq-Decides k k).1 refl) (joint _ _ (same_data-same a) (same_members-same more))

pub same_facts-same : (a : Facts) → same_facts a a ≡ true
same_facts-same a = joint _ _ ((bytes_eq-Decides a.id a.id).1 refl) (same_members-same a.attrs)

-- ---- what is the same is equal

abbrev token : List ℕ → List ℕ → ℕ → Token
token stack name row = record { stack = stack; name = name; row = row }

abbrev facts_with : List ℕ → Members → Facts
facts_with id attrs = record { id = id; attrs = attrs }

abbrev living : List ℕ → Members → Option Facts → Bool → Living
living kind props facts leaving = record { kind = kind; props = props; facts = facts; leaving = leaving }

pub same_token-true : (a b : Token) → same_token a b ≡ true → a ≡ b
same_token-true a b e =
    let p = both _ _ e in
    let q = both _ _ p.1 in
    let stack : a.stack ≡ b.stack = (bytes_eq-Decides a.stack b.stack).0 p.0 in
    let name : a.name ≡ b.name = (bytes_eq-Decides a.name b.name).0 q.0 in
    let row : a.row ≡ b.row = (Decides-eqb a.row b.row).0 q.1 in
    ap (λ s. token s a.name a.row) stack ∙ ap (λ n. token b.stack n a.row) name ∙ ap (λ r. token b.stack b.name r) row

pub same_token-other : (a b : Token) → (a ≡ b → ⊥) → same_token a b ≡ false
same_token-other a b h = not_true (same_token a b) (λ e. h (same_token-true a b e))

same_flag-true : (a b : Bool) → same_flag a b ≡ true → a ≡ b
same_flag-true true true e = refl
same_flag-true true false e = cc
same_flag-true false true e = cc
same_flag-true false false e = refl

mutual
  pub same_data-true : (a b : Data) → same_data a b ≡ true → a ≡ b
  same_data-true null null e = refl
  same_data-true (flag a) (flag b) e = ap flag (same_flag-true a b e)
  same_data-true (whole a) (whole b) e = ap whole ((Decides-int_eq a b).0 e)
  same_data-true (words a) (words b) e = ap words ((bytes_eq-Decides a b).0 e)
  same_data-true (items a) (items b) e = ap items (same_nodes-true a b e)
  same_data-true (fields a) (fields b) e = ap fields (same_members-true a b e)
  same_data-true _ _ e = cc

  pub same_nodes-true : (a b : Nodes) → same_nodes a b ≡ true → a ≡ b
  same_nodes-true no_nodes no_nodes e = refl
  same_nodes-true (node a more) (node b rest) e =
      let p = both _ _ e in
      let first : a ≡ b = same_data-true a b p.0 in
      let others : more ≡ rest = same_nodes-true more rest p.1 in
      cc
  same_nodes-true _ _ e = cc

  pub same_members-true : (a b : Members) → same_members a b ≡ true → a ≡ b
  same_members-true no_members no_members e = refl
  same_members-true (member k a more) (member l b rest) e =
      let p = both _ _ e in
      let q = both _ _ p.1 in
      let key : k ≡ l = (bytes_eq-Decides k l).0 p.0 in
      let first : a ≡ b = same_data-true a b q.0 in
      let others : more ≡ rest = same_members-true more rest q.1 in
      cc
  same_members-true _ _ e = cc

pub same_facts-true : (a b : Facts) → same_facts a b ≡ true → a ≡ b
same_facts-true a b e =
    let p = both _ _ e in
    let id : a.id ≡ b.id = (bytes_eq-Decides a.id b.id).0 p.0 in
    let attrs : a.attrs ≡ b.attrs = same_members-true a.attrs b.attrs p.1 in
    ap (λ i. facts_with i a.attrs) id ∙ ap (λ m. facts_with b.id m) attrs

same_told-true : (a b : Option Facts) → same_told a b ≡ true → a ≡ b
same_told-true None None e = refl
same_told-true (Some a) (Some b) e = ap Some (same_facts-true a b e)
same_told-true _ _ e = cc

pub same_state-true : (a b : TokenState) → same_state a b ≡ true → a ≡ b
same_state-true None None e = refl
same_state-true (Some a) (Some b) e =
    let p = both _ _ e in
    let q = both _ _ p.1 in
    let r = both _ _ q.1 in
    let kind : a.kind ≡ b.kind = (bytes_eq-Decides a.kind b.kind).0 p.0 in
    let props : a.props ≡ b.props = same_members-true a.props b.props q.0 in
    let facts : a.facts ≡ b.facts = same_told-true a.facts b.facts r.0 in
    let leaving : a.leaving ≡ b.leaving = same_flag-true a.leaving b.leaving r.1 in
    ap Some (ap (λ k. living k a.props a.facts a.leaving) kind ∙ ap (λ m. living b.kind m a.facts a.leaving) props
    ∙ ap (λ f. living b.kind b.props f a.leaving) facts ∙ ap (λ l. living b.kind b.props b.facts l) leaving)
same_state-true _ _ e = cc

pub same_members-other : (a b : Members) → (a ≡ b → ⊥) → same_members a b ≡ false
same_members-other a b h = not_true (same_members a b) (λ e. h (same_members-true a b e))
