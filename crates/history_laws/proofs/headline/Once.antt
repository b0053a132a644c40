-- A token whose states are all the same is in that one state alone.
use Rattle.std.proofs.Common.{Bool, List, ap, false, inl, inr, refl, subst, sym, true, ◌∙◌}
use Rattle.std.proofs.lemmas.Slice.Eq.{bytes_eq-Decides}
use Rattle.std.specs.Prelude.{Contains, List, None, Option, Some, [], filter, flat_map, if◌then◌else◌, not, ◌++◌, ◌∷◌}
use Rattle.std.specs.Prelude.{◌≡◌, ◌≢◌, ◌⊎◌}
use Rattle.heat_plan.specs.declared.facts.Facts.{Facts}
use Rattle.heat_plan.specs.declared.token.Token.{Token}
use Rattle.traversal_graph.specs.Candidates.{each}
use Rattle.provider.proofs.Sames.{joint, same_facts-same, same_members-same}
use Rattle.provider.specs.Same.{same_flag, same_token}
use Rattle.provider.specs.Table.{TokenState, after, after_each, once, same_state, same_told}
use Rattle.step_relation.specs.declared.Entry.{Entry}
use Rattle.step_relation.specs.declared.What.{What}
use Rattle.step_relation.specs.Could.{IsPossible, could_by, could_of}
use Rattle.step_relation.specs.Opening.{Opening, first_of}
use Rattle.step_relation.specs.Tokens.{MayLive}
use Rattle.history_laws.proofs.tells.Appends.{could-append, could_on}
use Rattle.history_laws.proofs.agrees.Called.{filtered, none_in}
use Rattle.step_relation.specs.declared.What.TheVariants as what
use Rattle.provider.proofs.Lists.{here, there, cases}

-- one state, or each once
abbrev pub IsOnced : List TokenState → Type 0
IsOnced states = ((y : TokenState) × (states ≡ y ∷ [])) ⊎ ((xs : List TokenState) × (states ≡ once xs))

onced_by : (t : Token) (states : List TokenState) (w : What) → IsOnced states → IsOnced (could_by t states w)
onced_by t states (what.Call token request given) k = by (same_token token t) where
  by : (b : Bool) → IsOnced (if b then after_each request given states else states)
  by true = inr (flat_map (after request given) states, refl)
  by false = k
onced_by t states (what.Command stack trav act plan rollback) k = k
onced_by t states (what.Mark stack trav act cause) k = k
onced_by t states (what.Release token) k = k
onced_by t states (what.Rows writes) k = k
onced_by t states (what.Mail writes) k = k
onced_by t states (what.Engine change) k = k
onced_by t states (what.Show it stack) k = k
onced_by t states (what.Note line code path) k = k
onced_by t states (what.Ran idle turns) k = k
onced_by t states (what.Turned engine lost) k = k
onced_by t states (what.Preview stack forecast) k = k
onced_by t states what.Closed k = k

onced_on : (t : Token) (states : List TokenState) (es : List Entry) → IsOnced states → IsOnced (could_on t states es)
onced_on t states [] k = k
onced_on t states (e ∷ es) k = onced_on t (could_by t states e.what) es (onced_by t states e.what k)

pub onced : (o : Opening) (h : List Entry) (t : Token) → IsOnced (could_of o h t)
onced o h t = onced_on t (first_of o t ∷ []) h (inl (first_of o t, refl))

same_told-same : (a : Option Facts) → same_told a a ≡ true
same_told-same None = refl
same_told-same (Some a) = same_facts-same a

flag-same : (b : Bool) → same_flag b b ≡ true
flag-same true = refl
flag-same false = refl

same_state-same : (a : TokenState) → same_state a a ≡ true
same_state-same None = refl
same_state-same (Some a) = joint _ _ ((bytes_eq-Decides a.kind a.kind).1 refl)
    (joint _ _ (same_members-same a.props) (joint _ _ (same_told-same a.facts) (flag-same a.leaving)))

no_elements : {A : Type 0} (xs : List A) → ((x : A) → ¬ Contains xs x) → xs ≡ []
no_elements [] none = refl
no_elements (x ∷ xs) none = absurd (none x (here x x xs refl))

pub alone : (states : List TokenState) (y : TokenState) → IsOnced states → states ≢ []
    → ((x : TokenState) → Contains states x → x ≡ y) → states ≡ y ∷ []
alone states y (inl (z, is)) some each =
    let z_is : z ≡ y = each z (subst (λ (ss : List TokenState). Contains ss z) (sym is) (here z z [] refl)) in is
    ∙ ap (λ (w : TokenState). w ∷ []) z_is
alone states y (inr ([], is)) some each = absurd (some is)
alone states y (inr (z ∷ rest, is)) some each =
    let z_is : z ≡ y = each z (subst (λ (ss : List TokenState). Contains ss z) (sym is)
    (here z z (filter (λ r. not (same_state z r)) (once rest)) refl)) in
    let no_more = no_elements (filter (λ r. not (same_state z r)) (once rest)) (λ w c.
    let w_is : w ≡ y = each w (subst (λ (ss : List TokenState). Contains ss w) (sym is)
    (there w z (filter (λ r. not (same_state z r)) (once rest)) c)) in
    let passes : not (same_state z w) ≡ true = (filtered (λ r. not (same_state z r)) w (once rest) c).1 in
    let same : z ≡ w = z_is ∙ sym w_is in
    let itself : same_state z w ≡ true = subst (λ (v : TokenState). same_state z v ≡ true) same
    (same_state-same z) in
    not_both (same_state z w) itself passes) in
    is ∙ (ap (λ (ss : List TokenState). z ∷ ss) no_more ∙ ap (λ (w : TokenState). w ∷ []) z_is) where
      not_both : (b : Bool) → b ≡ true → not b ≡ true → ⊥
      not_both true e f = cc
      not_both false e f = cc

empty_by : (t : Token) (w : What) → could_by t [] w ≡ []
empty_by t (what.Call token request given) = by (same_token token t) where
  by : (b : Bool) → (if b then after_each request given [] else []) ≡ []
  by true = refl
  by false = refl
empty_by t (what.Command stack trav act plan rollback) = refl
empty_by t (what.Mark stack trav act cause) = refl
empty_by t (what.Release token) = refl
empty_by t (what.Rows writes) = refl
empty_by t (what.Mail writes) = refl
empty_by t (what.Engine change) = refl
empty_by t (what.Show it stack) = refl
empty_by t (what.Note line code path) = refl
empty_by t (what.Ran idle turns) = refl
empty_by t (what.Turned engine lost) = refl
empty_by t (what.Preview stack forecast) = refl
empty_by t what.Closed = refl

empty_on : (t : Token) (es : List Entry) → could_on t [] es ≡ []
empty_on t [] = refl
empty_on t (e ∷ es) = ap (λ (ss : List TokenState). could_on t ss es) (empty_by t e.what) ∙ empty_on t es

-- what was possible later was so before
pub possible_before : (o : Opening) (h es : List Entry) → IsPossible o (h ++ es) → IsPossible o h
possible_before o h es possible t none = possible t (could-append o h es t
    ∙ (ap (λ (ss : List TokenState). could_on t ss es) none ∙ empty_on t es))

-- a list of states has one that is alive, or none
pub lives_or_not : (states : List TokenState) → MayLive states ⊎ ((x : TokenState) → Contains states x → x ≡ None)
lives_or_not [] = inr (λ x c. absurd (none_in x c))
lives_or_not (Some it ∷ rest) = inl (record { it = it; among = here (Some it) (Some it) rest refl })
lives_or_not (None ∷ rest) = elim (lives_or_not rest) [
  | inl k ↦ inl (record { it = k.it; among = there (Some k.it) None rest k.among })
  | inr none ↦ inr (λ x c. elim (cases x None rest c) [ inl is ↦ sym is | inr later ↦ none x later ])
]

pub one_there : (states : List TokenState) → states ≢ [] → (x : TokenState) × Contains states x
one_there [] some = absurd (some refl)
one_there (x ∷ rest) some = (x, here x x rest refl)
