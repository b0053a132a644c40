-- Entries that say nothing of a stack leave what the history says of it.
use Rattle.std.proofs.Common.{◌≡◌, ◌≢◌, inl, inr, ℕ, Bool, true, false, List, [], ◌∷◌, ◌++◌, Option, refl, ap, ◌∙◌}
use Rattle.std.specs.Prelude.{Contains, bytes_eq, ◌↔◌}
use Rattle.std.specs.List.{AllByRecursion}
use Rattle.std.proofs.lemmas.List.Elements.{Contains-append_cases, Contains-append_left}
use Rattle.std.proofs.lemmas.Slice.Eq.{bytes_eq-Decides}
use Rattle.heat_plan.specs.declared.token.Token.{Token}
use Rattle.provider.proofs.Sames.{same_token-other}
use Rattle.provider.specs.Same.{same_token}
use Rattle.provider.specs.Table.{TokenState}
use Rattle.step_relation.specs.declared.Entry.{Entry}
use Rattle.step_relation.specs.declared.What.{What}
use Rattle.step_relation.specs.Could.{could_by}
use Rattle.step_relation.specs.Marked.{Marked, marked_by}
use Rattle.step_relation.specs.Newest.{Latest, newest_by, rollback_by}
use Rattle.step_relation.specs.Stored.{released_by}
use Rattle.history_laws.proofs.tables.Puts.{contains_cases, contains_none}
use Rattle.history_laws.proofs.tells.Appends.{could_on, marked_on, newest_on, released_on, rollback_on}
use Rattle.step_relation.specs.declared.What.TheVariants as what

-- it commands, marks, calls and gives up nothing of this stack
abbrev pub IsApart : List ℕ → What → Type 0
IsApart name (what.Command stack trav act plan rollback) = stack ≢ name
IsApart name (what.Call token request given) = token.stack ≢ name
IsApart name (what.Release token) = token.stack ≢ name
IsApart name (what.Mark stack trav act cause) = stack ≢ name
IsApart name (what.Rows writes) = Unit {0}
IsApart name (what.Mail writes) = Unit {0}
IsApart name (what.Engine change) = Unit {0}
IsApart name (what.Show it stack) = Unit {0}
IsApart name (what.Note line code path) = Unit {0}
IsApart name (what.Ran idle turns) = Unit {0}
IsApart name (what.Turned engine lost) = Unit {0}
IsApart name (what.Preview stack forecast) = Unit {0}
IsApart name what.Closed = Unit {0}

pub record AreApart (name : List ℕ) (es : List Entry) : Type 0 where
  pub all : AllByRecursion (λ (e : Entry). IsApart name e.what) es

pub apart_rest : (name : List ℕ) (e : Entry) (es : List Entry) → AreApart name (e ∷ es) → AreApart name es
apart_rest name e es apart = record { all = apart.all.1 }

other_text : (a b : List ℕ) → a ≢ b → bytes_eq a b ≡ false
other_text a b ne = by (bytes_eq a b) refl where
  by : (x : Bool) → bytes_eq a b ≡ x → bytes_eq a b ≡ false
  by true e = absurd (ne ((bytes_eq-Decides a b).0 e))
  by false e = e

other_token : (a b : Token) → a.stack ≢ b.stack → same_token a b ≡ false
other_token a b ne = same_token-other a b (λ is. ne (ap (λ (x : Token). x.stack) is))

could_one : (t : Token) (states : List TokenState) (w : What) → IsApart t.stack w → could_by t states w ≡ states
could_one t states (what.Command stack trav act plan rollback) ne = refl
could_one t states (what.Call token request given) ne = rw (other_token token t ne) refl
could_one t states (what.Release token) ne = refl
could_one t states (what.Mark stack trav act cause) ne = refl
could_one t states (what.Rows writes) ne = refl
could_one t states (what.Mail writes) ne = refl
could_one t states (what.Engine change) ne = refl
could_one t states (what.Show it stack) ne = refl
could_one t states (what.Note line code path) ne = refl
could_one t states (what.Ran idle turns) ne = refl
could_one t states (what.Turned engine lost) ne = refl
could_one t states (what.Preview stack forecast) ne = refl
could_one t states what.Closed ne = refl

pub could_apart : (t : Token) (states : List TokenState) (es : List Entry) → AreApart t.stack es
    → could_on t states es ≡ states
could_apart t states [] apart = refl
could_apart t states (e ∷ es) apart =
    ap (λ (x : List TokenState). could_on t x es) (could_one t states e.what apart.all.0)
    ∙ could_apart t states es (apart_rest t.stack e es apart)

newest_one : (name : List ℕ) (b : Option Latest) (w : What) → IsApart name w → newest_by name b w ≡ b
newest_one name b (what.Command stack trav act plan rollback) ne = rw (other_text stack name ne) refl
newest_one name b (what.Call token request given) ne = refl
newest_one name b (what.Release token) ne = refl
newest_one name b (what.Mark stack trav act cause) ne = refl
newest_one name b (what.Rows writes) ne = refl
newest_one name b (what.Mail writes) ne = refl
newest_one name b (what.Engine change) ne = refl
newest_one name b (what.Show it stack) ne = refl
newest_one name b (what.Note line code path) ne = refl
newest_one name b (what.Ran idle turns) ne = refl
newest_one name b (what.Turned engine lost) ne = refl
newest_one name b (what.Preview stack forecast) ne = refl
newest_one name b what.Closed ne = refl

pub newest_apart : (name : List ℕ) (b : Option Latest) (es : List Entry) → AreApart name es → newest_on name b es ≡ b
newest_apart name b [] apart = refl
newest_apart name b (e ∷ es) apart =
    ap (λ (x : Option Latest). newest_on name x es) (newest_one name b e.what apart.all.0)
    ∙ newest_apart name b es (apart_rest name e es apart)

marked_one : (name : List ℕ) (b : Option Marked) (w : What) → IsApart name w → marked_by name b w ≡ b
marked_one name b (what.Command stack trav act plan rollback) ne = rw (other_text stack name ne) refl
marked_one name b (what.Call token request given) ne = refl
marked_one name b (what.Release token) ne = refl
marked_one name b (what.Mark stack trav act cause) ne = rw (other_text stack name ne) refl
marked_one name b (what.Rows writes) ne = refl
marked_one name b (what.Mail writes) ne = refl
marked_one name b (what.Engine change) ne = refl
marked_one name b (what.Show it stack) ne = refl
marked_one name b (what.Note line code path) ne = refl
marked_one name b (what.Ran idle turns) ne = refl
marked_one name b (what.Turned engine lost) ne = refl
marked_one name b (what.Preview stack forecast) ne = refl
marked_one name b what.Closed ne = refl

pub marked_apart : (name : List ℕ) (b : Option Marked) (es : List Entry) → AreApart name es → marked_on name b es ≡ b
marked_apart name b [] apart = refl
marked_apart name b (e ∷ es) apart =
    ap (λ (x : Option Marked). marked_on name x es) (marked_one name b e.what apart.all.0)
    ∙ marked_apart name b es (apart_rest name e es apart)

rollback_one : (name : List ℕ) (b : Bool) (w : What) → IsApart name w → rollback_by name b w ≡ b
rollback_one name b (what.Command stack trav act plan rollback) ne = rw (other_text stack name ne) refl
rollback_one name b (what.Call token request given) ne = refl
rollback_one name b (what.Release token) ne = refl
rollback_one name b (what.Mark stack trav act cause) ne = refl
rollback_one name b (what.Rows writes) ne = refl
rollback_one name b (what.Mail writes) ne = refl
rollback_one name b (what.Engine change) ne = refl
rollback_one name b (what.Show it stack) ne = refl
rollback_one name b (what.Note line code path) ne = refl
rollback_one name b (what.Ran idle turns) ne = refl
rollback_one name b (what.Turned engine lost) ne = refl
rollback_one name b (what.Preview stack forecast) ne = refl
rollback_one name b what.Closed ne = refl

pub rollback_apart : (name : List ℕ) (b : Bool) (es : List Entry) → AreApart name es → rollback_on name b es ≡ b
rollback_apart name b [] apart = refl
rollback_apart name b (e ∷ es) apart =
    ap (λ (x : Bool). rollback_on name x es) (rollback_one name b e.what apart.all.0)
    ∙ rollback_apart name b es (apart_rest name e es apart)

released_one : (t : Token) (tokens : List Token) (w : What) → IsApart t.stack w
    → Contains (released_by tokens w) t ↔ Contains tokens t
released_one t tokens (what.Release token) ne = (back, λ has. Contains-append_left tokens (token ∷ []) t has) where
  back : Contains (tokens ++ token ∷ []) t → Contains tokens t
  back has = elim (Contains-append_cases tokens (token ∷ []) t has) [
    | inl was ↦ was
    | inr new ↦ elim (contains_cases token t [] new) [
      | inl is ↦ absurd (ne (ap (λ (x : Token). x.stack) is))
      | inr there ↦ absurd (contains_none t there)
    ]
  ]
released_one t tokens (what.Command stack trav act plan rollback) ne = (λ has. has, λ has. has)
released_one t tokens (what.Call token request given) ne = (λ has. has, λ has. has)
released_one t tokens (what.Mark stack trav act cause) ne = (λ has. has, λ has. has)
released_one t tokens (what.Rows writes) ne = (λ has. has, λ has. has)
released_one t tokens (what.Mail writes) ne = (λ has. has, λ has. has)
released_one t tokens (what.Engine change) ne = (λ has. has, λ has. has)
released_one t tokens (what.Show it stack) ne = (λ has. has, λ has. has)
released_one t tokens (what.Note line code path) ne = (λ has. has, λ has. has)
released_one t tokens (what.Ran idle turns) ne = (λ has. has, λ has. has)
released_one t tokens (what.Turned engine lost) ne = (λ has. has, λ has. has)
released_one t tokens (what.Preview stack forecast) ne = (λ has. has, λ has. has)
released_one t tokens what.Closed ne = (λ has. has, λ has. has)

pub released_apart : (t : Token) (tokens : List Token) (es : List Entry) → AreApart t.stack es
    → Contains (released_on tokens es) t ↔ Contains tokens t
released_apart t tokens [] apart = (λ has. has, λ has. has)
released_apart t tokens (e ∷ es) apart =
    let one = released_one t tokens e.what apart.all.0 in
    let more = released_apart t (released_by tokens e.what) es (apart_rest t.stack e es apart) in
    (λ has. one.0 (more.0 has), λ has. more.1 (one.1 has))
