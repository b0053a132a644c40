-- The tokens that calls name have their states, and every other token that wasn't given up is certainly absent.
use Rattle.std.proofs.Common.{◌≡◌, ◌⊎◌, inl, inr, ℕ, Bool, true, false, List, [], ◌∷◌, refl, ap, ◌∙◌, subst}
use Rattle.std.specs.Prelude.{All, Any, Contains, fold, not, ◌&&◌, if◌then◌else◌}
use Rattle.std.specs.Str.{bytes_eq}
use Rattle.std.proofs.lemmas.Slice.Eq.{bytes_eq-Decides}
use Rattle.heat_plan.specs.declared.token.Token.{Token}
use Rattle.core_state.specs.declared.entry.Entry.{Entry}
use Rattle.core_state.specs.declared.entry.What.{What}
use Rattle.core_state.specs.declared.entry.What.TheVariants as what
use Rattle.provider.specs.Table.{TokenState}
use Rattle.provider.proofs.Sames.{same_token-other}
use Rattle.step_relation.specs.Could.{could_by}
use Rattle.headline_reader.specs.declared.possible.Possible.{Possible}
use Rattle.headline_reader.specs.Called.{with_states, called_by, called, is_among}
use Rattle.headline_reader.proofs.Lists.{All-none, All-more, All-both}
use Rattle.headline_reader.proofs.Members.{any_first, any_before, any_behind}
use Rattle.headline_reader.proofs.Tokens.{token_or_not, not_among, not_there}

-- the states over these entries, from these on
abbrev pub could_on : Token → List TokenState → List Entry → List TokenState
could_on t states es = fold (λ (before : List TokenState) (e : Entry). could_by t before e.what) states es

module _ (c : Token → List TokenState) (gone : List Token) (stack : List ℕ) where
  -- of the stack, with its states, and not given up
  pub record IsListed (p : Possible) : Type 0 where
    pub states : p.states ≡ c p.token
    pub stack_is : p.token.stack ≡ stack
    pub owned : Contains gone p.token → ⊥

  by_listed : (w : What) → All IsListed (called_by c gone stack w)
  by_listed (what.Call token request given) = by (bytes_eq token.stack stack) (is_among token gone) refl refl where
    by : (a b : Bool) → bytes_eq token.stack stack ≡ a → is_among token gone ≡ b
        → All IsListed (if a && not b then with_states c token ∷ [] else [])
    by true false is none = All-more IsListed (with_states c token) [] (record {
      states = refl;
      stack_is = (bytes_eq-Decides token.stack stack).0 is;
      owned = not_there token gone none;
    }) (All-none IsListed)
    by true true is there = All-none IsListed
    by false true is there = All-none IsListed
    by false false is none = All-none IsListed
  by_listed (what.Command name trav act plan rollback) = All-none IsListed
  by_listed (what.Release token) = All-none IsListed
  by_listed (what.Mark name trav act cause) = All-none IsListed
  by_listed (what.Rows writes) = All-none IsListed
  by_listed (what.Mail writes) = All-none IsListed
  by_listed (what.Engine change) = All-none IsListed
  by_listed (what.Show it name) = All-none IsListed
  by_listed (what.Note line code path) = All-none IsListed
  by_listed (what.Ran idle turns) = All-none IsListed
  by_listed (what.Turned engine lost) = All-none IsListed
  by_listed (what.Preview stack forecast) = All-none IsListed
  by_listed what.Closed = All-none IsListed

  pub all_listed : (es : List Entry) → All IsListed (called c gone stack es)
  all_listed [] = All-none IsListed
  all_listed (e ∷ es) = All-both IsListed (called_by c gone stack e.what) (called c gone stack es) (by_listed e.what) (all_listed es)

  module _ (t : Token) (its : t.stack ≡ stack) (owned : Contains gone t → ⊥) where
    -- it was called, or its states stay
    by_called : (w : What) → Any (λ (p : Possible). p.token ≡ t) (called_by c gone stack w) ⊎ ((states : List TokenState) → could_by t states w ≡ states)
    by_called (what.Call token request given) = elim (token_or_not token t) [
      | inl is ↦ inl (listed is)
      | inr ne ↦ inr (λ states. rw (same_token-other token t ne) refl)
    ] where
      listed : token ≡ t → Any (λ (p : Possible). p.token ≡ t)
          (if bytes_eq token.stack stack && not (is_among token gone) then with_states c token ∷ [] else [])
      listed is =
          let here : bytes_eq token.stack stack ≡ true = (bytes_eq-Decides token.stack stack).1 (ap (λ (x : Token). x.stack) is ∙ its) in
          let kept : is_among token gone ≡ false = not_among token gone (λ there. owned (subst (λ (x : Token). Contains gone x) is there)) in
          by (bytes_eq token.stack stack) (is_among token gone) here kept where
            by : (a b : Bool) → a ≡ true → b ≡ false → Any (λ (p : Possible). p.token ≡ t) (if a && not b then with_states c token ∷ [] else [])
            by true false e f = any_first (λ (p : Possible). p.token ≡ t) (with_states c token) [] is
            by true true e f = cc
            by false true e f = cc
            by false false e f = cc
    by_called (what.Command name trav act plan rollback) = inr (λ states. refl)
    by_called (what.Release token) = inr (λ states. refl)
    by_called (what.Mark name trav act cause) = inr (λ states. refl)
    by_called (what.Rows writes) = inr (λ states. refl)
    by_called (what.Mail writes) = inr (λ states. refl)
    by_called (what.Engine change) = inr (λ states. refl)
    by_called (what.Show it name) = inr (λ states. refl)
    by_called (what.Note line code path) = inr (λ states. refl)
    by_called (what.Ran idle turns) = inr (λ states. refl)
    by_called (what.Turned engine lost) = inr (λ states. refl)
    by_called (what.Preview stack forecast) = inr (λ states. refl)
    by_called what.Closed = inr (λ states. refl)

    pub called_or_not : (es : List Entry) → Any (λ (p : Possible). p.token ≡ t) (called c gone stack es) ⊎ ((states : List TokenState) → could_on t states es ≡ states)
    called_or_not [] = inr (λ states. refl)
    called_or_not (e ∷ es) = elim (called_or_not es) [
      | inl later ↦ inl (any_behind (λ (p : Possible). p.token ≡ t) (called_by c gone stack e.what) (called c gone stack es) later)
      | inr rest ↦ elim (by_called e.what) [
        | inl now ↦ inl (any_before (λ (p : Possible). p.token ≡ t) (called_by c gone stack e.what) (called c gone stack es) now)
        | inr stays ↦ inr (λ states. rest (could_by t states e.what) ∙ stays states)
      ]
    ]
