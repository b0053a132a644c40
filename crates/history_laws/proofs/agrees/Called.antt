-- What may be alive behind a call: by the answer, from the states before.
use Rattle.std.proofs.Common.{arith, cond, inl, inr, refl, subst, sym, ◌∙◌}
use Rattle.std.proofs.lemmas.List.Elements.{Contains-append_cases}
use Rattle.std.specs.Prelude.{Bool, Contains, IsSome, List, None, Some, [], false, filter, flat_map, if◌then◌else◌, not}
use Rattle.std.specs.Prelude.{true, ℕ, ◌++◌, ◌∷◌, ◌≡◌, ◌≢◌, ◌⊎◌}
use Rattle.heat_value.specs.Data.{Members}
use Rattle.heat_plan.specs.declared.calls.Answered.{Answered}
use Rattle.heat_plan.specs.declared.calls.Request.{Request}
use Rattle.heat_plan.specs.declared.facts.Facts.{Facts}
use Rattle.heat_plan.specs.declared.token.Token.{Token}
use Rattle.provider.proofs.Sames.{same_token-other, same_token-same}
use Rattle.provider.specs.Table.{Living, TokenState, after, after_each, begun, going, once, same_state, told, updated}
use Rattle.step_relation.specs.declared.Actor.{Actor}
use Rattle.step_relation.specs.declared.Entry.{Entry}
use Rattle.step_relation.specs.Writes.{entry_of}
use Rattle.step_relation.specs.Could.{could_by, could_of}
use Rattle.step_relation.specs.Opening.{Opening}
use Rattle.step_relation.specs.Agrees.{IsGoing, absent, leaves}
use Rattle.history_laws.proofs.tells.Appends.{could-append}
use Rattle.history_laws.proofs.tells.Silence.{AreUncalling, could_on-silent}
use Rattle.heat_plan.specs.declared.calls.Answered.TheVariants as answer
use Rattle.heat_plan.specs.declared.calls.Request.TheVariants as request
use Rattle.step_relation.specs.declared.What.TheVariants as what
use Rattle.provider.proofs.Lists.{here, there, cases}

pub only : {A : Type 0} (y x : A) → Contains (y ∷ []) x → x ≡ y
only y x c = elim (cases x y [] c) [ inl is ↦ sym is | inr rest ↦ absurd (omega (arith, rest.1)) ]

pub none_in : {A : Type 0} (x : A) → ¬ Contains [] x
none_in x c = absurd (omega (arith, c.1))

pub filtered : {A : Type 0} (p : A → Bool) (x : A) (xs : List A) → Contains (filter p xs) x
    → Contains xs x × (p x ≡ true)
filtered p x [] c = absurd (none_in x c)
filtered {A = A} p x (y ∷ ys) c = by (p y) refl (filtered p x ys) c where
  by : (b : Bool) → p y ≡ b → (Contains (filter p ys) x → Contains ys x × (p x ≡ true))
      → Contains (cond b (y ∷ filter p ys) (filter p ys)) x → Contains (y ∷ ys) x × (p x ≡ true)
  by true e more d = elim (cases x y (filter p ys) d) [
    | inl is ↦ (here x y ys is, subst (λ (z : A). p z ≡ true) is e)
    | inr rest ↦ let (among, holds) = more rest in (there x y ys among, holds)
  ]
  by false e more d = let (among, holds) = more d in (there x y ys among, holds)

pub once_from : (x : TokenState) (xs : List TokenState) → Contains (once xs) x → Contains xs x
once_from x [] c = c
once_from x (y ∷ ys) c = elim (cases x y (filter (λ r. not (same_state y r)) (once ys)) c) [
  | inl is ↦ here x y ys is
  | inr rest ↦ there x y ys (once_from x ys (filtered (λ r. not (same_state y r)) x (once ys) rest).0)
]

pub flat_from : {A B : Type 0} (f : A → List B) (y : B) (xs : List A) → Contains (flat_map f xs) y
    → (x : A) × Contains xs x × Contains (f x) y
flat_from f y [] c = absurd (none_in y c)
flat_from f y (x ∷ xs) c = elim (Contains-append_cases (f x) (flat_map f xs) y c) [
  | inl own ↦ (x, here x x xs refl, own)
  | inr rest ↦ let (z, among, made) = flat_from f y xs rest in (z, there z x xs among, made)
]

pub among_after : (request : Request) (given : Answered) (states : List TokenState) (x : TokenState)
    → Contains (after_each request given states) x
    → (y : TokenState) × Contains states y × Contains (after request given y) x
among_after request given states x c = flat_from (after request given) x states
    (once_from x (flat_map (after request given) states) c)

-- a call to the token, and no call behind it
pub could_here : (o : Opening) (h rest : List Entry) (actor : Actor) (t : Token) (request : Request)
    (given : Answered) → AreUncalling rest
    → could_of o (h ++ entry_of actor (what.Call t request given) ∷ rest) t ≡ after_each request given
    (could_of o h t)
could_here o h rest actor t request given none =
    could-append o h (entry_of actor (what.Call t request given) ∷ rest) t
    ∙ (could_on-silent t (could_by t (could_of o h t) (what.Call t request given)) rest none
    ∙ rw (same_token-same t) refl)

pub could_else : (o : Opening) (h rest : List Entry) (actor : Actor) (x t : Token) (request : Request)
    (given : Answered) → t ≢ x → AreUncalling rest
    → could_of o (h ++ entry_of actor (what.Call t request given) ∷ rest) x ≡ could_of o h x
could_else o h rest actor x t request given ne none =
    could-append o h (entry_of actor (what.Call t request given) ∷ rest) x
    ∙ (could_on-silent x (could_by x (could_of o h x) (what.Call t request given)) rest none
    ∙ rw (same_token-other t x ne) refl)

-- ---- the rows of the cloud's table

pub after_create : (kind : List ℕ) (props : Members) (given : Answered) (y x : TokenState)
    → Contains (after (request.Create kind props) given y) x
    → (x ≡ y) ⊎ ((y ≡ None) × (x ≡ Some (begun kind props)))
after_create kind props answer.Begun None x c = inr (refl, only _ x c)
after_create kind props answer.Begun (Some it) x c = inl (only _ x c)
after_create kind props answer.Quota None x c = inl (only _ x c)
after_create kind props answer.Quota (Some it) x c = absurd (none_in x c)
after_create kind props answer.Failed None x c = elim (cases x None (Some (begun kind props) ∷ []) c) [
  | inl is ↦
      inl (sym is)
  | inr rest ↦ inr (refl, only _ x rest)
]
after_create kind props answer.Failed (Some it) x c = inl (only _ x c)
after_create kind props answer.NotYet y x c = absurd (none_in x c)
after_create kind props (answer.Ready facts) y x c = absurd (none_in x c)
after_create kind props (answer.Broken code) y x c = absurd (none_in x c)
after_create kind props answer.Gone y x c = absurd (none_in x c)

pub after_create_begun : (kind : List ℕ) (props : Members) (y x : TokenState)
    → Contains (after (request.Create kind props) answer.Begun y) x → IsSome x
after_create_begun kind props None x c = rw (only _ x c) refl
after_create_begun kind props (Some it) x c = rw (only _ x c) refl

pub after_update : (props : Members) (given : Answered) (y x : TokenState)
    → Contains (after (request.Update props) given y) x
    → (it : Living) × (y ≡ Some it) × ((x ≡ Some it) ⊎ (x ≡ Some (updated props it)))
after_update props given None x c = absurd (by given c) where
  by : (g : Answered) → Contains (after (request.Update props) g None) x → ⊥
  by answer.Begun d = none_in x d
  by answer.Quota d = none_in x d
  by answer.Failed d = none_in x d
  by answer.NotYet d = none_in x d
  by (answer.Ready facts) d = none_in x d
  by (answer.Broken code) d = none_in x d
  by answer.Gone d = none_in x d
after_update props answer.Begun (Some it) x c = (it, refl, inr (only _ x c))
after_update props answer.Failed (Some it) x c = elim (cases x (Some it) (Some (updated props it) ∷ []) c) [
  | inl is ↦
      (it, refl, inl (sym is))
  | inr rest ↦ (it, refl, inr (only _ x rest))
]
after_update props answer.Quota (Some it) x c = absurd (none_in x c)
after_update props answer.NotYet (Some it) x c = absurd (none_in x c)
after_update props (answer.Ready facts) (Some it) x c = absurd (none_in x c)
after_update props (answer.Broken code) (Some it) x c = absurd (none_in x c)
after_update props answer.Gone (Some it) x c = absurd (none_in x c)

pub after_update_begun : (props : Members) (y x : TokenState)
    → Contains (after (request.Update props) answer.Begun y) x
    → (it : Living) × (y ≡ Some it) × (x ≡ Some (updated props it))
after_update_begun props None x c = absurd (none_in x c)
after_update_begun props (Some it) x c = (it, refl, only _ x c)

pub after_delete : (given : Answered) (y x : TokenState) → Contains (after request.Delete given y) x
    → (x ≡ y) ⊎ ((it : Living) × (y ≡ Some it) × (x ≡ Some (going it)))
after_delete answer.Begun None x c = inl (only _ x c)
after_delete answer.Begun (Some it) x c = inr (it, refl, only _ x c)
after_delete answer.Failed None x c = inl (only _ x c)
after_delete answer.Failed (Some it) x c = elim (cases x (Some it) (Some (going it) ∷ []) c) [
  | inl is ↦
      inl (sym is)
  | inr rest ↦ inr (it, refl, only _ x rest)
]
after_delete answer.Quota y x c = absurd (none_in x c)
after_delete answer.NotYet y x c = absurd (none_in x c)
after_delete (answer.Ready facts) y x c = absurd (none_in x c)
after_delete (answer.Broken code) y x c = absurd (none_in x c)
after_delete answer.Gone y x c = absurd (none_in x c)

pub after_delete_begun : (y x : TokenState) → Contains (after request.Delete answer.Begun y) x → IsGoing x
after_delete_begun None x c = subst IsGoing (sym (only _ x c)) absent
after_delete_begun (Some it) x c = subst IsGoing (sym (only _ x c)) (leaves (going it) refl)

pub after_poll : (given : Answered) (y x : TokenState) → Contains (after request.Poll given y) x
    → (it : Living) × (y ≡ Some it) ×
    ((x ≡ Some it) ⊎ ((facts : Facts) × (given ≡ answer.Ready facts) × (x ≡ Some (told facts it))))
after_poll given None x c = absurd (by given c) where
  by : (g : Answered) → Contains (after request.Poll g None) x → ⊥
  by answer.Begun d = none_in x d
  by answer.Quota d = none_in x d
  by answer.Failed d = none_in x d
  by answer.NotYet d = none_in x d
  by (answer.Ready facts) d = none_in x d
  by (answer.Broken code) d = none_in x d
  by answer.Gone d = none_in x d
after_poll answer.NotYet (Some it) x c = (it, refl, inl (only _ x c))
after_poll (answer.Broken code) (Some it) x c = (it, refl, inl (only _ x c))
after_poll answer.Failed (Some it) x c = (it, refl, inl (only _ x c))
after_poll (answer.Ready facts) (Some it) x c = (it, refl, inr (facts, refl, only _ x c))
after_poll answer.Begun (Some it) x c = absurd (none_in x c)
after_poll answer.Quota (Some it) x c = absurd (none_in x c)
after_poll answer.Gone (Some it) x c = absurd (none_in x c)

pub after_gone : (given : Answered) (y x : TokenState) → Contains (after request.Gone given y) x
    → (x ≡ None) ⊎ (x ≡ y)
after_gone answer.Gone None x c = inl (only _ x c)
after_gone answer.Gone (Some it) x c = by it.leaving c where
  by : (b : Bool) → Contains (if b then None ∷ [] else []) x → (x ≡ None) ⊎ (x ≡ Some it)
  by true d = inl (only _ x d)
  by false d = absurd (none_in x d)
after_gone answer.NotYet None x c = absurd (none_in x c)
after_gone answer.NotYet (Some it) x c = by it.leaving c where
  by : (b : Bool) → Contains (if b then Some it ∷ [] else []) x → (x ≡ None) ⊎ (x ≡ Some it)
  by true d = inr (only _ x d)
  by false d = absurd (none_in x d)
after_gone answer.Failed None x c = inl (only _ x c)
after_gone answer.Failed (Some it) x c = inr (only _ x c)
after_gone answer.Begun y x c = absurd (none_in x c)
after_gone answer.Quota y x c = absurd (none_in x c)
after_gone (answer.Ready facts) y x c = absurd (none_in x c)
after_gone (answer.Broken code) y x c = absurd (none_in x c)

pub after_gone_gone : (y x : TokenState) → Contains (after request.Gone answer.Gone y) x → x ≡ None
after_gone_gone None x c = only _ x c
after_gone_gone (Some it) x c = by it.leaving c where
  by : (b : Bool) → Contains (if b then None ∷ [] else []) x → x ≡ None
  by true d = only _ x d
  by false d = absurd (none_in x d)
