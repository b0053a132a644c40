-- What the trait asks of each step, over the lists before and after it.
use Rattle.std.proofs.Common.{◌≡◌, ◌≢◌, ◌<◌, ◌-◌, ℕ, true, false, List, [], ◌∷◌, ◌++◌, length, zero, suc, Option, Some, None, ◌∙◌, refl, sym, ap, arith, inl, inr}
use Rattle.std.specs.Prelude.{Result, Ok, Err, IfOk, OnOk, position, find, remove, slice_set, slice_get, IsSome}
use Rattle.std.specs.List.{position_or_len}
use Rattle.std.proofs.lemmas.List.Folds.{find_at}
use Rattle.heat_value.specs.Data.{Members}
use Rattle.heat_plan.specs.declared.token.Token.{Token}
use Rattle.heat_plan.specs.declared.facts.Facts.{Facts}
use Rattle.heat_plan.specs.declared.kind.Kind.{Kind}
use Rattle.heat_plan.specs.declared.calls.Request.TheVariants as ask
use Rattle.heat_plan.specs.declared.calls.Answered.TheVariants as answer
use Rattle.provider.specs.declared.alive.Alive.{Alive}
use Rattle.provider.specs.declared.traced.Traced.TheVariants.{Called}
use Rattle.provider.specs.Cloud.{IsAlive, IsFull, entry_of}
use Rattle.provider.specs.Changes.{Notes, Takes}
use Rattle.provider.specs.Calls.{MayGo, Waits, IsReady, IsGone, Lingers}
use Rattle.sim_cloud.specs.declared.held.Held.{Held}
use Rattle.sim_cloud.specs.Holding.{is_of, held_of, place_of, IsHolding}
use Rattle.sim_cloud.specs.Rule.{fresh, facts_again}
use Rattle.sim_cloud.specs.Shown.{Beside, shown, leaving_of, left_of, IsMade, IsMadeAnew, IsSentAway, HasFacts, IsUnready}
use Rattle.sim_cloud.proofs.Places.{position-first, find-position, find-position_None}
use Rattle.sim_cloud.proofs.Effects.{becomes-set, becomes-push, shows, others-becomes, stays, renews, adds, sets, sends, removes, lowers}

some_within : {X : Type 0} (xs : List X) (i : ℕ) → i < length xs → IsSome (slice_get xs i)
some_within [] i lt = absurd (omega (arith, lt))
some_within (x ∷ xs) zero lt = refl
some_within (x ∷ xs) (suc i) lt = some_within xs i (omega (arith, lt))

the : {X : Type 0} (o : Option X) → IsSome o → (x : X) × (o ≡ Some x)
the None e = cc
the (Some x) e = (x, refl)

-- what stands at a token's place
pub at_place : (xs : List Held) (token : Token) (i : ℕ) → place_of xs token ≡ Some i → (h : Held) × (slice_get xs i ≡ Some h)
at_place xs token i at = the (slice_get xs i) (some_within xs i (position-first (is_of token) xs i at).1)

some_what : (o : Option Held) → IsSome o → IsSome (Rattle.std.specs.Prelude.option_map (λ (h : Held). h.what) o)
some_what None e = cc
some_what (Some h) e = refl

-- what has a place is alive, and what has none isn't
pub placed : (xs : List Held) (u : Beside) (token : Token) (i : ℕ) → place_of xs token ≡ Some i → IsAlive (shown xs u) token
placed xs u token i at =
    let f = position-first (is_of token) xs i at in
    let held : IsSome (held_of xs token) = rw (find_at (is_of token) xs, ← f.0) (some_within xs i f.1) in
    rw (shows xs u token (held_of xs token) refl) (some_what (held_of xs token) held)

pub unplaced : (xs : List Held) (u : Beside) (token : Token) → place_of xs token ≡ None → entry_of (shown xs u) token ≡ None
unplaced xs u token none = shows xs u token None (find-position_None (is_of token) xs none)

pub not_placed : (xs : List Held) (u : Beside) (token : Token) → place_of xs token ≡ None → IsAlive (shown xs u) token → ⊥
not_placed xs u token none there = let e = unplaced xs u token none in cc

pub placed_not_absent : (xs : List Held) (u : Beside) (token : Token) (i : ℕ) → place_of xs token ≡ Some i → entry_of (shown xs u) token ≡ None → ⊥
placed_not_absent xs u token i at none = let there = placed xs u token i at in cc

pub found : (xs : List Held) (token : Token) (i : ℕ) (h : Held) → place_of xs token ≡ Some i → slice_get xs i ≡ Some h → held_of xs token ≡ Some h
found xs token i h at here = find-position (is_of token) xs i h at here

pub leaving_at : (xs : List Held) (u : Beside) (token : Token) (i : ℕ) (h : Held) → place_of xs token ≡ Some i → slice_get xs i ≡ Some h → MayGo (shown xs u) token → h.leaving ≡ true
leaving_at xs u token i h at here may = let e = may (placed xs u token i at) in let f = found xs token i h at here in sym (ap leaving_of f) ∙ e

-- ---- create

pub create_there : (xs : List Held) (u v : Beside) (token : Token) (kind : List ℕ) (props : Members) (i : ℕ) → place_of xs token ≡ Some i → Takes token (ask.Create kind props) (shown xs u) (shown xs v)
create_there xs u v token kind props i at = inr (placed xs u token i at, renews xs u v token)

abbrev made : Token → Kind → Members → ℕ → Held
made token kind props left = record { what = fresh token kind props; leaving = false; left = left }

pub create_new : (xs : List Held) (u v : Beside) (token : Token) (kind : Kind) (props : Members) (left : ℕ) → place_of xs token ≡ None → (entry_of (shown xs u) token ≡ None → ¬ IsFull (shown xs u) kind.name)
    → Takes token (ask.Create kind.name props) (shown xs u) (shown (xs ++ made token kind props left ∷ []) v)
create_new xs u v token kind props left none room = inl (adds xs (made token kind props left) u v none (room (unplaced xs u token none)) refl refl)

pub made_there : (xs : List Held) (u v : Beside) (token : Token) (kind : Kind) (props : Members) (left i : ℕ) → place_of xs token ≡ Some i → IsMade token kind props left (shown xs u) (shown xs v)
made_there xs u v token kind props left i at =
    let there = placed xs u token i at in
    record { entry = λ none. cc; left = λ none. cc; again = λ _. stays xs u v }

pub made_new : (xs : List Held) (u v : Beside) (token : Token) (kind : Kind) (props : Members) (left : ℕ) → place_of xs token ≡ None
    → IsMade token kind props left (shown xs u) (shown (xs ++ made token kind props left ∷ []) v)
made_new xs u v token kind props left none =
    let one = made token kind props left in
    let b = becomes-push xs one none in
    record {
      entry = λ _. shows (xs ++ one ∷ []) v token (Some one) b.is;
      left = λ _. rw b.is refl;
      again = λ there. absurd (not_placed xs u token none there);
    }

-- ---- update

pub update_same : (xs : List Held) (u v : Beside) (token : Token) (props : Members) (i : ℕ) (h : Held) → place_of xs token ≡ Some i → slice_get xs i ≡ Some h → h.what.props ≡ props
    → Takes token (ask.Update props) (shown xs u) (shown xs v)
update_same xs u v token props i h at here same =
    inr (record { it = h.what; entry = shows xs u token (Some h) (found xs token i h at here); same = same }, renews xs u v token)

abbrev set : Held → Members → Facts → ℕ → Held
set h props facts left = record h { what = record h.what { props = props; facts = facts; ready = false }; left = left }

pub update_set : (xs : List Held) (u v : Beside) (token : Token) (props : Members) (facts : Facts) (left i : ℕ) (h : Held) → place_of xs token ≡ Some i → slice_get xs i ≡ Some h → h.what.props ≢ props
    → Takes token (ask.Update props) (shown xs u) (shown (slice_set xs i (set h props facts left)) v)
update_set xs u v token props facts left i h at here differs = inl (sets token xs i h u v props facts left at here differs)

pub same_some : {X : Type 0} (a b : X) → Some a ≡ Some b → a ≡ b
same_some a b e = cc

-- what is shown of a token is what stands at its place
pub is_at : (xs : List Held) (u : Beside) (token : Token) (i : ℕ) (h : Held) (it : Alive) → place_of xs token ≡ Some i → slice_get xs i ≡ Some h → entry_of (shown xs u) token ≡ Some it → h.what ≡ it
is_at xs u token i h it at here e = same_some h.what it (sym (shows xs u token (Some h) (found xs token i h at here)) ∙ e)

pub anew_same : (xs : List Held) (u v : Beside) (token : Token) (props : Members) (left i : ℕ) (h : Held) → place_of xs token ≡ Some i → slice_get xs i ≡ Some h → h.what.props ≡ props
    → IsMadeAnew token props left (shown xs u) (shown xs v)
anew_same xs u v token props left i h at here same =
    record {
      entry = λ it e differs. absurd (differs (rw (← is_at xs u token i h it at here e) same));
      left = λ it e differs. absurd (differs (rw (← is_at xs u token i h it at here e) same));
      again = λ _. stays xs u v;
    }

pub anew_set : (xs : List Held) (u v : Beside) (token : Token) (props : Members) (left i : ℕ) (h : Held) → place_of xs token ≡ Some i → slice_get xs i ≡ Some h → h.what.props ≢ props
    → IsMadeAnew token props left (shown xs u) (shown (slice_set xs i (set h props (facts_again h.what.facts props token.row) left)) v)
anew_set xs u v token props left i h at here other =
    let after = set h props (facts_again h.what.facts props token.row) left in
    let b = becomes-set token xs i h after at here refl in
    record {
      entry = λ it e differs. rw (← is_at xs u token i h it at here e) (shows (slice_set xs i after) v token (Some after) b.is);
      left = λ it e differs. rw b.is refl;
      again = λ has. absurd (other (rw (is_at xs u token i h has.it at here has.entry) has.same));
    }

-- ---- delete

pub delete_absent : (xs : List Held) (u v : Beside) (token : Token) → place_of xs token ≡ None → Takes token ask.Delete (shown xs u) (shown xs v)
delete_absent xs u v token none = inr ((λ there. absurd (not_placed xs u token none there)), renews xs u v token)

pub delete_again : (xs : List Held) (u v : Beside) (token : Token) (i : ℕ) (h : Held) → place_of xs token ≡ Some i → slice_get xs i ≡ Some h → h.leaving ≡ true → Takes token ask.Delete (shown xs u) (shown xs v)
delete_again xs u v token i h at here leaving = inr ((λ there. rw (found xs token i h at here) leaving), renews xs u v token)

abbrev sent : Held → ℕ → Held
sent h left = record h { leaving = true; left = left }

pub delete_first : (xs : List Held) (u v : Beside) (token : Token) (left i : ℕ) (h : Held) → place_of xs token ≡ Some i → slice_get xs i ≡ Some h → h.leaving ≡ false
    → Takes token ask.Delete (shown xs u) (shown (slice_set xs i (sent h left)) v)
delete_first xs u v token left i h at here stays_on = inl (sends token xs i h u v left at here stays_on)

pub sent_absent : (xs : List Held) (u v : Beside) (token : Token) (left : ℕ) → place_of xs token ≡ None → IsSentAway token left (shown xs u) (shown xs v)
sent_absent xs u v token left none = record { left = λ it e. let f = unplaced xs u token none in cc; again = λ _. stays xs u v }

pub sent_again : (xs : List Held) (u v : Beside) (token : Token) (left i : ℕ) (h : Held) → place_of xs token ≡ Some i → slice_get xs i ≡ Some h → h.leaving ≡ true → IsSentAway token left (shown xs u) (shown xs v)
sent_again xs u v token left i h at here leaving = record { left = λ it e before. let f = ap leaving_of (found xs token i h at here) in cc; again = λ _. stays xs u v }

pub sent_first : (xs : List Held) (u v : Beside) (token : Token) (left i : ℕ) (h : Held) → place_of xs token ≡ Some i → slice_get xs i ≡ Some h → h.leaving ≡ false
    → IsSentAway token left (shown xs u) (shown (slice_set xs i (sent h left)) v)
sent_first xs u v token left i h at here stays_on =
    let b = becomes-set token xs i h (sent h left) at here refl in
    record {
      left = λ it e before. rw b.is refl;
      again = λ gone. let leaving = gone (placed xs u token i at) in let f = ap leaving_of (found xs token i h at here) in cc;
    }

-- ---- poll

pub left_at : (xs : List Held) (u : Beside) (token : Token) (i : ℕ) (h : Held) → place_of xs token ≡ Some i → slice_get xs i ≡ Some h → left_of (held_of xs token) ≡ h.left
left_at xs u token i h at here = ap left_of (found xs token i h at here)

pub poll_waits : (xs : List Held) (u v : Beside) (token : Token) (i : ℕ) (h : Held) → place_of xs token ≡ Some i → slice_get xs i ≡ Some h → 0 < h.left
    → Notes (Called token ask.Poll answer.NotYet) (shown xs u) (shown (slice_set xs i (record h { left = h.left - 1 })) v)
    → Waits token (shown xs u) (shown (slice_set xs i (record h { left = h.left - 1 })) v)
poll_waits xs u v token i h at here some notes = record { noted = notes; lowers = lowers token xs i h u v at here some }

pub left_absent : (xs : List Held) (token : Token) → place_of xs token ≡ None → left_of (held_of xs token) ≡ 0
left_absent xs token none = ap left_of (find-position_None (is_of token) xs none)

abbrev pub told : Held → Facts → Held
told h facts = record h { what = record h.what { facts = facts; ready = true }; left = 0 }

pub poll_ready : (xs : List Held) (u v : Beside) (token : Token) (facts : Facts) (i : ℕ) (h : Held) → place_of xs token ≡ Some i → slice_get xs i ≡ Some h → (h.what.ready ≡ true → h.what.facts ≡ facts)
    → Notes (Called token ask.Poll (answer.Ready facts)) (shown xs u) (shown (slice_set xs i (told h facts)) v)
    → IsReady token facts (shown xs u) (shown (slice_set xs i (told h facts)) v)
poll_ready xs u v token facts i h at here steady notes =
    let ys = slice_set xs i (told h facts) in
    let b = becomes-set token xs i h (told h facts) at here refl in
    record {
      noted = notes;
      before = h.what;
      turns = record { was = shows xs u token (Some h) b.was; is = shows ys v token (Some (told h facts)) b.is };
      steady = steady;
      leaving = rw (b.was, b.is) refl;
      left = rw (b.was, b.is) (omega arith);
      others = others-becomes token xs ys u v (Some h) (Some (told h facts)) b;
    }

pub has_facts : (xs : List Held) (u : Beside) (token : Token) (i : ℕ) (h : Held) → place_of xs token ≡ Some i → slice_get xs i ≡ Some h → HasFacts (shown xs u) token h.what.facts
has_facts xs u token i h at here it e = rw (is_at xs u token i h it at here e) refl

pub unready_at : (xs : List Held) (u : Beside) (token : Token) (i : ℕ) (h : Held) → place_of xs token ≡ Some i → slice_get xs i ≡ Some h → IsUnready (shown xs u) token → h.what.ready ≡ false
unready_at xs u token i h at here it = rw (is_at xs u token i h it.0 at here it.1) it.2

-- ---- gone

pub gone_absent : (xs : List Held) (u v : Beside) (token : Token) → place_of xs token ≡ None
    → Notes (Called token ask.Gone answer.Gone) (shown xs u) (shown xs v) → IsGone token (shown xs u) (shown xs v)
gone_absent xs u v token none notes = record { noted = notes; effect = inr (unplaced xs u token none, stays xs u v) }

pub gone_removed : (xs : List Held) (u v : Beside) (token : Token) (i : ℕ) (h : Held) → IsHolding xs → place_of xs token ≡ Some i → slice_get xs i ≡ Some h → h.leaving ≡ true
    → Notes (Called token ask.Gone answer.Gone) (shown xs u) (shown (remove xs i) v) → IsGone token (shown xs u) (shown (remove xs i) v)
gone_removed xs u v token i h fit at here leaving notes = record { noted = notes; effect = inl (removes token xs i h u v fit at here leaving) }

pub gone_lingers : (xs : List Held) (u v : Beside) (token : Token) (i : ℕ) (h : Held) → place_of xs token ≡ Some i → slice_get xs i ≡ Some h → 0 < h.left → h.leaving ≡ true
    → Notes (Called token ask.Gone answer.NotYet) (shown xs u) (shown (slice_set xs i (record h { left = h.left - 1 })) v)
    → Lingers token (shown xs u) (shown (slice_set xs i (record h { left = h.left - 1 })) v)
gone_lingers xs u v token i h at here some leaving notes = record {
  noted = notes;
  there = placed xs u token i at;
  leaving = rw (found xs token i h at here) leaving;
  lowers = lowers token xs i h u v at here some;
}

-- ---- results

pub on_ok : {T E A B : Type 0} (r : Result T E) → OnOk r A → (A → B) → OnOk r B
on_ok (Ok v) a f = f a
on_ok (Err e) a f = tt

pub if_ok : {T E : Type 0} {P Q : T → Type 0} (r : Result T E) → IfOk r P → ((v : T) → P v → Q v) → IfOk r Q
if_ok (Ok v) p f = f v p
if_ok (Err e) p f = tt

pub on_ok_both : {T E A B C : Type 0} (r : Result T E) → OnOk r A → OnOk r B → (A → B → C) → OnOk r C
on_ok_both (Ok v) a b f = f a b
on_ok_both (Err e) a b f = tt
