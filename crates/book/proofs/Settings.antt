-- A turn behind what was prepared for it, and one for which nothing was.
use Rattle.std.proofs.Common.{List, refl, subst, sym, ℕ, ◌≡◌}
use Rattle.std.specs.Prelude.{Err, IfErr, Result}
use Rattle.heat_plan.specs.declared.refusal.Refusal.{Refusal}
use Rattle.heat_plan.specs.declared.refusal.Refusal.TheVariants.{Worn}
use Rattle.provider.specs.Changes.{IsAsBefore}
use Rattle.provider.specs.Cloud.{Cloud}
use Rattle.core_state.specs.State.{StateData}
use Rattle.core_state.specs.declared.entry.Entry.{Entry}
use Rattle.record_keeper.specs.Laws.{IsLawful}
use Rattle.record_keeper.specs.Shown.{SameKeeper, ShownKeeper}
use Rattle.step_relation.specs.Nexts.{IsIdle, IsLost}
use Rattle.book.specs.Behind.{Turns}
use Rattle.book.specs.Keeping.{IsReady}
use Rattle.book.specs.Makings.{IsQuietRefusal}
use Rattle.book.specs.Makings as made_as
use Rattle.book.specs.Scenes.{IsUnmade, Scene, scene}
use Rattle.book.specs.Turned.{IsWornBy}
use Rattle.book.specs.Turned as turned
use Rattle.book.specs.WorkableOver.{IsWorkableOver}
use Rattle.book.specs.declared.turning.Turn.TheVariants as turn
use Rattle.book.specs.declared.turning.Turn.{Turn as Turn_answer}
use Rattle.book.proofs.Keepers.{kept_after, same_ready, untouched}

-- what was prepared has changed nothing
pub turns_after : (e : ℕ) (s u : StateData) (h i : List Entry) (c : Cloud) (new : Scene) (k l m : ShownKeeper)
    (n0 n1 n2 : ℕ) (r : Turn_answer) → u ≡ s → i ≡ h → SameKeeper k l → n1 ≡ n0
    → Turns e (scene u i c) new l m n1 n2 r → Turns e (scene s h c) new k m n0 n2 r
turns_after e s u h i c new k l m n0 n1 n2 r is_s is_h same count it =
    subst (λ (x : StateData). Turns e (scene x h c) new k m n0 n2 r) is_s
    (subst (λ (x : List Entry). Turns e (scene u x c) new k m n0 n2 r) is_h
    (record { turned = it.turned; kept = kept_after k l same m n0 n1 n2 _ _ _ _ count it.kept }))

-- what it was prepared for still stands
pub workable_after : (s u : StateData) (h i : List Entry) (c : Cloud) → u ≡ s → i ≡ h → IsWorkableOver s h c
    → IsWorkableOver u i c
workable_after s u h i c is_s is_h it = subst (λ (x : StateData). IsWorkableOver x i c) (sym is_s)
    (subst (λ (x : List Entry). IsWorkableOver s x c) (sym is_h) it)

pub ready_after : (k l : ShownKeeper) (s u : StateData) → SameKeeper k l → u ≡ s → IsReady k s → IsReady l u
ready_after k l s u same is it = subst (IsReady l) (sym is) (same_ready k l same s it)

module _ (e : ℕ) (s t : StateData) (h i : List Entry) (c d : Cloud) (k l : ShownKeeper) (n0 n1 : ℕ)
    (may_open : StateData → Type 0) (lawful : IsLawful may_open k) (is_t : t ≡ s) (is_i : i ≡ h)
    (same : SameKeeper k l) (count : n1 ≡ n0) (ready : IsReady k s) (unasked_ : IsAsBefore c d) where
  unmade : IsUnmade (scene s h c) (scene t i d)
  unmade = record { state = is_t; entries = is_i; cloud = unasked_ }

  pub wants : Turns e (scene s h c) (scene t i d) k l n0 n1 turn.Memory
  wants = record {
    turned = turned.unmade refl unmade;
    kept = untouched k l same may_open lawful n0 n1 s t _ count ready is_t (λ f. cc);
  }

  pub wears : IsWornBy s e → Turns e (scene s h c) (scene t i d) k l n0 n1 turn.Worn
  wears worn = record {
    turned = turned.worn refl worn unmade;
    kept = untouched k l same may_open lawful n0 n1 s t _ count ready is_t (λ f. cc);
  }

  pub rests : IsIdle s e → Turns e (scene s h c) (scene t i d) k l n0 n1 turn.Idle
  rests idle = record {
    turned = turned.idle refl idle unmade;
    kept = untouched k l same may_open lawful n0 n1 s t _ count ready is_t (λ f. cc);
  }

  pub is_lost : IsLost s e → Turns e (scene s h c) (scene t i d) k l n0 n1 turn.Lost
  is_lost lost = record {
    turned = turned.lost refl lost unmade;
    kept = untouched k l same may_open lawful n0 n1 s t _ count ready is_t (λ f. cc);
  }

-- it is worn out
pub worn_refusal : {A : Type 0} (s : StateData) (e : ℕ) (made : Result A Refusal) → IfErr made (IsQuietRefusal s e)
    → made ≡ Err Worn → IsWornBy s e
worn_refusal {A} s e made err is = by (subst (λ (x : Result A Refusal). IfErr x (IsQuietRefusal s e)) is err) where
  by : IsQuietRefusal s e Worn → IsWornBy s e
  by (made_as.memory no_) = cc
  by (made_as.worn yes_ wears_) = wears_
