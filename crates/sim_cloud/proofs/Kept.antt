-- Distinct tokens and few polls left are kept by each change.
use Rattle.std.proofs.Common.{◌≡◌, ◌≢◌, ◌⊎◌, ◌<◌, ◌≤◌, ◌∙◌, ◌+◌, ℕ, zero, suc, cond, Option, Bool, true, false, true≢false, List, [], ◌∷◌, ◌++◌, length, get_or, Some, None, refl, sym, arith, inl, inr}
use Rattle.std.proofs.lemmas.Grind.{common_steps}
use Rattle.std.specs.Prelude.{find, remove, slice_set, slice_get, All, AllPairs}
use Rattle.std.proofs.lemmas.List.Elements.{All-set, All-push}
use Rattle.std.proofs.lemmas.List.Quantifiers.{all_pairs_push, all_pairs_remove}
use Rattle.std.proofs.lemmas.List.Edits.{get_or-remove_below, get_or-remove_above, length-remove}
use Rattle.std.proofs.lemmas.Option.{slice_get_within, get_or_from_slice_get}
use Rattle.heat_plan.specs.declared.token.Token.{Token}
use Rattle.provider.proofs.Sames.{same_token-same}
use Rattle.sim_cloud.specs.declared.held.Held.{Held}
use Rattle.sim_cloud.specs.Holding.{is_of, place_of, IsHolding}
use Rattle.sim_cloud.proofs.Places.{find-position_None}

token_at-set : (xs : List Held) (i : ℕ) (b : Held) → ((d : Held) → i < length xs → (get_or xs i d).what.token ≡ b.what.token) → (k : ℕ) (d : Held) → k < length xs
    → (get_or (slice_set xs i b) k d).what.token ≡ (get_or xs k d).what.token
token_at-set xs i b same k d lt = grind (arith, common_steps, same)

pub holding_set : (xs : List Held) (i : ℕ) (a b : Held) → IsHolding xs → slice_get xs i ≡ Some a → b.what.token ≡ a.what.token → b.left ≤ 64 → IsHolding (slice_set xs i b)
holding_set xs i a b h at same few = (distinct, All-set (λ (x : Held). x.left ≤ 64) xs i b few h.1) where
  lt : i < length xs
  lt = slice_get_within xs i a at

  tokens : (k : ℕ) (d : Held) → k < length xs → (get_or (slice_set xs i b) k d).what.token ≡ (get_or xs k d).what.token
  tokens = token_at-set xs i b (λ d _. rw (get_or_from_slice_get xs i a d at) (sym same))

  distinct : AllPairs (λ (x y : Held). x.what.token ≢ y.what.token) (slice_set xs i b)
  distinct j k d jk kl = let within : k < length xs = grind (arith, common_steps) in rw (tokens j d (omega (arith, jk, within)), tokens k d within) (h.0 j k d jk within)

pub few_at : (xs : List Held) (i : ℕ) (a : Held) → IsHolding xs → slice_get xs i ≡ Some a → a.left ≤ 64
few_at xs i a h at = rw (← get_or_from_slice_get xs i a a at) (h.1 i a (slice_get_within xs i a at))

unless_found : {X : Type 0} (x : X) (b : Bool) (o : Option X) → cond b (Some x) o ≡ None → (b ≡ false) × (o ≡ None)
unless_found x true o e = cc
unless_found x false o e = (refl, e)

fails_at : (xs : List Held) (t : Token) (k : ℕ) (d : Held) → find (is_of t) xs ≡ None → k < length xs → (get_or xs k d).what.token ≢ t
fails_at [] t k d none lt = absurd (omega (arith, lt))
fails_at (x ∷ xs) t zero d none lt = λ e. let f = unless_found x (is_of t x) (find (is_of t) xs) none in true≢false (sym (rw e (same_token-same t)) ∙ f.0)
fails_at (x ∷ xs) t (suc k) d none lt = let f = unless_found x (is_of t x) (find (is_of t) xs) none in fails_at xs t k d f.1 (omega (arith, lt))

pub holding_push : (xs : List Held) (one : Held) → IsHolding xs → place_of xs one.what.token ≡ None → one.left ≤ 64 → IsHolding (xs ++ one ∷ [])
holding_push xs one h none few = (
  all_pairs_push (λ (x y : Held). x.what.token ≢ y.what.token) xs one h.0 (λ k d lt. fails_at xs one.what.token k d (find-position_None (is_of one.what.token) xs none) lt),
  All-push (λ (x : Held). x.left ≤ 64) xs one h.1 few,
)

pub holding_remove : (xs : List Held) (i : ℕ) → i < length xs → IsHolding xs → IsHolding (remove xs i)
holding_remove xs i lt h = (all_pairs_remove (λ (x y : Held). x.what.token ≢ y.what.token) xs i lt h.0, few) where
  before_or_after : (k : ℕ) → (k < i) ⊎ (i ≤ k)
  before_or_after k = grind (arith, common_steps)

  at : (k : ℕ) (d : Held) → k < length (remove xs i) → (k < i) ⊎ (i ≤ k) → (get_or (remove xs i) k d).left ≤ 64
  at k d within (inl low) = rw (get_or-remove_below xs i d k low lt) (h.1 k d (omega (arith, low, lt)))
  at k d within (inr high) = let long = length-remove xs i lt in rw (get_or-remove_above xs i d k high lt) (h.1 (k + 1) d (omega (arith, within, long)))

  few : All (λ (x : Held). x.left ≤ 64) (remove xs i)
  few k d within = at k d within (before_or_after k)
