-- What a simulated cloud shows is lawful.
use Rattle.std.specs.Prelude.{◌≡◌, ◌≢◌, ◌<◌, ◌≤◌, ℕ, Bool, true, false, cond, List, [], ◌∷◌, length, Option, Some}
use Rattle.std.specs.Prelude.{None, zero, suc, map, find, option_map, slice_index_or, AllPairs, All, IsTrue}
use Rattle.std.proofs.Common.{refl, ap, arith, get_or}
use Rattle.heat_plan.specs.declared.token.Token.{Token}
use Rattle.provider.specs.declared.alive.Alive.{Alive}
use Rattle.provider.specs.Same.{same_token}
use Rattle.provider.specs.Cloud.{IsLawful}
use Rattle.sim_cloud.specs.declared.held.Held.{Held}
use Rattle.sim_cloud.specs.Holding.{is_of, held_of, whats, IsHolding}
use Rattle.sim_cloud.specs.Shown.{Beside, shown, leaving_of, left_of}

-- the alive list finds what the holdings find
pub find_whats : (t : Token) (held : List Held)
    → find (λ (a : Alive). same_token a.token t) (whats held) ≡ option_map (λ (h : Held). h.what) (held_of held t)
find_whats t [] = refl
find_whats t (h ∷ held) = by (is_of t h) (find_whats t held) where
  by : (b : Bool)
      → find (λ (a : Alive). same_token a.token t) (whats held) ≡ option_map (λ (x : Held). x.what) (held_of held t)
      → cond b (Some h.what) (find (λ (a : Alive). same_token a.token t) (whats held))
      ≡ option_map (λ (x : Held). x.what) (cond b (Some h) (held_of held t))
  by true e = refl
  by false e = e

few_found : (t : Token) (held : List Held) → All (λ (h : Held). h.left ≤ 64) held → left_of (held_of held t) ≤ 64
few_found t [] all = omega arith
few_found t (h ∷ held) all = by (is_of t h) (few_found t held (λ k d lt. all (suc k) d (omega (arith, lt)))) where
  by : (b : Bool) → left_of (held_of held t) ≤ 64 → left_of (cond b (Some h) (held_of held t)) ≤ 64
  by true e = all 0 h (omega arith)
  by false e = e

alive_found : (o : Option Held) → IsTrue (leaving_of o)
    → Rattle.std.specs.Prelude.IsSome (option_map (λ (h : Held). h.what) o)
alive_found None e = cc
alive_found (Some h) e = refl

what_at : (held : List Held) (k : ℕ) (d : Alive) (e : Held) → k < length held
    → get_or (whats held) k d ≡ (get_or held k e).what
what_at [] k d e lt = absurd (omega (arith, lt))
what_at (h ∷ held) zero d e lt = refl
what_at (h ∷ held) (suc k) d e lt = what_at held k d e (omega (arith, lt))

length_whats : (held : List Held) → length (whats held) ≡ length held
length_whats [] = refl
length_whats (h ∷ held) = ap suc (length_whats held)

distinct_whats : (held : List Held) → AllPairs (λ (a b : Held). a.what.token ≢ b.what.token) held
    → AllPairs (λ (a b : Alive). a.token ≢ b.token) (whats held)
distinct_whats held h i j d lt within =
    let e : Held = record { what = d; leaving = false; left = 0 } in
    let inside : j < length held = omega (arith, within, length_whats held) in
    rw (what_at held i d e (omega (arith, lt, inside)), what_at held j d e inside) (h i j e lt inside)

pub lawful_shown : (held : List Held) (beside : Beside) → IsHolding held → IsLawful (shown held beside)
lawful_shown held beside h = record {
  distinct = distinct_whats held h.0;
  few = λ t. few_found t held h.1;
  leaving = λ t e. rw (find_whats t held) (alive_found (held_of held t) e);
}
