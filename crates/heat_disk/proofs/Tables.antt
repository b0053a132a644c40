-- Lists that are given by what stands at each place.
use Rattle.std.proofs.Common.{◌≡◌, ℕ, zero, suc, ◌+◌, ◌<◌, ◌≤◌, List, length, get_or, take, drop, refl, sym, ◌∙◌, ap, arith, length-take, length-drop}
use Rattle.std.proofs.lemmas.List.{ext_get_or, get_or-take, get_or-drop}
use Rattle.heat_disk.specs.History.{tabulate}

pub length-tabulate : (n : ℕ) (f : ℕ → ℕ) → length (tabulate n f) ≡ n
length-tabulate zero f = refl
length-tabulate (suc n) f = ap suc (length-tabulate n (λ i. f (suc i)))

pub get_or-tabulate : (n : ℕ) (f : ℕ → ℕ) (i : ℕ) → i < n → get_or (tabulate n f) i 0 ≡ f i
get_or-tabulate zero f i less = absurd (omega arith)
get_or-tabulate (suc n) f zero less = refl
get_or-tabulate (suc n) f (suc i) less = get_or-tabulate n (λ k. f (suc k)) i (omega arith)

-- a list is the front of another that has the same at each of its places
pub is_front : (short long : List ℕ) → length short ≤ length long → ((i : ℕ) → i < length short → get_or long i 0 ≡ get_or short i 0) → short ≡ take (length short) long
is_front short long fits same =
    ext_get_or 0 short (take (length short) long) (omega (arith, length-take (length short) long))
    (λ i less. sym (get_or-take (length short) long i 0 less ∙ same i less))

-- two lists of one length have the same rest from a place on, or both none
pub same_rest : (n : ℕ) (a b : List ℕ) → (length a ≡ length b) → ((i : ℕ) → n ≤ i → i < length a → get_or a i 0 ≡ get_or b i 0) → drop n a ≡ drop n b
same_rest n a b long same =
    ext_get_or 0 (drop n a) (drop n b) (omega (arith, length-drop n a, length-drop n b))
    (λ i less. get_or-drop n a i 0 ∙ same (n + i) (omega arith) (omega (arith, length-drop n a)) ∙ sym (get_or-drop n b i 0))
