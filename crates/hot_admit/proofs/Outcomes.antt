-- An outcome stays where another one gives the same as it does, at the same sum; of a fault nothing stays.
use Rattle.std.proofs.Common.{◌≡◌, ◌∙◌, ◌∷◌, ℕ, List, Bool, true, false, refl, ap, if◌then◌else◌}
use Rattle.std.specs.Prelude.{⊤}
use Rattle.heat_value.specs.declared.path.Step.{Step}
use Rattle.eval_words.specs.Outcomes.{Outcome, Gives, Faults, and_then, made_into, seen_from, under}

-- what it gives, if that fits, the other gives too
abbrev pub StaysIf : {A : Type 0} → (A → Type 0) → Outcome A → Outcome A → Type 0
StaysIf Fits (Gives a n) p = Fits a → p ≡ Gives a n
StaysIf Fits (Faults c q) p = ⊤

-- whatever it gives
abbrev pub Any : {A : Type 0} → A → Type 0
Any a = ⊤

abbrev pub Stays : {A : Type 0} → Outcome A → Outcome A → Type 0
Stays o p = StaysIf Any o p

pub same_stays : {A : Type 0} (Fits : A → Type 0) (o : Outcome A) → StaysIf Fits o o
same_stays Fits (Gives a n) = λ fits. refl
same_stays Fits (Faults c q) = tt

-- a fact that says less of what is given
pub stays_where : {A : Type 0} (Fits Good : A → Type 0) (o p : Outcome A) → ((a : A) → Good a → Fits a)
    → StaysIf Fits o p → StaysIf Good o p
stays_where Fits Good (Gives a n) p less stays = λ good. stays (less a good)
stays_where Fits Good (Faults c q) p less stays = tt

pub stays_if : {A : Type 0} (Fits : A → Type 0) (o p : Outcome A) → Stays o p → StaysIf Fits o p
stays_if Fits o p = stays_where Any Fits o p (λ a fits. tt)

pub unless_stays : {A : Type 0} (c : Bool) (a : A) (n : ℕ) (o p : Outcome A) → Stays o p
    → Stays (if c then Gives a n else o) (if c then Gives a n else p)
unless_stays true a n o p stays = λ fits. refl
unless_stays false a n o p stays = stays

pub seen_stays : {A : Type 0} (Fits : A → Type 0) (out : List Step → List Step) (o p : Outcome A) → StaysIf Fits o p
    → StaysIf Fits (seen_from out o) (seen_from out p)
seen_stays Fits out (Gives a n) p stays = λ fits. ap (seen_from out) (stays fits)
seen_stays Fits out (Faults c q) p stays = tt

pub under_stays : {A : Type 0} (Fits : A → Type 0) (s : Step) (o p : Outcome A) → StaysIf Fits o p
    → StaysIf Fits (under s o) (under s p)
under_stays Fits s = seen_stays Fits (λ q. s ∷ q)

pub made_stays : {A B : Type 0} (Fits : B → Type 0) (f : A → B) (o p : Outcome A) → StaysIf (λ a. Fits (f a)) o p
    → StaysIf Fits (made_into f o) (made_into f p)
made_stays Fits f (Gives a n) p stays = λ fits. ap (made_into f) (stays fits)
made_stays Fits f (Faults c q) p stays = tt

-- what is done next stays, where it gives what fits for what fits alone
pub next_stays : {A B : Type 0} (Fits : A → Type 0) (Good : B → Type 0) (o p : Outcome A)
    (f g : A → ℕ → Outcome B) → StaysIf Fits o p → ((a : A) (n : ℕ) → StaysIf Good (f a n) (g a n))
    → ((a : A) (n : ℕ) (b : B) (m : ℕ) → f a n ≡ Gives b m → Good b → Fits a)
    → StaysIf Good (and_then o f) (and_then p g)
next_stays {A} {B} Fits Good (Faults c q) p f g stays later only = tt
next_stays {A} {B} Fits Good (Gives a n) p f g stays later only = by (f a n) refl (later a n)
  where
    by : (x : Outcome B) → f a n ≡ x → StaysIf Good x (g a n) → StaysIf Good x (and_then p g)
    by (Faults c q) is there = tt
    by (Gives b m) is there = λ good. ap (λ (o : Outcome A). and_then o g) (stays (only a n b m is good)) ∙ there good
