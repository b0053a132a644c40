-- Where two lists of known facts tell the same.
use Rattle.std.proofs.Common.{◌≡◌, ◌∙◌, ◌++◌, ℕ, List, [], ◌∷◌, Bool, true, false, ◌||◌, Option, Some, None, refl, sym}
use Rattle.std.proofs.Common.{arith, subst, Contains, bytes_eq, cond, find, option_map}
use Rattle.std.proofs.lemmas.List.Elements.{All-head, All-tail, Contains-append_left, Contains-append_right}
use Rattle.std.proofs.lemmas.Slice.Eq.{bytes_eq-Decides}
use Rattle.heat_plan.specs.declared.facts.Facts.{Facts}
use Rattle.heat_plan.specs.declared.facts.KnownFacts.{KnownFacts}
use Rattle.eval_words.proofs.Finds.{told_absent, told_present}
use Rattle.eval_words.specs.Scenes.{is_one_of, facts_told, present}
use Rattle.template_laws.specs.Readings.{AgreeAt, AgreeOn, TellsOf}

-- ---- lists that tell of some names alone

-- what is told of is one of those names
told_of : (names : List (List ℕ)) (known : List KnownFacts) (name : List ℕ) (f : Facts) → TellsOf names known
    → facts_told known name ≡ Some f → Contains names name
told_of names [] name f only = λ is. cc
told_of names (k ∷ known) name f only =
    by (bytes_eq k.name name) refl
    (told_of names known name f (All-tail (λ (k : KnownFacts). Contains names k.name) k known only))
  where
    by : (b : Bool) → bytes_eq k.name name ≡ b → (facts_told known name ≡ Some f → Contains names name)
        → option_map (λ (k : KnownFacts). k.facts)
        (cond b (Some k) (find (λ (k : KnownFacts). bytes_eq k.name name) known)) ≡ Some f → Contains names name
    by true same later is =
        subst (Contains names) ((bytes_eq-Decides k.name name).0 same)
        (All-head (λ (k : KnownFacts). Contains names k.name) k known only)
    by false same later is = later is

-- such lists agree at every name, if they do at those
pub agree_everywhere : (names : List (List ℕ)) (known other : List KnownFacts) → TellsOf names known
    → TellsOf names other → AgreeOn names known other → (name : List ℕ) → AgreeAt known other name
agree_everywhere names known other one two agree name = by (facts_told known name) (facts_told other name) refl refl
  where
    by : (o p : Option Facts) → facts_told known name ≡ o → facts_told other name ≡ p → AgreeAt known other name
    by None None is are = is ∙ sym are
    by None (Some f) is are = agree name (told_of names other name f two are)
    by (Some f) p is are = agree name (told_of names known name f one is)

-- ---- absent names

-- of an absent name nothing is told
pub agree_present : (absent : List (List ℕ)) (known other : List KnownFacts) (name : List ℕ)
    → (is_one_of absent name ≡ false → AgreeAt known other name)
    → AgreeAt (present absent known) (present absent other) name
agree_present absent known other name same = by (is_one_of absent name) refl
  where
    by : (b : Bool) → is_one_of absent name ≡ b → AgreeAt (present absent known) (present absent other) name
    by true is = told_absent absent known name is ∙ sym (told_absent absent other name is)
    by false is = told_present absent known name is ∙ same is ∙ sym (told_present absent other name is)

-- ---- more names and fewer

module _ (known other : List KnownFacts) where
  pub agree_front : (one two : List (List ℕ)) → AgreeOn (one ++ two) known other → AgreeOn one known other
  agree_front one two agree name within = agree name (Contains-append_left one two name within)

  pub agree_back : (one two : List (List ℕ)) → AgreeOn (one ++ two) known other → AgreeOn two known other
  agree_back one two agree name within = agree name (Contains-append_right one two name within)

  pub agree_first : (name : List ℕ) (names : List (List ℕ)) → AgreeOn (name ∷ names) known other
      → AgreeAt known other name
  agree_first name names agree = agree name (0, omega arith, refl)

-- ---- what holds if either does

pub if_left : {A : Type 0} (b c : Bool) → ((b || c) ≡ true → A) → b ≡ true → A
if_left true c f is = f refl
if_left false c f is = cc

pub if_right : {A : Type 0} (b c : Bool) → ((b || c) ≡ true → A) → c ≡ true → A
if_right true c f is = f refl
if_right false c f is = f is
