-- A map that is made entry by entry, of keys that may have become one.
use Rattle.std.proofs.Common.{◌≡◌, ◌∙◌, ◌||◌, ℕ, List, Bool, true, false, Option, Some, None, option_map, is_some}
use Rattle.std.proofs.Common.{refl, ap, sym, subst, bytes_eq}
use Rattle.std.specs.Prelude.{if◌then◌else◌}
use Rattle.heat_value.specs.Data.{Data, Members, no_members, member, lookup, put}
use Rattle.hot_functions.specs.Forms.{stands}
use Rattle.hot_eval.specs.Answers.{code_of}
use Rattle.eval_words.specs.Maps.{mapped_onto, renamed, name_for, value_for, unless_same}
use Rattle.eval_words.specs.declared.code.FaultCode.TheVariants.{F05}

-- ---- whether a key stands

found_at : (b : Bool) (d : Data) (o : Option Data) (s : Bool) → is_some o ≡ s → is_some (if b then Some d else o) ≡ (b || s)
found_at true d o s e = refl
found_at false d o s e = e

stands-lookup : (k : List ℕ) (ms : Members) → is_some (lookup k ms) ≡ stands k ms
stands-lookup k no_members = refl
stands-lookup k (member l d ms) = found_at (bytes_eq l k) d (lookup k ms) (stands k ms) (stands-lookup k ms)

is_some-map : {X Y : Type 0} (f : X → Y) (o : Option X) → is_some o ≡ is_some (option_map f o)
is_some-map f None = refl
is_some-map f (Some x) = refl

-- whether a value was found tells whether the key stands
pub found_stands : {X : Type 0} (f : X → Data) (o : Option X) (k : List ℕ) (ms : Members) (r : Bool)
    → option_map f o ≡ lookup k ms → r ≡ is_some o → r ≡ stands k ms
found_stands f o k ms r got is = is ∙ (is_some-map f o ∙ (ap is_some got ∙ stands-lookup k ms))

-- ---- one entry further

pub mapped_onto-same : (k : List ℕ) (d : Data) (base ms : Members) → stands k base ≡ true
    → mapped_onto base (member k d ms) ≡ None
mapped_onto-same k d base ms e = ap (λ b. if b then None else mapped_onto (put k d base) ms) e

pub mapped_onto-new : (k : List ℕ) (d : Data) (base ms : Members) → stands k base ≡ false
    → mapped_onto base (member k d ms) ≡ mapped_onto (put k d base) ms
mapped_onto-new k d base ms e = ap (λ b. if b then None else mapped_onto (put k d base) ms) e

-- the next entry's new key stands already
pub same_renamed : (r : Members × Members) (base rest next : Members) (k l : List ℕ) (d : Data) (whole : Option Members)
    → rest ≡ member k d next → l ≡ name_for r.0 k → stands l base ≡ true
    → mapped_onto base (renamed r rest) ≡ whole → code_of (unless_same whole) ≡ Some F05
same_renamed r base rest next k l d whole at name there all =
    let here : stands (name_for r.0 k) base ≡ true = ap (λ x. stands x base) (sym name) ∙ there in
    let none : None ≡ whole =
    sym (ap (λ x. mapped_onto base (renamed r x)) at ∙ mapped_onto-same (name_for r.0 k) (value_for r.1 d) base (renamed r next) here)
    ∙ all in
    subst (λ (o : Option Members). code_of (unless_same o) ≡ Some F05) none refl

-- the next entry is put into the map so far
pub next_renamed : (r : Members × Members) (base pushed rest next : Members) (k l : List ℕ) (d e : Data)
    (whole : Option Members) → rest ≡ member k d next → l ≡ name_for r.0 k → e ≡ value_for r.1 d
    → stands l base ≡ false → pushed ≡ put l e base
    → mapped_onto base (renamed r rest) ≡ whole → mapped_onto pushed (renamed r next) ≡ whole
next_renamed r base pushed rest next k l d e whole at name value other push all =
    let free : stands (name_for r.0 k) base ≡ false = ap (λ x. stands x base) (sym name) ∙ other in
    ap (λ x. mapped_onto x (renamed r next)) (push ∙ (ap (λ x. put x e base) name ∙ ap (λ x. put (name_for r.0 k) x base) value))
    ∙ (sym (ap (λ x. mapped_onto base (renamed r x)) at ∙ mapped_onto-new (name_for r.0 k) (value_for r.1 d) base (renamed r next) free)
    ∙ all)
