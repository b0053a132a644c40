-- Keys put one by one: one that stands already, and one that doesn't.
use Rattle.std.proofs.Common.{◌≡◌, ◌∙◌, ℕ, List, Bool, true, false, ◌||◌, Option, Some, None}
use Rattle.std.proofs.Common.{is_some, option_map, refl, ap, sym, if◌then◌else◌}
use Rattle.std.specs.Str.{bytes_eq}
use Rattle.heat_value.specs.Data.{Data, null, Members, no_members, member, lookup, put}
use Rattle.hot_functions.specs.Forms.{stands}
use Rattle.eval_words.specs.Maps.{mapped_onto}
use Rattle.heat_value.specs.Meaning.{data_of}
use Rattle.heat_value.specs.declared.value.Value.{Value}
use Rattle.hot_groups.specs.Numbers.{keys_retold}
use denote.Ref.{Bor}

either : (b c : Bool) (d : Data) (o : Option Data) → c ≡ is_some o → (b || c) ≡ is_some (if b then Some d else o)
either true c d o same = refl
either false c d o same = same

-- a key stands where something stands under it
pub stands-lookup : (k : List ℕ) (ms : Members) → stands k ms ≡ is_some (lookup k ms)
stands-lookup k no_members = refl
stands-lookup k (member l d ms) = either (bytes_eq l k) (stands k ms) d (lookup k ms) (stands-lookup k ms)

module _ (k : List ℕ) (d : Data) (base rest : Members) where
  -- a key that stands leaves no map
  pub met : is_some (lookup k base) ≡ true → mapped_onto base (member k d rest) ≡ None
  met is = ap (λ (b : Bool). if b then None else mapped_onto (put k d base) rest) (stands-lookup k base ∙ is)

  -- one that doesn't is put
  pub unmet : is_some (lookup k base) ≡ false → mapped_onto base (member k d rest) ≡ mapped_onto (put k d base) rest
  unmet is = ap (λ (b : Bool). if b then None else mapped_onto (put k d base) rest) (stands-lookup k base ∙ is)

some-map : (o : Option (Bor Value)) → is_some (option_map (λ (v : Bor Value). data_of v.now) o) ≡ is_some o
some-map None = refl
some-map (Some v) = refl

module _ (f : List ℕ → List ℕ) (k key : List ℕ) (d : Data) (keys all rest : Members) (o : Option (Bor Value))
    (whole : Option Members) (split : all ≡ member k d rest) (same : key ≡ f k)
    (got : option_map (λ (v : Bor Value). data_of v.now) o ≡ lookup key keys)
    (way : mapped_onto keys (keys_retold f all) ≡ whole) where
  found : is_some (lookup (f k) keys) ≡ is_some o
  found = ap (λ (x : List ℕ). is_some (lookup x keys)) (sym same) ∙ sym (ap is_some got) ∙ some-map o

  here : mapped_onto keys (member (f k) null (keys_retold f rest)) ≡ whole
  here = sym (ap (λ (ms : Members). mapped_onto keys (keys_retold f ms)) split) ∙ way

  -- two keys became one
  pub met_here : is_some o ≡ true → false ≡ is_some whole
  met_here is = sym (ap (λ (w : Option Members). is_some w) (sym here ∙ met (f k) null keys (keys_retold f rest) (found ∙ is)))

  -- one key more
  pub unmet_here : (now : Members) → is_some o ≡ false → now ≡ put key null keys
      → mapped_onto now (keys_retold f rest) ≡ whole
  unmet_here now is set =
      ap (λ (ms : Members). mapped_onto ms (keys_retold f rest)) (set ∙ ap (λ (x : List ℕ). put x null keys) same)
      ∙ sym (unmet (f k) null keys (keys_retold f rest) (found ∙ is)) ∙ here
