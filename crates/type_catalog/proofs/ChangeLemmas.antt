-- Where the keys of a map stand among its members.
use Rattle.std.proofs.Common.{◌≡◌, ◌≢◌, ◌<◌, ◌≤◌, ◌∙◌, ℕ, zero, suc, List, [], ◌∷◌, Bool, true, false, Option, None, Some, refl, sym, subst, length, get_or, arith}
use Rattle.std.specs.Prelude.{Contains, if◌then◌else◌}
use Rattle.std.specs.Str.{bytes_eq}
use Rattle.std.proofs.lemmas.Option.{none-some}
use Rattle.std.proofs.lemmas.Slice.Eq.{bytes_eq-Decides}
use Rattle.heat_value.specs.Data.{Data, Members, lookup}
use Rattle.heat_value.specs.Meaning.{data_of, members_of}
use Rattle.heat_value.specs.declared.value.Member.{Member}
use Rattle.type_catalog.specs.Changes.{Differs}

-- each of the first members is the same in both maps, or changes in place
abbrev pub AllSoft : List (List ℕ) → Members → Members → List Member → ℕ → Type 0
AllSoft softs one other ms i = (k : ℕ) (d : Member) → k < i → Differs one other (get_or ms k d).key → Contains softs (get_or ms k d).key

-- a member has this key
abbrev AtPlace : List Member → List ℕ → Type 0
AtPlace ms key = (k : ℕ) × (d : Member) × (k < length ms) × ((get_or ms k d).key ≡ key)

step : (m : Member) (ms : List Member) (key : List ℕ) (b : Bool) → bytes_eq m.key key ≡ b
    → (if b then Some (data_of m.value) else lookup key (members_of ms)) ≢ None
    → (lookup key (members_of ms) ≢ None → AtPlace ms key) → AtPlace (m ∷ ms) key
step m ms key true is some rest = (zero, m, omega arith, (bytes_eq-Decides m.key key).0 is)
step m ms key false is some rest =
    let (k, d, lt, at) = rest some in
    (suc k, d, omega arith, at)

key_place : (ms : List Member) (key : List ℕ) → lookup key (members_of ms) ≢ None → AtPlace ms key
key_place [] key some = absurd (some refl)
key_place (m ∷ ms) key some = step m ms key (bytes_eq m.key key) refl some (key_place ms key)

-- where this holds of all members, it holds of each key that the map has
pub all_soft : (softs : List (List ℕ)) (one other : Members) (ms : List Member) (i : ℕ) → members_of ms ≡ one → AllSoft softs one other ms i
    → length ms ≤ i → (key : List ℕ) → lookup key one ≢ None → Differs one other key → Contains softs key
all_soft softs one other ms i is soft all key some differs =
    let (k, d, lt, at) = key_place ms key (subst (λ (o : Members). lookup key o ≢ None) (sym is) some) in
    subst (λ (x : List ℕ). Differs one other x → Contains softs x) at (soft k d (omega arith)) differs

-- a key that differs in two maps stands in the first, or else in the second
pub both_soft : (softs : List (List ℕ)) (old new : Members)
    → ((key : List ℕ) → lookup key old ≢ None → Differs old new key → Contains softs key)
    → ((key : List ℕ) → lookup key new ≢ None → Differs new old key → Contains softs key)
    → (key : List ℕ) → Differs old new key → Contains softs key
both_soft softs old new first second key differs = by (lookup key old) refl where
  by : (found : Option Data) → lookup key old ≡ found → Contains softs key
  by None is = second key (λ none. differs (is ∙ sym none)) (λ same. differs (sym same))
  by (Some d) is = first key (λ none. none-some d (sym none ∙ is)) differs
