-- What a reader of parts answers of the whole.
use Rattle.std.proofs.Common.{◌≡◌, ℕ, ◌<◌, ◌≤◌, List, [], ◌∷◌, ◌++◌, length, All}
use Rattle.std.proofs.Common.{◌⊎◌, inl, inr, get_or, refl, sym, ap, subst, ◌∙◌, append_assoc, arith}
use Rattle.std.specs.List.{flat_map}
use Rattle.std.proofs.lemmas.List.{length-append, flat_map_more}
use Rattle.std.proofs.lemmas.List.Elements.{All-head, All-tail}
use Rattle.plan_codec.specs.declared.unread.Unread.{Unread}
use Rattle.plan_codec.specs.declared.unread.Unread.TheVariants as unread
use Rattle.plan_codec.specs.Spellings.{IsUnique, Takes, Lacks, Refuses, Regroups}
use Rattle.plan_codec.specs.Numbers.{spelled_number, IsWord, spelled_bytes, IsShort}
use Rattle.plan_codec.specs.Parts.{spelled_list, AreAll}
use Rattle.plan_codec.specs.Laws.{number_unique}

-- what was taken and isn't what is looked for
pub not_taken : {A : Type 0} {spelled : A → List ℕ} {proper less : A → Type 0} (bytes rest : List ℕ) (x : A)
    → IsUnique spelled proper → ((y : A) → less y → proper y) → Takes spelled proper bytes x rest → ¬ less x → Lacks
    spelled less bytes
not_taken {less = less} bytes rest x u more a not = record {
  none = λ y others p e. not (subst less (sym (u.one x y rest others a.fits (more y p) (sym a.parts ∙ e)).0) p);
}

-- what asks for more refuses as well
pub refused_more : {A : Type 0} (spelled : A → List ℕ) (proper less : A → Type 0) (bytes : List ℕ) (e : Unread)
    → ((y : A) → less y → proper y) → Refuses spelled proper bytes e → Refuses spelled less bytes e
refused_more spelled proper less bytes unread.Memory more h = tt
refused_more spelled proper less bytes unread.Unspelled more h = record {
  none = λ y rest p e. h.none y rest (more y p) e;
}

-- bytes whose length claims more than there are
pub short_refused : (bytes rest : List ℕ) (n : ℕ) (e : Unread) → Takes spelled_number IsWord bytes n rest → length
    rest < n → Refuses spelled_bytes IsShort bytes e
short_refused bytes rest n unread.Memory t less = tt
short_refused bytes rest n unread.Unspelled t less = record {
  none = λ s q p e.
      let both = number_unique.one n (length s) rest (s ++ q) t.fits p
      (sym t.parts ∙ e ∙ append_assoc (spelled_number (length s)) s q) in
      absurd (omega (arith, less, both.0, ap length both.1, length-append s q));
}

-- bytes of which there are as many as their length claims
pub bytes_taken : (bytes rest front behind : List ℕ) (n : ℕ) → Takes spelled_number IsWord bytes n rest → rest ≡
    front ++ behind → length front ≡ n → Takes spelled_bytes IsShort bytes front behind
bytes_taken bytes rest front behind n t so len = record {
  parts = t.parts ∙ ap (λ (r : List ℕ). spelled_number n ++ r) so ∙ ap
      (λ (k : ℕ). spelled_number k ++ (front ++ behind)) (sym len) ∙ sym
      (append_assoc (spelled_number (length front)) front behind);
  fits = omega (arith, len, t.fits);
}

-- a length that isn't there
pub length_refused : (bytes : List ℕ) (e : Unread) → Refuses spelled_number IsWord bytes e → Refuses spelled_bytes
    IsShort bytes e
length_refused bytes unread.Memory h = tt
length_refused bytes unread.Unspelled h = record {
  none = λ s q p e. h.none (length s) (s ++ q) p (e ∙ append_assoc (spelled_number (length s)) s q);
}

-- what was taken, where it keeps more
pub taken_more : {A : Type 0} (spelled : A → List ℕ) (proper less : A → Type 0) (bytes rest : List ℕ) (x : A) → less
    x → Takes spelled proper bytes x rest → Takes spelled less bytes x rest
taken_more spelled proper less bytes rest x p t = record { parts = t.parts; fits = p }

-- what was taken, if it isn't what is looked for
pub not_taken_if : {A : Type 0} {spelled : A → List ℕ} {proper : A → Type 0} (less : A → Type 0)
    (bytes rest : List ℕ) (x : A) (e : Unread) → IsUnique spelled proper → ((y : A) → less y → proper y) → Takes
    spelled proper bytes x rest → (e ≡ unread.Unspelled → ¬ less x) → Refuses spelled less bytes e
not_taken_if less bytes rest x unread.Memory u more t not = tt
not_taken_if less bytes rest x unread.Unspelled u more t not = not_taken bytes rest x u more t (not refl)

module _ {A B : Type 0} {spelled : A → List ℕ} {proper : A → Type 0} {spelled_as : B → List ℕ}
    {proper_as : B → Type 0} (g : Regroups spelled proper spelled_as proper_as) where
  pub taken_as : (bytes rest : List ℕ) (x : A) → Takes spelled proper bytes x rest → Takes spelled_as proper_as
      bytes (g.to x) rest
  taken_as bytes rest x a = record {
    parts = a.parts ∙ ap (λ (t : List ℕ). t ++ rest) (ap spelled (sym (g.back x)) ∙ sym (g.alike (g.to x)));
    fits = g.keeps x a.fits;
  }

  pub refused_as : (bytes : List ℕ) (e : Unread) → Refuses spelled proper bytes e → Refuses spelled_as proper_as bytes e
  refused_as bytes unread.Memory h = tt
  refused_as bytes unread.Unspelled h = record {
    none = λ y rest p e. h.none (g.from y) rest (g.gives y p) (e ∙ ap (λ (t : List ℕ). t ++ rest) (g.alike y));
  }

module _ {A : Type 0} {spelled : A → List ℕ} {proper : A → Type 0} (u : IsUnique spelled proper) where
  -- what stands behind the first things of a longer list
  next_of : (xs ys : List A) (r q : List ℕ) → length xs < length ys → All proper xs → All proper ys → flat_map
      spelled xs ++ r ≡ flat_map spelled ys ++ q → (y : A) × (more : List ℕ) × proper y × (r ≡ spelled y ++ more)
  next_of xs [] r q less p o e = absurd (omega (arith, less))
  next_of [] (y ∷ ys) r q less p o e =
      (y, flat_map spelled ys ++ q, All-head proper y ys o, e ∙ append_assoc (spelled y) (flat_map spelled ys) q)
  next_of (x ∷ xs) (y ∷ ys) r q less p o e =
      let regrouped = sym (append_assoc (spelled x) (flat_map spelled xs) r) ∙ e ∙ append_assoc (spelled y)
      (flat_map spelled ys) q in
      let first = u.one x y (flat_map spelled xs ++ r) (flat_map spelled ys ++ q) (All-head proper x xs p)
      (All-head proper y ys o) regrouped in
      next_of xs ys r q (omega (arith, less)) (All-tail proper x xs p) (All-tail proper y ys o) first.1

  -- a list of which an item isn't there
  pub item_refused : (bytes rest : List ℕ) (count : ℕ) (xs : List A) (e : Unread) → bytes ≡ spelled_number count ++
      (flat_map spelled xs ++ rest) → IsWord count → All proper xs → length xs < count → Refuses spelled proper rest
      e → Refuses (spelled_list spelled) (AreAll proper) bytes e
  item_refused bytes rest count xs unread.Memory so word p less h = tt
  item_refused bytes rest count xs unread.Unspelled so word p less h = record {
    none = λ ys q o e.
        let counted = number_unique.one count (length ys) (flat_map spelled xs ++ rest) (flat_map spelled ys ++ q)
        word o.0 (sym so ∙ e ∙ append_assoc (spelled_number (length ys)) (flat_map spelled ys) q) in
        let found = next_of xs ys rest q (omega (arith, less, counted.0)) p o.1 counted.1 in
        h.none found.0 found.1 found.2 found.3;
  }

-- a list whose items are all there
pub items_taken : {A : Type 0} (spelled : A → List ℕ) (proper : A → Type 0) (bytes rest : List ℕ) (count : ℕ)
    (xs : List A) → bytes ≡ spelled_number count ++ (flat_map spelled xs ++ rest) → IsWord count → All proper xs
    → length xs ≡ count → Takes (spelled_list spelled) (AreAll proper) bytes xs rest
items_taken spelled proper bytes rest count xs so word p len = record {
  parts = so ∙ ap (λ (n : ℕ). spelled_number n ++ (flat_map spelled xs ++ rest)) (sym len) ∙ sym
      (append_assoc (spelled_number (length xs)) (flat_map spelled xs) rest);
  fits = (omega (arith, len, word), p);
}

-- one item more
pub one_more : {A : Type 0} (spelled : A → List ℕ) (front bytes middle rest : List ℕ) (xs : List A) (x : A) → bytes
    ≡ front ++ (flat_map spelled xs ++ middle) → middle ≡ spelled x ++ rest → bytes ≡ front ++
    (flat_map spelled (xs ++ x ∷ []) ++ rest)
one_more spelled front bytes middle rest xs x so e =
    so ∙ ap (λ (t : List ℕ). front ++ (flat_map spelled xs ++ t)) e
    ∙ ap (λ (t : List ℕ). front ++ t) (sym (append_assoc (flat_map spelled xs) (spelled x) rest))
    ∙ ap (λ (t : List ℕ). front ++ (t ++ rest)) (flat_map_more spelled [] xs x)

-- the first byte, if there is one, is the tag or beyond
pub tag_past : (tags : ℕ) (bytes : List ℕ) → (length bytes < 1) ⊎ (tags ≤ get_or bytes 0 0) → (tag : ℕ) (rest : List ℕ)
    → bytes ≡ tag ∷ rest → tags ≤ tag
tag_past tags bytes (inl none) tag rest e = absurd (omega (arith, none, ap length e))
tag_past tags bytes (inr past) tag rest e = omega (arith, past, ap (λ (b : List ℕ). get_or b 0 0) e)
