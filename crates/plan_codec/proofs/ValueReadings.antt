-- What a reader of a value's parts answers of the value.
use Rattle.std.proofs.Common.{◌≡◌, ℕ, ◌+◌, ◌≤◌, List, ◌∷◌, ◌++◌, true, false, arith}
use Rattle.heat_value.specs.Data.{Data, null, flag, whole, words, items, fields, Members, Rises}
use Rattle.plan_codec.specs.declared.unread.Unread.{Unread}
use Rattle.plan_codec.specs.declared.unread.Unread.TheVariants as unread
use Rattle.plan_codec.specs.Spellings.{Takes, Lacks, Refuses}
use Rattle.plan_codec.specs.Numbers.{spelled_bytes, IsText}
use Rattle.plan_codec.specs.Values.{spelled_whole, IsWhole, spelled_value, IsWithin, spelled_items, AreItems, spelled_fields, AreFields, IsWithinFields}
use Rattle.plan_codec.specs.ValueLaws.{AreAnyFields, any_fields_unique}
use Rattle.plan_codec.proofs.Readings.{not_taken, refused_more}

no_whole : (limit : ℕ) (rest : List ℕ) → ((y : _) (q : List ℕ) → IsWhole y → rest ≡ spelled_whole y ++ q → ⊥) → (x : Data) (q : List ℕ) → IsWithin limit x → 3 ∷ rest ≡ spelled_value x ++ q → ⊥
no_whole limit rest none null q p e = cc
no_whole limit rest none (flag false) q p e = cc
no_whole limit rest none (flag true) q p e = cc
no_whole limit rest none (whole y) q p e = none y q p.0 cc
no_whole limit rest none (words y) q p e = cc
no_whole limit rest none (items y) q p e = cc
no_whole limit rest none (fields y) q p e = cc

pub whole_refused : (limit : ℕ) (rest : List ℕ) (e : Unread) → Refuses spelled_whole IsWhole rest e → Refuses spelled_value (IsWithin limit) (3 ∷ rest) e
whole_refused limit rest unread.Memory h = tt
whole_refused limit rest unread.Unspelled h = record { none = no_whole limit rest h.none }

no_words : (limit : ℕ) (rest : List ℕ) → ((y : _) (q : List ℕ) → IsText y → rest ≡ spelled_bytes y ++ q → ⊥) → (x : Data) (q : List ℕ) → IsWithin limit x → 4 ∷ rest ≡ spelled_value x ++ q → ⊥
no_words limit rest none null q p e = cc
no_words limit rest none (flag false) q p e = cc
no_words limit rest none (flag true) q p e = cc
no_words limit rest none (whole y) q p e = cc
no_words limit rest none (words y) q p e = none y q p.0 cc
no_words limit rest none (items y) q p e = cc
no_words limit rest none (fields y) q p e = cc

pub words_refused : (limit : ℕ) (rest : List ℕ) (e : Unread) → Refuses spelled_bytes IsText rest e → Refuses spelled_value (IsWithin limit) (4 ∷ rest) e
words_refused limit rest unread.Memory h = tt
words_refused limit rest unread.Unspelled h = record { none = no_words limit rest h.none }

no_items : (limit : ℕ) (rest : List ℕ) → ((y : _) (q : List ℕ) → (AreItems limit) y → rest ≡ spelled_items y ++ q → ⊥) → (x : Data) (q : List ℕ) → IsWithin limit x → 5 ∷ rest ≡ spelled_value x ++ q → ⊥
no_items limit rest none null q p e = cc
no_items limit rest none (flag false) q p e = cc
no_items limit rest none (flag true) q p e = cc
no_items limit rest none (whole y) q p e = cc
no_items limit rest none (words y) q p e = cc
no_items limit rest none (items y) q p e = none y q p cc
no_items limit rest none (fields y) q p e = cc

pub items_refused : (limit : ℕ) (rest : List ℕ) (e : Unread) → Refuses spelled_items (AreItems limit) rest e → Refuses spelled_value (IsWithin limit) (5 ∷ rest) e
items_refused limit rest unread.Memory h = tt
items_refused limit rest unread.Unspelled h = record { none = no_items limit rest h.none }

no_fields : (limit : ℕ) (rest : List ℕ) → ((y : _) (q : List ℕ) → (IsWithinFields limit) y → rest ≡ spelled_fields y ++ q → ⊥) → (x : Data) (q : List ℕ) → IsWithin limit x → 6 ∷ rest ≡ spelled_value x ++ q → ⊥
no_fields limit rest none null q p e = cc
no_fields limit rest none (flag false) q p e = cc
no_fields limit rest none (flag true) q p e = cc
no_fields limit rest none (whole y) q p e = cc
no_fields limit rest none (words y) q p e = cc
no_fields limit rest none (items y) q p e = cc
no_fields limit rest none (fields y) q p e = none y q p cc

pub fields_refused : (limit : ℕ) (rest : List ℕ) (e : Unread) → Refuses spelled_fields (IsWithinFields limit) rest e → Refuses spelled_value (IsWithin limit) (6 ∷ rest) e
fields_refused limit rest unread.Memory h = tt
fields_refused limit rest unread.Unspelled h = record { none = no_fields limit rest h.none }

-- bytes that begin with no tag of a value
no_tag : (limit : ℕ) (bytes : List ℕ) → ((tag : ℕ) (rest : List ℕ) → bytes ≡ tag ∷ rest → 7 ≤ tag) → (x : Data)
    (q : List ℕ) → IsWithin limit x → bytes ≡ spelled_value x ++ q → ⊥
no_tag limit bytes past null q p e = absurd (omega (arith, past 0 q e))
no_tag limit bytes past (flag false) q p e = absurd (omega (arith, past 1 q e))
no_tag limit bytes past (flag true) q p e = absurd (omega (arith, past 2 q e))
no_tag limit bytes past (whole y) q p e = absurd (omega (arith, past 3 _ e))
no_tag limit bytes past (words y) q p e = absurd (omega (arith, past 4 _ e))
no_tag limit bytes past (items y) q p e = absurd (omega (arith, past 5 _ e))
no_tag limit bytes past (fields y) q p e = absurd (omega (arith, past 6 _ e))

pub no_value : (limit : ℕ) (bytes : List ℕ) → ((tag : ℕ) (rest : List ℕ) → bytes ≡ tag ∷ rest → 7 ≤ tag)
    → Lacks spelled_value (IsWithin limit) bytes
no_value limit bytes past = record { none = no_tag limit bytes past }

-- nothing nests less deep than not at all
pub no_inner_items : (bytes : List ℕ) (limit : ℕ) (e : Unread) → limit ≡ 0 → Refuses spelled_items (AreItems limit) bytes e
no_inner_items bytes limit unread.Memory so = tt
no_inner_items bytes limit unread.Unspelled so = record { none = λ x q p e. absurd (omega (arith, so, p.1)) }

pub no_inner_fields : (bytes : List ℕ) (limit : ℕ) (e : Unread) → limit ≡ 0 → Refuses spelled_fields (IsWithinFields limit) bytes e
no_inner_fields bytes limit unread.Memory so = tt
no_inner_fields bytes limit unread.Unspelled so = record { none = λ x q p e. absurd (omega (arith, so, p.1)) }

-- a map among what holds it
pub inner_refused : (bytes : List ℕ) (limit deep : ℕ) (e : Unread) → limit ≡ deep + 1 → Refuses spelled_fields (AreFields deep) bytes e → Refuses spelled_fields (IsWithinFields limit) bytes e
inner_refused bytes limit deep e so h = refused_more spelled_fields (AreFields deep) (IsWithinFields limit) bytes e (λ ms p. (p.0, omega (arith, so, p.1))) h

pub inner_taken : (bytes rest : List ℕ) (limit deep : ℕ) (ms : Members) → limit ≡ deep + 1 → Takes spelled_fields (AreFields deep) bytes ms rest → Takes spelled_fields (IsWithinFields limit) bytes ms rest
inner_taken bytes rest limit deep ms so t = record { parts = t.parts; fits = (t.fits.0, omega (arith, so, t.fits.1)) }

loosened : (limit : ℕ) (ms : Members) → AreFields limit ms → AreAnyFields limit ms
loosened limit ms p = (p.0.0, (p.0.1.0, p.1))

pub any_refused : (bytes : List ℕ) (limit : ℕ) (e : Unread) → Refuses spelled_fields (AreAnyFields limit) bytes e → Refuses spelled_fields (AreFields limit) bytes e
any_refused bytes limit e h = refused_more spelled_fields (AreAnyFields limit) (AreFields limit) bytes e (loosened limit) h

pub rising_taken : (bytes rest : List ℕ) (limit : ℕ) (ms : Members) → Rises ms → Takes spelled_fields (AreAnyFields limit) bytes ms rest → Takes spelled_fields (AreFields limit) bytes ms rest
rising_taken bytes rest limit ms up t = record { parts = t.parts; fits = ((t.fits.0, (t.fits.1.0, up)), t.fits.1.1) }

pub falling_refused : (bytes rest : List ℕ) (limit : ℕ) (ms : Members) → ¬ Rises ms → Takes spelled_fields (AreAnyFields limit) bytes ms rest → Lacks spelled_fields (AreFields limit) bytes
falling_refused bytes rest limit ms not t = not_taken bytes rest ms (any_fields_unique limit) (loosened limit) t (λ p. not p.0.1.1)
