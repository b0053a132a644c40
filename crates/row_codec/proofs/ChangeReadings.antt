-- What a reader of a change's fields answers of the change.
use Rattle.std.proofs.Common.{◌≡◌, ℕ, List, ◌∷◌, ◌++◌, ◌<◌, ◌≤◌, length, get_or, sym, ap, ◌∙◌, arith}
use Rattle.core_state.specs.declared.change.Change.{Change}
use Rattle.core_state.specs.declared.change.Change.TheVariants as change
use Rattle.plan_codec.specs.declared.unread.Unread.{Unread}
use Rattle.plan_codec.specs.declared.unread.Unread.TheVariants as unread
use Rattle.plan_codec.specs.Spellings.{Takes, Lacks, Refuses}
use Rattle.row_codec.specs.Changes.{spelled_change, the_tag, IsProper}
use Rattle.row_codec.specs.Kinds.{IsKind}
use Rattle.row_codec.specs.ChangeLaws.{of_kind}

module _ {A : Type 0} {tag : ℕ} {make : A → Change} {fields : A → List ℕ} {proper : A → Type 0}
    (k : IsKind tag make fields proper) where
  -- fields that were taken behind their tag
  pub kind_taken : (rest behind : List ℕ) (x : A) → Takes fields proper rest x behind
      → Takes spelled_change IsProper (tag ∷ rest) (make x) behind
  kind_taken rest behind x t = record {
    parts = ap (λ (b : List ℕ). tag ∷ b) t.parts ∙ ap (λ (b : List ℕ). b ++ behind) (sym (k.spells x));
    fits = k.fits x t.fits;
  }

  -- fields that aren't there behind their tag
  pub kind_refused : (rest : List ℕ) (e : Unread) → Refuses fields proper rest e
      → Refuses spelled_change IsProper (tag ∷ rest) e
  kind_refused rest unread.Memory h = tt
  kind_refused rest unread.Unspelled h = record {
    none = λ c q p e. let found = of_kind k rest c q p e in h.none found.0 q found.1 found.3;
  }

-- tags go from 1 to 15
tag_range : (c : Change) → (1 ≤ the_tag c) × (the_tag c ≤ 15)
tag_range (change.PutStack s) = (omega arith, omega arith)
tag_range _ = (omega arith, omega arith)

-- no change has another tag
pub no_change : (tag : ℕ) (rest : List ℕ) → (1 ≤ tag → 16 ≤ tag) → Lacks spelled_change IsProper (tag ∷ rest)
no_change tag rest past = record {
  none = λ x q p e.
      let same : tag ≡ the_tag x = ap (λ (b : List ℕ). get_or b 0 0) e in
      absurd (omega (arith, same, tag_range x, past (omega (arith, same, tag_range x))));
}

-- and none is without bytes
pub no_byte : (bytes : List ℕ) → length bytes < 1 → Lacks spelled_change IsProper bytes
no_byte bytes less = record { none = λ x q p e. absurd (omega (arith, less, ap length e)) }
