-- Chains of replacements, followed link by link.
use Rattle.std.proofs.Common.{◌≡◌, ◌<◌, ◌∙◌, ℕ, Bool, true, false, true≢false, List, Option, Some, None, IsSome, is_some, option_map, refl, sym, ap, subst}
use Rattle.std.specs.Prelude.{not}
use Rattle.row_table.specs.declared.row.Row.{Row}
use Rattle.row_table.specs.Rows.{row_at}
use Rattle.row_table.specs.Chains.{Leads, ends, goes}
use Rattle.row_table.specs.Links.{HasNext, IsNext}
use Rattle.row_table.proofs.Found.{row-has}

-- the row of a chain that was reached stands, and what it leads to is what the first one does
pub record Follows (rows : List Row) (first last : ℕ) : Type 0 where
  pub stands : IsSome (row_at rows last)
  pub leads : (t : ℕ) → Leads rows last t → Leads rows first t

pub link_rises : (rows : List Row) (n m : ℕ) → IsNext (row_at rows n) m → n < m
link_rises rows n m next = subst (λ k. k < m) (row-has n rows next.before next.there) next.rises

pub goes_on : (rows : List Row) (first last m : ℕ) → IsNext (row_at rows last) m → IsSome (row_at rows m) → Follows rows first last → Follows rows first m
goes_on rows first last m next h f = record {
  stands = h;
  leads = λ t on. f.leads t (goes last m t next.before next.there next.link (link_rises rows last m next) on);
}

-- the end, where no greater row stands
pub stops_past : (rows : List Row) (first last m : ℕ) → IsNext (row_at rows last) m → row_at rows m ≡ None → Follows rows first last → Leads rows first last
stops_past rows first last m next h f = f.leads last (ends last next.before next.there (λ k q link rises there.
    let same : Some k ≡ Some m = sym link ∙ next.link in
    let is : k ≡ m = cc in
    let both : None ≡ Some q = sym (subst (λ j. row_at rows j ≡ None) (sym is) h) ∙ there in
    cc))

pub stops : (rows : List Row) (first last : ℕ) → (HasNext (row_at rows last) → ⊥) → Follows rows first last → Leads rows first last
stops rows first last none f = by (row_at rows last) refl f.stands where
  by : (o : Option Row) → row_at rows last ≡ o → IsSome o → Leads rows first last
  by None e h = absurd (true≢false (sym h))
  by (Some r) e h = f.leads last (ends last r e (λ k q link rises there. none (k, record { before = r; there = e; link = link; rises = rises })))

-- whether there is a row, as a test tells it
pub missing_by : {A B : Type 0} (f : A → B) (o : Option A) (row : Option B) (t : Bool) → is_some o ≡ not t → option_map f o ≡ row → t ≡ true → row ≡ None
missing_by f None row t e m h = sym m
missing_by f (Some x) row t e m h = absurd (true≢false (e ∙ ap not h))

pub there_by : {A B : Type 0} (f : A → B) (o : Option A) (row : Option B) (t : Bool) → is_some o ≡ not t → option_map f o ≡ row → t ≡ false → IsSome row
there_by f None row t e m h = absurd (true≢false (sym (e ∙ ap not h)))
there_by f (Some x) row t e m h = subst (λ r. IsSome r) m refl
