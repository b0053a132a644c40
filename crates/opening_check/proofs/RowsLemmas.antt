-- The lowest row of which the list shows something else, row after row (`lowest_next`), and what is then found
-- (`found_has`, `nothing_found`).
use Rattle.std.proofs.Common.{◌≡◌, ◌∙◌, ◌∷◌, ◌++◌, [], inl, inr, get_or, take, drop, ◌+◌, ◌<◌, ◌⊎◌, Bool, List, None, Option, Some, false, true, ℕ, suc, zero, length, arith, ap, subst, refl, sym, ltb, ltb-true, ltb-false, IsSome, Ok, Result, is_some}
use Rattle.std.specs.Prelude.{cond, nat_eq, nat_lt, slice_get}
use Rattle.std.proofs.lemmas.Option.{slice_get-get_or}
use Rattle.heat_plan.specs.declared.token.Token.{Token}
use Rattle.std.specs.declared.alloc.AllocError.{AllocError}
use Rattle.heat_plan.specs.Tables.{at}
use Rattle.provider.specs.Cloud.{living_of}
use Rattle.provider.specs.Same.{same_token}
use Rattle.provider.specs.Table.{TokenState}
use Rattle.provider.specs.declared.alive.Alive.{Alive}
use Rattle.provider.proofs.Sames.{same_token-true}
use Rattle.keyed_table.proofs.Tables.{at-among}
use Rattle.keyed_table.proofs.Sortings.{number_sorting}
use Rattle.row_table.specs.Rows.{row_at, row_key}
use Rattle.row_table.specs.declared.row.Row.{Row}
use Rattle.core_state.specs.State.{StateData}
use Rattle.step_relation.specs.Compared.{FindsNothing, IsExpected, IsFirstUnlisted, IsListed}
use Rattle.step_relation.specs.Opening.{Opening, first_of}
use Rattle.step_relation.specs.Rows.{token_of}
use Rattle.opening_check.proofs.PlacesLemmas.{untrue}
use Rattle.opening_check.specs.Findings.{HasFound}
use Rattle.opening_check.specs.Rows.{Considers, agrees, differs, IsFound, IsLowest, IsShown, IsShownIn, finding_of, listed_of, lower_of, shown_of}
use Rattle.opening_check.specs.Strangers.{IsFirstStranger, IsStranger}
use Rattle.opening_check.specs.declared.finding.Finding.{Finding}
use Rattle.opening_check.specs.declared.finding.Finding.TheVariants.{Stranger}

-- ---- places

below_or_at : (m k : ℕ) → m < k + 1 → (m < k) ⊎ (m ≡ k)
below_or_at m k lt = by (ltb m k) refl where
  by : (b : Bool) → ltb m k ≡ b → (m < k) ⊎ (m ≡ k)
  by true e = inl (ltb-true m k e)
  by false e = let n = ltb-false m k e in inr (omega (arith, lt, n))

one_some : {A : Type 0} (o : Option A) (x y : A) → o ≡ Some x → o ≡ Some y → x ≡ y
one_some o x y e f = cc

not_below : (a b : ℕ) → a ≡ b → a < b → ⊥
not_below a b e lt = omega (arith, e, lt)

has : (n : ℕ) (rows : List Row) (r : Row) → row_at rows n ≡ Some r → nat_eq r.no n ≡ true
unfolding at
has n [] r e = absurd (none_some e) where
  none_some : None ≡ Some r → ⊥
  none_some f = cc
has n (x ∷ rows) r e = by (nat_eq x.no n) refl e (has n rows r) where
  by : (b : Bool) → nat_eq x.no n ≡ b → cond b (Some x) (row_at rows n) ≡ Some r
      → (row_at rows n ≡ Some r → nat_eq r.no n ≡ true) → nat_eq r.no n ≡ true
  by true is f rest = let same : x ≡ r = cc in subst (λ (z : Row). nat_eq z.no n ≡ true) same is
  by false is f rest = rest f

row-has : (n : ℕ) (rows : List Row) (r : Row) → row_at rows n ≡ Some r → r.no ≡ n
row-has n rows r e = number_sorting.equal r.no n (has n rows r e)

row_place : (rows : List Row) (n : ℕ) (r : Row) → row_at rows n ≡ Some r
    → (m : ℕ) × (m < length rows) × (slice_get rows m ≡ Some r)
row_place rows n r e = let (q, lt, is) = at-among nat_eq row_key n rows r e in
    (q, lt, slice_get-get_or rows q r lt ∙ ap Some (is r))

alive_place : (all : List Alive) (t : Token) (a : Alive) → listed_of all t ≡ Some a
    → (m : ℕ) × (slice_get all m ≡ Some a) × (a.token ≡ t)
alive_place [] t a e = absurd (none_some e) where
  none_some : None ≡ Some a → ⊥
  none_some f = cc
alive_place (b ∷ all) t a e = by (same_token b.token t) refl e (alive_place all t a) where
  by : (same : Bool) → same_token b.token t ≡ same → cond same (Some b) (listed_of all t) ≡ Some a
      → (listed_of all t ≡ Some a → (m : ℕ) × (slice_get all m ≡ Some a) × (a.token ≡ t))
      → (m : ℕ) × (slice_get (b ∷ all) m ≡ Some a) × (a.token ≡ t)
  by true is f rest = let own : b ≡ a = cc in (0, f, subst (λ (z : Alive). z.token ≡ t) own (same_token-true b.token t is))
  by false is f rest = let (m, there, token) = rest f in (suc m, there, token)

-- ---- the rows so far

module _ (all : List Alive) (rows : List Row) (k : ℕ) (x : Row) (there : slice_get rows k ≡ Some x) where
  last : (m : ℕ) (r : Row) → m ≡ k → slice_get rows m ≡ Some r → x ≡ r
  last m r e found = one_some (slice_get rows k) x r there (subst (λ (n : ℕ). slice_get rows n ≡ Some r) e found)

  -- the row of its number, where the next one is its own
  its_own : (m : ℕ) (r : Row) → m ≡ k → slice_get rows m ≡ Some r → row_at rows r.no ≡ Some r → row_at rows x.no ≡ Some r
  its_own m r e found its = subst (λ (z : Row). row_at rows z.no ≡ Some r) (sym (last m r e found)) its

  abbrev Shows : (Row → Type 0) → Type 0
  Shows P = (r : Row) → P r → IsShownIn all r

  -- what holds of the first rows, and of the next one
  onward : (P : Row → Type 0) → ((m : ℕ) (r : Row) → m < k → slice_get rows m ≡ Some r → row_at rows r.no ≡ Some r → P r → IsShownIn all r)
      → ((r : Row) → row_at rows x.no ≡ Some r → P r → IsShownIn all r)
      → (m : ℕ) (r : Row) → m < k + 1 → slice_get rows m ≡ Some r → row_at rows r.no ≡ Some r → P r → IsShownIn all r
  onward P before next m r lt found its p = elim (below_or_at m k lt) [
    | inl below ↦ before m r below found its p
    | inr same ↦ next r (its_own m r same found its) p
  ]

  stays_found : (f : Token × Finding) → ((r : Row) → row_at rows x.no ≡ Some r → r.no < f.0.row → IsShownIn all r)
      → IsFound all rows k f → IsFound all rows (k + 1) f
  stays_found f shown is = record {
    row = is.row;
    stands = is.stands;
    its = is.its;
    unlike = is.unlike;
    finding = is.finding;
    lowest = onward (λ (r : Row). r.no < f.0.row) is.lowest shown;
  }

  stays_lowest : (first : Option (Token × Finding)) → ((r : Row) → row_at rows x.no ≡ Some r → IsShownIn all r)
      → IsLowest all rows k first → IsLowest all rows (k + 1) first
  stays_lowest None shown is = record {
    none = λ e m r lt found its. onward (λ (r : Row). Unit {0}) (λ n q below at own u. is.none e n q below at own) (λ q own u. shown q own) m r lt found its tt;
    some = tt;
  }
  stays_lowest (Some f) shown is = record {
    none = λ e. absurd (some_none e);
    some = stays_found f (λ r own below. shown r own) is.some;
  } where
    some_none : Some f ≡ None → ⊥
    some_none e = cc

  module _ (row : Row) (own : row_at rows x.no ≡ Some row)
      (unlike : (leaving : Bool) → ¬ IsShown row (shown_of leaving (listed_of all (token_of row)))) where
    next : Token × Finding
    next = (token_of row, finding_of (listed_of all (token_of row)))

    -- no other row has its number
    not_lower : (r : Row) → row_at rows x.no ≡ Some r → r.no < row.no → IsShownIn all r
    not_lower r at lt = absurd (not_below r.no row.no (ap (λ (z : Row). z.no) (one_some (row_at rows x.no) r row at own)) lt)

    here : row_at rows row.no ≡ Some row
    here = subst (λ (n : ℕ). row_at rows n ≡ Some row) (sym (row-has x.no rows row own)) own

    next_found : ((m : ℕ) (r : Row) → m < k → slice_get rows m ≡ Some r → row_at rows r.no ≡ Some r → r.no < row.no → IsShownIn all r)
        → IsFound all rows (k + 1) (token_of row, finding_of (listed_of all (token_of row)))
    next_found before = record {
      row = row;
      stands = here;
      its = refl;
      unlike = unlike;
      finding = refl;
      lowest = onward (λ (r : Row). r.no < row.no) before not_lower;
    }

    lower_found : (first : Option (Token × Finding)) → IsLowest all rows k first
        → IsFound all rows (k + 1) (lower_of first (token_of row, finding_of (listed_of all (token_of row))))
    lower_found None is = next_found (λ m r lt found its below. is.none refl m r lt found its)
    lower_found (Some f) is = by (nat_lt row.no f.0.row) refl where
      by : (b : Bool) → nat_lt row.no f.0.row ≡ b
          → IsFound all rows (k + 1) (cond b (token_of row, finding_of (listed_of all (token_of row))) f)
      by true e = next_found (λ m r lt found its below. is.some.lowest m r lt found its (omega (arith, below, ltb-true row.no f.0.row e)))
      by false e = stays_found f (λ r at below. absurd (higher r at below)) is.some where
        higher : (r : Row) → row_at rows x.no ≡ Some r → r.no < f.0.row → ⊥
        higher r at below =
            let same : r.no ≡ row.no = ap (λ (z : Row). z.no) (one_some (row_at rows x.no) r row at own) in
            let up = ltb-false row.no f.0.row e in omega (arith, same, below, up)

  pub lowest_next : (first after : Option (Token × Finding)) → Considers all rows x first after → IsLowest all rows k first
      → IsLowest all rows (k + 1) after
  lowest_next first after (agrees same shown) is = subst (IsLowest all rows (k + 1)) (sym same) (stays_lowest first shown is)
  lowest_next first after (differs row own unlike same) is = subst (IsLowest all rows (k + 1)) (sym same) (record {
    none = λ e. absurd (some_none e);
    some = lower_found row own unlike first is;
  }) where
    some_none : {f : Token × Finding} → Some f ≡ None → ⊥
    some_none e = cc

-- ---- what is found

nothing_there : (o : TokenState) → o ≡ None → IsSome o → ⊥
nothing_there o e is = untrue (sym (ap is_some e) ∙ is)

abbrev the_found : Option (Token × Finding) → Result (Option (Token × Finding)) AllocError
the_found found = Ok found

pub inner : (a b : Token × Finding) → the_found (Some a) ≡ Ok (Some b) → a ≡ b
inner a b e = cc

parted : (all : List Alive) (k : ℕ) (a : Alive) → slice_get all k ≡ Some a → all ≡ take k all ++ a ∷ drop (suc k) all
parted [] k a e = absurd (none_some e) where
  none_some : None ≡ Some a → ⊥
  none_some f = cc
parted (b ∷ all) zero a e = let same : b ≡ a = cc in ap (λ (z : Alive). z ∷ all) same
parted (b ∷ all) (suc k) a e = ap (λ (zs : List Alive). b ∷ zs) (parted all k a e)

taken : (all : List Alive) (n k : ℕ) (d : Alive) → k < length (take n all) → slice_get all k ≡ Some (get_or (take n all) k d)
taken [] zero k d lt = absurd (omega (arith, lt))
taken [] (suc n) k d lt = absurd (omega (arith, lt))
taken (a ∷ all) zero k d lt = absurd (omega (arith, lt))
taken (a ∷ all) (suc n) zero d lt = refl
taken (a ∷ all) (suc n) (suc k) d lt = taken all n k d (omega (arith, lt))

short : (all : List Alive) (n k : ℕ) → k < length (take n all) → k < n
short [] zero k lt = absurd (omega (arith, lt))
short [] (suc n) k lt = absurd (omega (arith, lt))
short (a ∷ all) zero k lt = absurd (omega (arith, lt))
short (a ∷ all) (suc n) zero lt = omega arith
short (a ∷ all) (suc n) (suc k) lt = let below = short all n k (omega (arith, lt)) in omega (arith, below)

module _ (s : StateData) (all : List Alive) (leaving : Token → Bool) where
  abbrev o : Opening
  o = record { state = s; alive = all; leaving = leaving }

  listed_as : (r : Row) → IsShown r (shown_of (leaving (token_of r)) (listed_of all (token_of r))) → IsListed o r
  listed_as r is = record { ready = is.ready; creating = is.creating; updating = is.updating }

  shown_as : (r : Row) → IsListed o r → IsShown r (shown_of (leaving (token_of r)) (listed_of all (token_of r)))
  shown_as r is = record { ready = is.ready; creating = is.creating; updating = is.updating }

  pub nothing_found : IsLowest all s.rows (length s.rows) None → IsStranger s all None → FindsNothing o
  nothing_found rows list = record {
    rows = λ n r e. all_listed n r e;
    list = λ t is. expected t (listed_of all t) refl is;
  } where
    all_listed : (n : ℕ) (r : Row) → row_at s.rows n ≡ Some r → IsListed o r
    all_listed n r e = let (m, lt, there) = row_place s.rows n r e in
        let own : row_at s.rows r.no ≡ Some r = subst (λ (k : ℕ). row_at s.rows k ≡ Some r) (sym (row-has n s.rows r e)) e in
        listed_as r (rows.none refl m r lt there own (leaving (token_of r)))

    expected : (t : Token) (found : Option Alive) → listed_of all t ≡ found → IsSome (first_of o t) → IsExpected s t
    expected t None e is = absurd (nothing_there (shown_of (leaving t) None) refl (subst (λ (x : Option Alive). IsSome (shown_of (leaving t) x)) e is))
    expected t (Some a) e is = let (m, there, token) = alive_place all t a e in
        subst (IsExpected s) token (list.none refl m a there)

  pub found_has : (found : Token × Finding) → IsFound all s.rows (length s.rows) found → HasFound o found.0 found.1
  found_has found is = by (listed_of all found.0) found.1 refl is.finding where
    row_first : IsFirstUnlisted o found.0
    row_first = record {
      row = is.row;
      found = is.stands;
      its = is.its;
      unlisted = λ listed. is.unlike (leaving found.0) (subst (λ (t : Token). IsShown is.row (shown_of (leaving t) (listed_of all t))) is.its (shown_as is.row listed));
      first = λ m q e lt. let (k, below, there) = row_place s.rows m q e in
          let no : q.no ≡ m = row-has m s.rows q e in
          listed_as q (is.lowest k q below there (subst (λ (n : ℕ). row_at s.rows n ≡ Some q) (sym no) e)
          (subst (λ (n : ℕ). n < found.0.row) (sym no) lt) (leaving (token_of q)));
    }

    by : (listed : Option Alive) (f : Finding) → listed_of all found.0 ≡ listed → f ≡ finding_of (listed_of all found.0) → HasFound o found.0 f
    by None f e is_f = subst (HasFound o found.0) (sym (is_f ∙ ap finding_of e)) (record {
      row = row_first;
      absent = ap (shown_of (leaving found.0)) e;
    })
    by (Some a) f e is_f = subst (HasFound o found.0) (sym (is_f ∙ ap finding_of e)) (record {
      row = row_first;
      listed = living_of (leaving found.0) a;
      differs = ap (shown_of (leaving found.0)) e;
    })

  pub stranger_found : (a : Alive) → IsLowest all s.rows (length s.rows) None → IsFirstStranger s all a → HasFound o a.token Stranger
  stranger_found a rows is = record {
    rows = λ n r e. all_rows n r e;
    before = take is.place all;
    it = a;
    behind = drop (suc is.place) all;
    list = parted all is.place a is.there;
    its = refl;
    strange = is.strange;
    first = λ k d lt. is.first k (get_or (take is.place all) k d) (short all is.place k lt) (taken all is.place k d lt);
  } where
    all_rows : (n : ℕ) (r : Row) → row_at s.rows n ≡ Some r → IsListed o r
    all_rows n r e = let (m, lt, there) = row_place s.rows n r e in
        let own : row_at s.rows r.no ≡ Some r = subst (λ (k : ℕ). row_at s.rows k ≡ Some r) (sym (row-has n s.rows r e)) e in
        listed_as r (rows.none refl m r lt there own (leaving (token_of r)))
