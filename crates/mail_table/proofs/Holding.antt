-- Which engine the entries by row tell.
use Rattle.std.proofs.Common.{◌≡◌, ◌≢◌, ◌<◌, ◌≤◌, ◌⊎◌, ◌∙◌, ℕ, zero, suc, Bool, true, false, true≢false, cond, List, [], ◌∷◌, Option, Some, None, length, map, get_or, nat_eq, nat_lt, refl, sym, ap, subst, inl, inr, ⊎_elim, arith}
use Rattle.std.specs.Ordering.{nat_cmp, ordering_then, is_lt, is_eq, MatchOrdering}
use Rattle.std.specs.Cmp.{IsTotalOrder, tied_itself, nat_cmp_total, ranks}
use Rattle.std.specs.Cmp.Lexicographic.{nat_list_cmp_total}
use Rattle.std.specs.declared.cmp.Ordering.{Ordering}
use Rattle.std.specs.declared.cmp.Ordering.TheVariants.{Less, Equal, Greater}
use Rattle.std.proofs.lemmas.List.{length-map, get_or-map, get_or_default}
use Rattle.std.proofs.lemmas.Map.Lookups.{exact_unsigned, exact_bytes, exact_pairs}
use Rattle.keyed_table.specs.Orders.{AreApart, IsSorting, IsOrder, IsStart}
use Rattle.keyed_table.specs.Sortings.{text_cmp}
use Rattle.keyed_table.proofs.Numbers.{compared}
use Rattle.keyed_table.proofs.Sortings.{number_sorting, pair_total}
use Rattle.keyed_table.proofs.Tables.{at-among, at-own}
use Rattle.mail_table.proofs.Finding.{at-has}
use Rattle.mail_table.specs.declared.mail.Job.{Job}
use Rattle.mail_table.specs.Mails.{job_key, job_at}
use Rattle.mail_table.specs.Holders.{IsAt, IsHolder}
use Rattle.mail_table.specs.ByRow.{row_of, row_key, row_cmp, row_below}

row_total : IsTotalOrder row_cmp
row_total = pair_total nat_cmp text_cmp nat_cmp_total nat_list_cmp_total

-- a row and a stack that tie are one
row_tied : (a b : ℕ × List ℕ) → row_cmp a b ≡ Equal → a ≡ b
row_tied = exact_pairs nat_cmp text_cmp exact_unsigned exact_bytes

is_equal : (r : Ordering) → is_eq r ≡ true → r ≡ Equal
is_equal Less e = absurd (true≢false (sym e))
is_equal Equal e = refl
is_equal Greater e = absurd (true≢false (sym e))

less_than : (a b : ℕ) → is_lt (nat_cmp a b) ≡ true → a < b
less_than a b e = subst (λ r. MatchOrdering r (a < b) (a ≡ b) (b < a)) (is_less (nat_cmp a b) e) (ranks a b) where
  is_less : (r : Ordering) → is_lt r ≡ true → r ≡ Less
  is_less Less h = refl
  is_less Equal h = absurd (true≢false (sym h))
  is_less Greater h = absurd (true≢false (sym h))

-- in one group the engines decide
in_group : (g : ℕ × List ℕ) (a b : ℕ) → row_below (g, a) (g, b) ≡ is_lt (nat_cmp a b)
in_group g a b = ap (λ r. is_lt (ordering_then r (nat_cmp a b))) (tied_itself row_total g)

-- what isn't before a group's first key, and is before one of its keys, is of the group
squeezed : (g h : ℕ × List ℕ) (a b : ℕ) → row_below (g, a) (h, 0) ≡ false → row_below (g, a) (h, b) ≡ true → is_eq (row_cmp g h) ≡ true
squeezed g h a b = by (row_cmp g h) where
  by : (r : Ordering) → is_lt (ordering_then r (nat_cmp a 0)) ≡ false → is_lt (ordering_then r (nat_cmp a b)) ≡ true → is_eq r ≡ true
  by Less e f = absurd (true≢false e)
  by Equal e f = refl
  by Greater e f = absurd (true≢false (sym f))

module _ (jobs : List Job) (apart : AreApart (map job_key jobs)) (places : List ℕ) (o : IsOrder row_below (map row_key jobs) places)
    (row : ℕ) (stack : List ℕ) (start : ℕ) (b : IsStart (λ k. row_below k ((row, stack), 0)) (map row_key jobs) places start) where
  -- the entry of an engine at the row, from the start on
  record Entry (e : ℕ) : Type 0 where
    entry : ℕ
    within : entry < length places
    from : start ≤ entry
    job : Job
    read : (d : Job) → get_or jobs (get_or places entry 0) d ≡ job
    group : row_of job ≡ (row, stack)
    engine : job.engine ≡ e

  key_at : (i : ℕ) (d : Job) → i < length places → get_or (map row_key jobs) (get_or places i 0) (row_key d) ≡ row_key (get_or jobs (get_or places i 0) d)
  key_at i d l = get_or-map row_key jobs (get_or places i 0) d (row_key d) (omega (arith, (o.within i l).0, length-map jobs row_key))

  entry_of : (e : ℕ) → IsAt jobs stack row e → Entry e
  entry_of e is =
      let (q, lq, isq) = at-among nat_eq job_key e jobs is.job is.its in
      let (i, li, ei) = o.whole q (omega (arith, lq, length-map jobs row_key)) (λ f. omega (arith, f, lq, length-map jobs row_key)) in
      let group : row_of is.job ≡ (row, stack) = λ t. (is.at_row t, is.at_stack t) in
      let read : (d : Job) → get_or jobs (get_or places i 0) d ≡ is.job = λ d. ap (λ n. get_or jobs n d) ei ∙ isq d in
      record {
        entry = i;
        within = li;
        from = ⊎_elim (λ less. absurd (true≢false (
            sym (subst (λ k. row_below k ((row, stack), 0) ≡ true) (key_at i is.job li ∙ ap row_key (read is.job)) (b.before i (row_key is.job) less))
            ∙ ap (λ g. row_below (g, is.job.engine) ((row, stack), 0)) group ∙ in_group (row, stack) is.job.engine 0 ∙ never (nat_cmp is.job.engine 0) refl)))
            (λ le. ⊎_elim (λ same. omega (arith, same)) (λ more. omega (arith, more)) le) (compared i start);
        job = is.job;
        read = read;
        group = group;
        engine = number_sorting.equal is.job.engine e (at-has job_key e jobs is.job is.its);
      }
    where
      never : (r : Ordering) → nat_cmp is.job.engine 0 ≡ r → is_lt (nat_cmp is.job.engine 0) ≡ false
      never Less e = absurd (omega (arith, less_than is.job.engine 0 (ap is_lt e)))
      never Equal e = ap is_lt e
      never Greater e = ap is_lt e

  -- no entry from the start on
  pub none_past : length places ≤ start → (e : ℕ) → IsAt jobs stack row e → ⊥
  none_past le e is = let k = entry_of e is in omega (arith, le, k.within, k.from)

  module _ (lt : start < length places) (first : Job) (read : first ≡ get_or jobs (get_or places start 0) first) where
    first_key : get_or (map row_key jobs) (get_or places start 0) (row_key first) ≡ row_key first
    first_key = key_at start first lt ∙ ap row_key (sym read)

    first_place : get_or places start 0 < length jobs
    first_place = omega (arith, (o.within start lt).0, length-map jobs row_key)

    -- a later entry's key is above the first's
    later : (e : ℕ) (k : Entry e) → start < k.entry → row_below (row_key first) ((row, stack), k.job.engine) ≡ true
    later e k more =
        subst (λ x. row_below (row_key first) x ≡ true) (key_at k.entry first k.within ∙ ap row_key (k.read first) ∙ ap (λ g. (g, k.job.engine)) k.group)
        (subst (λ x. row_below x (get_or (map row_key jobs) (get_or places k.entry 0) (row_key first)) ≡ true) first_key (o.rises start k.entry (row_key first) more k.within))

    same_job : (e : ℕ) (k : Entry e) → k.entry ≡ start → first ≡ k.job
    same_job e k same = read ∙ ap (λ n. get_or jobs (get_or places n 0) first) (sym same) ∙ k.read first

    -- the first entry is of another row or stack
    pub none_there : is_eq (row_cmp (row_of first) (row, stack)) ≡ false → (e : ℕ) → IsAt jobs stack row e → ⊥
    none_there miss e is = let k = entry_of e is in ⊎_elim
        (λ less. omega (arith, less, k.from))
        (⊎_elim
        (λ same. true≢false (sym (ap (λ g. is_eq (row_cmp g (row, stack))) (ap row_of (same_job e k same) ∙ k.group) ∙ ap is_eq (tied_itself row_total (row, stack))) ∙ miss))
        (λ more. true≢false (sym (squeezed (row_of first) (row, stack) first.engine k.job.engine
        (subst (λ x. row_below x ((row, stack), 0) ≡ false) first_key (b.behind start (row_key first) (omega arith) lt)) (later e k more)) ∙ miss)))
        (compared k.entry start)

    -- it is of the row and the stack: its engine is the holder
    pub holds_there : is_eq (row_cmp (row_of first) (row, stack)) ≡ true → IsHolder jobs stack row (Some first.engine)
    holds_there hit =
        let group : row_of first ≡ (row, stack) = row_tied (row_of first) (row, stack) (is_equal _ hit) in (
          record {
            job = first;
            its = at-own nat_eq nat_lt number_sorting job_key jobs apart (get_or places start 0) first_place first read;
            at_stack = ap (λ g. g.1) group;
            at_row = ap (λ g. g.0) group;
          },
          λ f is. let k = entry_of f is in ⊎_elim
              (λ less. absurd (omega (arith, less, k.from)))
              (⊎_elim
              (λ same. omega (arith, ap (λ (j : Job). j.engine) (same_job f k same), k.engine))
              (λ more. omega (
                arith,
                k.engine,
                less_than first.engine k.job.engine
                    (sym (in_group (row, stack) first.engine k.job.engine) ∙ ap (λ g. row_below (g, first.engine) ((row, stack), k.job.engine)) (sym group) ∙ later f k more),
              )))
              (compared k.entry start),
        )
