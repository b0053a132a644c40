-- How the index by row follows the jobs.
use Rattle.std.proofs.Common.{◌≡◌, ◌≢◌, ◌<◌, ◌≤◌, ◌+◌, ◌-◌, ◌∙◌, ℕ, Bool, List, [], ◌∷◌, ◌++◌, length, map, get_or, set, insert, remove, refl, sym, ap, subst, arith}
use Rattle.std.specs.Ordering.{nat_cmp}
use Rattle.std.specs.Cmp.{nat_cmp_total}
use Rattle.std.specs.Cmp.Lexicographic.{nat_list_cmp_total}
use Rattle.std.proofs.lemmas.List.{length-map, length_push, get_or-map, get_or_default, map-set}
use Rattle.std.proofs.lemmas.Map.Lookups.{exact_unsigned, exact_bytes, exact_pairs}
use Rattle.keyed_table.specs.Orders.{AreApart, IsSorting, IsOrder, IsOrderBut, IsStart, closed}
use Rattle.keyed_table.specs.Sortings.{text_cmp}
use Rattle.keyed_table.proofs.Orders.{left_out, written, pushed, dropped, entered}
use Rattle.keyed_table.proofs.Sortings.{pair_sorting, pair_total}
use Rattle.keyed_table.proofs.Tables.{map-push, map-remove, entry_there}
use Rattle.mail_table.specs.declared.mail.Job.{Job}
use Rattle.mail_table.specs.Mails.{job_key}
use Rattle.mail_table.specs.ByRow.{row_of, row_key, row_cmp, row_same, row_below}

pub row_sorting : IsSorting row_same row_below
row_sorting = pair_sorting row_cmp nat_cmp (pair_total nat_cmp text_cmp nat_cmp_total nat_list_cmp_total) (exact_pairs nat_cmp text_cmp exact_unsigned exact_bytes) nat_cmp_total exact_unsigned

as_keys : (out : ℕ) (keys keys' : List ((ℕ × List ℕ) × ℕ)) (places : List ℕ) → keys ≡ keys' → IsOrderBut row_below out keys places → IsOrderBut row_below out keys' places
as_keys out keys keys' places e o = subst (λ ks. IsOrderBut row_below out ks places) e o

-- a job more has no entry yet
pub job_pushed : (jobs jobs' : List Job) (places : List ℕ) (j : Job) (place : ℕ) → jobs' ≡ jobs ++ j ∷ [] → place ≡ length jobs → IsOrder row_below (map row_key jobs) places
    → IsOrderBut row_below place (map row_key jobs') places
job_pushed jobs jobs' places j place e at o =
    as_keys place _ _ places (sym (ap (map row_key) e ∙ map-push row_key jobs j))
    (subst (λ n. IsOrderBut row_below n (map row_key jobs ++ row_key j ∷ []) places) (length-map jobs row_key ∙ sym at) (pushed row_same row_below row_sorting (map row_key jobs) places (row_key j) o))

-- a job that has no entry may be any
pub job_written : (jobs jobs' : List Job) (places : List ℕ) (j : Job) (place : ℕ) → jobs' ≡ set jobs place j → IsOrderBut row_below place (map row_key jobs) places
    → IsOrderBut row_below place (map row_key jobs') places
job_written jobs jobs' places j place e o =
    as_keys place _ _ places (sym (ap (map row_key) e ∙ map-set row_key jobs place j)) (written row_same row_below row_sorting place (map row_key jobs) places (row_key j) o)

-- a job that has no entry goes
pub job_dropped : (jobs jobs' : List Job) (places places' : List ℕ) (place : ℕ) → jobs' ≡ remove jobs place → places' ≡ map (closed place) places → place < length jobs
    → IsOrderBut row_below place (map row_key jobs) places → IsOrder row_below (map row_key jobs') places'
job_dropped jobs jobs' places places' place e f l o =
    subst (IsOrder row_below (map row_key jobs')) (sym f) (subst (λ ks. IsOrder row_below ks (map (closed place) places)) (sym (ap (map row_key) e ∙ map-remove row_key jobs place))
    (dropped row_same row_below row_sorting place (map row_key jobs) places (omega (arith, l, length-map jobs row_key)) o))

-- a job gets its entry
pub job_entered : (jobs : List Job) (places places' : List ℕ) (place at : ℕ) (j : Job) → places' ≡ insert places at place → place < length jobs → j ≡ get_or jobs place j
    → AreApart (map job_key jobs) → IsStart (λ k. row_below k (row_key j)) (map row_key jobs) places at → IsOrderBut row_below place (map row_key jobs) places
    → IsOrder row_below (map row_key jobs) places'
job_entered jobs places places' place at j f l read apart b o =
    subst (IsOrder row_below (map row_key jobs)) (sym f) (entered row_same row_below row_sorting place (map row_key jobs) places (row_key j) at (omega (arith, l, n))
    (λ d. get_or-map row_key jobs place j d l ∙ ap row_key (sym read)) other b o)
  where
    n : length (map row_key jobs) ≡ length jobs
    n = length-map jobs row_key

    m : length (map job_key jobs) ≡ length jobs
    m = length-map jobs job_key

    other : (p : ℕ) (d : (ℕ × List ℕ) × ℕ) → p < length (map row_key jobs) → p ≢ place → get_or (map row_key jobs) p d ≢ row_key j
    other p d lp ne e = ne (apart p place 0 (omega (arith, lp, n, m)) (omega (arith, l, m))
        (get_or-map job_key jobs p j 0 (omega (arith, lp, n)) ∙ ap (λ k. k.1) (sym (get_or-map row_key jobs p j d (omega (arith, lp, n))) ∙ e)
        ∙ ap job_key read ∙ sym (get_or-map job_key jobs place j 0 l)))

-- where a job's entry is
pub job_entry : (jobs : List Job) (places : List ℕ) (place at : ℕ) (j : Job) → place < length jobs → j ≡ get_or jobs place j → IsOrder row_below (map row_key jobs) places
    → IsStart (λ k. row_below k (row_key j)) (map row_key jobs) places at → (at < length places) × (get_or places at 0 ≡ place)
job_entry jobs places place at j l read o b =
    entry_there row_key row_same row_below row_sorting jobs places o place at (row_key j) jobs j refl l read refl b

-- and without it
pub job_left : (jobs : List Job) (places places' : List ℕ) (place at : ℕ) (j : Job) → places' ≡ remove places at → place < length jobs → j ≡ get_or jobs place j
    → IsOrder row_below (map row_key jobs) places → IsStart (λ k. row_below k (row_key j)) (map row_key jobs) places at → IsOrderBut row_below place (map row_key jobs) places'
job_left jobs places places' place at j f l read o b =
    let (lt, is) = job_entry jobs places place at j l read o b in
    subst (λ n. IsOrderBut row_below n (map row_key jobs) places') is (subst (IsOrderBut row_below (get_or places at 0) (map row_key jobs)) (sym f)
    (left_out row_same row_below row_sorting (map row_key jobs) places o at lt))
