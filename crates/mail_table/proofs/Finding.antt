-- Look-ups by number, and the lowest letter and the lowest holder as a search goes on.
use Rattle.std.proofs.Common.{Bor, option_map, ◌≡◌, ◌<◌, ◌≤◌, ◌+◌, ◌⊎◌, ◌↔◌, ◌∙◌, ℕ, zero, suc, Bool, true, false, true≢false, cond, List, [], ◌∷◌, Option, Some, None, IsSome, IsNone, IfSome, length, get_or, nat_eq, nat_lt, refl, sym, ap, subst, inl, inr, ⊎_elim, arith, ltb-true, ltb-false}
use Rattle.std.proofs.lemmas.List.{get_or_default}
use Rattle.heat_plan.specs.Tables.{at}
use Rattle.keyed_table.proofs.Numbers.{compared}
use Rattle.keyed_table.proofs.Sortings.{number_sorting}
use Rattle.keyed_table.proofs.Tables.{at-among}
use Rattle.mail_table.specs.declared.mail.Letter.{Letter}
use Rattle.mail_table.specs.declared.mail.Job.{Job}
use Rattle.mail_table.specs.Mails.{letter_at, letter_key, job_at, job_key}
use Rattle.mail_table.specs.Mail.{Mail, with_taken, without_letter}
use Rattle.mail_table.specs.Holders.{IsFirst, IsLowestNo, IsAt, IsHolder, lesser}

-- a look-up gives a record of the number
pub at-has : {A : Type 0} (key : A → ℕ) (k : ℕ) (xs : List A) (y : A) → at nat_eq key xs k ≡ Some y → nat_eq (key y) k ≡ true
unfolding at
at-has key k [] y h = cc
at-has {A = A} key k (x ∷ xs) y h = by (nat_eq (key x) k) refl h (at-has key k xs y) where
  by : (b : Bool) → nat_eq (key x) k ≡ b → cond b (Some x) (at nat_eq key xs k) ≡ Some y → (at nat_eq key xs k ≡ Some y → nat_eq (key y) k ≡ true) → nat_eq (key y) k ≡ true
  by true is e rest = let f : x ≡ y = cc in subst (λ z. nat_eq (key z) k ≡ true) f is
  by false is e rest = rest e

-- a record of the list is found under its number, it or one before it
pub at-some : {A : Type 0} (key : A → ℕ) (xs : List A) (q : ℕ) (d : A) → q < length xs → IsSome (at nat_eq key xs (key (get_or xs q d)))
unfolding at
at-some key [] q d l = absurd (omega arith)
at-some {A = A} key (x ∷ xs) zero d l = subst (λ b. IsSome (cond b (Some x) (at nat_eq key xs (key x)))) (sym (number_sorting.itself (key x))) refl
at-some {A = A} key (x ∷ xs) (suc q) d l = by (nat_eq (key x) (key (get_or xs q d))) (at-some key xs q d (omega arith)) where
  by : (b : Bool) → IsSome (at nat_eq key xs (key (get_or xs q d))) → IsSome (cond b (Some x) (at nat_eq key xs (key (get_or xs q d))))
  by true h = refl
  by false h = h

-- the lowest number of the first letters
abbrev pub LowestSoFar : List Letter → ℕ → Option ℕ → Type 0
LowestSoFar letters i None = i ≡ 0
LowestSoFar letters i (Some b) = IsSome (letter_at letters b) × ((k : ℕ) (d : Letter) → k < i → b ≤ (get_or letters k d).no)

pub lowest_more : (letters : List Letter) (i : ℕ) (best : Option ℕ) (l : Letter) → i < length letters → l ≡ get_or letters i l → LowestSoFar letters i best
    → LowestSoFar letters (i + 1) (Some (lesser best l.no))
lowest_more letters i None l lt read h = (
  subst (λ n. IsSome (letter_at letters n)) (sym (ap letter_key read)) (at-some letter_key letters i l lt),
  λ k d less. let same : i ≡ k = omega (arith, less, h) in omega (arith, ap letter_key (read ∙ get_or_default letters i l d lt ∙ ap (λ n. get_or letters n d) same)),
)
lowest_more letters i (Some b) l lt read h = by (nat_lt b l.no) refl where
  mine : IsSome (letter_at letters l.no)
  mine = subst (λ n. IsSome (letter_at letters n)) (sym (ap letter_key read)) (at-some letter_key letters i l lt)

  here : (k : ℕ) (d : Letter) → k ≡ i → (get_or letters k d).no ≡ l.no
  here k d e = ap letter_key (ap (λ n. get_or letters n d) e ∙ get_or_default letters i d l lt ∙ sym read)

  by : (t : Bool) → nat_lt b l.no ≡ t → LowestSoFar letters (i + 1) (Some (cond t b l.no))
  by true e = (h.0, λ k d less. ⊎_elim (λ before. h.1 k d before) (λ rest. ⊎_elim (λ same. omega (arith, here k d same, ltb-true b l.no e)) (λ more. absurd (omega (arith, less, more))) rest) (compared k i))
  by false e = (mine, λ k d less. ⊎_elim (λ before. omega (arith, h.1 k d before, ltb-false b l.no e)) (λ rest. ⊎_elim (λ same. omega (arith, here k d same)) (λ more. absurd (omega (arith, less, more))) rest) (compared k i))

pub lowest_whole : (letters : List Letter) (n : ℕ) (best : Option ℕ) → n ≡ length letters → LowestSoFar letters n best → IsLowestNo letters best
lowest_whole [] n None e h = refl
lowest_whole (l ∷ ls) n None e h = absurd (omega (arith, e, h))
lowest_whole letters n (Some b) e h = (h.0, λ m is. by m (letter_at letters m) refl is) where
  by : (m : ℕ) (o : Option Letter) → letter_at letters m ≡ o → IsSome o → b ≤ m
  by m None f is = absurd (true≢false (sym is))
  by m (Some l) f is =
      let (q, lq, there) = at-among nat_eq letter_key m letters l f in
      omega (arith, h.1 q l (omega (arith, lq, e)), ap letter_key (there l), number_sorting.equal l.no m (at-has letter_key m letters l f))

-- the letter of the lowest number is the first
pub first_from : (letters : List Letter) (n : ℕ) (l : Letter) → IsLowestNo letters (Some n) → letter_at letters n ≡ Some l → IsFirst letters (Some l)
first_from letters n l low its =
    let is : l.no ≡ n = number_sorting.equal l.no n (at-has letter_key n letters l its) in
    (subst (λ m. letter_at letters m ≡ Some l) (sym is) its, λ m other f. omega (arith, is, low.1 m (subst (λ o. IsSome o) (sym f) refl)))

-- what a look-up of the lowest number gives
pub first_found : (letters : List Letter) (n : ℕ) (o : Option Letter) → IsLowestNo letters (Some n) → o ≡ letter_at letters n → IsFirst letters o
first_found letters n None low e = absurd (true≢false (sym (subst (λ p. IsSome p) (sym e) low.0)))
first_found letters n (Some l) low e = first_from letters n l low (sym e)

-- and what is left without it
pub taken_found : (m : Mail) (n : ℕ) (o : Option Letter) → IsLowestNo m.letters (Some n) → o ≡ letter_at m.letters n → with_taken o m ≡ without_letter n m
taken_found m n None low e = absurd (true≢false (sym (subst (λ p. IsSome p) (sym e) low.0)))
taken_found m n (Some l) low e = ap (λ k. without_letter k m) (number_sorting.equal l.no n (at-has letter_key n m.letters l (sym e)))

-- the first of a table is the first letter
pub first_told : (letters : List Letter) (o : Option (Bor Letter)) → (IsNone o → letters ≡ []) → IfSome o (λ l. letter_at letters l.now.no ≡ Some l.now)
    → IfSome o (λ l. (k : ℕ) (x : Letter) → letter_at letters k ≡ Some x → nat_lt x.no l.now.no ≡ false) → IsFirst letters (option_map (λ l. l.now) o)
first_told letters None none there lowest = none refl
first_told letters (Some l) none there lowest =
    (there, λ n other f. omega (arith, number_sorting.equal other.no n (at-has letter_key n letters other f), ltb-false other.no l.now.no (lowest n other f)))

-- and so is what is taken under its number
pub first_taken : (letters : List Letter) (l : Letter) (o : Option Letter) → letter_at letters l.no ≡ Some l → ((k : ℕ) (x : Letter) → letter_at letters k ≡ Some x → nat_lt x.no l.no ≡ false)
    → o ≡ letter_at letters l.no → IsFirst letters o × (o ≡ Some l)
first_taken letters l o there lowest e = (
  subst (IsFirst letters) (sym (e ∙ there))
      (there, λ n other f. omega (arith, number_sorting.equal other.no n (at-has letter_key n letters other f), ltb-false other.no l.no (lowest n other f))),
  e ∙ there,
)

-- the lowest engine at a row among the first jobs
abbrev pub HolderSoFar : List Job → List ℕ → ℕ → ℕ → Option ℕ → Type 0
HolderSoFar jobs stack row i None = (k : ℕ) (d : Job) → k < i → ¬ IsAt jobs stack row (get_or jobs k d).engine
HolderSoFar jobs stack row i (Some b) = IsAt jobs stack row b × ((k : ℕ) (d : Job) → k < i → IsAt jobs stack row (get_or jobs k d).engine → b ≤ (get_or jobs k d).engine)

module _ (jobs : List Job) (stack : List ℕ) (row : ℕ) where
  reads : (i k : ℕ) (d j : Job) → i < length jobs → j ≡ get_or jobs i j → k ≡ i → (get_or jobs k d).engine ≡ j.engine
  reads i k d j lt read e = ap job_key (ap (λ n. get_or jobs n d) e ∙ get_or_default jobs i d j lt ∙ sym read)

  pub holder_hit : (i : ℕ) (best : Option ℕ) (j : Job) → i < length jobs → j ≡ get_or jobs i j → IsAt jobs stack row j.engine → HolderSoFar jobs stack row i best
      → HolderSoFar jobs stack row (i + 1) (Some (lesser best j.engine))
  holder_hit i None j lt read hit h = (
    hit,
    λ k d less is. ⊎_elim (λ before. absurd (h k d before is))
        (λ rest. ⊎_elim (λ same. omega (arith, reads i k d j lt read same)) (λ more. absurd (omega (arith, less, more))) rest) (compared k i),
  )
  holder_hit i (Some b) j lt read hit h = by (nat_lt b j.engine) refl where
    by : (t : Bool) → nat_lt b j.engine ≡ t → HolderSoFar jobs stack row (i + 1) (Some (cond t b j.engine))
    by true e = (
      h.0,
      λ k d less is. ⊎_elim (λ before. h.1 k d before is)
          (λ rest. ⊎_elim (λ same. omega (arith, reads i k d j lt read same, ltb-true b j.engine e)) (λ more. absurd (omega (arith, less, more))) rest) (compared k i),
    )
    by false e = (
      hit,
      λ k d less is. ⊎_elim (λ before. omega (arith, h.1 k d before is, ltb-false b j.engine e))
          (λ rest. ⊎_elim (λ same. omega (arith, reads i k d j lt read same)) (λ more. absurd (omega (arith, less, more))) rest) (compared k i),
    )

  pub holder_miss : (i : ℕ) (best : Option ℕ) (j : Job) → i < length jobs → j ≡ get_or jobs i j → ¬ IsAt jobs stack row j.engine → HolderSoFar jobs stack row i best
      → HolderSoFar jobs stack row (i + 1) best
  holder_miss i None j lt read miss h = λ k d less is. ⊎_elim (λ before. h k d before is)
      (λ rest. ⊎_elim (λ same. miss (subst (IsAt jobs stack row) (reads i k d j lt read same) is)) (λ more. omega (arith, less, more)) rest) (compared k i)
  holder_miss i (Some b) j lt read miss h = (
    h.0,
    λ k d less is. ⊎_elim (λ before. h.1 k d before is)
        (λ rest. ⊎_elim (λ same. absurd (miss (subst (IsAt jobs stack row) (reads i k d j lt read same) is))) (λ more. absurd (omega (arith, less, more))) rest) (compared k i),
  )

  pub holder_whole : (n : ℕ) (best : Option ℕ) → n ≡ length jobs → HolderSoFar jobs stack row n best → IsHolder jobs stack row best
  holder_whole n None e h = λ f is. let (q, lq, there) = at-among nat_eq job_key f jobs is.job is.its in
      h q is.job (omega (arith, lq, e)) (subst (IsAt jobs stack row) (sym (ap job_key (there is.job) ∙ number_sorting.equal is.job.engine f (at-has job_key f jobs is.job is.its))) is)
  holder_whole n (Some b) e h = (
    h.0,
    λ f is. let (q, lq, there) = at-among nat_eq job_key f jobs is.job is.its in
        let own : (get_or jobs q is.job).engine ≡ f = ap job_key (there is.job) ∙ number_sorting.equal is.job.engine f (at-has job_key f jobs is.job is.its) in
        omega (arith, own, h.1 q is.job (omega (arith, lq, e)) (subst (IsAt jobs stack row) (sym own) is)),
  )
