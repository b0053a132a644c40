-- In what changes made of the empty state no two records of a table have one key.
use Rattle.std.proofs.Common.{inl, inr, refl, subst, sym, ℕ}
use Rattle.std.specs.Prelude.{Bool, Contains, Decides, List, [], cond, filter, map, nat_eq, not, false, true, ◌++◌, ◌∷◌}
use Rattle.std.specs.Prelude.{◌≡◌, ◌⊎◌}
use Rattle.std.specs.Str.{bytes_eq}
use Rattle.std.proofs.lemmas.Bool.Decides.{Decides-eqb}
use Rattle.std.proofs.lemmas.Slice.Eq.{bytes_eq-Decides}
use Rattle.heat_plan.specs.Tables.{at, cut, put}
use Rattle.next_laws.proofs.Listings.{cons_cases, in_head, in_tail, no_member}
use Rattle.history_laws.proofs.tables.Tables.{cases}
use Rattle.row_table.specs.Rows.{row_key}
use Rattle.mail_table.specs.Mails.{job_key, letter_key}
use Rattle.core_state.specs.Changes.{applied, apply}
use Rattle.core_state.specs.State.{StateData, stack_key}
use Rattle.core_state.specs.declared.change.Change.{Change}
use Rattle.core_state.specs.declared.change.Change.TheVariants as change_to
use Rattle.step_relation.specs.Images.{IsMade}
use Rattle.step_relation.specs.Opening.{bare}
use Rattle.bound_laws.specs.Counts.{AreOnce}
use Rattle.driver.specs.Keyed.{AreKeyed}

module _ {K A : Type 0} (same : K → K → Bool) (decides : (x y : K) → Decides (same x y) (x ≡ y)) (key : A → K) where
  put_has : (x : A) (xs : List A) (k : K) → Contains (map key (put same key x xs)) k
      → Contains (map key xs) k ⊎ (k ≡ key x)
  unfolding put
  put_has x [] k c = elim (cons_cases [] (key x) k c) [ inl is ↦ inr is | inr none ↦ absurd (no_member k none) ]
  put_has x (y ∷ ys) k c = by (put_has x ys k) (same (key y) (key x)) c where
    by : (Contains (map key (put same key x ys)) k → Contains (map key ys) k ⊎ (k ≡ key x)) → (b : Bool)
        → Contains (map key (cond b (x ∷ ys) (y ∷ put same key x ys))) k → Contains (key y ∷ map key ys) k ⊎ (k ≡ key x)
    by rest true there = elim (cons_cases (map key ys) (key x) k there)
        [ inl here ↦ inr here | inr later ↦ inl (in_tail (map key ys) (key y) k later) ]
    by rest false there = elim (cons_cases (map key (put same key x ys)) (key y) k there) [
      | inl here ↦ inl (subst (Contains (key y ∷ map key ys)) (sym here) (in_head (map key ys) (key y)))
      | inr later ↦ elim (rest later) [ inl was ↦ inl (in_tail (map key ys) (key y) k was) | inr new ↦ inr new ]
    ]

  pub put_once : (x : A) (xs : List A) → AreOnce (map key xs) → AreOnce (map key (put same key x xs))
  unfolding put
  put_once x [] once = ((λ c. no_member (key x) c), tt)
  put_once x (y ∷ ys) once = by (put_once x ys once.1) (same (key y) (key x)) refl where
    by : AreOnce (map key (put same key x ys)) → (b : Bool) → same (key y) (key x) ≡ b
        → AreOnce (map key (cond b (x ∷ ys) (y ∷ put same key x ys)))
    by rest true is = ((λ c. once.0 (subst (Contains (map key ys)) (sym ((decides (key y) (key x)).0 is)) c)), once.1)
    by rest false is = (
      (λ c. elim (put_has x ys (key y) c) [
        | inl was ↦ once.0 was
        | inr new ↦ (let t : same (key y) (key x) ≡ true = (decides (key y) (key x)).1 new in cc)
      ]),
      rest,
    )

  cut_has : (c k : K) (xs : List A) → Contains (map key (cut same key c xs)) k → Contains (map key xs) k
  unfolding cut
  cut_has c k [] there = there
  cut_has c k (x ∷ xs) there = by (cut_has c k xs) (same (key x) c) there where
    by : (Contains (map key (cut same key c xs)) k → Contains (map key xs) k) → (b : Bool)
        → Contains (map key (cond (not b) (x ∷ cut same key c xs) (cut same key c xs))) k
        → Contains (key x ∷ map key xs) k
    by rest true later = in_tail (map key xs) (key x) k (rest later)
    by rest false either = elim (cons_cases (map key (cut same key c xs)) (key x) k either) [
      | inl here ↦ subst (Contains (key x ∷ map key xs)) (sym here) (in_head (map key xs) (key x))
      | inr later ↦ in_tail (map key xs) (key x) k (rest later)
    ]

  pub cut_once : (c : K) (xs : List A) → AreOnce (map key xs) → AreOnce (map key (cut same key c xs))
  unfolding cut
  cut_once c [] once = once
  cut_once c (x ∷ xs) once = by (cut_once c xs once.1) (same (key x) c) where
    by : AreOnce (map key (cut same key c xs)) → (b : Bool)
        → AreOnce (map key (cond (not b) (x ∷ cut same key c xs) (cut same key c xs)))
    by rest true = rest
    by rest false = ((λ there. once.0 (cut_has c (key x) xs there)), rest)

apply_keyed : (c : Change) (s : StateData) → AreKeyed s → AreKeyed (apply c s)
apply_keyed (change_to.PutStack x) s k = record {
  stacks = put_once bytes_eq bytes_eq-Decides stack_key x s.stacks k.stacks;
  rows = k.rows;
  letters = k.letters;
  jobs = k.jobs;
}
apply_keyed (change_to.DropStack name) s k = record {
  stacks = cut_once bytes_eq bytes_eq-Decides stack_key name s.stacks k.stacks;
  rows = k.rows;
  letters = k.letters;
  jobs = k.jobs;
}
apply_keyed (change_to.PutRow x) s k = record {
  stacks = k.stacks;
  rows = put_once nat_eq Decides-eqb row_key x s.rows k.rows;
  letters = k.letters;
  jobs = k.jobs;
}
apply_keyed (change_to.DropRow n) s k = record {
  stacks = k.stacks;
  rows = cut_once nat_eq Decides-eqb row_key n s.rows k.rows;
  letters = k.letters;
  jobs = k.jobs;
}
apply_keyed (change_to.Send x) s k = record {
  stacks = k.stacks;
  rows = k.rows;
  letters = put_once nat_eq Decides-eqb letter_key x s.letters k.letters;
  jobs = k.jobs;
}
apply_keyed (change_to.Drop n) s k = record {
  stacks = k.stacks;
  rows = k.rows;
  letters = cut_once nat_eq Decides-eqb letter_key n s.letters k.letters;
  jobs = k.jobs;
}
apply_keyed (change_to.PutJob x) s k = record {
  stacks = k.stacks;
  rows = k.rows;
  letters = k.letters;
  jobs = put_once nat_eq Decides-eqb job_key x s.jobs k.jobs;
}
apply_keyed (change_to.EndJob e) s k = record {
  stacks = k.stacks;
  rows = k.rows;
  letters = k.letters;
  jobs = cut_once nat_eq Decides-eqb job_key e s.jobs k.jobs;
}
apply_keyed (change_to.PutGraph name g) s k =
    record { stacks = k.stacks; rows = k.rows; letters = k.letters; jobs = k.jobs }
apply_keyed (change_to.PutPoint p) s k = record { stacks = k.stacks; rows = k.rows; letters = k.letters; jobs = k.jobs }
apply_keyed (change_to.Enlist e) s k = record { stacks = k.stacks; rows = k.rows; letters = k.letters; jobs = k.jobs }
apply_keyed (change_to.Stop e) s k = record { stacks = k.stacks; rows = k.rows; letters = k.letters; jobs = k.jobs }
apply_keyed (change_to.Numbers next) s k =
    record { stacks = k.stacks; rows = k.rows; letters = k.letters; jobs = k.jobs }
apply_keyed (change_to.PutPast p) s k = record { stacks = k.stacks; rows = k.rows; letters = k.letters; jobs = k.jobs }
apply_keyed (change_to.Release t) s k = record { stacks = k.stacks; rows = k.rows; letters = k.letters; jobs = k.jobs }

applied_keyed : (cs : List Change) (s : StateData) → AreKeyed s → AreKeyed (applied cs s)
applied_keyed [] s k = k
applied_keyed (c ∷ cs) s k = applied_keyed cs (apply c s) (apply_keyed c s k)

-- what changes made of the empty state
pub made_keyed : (s : StateData) → IsMade s → AreKeyed s
made_keyed s it = subst AreKeyed (sym it.replayed) (applied_keyed it.written bare
    (record { stacks = tt; rows = tt; letters = tt; jobs = tt }))
