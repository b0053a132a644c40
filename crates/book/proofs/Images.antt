-- A book's state is one that changes made of the empty one, and each of its rows may be kept.
use Rattle.std.proofs.Common.{List, [], inl, inr, refl, subst, sym, ap, ◌∙◌, ◌++◌, ◌∷◌, ◌≡◌, ℕ}
use Rattle.std.proofs.lemmas.List.Elements.{Contains-append_cases}
use Rattle.std.specs.Prelude.{Contains, Option, map}
use Rattle.provider.specs.Cloud.{Cloud}
use Rattle.row_table.specs.declared.row.Row.{Row}
use Rattle.core_state.specs.Applies.{AllApply}
use Rattle.core_state.specs.Changes.{applied, apply}
use Rattle.core_state.specs.State.{StateData}
use Rattle.core_state.specs.declared.change.Change.{Change}
use Rattle.core_state.specs.declared.change.Change.TheVariants as change_to
use Rattle.core_state.specs.declared.entry.Entry.{Entry}
use Rattle.step_relation.specs.Images.{AreKeepable, HasKeepableRows, IsKeepable, IsMade, IsInRange, IsRead}
use Rattle.step_relation.specs.Laws.{opening_at}
use Rattle.step_relation.specs.Opening.{Opening}
use Rattle.step_relation.specs.Runs.{Run, begins, goes_on}
use Rattle.step_relation.specs.Linked.{Links}
use Rattle.step_relation.specs.Steps.{engines_from, past_engines, restart_changes}
use Rattle.history_laws.proofs.tables.Frame.{applied-append}
use Rattle.history_laws.proofs.tables.Rows.{row_cut, row_put}
use Rattle.next_laws.proofs.Listings.{cons_cases, in_head, in_tail}
use Rattle.workable_laws.proofs.Applied.{restart_apply, steps_apply}
use Rattle.workable_laws.proofs.Applying.{apply-append, mapped}
use Rattle.workable_laws.proofs.Keepable.{steps_are_keepable}
use Rattle.workable_laws.proofs.Runs.{runs_stay}
use Rattle.workable_laws.specs.Admitted.{IsAdmitted, restarted}
use Rattle.book.specs.Keeping.{IsStorable}
use Rattle.book.specs.Kept.{IsKept, registries}
use Rattle.book.specs.declared.halting.Halt.{Halt}

-- an image that changes made, with rows that may be kept
pub record IsWritten (s : StateData) : Type 0 where
  pub made : IsMade s
  pub rows : HasKeepableRows s

made_on : (s : StateData) (cs : List Change) → IsMade s → AllApply cs s → IsMade (applied cs s)
made_on s cs it apply_ = record {
  written = it.written ++ cs;
  applies = apply-append it.written cs _ it.applies (subst (AllApply cs) it.replayed apply_);
  replayed = ap (applied cs) it.replayed ∙ sym (applied-append it.written cs _);
}

row_on : (c : Change) (s : StateData) → ((r : Row) → c ≡ change_to.PutRow r → IsKeepable r) → HasKeepableRows s
    → HasKeepableRows (apply c s)
row_on (change_to.PutRow r) s new was n q at = elim (row_put r s.rows at) [
  | inl here ↦ subst IsKeepable here.1 (new r refl)
  | inr there ↦ was n q there.1
]
row_on (change_to.DropRow m) s new was n q at = was n q (row_cut m s.rows at).1
row_on (change_to.PutStack st) s new was n q at = was n q at
row_on (change_to.DropStack name) s new was n q at = was n q at
row_on (change_to.PutGraph name g) s new was n q at = was n q at
row_on (change_to.PutPoint p) s new was n q at = was n q at
row_on (change_to.Send l) s new was n q at = was n q at
row_on (change_to.Drop m) s new was n q at = was n q at
row_on (change_to.PutJob j) s new was n q at = was n q at
row_on (change_to.EndJob e) s new was n q at = was n q at
row_on (change_to.Enlist e) s new was n q at = was n q at
row_on (change_to.Stop e) s new was n q at = was n q at
row_on (change_to.Numbers next) s new was n q at = was n q at
row_on (change_to.PutPast p) s new was n q at = was n q at
row_on (change_to.Release t) s new was n q at = was n q at

rows_on : (cs : List Change) (s : StateData) → AreKeepable cs → HasKeepableRows s → HasKeepableRows (applied cs s)
rows_on [] s new was = was
rows_on (c ∷ cs) s new was = rows_on cs (apply c s) (λ r among. new r (in_tail cs c (change_to.PutRow r) among))
    (row_on c s (λ r is. new r (subst (λ (x : Change). Contains (c ∷ cs) x) is (in_head cs c))) was)

pub written_on : (s : StateData) (cs : List Change) → IsWritten s → IsStorable s cs → IsWritten (applied cs s)
written_on s cs it storable = record {
  made = made_on s cs it.made storable.applies;
  rows = rows_on cs s storable.keepable it.rows;
}

-- what every run from an admitted image has
module _ (o : Opening) (count : ℕ) (admitted : IsAdmitted o) where
  pub run_written : (s : StateData) (h : List Entry) → Run registries (restarted o count).state s h
      → IsWritten (restarted o count).state → IsWritten s
  run_written s h (begins _ _ is none) first = subst IsWritten (sym is) first
  run_written s h (goes_on judges mid _ cs before after _ run it among tied once is all) first =
      let w = runs_stay registries o count mid before admitted run in
      subst IsWritten (sym is)
      (written_on mid cs (run_written mid before run first) (record {
        applies = steps_apply (restarted o count) before mid cs after w it;
        keepable = steps_are_keepable (restarted o count) before mid cs after w it;
      }))

-- all engines stop, and others are enlisted: no row is written
restart_keepable : (s : StateData) (count : ℕ) → AreKeepable (restart_changes s count)
restart_keepable s count r among = elim (cons_cases (map change_to.Stop s.live ++ map change_to.Enlist
    (engines_from s.next.engine count)) (change_to.Numbers (past_engines s.next count)) (change_to.PutRow r) among) [
      | inl is ↦ cc
      | inr later ↦ elim (Contains-append_cases (map change_to.Stop s.live)
          (map change_to.Enlist (engines_from s.next.engine count)) (change_to.PutRow r) later) [
            | inl stop ↦ let (e, at, is) = mapped change_to.Stop s.live (change_to.PutRow r) stop in cc
            | inr enlist ↦ let (e, at, is) = mapped change_to.Enlist (engines_from s.next.engine count) (change_to.PutRow r)
                enlist in cc
          ]
    ]

pub restart_storable : (image : StateData) → Links image → (count : ℕ) → IsStorable image (restart_changes image count)
restart_storable image links count = record {
  applies = restart_apply image count links.numbered.live links.numbered.once;
  keepable = restart_keepable image count;
}

pub image_rows : (image : StateData) → IsInRange image → IsRead image → HasKeepableRows image
image_rows image range read n r at = record { key = range.keys n r at; act = read.acts n r at }

-- so is a book's state
module _ (first : StateData) (origin : Cloud) (s : StateData) (h : List Entry) (c : Cloud) (halt : Option Halt)
    (kept : IsKept first origin s h c halt) where
  image_written : IsWritten kept.image
  image_written = record {
    made = kept.opened.made;
    rows = image_rows kept.image kept.opened.range kept.opened.admitted.read;
  }

  first_written : IsWritten (restarted (opening_at kept.image origin) kept.count).state
  first_written = written_on kept.image (restart_changes kept.image kept.count) image_written
      (restart_storable kept.image kept.opened.admitted.tied.links kept.count)

  pub book_written : IsWritten s
  book_written = run_written (opening_at kept.image origin) kept.count kept.opened.admitted s h
      (subst (λ (x : StateData). Run registries x s h) kept.opened.opens kept.run) first_written
