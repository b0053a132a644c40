-- What each end of an opening leaves.
use Rattle.std.proofs.Common.{◌≡◌, ◌∙◌, ◌∷◌, ◌≤◌, ℕ, Bool, Err, List, Ok, Option, Some, None, ap, arith, false, inl, inr, refl, subst, sym, true}
use Rattle.std.specs.Prelude.{IsTrue, not}
use Rattle.core_state.specs.State.{StateData}
use Rattle.heat_disk.specs.Calls.{ReadsAlike}
use Rattle.heat_disk.specs.Halves.{Pair}
use Rattle.heat_disk.specs.Shown as disk
use Rattle.heat_disk.specs.Shown.{IsLawful, ShownDisk}
use Rattle.heat_disk.proofs.Moments.{goes_on, joined, started}
use Rattle.heat_value.specs.Counts.{Rose}
use Rattle.record_keeper.specs.Calls.{ComesOf, GoesOn, IsForeign, same, unknown}
use Rattle.record_keeper.specs.Shown.{Left, LeavesOnly, SameOpenings, StandsFor, at_rest}
use Rattle.record_keeper.specs.declared.open_fault.OpenFault.{OpenFault}
use Rattle.record_keeper.specs.declared.open_fault.OpenFault.TheVariants.{DiskFault, Foreign, Memory}
use Rattle.row_journal.specs.declared.fault.ReadFault.{ReadFault}
use Rattle.row_journal.specs.declared.fault.ReadFault.TheVariants as why
use Rattle.row_journal.specs.Ends as ends
use Rattle.row_journal.specs.Ends.{IsSealed, IsTidy}
use Rattle.row_journal.specs.Images.{ImageData, IsImage}
use Rattle.row_journal.specs.Mends.{Mended, Recovering}
use Rattle.row_journal.specs.Openings as journal
use Rattle.row_journal.specs.Openings.{Survives}
use Rattle.row_journal.specs.declared.place.Place.{Place}
use Rattle.row_journal.specs.Pending.{IsPending}
use Rattle.row_journal.proofs.Found.{image_same}
use Rattle.step_relation.specs.Images.{IsTied}
use Rattle.state_journal.specs.Faults.{open_fault}
use Rattle.state_journal.specs.Openings.{OpensAs, Standing, shown_of}
use Rattle.state_journal.specs.Payloads.{Give}
use Rattle.state_journal.specs.Readings.{ReadAs, Reads, StandFor, sealed, torn}
use Rattle.state_journal.specs.Shown.{StandsAs, opens_by, shown_by}
use Rattle.state_journal.proofs.Fitting.{IsFitting}
use Rattle.state_journal.specs.Lawful.{ready_rest}
use Rattle.state_journal.proofs.Leavings.{leaves_alike, leaves_read, mended_left}
use Rattle.state_journal.specs.Unique.{give_one, holds_one}

-- an end of which it is known what stands behind it is tidy
tidy_end : (halves : Pair) (image : ImageData) → IsSealed halves image → IsTidy halves image
tidy_end halves image (ends.short first few) = ends.short first few
tidy_end halves image (ends.closed closed) = ends.closed closed

torn_end : (halves : Pair) (image : ImageData) (payload : List ℕ) → IsPending halves image (Some payload)
    → IsTidy halves image
torn_end halves image payload it = ends.whole it.gate payload (record {
  rest = it.whole.rest;
  parts = it.front ∙ ap (λ (l : List ℕ). it.gate ∷ l) it.whole.parts;
  sized = it.whole.sized;
})

tidy_of : (halves : Pair) (k : Left) → Reads halves k → (image : ImageData) → IsImage halves image → IsTidy halves image
tidy_of halves _ (sealed i s leaves give) image is =
    subst (IsTidy halves) (image_same halves i image leaves.is_image is) (tidy_end halves i leaves.sealed)
tidy_of halves _ (torn i p s t is_image it give more) image is =
    subst (IsTidy halves) (image_same halves i image is_image is) (torn_end halves i p it)

-- one look behind another
pub alike_then : (old mid new : ShownDisk) → IsLawful old → ReadsAlike old mid → ReadsAlike mid new → ReadsAlike old new
alike_then old mid new law first second = record {
  seen = second.seen ∙ first.seen;
  crash = λ c now. first.crash c (second.crash c now);
  time = record {
    later = omega (arith, first.time.later, second.time.later);
    nothing_else = λ t c early since. elim (second.time.nothing_else t c (omega (arith, early, first.time.later)) since) [
      | inl was ↦ elim (first.time.nothing_else t c early was) [
        | inl before ↦ inl before
        | inr then ↦ inl (law.counts_now t c early (first.crash c then))
      ]
      | inr is ↦ inr is
    ];
    keeps = λ t c early since. second.time.keeps t c (omega (arith, early, first.time.later)) (first.time.keeps t c early since);
  };
}

module _ (old mid new : ShownDisk) (law : IsLawful old) (alike : ReadsAlike old mid) (later : mid.moment ≤ new.moment)
    (survives : Survives mid new) (at to : Place) (failed fails : Bool) (image : ImageData) (is : IsImage old.seen image)
    (told : IsTrue old.tells) (tells : new.tells ≡ old.tells) where
  -- where nothing is told, anything may come of it
  of_none : StandFor old.seen None
      → LeavesOnly (shown_by old at failed) (shown_by new to fails) (ComesOf (shown_by old at failed))
  of_none none = leaves_read old new at to failed fails told tells (λ c. Unit {0}) (ComesOf (shown_by old at failed))
      (record { later = omega (arith, alike.time.later, later); each = λ c since. tt; before = λ t c early since. inr tt })
      (λ c l any stand. record {
        from = None;
        left = record { told = told; pair = old.seen; left = law.reads; stand = none };
        stems = unknown refl;
      })

  of_left : (k : Left) → Reads old.seen k
      → LeavesOnly (shown_by old at failed) (shown_by new to fails) (ComesOf (shown_by old at failed))
  of_left k reads =
      let first : disk.LeavesOnly old mid (Recovering old image) =
      goes_on old old mid (Recovering old image) (started old (Recovering old image) law (λ c now. inl now)) alike.time
      (λ c now. inl (alike.crash c now)) in
      let second : disk.LeavesOnly mid new (Recovering mid image) =
      survives image (subst (λ (c : Pair). IsImage c image) (sym alike.seen) is)
      (subst (λ (c : Pair). IsTidy c image) (sym alike.seen) (tidy_of old.seen k reads image is)) in
      leaves_read old new at to failed fails told tells (Recovering old image) (ComesOf (shown_by old at failed))
      (joined old mid new (Recovering old image) (Recovering mid image) first second (λ c it. elim it [
        | inl now ↦ inl (alike.crash c now)
        | inr mended ↦ inr (subst (λ (x : Pair). Mended image x c) alike.seen mended)
      ]))
      (λ c l it stand. elim it [
        | inl now ↦ record { from = l; left = record { told = told; pair = c; left = now; stand = stand }; stems = same refl }
        | inr mended ↦ record {
          from = Some k;
          left = record { told = told; pair = old.seen; left = law.reads; stand = reads };
          stems = mended_left old.seen image is l (Some k) reads c mended stand;
        }
      ])

  pub leaves_survived : (m : Option Left) → StandFor old.seen m
      → LeavesOnly (shown_by old at failed) (shown_by new to fails) (ComesOf (shown_by old at failed))
  leaves_survived None none = of_none none
  leaves_survived (Some k) reads = of_left k reads

module _ (old new : Standing) (law : IsTrue old.disk.tells → IsLawful old.disk)
    (tells : new.disk.tells ≡ old.disk.tells) (later : old.faults ≤ new.faults) where
  goes : GoesOn (shown_of old) (shown_of new) old.faults new.faults
  goes = record { tells = tells; recalls = tells; later = later }

  same_openings : (IsTrue old.disk.tells → new.disk.seen ≡ old.disk.seen)
      → SameOpenings (opens_by old.disk) (opens_by new.disk)
  same_openings alike s = (
    λ may told. subst (λ (c : Pair). ReadAs c s) (alike told) (may (tells ∙ told)),
    λ may told.
        let first : IsTrue old.disk.tells = sym tells ∙ told in
        subst (λ (c : Pair). ReadAs c s) (sym (alike first)) (may first),
  )

  -- nothing was written
  pub refused : (fault : OpenFault) → (IsTrue old.disk.tells → ReadsAlike old.disk new.disk) → new.failed ≡ true
      → (fault ≡ Foreign → IsTrue old.disk.tells → IsForeign (opens_by old.disk))
      → (fault ≡ DiskFault → Rose old.faults new.faults) → OpensAs old new (Err fault)
  refused fault alike closed foreign cause = record {
    opened = tt;
    closed = closed;
    foreign = λ is told. foreign (let it : fault ≡ Foreign = cc in it) told;
    opens = λ no. same_openings (λ told. (alike told).seen);
    crash = λ told. leaves_alike old.disk new.disk old.place new.place old.failed new.failed told tells
        (law told) (alike told);
    goes_on = goes;
    cause = λ is. cause (let it : fault ≡ DiskFault = cc in it);
  }

  module _ (mid : ShownDisk) (alike : IsTrue old.disk.tells → ReadsAlike old.disk mid)
      (time : IsTrue old.disk.tells → mid.moment ≤ new.disk.moment)
      (survives : IsTrue old.disk.tells → Survives mid new.disk) (s : StateData)
      (read : IsTrue old.disk.tells → ReadAs old.disk.seen s) where
    crashes : IsTrue old.disk.tells → LeavesOnly (shown_of old) (shown_of new) (ComesOf (shown_of old))
    crashes told =
        let it = read told in
        leaves_survived old.disk mid new.disk (law told) (alike told) (time told) (survives told) old.place new.place
        old.failed new.failed it.holds.image it.holds.is_image told tells it.left it.stand

    -- the disk failed while it was taken up
    pub broken : new.failed ≡ true → Rose old.faults new.faults → OpensAs old new (Err DiskFault)
    broken closed rose = record {
      opened = tt;
      closed = closed;
      foreign = λ is told. absurd (let no : ⊥ = cc in no);
      opens = λ no. absurd (no refl);
      crash = crashes;
      goes_on = goes;
      cause = λ is. rose;
    }

    image_there : (told : IsTrue old.disk.tells) → IsImage mid.seen (read told).holds.image
    image_there told = subst (λ (c : Pair). IsImage c (read told).holds.image) (sym (alike told).seen)
        (read told).holds.is_image

    -- it wasn't taken up, for this
    pub unopened : (fault : ReadFault) → new.failed ≡ true → (fault ≡ why.Disk → Rose old.faults new.faults)
        → (fault ≡ why.Foreign → IsTrue old.disk.tells → journal.IsForeign mid new.disk)
        → (fault ≡ why.Memory → IsTrue old.disk.tells → ReadsAlike mid new.disk) → OpensAs old new (Err (open_fault fault))
    unopened why.Disk closed rose foreign memory = broken closed (rose refl)
    unopened why.Foreign closed rose foreign memory = refused Foreign
        (λ told. alike_then old.disk mid new.disk (law told) (alike told) (foreign refl told).alike) closed
        (λ is told. absurd ((foreign refl told).none (read told).holds.image (image_there told)))
        (λ is. absurd (let no : ⊥ = cc in no))
    unopened why.Memory closed rose foreign memory = refused Memory
        (λ told. alike_then old.disk mid new.disk (law told) (alike told) (memory refl told)) closed
        (λ is. absurd (let no : ⊥ = cc in no)) (λ is. absurd (let no : ⊥ = cc in no))

    -- it was taken up
    module _ (open_ : new.failed ≡ false) (fits : IsFitting s) (tied : IsTied s) (payloads : List (List ℕ))
        (taken : IsTrue old.disk.tells → journal.HasOpened mid new.disk new.place payloads) where
      held : (told : IsTrue old.disk.tells) → Give (taken told).image.payloads s
      held told = let it = read told in
          let here : IsImage old.disk.seen (taken told).image =
          subst (λ (c : Pair). IsImage c (taken told).image) (alike told).seen (taken told).is_image in
          subst (λ (i : ImageData). Give i.payloads s)
          (image_same old.disk.seen it.holds.image (taken told).image it.holds.is_image here) it.holds.give

      stands : IsTrue old.disk.tells → StandsAs new.disk new.place new.failed s
      stands told = record {
        tells = tells ∙ told;
        open_ = open_;
        image = (taken told).image;
        numbers = (taken told).numbers;
        ready = (taken told).ready;
        give = held told;
      }

      only : (t : StateData) → StandsAs new.disk new.place new.failed t → t ≡ s
      only t it =
          let told : IsTrue old.disk.tells = sym tells ∙ it.tells in
          give_one (taken told).image.payloads t s
          (subst (λ (i : ImageData). Give i.payloads t) (image_same new.disk.seen it.image (taken told).image
          it.ready.is_image (taken told).ready.is_image) it.give) (held told)

      stands_for : StandsFor (shown_of new) s
      stands_for = record {
        going = subst (λ (b : Bool). IsTrue (not b)) (sym open_) refl;
        told = λ told. stands (sym tells ∙ told);
        only = only;
      }

      now_read : (told : IsTrue old.disk.tells) → ReadAs new.disk.seen s
      now_read told = record {
        holds = record {
          image = (taken told).image;
          is_image = (taken told).ready.is_image;
          give = held told;
        };
        left = Some (at_rest s);
        stand = ready_rest (taken told).image new.disk s (taken told).ready (held told);
      }

      opens_same : SameOpenings (opens_by old.disk) (opens_by new.disk)
      opens_same t = (
        λ may told. subst (ReadAs old.disk.seen)
            (holds_one new.disk.seen s t (now_read told).holds (may (tells ∙ told)).holds) (read told),
        λ may told.
            let first : IsTrue old.disk.tells = sym tells ∙ told in
            subst (ReadAs new.disk.seen) (holds_one old.disk.seen s t (read first).holds (may first).holds)
            (now_read first),
      )

      pub taken_up : (spare : ℕ) → OpensAs old new (Ok (record { state = s; spare = spare }))
      taken_up spare = record {
        opened = record {
          may = read;
          read = fits.read;
          tied = tied;
          range = fits.range;
          made = fits.made;
          stands = stands_for;
        };
        closed = tt;
        foreign = λ is told. absurd (let no : ⊥ = cc in no);
        opens = λ no. opens_same;
        crash = crashes;
        goes_on = goes;
        cause = λ is. absurd (let no : ⊥ = cc in no);
      }

-- a count that rose since a later moment rose since an earlier one
pub rose_since : (first mid last : ℕ) → first ≤ mid → Rose mid last → Rose first last
rose_since first mid last later rose = omega (arith, later, rose)

pub is_true : (b : Bool) → (b ≡ false → ⊥) → b ≡ true
is_true true never = refl
is_true false never = absurd (never refl)
