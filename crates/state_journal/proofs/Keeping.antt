-- What each call of the keeper makes of what is shown.
use Rattle.std.proofs.Common.{◌≡◌, ◌∙◌, ◌∷◌, [], ℕ, Bool, List, Some, ap, arith, false, inl, inr, refl, subst, sym, true}
use Rattle.std.specs.Prelude.{IsTrue, nat_le, nat_lt, not, ◌&&◌, ◌*◌, ◌+◌, ◌-◌, ◌<◌, ◌^◌, ◌↔◌}
use Rattle.std.proofs.lemmas.Bool.{and_right}
use Rattle.std.proofs.lemmas.Bool.Decides.{leb_tells}
use Rattle.core_state.specs.Applies.{AllApply}
use Rattle.core_state.specs.Changes.{applied}
use Rattle.core_state.specs.State.{StateData}
use Rattle.core_state.specs.declared.change.Change.{Change}
use Rattle.heat_disk.specs.Halves.{Pair}
use Rattle.heat_disk.specs.Shown as disk
use Rattle.heat_disk.specs.Shown.{SameContent, ShownDisk}
use Rattle.heat_disk.proofs.Moments.{started}
use Rattle.record_keeper.specs.Calls.{HasAppended, HasCompacted, IsLeftOf, IsReread, StaysAsItIs}
use Rattle.record_keeper.specs.Shown.{LeavesOnly, SameKeeper, StandsFor, at_rest}
use Rattle.row_codec.specs.Changes.{IsSpelling}
use Rattle.row_journal.specs.Ends as ends
use Rattle.row_journal.specs.Ends.{LeavesEither, with_next}
use Rattle.row_journal.specs.Images.{ImageData}
use Rattle.row_journal.specs.NextPlaces.{snapshot_place}
use Rattle.row_journal.specs.Places.{place_of}
use Rattle.row_journal.specs.Ready.{IsReady}
use Rattle.row_journal.specs.Snapshots.{LeavesSnapshot, fresh_snapshot}
use Rattle.row_journal.specs.declared.place.Place.{Place}
use Rattle.row_journal.specs.declared.version.Version.TheVariants.{Two}
use Rattle.row_journal.proofs.Found.{image_same}
use Rattle.row_journal.proofs.Runs.{ready_same}
use Rattle.state_images.specs.Snapshots.{snapshot}
use Rattle.state_images.proofs.Snapshotting.{made_snapshot}
use Rattle.step_relation.specs.Images.{IsMade}
use Rattle.step_relation.specs.Opening.{bare}
use Rattle.state_journal.specs.Lawful.{sealed_rest}
use Rattle.state_journal.specs.Payloads.{Follows, Give}
use Rattle.state_journal.specs.Readings.{Holds, ReadAs, StandFor}
use Rattle.state_journal.specs.Shown.{StandsAs, is_long_at, is_one, moment_of, opens_by, shown_by}
use Rattle.state_journal.specs.Unique.{give_one, holds_one}
use Rattle.state_journal.proofs.Leavings.{either_left, leaves_read, snapshot_left}
use Rattle.state_journal.proofs.Payloads.{give_none, give_push}

-- more room changes nothing that is shown
same_back : (old new : ShownDisk) → SameContent old new → SameContent new old
same_back old new same = record {
  seen = sym same.seen;
  crash = λ c. ((same.crash c).1, (same.crash c).0);
  moment = sym same.moment;
  since = λ t c. ((same.since t c).1, (same.since t c).0);
}

moments : (a b : Bool) (m n : ℕ) → a ≡ b → (IsTrue b → m ≡ n) → moment_of a m ≡ moment_of b n
moments true true m n same told = told refl
moments true false m n same told = cc
moments false true m n same told = cc
moments false false m n same told = refl

module _ (old new : ShownDisk) (at to : Place) (failed fails : Bool) (tells : new.tells ≡ old.tells) (placed : to ≡ at)
    (still : fails ≡ failed) (same : IsTrue old.tells → SameContent old new) where
  stands_on : (s : StateData) → StandsAs old at failed s → StandsAs new to fails s
  stands_on s it = record {
    tells = tells ∙ it.tells;
    open_ = still ∙ it.open_;
    image = it.image;
    numbers = placed ∙ it.numbers;
    ready = ready_same it.image old new it.ready (same it.tells);
    give = it.give;
  }

  stands_back : (s : StateData) → StandsAs new to fails s → StandsAs old at failed s
  stands_back s it = record {
    tells = sym tells ∙ it.tells;
    open_ = sym still ∙ it.open_;
    image = it.image;
    numbers = sym placed ∙ it.numbers;
    ready = ready_same it.image new old it.ready (same_back old new (same (sym tells ∙ it.tells)));
    give = it.give;
  }

  pub same_keeper : SameKeeper (shown_by old at failed) (shown_by new to fails)
  same_keeper = record {
    tells = tells;
    recalls = tells;
    going = ap not still;
    is_long = ap is_long_at placed;
    is_old = ap (λ (p : Place). is_one p.version) placed;
    can_compact = ap (λ (p : Place). nat_lt p.epoch (2 ^ 62 - 1)) placed;
    stands = λ s. (stands_back s, stands_on s);
    crash = λ l. (
      λ it. let told = sym tells ∙ it.told in record {
        told = told;
        pair = it.pair;
        left = ((same told).crash it.pair).0 it.left;
        stand = it.stand;
      },
      λ it. record { told = tells ∙ it.told; pair = it.pair; left = ((same it.told).crash it.pair).1 it.left; stand = it.stand },
    );
    moment = moments new.tells old.tells new.moment old.moment tells (λ told. (same told).moment);
    since = λ t l. (
      λ it. let told = sym tells ∙ it.told in record {
        told = told;
        pair = it.pair;
        left = ((same told).since t it.pair).0 it.left;
        stand = it.stand;
      },
      λ it. record { told = tells ∙ it.told; pair = it.pair; left = ((same it.told).since t it.pair).1 it.left; stand = it.stand },
    );
  }

not_lower : (a b : ℕ) → b < a → nat_le a b ≡ false
not_lower a b less = elim (leb_tells a b) [ inl low ↦ absurd (omega (arith, low.1, less)) | inr high ↦ high.0 ]

is_false : (b : Bool) → IsTrue (not b) → b ≡ false
is_false false it = refl
is_false true it = cc

-- a snapshot of one record isn't long
short : (n : ℕ) (at : Place) → is_long_at (snapshot_place n at) ≡ false
short n at = and_right _ _ (ap (λ (b : Bool). b && nat_lt (at.epoch + 1) (2 ^ 62 - 1))
    (not_lower (2 * (n + 33)) (n + 33) (omega arith)))

-- a journal stands as one state at most
stands_one : (d : ShownDisk) (at : Place) (failed : Bool) (s t : StateData) → StandsAs d at failed s
    → StandsAs d at failed t → s ≡ t
stands_one d at failed s t a b = give_one b.image.payloads s t (subst (λ (i : ImageData). Give i.payloads s)
    (image_same d.seen a.image b.image a.ready.is_image b.ready.is_image) a.give) b.give

-- it goes on from this state, if it does so where it tells
goes_on_from : (d : ShownDisk) (at : Place) (failed : Bool) (s : StateData) → failed ≡ false
    → (IsTrue d.tells → StandsAs d at failed s) → StandsFor (shown_by d at failed) s
goes_on_from d at failed s open_ stands = record {
  going = ap not open_;
  told = stands;
  only = λ t it. stands_one d at failed t s it (stands it.tells);
}

module _ (old new : ShownDisk) (at to : Place) (failed fails : Bool) (tells : new.tells ≡ old.tells) where
  -- a journal that was read again
  pub stays : to ≡ at → fails ≡ failed
      → (IsTrue old.tells → (image : ImageData) → IsReady image old → IsReady image new)
      → StaysAsItIs (shown_by old at failed) (shown_by new to fails)
  stays placed still ready = record {
    stands = λ s it. goes_on_from new to fails s (still ∙ is_false failed it.going) (λ told.
        let was = it.told (sym tells ∙ told) in record {
          tells = told;
          open_ = still ∙ was.open_;
          image = was.image;
          numbers = placed ∙ was.numbers;
          ready = ready was.tells was.image was.ready;
          give = was.give;
        });
    is_long = ap is_long_at placed;
    is_old = ap (λ (p : Place). is_one p.version) placed;
    can_compact = ap (λ (p : Place). nat_lt p.epoch (2 ^ 62 - 1)) placed;
  }

  module _ (bytes : List ℕ) (cs : List Change) (spelling : IsSpelling bytes cs) where
    follows : (s : StateData) → AllApply cs s → Follows bytes s (applied cs s)
    follows s all = record { changes = cs; spelling = spelling; applies = all; gives = refl }

    -- inside an append
    pub append_leaves : (told : IsTrue old.tells) (s : StateData) → StandsAs old at failed s → AllApply cs s
        → ((image : ImageData) → at ≡ place_of image → IsReady image old
        → disk.LeavesOnly old new (LeavesEither image bytes))
        → LeavesOnly (shown_by old at failed) (shown_by new to fails) (IsLeftOf s (applied cs s))
    append_leaves told s it all leaves = leaves_read old new at to failed fails told tells (LeavesEither it.image bytes)
        (IsLeftOf s (applied cs s)) (leaves it.image it.numbers it.ready)
        (λ c l either stand. either_left it.image bytes s (applied cs s) it.give
        (give_push it.image.payloads bytes s (applied cs s) it.give (follows s all)) c l either stand)

    -- behind one
    pub appended : ((s : StateData) → StandsAs old at failed s → AllApply cs s) → fails ≡ false → to.version ≡ Two
        → (IsTrue old.tells → (image : ImageData) → at ≡ place_of image → IsReady image old
        → (to ≡ place_of (with_next image bytes)) × IsReady (with_next image bytes) new)
        → HasAppended cs (shown_by old at failed) (shown_by new to fails)
    appended all open_ two acknowledged = record {
      stands = λ s it. goes_on_from new to fails (applied cs s) open_ (λ told.
          let was = it.told (sym tells ∙ told) in
          let now = acknowledged was.tells was.image was.numbers was.ready in record {
            tells = told;
            open_ = open_;
            image = with_next was.image bytes;
            numbers = now.0;
            ready = now.1;
            give = give_push was.image.payloads bytes s (applied cs s) was.give (follows s (all s was));
          });
      young = ap is_one two;
    }

  module _ (bytes : List ℕ) (s : StateData) (made : IsMade s) (spelling : IsSpelling bytes (snapshot s)) where
    snapshot_gives : Give (bytes ∷ []) s
    snapshot_gives = let it = made_snapshot s made in give_push [] bytes bare s give_none
        (record { changes = snapshot s; spelling = spelling; applies = it.applies; gives = sym it.gives })

    -- inside a compaction
    pub snapshot_leaves : (told : IsTrue old.tells) → StandsAs old at failed s
        → ((image : ImageData) → at ≡ place_of image → IsReady image old
        → disk.LeavesOnly old new (LeavesSnapshot image bytes))
        → LeavesOnly (shown_by old at failed) (shown_by new to fails) (λ l. l ≡ Some (at_rest s))
    snapshot_leaves told it leaves = leaves_read old new at to failed fails told tells (LeavesSnapshot it.image bytes)
        (λ l. l ≡ Some (at_rest s)) (leaves it.image it.numbers it.ready)
        (snapshot_left it.image bytes s s it.give snapshot_gives)

    -- behind one
    pub compacted : (n : ℕ) → StandsFor (shown_by old at failed) s → fails ≡ false → to ≡ snapshot_place n at
        → (IsTrue old.tells → (image : ImageData) → at ≡ place_of image → IsReady image old
        → (to ≡ place_of (fresh_snapshot image bytes)) × IsReady (fresh_snapshot image bytes) new)
        → HasCompacted s (shown_by new to fails)
    compacted n it open_ placed taken = record {
      stands = goes_on_from new to fails s open_ (λ told.
          let was = it.told (sym tells ∙ told) in
          let now = taken was.tells was.image was.numbers was.ready in record {
            tells = told;
            open_ = open_;
            image = fresh_snapshot was.image bytes;
            numbers = now.0;
            ready = now.1;
            give = snapshot_gives;
          });
      short = ap is_long_at placed ∙ short n at;
      young = ap (λ (p : Place). is_one p.version) placed;
    }

module _ (d : ShownDisk) (at : Place) (failed : Bool) where
  -- where nothing is done, nothing else is left
  pub nothing_done : disk.IsLawful d → (s : StateData) → StandsAs d at failed s
      → LeavesOnly (shown_by d at failed) (shown_by d at failed) (λ l. l ≡ Some (at_rest s))
  nothing_done law s it = leaves_read d d at at failed failed it.tells refl (λ c. c ≡ d.seen) (λ l. l ≡ Some (at_rest s))
      (started d (λ c. c ≡ d.seen) law it.ready.durable)
      (λ c l is stand. sealed_rest it.image s d.seen l
      (record { is_image = it.ready.is_image; sealed = ends.closed it.ready.closed }) it.give
      (subst (λ (x : Pair). StandFor x l) is stand))

  held : (s : StateData) → StandsAs d at failed s → Holds s d.seen
  held s it = record { image = it.image; is_image = it.ready.is_image; give = it.give }

  -- the state that was read is this one exactly where it is held
  pub reread_as : (t s : StateData) (b : Bool) → IsTrue b ↔ (t ≡ s) → IsTrue d.tells → ReadAs d.seen t
      → IsReread (opens_by d) (shown_by d at failed) s b
  reread_as t s b same tells read = record {
    told = λ told. (
      λ yes_ it. subst (ReadAs d.seen) (same.0 yes_) read,
      λ may. same.1 (holds_one d.seen t s read.holds (may told).holds),
    );
    stood = λ it. same.1 (holds_one d.seen t s read.holds (held s (it.told tells)));
  }

  -- where none is held, it doesn't stand as one
  pub never_stood : ((s : StateData) → ¬ Holds s d.seen) → IsTrue d.tells → (s : StateData)
      → StandsFor (shown_by d at failed) s → ⊥
  never_stood none tells s it = none s (held s (it.told tells))
