-- A restart: what it makes of a book, and what it leaves with the keeper.
use Rattle.std.proofs.Common.{List, [], ap, inl, inr, refl, subst, sym, ◌++◌, ◌∙◌, ◌≡◌, ◌⊎◌, ℕ}
use Rattle.std.proofs.lemmas.Result.{IfOk-weaker}
use Rattle.std.specs.Prelude.{Err, IfErr, IfOk, IsTrue, Ok, Option, Result, Some, ◌≢◌}
use Rattle.heat_value.specs.Counts.{Rose}
use Rattle.heat_plan.specs.declared.refusal.Refusal.{Refusal}
use Rattle.heat_plan.specs.declared.refusal.Refusal.TheVariants as refusal
use Rattle.provider.specs.Cloud.{Cloud}
use Rattle.core_state.specs.Changes.{applied}
use Rattle.core_state.specs.State.{StateData}
use Rattle.core_state.specs.declared.change.Change.{Change}
use Rattle.core_state.specs.declared.entry.Entry.{Entry}
use Rattle.core_state.specs.declared.made.Made.{Made}
use Rattle.step_relation.specs.Steps.{Step}
use Rattle.record_keeper.proofs.Moments.{LeavesOnly-then, LeavesOnly-weaker}
use Rattle.record_keeper.specs.Calls.{ComesOf, GoesOn, IsLeftOf, IsUnfit, StaysAsItIs, StemsFrom}
use Rattle.record_keeper.specs.Calls as left
use Rattle.record_keeper.specs.Laws.{IsLawful}
use Rattle.record_keeper.specs.Shown.{Left, LeavesOnly, ShownKeeper, StandsFor, at_rest}
use Rattle.record_keeper.specs.declared.open_fault.OpenFault.{OpenFault}
use Rattle.record_keeper.specs.declared.open_fault.OpenFault.TheVariants as open_fault
use Rattle.takeover_steps.specs.Engines.{RefusesRestart, Restarts as MakesRestart}
use Rattle.takeover_steps.specs.Engines as engines
use Rattle.workable_laws.proofs.Applied.{steps_apply}
use Rattle.workable_laws.proofs.Keepable.{steps_are_keepable}
use Rattle.book.specs.Keeping.{IsReady, IsStorable, Keeps, KeptBy}
use Rattle.book.specs.Makings.{MadeAs, MakesAs, tried_as}
use Rattle.book.specs.Makings as made_as
use Rattle.book.specs.Openings.{Admits, HasAgreed, MayList}
use Rattle.book.specs.Openings as openings
use Rattle.book.specs.Quiet.{Page, page}
use Rattle.book.specs.Restarts.{RestartBreaks, Rereads, Restarts, WhyUnread}
use Rattle.book.specs.Restarts.{restarted_for, unread_for}
use Rattle.book.specs.Restarts as restarts
use Rattle.book.specs.Scenes.{scene}
use Rattle.book.specs.WorkableOver.{IsWorkable}
use Rattle.book.specs.declared.restarting.Unrestarted.TheVariants as why
use Rattle.book.specs.declared.restarting.Unrestarted.{Unrestarted}
use Rattle.book.proofs.Growing.{unasked}
use Rattle.book.proofs.Held.{goes_then, rose_since}
use Rattle.book.proofs.Stepping.{never_fault}

one_left : (a b : Left) → ◌≡◌ {A = Option Left} (Some a) (Some b) → a ≡ b
one_left a b is = cc

-- what came of a keeper that stands for a state, at rest
pub came_at_rest : (may_open : StateData → Type 0) (k : ShownKeeper) (s : StateData) → IsLawful may_open k
    → StandsFor k s → IsTrue k.tells → (l : Option Left) → ComesOf k l → l ≡ Some (at_rest s)
came_at_rest may_open k s lawful stands tells l it = by it.from l (rest it.from it.left) it.stems where
  rest : (f : Option Left) → k.may_leave f → f ≡ Some (at_rest s)
  rest f may = (lawful.told tells).durable s f (stands.told tells) may

  by : (f l : Option Left) → f ≡ Some (at_rest s) → StemsFrom f l → l ≡ Some (at_rest s)
  by f l is (left.unknown none) = let both = sym none ∙ is in cc
  by f l is (left.same as_it_is) = as_it_is ∙ is
  by f l is (left.settles m old new) = let one : m ≡ at_rest s = one_left m (at_rest s) (sym old ∙ is) in
      new ∙ ap (λ (x : Left). Some (at_rest x.reads)) one
  by f l is (left.turns m u old next new) = let one : m ≡ at_rest s = one_left m (at_rest s) (sym old ∙ is) in
      let none = sym next ∙ ap (λ (x : Left). x.next) one in cc

-- the keeper is read again, as the state for which it stands
module _ (may_open : StateData → Type 0) (k l : ShownKeeper) (before_ now : ℕ) (s : StateData)
    (lawful : IsLawful may_open k) (ready : IsReady k s) (goes : GoesOn k l before_ now)
    (crash : IsTrue k.tells → LeavesOnly k l (ComesOf k)) where
  rests : IsTrue k.tells → LeavesOnly k l (λ m. m ≡ Some (at_rest s))
  rests tells = LeavesOnly-weaker k l (ComesOf k) (λ m. m ≡ Some (at_rest s))
      (λ m it. came_at_rest may_open k s lawful ready.stands tells m it) (crash tells)

  stays_ready : StaysAsItIs k l → IsReady l s
  stays_ready it = record { stands = it.stands s ready.stands; young = it.is_old ∙ ready.young }

  pub reread_well : StaysAsItIs k l → Rereads s k l before_ now (Ok tt)
  reread_well it = record { leaves = rests; goes_on = goes; ready = λ ne. stays_ready it; cause = tt }

  pub reread_foreign : StaysAsItIs k l → (IsTrue k.recalls → IsUnfit s)
      → Rereads s k l before_ now (Err why.Foreign)
  reread_foreign it unfit = record {
    leaves = rests;
    goes_on = goes;
    ready = λ ne. stays_ready it;
    cause = restarts.foreign unfit refl;
  }

  pub reread_not : (fault : OpenFault) → (fault ≢ open_fault.DiskFault → StaysAsItIs k l)
      → (fault ≡ open_fault.Foreign → IsTrue k.recalls → IsUnfit s)
      → (fault ≡ open_fault.DiskFault → Rose before_ now) → Rereads s k l before_ now (Err (unread_for fault))
  reread_not fault stays unfit rose = by fault stays unfit rose where
    by : (f : OpenFault) → (f ≢ open_fault.DiskFault → StaysAsItIs k l)
        → (f ≡ open_fault.Foreign → IsTrue k.recalls → IsUnfit s)
        → (f ≡ open_fault.DiskFault → Rose before_ now) → Rereads s k l before_ now (Err (unread_for f))
    by open_fault.Foreign st un ro = reread_foreign (st (λ is. cc)) (un refl)
    by open_fault.DiskFault st un ro = record {
      leaves = rests;
      goes_on = goes;
      ready = λ ne. absurd (ne refl);
      cause = restarts.fault (ro refl) refl;
    }
    by open_fault.Memory st un ro = record {
      leaves = rests;
      goes_on = goes;
      ready = λ ne. stays_ready (st (λ is. cc));
      cause = restarts.memory refl;
    }

-- where it is refused before its step
module _ (count : ℕ) (s : StateData) (h : List Entry) (c d : Cloud) (k l : ShownKeeper) (before_ now : ℕ) where
  nothing_tried : (result : Result (Unit {0}) Unrestarted) → (first : Result (Unit {0}) Unrestarted)
      → Rereads s k l before_ now first → (result ≡ Err why.DiskFault → first ≡ Err why.DiskFault)
      → (first ≡ Err why.DiskFault → result ≡ Err why.DiskFault) → (result ≡ Err why.DiskFault → Rose before_ now)
      → KeptBy k l before_ now s s [] (result ≡ Err why.DiskFault)
  nothing_tried result first it to from rose = record {
    keeps = record {
      leaves = λ tells. LeavesOnly-weaker k l (λ m. m ≡ Some (at_rest s)) (IsLeftOf s s) (λ m rest. left.before rest)
          (it.leaves tells);
      goes_on = it.goes_on;
    };
    ready = λ fine. it.ready (λ f. fine (from f));
    rose = rose;
  }

  -- by what is read
  pub restart_unread : (w : Unrestarted) → Rereads s k l before_ now (Err w)
      → Restarts count (scene s h c) (scene s h c) k l before_ now (Err w)
  restart_unread w it = record {
    does = restarts.refused w (by w it.cause) refl refl refl;
    tried = [];
    tries = restarts.none (λ is. cc) refl;
    kept = nothing_tried (Err w) (Err w) it (λ f. f) (λ f. f) (λ f. rose w it.cause f);
  } where
    by : (v : Unrestarted) → WhyUnread k.recalls s before_ now v
        → RestartBreaks k.recalls count (scene s h c) (scene s h c) v
    by v (restarts.foreign unfit is) = subst (RestartBreaks k.recalls count (scene s h c) (scene s h c)) (sym is)
        (restarts.foreign unfit (unasked c))
    by v (restarts.fault rose_ is) = subst (RestartBreaks k.recalls count (scene s h c) (scene s h c)) (sym is)
        (restarts.disk_fault (openings.unasked (unasked c)))
    by v (restarts.memory is) = subst (RestartBreaks k.recalls count (scene s h c) (scene s h c)) (sym is)
        (restarts.memory (openings.unasked (unasked c)))

    rose : (v : Unrestarted) → WhyUnread k.recalls s before_ now v
        → ◌≡◌ {A = Result (Unit {0}) Unrestarted} (Err v) (Err why.DiskFault) → Rose before_ now
    rose v (restarts.foreign unfit is) f = let both = ap Err (sym is) ∙ f in cc
    rose v (restarts.fault rose_ is) f = rose_
    rose v (restarts.memory is) f = let both = ap Err (sym is) ∙ f in cc

  -- by what the cloud lists
  pub restart_unlisted : (w : Unrestarted) (r : Result (Unit {0}) Unrestarted) → Rereads s k l before_ now (Ok tt)
      → Admits s c d r → r ≡ Err w → Restarts count (scene s h c) (scene s h d) k l before_ now (Err w)
  restart_unlisted w r it admits no_ = by admits where
    to : (v : Unrestarted) → r ≡ Err v → v ≡ w
    to v is = same_err v w (sym is ∙ no_) where
      same_err : (a b : Unrestarted) → ◌≡◌ {A = Result (Unit {0}) Unrestarted} (Err a) (Err b) → a ≡ b
      same_err a b is_ = cc

    made : (breaks : RestartBreaks k.recalls count (scene s h c) (scene s h d) w)
        → (◌≡◌ {A = Result (Unit {0}) Unrestarted} (Err w) (Err why.DiskFault) → ⊥) → Restarts count (scene s h c) (scene s h d) k l before_ now (Err w)
    made breaks never = record {
      does = restarts.refused w breaks refl refl refl;
      tried = [];
      tries = restarts.none (λ is. cc) refl;
      kept = nothing_tried (Err w) (Ok tt) it (λ f. absurd (never f)) (λ f. cc) (λ f. absurd (never f));
    }

    by : Admits s c d r → Restarts count (scene s h c) (scene s h d) k l before_ now (Err w)
    by (openings.agrees all lists nothing is) = let both = sym is ∙ no_ in cc
    by (openings.disagrees all token finding lists found is) = made
        (subst (RestartBreaks k.recalls count (scene s h c) (scene s h d)) (to (why.Disagree token finding) is)
        (restarts.disagree all token finding lists found))
        (λ f. let both = ap Err (to (why.Disagree token finding) is) ∙ f in cc)
    by (openings.unlisted none_ is) = made
        (subst (RestartBreaks k.recalls count (scene s h c) (scene s h d)) (to why.CloudFault is)
        (restarts.cloud_fault none_))
        (λ f. let both = ap Err (to why.CloudFault is) ∙ f in cc)
    by (openings.lacking may is) = made
        (subst (RestartBreaks k.recalls count (scene s h c) (scene s h d)) (to why.Memory is) (restarts.memory may))
        (λ f. let both = ap Err (to why.Memory is) ∙ f in cc)

-- a call behind what left the state
pub keeps_behind : (k l m : ShownKeeper) (first mid last : ℕ) (s u : StateData)
    → (IsTrue k.tells → LeavesOnly k l (λ x. x ≡ Some (at_rest s))) → GoesOn k l first mid → Keeps l m mid last s u
    → Keeps k m first last s u
keeps_behind k l m first mid last s u rest goes keeps = record {
  leaves = λ tells. LeavesOnly-then k l m (IsLeftOf s u)
      (LeavesOnly-weaker k l (λ x. x ≡ Some (at_rest s)) (IsLeftOf s u) (λ x it. left.before it) (rest tells))
      (keeps.leaves (subst IsTrue (sym goes.tells) tells));
  goes_on = goes_then k l m first mid last goes keeps.goes_on;
}

-- its step
module _ (count : ℕ) (s t : StateData) (h i : List Entry) (c d : Cloud) (k l m : ShownKeeper) (n0 n1 n2 : ℕ)
    (r : Result (Unit {0}) Unrestarted) (made : Result Made Refusal) (first : Result (Unit {0}) Refusal)
    (it : Rereads s k l n0 n1 (Ok tt)) (listed : Admits s c d r) (yes_ : r ≡ Ok tt)
    (ok : IfOk made (λ x. MakesRestart s count x.changes x.entries))
    (err : IfErr made (λ x. (x ≡ refusal.Memory) ⊎ RefusesRestart s count x)) where
  has_agreed : HasAgreed s c d
  has_agreed = by listed where
    by : Admits s c d r → HasAgreed s c d
    by (openings.agrees all lists nothing is) = record { all = all; listed = lists; nothing = nothing }
    by (openings.disagrees all token finding lists found is) = let both = sym yes_ ∙ is in cc
    by (openings.unlisted none is) = let both = sym yes_ ∙ is in cc
    by (openings.lacking may is) = let both = sym yes_ ∙ is in cc

  when_made : (x : Made) → made ≡ Ok x → MakesRestart s count x.changes x.entries
  when_made x is = subst (λ (y : Result Made Refusal). IfOk y (λ z. MakesRestart s count z.changes z.entries)) is ok

  behind_it : (u : StateData) → Keeps l m n1 n2 s u → Keeps k m n0 n2 s u
  behind_it u keeps = keeps_behind k l m n0 n1 n2 s u it.leaves it.goes_on keeps

  not_made : (w : Unrestarted) → restarted_for first ≡ Err w → w ≢ why.DiskFault
      → RestartBreaks k.recalls count (scene s h c) (scene t i d) w → page t i ≡ page s h
      → Keeps l m n1 n2 s s → IsReady m t
      → Restarts count (scene s h c) (scene t i d) k m n0 n2 (restarted_for first)
  not_made w is fine breaks same keeps ready = record {
    does = restarts.refused w breaks (ap (λ (p : Page). p.state) same) (ap (λ (p : Page). p.entries) same) is;
    tried = [];
    tries = restarts.none (λ ok_. let both = sym ok_ ∙ is in cc) refl;
    kept = record {
      keeps = behind_it s keeps;
      ready = λ f. ready;
      rose = λ f. absurd (fine (one_err w why.DiskFault (sym is ∙ f)));
    };
  } where
    one_err : (a b : Unrestarted) → ◌≡◌ {A = Result (Unit {0}) Unrestarted} (Err a) (Err b) → a ≡ b
    one_err a b e = cc

  pub restart_made : MakesAs made (page s h) (page t i) l m n1 n2 first → made ≢ Err refusal.DiskFault
      → Restarts count (scene s h c) (scene t i d) k m n0 n2 (restarted_for first)
  restart_made makes honest = by makes.does makes.kept where
    w : HasAgreed s c d
    w = has_agreed

    may : MayList c d
    may = openings.listed w.all w.listed

    by_refusal : (x : Refusal) → made ≡ Err x → page t i ≡ page s h → first ≡ Err x
        → KeptBy l m n1 n2 s t [] (first ≡ Err refusal.DiskFault) → (x ≡ refusal.Memory) ⊎ RefusesRestart s count x
        → Restarts count (scene s h c) (scene t i d) k m n0 n2 (restarted_for first)
    by_refusal x is same ends kept (inl lacks) = not_made why.Memory (ap restarted_for (ends ∙ ap Err lacks)) (λ f. cc)
        (restarts.memory may) same kept.keeps (kept.ready (never_fault made first _ honest is ends))
    by_refusal _ is same ends kept (inr (engines.worn over)) = not_made why.Worn (ap restarted_for ends) (λ f. cc)
        (restarts.worn w.all w.listed w.nothing over) same kept.keeps (kept.ready (never_fault made first _ honest is ends))

    by : (q : MadeAs made (page s h) (page t i) first)
        → KeptBy l m n1 n2 s t (tried_as q) (first ≡ Err refusal.DiskFault)
        → Restarts count (scene s h c) (scene t i d) k m n0 n2 (restarted_for first)
    by (made_as.done x is writes ends) kept =
        let z = when_made x is in
        let ended : restarted_for first ≡ Ok tt = ap restarted_for ends in record {
          does = restarts.done (record {
            all = w.all;
            listed = w.listed;
            nothing = w.nothing;
            below = z.below;
            state = writes.state ∙ ap (λ (cs : List Change). applied cs s) z.changes;
            entries = writes.entries ∙ ap (λ (es : List Entry). h ++ es) z.entries;
          }) ended;
          tried = x.changes;
          tries = restarts.all (inl ended) z.below z.changes;
          kept = record {
            keeps = behind_it (applied x.changes s) kept.keeps;
            ready = λ f. kept.ready (λ e. let both = sym ends ∙ e in cc);
            rose = λ f. let both = sym ended ∙ f in cc;
          };
        }
    by (made_as.refused x is same ends) kept = by_refusal x is same ends kept
        (subst (λ (y : Result Made Refusal). IfErr y (λ z. (z ≡ refusal.Memory) ⊎ RefusesRestart s count z)) is err)
    by (made_as.unkept x is some same ends) kept =
        let z = when_made x is in
        let ended : restarted_for first ≡ Err why.DiskFault = ap restarted_for ends in record {
          does = restarts.refused why.DiskFault (restarts.disk_fault (openings.agreed s refl w))
              (ap (λ (p : Page). p.state) same) (ap (λ (p : Page). p.entries) same) ended;
          tried = x.changes;
          tries = restarts.all (inr ended) z.below z.changes;
          kept = record {
            keeps = behind_it (applied x.changes s) kept.keeps;
            ready = λ f. absurd (f ended);
            rose = λ f. rose_since n0 n1 n2 it.goes_on.later (kept.rose ends);
          };
        }
    by (made_as.memory same ends) kept = not_made why.Memory (ap restarted_for ends) (λ f. cc) (restarts.memory may)
        same kept.keeps (kept.ready (λ f. let both = sym ends ∙ f in cc))

-- what is read as this fault
pub read_as : {A : Type 0} (r : Result A OpenFault) (v w : OpenFault) → r ≡ Err v → v ≡ w → r ≡ Err w
read_as {A} r v w is same_ = subst (λ (x : OpenFault). r ≡ Err x) same_ is

pub fault_one : {A : Type 0} (r : Result A OpenFault) (v w : OpenFault) → r ≡ Err v → r ≡ Err w → v ≡ w
fault_one r v w a b = let both = sym a ∙ b in cc

-- a step may be kept and made
pub steps_storable : (s : StateData) → IsWorkable s → (made : Result Made Refusal)
    → IfOk made (λ m. Step s m.changes m.entries) → IfOk made (λ m. IsStorable s m.changes)
steps_storable s x made ok = IfOk-weaker made _ _ (λ m it. record {
  applies = steps_apply x.opening x.history s m.changes m.entries x.workable it;
  keepable = steps_are_keepable x.opening x.history s m.changes m.entries x.workable it;
}) ok

-- a restart isn't refused for a fault of the keeper
no_fault : (s : StateData) (count : ℕ) → ¬ RefusesRestart s count refusal.DiskFault
no_fault s count k = elim k [ ]

pub restart_honest : (s : StateData) (count : ℕ) (made : Result Made Refusal)
    → IfErr made (λ x. (x ≡ refusal.Memory) ⊎ RefusesRestart s count x) → made ≢ Err refusal.DiskFault
restart_honest s count made err is =
    by (subst (λ (x : Result Made Refusal). IfErr x (λ r. (r ≡ refusal.Memory) ⊎ RefusesRestart s count r)) is err) where
      by : ¬ ((refusal.DiskFault ≡ refusal.Memory) ⊎ RefusesRestart s count refusal.DiskFault)
      by (inl no_) = cc
      by (inr yes_) = no_fault s count yes_
