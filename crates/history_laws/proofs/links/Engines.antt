-- The stop of an engine, the enlisting of one and a restart keep the links.
use Rattle.std.proofs.Common.{◌≡◌, ◌≢◌, ◌<◌, ◌≤◌, inl, inr, ℕ, zero, suc, ◌+◌, Bool, true, false, cond, List, [], ◌∷◌}
use Rattle.std.proofs.Common.{◌++◌, map, refl, ap, subst, arith}
use Rattle.std.specs.Prelude.{Contains, filter, nat_eq, not}
use Rattle.std.proofs.lemmas.List.Elements.{Contains-append_cases}
use Rattle.std.proofs.lemmas.List.Kept.{AllPairs-filter}
use Rattle.step_relation.specs.Changes.{applied, apply}
use Rattle.step_relation.specs.State.{StateData}
use Rattle.step_relation.specs.declared.Change.{Change}
use Rattle.step_relation.specs.declared.Change.TheVariants.{Enlist, Stop}
use Rattle.step_relation.specs.declared.Numbers.{Numbers}
use Rattle.step_relation.specs.Steps.{engines_from, past_engines, restart_changes}
use Rattle.step_relation.specs.Applies.{NoneFalls}
use Rattle.step_relation.specs.Groups.{KeptByEngines}
use Rattle.step_relation.specs.Linked.{Links}
use Rattle.step_relation.specs.Numbered.{AllBelow, EachOnce}
use Rattle.history_laws.proofs.links.Numbers.{Numbered-Enlist}
use Rattle.history_laws.proofs.links.Single.{Links-Numbers}
use Rattle.history_laws.proofs.tables.Puts.{contains_cases, contains_head, contains_there}
use Rattle.step_relation.specs.declared.Change.TheVariants as change_to

filter_less : (test : ℕ → Bool) (xs : List ℕ) (x : ℕ) → Contains (filter test xs) x → Contains xs x
filter_less test [] x has = has
filter_less test (y ∷ ys) x has = by (test y) (filter_less test ys x) has where
  by : (b : Bool) → (Contains (filter test ys) x → Contains ys x) → Contains
      (cond b (y ∷ filter test ys) (filter test ys)) x → Contains (y ∷ ys) x
  by false rest h = contains_there y x ys (rest h)
  by true rest h = elim (contains_cases y x (filter test ys) h) [
    | inl is ↦ subst (Contains (y ∷ ys)) is (contains_head y ys)
    | inr there ↦ contains_there y x ys (rest there)
  ]

Links-live : (s : StateData) (live : List ℕ) → AllBelow s.next.engine live → EachOnce live → Links s → Links
    (record s { live = live })
Links-live s live below once h = record {
  numbered = record {
    in_table = h.numbered.in_table;
    stacks = h.numbered.stacks;
    rows = h.numbered.rows;
    graphs = h.numbered.graphs;
    letters = h.numbered.letters;
    jobs = h.numbered.jobs;
    live = below;
    once = once;
  };
  current = h.current;
  chained = h.chained;
  locked = h.locked;
  owned = h.owned;
}

Links-Stop : (s : StateData) (e : ℕ) → Links s → Links (apply (Stop e) s)
Links-Stop s e h = Links-live s _ (λ f has. h.numbered.live f (filter_less _ s.live f has))
    (AllPairs-filter (λ (a b : ℕ). a ≢ b) (λ x. not (nat_eq x e)) s.live h.numbered.once) h

Links-Enlist : (s : StateData) (e : ℕ) → e < s.next.engine → ¬ Contains s.live e → Links s → Links (apply (Enlist e) s)
Links-Enlist s e below new h = record {
  numbered = Numbered-Enlist s e below new h.numbered;
  current = h.current;
  chained = h.chained;
  locked = h.locked;
  owned = h.owned;
}

-- all of these stop, and then something more
stops : (s : StateData) (first : ℕ) (es : List ℕ) (rest : List Change) →
    ((t : StateData) → t.next ≡ s.next → AllBelow first t.live → Links t → Links (applied rest t))
    → AllBelow first s.live
    → Links s → Links (applied (map Stop es ++ rest) s)
stops s first [] rest more low h = more s refl low h
stops s first (e ∷ es) rest more low h =
    stops (apply (Stop e) s) first es rest more (λ f has. low f (filter_less _ s.live f has)) (Links-Stop s e h)

-- an engine is enlisted that none of those below it is
one_higher : (live : List ℕ) (first : ℕ) → AllBelow first live → AllBelow (first + 1) (live ++ first ∷ [])
one_higher live first low f has = elim (Contains-append_cases live (first ∷ []) f has) [
  | inl was ↦ (let lt = low f was in omega arith)
  | inr new ↦ elim (contains_cases first f [] new) [
    | inl is ↦ omega (arith, is)
    | inr none ↦ absurd (none_there f none)
  ]
] where
  none_there : (f : ℕ) → Contains [] f → ⊥
  none_there f (n, lt, is) = omega arith

-- so many are enlisted
enlists : (s : StateData) (first count : ℕ) → first + count ≤ s.next.engine → AllBelow first s.live → Links s → Links
    (applied (map Enlist (engines_from first count)) s)
enlists s first zero le low h = h
enlists s first (suc count) le low h = enlists (apply (Enlist first) s) (first + 1) count (omega arith)
    (one_higher s.live first low)
    (Links-Enlist s first (omega arith) (λ has. let lt = low first has in omega arith) h)

past_rises : (next : Numbers) (count : ℕ) → NoneFalls next (past_engines next count)
past_rises next count = record {
  stack = omega arith;
  trav = omega arith;
  row = omega arith;
  engine =
      omega arith;
  letter = omega arith;
}

-- all stop, and so many are enlisted
pub links_restarted : (s : StateData) (count : ℕ) → Links s → Links (applied (restart_changes s count) s)
links_restarted s count h = stops (apply (change_to.Numbers (past_engines s.next count)) s) s.next.engine s.live
    (map Enlist (engines_from s.next.engine count))
    (λ t same low links. enlists t s.next.engine count (enough t same) low links) h.numbered.live
    (Links-Numbers s (past_engines s.next count) (past_rises s.next count) h) where
      enough : (t : StateData) → t.next ≡ past_engines s.next count → s.next.engine + count ≤ t.next.engine
      enough t same = let e = ap (λ (n : Numbers). n.engine) same in omega arith

pub links_by_engines : KeptByEngines Links
links_by_engines = record {
  stop = λ s e S live. Links-Stop s e S.links;
  enlist = λ s S.
      Links-Enlist (apply (change_to.Numbers (past_engines s.next 1)) s) s.next.engine (omega arith)
      (λ has. let lt = S.links.numbered.live s.next.engine has in omega arith)
      (Links-Numbers s (past_engines s.next 1) (past_rises s.next 1) S.links);
  restart = λ s count S. links_restarted s count S.links;
}
