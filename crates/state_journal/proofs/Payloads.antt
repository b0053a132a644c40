-- Payloads, one behind another.
use Rattle.std.proofs.Common.{◌≡◌, ◌∙◌, ◌++◌, ◌∷◌, ◌+◌, ◌<◌, [], ℕ, List, ap, append_assoc, drop, inl, inr, length, refl, subst, sym, take}
use Rattle.std.specs.Prelude.{Bool, Ok, Result, Some, false, get_or, true}
use Rattle.std.proofs.lemmas.List.{drop_more, take-append-drop, take_more}
use Rattle.core_state.specs.Applies.{AllApply}
use Rattle.core_state.specs.Changes.{applied, apply}
use Rattle.core_state.specs.State.{StateData}
use Rattle.core_state.specs.declared.change.Change.{Change}
use Rattle.row_codec.specs.Changes.{IsSpelling}
use Rattle.state_images.specs.Replays.{joined}
use Rattle.step_relation.specs.Opening.{bare}
use Rattle.state_journal.specs.Payloads.{AreSpellings, Follows, Give}
use Rattle.state_journal.specs.Readings.{IsKnownBehind}
use Rattle.state_journal.specs.Unique.{lists_one}

-- none give the empty state
pub give_none : Give [] bare
give_none = record { lists = []; spellings = tt; replay = record { applies = tt; gives = refl } }

spelled_push : (ps : List (List ℕ)) (lists : List (List Change)) (p : List ℕ) (cs : List Change) → AreSpellings ps lists
    → IsSpelling p cs → AreSpellings (ps ++ p ∷ []) (lists ++ cs ∷ [])
spelled_push [] [] p cs all one = (one, tt)
spelled_push [] (d ∷ ds) p cs all one = absurd all
spelled_push (q ∷ qs) [] p cs all one = absurd all
spelled_push (q ∷ qs) (d ∷ ds) p cs all one = (all.0, spelled_push qs ds p cs all.1 one)

joined_behind : (a b : List (List Change)) → joined (a ++ b) ≡ joined a ++ joined b
joined_behind [] b = refl
joined_behind (c ∷ cs) b = ap (λ (l : List Change). c ++ l) (joined_behind cs b) ∙ sym (append_assoc c (joined cs) (joined b))

nothing_behind : (xs : List Change) → xs ++ [] ≡ xs
nothing_behind [] = refl
nothing_behind (x ∷ xs) = ap (λ (l : List Change). x ∷ l) (nothing_behind xs)

-- changes behind others
both_apply : (a b : List Change) (s : StateData) → AllApply a s → AllApply b (applied a s) → AllApply (a ++ b) s
both_apply [] b s first second = second
both_apply (c ∷ cs) b s first second = (first.0, both_apply cs b (apply c s) first.1 second)

first_applies : (a b : List Change) (s : StateData) → AllApply (a ++ b) s → AllApply a s
first_applies [] b s all = tt
first_applies (c ∷ cs) b s all = (all.0, first_applies cs b (apply c s) all.1)

second_applies : (a b : List Change) (s : StateData) → AllApply (a ++ b) s → AllApply b (applied a s)
second_applies [] b s all = all
second_applies (c ∷ cs) b s all = second_applies cs b (apply c s) all.1

pub both_applied : (a b : List Change) (s : StateData) → applied (a ++ b) s ≡ applied b (applied a s)
both_applied [] b s = refl
both_applied (c ∷ cs) b s = both_applied cs b (apply c s)

-- one more leads on
pub give_push : (ps : List (List ℕ)) (p : List ℕ) (s t : StateData) → Give ps s → Follows p s t → Give (ps ++ p ∷ []) t
give_push ps p s t give it =
    let all : joined (give.lists ++ it.changes ∷ []) ≡ joined give.lists ++ it.changes =
    joined_behind give.lists (it.changes ∷ [])
    ∙ ap (λ (l : List Change). joined give.lists ++ l) (nothing_behind it.changes) in record {
      lists = give.lists ++ it.changes ∷ [];
      spellings = spelled_push ps give.lists p it.changes give.spellings it.spelling;
      replay = record {
        applies = subst (λ (l : List Change). AllApply l bare) (sym all)
            (both_apply (joined give.lists) it.changes bare give.replay.applies
            (subst (AllApply it.changes) give.replay.gives it.applies));
        gives = it.gives ∙ ap (applied it.changes) give.replay.gives
            ∙ sym (both_applied (joined give.lists) it.changes bare)
            ∙ ap (λ (l : List Change). applied l bare) (sym all);
      };
    }

-- lists of payloads of which some stand in front
record Parts (ps qs : List (List ℕ)) (lists : List (List Change)) : Type 0 where
  front : List (List Change)
  back : List (List Change)
  parts : lists ≡ front ++ back
  first : AreSpellings ps front
  second : AreSpellings qs back

parted : (ps qs : List (List ℕ)) (lists : List (List Change)) → AreSpellings (ps ++ qs) lists → Parts ps qs lists
parted [] qs lists all = record { front = []; back = lists; parts = refl; first = tt; second = all }
parted (p ∷ ps) qs [] all = absurd all
parted (p ∷ ps) qs (d ∷ ds) all = let rest = parted ps qs ds all.1 in record {
  front = d ∷ rest.front;
  back = rest.back;
  parts = ap (λ (l : List (List Change)). d ∷ l) rest.parts;
  first = (all.0, rest.first);
  second = rest.second;
}

-- where one payload leads nowhere, no more of them give a state
module _ (ps rest : List (List ℕ)) (p : List ℕ) (s : StateData) (give : Give ps s) (none : (t : StateData) → ¬ Follows p s t) where
  stops : (front back lists : List (List Change)) → lists ≡ front ++ back → AreSpellings ps front
      → AreSpellings (p ∷ rest) back → AllApply (joined lists) bare → ⊥
  stops front [] lists parts first second all = absurd second
  stops front (cs ∷ back) lists parts first second all =
      let same : front ≡ give.lists = lists_one ps front give.lists first give.spellings in
      let whole : joined lists ≡ joined give.lists ++ (cs ++ joined back) =
      ap joined parts ∙ joined_behind front (cs ∷ back)
      ∙ ap (λ (l : List (List Change)). joined l ++ (cs ++ joined back)) same in
      let later = second_applies (joined give.lists) (cs ++ joined back) bare
      (subst (λ (l : List Change). AllApply l bare) whole all) in
      none (applied cs s) (record {
        changes = cs;
        spelling = second.0;
        applies = subst (AllApply cs) (sym give.replay.gives)
            (first_applies cs (joined back) (applied (joined give.lists) bare) later);
        gives = refl;
      })

  pub give_stops : (u : StateData) → ¬ Give (ps ++ p ∷ rest) u
  give_stops u it = let it_parts = parted ps (p ∷ rest) it.lists it.spellings in
      stops it_parts.front it_parts.back it.lists it_parts.parts it_parts.first it_parts.second it.replay.applies

-- so in a walk over them
module _ (ps : List (List ℕ)) (i : ℕ) (p : List ℕ) (s : StateData) (less : i < length ps) (is : p ≡ get_or ps i p)
    (give : Give (take i ps) s) where
  pub give_further : (t : StateData) → Follows p s t → Give (take (i + 1) ps) t
  give_further t it = subst (λ (l : List (List ℕ)). Give l t)
      (sym (take_more ps i p less ∙ ap (λ (q : List ℕ). take i ps ++ q ∷ []) (sym is))) (give_push (take i ps) p s t give it)

  pub give_halts : ((t : StateData) → ¬ Follows p s t) → (u : StateData) → ¬ Give ps u
  give_halts none u it = give_stops (take i ps) (drop (i + 1) ps) p s give none u
      (subst (λ (l : List (List ℕ)). Give l u) (sym (take-append-drop i ps)
      ∙ ap (λ (l : List (List ℕ)). take i ps ++ l)
      (drop_more ps i p less ∙ ap (λ (q : List ℕ). q ∷ drop (i + 1) ps) (sym is))) it)

-- whether what stands behind them gives a state is known once it is known whether it follows
behind_given : (ps : List (List ℕ)) (p : List ℕ) (s : StateData) → Give ps s → ((t : StateData) × Follows p s t)
    → IsKnownBehind ps (Some p)
behind_given ps p s give it = inl (it.0, give_push ps p s it.0 give it.1)

behind_none : (ps : List (List ℕ)) (p : List ℕ) (s : StateData) → Give ps s → ((t : StateData) → ¬ Follows p s t)
    → IsKnownBehind ps (Some p)
behind_none ps p s give none = inr (give_stops ps [] p s give none)

pub behind_by : {E : Type 0} (ps : List (List ℕ)) (p : List ℕ) (s : StateData) → Give ps s → (r : Result Bool E) (b : Bool)
    → r ≡ Ok b → (r ≡ Ok true → (t : StateData) × Follows p s t) → (r ≡ Ok false → (t : StateData) → ¬ Follows p s t)
    → IsKnownBehind ps (Some p)
behind_by ps p s give r true is follows none = behind_given ps p s give (follows is)
behind_by ps p s give r false is follows none = behind_none ps p s give (none is)
