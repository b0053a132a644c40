-- A history tells one plan to go back to.
use Rattle.std.proofs.Common.{List, ap, inl, inr, refl, subst, sym, ◌∙◌}
use Rattle.std.proofs.lemmas.List.Elements.{Contains-append_right}
use Rattle.std.specs.Prelude.{List, None, [], ℕ, ◌++◌, ◌∷◌, ◌≡◌, ◌⊎◌}
use Rattle.heat_plan.specs.Plans.{PlanData}
use Rattle.heat_plan.specs.declared.phase.Act.TheVariants.{Create}
use Rattle.step_relation.specs.declared.Entry.{Entry}
use Rattle.step_relation.specs.declared.Stack.{Stack}
use Rattle.step_relation.specs.Freshness.{plan_of}
use Rattle.step_relation.specs.Last.{HasCreate, IsCommandOf, IsLast, IsNeverReached, IsReached, created, kept, opened}
use Rattle.step_relation.specs.Last.{reached}
use Rattle.step_relation.specs.Newest.{Latest}
use Rattle.step_relation.specs.Opening.{Opening}
use Rattle.history_laws.proofs.tables.Rows.{same_some}
use Rattle.history_laws.proofs.tells.Lasts.{split}
use Rattle.provider.proofs.Lists.{here}

create_in : (stack : List ℕ) (mid behind : List Entry) (e : Entry) (it : Latest) → IsCommandOf stack e it
    → it.act ≡ Create → HasCreate stack (mid ++ e ∷ behind)
create_in stack mid behind e it c creates_ = record {
  entry = e;
  among = Contains-append_right mid (e ∷ behind) e (here e e behind refl);
  it = it;
  command = c;
  creates = creates_;
}

same_plan : (stack : List ℕ) (e f : Entry) (a b : Latest) → IsCommandOf stack e a → IsCommandOf stack f b → e ≡ f
    → a.plan ≡ b.plan
same_plan stack e f a b c d is = let eq = sym c.is ∙ (ap (λ (y : Entry). y.what) is ∙ d.is) in cc

abbrev Splits : List Entry → List Entry → Entry → List Entry → Entry → Type 0
Splits before behind e behind' f =
    ((rest : List Entry) × (behind' ≡ rest ++ e ∷ behind)) ⊎
    (((e ≡ f) × (behind ≡ behind')) ⊎ ((rest : List Entry) × (behind ≡ rest ++ f ∷ behind')))

two_splits : (h before behind before' behind' : List Entry) (e f : Entry) → h ≡ before ++ e ∷ behind
    → h ≡ before' ++ f ∷ behind' → Splits before behind e behind' f
two_splits h before behind before' behind' e f a b = by (split before (e ∷ behind) before' behind' f (sym a ∙ b))
  where
    by : ((rest : List Entry) × (before ≡ before' ++ f ∷ rest) × (behind' ≡ rest ++ e ∷ behind))
        ⊎ ((mid : List Entry) × (e ∷ behind ≡ mid ++ f ∷ behind') × (before' ≡ before ++ mid))
        → Splits before behind e behind' f
    by (inl (rest, i, j)) = inl (rest, j)
    by (inr ([], i, j)) = inr (inl (cc, cc))
    by (inr (m ∷ ms, i, j)) = inr (inr (ms, cc))

-- a create that is the last and none reached, beside one that was reached
reached_created : (stack : List ℕ) (h before behind : List Entry) (e : Entry) (it : Latest) → h ≡ before ++ e ∷ behind
    → IsReached stack e behind it → ¬ HasCreate stack behind
    → (before' behind' : List Entry) (f : Entry) (that : Latest) → h ≡ before' ++ f ∷ behind'
    → IsCommandOf stack f that → that.act ≡ Create
    → IsNeverReached stack (f ∷ behind') → plan_of it.plan ≡ plan_of None
reached_created stack h before behind e it is r no_create before' behind' f that is' command_ creates_ never' =
    by (two_splits h before behind before' behind' e f is is') where
      by : Splits before behind e behind' f → plan_of it.plan ≡ plan_of None
      by (inl (rest, later)) = absurd (never' (f ∷ rest) behind e it (ap (λ (y : List Entry). f ∷ y) later) r)
      by (inr (inl (same, later))) = absurd (never' [] behind e it
          (ap (λ (y : Entry). y ∷ behind') (sym same) ∙ ap (λ (y : List Entry). e ∷ y) (sym later)) r)
      by (inr (inr (rest, later))) =
          absurd (no_create (subst (HasCreate stack) (sym later)
          (create_in stack rest behind' f that command_ creates_)))

pub last_once : (o : Opening) (h : List Entry) (stack : List ℕ) (p q : PlanData) → IsLast o h stack p
    → IsLast o h stack q → p ≡ q
last_once o h stack _ _ (reached before behind e it is r no_create never_)
    (reached before' behind' f that is' r' no_create' never') =
    by (two_splits h before behind before' behind' e f is is') where
      by : Splits before behind e behind' f → plan_of it.plan ≡ plan_of that.plan
      by (inl (rest, later)) = absurd (never' rest behind e it later r)
      by (inr (inl (same, later))) = ap plan_of (same_plan stack e f it that r.command r'.command same)
      by (inr (inr (rest, later))) = absurd (never_ rest behind' f that later r')
last_once o h stack _ _ (reached before behind e it is r no_create never_)
    (opened st no_create' never' found keeps_ was) = absurd (never' before behind e it is r)
last_once o h stack _ _ (reached before behind e it is r no_create never_) (kept no_create' never' unreached) =
    absurd (never' before behind e it is r)
last_once o h stack _ _ (reached before behind e it is r no_create never_)
    (created before' behind' f that is' command_ creates_ no_create' never') =
    reached_created stack h before behind e it is r no_create before' behind' f that is' command_ creates_ never'
last_once o h stack _ _ (opened st no_create never_ found keeps_ was)
    (reached before behind e it is r no_create' never') = absurd (never_ before behind e it is r)
last_once o h stack _ _ (opened st no_create never_ found keeps_ was)
    (opened st' no_create' never' found' keeps' was') =
    ap (λ (y : Stack). plan_of y.plan) (same_some st st' found found')
last_once o h stack _ _ (opened st no_create never_ found keeps_ was) (kept no_create' never' unreached) =
    absurd (unreached st found keeps_ was)
last_once o h stack _ _ (opened st no_create never_ found keeps_ was)
    (created before behind f that is command_ creates_ no_create' never') =
    absurd (no_create (subst (HasCreate stack) (sym is) (create_in stack before behind f that command_ creates_)))
last_once o h stack _ _ (kept no_create never_ unreached) (reached before behind e it is r no_create' never') =
    absurd (never_ before behind e it is r)
last_once o h stack _ _ (kept no_create never_ unreached) (opened st no_create' never' found keeps_ was) =
    absurd (unreached st found keeps_ was)
last_once o h stack _ _ (kept no_create never_ unreached) (kept no_create' never' unreached') = refl
last_once o h stack _ _ (kept no_create never_ unreached)
    (created before behind f that is command_ creates_ no_create' never') =
    absurd (no_create (subst (HasCreate stack) (sym is) (create_in stack before behind f that command_ creates_)))
last_once o h stack _ _ (created before' behind' f that is' command_ creates_ no_create' never')
    (reached before behind e it is r no_create never_) =
    sym (reached_created stack h before behind e it is r no_create before' behind' f that is' command_ creates_
    never')
last_once o h stack _ _ (created before behind e it is command_ creates_ no_create never_)
    (opened st no_create' never' found keeps_ was) =
    absurd (no_create' (subst (HasCreate stack) (sym is) (create_in stack before behind e it command_ creates_)))
last_once o h stack _ _ (created before behind e it is command_ creates_ no_create never_)
    (kept no_create' never' unreached) =
    absurd (no_create' (subst (HasCreate stack) (sym is) (create_in stack before behind e it command_ creates_)))
last_once o h stack _ _ (created before behind e it is command_ creates_ no_create never_)
    (created before' behind' f that is' command' creates' no_create' never') = refl
