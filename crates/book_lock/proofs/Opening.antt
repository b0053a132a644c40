-- A lock that was just opened meets the rule.
use Rattle.std.proofs.Common.{◌≡◌, List, [], ◌∷◌, refl, sym, subst, inl, arith, zero, suc, lit<}
use Rattle.std.specs.Prelude.{Option, Some}
use Rattle.std.proofs.lemmas.List.Elements.{All-cons, All-nil}
use mathlib.Core.Option as maybe
use Rattle.atomic_table.specs.Table.{opening as opened}
use Rattle.book_lock.specs.declared.view.Stand.{Stand}
use Rattle.book_lock.specs.declared.view.View.TheVariants.{Live}
use Rattle.book_lock.specs.declared.view.Role.TheVariants as role
use Rattle.book_lock.specs.Rule.{IsAccount, Fits, IsKept, first_view, first_stand}
use Rattle.book_lock.proofs.Counts.{once_none}
use Rattle.book_lock.proofs.Prefixes.{prefix-refl}
use Rattle.book_lock.proofs.Views.{live-injective, Each}
use Rattle.std.proofs.Common.{length}

module _ {T E O : Type 0} (list : T → List E) (origin : T → O) (value : T) where
  first_fits : Fits list origin value 0 (list value) (first_stand value)
  first_fits = record {
    opened = refl;
    accounts = All-cons (IsAccount list origin value (list value)) (first_stand value).own []
        (record { begins = prefix-refl (list value); same = refl; rising = λ k h. absurd (omega arith); within = λ k d h. absurd (omega arith) })
        (All-nil (IsAccount list origin value (list value)));
    served = λ t e. let wrong : role.Idle ≡ role.Holds t = e in cc;
  }

  only_first : (P : Stand T → Type 0) → P (first_stand value) → Each P (first_view value ∷ [])
  only_first P p zero u e = subst P (live-injective (first_stand value) u (maybe.some-injective (first_view value) (Live u) e)) p
  only_first P p (suc by) u e = absurd (maybe.some-ne-none (Live u) (sym e))

  pub kept_opened : (slots : List (Option T)) → slots ≡ Some value ∷ [] → IsKept list origin value (opened (0 ∷ 0 ∷ []) slots (first_view value))
  kept_opened slots one = subst (λ (xs : List (Option T)). IsKept list origin value (opened (0 ∷ 0 ∷ []) xs (first_view value))) (sym one) (
    0,
    0,
    list value,
    record {
      words = refl;
      small = lit< tt;
      served = omega arith;
      begun = prefix-refl (list value);
      place = inl (record { value = value; homes = refl; shown = refl; same = refl });
      tickets = λ x. sym (once_none 0 x);
      names = λ row. refl;
      mines = λ x. sym (once_none (length (list value)) x);
      each = only_first (Fits list origin value 0 (list value)) first_fits;
    },
  )
