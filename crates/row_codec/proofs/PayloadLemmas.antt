-- What a payload's bytes are, read and written.
use Rattle.std.proofs.Common.{◌≡◌, ◌∙◌, ◌≤◌, ◌<◌, ◌-◌, ◌^◌, ℕ, List, [], ◌∷◌, ◌++◌, All, length, min, ap, sym, subst, refl, arith}
use Rattle.std.specs.Prelude.{Result, Ok, Err, Option, Some, None, IfOk, IfSome, IsNone}
use Rattle.std.proofs.lemmas.List.{append-nil, take_all}
use Rattle.core_state.specs.declared.change.Change.{Change}
use Rattle.plan_codec.specs.declared.unread.Unread.{Unread}
use Rattle.plan_codec.specs.declared.unread.Unread.TheVariants as unread
use Rattle.plan_codec.specs.Sheets.{behind, blank}
use Rattle.plan_codec.specs.Spellings.{Takes, Lacks, Refuses}
use Rattle.row_codec.specs.Changes.{spelled, AreProper, IsSpelling, IsStorable, IsProper}
use Rattle.row_codec.specs.ChangeLaws.{changes_unique}

nothing : (xs : List ℕ) → length xs ≡ 0 → xs ≡ []
nothing [] e = refl
nothing (x ∷ xs) e = absurd (omega (arith, e))

-- nothing is left behind the changes
all_read : (bytes rest : List ℕ) (cs : List Change) → length rest ≡ 0 → Takes spelled AreProper bytes cs rest
    → IsSpelling bytes cs
all_read bytes rest cs end t =
    (t.parts ∙ ap (λ (r : List ℕ). spelled cs ++ r) (nothing rest end) ∙ append-nil (spelled cs), t.fits)

-- something is left
more_left : (bytes rest : List ℕ) (cs : List Change) → 0 < length rest → Takes spelled AreProper bytes cs rest
    → (ds : List Change) → IsSpelling bytes ds → ⊥
more_left bytes rest cs some t ds is =
    let both = changes_unique.one cs ds rest [] t.fits is.1 (sym t.parts ∙ is.0 ∙ sym (append-nil (spelled ds))) in
    absurd (omega (arith, some, ap length both.1))

-- nothing was read
none_read : (bytes : List ℕ) → Lacks spelled AreProper bytes → (ds : List Change) → IsSpelling bytes ds → ⊥
none_read bytes h ds is = h.none ds [] is.1 (is.0 ∙ sym (append-nil (spelled ds)))

pub some_read : {A : Type 0} (view : A → List Change) (r : Option A) (bytes rest : List ℕ) (cs : List Change)
    → Takes spelled AreProper bytes cs rest → IfSome r (λ v. (view v ≡ cs) × (length rest ≡ 0))
    → IfSome r (λ v. IsSpelling bytes (view v))
some_read view (Some v) bytes rest cs t h = subst (IsSpelling bytes) (sym h.0) (all_read bytes rest cs h.1 t)
some_read view None bytes rest cs t h = tt

module _ {A E : Type 0} (view : A → List Change) where
  pub no_some : (r : Result (Option A) E) (bytes : List ℕ) (Q : Type 0) → IfOk r (λ o. IsNone o × Q)
      → IfOk r (λ o. IfSome o (λ v. IsSpelling bytes (view v)))
  no_some (Ok (Some v)) bytes Q h = absurd (let none = h.0 in cc)
  no_some (Ok None) bytes Q h = tt
  no_some (Err e) bytes Q h = tt

pub none_left : {A : Type 0} (r : Option A) (bytes rest : List ℕ) (cs : List Change)
    → Takes spelled AreProper bytes cs rest → (IsNone r → 0 < length rest)
    → IsNone r → (ds : List Change) → ¬ IsSpelling bytes ds
none_left r bytes rest cs t h none ds = more_left bytes rest cs (h none) t ds

pub none_unread : {A E : Type 0} (r : Result (Option A) E) (bytes : List ℕ) (why : Unread)
    → Refuses spelled AreProper bytes why → IfOk r (λ o. IsNone o × (why ≡ unread.Unspelled))
    → IfOk r (λ o. IsNone o → (ds : List Change) → ¬ IsSpelling bytes ds)
none_unread (Ok o) bytes why no_list h = λ none. none_read bytes (subst (Refuses spelled AreProper bytes) h.1 no_list)
none_unread (Err e) bytes why no_list h = tt

-- what a blank sheet counts and keeps
pub counted : (bytes : List ℕ) (room : ℕ) → (behind (blank room) bytes).count ≡ min (length bytes) (2 ^ 64 - 1)
unfolding behind
counted bytes room = omega arith

pub kept_all : (bytes : List ℕ) (room : ℕ) → length bytes ≤ room → (behind (blank room) bytes).kept ≡ bytes
unfolding behind
kept_all bytes room le = take_all room bytes le

pub same_room : (bytes : List ℕ) (room : ℕ) → (behind (blank room) bytes).room ≡ room
unfolding behind
same_room bytes room = refl

-- changes of which each is proper if it may be stored
abbrev pub IsKept : Change → Type 0
IsKept c = IsStorable c → IsProper c

pub each_proper : (cs : List Change) → All IsKept cs → All IsStorable cs → All IsProper cs
each_proper cs kept may k d less = kept k d less (may k d less)
