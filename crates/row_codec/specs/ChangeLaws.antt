-- That lists of changes have one spelling each.
use Rattle.std.specs.Prelude.{◌≡◌, ℕ, List, [], ◌∷◌, ◌++◌}
use Rattle.std.proofs.Common.{ap, sym, subst, ◌∙◌, append-nil, get_or}
use Rattle.core_state.specs.declared.change.Change.{Change}
use Rattle.core_state.specs.declared.change.Change.TheVariants as change
use Rattle.plan_codec.specs.Spellings.{IsUnique}
use Rattle.plan_codec.specs.Laws.{drawn_unique, stack_name_unique, pair_unique, list_unique}
use Rattle.row_codec.specs.RecordLaws.{stack_unique, row_unique, graph_unique, point_unique, letter_unique, job_unique}
use Rattle.row_codec.specs.RecordLaws.{numbers_unique, past_unique, token_unique}
use Rattle.row_codec.specs.Changes.{spelled_change, the_tag, IsProper, spelled, AreProper, IsSpelling}
use Rattle.row_codec.specs.Kinds.{IsKind, put_stack_kind, drop_stack_kind, put_row_kind, drop_row_kind, put_graph_kind}
use Rattle.row_codec.specs.Kinds.{put_point_kind, send_kind, drop_kind, put_job_kind, end_job_kind, enlist_kind, stop_kind}
use Rattle.row_codec.specs.Kinds.{numbers_kind, put_past_kind, release_kind}

module _ {A : Type 0} {tag : ℕ} {make : A → Change} {fields : A → List ℕ} {proper : A → Type 0}
    (k : IsKind tag make fields proper) where
  -- what begins as a change of this kind is one of it
  pub of_kind : (rest : List ℕ) (y : Change) (q : List ℕ) → IsProper y → tag ∷ rest ≡ spelled_change y ++ q
      → (z : A) × proper z × (make z ≡ y) × (rest ≡ fields z ++ q)
  of_kind rest y q o e =
      let first : the_tag y ≡ tag = sym (ap (λ (b : List ℕ). get_or b 0 0) e) in
      let found = k.found y first in
      let whole : tag ∷ rest ≡ tag ∷ (fields found.0 ++ q) =
      e ∙ ap (λ (c : Change). spelled_change c ++ q) (sym found.1) ∙ ap (λ (t : List ℕ). t ++ q) (k.spells found.0) in
      (found.0, k.asks found.0 (subst IsProper (sym found.1) o), found.1, cc)

  -- what begins as this change is this one
  begun_alike : IsUnique fields proper → (x : A) (y : Change) (r q : List ℕ) → IsProper (make x) → IsProper y
      → spelled_change (make x) ++ r ≡ spelled_change y ++ q → (make x ≡ y) × (r ≡ q)
  begun_alike u x y r q p o e =
      let found = of_kind (fields x ++ r) y q o (ap (λ (t : List ℕ). t ++ r) (sym (k.spells x)) ∙ e) in
      let both = u.one x found.0 r q (k.asks x p) found.1 found.3 in
      (ap make both.0 ∙ found.2, both.1)

changes : (x y : Change) (r q : List ℕ) → IsProper x → IsProper y → spelled_change x ++ r ≡ spelled_change y ++ q
    → (x ≡ y) × (r ≡ q)
changes (change.PutStack x) = begun_alike put_stack_kind stack_unique x
changes (change.DropStack x) = begun_alike drop_stack_kind stack_name_unique x
changes (change.PutRow x) = begun_alike put_row_kind row_unique x
changes (change.DropRow x) = begun_alike drop_row_kind drawn_unique x
changes (change.PutGraph n g) = begun_alike put_graph_kind (pair_unique stack_name_unique graph_unique) (n, g)
changes (change.PutPoint x) = begun_alike put_point_kind point_unique x
changes (change.Send x) = begun_alike send_kind letter_unique x
changes (change.Drop x) = begun_alike drop_kind drawn_unique x
changes (change.PutJob x) = begun_alike put_job_kind job_unique x
changes (change.EndJob x) = begun_alike end_job_kind drawn_unique x
changes (change.Enlist x) = begun_alike enlist_kind drawn_unique x
changes (change.Stop x) = begun_alike stop_kind drawn_unique x
changes (change.Numbers x) = begun_alike numbers_kind numbers_unique x
changes (change.PutPast x) = begun_alike put_past_kind past_unique x
changes (change.Release x) = begun_alike release_kind token_unique x

pub change_unique : IsUnique spelled_change IsProper
change_unique = record { one = changes }

pub changes_unique : IsUnique spelled AreProper
changes_unique = list_unique change_unique

-- bytes are the spelling of one list at most
pub one_reading : (bytes : List ℕ) (cs ds : List Change) → IsSpelling bytes cs → IsSpelling bytes ds → cs ≡ ds
one_reading bytes cs ds a b =
    (changes_unique.one cs ds [] [] a.1 b.1
    (append-nil (spelled cs) ∙ sym a.0 ∙ b.0 ∙ sym (append-nil (spelled ds)))).0

-- no spelling goes on as another
pub no_prefix : (bytes rest : List ℕ) (cs ds : List Change) → IsSpelling bytes cs → IsSpelling (bytes ++ rest) ds
    → rest ≡ []
no_prefix bytes rest cs ds a b =
    (changes_unique.one cs ds rest [] a.1 b.1
    (ap (λ (t : List ℕ). t ++ rest) (sym a.0) ∙ b.0 ∙ sym (append-nil (spelled ds)))).1
