-- A call that alone is told, and entries that only note something.
use Rattle.std.proofs.Common.{List, arith, inl, inr, refl, subst, sym, ◌∙◌}
use Rattle.std.specs.Prelude.{List, Option, [], ℕ, ◌++◌, ◌∷◌, ◌≡◌}
use Rattle.heat_plan.specs.declared.token.Token.{Token}
use Rattle.row_table.specs.declared.row.Row.{Row}
use Rattle.step_relation.specs.Changes.{applied}
use Rattle.step_relation.specs.State.{StateData}
use Rattle.step_relation.specs.declared.Change.{Change}
use Rattle.step_relation.specs.declared.Actor.TheVariants.{Main}
use Rattle.step_relation.specs.declared.Entry.{Entry}
use Rattle.step_relation.specs.declared.What.{What}
use Rattle.step_relation.specs.declared.Stack.{Stack}
use Rattle.step_relation.specs.Given.{Answer, Given}
use Rattle.step_relation.specs.Moves.{Move}
use Rattle.step_relation.specs.Steps.{BeginsWithCall, IsNote, notes, previews, ran, shows, turned}
use Rattle.step_relation.specs.Writes.{call_entry, entry_of}
use Rattle.step_relation.specs.Opening.{Opening}
use Rattle.step_relation.specs.Stored.{released_by, stored_by}
use Rattle.step_relation.specs.Agrees.{Agrees}
use Rattle.step_relation.specs.Groups.{IsQuietEntry, IsQuietTo, ToldByOthers}
use Rattle.step_relation.specs.Sound.{Sound}
use Rattle.step_relation.specs.Tells.{ReleasedFits, Tells}
use Rattle.history_laws.proofs.tells.Silence.{AreUncalling, IsUncalling, IsUnmarking}
use Rattle.history_laws.proofs.agrees.Asked.{waits_outcome}
use Rattle.history_laws.proofs.agrees.MoveTold.{move_outcome}
use Rattle.history_laws.proofs.agrees.Outcome.{CallMade, Outcome, called, outcome_agrees, outcome_released, outcome_tells}
use Rattle.history_laws.proofs.agrees.Outcome.{uncalled}
use Rattle.history_laws.proofs.agrees.Taken.{goes_still, outcome_plain}

record QuietFacts (it : What) : Type 0 where
  unmarking : IsUnmarking it
  uncalling : IsUncalling it
  stored_is : (rows : List Row) → stored_by rows it ≡ rows
  released_is : (ts : List Token) → released_by ts it ≡ ts

note_facts : (it : What) → IsNote it → QuietFacts it
note_facts _ (shows it stack) = record {
  unmarking = tt;
  uncalling = tt;
  stored_is = λ rows. refl;
  released_is =
      λ ts. refl;
}
note_facts _ (notes line code path) = record {
  unmarking = tt;
  uncalling = tt;
  stored_is = λ rows. refl;
  released_is =
      λ ts. refl;
}
note_facts _ (ran idle turns) = record {
  unmarking = tt;
  uncalling = tt;
  stored_is = λ rows. refl;
  released_is =
      λ ts. refl;
}
note_facts _ (turned e lost) = record {
  unmarking = tt;
  uncalling = tt;
  stored_is = λ rows. refl;
  released_is =
      λ ts. refl;
}
note_facts _ (previews stack forecast) = record {
  unmarking = tt;
  uncalling = tt;
  stored_is = λ rows. refl;
  released_is =
      λ ts. refl;
}

quiet_facts : (it : What) → IsQuietEntry it → QuietFacts it
quiet_facts it (inl note_) = note_facts it note_
quiet_facts it (inr (inl is)) =
    subst QuietFacts (sym is)
    (record { unmarking = tt; uncalling = tt; stored_is = λ rows. refl; released_is = λ ts. refl })
quiet_facts it (inr (inr (change, is))) = subst QuietFacts (sym is)
    (record { unmarking = tt; uncalling = tt; stored_is = λ rows. refl; released_is = λ ts. refl })

pub quiet_outcome : (o : Opening) (h : List Entry) (s t : StateData) (it : What) → Sound o h s → IsQuietEntry it
    → IsQuietTo s t
    → Outcome o h s t 0 (entry_of Main it ∷ [])
quiet_outcome o h s t it x quiet to = subst (λ (u : StateData). Outcome o h s u 0 (entry_of Main it ∷ [])) (sym to.is)
    (outcome_plain o h s (record s { live = to.live; next = record s.next { engine = to.engine } }) 0
    (entry_of Main it ∷ [])
    (f.unmarking, tt) (f.uncalling, tt) (λ i. cc) (f.stored_is s.rows) (f.released_is s.released) refl refl
    (goes_still o (h ++ entry_of Main it ∷ []) s
    (record s { live = to.live; next = record s.next { engine = to.engine } }) refl refl refl (omega arith)))
  where
    f : QuietFacts it
    f = quiet_facts it quiet

-- the call with which a move begins
pub call_outcome : (o : Opening) (h : List Entry) (s : StateData) (e : ℕ) (given : Given) (failed_ : Option Stack)
    (cs : List Change) (es : List Entry) (call : Entry)
    → Sound o h s → Move s e given failed_ cs es → BeginsWithCall es call → Outcome o h s s e (call ∷ [])
call_outcome o h s e given failed_ cs es call x move begins_ =
    by (move_outcome o h s e x given failed_ cs es move).call where
      by : CallMade s (applied cs s) e es → Outcome o h s s e (call ∷ [])
      by (uncalled none some) =
          let first : IsUncalling call.what = (subst AreUncalling begins_.entries none).0 in
          absurd (subst IsUncalling begins_.is_call.3 first)
      by (called r asked answer_ rest k es_is none ends_ tokens) =
          let eq = sym es_is ∙ begins_.entries in
          let is : call_entry e r asked answer_ ≡ call = cc in
          subst (λ (c : Entry). Outcome o h s s e (c ∷ [])) is (waits_outcome o h s e x r asked answer_ k)

pub others_tell : ToldByOthers Tells
others_tell = record {
  unstored = λ o h s e given failed_ cs es call x move begins_ possible. outcome_tells o h s s e (call ∷ []) x
      (call_outcome o h s e (Answer given) failed_ cs es call x move begins_);
  quiet = λ o h s t it x quiet to. outcome_tells o h s t 0 (entry_of Main it ∷ []) x
      (quiet_outcome o h s t it x quiet to);
}

pub others_agree : ToldByOthers Agrees
others_agree = record {
  unstored = λ o h s e given failed_ cs es call x move begins_ possible. outcome_agrees o h s s e (call ∷ []) x
      (call_outcome o h s e (Answer given) failed_ cs es call x move begins_);
  quiet = λ o h s t it x quiet to. outcome_agrees o h s t 0 (entry_of Main it ∷ []) x
      (quiet_outcome o h s t it x quiet to);
}

pub others_release : ToldByOthers ReleasedFits
others_release = record {
  unstored = λ o h s e given failed_ cs es call x move begins_ possible. outcome_released o h s s e (call ∷ []) x
      (call_outcome o h s e (Answer given) failed_ cs es call x move begins_);
  quiet = λ o h s t it x quiet to. outcome_released o h s t 0 (entry_of Main it ∷ []) x
      (quiet_outcome o h s t it x quiet to);
}
