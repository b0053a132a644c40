-- Entries that say nothing of commands and marks, or of calls, leave the readings of these as they are.
use Rattle.std.proofs.Common.{ap, refl, ◌∙◌}
use Rattle.std.specs.Prelude.{Bool, List, Option, [], ℕ, ◌++◌, ◌∷◌, ◌≡◌}
use Rattle.heat_plan.specs.declared.token.Token.{Token}
use Rattle.provider.specs.Table.{TokenState}
use Rattle.step_relation.specs.declared.Actor.{Actor}
use Rattle.step_relation.specs.declared.Entry.{Entry}
use Rattle.step_relation.specs.declared.MailWrite.{MailWrite}
use Rattle.step_relation.specs.declared.RowWrite.{RowWrite}
use Rattle.step_relation.specs.declared.What.{What}
use Rattle.step_relation.specs.Writes.{mail_entry, rows_entry}
use Rattle.step_relation.specs.Could.{could_by, could_of}
use Rattle.step_relation.specs.Marked.{Marked, marked_by, marked_of}
use Rattle.step_relation.specs.Newest.{Latest, newest, newest_by, rollback_by, rollback_of}
use Rattle.step_relation.specs.Opening.{Opening}
use Rattle.history_laws.proofs.tells.Appends.{could-append, could_on, marked-append, marked_on, newest-append, newest_on}
use Rattle.history_laws.proofs.tells.Appends.{rollback-append, rollback_on}
use Rattle.step_relation.specs.declared.What.TheVariants as what

-- neither a command nor a mark
abbrev pub IsUnmarking : What → Type 0
IsUnmarking (what.Command stack trav act plan rollback) = ⊥
IsUnmarking (what.Mark stack trav act cause) = ⊥
IsUnmarking (what.Call token request given) = Unit {0}
IsUnmarking (what.Release token) = Unit {0}
IsUnmarking (what.Rows writes) = Unit {0}
IsUnmarking (what.Mail writes) = Unit {0}
IsUnmarking (what.Engine change) = Unit {0}
IsUnmarking (what.Show it stack) = Unit {0}
IsUnmarking (what.Note line code path) = Unit {0}
IsUnmarking (what.Ran idle turns) = Unit {0}
IsUnmarking (what.Turned engine lost) = Unit {0}
IsUnmarking (what.Preview stack forecast) = Unit {0}
IsUnmarking what.Closed = Unit {0}

-- not a call
abbrev pub IsUncalling : What → Type 0
IsUncalling (what.Call token request given) = ⊥
IsUncalling (what.Command stack trav act plan rollback) = Unit {0}
IsUncalling (what.Mark stack trav act cause) = Unit {0}
IsUncalling (what.Release token) = Unit {0}
IsUncalling (what.Rows writes) = Unit {0}
IsUncalling (what.Mail writes) = Unit {0}
IsUncalling (what.Engine change) = Unit {0}
IsUncalling (what.Show it stack) = Unit {0}
IsUncalling (what.Note line code path) = Unit {0}
IsUncalling (what.Ran idle turns) = Unit {0}
IsUncalling (what.Turned engine lost) = Unit {0}
IsUncalling (what.Preview stack forecast) = Unit {0}
IsUncalling what.Closed = Unit {0}

abbrev pub AreUnmarking : List Entry → Type 0
AreUnmarking [] = Unit {0}
AreUnmarking (e ∷ es) = IsUnmarking e.what × AreUnmarking es

abbrev pub AreUncalling : List Entry → Type 0
AreUncalling [] = Unit {0}
AreUncalling (e ∷ es) = IsUncalling e.what × AreUncalling es

pub unmarking-both : (es fs : List Entry) → AreUnmarking es → AreUnmarking fs → AreUnmarking (es ++ fs)
unmarking-both [] fs h i = i
unmarking-both (e ∷ es) fs h i = (h.0, unmarking-both es fs h.1 i)

pub uncalling-both : (es fs : List Entry) → AreUncalling es → AreUncalling fs → AreUncalling (es ++ fs)
uncalling-both [] fs h i = i
uncalling-both (e ∷ es) fs h i = (h.0, uncalling-both es fs h.1 i)

pub unmarking_rows : (actor : Actor) (ws : List RowWrite) → AreUnmarking (rows_entry actor ws)
unmarking_rows actor [] = tt
unmarking_rows actor (w ∷ ws) = (tt, tt)

pub unmarking_mail : (actor : Actor) (ws : List MailWrite) → AreUnmarking (mail_entry actor ws)
unmarking_mail actor [] = tt
unmarking_mail actor (w ∷ ws) = (tt, tt)

pub uncalling_rows : (actor : Actor) (ws : List RowWrite) → AreUncalling (rows_entry actor ws)
uncalling_rows actor [] = tt
uncalling_rows actor (w ∷ ws) = (tt, tt)

pub uncalling_mail : (actor : Actor) (ws : List MailWrite) → AreUncalling (mail_entry actor ws)
uncalling_mail actor [] = tt
uncalling_mail actor (w ∷ ws) = (tt, tt)

newest-skip : (s : List ℕ) (b : Option Latest) (w : What) → IsUnmarking w → newest_by s b w ≡ b
newest-skip s b (what.Command stack trav act plan rollback) h = absurd h
newest-skip s b (what.Mark stack trav act cause) h = absurd h
newest-skip s b (what.Call token request given) h = refl
newest-skip s b (what.Release token) h = refl
newest-skip s b (what.Rows writes) h = refl
newest-skip s b (what.Mail writes) h = refl
newest-skip s b (what.Engine change) h = refl
newest-skip s b (what.Show it stack) h = refl
newest-skip s b (what.Note line code path) h = refl
newest-skip s b (what.Ran idle turns) h = refl
newest-skip s b (what.Turned engine lost) h = refl
newest-skip s b (what.Preview stack forecast) h = refl
newest-skip s b what.Closed h = refl

marked-skip : (s : List ℕ) (b : Option Marked) (w : What) → IsUnmarking w → marked_by s b w ≡ b
marked-skip s b (what.Command stack trav act plan rollback) h = absurd h
marked-skip s b (what.Mark stack trav act cause) h = absurd h
marked-skip s b (what.Call token request given) h = refl
marked-skip s b (what.Release token) h = refl
marked-skip s b (what.Rows writes) h = refl
marked-skip s b (what.Mail writes) h = refl
marked-skip s b (what.Engine change) h = refl
marked-skip s b (what.Show it stack) h = refl
marked-skip s b (what.Note line code path) h = refl
marked-skip s b (what.Ran idle turns) h = refl
marked-skip s b (what.Turned engine lost) h = refl
marked-skip s b (what.Preview stack forecast) h = refl
marked-skip s b what.Closed h = refl

rollback-skip : (s : List ℕ) (b : Bool) (w : What) → IsUnmarking w → rollback_by s b w ≡ b
rollback-skip s b (what.Command stack trav act plan rollback) h = absurd h
rollback-skip s b (what.Mark stack trav act cause) h = absurd h
rollback-skip s b (what.Call token request given) h = refl
rollback-skip s b (what.Release token) h = refl
rollback-skip s b (what.Rows writes) h = refl
rollback-skip s b (what.Mail writes) h = refl
rollback-skip s b (what.Engine change) h = refl
rollback-skip s b (what.Show it stack) h = refl
rollback-skip s b (what.Note line code path) h = refl
rollback-skip s b (what.Ran idle turns) h = refl
rollback-skip s b (what.Turned engine lost) h = refl
rollback-skip s b (what.Preview stack forecast) h = refl
rollback-skip s b what.Closed h = refl

could-skip : (t : Token) (b : List TokenState) (w : What) → IsUncalling w → could_by t b w ≡ b
could-skip t b (what.Call token request given) h = absurd h
could-skip t b (what.Command stack trav act plan rollback) h = refl
could-skip t b (what.Mark stack trav act cause) h = refl
could-skip t b (what.Release token) h = refl
could-skip t b (what.Rows writes) h = refl
could-skip t b (what.Mail writes) h = refl
could-skip t b (what.Engine change) h = refl
could-skip t b (what.Show it stack) h = refl
could-skip t b (what.Note line code path) h = refl
could-skip t b (what.Ran idle turns) h = refl
could-skip t b (what.Turned engine lost) h = refl
could-skip t b (what.Preview stack forecast) h = refl
could-skip t b what.Closed h = refl

pub newest_on-silent : (s : List ℕ) (b : Option Latest) (es : List Entry) → AreUnmarking es → newest_on s b es ≡ b
newest_on-silent s b [] h = refl
newest_on-silent s b (e ∷ es) h = ap (λ (x : Option Latest). newest_on s x es) (newest-skip s b e.what h.0)
    ∙ newest_on-silent s b es h.1

pub marked_on-silent : (s : List ℕ) (b : Option Marked) (es : List Entry) → AreUnmarking es → marked_on s b es ≡ b
marked_on-silent s b [] h = refl
marked_on-silent s b (e ∷ es) h = ap (λ (x : Option Marked). marked_on s x es) (marked-skip s b e.what h.0)
    ∙ marked_on-silent s b es h.1

pub rollback_on-silent : (s : List ℕ) (b : Bool) (es : List Entry) → AreUnmarking es → rollback_on s b es ≡ b
rollback_on-silent s b [] h = refl
rollback_on-silent s b (e ∷ es) h = ap (λ (x : Bool). rollback_on s x es) (rollback-skip s b e.what h.0)
    ∙ rollback_on-silent s b es h.1

pub could_on-silent : (t : Token) (b : List TokenState) (es : List Entry) → AreUncalling es → could_on t b es ≡ b
could_on-silent t b [] h = refl
could_on-silent t b (e ∷ es) h = ap (λ (x : List TokenState). could_on t x es) (could-skip t b e.what h.0)
    ∙ could_on-silent t b es h.1

pub newest-silent : (o : Opening) (h es : List Entry) (s : List ℕ) → AreUnmarking es
    → newest o (h ++ es) s ≡ newest o h s
newest-silent o h es s silent = newest-append o h es s ∙ newest_on-silent s (newest o h s) es silent

pub marked-silent : (o : Opening) (h es : List Entry) (s : List ℕ) → AreUnmarking es
    → marked_of o (h ++ es) s ≡ marked_of o h s
marked-silent o h es s silent = marked-append o h es s ∙ marked_on-silent s (marked_of o h s) es silent

pub rollback-silent : (o : Opening) (h es : List Entry) (s : List ℕ) → AreUnmarking es
    → rollback_of o (h ++ es) s ≡ rollback_of o h s
rollback-silent o h es s silent = rollback-append o h es s ∙ rollback_on-silent s (rollback_of o h s) es silent

pub could-silent : (o : Opening) (h es : List Entry) (t : Token) → AreUncalling es
    → could_of o (h ++ es) t ≡ could_of o h t
could-silent o h es t silent = could-append o h es t ∙ could_on-silent t (could_of o h t) es silent
