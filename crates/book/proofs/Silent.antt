-- Entries that tell of no call and of no engine: nothing was asked of the cloud.
use Rattle.std.proofs.Common.{List, Option, [], refl, ◌++◌, ◌∷◌, ◌≡◌}
use Rattle.std.specs.Prelude.{None, Some, map}
use Rattle.traversal_graph.specs.declared.shape.Node.{Node}
use Rattle.core_state.specs.State.{StateData}
use Rattle.core_state.specs.declared.entry.Actor.{Actor}
use Rattle.core_state.specs.declared.entry.Cause.{Cause}
use Rattle.core_state.specs.declared.entry.Entry.{Entry}
use Rattle.core_state.specs.declared.entry.MailWrite.{MailWrite}
use Rattle.core_state.specs.declared.entry.MailWrite.TheVariants.{Sent}
use Rattle.core_state.specs.declared.entry.RowWrite.{RowWrite}
use Rattle.core_state.specs.declared.entry.RowWrite.TheVariants.{Set}
use Rattle.core_state.specs.declared.entry.What.{What}
use Rattle.core_state.specs.declared.entry.What.TheVariants as what
use Rattle.core_state.specs.declared.stack.Stack.{Stack}
use Rattle.step_relation.specs.Commands.{Lays, Sets, first_letters, laid_entries, settled_mark}
use Rattle.step_relation.specs.Writes.{failed_mark, mail_entry, rows_entry}
use Rattle.history_laws.proofs.tells.Silence.{AreUncalling, IsUncalling}
use Rattle.book.specs.Kept.{call_of, calls_of}

abbrev pub IsSilent : What → Type 0
IsSilent (what.Call token request given) = ⊥
IsSilent (what.Engine change) = ⊥
IsSilent (what.Command stack trav act plan rollback) = Unit {0}
IsSilent (what.Mark stack trav act cause) = Unit {0}
IsSilent (what.Release token) = Unit {0}
IsSilent (what.Rows writes) = Unit {0}
IsSilent (what.Mail writes) = Unit {0}
IsSilent (what.Show it stack) = Unit {0}
IsSilent (what.Note line code path) = Unit {0}
IsSilent (what.Ran idle turns) = Unit {0}
IsSilent (what.Turned engine lost) = Unit {0}
IsSilent (what.Preview stack forecast) = Unit {0}
IsSilent what.Closed = Unit {0}

abbrev pub AreSilent : List Entry → Type 0
AreSilent [] = Unit {0}
AreSilent (e ∷ es) = IsSilent e.what × AreSilent es

uncalling_of : (w : What) → IsSilent w → IsUncalling w
uncalling_of (what.Call token request given) h = absurd h
uncalling_of (what.Engine change) h = absurd h
uncalling_of (what.Command stack trav act plan rollback) h = tt
uncalling_of (what.Mark stack trav act cause) h = tt
uncalling_of (what.Release token) h = tt
uncalling_of (what.Rows writes) h = tt
uncalling_of (what.Mail writes) h = tt
uncalling_of (what.Show it stack) h = tt
uncalling_of (what.Note line code path) h = tt
uncalling_of (what.Ran idle turns) h = tt
uncalling_of (what.Turned engine lost) h = tt
uncalling_of (what.Preview stack forecast) h = tt
uncalling_of what.Closed h = tt

pub silent_uncalling : (es : List Entry) → AreSilent es → AreUncalling es
silent_uncalling [] h = tt
silent_uncalling (e ∷ es) h = (uncalling_of e.what h.0, silent_uncalling es h.1)

call_of-silent : (w : What) → IsSilent w → call_of w ≡ []
call_of-silent (what.Call token asked given) h = absurd h
call_of-silent (what.Engine change) h = absurd h
call_of-silent (what.Command stack trav act plan rollback) h = refl
call_of-silent (what.Release token) h = refl
call_of-silent (what.Mark stack trav act cause) h = refl
call_of-silent (what.Rows writes) h = refl
call_of-silent (what.Mail writes) h = refl
call_of-silent (what.Show it stack) h = refl
call_of-silent (what.Note line code path) h = refl
call_of-silent (what.Ran idle turns) h = refl
call_of-silent (what.Turned engine lost) h = refl
call_of-silent (what.Preview stack forecast) h = refl
call_of-silent what.Closed h = refl

pub calls_of-silent : (es : List Entry) → AreSilent es → calls_of es ≡ []
calls_of-silent [] h = refl
calls_of-silent (e ∷ es) h = rw (call_of-silent e.what h.0) (calls_of-silent es h.1)

pub silent-both : (es fs : List Entry) → AreSilent es → AreSilent fs → AreSilent (es ++ fs)
silent-both [] fs h i = i
silent-both (e ∷ es) fs h i = (h.0, silent-both es fs h.1 i)

pub silent_rows : (actor : Actor) (ws : List RowWrite) → AreSilent (rows_entry actor ws)
silent_rows actor [] = tt
silent_rows actor (w ∷ ws) = (tt, tt)

pub silent_mail : (actor : Actor) (ws : List MailWrite) → AreSilent (mail_entry actor ws)
silent_mail actor [] = tt
silent_mail actor (w ∷ ws) = (tt, tt)

pub silent_mark : (actor : Actor) (failed : Option Stack) (cause : Cause) → AreSilent (failed_mark actor failed cause)
silent_mark actor None cause = tt
silent_mark actor (Some st) cause = (tt, tt)

silent_settled : (nodes : List Node) (s : StateData) (name : List _) (it : Sets) → AreSilent
    (settled_mark nodes s name it)
silent_settled [] s name it = (tt, tt)
silent_settled (n ∷ nodes) s name it = tt

-- what a command tells
pub laid_silent : (s : StateData) (name : List _) (items : List _) (it : Sets) (k : Lays s name items) → AreSilent
    (laid_entries s name items it k)
laid_silent s name items it k = (
  tt,
  silent-both (rows_entry it.actor (map Set k.rows)) _ (silent_rows it.actor (map Set k.rows))
      (silent-both (mail_entry it.actor (map Sent (first_letters s name items it k))) _
      (silent_mail it.actor (map Sent (first_letters s name items it k)))
      (silent_settled k.graph.nodes s name it)),
)
