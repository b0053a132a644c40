-- A run that goes one call on.
use Rattle.std.proofs.Common.{◌≡◌, ◌<◌, ◌+◌, ◌∙◌, ℕ, List, [], ◌∷◌, ◌++◌, length, get_or, take, refl, sym, ap, subst, subst₂}
use Rattle.std.proofs.lemmas.List.{take_more}
use Rattle.mail_table.specs.Mail.{Mail}
use Rattle.mail_table.specs.declared.ops.MailOp.{MailOp}
use Rattle.mail_table.specs.declared.ops.MailAnswer.{MailAnswer}
use Rattle.mail_table.specs.Runs.{Does, Runs}

pub runs_more : (os : List MailOp) (mail mid new : Mail) (done : List MailAnswer) (o : MailOp) (a : MailAnswer) → Runs os mail done mid → Does o mid a new
    → Runs (os ++ o ∷ []) mail (done ++ a ∷ []) new
runs_more [] mail mid new [] o a h d = (new, subst (λ m. Does o m a new) h d, refl)
runs_more [] mail mid new (x ∷ xs) o a h d = absurd h
runs_more (p ∷ ps) mail mid new [] o a h d = absurd h
runs_more (p ∷ ps) mail mid new (x ∷ xs) o a h d = (h.0, h.1, runs_more ps h.0 mid new xs o a h.2 d)

-- before the first call nothing is done
pub runs_none : (os : List MailOp) (mail new : Mail) (done : List MailAnswer) → done ≡ [] → new ≡ mail → Runs (take 0 os) mail done new
runs_none [] mail new done e f = subst (λ answers. Runs [] mail answers new) (sym e) f
runs_none (o ∷ os) mail new done e f = subst (λ answers. Runs [] mail answers new) (sym e) f

-- the call at a place is made
pub runs_next : (os : List MailOp) (i : ℕ) (mail mid new : Mail) (done done' : List MailAnswer) (o : MailOp) (a : MailAnswer) → i < length os → o ≡ get_or os i o
    → done' ≡ done ++ a ∷ [] → Runs (take i os) mail done mid → Does o mid a new → Runs (take (i + 1) os) mail done' new
runs_next os i mail mid new done done' o a lt read e h d =
    subst₂ (λ xs answers. Runs xs mail answers new) (sym (take_more os i o lt ∙ ap (λ x. take i os ++ x ∷ []) (sym read))) (sym e)
    (runs_more (take i os) mail mid new done o a h d)
