-- When a token is alive, or may be asked whether it is gone, after a call.
use Rattle.std.proofs.Common.{◌≡◌, ◌⊎◌, ℕ, List, None, refl, ◌∙◌, inl, inr}
use Rattle.heat_value.specs.Data.{Members}
use Rattle.heat_plan.specs.declared.token.Token.{Token}
use Rattle.heat_plan.specs.declared.facts.Facts.{Facts}
use Rattle.heat_plan.specs.declared.calls.Request.TheVariants as ask
use Rattle.provider.specs.declared.answers.Answer.{Answer}
use Rattle.provider.specs.declared.answers.Answer.TheVariants as gave
use Rattle.provider.specs.declared.answers.Poll.{Poll}
use Rattle.provider.specs.declared.answers.Poll.TheVariants as poll
use Rattle.provider.specs.declared.answers.Gone.{Gone}
use Rattle.provider.specs.declared.answers.Gone.TheVariants as gone
use Rattle.provider.specs.Cloud.{Cloud, IsAlive, entry_of}
use Rattle.provider.specs.Changes.{IsAsBefore, Stays, Renews, Removes, Takes}
use Rattle.provider.specs.Calls.{MayGo, HasBegun, HasFailed, Waits, IsReady, IsBroken, IsGone, Lingers}

alive_stays : (t : Token) (old new : Cloud) → Stays old new → IsAlive old t → IsAlive new t
alive_stays t old new s h = rw s.alive h

alive_renews : (t token : Token) (old new : Cloud) → Renews token old new → IsAlive old t → IsAlive new t
alive_renews t token old new s h = rw s.alive h

pub alive_created : (token : Token) (kind : List ℕ) (props : Members) (old new : Cloud) → Takes token (ask.Create kind props) old new → IsAlive new token
alive_created token kind props old new (inl a) = rw a.entry refl
alive_created token kind props old new (inr s) = alive_renews token token old new s.1 s.0

pub alive_updated : (token : Token) (props : Members) (old new : Cloud) → IsAlive old token → Takes token (ask.Update props) old new → IsAlive new token
alive_updated token props old new h (inl s) = rw s.turns.is refl
alive_updated token props old new h (inr s) = alive_renews token token old new s.1 h

alive_failed : (token : Token) (props : Members) (old new : Cloud) → IsAlive old token → Stays old new ⊎ Takes token (ask.Update props) old new → IsAlive new token
alive_failed token props old new h (inl s) = alive_stays token old new s h
alive_failed token props old new h (inr e) = alive_updated token props old new h e

alive_poll_failed : (token : Token) (old new : Cloud) → IsAlive old token → Stays old new ⊎ Takes token ask.Poll old new → IsAlive new token
alive_poll_failed token old new h (inl s) = alive_stays token old new s h
alive_poll_failed token old new h (inr e) = absurd e

-- an update leaves the token alive, whatever it answers
pub alive_after_update : (r : Answer) (token : Token) (props : Members) (old new : Cloud) → IsAlive old token
    → (r ≡ gave.Begun → HasBegun token (ask.Update props) old new) → (r ≡ gave.Quota → ⊥) → (r ≡ gave.Failed → HasFailed token (ask.Update props) old new) → (r ≡ gave.Memory → IsAsBefore old new)
    → IsAlive new token
alive_after_update gave.Begun token props old new h b q f m = alive_updated token props old new h (b refl).effect
alive_after_update gave.Quota token props old new h b q f m = absurd (q refl)
alive_after_update gave.Failed token props old new h b q f m = alive_failed token props old new h (f refl).effect
alive_after_update gave.Memory token props old new h b q f m = alive_stays token old new (m refl).stays h

-- a poll does too
pub alive_after_poll : (r : Poll) (token : Token) (old new : Cloud) → IsAlive old token
    → (r ≡ poll.NotYet → Waits token old new) → ((facts : Facts) → r ≡ poll.Ready facts → IsReady token facts old new) → ((code : List ℕ) → r ≡ poll.Broken code → IsBroken token code old new)
    → (r ≡ poll.Failed → HasFailed token ask.Poll old new) → (r ≡ poll.Memory → IsAsBefore old new) → IsAlive new token
alive_after_poll poll.NotYet token old new h n y b f m = alive_renews token token old new (n refl).lowers.rest h
alive_after_poll (poll.Ready facts) token old new h n y b f m = rw (y facts refl).turns.is refl
alive_after_poll (poll.Broken code) token old new h n y b f m = alive_stays token old new (b code refl).stays h
alive_after_poll poll.Failed token old new h n y b f m = alive_poll_failed token old new h (f refl).effect
alive_after_poll poll.Memory token old new h n y b f m = alive_stays token old new (m refl).stays h

pub may_go_sent : (token : Token) (old new : Cloud) → Takes token ask.Delete old new → MayGo new token
may_go_sent token old new (inl s) = λ there. s.now
may_go_sent token old new (inr s) = λ there. s.1.leaving token ∙ s.0 (rw (← s.1.alive) there)

may_go_stays : (token : Token) (old new : Cloud) → MayGo old token → Stays old new → MayGo new token
may_go_stays token old new may s = λ there. s.leaving token ∙ may (rw (← s.alive) there)

may_go_renews : (token : Token) (old new : Cloud) → MayGo old token → Renews token old new → MayGo new token
may_go_renews token old new may s = λ there. s.leaving token ∙ may (rw (← s.alive) there)

may_go_failed : (token : Token) (old new : Cloud) → MayGo old token → Stays old new ⊎ Takes token ask.Gone old new → MayGo new token
may_go_failed token old new may (inl s) = may_go_stays token old new may s
may_go_failed token old new may (inr e) = absurd e

may_go_gone : (token : Token) (old new : Cloud) → MayGo old token → Removes token old new ⊎ ((entry_of old token ≡ None) × Stays old new) → MayGo new token
may_go_gone token old new may (inl r) = λ there. let e = r.absent in cc
may_go_gone token old new may (inr s) = may_go_stays token old new may s.1

-- a question leaves the token so that it may be asked again
pub may_go_after_gone : (r : Gone) (token : Token) (old new : Cloud) → MayGo old token
    → (r ≡ gone.Gone → IsGone token old new) → (r ≡ gone.NotYet → Lingers token old new) → (r ≡ gone.Failed → HasFailed token ask.Gone old new) → (r ≡ gone.Memory → IsAsBefore old new) → MayGo new token
may_go_after_gone gone.Gone token old new may g n f m = may_go_gone token old new may (g refl).effect
may_go_after_gone gone.NotYet token old new may g n f m = may_go_renews token old new may (n refl).lowers.rest
may_go_after_gone gone.Failed token old new may g n f m = may_go_failed token old new may (f refl).effect
may_go_after_gone gone.Memory token old new may g n f m = may_go_stays token old new may (m refl).stays
