-- The cases of `specs/Tells.antt`, each by the law of moves through its constructor, and what may be given up.
use Rattle.std.proofs.Common.{List, None, Some, refl, subst, sym, ◌≡◌}
use Rattle.row_table.specs.Rows.{row_at}
use Rattle.row_table.specs.declared.row.Row.{Row}
use Rattle.step_relation.specs.Given.{Answer, Prepared}
use Rattle.step_relation.specs.Moves.{begin_in_place, poll_gone}
use Rattle.step_relation.specs.Runs.{answer}
use Rattle.step_relation.specs.Unjudged.{unjudged}
use Rattle.history_laws.proofs.tables.Rows.{row_self}
use Rattle.history_laws.proofs.agrees.MoveTold.{moves_agree}
use Rattle.history_laws.proofs.headline.Made.{not_given}
use Rattle.history_examples.specs.Tells.{GivenUpIsRetained, InPlaceAgrees, PurgeAgrees}
use Rattle.heat_plan.specs.declared.calls.Answered.TheVariants as reply

pub in_place_agrees : InPlaceAgrees
in_place_agrees judges o h s e k props effect x tied act status soft possible =
    moves_agree judges o h s e (Prepared props effect)
    None _ _ x (begin_in_place k props effect _ _ act status soft refl refl) tied possible

pub purge_agrees : PurgeAgrees
purge_agrees o h s e k x act possible =
    moves_agree unjudged o h s e (Answer reply.Gone) None _ _ x (poll_gone k _ _ act refl refl) (answer reply.Gone)
    possible

pub given_up_is_retained : GivenUpIsRetained
given_up_is_retained o h s e k r x possible at loose act unstuck policy = record {
  row = r;
  found = subst (λ (rows : List Row). row_at rows r.no ≡ Some r) (sym x.tells.rows) self;
  its = refl;
  retained = policy;
  planned = x.policies.each r.no r self (λ gone. x.released.kept r.no r self gone policy);
  once = not_given o h s x possible k.job.row r at;
} where
  self : row_at s.rows r.no ≡ Some r
  self = row_self s.rows k.job.row r at
