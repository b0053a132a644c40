-- What a reader of a plan's parts answers of the plan.
use Rattle.std.proofs.Common.{ℕ, List}
use Rattle.heat_plan.specs.Plans.{PlanData, IsPlan}
use Rattle.plan_codec.specs.declared.unread.Unread.{Unread}
use Rattle.plan_codec.specs.Spellings.{Takes, Lacks, Refuses}
use Rattle.plan_codec.specs.Plans.{spelled_plan, IsProperPlan}
use Rattle.plan_codec.specs.PlanLaws.{IsAnyPlan, any_plan, any_plan_unique}
use Rattle.plan_codec.proofs.Readings.{not_taken, refused_more}

pub any_plan_refused : (bytes : List ℕ) (e : Unread) → Refuses spelled_plan IsAnyPlan bytes e
    → Refuses spelled_plan IsProperPlan bytes e
any_plan_refused bytes e h = refused_more spelled_plan IsAnyPlan IsProperPlan bytes e any_plan h

-- parts that don't fit together
pub unfit_refused : (bytes rest : List ℕ) (p : PlanData) → ¬ IsPlan p.items p.absent
    → Takes spelled_plan IsAnyPlan bytes p rest → Lacks spelled_plan IsProperPlan bytes
unfit_refused bytes rest p not t = not_taken bytes rest p any_plan_unique any_plan t (λ h. not h.plan)

pub plan_taken : (bytes rest : List ℕ) (p : PlanData) → IsPlan p.items p.absent
    → Takes spelled_plan IsAnyPlan bytes p rest → Takes spelled_plan IsProperPlan bytes p rest
plan_taken bytes rest p plan t = record {
  parts = t.parts;
  fits = record {
    items = t.fits.items;
    outputs = t.fits.outputs;
    params = t.fits.params;
    conds = t.fits.conds;
    files = t.fits.files;
    absent = t.fits.absent;
    plan = plan;
  };
}
