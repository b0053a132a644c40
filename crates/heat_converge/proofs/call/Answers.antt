-- By what is left of the call: a book, or none.
use Rattle.std.proofs.Common.{◌≡◌, ap, refl}
use Rattle.record_keeper.specs.declared.unkept.Unkept.{Unkept}
use Rattle.sim_cloud.specs.declared.sim_cloud.SimCloud.{SimCloud}
use Rattle.converge_call.specs.declared.top.End.{End}
use Rattle.converge_call.specs.declared.top.End.TheVariants as end
use Rattle.heat_converge.specs.Called.{HasCalled}
use Rattle.heat_converge.proofs.Calling.{called_driven, called_unopened}
use Rattle.heat_converge.proofs.call.Goals as goal

pub returns : goal.returns
returns c = by c.converge_shipped-status.result.end refl where
  by : (e : End Unkept SimCloud) → c.converge_shipped-status.result.end ≡ e
      → HasCalled c.args.words.now c.args.cloud c.give_back-cloud.result.1 c.converge_shipped-status.result.status
  by (end.Unopened k p) is = called_unopened _ _ _ p _ k _ (c.converge_shipped-status.ensures.unopened k p is)
      (ap (λ (r : _). r.1) (c.give_back-cloud.ensures.unopened k p is))
  by (end.Book b) is = called_driven c.nothing_kept_is_sound.ensures _ _ _ b _ _ _
      (c.converge_shipped-status.ensures.opened b is) (c.converge_shipped-status.ensures.driven b is)
      (ap (λ (r : _). r.1) (c.give_back-cloud.ensures.book b is))
