use Rattle.std.proofs.Common.{◌≡◌, ◌++◌, drop, string_bytes}
use Rattle.report.specs.Text.{seen_after, told}
use Rattle.report.specs.Undone.{shown, unwound, CanUnwind}
use Rattle.report.proofs.tell.tell.Given as goal

abbrev pub invariant-loop-entry : goal.invariant-loop-entry
invariant-loop-entry l = record {
  text : string_bytes l.text ++ told (shown l.seen) (drop l.entry-index l.entries) ≡ told
      (shown l.initial.seen) l.entries;
  seen : seen_after (shown l.seen) (drop l.entry-index l.entries) ≡ seen_after (shown l.initial.seen) l.entries;
  undone : unwound l.log.items (shown l.seen) ≡ unwound l.initial.log.items (shown l.initial.seen);
  back : CanUnwind l.log l.seen;
}
