use Rattle.std.proofs.Common.{◌≡◌, ◌++◌, drop, string_bytes}
use Rattle.report.specs.Seen.{after_writes}
use Rattle.report.specs.Rows.{writes_text}
use Rattle.report.specs.Undone.{shown, unwound, CanUnwind}
use Rattle.report.proofs.tell.tell_writes.Given as goal

abbrev pub invariant-loop-write : goal.invariant-loop-write
invariant-loop-write l = record {
  text : string_bytes l.text ++ writes_text (shown l.seen) (drop l.write-index l.writes)
      ≡ string_bytes l.initial.text ++ writes_text (shown l.initial.seen) l.writes;
  seen : after_writes (shown l.seen) (drop l.write-index l.writes) ≡ after_writes (shown l.initial.seen) l.writes;
  undone : unwound l.log.items (shown l.seen) ≡ unwound l.initial.log.items (shown l.initial.seen);
  back : CanUnwind l.log l.seen;
}
