-- A drive ends for a fault of the keeper exactly where this halts the book.
use Rattle.std.proofs.Common.{◌≡◌, ◌∙◌, refl, sym, List}
use Rattle.std.specs.Prelude.{Bool, None, Option, Some, ◌↔◌}
use Rattle.core_state.specs.declared.entry.Entry.{Entry}
use Rattle.core_state.specs.State.{StateData}
use Rattle.step_relation.specs.Opening.{Opening}
use Rattle.script_lines.specs.declared.line.Line.{Line}
use Rattle.script_lines.specs.declared.line.Line.TheVariants as form
use Rattle.book.specs.declared.halting.Halt.{Halt}
use Rattle.book.specs.declared.halting.Halt.TheVariants as halted
use Rattle.converge_call.specs.declared.exit.Exit.{Exit}
use Rattle.converge_call.specs.declared.exit.Exit.TheVariants as exit
use Rattle.converge_call.specs.Halting.{halt_broken, halt_for, halt_refused}
use Rattle.converge_call.specs.Lines.{LineBreaks}
use Rattle.converge_call.specs.Lines as lines
use Rattle.converge_call.specs.Stocks.{Stock}
use Rattle.converge_call.specs.Drives.{Drove, LineEnd, Streams}
use Rattle.converge_call.specs.Drives as drives

-- for a fault of the keeper, and so halted
abbrev pub IsStopped : Exit → Option Halt → Type 0
IsStopped status halt = (status ≡ exit.DiskFault) ↔ (halt ≡ Some halted.DiskFault)

broken_stops : (why : Exit) → IsStopped why (halt_broken why)
broken_stops exit.Done = ((λ e. cc), (λ e. cc))
broken_stops exit.Usage = ((λ e. cc), (λ e. cc))
broken_stops exit.TooLong = ((λ e. cc), (λ e. cc))
broken_stops exit.ReadFault = ((λ e. cc), (λ e. cc))
broken_stops exit.WriteFault = ((λ e. cc), (λ e. cc))
broken_stops exit.DiskFault = ((λ e. refl), (λ e. refl))
broken_stops exit.Memory = ((λ e. cc), (λ e. cc))
broken_stops exit.Foreign = ((λ e. cc), (λ e. cc))
broken_stops (exit.Disagree token finding) = ((λ e. cc), (λ e. cc))
broken_stops exit.CloudFault = ((λ e. cc), (λ e. cc))
broken_stops exit.Worn = ((λ e. cc), (λ e. cc))

refused_stops : (why : Exit) → IsStopped why (halt_refused why)
refused_stops exit.Done = ((λ e. cc), (λ e. cc))
refused_stops exit.Usage = ((λ e. cc), (λ e. cc))
refused_stops exit.TooLong = ((λ e. cc), (λ e. cc))
refused_stops exit.ReadFault = ((λ e. cc), (λ e. cc))
refused_stops exit.WriteFault = ((λ e. cc), (λ e. cc))
refused_stops exit.DiskFault = ((λ e. refl), (λ e. refl))
refused_stops exit.Memory = ((λ e. cc), (λ e. cc))
refused_stops exit.Foreign = ((λ e. cc), (λ e. cc))
refused_stops (exit.Disagree token finding) = ((λ e. cc), (λ e. cc))
refused_stops exit.CloudFault = ((λ e. cc), (λ e. cc))
refused_stops exit.Worn = ((λ e. cc), (λ e. cc))

asked_stops : (said : Line) (why : Exit) → IsStopped why (halt_for said why)
asked_stops form.Blank why = broken_stops why
asked_stops (form.Create name body) why = broken_stops why
asked_stops (form.Update name body) why = broken_stops why
asked_stops (form.Delete name) why = broken_stops why
asked_stops (form.Cancel name) why = broken_stops why
asked_stops (form.Status name) why = broken_stops why
asked_stops (form.Resources name) why = broken_stops why
asked_stops (form.Outputs name) why = broken_stops why
asked_stops (form.Types given) why = broken_stops why
asked_stops (form.Run asked) why = broken_stops why
asked_stops (form.Turn e) why = broken_stops why
asked_stops (form.Stop e) why = broken_stops why
asked_stops form.Start why = broken_stops why
asked_stops form.Restart why = refused_stops why

-- the same by other names
stops_as : (status other : Exit) (halt so : Option Halt) → status ≡ other → halt ≡ so → IsStopped other so
    → IsStopped status halt
stops_as status other halt so is same it =
    ((λ fault. same ∙ it.0 (sym is ∙ fault)), (λ stopped. is ∙ it.1 (sym same ∙ stopped)))

not_stopped : (status other : Exit) (halt : Option Halt) → status ≡ other → halt ≡ None → IsStopped other None
    → IsStopped status halt
not_stopped status other halt is none it = stops_as status other halt None is none it

pub drive_stops : (o : Opening) (t : Stock) (recalls : Bool) (old new : Streams) (last : StateData) (h : List Entry)
    (ends : LineEnd) (status : Exit) → Drove o t recalls old new last h ends status → IsStopped status ends.halt
drive_stops o t recalls old new last h ends status (drives.done all run read text goes is) =
    not_stopped status exit.Done ends.halt is goes ((λ e. cc), (λ e. cc))
drive_stops o t recalls old new last h ends status (drives.too_long all run limit text goes is) =
    not_stopped status exit.TooLong ends.halt is goes ((λ e. cc), (λ e. cc))
drive_stops o t recalls old new last h ends status (drives.not_read all run unended text goes is) =
    not_stopped status exit.ReadFault ends.halt is goes ((λ e. cc), (λ e. cc))
drive_stops o t recalls old new last h ends status (drives.lacking all run read text goes is) =
    not_stopped status exit.Memory ends.halt is goes ((λ e. cc), (λ e. cc))
drive_stops o t recalls old new last h ends status (drives.not_compacted all run read text fault is) =
    stops_as status exit.DiskFault ends.halt (Some halted.DiskFault) is fault ((λ e. refl), (λ e. refl))
drive_stops o t recalls old new last h ends status
    (drives.broken_off all mid so_far line rest run (lines.unread un goes) parts read text) =
    not_stopped status exit.Memory ends.halt un.memory goes ((λ e. cc), (λ e. cc))
drive_stops o t recalls old new last h ends status
    (drives.broken_off all mid so_far line rest run (lines.asked said reads breaks halts) parts read text) =
    stops_as status status ends.halt (halt_for said status) refl halts (asked_stops said status)
drive_stops o t recalls old new last h ends status
    (drives.not_written all mid so_far line es written rest u run behind does parts read text grows goes drives.write_fault) =
    not_stopped status exit.WriteFault ends.halt refl goes ((λ e. cc), (λ e. cc))
drive_stops o t recalls old new last h ends status
    (drives.not_written all mid so_far line es written rest u run behind does parts read text grows goes drives.no_memory) =
    not_stopped status exit.Memory ends.halt refl goes ((λ e. cc), (λ e. cc))
