-- Nothing is written, or the first of the text.
use Rattle.std.proofs.Common.{◌≡◌, ◌∙◌, [], length, refl, sym, ap, arith}
use Rattle.report.specs.Text.{text_after}
use Rattle.converge_call.specs.Drives.{first, write_fault, no_memory}
use Rattle.converge_call.proofs.Driving.{grown-none, nothing_told, nothing_written}
use Rattle.converge_call.proofs.Reporting.{told_from, seen_from}
use Rattle.converge_call.proofs.drive.write_from.Goals as goal

pub returns-in_default-clause-written : goal.returns-in_default-clause-written
returns-in_default-clause-written g c = first [] _ _ refl (grown-none _) no_memory refl

pub returns-in-Err-WriteFault-clause-written : goal.returns-in-Err-WriteFault-clause-written
returns-in-Err-WriteFault-clause-written g c =
    let (written, rest, parts, grows) = c.put_all.ensures.first in
    let text : text_after c.args.book.now.opening c.args.book.now.entries c.args.from ≡ c.as_bytes.result.now =
    sym (c.as_bytes.ensures.value ∙ c.as_str.ensures.value ∙ c.in-Ok.ensures.text
    ∙ told_from c.args.reporter.now c.args.book.now.opening c.args.book.now.entries c.entries-entries.result.now
    c.args.from c.requires.seen c.entries-entries.ensures) in
    first written rest _ (text ∙ parts) grows write_fault refl

pub returns-clause-written : goal.returns-clause-written
returns-clause-written g c =
    let (written, rest, parts, grows) = c.put_all.ensures.first in
    let text : text_after c.args.book.now.opening c.args.book.now.entries c.args.from ≡ c.as_bytes.result.now =
    sym (c.as_bytes.ensures.value ∙ c.as_str.ensures.value ∙ c.in-Ok.ensures.text
    ∙ told_from c.args.reporter.now c.args.book.now.opening c.args.book.now.entries c.entries-entries.result.now
    c.args.from c.requires.seen c.entries-entries.ensures) in
    first written rest _ (text ∙ parts) grows no_memory refl

pub returns-then-from-entries-clause-written : goal.returns-then-from-entries-clause-written
returns-then-from-entries-clause-written g c =
    let count = ap length c.entries-entries.ensures in
    let nothing = nothing_told c.args.book.now.opening c.args.book.now.entries c.args.from
    (omega (arith, c.if-from-entries.true, count)) in
    nothing_written _ _ nothing

pub returns-in-Ok-put_all-clause-seen : goal.returns-in-Ok-put_all-clause-seen
returns-in-Ok-put_all-clause-seen g c =
    c.in-Ok.ensures.seen
    ∙ seen_from c.args.reporter.now c.args.book.now.opening c.args.book.now.entries c.entries-entries.result.now
    c.args.from c.requires.seen c.entries-entries.ensures
