use Rattle.std.proofs.Common.{◌≡◌, List, ℕ, sym, ◌∙◌, ap, subst}
use Rattle.heat_disk.specs.Halves.{Pair}
use Rattle.row_journal.specs.Images.{IsImage}
use Rattle.row_journal.proofs.reading.find.Goals as goal

pub returns-clause-foreign : goal.returns-clause-foreign
returns-clause-foreign g c tells same image is_image =
    let seen = (g.D.Disk.shown c.args.disk.now).seen in
    let told = c.read_half.ensures.tells ∙ tells in
    let first : c.deref.result.now ≡ seen.0 = c.deref.ensures.value ∙ c.in_ok-first.ensures.bytes tells in
    let second : c.deref-2.result.now ≡ seen.1 = c.deref-2.ensures.value ∙ c.in_ok-second.ensures.bytes told ∙ ap (λ (p : Pair). p.1) (c.read_half.ensures.alike tells).seen in
    let both : (c.deref.result.now, c.deref-2.result.now) ≡ seen = ap (λ (l : List ℕ). (l, c.deref-2.result.now)) first ∙ ap (λ (l : List ℕ). (seen.0, l)) second in
    c.in_ok-found.ensures.none c.in-None.is image (subst (λ (p : Pair). IsImage p image) (sym both) is_image)
