use Rattle.std.proofs.Common.{◌≡◌, ◌∙◌, nat_eq, remove, sym, ap, subst}
use Rattle.row_table.specs.Rows.{row_key, cut_row}
use Rattle.keyed_table.proofs.Tables.{cut-place, cut-nowhere, passes_there, none_passes}
use Rattle.row_table.proofs.table.RowTableRows.purge.Goals as goal

pub returns-in-Some-clause-items : goal.returns-in-Some-clause-items
returns-in-Some-clause-items c =
    let e : c.self.inside.rows.items ≡ c.args.self.now.items = ap (λ v. v.items) c.self.view_is in
    c.remove.ensures.rest ∙ subst (λ ys. remove ys c.in-Some.place ≡ cut_row c.args.no ys) e (sym (cut-place nat_eq row_key c.args.no c.self.inside.rows.items c.in-Some.place c.in-Some.ensures.within
    (passes_there nat_eq row_key c.args.no c.self.inside.rows.items c.in-Some.place (sym c.find.ensures.place ∙ c.in-Some.is)) c.in-Some.ensures.alone))

pub returns-in_default-clause-items : goal.returns-in_default-clause-items
returns-in_default-clause-items c =
    let e : c.self.inside.rows.items ≡ c.args.self.now.items = ap (λ v. v.items) c.self.view_is in
    subst (λ ys. ys ≡ cut_row c.args.no ys) e (sym (cut-nowhere nat_eq row_key c.args.no c.self.inside.rows.items
    (none_passes nat_eq row_key c.args.no c.self.inside.rows.items (sym c.find.ensures.place ∙ c.in_default.is))))
