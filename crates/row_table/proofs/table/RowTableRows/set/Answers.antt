use Rattle.std.proofs.Common.{◌≡◌, ◌∙◌, Some, None, IsSome, true≢false, nat_eq, nat_lt, set, slice_get, option_map, sym, ap, subst}
use Rattle.std.specs.List.{position_from}
use Rattle.row_table.specs.Rows.{row_key, put_row, row_at}
use Rattle.keyed_table.proofs.Puts.{put-at}
use Rattle.keyed_table.proofs.Sortings.{number_sorting}
use Rattle.keyed_table.proofs.Tables.{key-there, at-nowhere}
use Rattle.row_table.proofs.table.RowTableRows.set.Goals as goal

pub write-requires-clause-same_key : goal.write-requires-clause-same_key
write-requires-clause-same_key c =
    let e : c.self.inside.rows.items ≡ c.args.self.now.items = ap (λ v. v.items) c.self.view_is in
    subst (λ ys. option_map row_key (slice_get ys c.in-Some.place) ≡ Some (row_key c.args.row)) e
    (key-there nat_eq nat_lt number_sorting row_key c.key.result.now c.self.inside.rows.items c.in-Some.place c.in-Some.ensures.within (sym c.find.ensures.place ∙ c.in-Some.is) ∙ ap (λ k. Some k) c.key.ensures)

pub returns-in-Some-clause-items : goal.returns-in-Some-clause-items
returns-in-Some-clause-items c =
    let e : c.self.inside.rows.items ≡ c.args.self.now.items = ap (λ v. v.items) c.self.view_is in
    c.write.ensures.items ∙ subst (λ ys. set ys c.in-Some.place c.args.row ≡ put_row c.args.row ys) e (sym (put-at nat_eq row_key c.args.row c.self.inside.rows.items c.in-Some.place
    (subst (λ k. position_from (λ x. nat_eq (row_key x) k) 0 c.self.inside.rows.items ≡ Some c.in-Some.place) c.key.ensures (sym c.find.ensures.place ∙ c.in-Some.is))))

pub returns-in_default-clause-items : goal.returns-in_default-clause-items
returns-in_default-clause-items c =
    let e : c.self.inside.rows.items ≡ c.args.self.now.items = ap (λ v. v.items) c.self.view_is in
    absurd (true≢false (sym (subst (λ o. IsSome o) (subst (λ ys. row_at ys c.args.row.no ≡ None) e (at-nowhere nat_eq row_key (row_key c.args.row) c.self.inside.rows.items
    (subst (λ k. position_from (λ x. nat_eq (row_key x) k) 0 c.self.inside.rows.items ≡ None) c.key.ensures (sym c.find.ensures.place ∙ c.in_default.is)))) c.requires)))
