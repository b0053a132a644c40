-- Each sort of row that a step writes fits its act and status.
use Rattle.std.proofs.Common.{List, inl, inr, refl}
use Rattle.std.specs.Prelude.{None, Some, ℕ, ◌≡◌, ◌≢◌, ◌⊎◌}
use Rattle.heat_value.specs.Data.{Members}
use Rattle.heat_plan.specs.declared.facts.Facts.{Facts}
use Rattle.heat_plan.specs.declared.item.Item.{Item}
use Rattle.heat_plan.specs.declared.phase.Act.TheVariants.{Create, Delete, Init, Update}
use Rattle.heat_plan.specs.declared.phase.Status.TheVariants.{Complete, Failed, InProgress}
use Rattle.row_table.specs.declared.row.Row.{Row}
use Rattle.step_relation.specs.Rows.{created_row, deleted_row, failed_row, locked, new_row, ready_row, replaced}
use Rattle.step_relation.specs.Rows.{replacement, same_row, unlocked, updated_row}
use Rattle.step_relation.specs.RowsFit.{RowFits}

pub locked_fits : (e : ℕ) (r : Row) → RowFits r → RowFits (locked e r)
locked_fits e r h = record {
  acts = h.acts;
  init = h.init;
  plain = h.plain;
  updating = h.updating;
  ready = h.ready;
  leaving = h.leaving;
}

pub unlocked_fits : (r : Row) → RowFits r → RowFits (unlocked r)
unlocked_fits r h = record {
  acts = h.acts;
  init = h.init;
  plain = h.plain;
  updating = h.updating;
  ready = h.ready;
  leaving = h.leaving;
}

pub replaced_fits : (n : ℕ) (r : Row) → RowFits r → RowFits (replaced n r)
replaced_fits n r h = record {
  acts = h.acts;
  init = h.init;
  plain = h.plain;
  updating = h.updating;
  ready = h.ready;
  leaving = h.leaving;
}

pub same_fits : (r : Row) (item : Item) (trav : ℕ) (required : List ℕ) → RowFits r
    → RowFits (same_row r item trav required)
same_fits r item trav required h =
    record {
      acts = h.acts;
      init = h.init;
      plain = h.plain;
      updating = h.updating;
      ready = h.ready;
      leaving = h.leaving;
    }

pub created_fits : (r : Row) (item : Item) (trav : ℕ) (props : Members) (required : List ℕ) → RowFits r → r.act ≡ Init
    → RowFits (created_row r item trav props required)
created_fits r item trav props required h init = record {
  acts = λ e. cc;
  init = λ e. cc;
  plain = λ some. h.plain (inl init);
  updating = λ e f. cc;
  ready = λ e f. cc;
  leaving = λ e. cc;
}

pub updated_fits : (r : Row) (item : Item) (trav : ℕ) (props : Members) (required : List ℕ)
    → RowFits (updated_row r item trav props required)
updated_fits r item trav props required = record {
  acts = λ e. cc;
  init = λ e. cc;
  plain = plain;
  updating = λ e f. refl;
  ready = λ e f. cc;
  leaving = λ e. cc;
} where
  plain : (Update ≡ Init) ⊎ ((Update ≡ Create) ⊎ (InProgress ≡ Complete)) → Some props ≡ None
  plain (inl e) = cc
  plain (inr (inl e)) = cc
  plain (inr (inr e)) = cc

pub replacement_fits : (number e trav : ℕ) (stack : List ℕ) (item : Item) (props : Members)
    (required : List ℕ) (r : Row)
    → RowFits (replacement number e trav stack item props required r)
replacement_fits number e trav stack item props required r = record {
  acts = λ e. cc;
  init = λ e. cc;
  plain = λ some. refl;
  updating = λ e f. cc;
  ready = λ e f. cc;
  leaving = λ e. cc;
}

pub deleted_fits : (r : Row) (trav : ℕ) → RowFits (deleted_row r trav)
deleted_fits r trav = record {
  acts = λ e. cc;
  init = λ e. cc;
  plain = plain;
  updating = λ e f. cc;
  ready = λ e f. cc;
  leaving = λ e f. cc;
} where
  plain : (Delete ≡ Init) ⊎ ((Delete ≡ Create) ⊎ (InProgress ≡ Complete)) → r.target ≡ None
  plain (inl e) = cc
  plain (inr (inl e)) = cc
  plain (inr (inr e)) = cc

-- a row that is under way fails
pub failed_fits : (r : Row) → RowFits r → r.status ≡ InProgress → RowFits (failed_row r)
failed_fits r h way = record {
  acts = h.acts;
  init = λ e. let c : r.status ≡ Complete = h.init e in cc;
  plain = plain;
  updating = λ e f. cc;
  ready = λ e f. cc;
  leaving = λ e f. cc;
} where
  plain : (r.act ≡ Init) ⊎ ((r.act ≡ Create) ⊎ (Failed ≡ Complete)) → r.target ≡ None
  plain (inl e) = h.plain (inl e)
  plain (inr (inl e)) = h.plain (inr (inl e))
  plain (inr (inr e)) = cc

pub ready_fits : (r : Row) (facts : Facts) → RowFits r → r.act ≢ Delete → RowFits (ready_row r facts)
ready_fits r facts h stays = record {
  acts = h.acts;
  init = λ e. refl;
  plain = λ some. refl;
  updating = λ e f. cc;
  ready = λ e f. refl;
  leaving = λ e. absurd (stays e);
}

pub new_fits : (stack : List ℕ) (trav number : ℕ) (item : Item) → RowFits (new_row stack trav number item)
new_fits stack trav number item = record {
  acts = λ e. cc;
  init = λ e. refl;
  plain = λ some. refl;
  updating = λ e f. cc;
  ready = λ e f. absurd (f refl);
  leaving = λ e. cc;
}
