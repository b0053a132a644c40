-- An act that is another isn't a delete.
use Rattle.std.proofs.Common.{◌≡◌, ◌≢◌, ◌⊎◌, inl, inr, ◌∙◌, sym}
use Rattle.heat_plan.specs.declared.phase.Act.{Act}
use Rattle.heat_plan.specs.declared.phase.Act.TheVariants.{Create, Delete, Init, Rollback, Update}

pub no_delete : (a : Act) → (a ≡ Init) ⊎ ((a ≡ Create) ⊎ ((a ≡ Update) ⊎ (a ≡ Rollback))) → a ≢ Delete
no_delete a (inl is) e = let f : Init ≡ Delete = sym is ∙ e in cc
no_delete a (inr (inl is)) e = let f : Create ≡ Delete = sym is ∙ e in cc
no_delete a (inr (inr (inl is))) e = let f : Update ≡ Delete = sym is ∙ e in cc
no_delete a (inr (inr (inr is))) e = let f : Rollback ≡ Delete = sym is ∙ e in cc
