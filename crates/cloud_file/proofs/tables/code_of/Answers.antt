use Rattle.std.proofs.Common.{Ok, Err, refl, sym, ap, subst}
use Rattle.serde_json.specs.View.{view}
use Rattle.cloud_file.specs.Sorts.{ReadsText}
use Rattle.cloud_file.specs.Tables.{IsCode, code_read, no_code, no_text}
use Rattle.cloud_file.proofs.tables.code_of.Goals as goal

pub returns-in_ok-from_str-in-Ok : goal.returns-in_ok-from_str-in-Ok
returns-in_ok-from_str-in-Ok c =
    code_read c.requires c.in-Ok.code (subst (λ r. ReadsText (view c.args.value.now) r) c.in-Ok.is c.in_ok-code.ensures)
    (subst IsCode c.as_str.ensures.value (c.if-is_code.ensures.0 refl))
    (ap (λ name. Ok (record { name = name; code = c.in-Ok.code })) c.in_ok-from_str-in-Ok.ensures)

pub returns-else-is_code : goal.returns-else-is_code
returns-else-is_code c =
    no_code c.requires c.in-Ok.code (subst (λ r. ReadsText (view c.args.value.now) r) c.in-Ok.is c.in_ok-code.ensures)
    (λ is. let both = c.if-is_code.ensures.1 (subst IsCode (sym c.as_str.ensures.value) is) in cc)
    (ap Err c.root.ensures)

pub returns-in-Err : goal.returns-in-Err
returns-in-Err c = no_text c.requires c.in-Err.path
    (subst (λ r. ReadsText (view c.args.value.now) r) c.in-Err.is c.in_ok-code.ensures) refl
