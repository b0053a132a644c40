use Rattle.std.proofs.Common.{refl, ap, Ok}
use Rattle.cloud_file.specs.Tables.{quota_read, no_quota}
use Rattle.cloud_file.proofs.tables.quota.Goals as goal

pub returns-in_ok-from_str-in-Ok : goal.returns-in_ok-from_str-in-Ok
returns-in_ok-from_str-in-Ok c =
    quota_read (c.if-not-is_kind_name.ensures.0 refl) c.in-Ok.most c.in-Ok.ensures.read
    (ap (λ kind. Ok (record { kind = kind; most = c.in-Ok.most })) c.in_ok-from_str-in-Ok.ensures)

pub returns-in-Err : goal.returns-in-Err
returns-in-Err c = no_quota (c.if-not-is_kind_name.ensures.0 refl) c.in-Err.path c.in-Err.ensures.read refl
