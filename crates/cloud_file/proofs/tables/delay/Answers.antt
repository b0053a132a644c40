use Rattle.std.proofs.Common.{refl, ap, Ok}
use Rattle.cloud_file.specs.Tables.{delay_read, no_delay}
use Rattle.cloud_file.proofs.tables.delay.Goals as goal

pub returns-in_ok-from_str-in-Ok-clause-read : goal.returns-in_ok-from_str-in-Ok-clause-read
returns-in_ok-from_str-in-Ok-clause-read c =
    delay_read (c.if-not-is_kind_name.ensures.0 refl) c.in-Ok.polls c.in-Ok.ensures.read
    (ap (λ kind. Ok (record { kind = kind; polls = c.in-Ok.polls })) c.in_ok-from_str-in-Ok.ensures)

pub returns-in-Err-clause-read : goal.returns-in-Err-clause-read
returns-in-Err-clause-read c = no_delay (c.if-not-is_kind_name.ensures.0 refl) c.in-Err.path c.in-Err.ensures.read refl
