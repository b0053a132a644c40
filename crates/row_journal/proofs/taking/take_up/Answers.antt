use Rattle.std.proofs.Common.{sym, ◌∙◌, subst}
use Rattle.heat_disk.specs.Halves.{Pair}
use Rattle.row_journal.specs.Ends.{IsTidy}
use Rattle.row_journal.specs.Mends.{HasMended}
use Rattle.row_journal.specs.Images.{ImageData}
use Rattle.row_journal.specs.Pending.{IsPending}
use Rattle.row_journal.proofs.Found.{image_same}
use Rattle.row_journal.proofs.Taken.{as_before, after_mend, still, settles, given, read_unsynced, room_unsynced, sync_unsynced}
use Rattle.row_journal.proofs.taking.take_up.Goals as goal

pub mend-requires-clause-settled : goal.mend-requires-clause-settled
mend-requires-clause-settled g c told =
    let roomed = sym c.settle.ensures.tells ∙ told in
    let read = sym c.take_room.ensures.tells ∙ roomed in
    let tells = sym c.find.ensures.tells ∙ read in
    settles (g.D.Disk.shown c.args.disk.now).seen c.in-Ok.found (g.D.Disk.shown c.settle.new.disk) (c.in-Ok.ensures.found tells)
    (as_before (g.D.Disk.shown c.args.disk.now) (g.D.Disk.shown c.find.new.disk) (g.D.Disk.shown c.take_room.new.disk) (g.D.Disk.shown c.settle.new.disk)
    (c.find.ensures.alike tells) (c.take_room.ensures.content read) (c.settle.ensures.alike roomed))
    (c.in_ok-settle.ensures.durable roomed)

pub returns-in_err-mend-clause-any_moment : goal.returns-in_err-mend-clause-any_moment
returns-in_err-mend-clause-any_moment g c tells image is_image tidy =
    let read = c.find.ensures.tells ∙ tells in
    let roomed = c.take_room.ensures.tells ∙ read in
    let told = c.settle.ensures.tells ∙ roomed in
    let same = as_before (g.D.Disk.shown c.args.disk.now) (g.D.Disk.shown c.find.new.disk) (g.D.Disk.shown c.take_room.new.disk) (g.D.Disk.shown c.settle.new.disk)
    (c.find.ensures.alike tells) (c.take_room.ensures.content read) (c.settle.ensures.alike roomed) in
    let it = given (g.D.Disk.shown c.args.disk.now).seen c.in-Ok.found (g.D.Disk.shown c.settle.new.disk) (c.in-Ok.ensures.found tells) same (c.in_ok-settle.ensures.durable roomed) image is_image in
    after_mend (g.D.Disk.shown c.args.disk.now) (g.met.D.Disk.lawful c.args.disk.now tells) image
    (g.D.Disk.shown c.find.new.disk) (c.find.ensures.alike tells) (g.D.Disk.shown c.take_room.new.disk) (c.take_room.ensures.content read)
    (g.D.Disk.shown c.settle.new.disk) (c.settle.ensures.alike roomed) (g.D.Disk.shown c.mend.new.disk)
    (c.mend.ensures.any_moment told image it.0 it.1 (subst (λ (p : Pair). IsTidy p image) (sym same) tidy))

pub returns-clause-any_moment : goal.returns-clause-any_moment
returns-clause-any_moment g c tells image is_image tidy =
    let read = c.find.ensures.tells ∙ tells in
    let roomed = c.take_room.ensures.tells ∙ read in
    let told = c.settle.ensures.tells ∙ roomed in
    let same = as_before (g.D.Disk.shown c.args.disk.now) (g.D.Disk.shown c.find.new.disk) (g.D.Disk.shown c.take_room.new.disk) (g.D.Disk.shown c.settle.new.disk)
    (c.find.ensures.alike tells) (c.take_room.ensures.content read) (c.settle.ensures.alike roomed) in
    let it = given (g.D.Disk.shown c.args.disk.now).seen c.in-Ok.found (g.D.Disk.shown c.settle.new.disk) (c.in-Ok.ensures.found tells) same (c.in_ok-settle.ensures.durable roomed) image is_image in
    after_mend (g.D.Disk.shown c.args.disk.now) (g.met.D.Disk.lawful c.args.disk.now tells) image
    (g.D.Disk.shown c.find.new.disk) (c.find.ensures.alike tells) (g.D.Disk.shown c.take_room.new.disk) (c.take_room.ensures.content read)
    (g.D.Disk.shown c.settle.new.disk) (c.settle.ensures.alike roomed) (g.D.Disk.shown c.mend.new.disk)
    (c.mend.ensures.any_moment told image it.0 it.1 (subst (λ (p : Pair). IsTidy p image) (sym same) tidy))

pub returns-in_err-mend-clause-unsynced : goal.returns-in_err-mend-clause-unsynced
returns-in_err-mend-clause-unsynced g c tells image is_image tidy last =
    let read = c.find.ensures.tells ∙ tells in
    let roomed = c.take_room.ensures.tells ∙ read in
    let told = c.settle.ensures.tells ∙ roomed in
    let same = as_before (g.D.Disk.shown c.args.disk.now) (g.D.Disk.shown c.find.new.disk) (g.D.Disk.shown c.take_room.new.disk) (g.D.Disk.shown c.settle.new.disk)
    (c.find.ensures.alike tells) (c.take_room.ensures.content read) (c.settle.ensures.alike roomed) in
    let it = given (g.D.Disk.shown c.args.disk.now).seen c.in-Ok.found (g.D.Disk.shown c.settle.new.disk) (c.in-Ok.ensures.found tells) same (c.in_ok-settle.ensures.durable roomed) image is_image in
    c.mend.ensures.unsynced told image it.0 it.1 (subst (λ (p : Pair). IsTidy p image) (sym same) tidy)

pub returns-clause-unsynced : goal.returns-clause-unsynced
returns-clause-unsynced g c tells image is_image tidy last =
    let read = c.find.ensures.tells ∙ tells in
    let roomed = c.take_room.ensures.tells ∙ read in
    let told = c.settle.ensures.tells ∙ roomed in
    let same = as_before (g.D.Disk.shown c.args.disk.now) (g.D.Disk.shown c.find.new.disk) (g.D.Disk.shown c.take_room.new.disk) (g.D.Disk.shown c.settle.new.disk)
    (c.find.ensures.alike tells) (c.take_room.ensures.content read) (c.settle.ensures.alike roomed) in
    let it = given (g.D.Disk.shown c.args.disk.now).seen c.in-Ok.found (g.D.Disk.shown c.settle.new.disk) (c.in-Ok.ensures.found tells) same (c.in_ok-settle.ensures.durable roomed) image is_image in
    c.mend.ensures.unsynced told image it.0 it.1 (subst (λ (p : Pair). IsTidy p image) (sym same) tidy)

pub returns-clause-taken : goal.returns-clause-taken
returns-clause-taken g c tells =
    let read = c.find.ensures.tells ∙ tells in
    let roomed = c.take_room.ensures.tells ∙ read in
    let told = c.settle.ensures.tells ∙ roomed in
    let same = as_before (g.D.Disk.shown c.args.disk.now) (g.D.Disk.shown c.find.new.disk) (g.D.Disk.shown c.take_room.new.disk) (g.D.Disk.shown c.settle.new.disk)
    (c.find.ensures.alike tells) (c.take_room.ensures.content read) (c.settle.ensures.alike roomed) in
    let it = c.in-Ok.ensures.found tells in
    record {
      image = it.image;
      is_image = it.is_image;
      payloads_are = it.payloads;
      numbers = it.place;
      ready = c.in_ok-mend.ensures.ready told it.image it.place
          (still (g.D.Disk.shown c.args.disk.now).seen c.in-Ok.found (g.D.Disk.shown c.settle.new.disk) it same (c.in_ok-settle.ensures.durable roomed));
      bytes = subst (λ (p : Pair). HasMended it.image p (g.D.Disk.shown c.mend.new.disk).seen) same (c.in_ok-mend.ensures.bytes told it.image it.place
          (still (g.D.Disk.shown c.args.disk.now).seen c.in-Ok.found (g.D.Disk.shown c.settle.new.disk) it same (c.in_ok-settle.ensures.durable roomed)));
    }

pub returns-in_err-take_room-clause-unsynced : goal.returns-in_err-take_room-clause-unsynced
returns-in_err-take_room-clause-unsynced g c tells =
    let read = c.find.ensures.tells ∙ tells in
    room_unsynced (g.D.Disk.shown c.args.disk.now) (g.D.Disk.shown c.find.new.disk) (g.D.Disk.shown c.take_room.new.disk) (c.find.ensures.alike tells) (c.take_room.ensures.content read)

pub returns-in_err-settle-clause-unsynced : goal.returns-in_err-settle-clause-unsynced
returns-in_err-settle-clause-unsynced g c tells =
    let read = c.find.ensures.tells ∙ tells in
    let roomed = c.take_room.ensures.tells ∙ read in
    sync_unsynced (g.D.Disk.shown c.args.disk.now) (g.D.Disk.shown c.find.new.disk) (g.D.Disk.shown c.take_room.new.disk) (g.D.Disk.shown c.settle.new.disk)
    (c.find.ensures.alike tells) (c.take_room.ensures.content read) (c.settle.ensures.alike roomed)

pub returns-in-Err-clause-unsynced : goal.returns-in-Err-clause-unsynced
returns-in-Err-clause-unsynced g c tells = read_unsynced (g.D.Disk.shown c.args.disk.now) (g.D.Disk.shown c.find.new.disk) (c.find.ensures.alike tells)

pub returns-clause-pending : goal.returns-clause-pending
returns-clause-pending g c tells image is_image =
    let it = c.in-Ok.ensures.found tells in
    subst (λ (i : ImageData). IsPending (g.D.Disk.shown c.args.disk.now).seen i c.in-Ok.found.pending)
    (image_same (g.D.Disk.shown c.args.disk.now).seen it.image image it.is_image is_image) it.pending
