use Rattle.std.proofs.Common.{◌≡◌, IsTrue, ap, inl, inr, refl, subst, sym, ◌∙◌}
use Rattle.std.proofs.lemmas.Result.{IfErr-weaker, on_ok_weaker}
use Rattle.image_commands.specs.Places.{IsStateOf}
use Rattle.tree_repair.specs.Worlds.{RepairWorld, repair_world}
use Rattle.verity_commands.specs.Surveyed.{surveyed_devices}
use Rattle.verity_commands.specs.declared.tree_fault.TreeFault.TheVariants.{Open}
use Rattle.update_commands.specs.Updates.{EndsUpdate, UpdatesDevices}
use Rattle.update_commands.proofs.EndingLemmas.{err-from}
use Rattle.update_commands.proofs.TargetLemmas.{world-same}
use Rattle.update_commands.proofs.update.update_images.Goals as goal

pub returns-in_err-check_pin_apart-clause-err : goal.returns-in_err-check_pin_apart-clause-err
returns-in_err-check_pin_apart-clause-err g c =
    let file = c.in_err-check_pin_apart.field-0.0 in
    err-from c.from_residual.result _ (Open file) c.from_residual.ensures.1 (inl (record { file = file; taken = c.in_err-check_pin_apart.ensures.err; is = refl; quiet = refl }))

pub returns-in_err-release-clause-err : goal.returns-in_err-release-clause-err
returns-in_err-release-clause-err g c =
    err-from c.from_residual-in_err-release.result _ c.in_err-release.field-0.0 c.from_residual-in_err-release.ensures.1
    (inr (inl (record { tested = c.check_pin_apart.new.images; apart = c.in_ok-check_pin_apart.ensures.ok; none = c.in_err-release.ensures.err; quiet = refl })))

pub returns-in_err-grow_both-clause-err : goal.returns-in_err-grow_both-clause-err
returns-in_err-grow_both-clause-err g c =
    let file = c.in_err-grow_both.field-0.0 in
    err-from c.from_residual-in_err-grow_both.result _ (Open file) c.from_residual-in_err-grow_both.ensures.1
    (inr (inr (inl (record {
      tested = c.check_pin_apart.new.images;
      apart = c.in_ok-check_pin_apart.ensures.ok;
      looked = c.find_release.new.images;
      release = c.in_ok-release.release;
      file = file;
      finds = c.in_ok-release.ensures.ok;
      fails = rw c.places_of-places.ensures at c.in_err-grow_both.ensures.err;
      is = refl;
      quiet = refl;
    }))))

pub returns-in_err-opened-clause-err : goal.returns-in_err-opened-clause-err
returns-in_err-opened-clause-err g c =
    err-from c.from_residual-in_err-opened.result _ c.in_err-opened.field-0.0 c.from_residual-in_err-opened.ensures.1
    (inr (inr (inr (inl (record {
      tested = c.check_pin_apart.new.images;
      apart = c.in_ok-check_pin_apart.ensures.ok;
      looked = c.find_release.new.images;
      grown = c.grow_both.new.images;
      release = c.in_ok-release.release;
      finds = c.in_ok-release.ensures.ok;
      grows = rw c.places_of-places.ensures at c.in_ok-grow_both.ensures.ok;
      fails = rw c.places_of-places.ensures at c.in_err-opened.ensures.err;
      quiet = refl;
    })))))

pub update_devices-data_dev-requires : goal.update_devices-data_dev-requires
update_devices-data_dev-requires g c =
    let state = g.I.Dev.BlockDev.state in
    let write = c.places_of-places.ensures in
    record {
      data_writable = λ may. subst IsTrue (sym (ap (λ device. (state device).may_write) c.target_of-target.ensures.«data» ∙ c.in_ok-opened.ensures.data_fresh.may_write ∙ ap (λ places. places.write) write)) refl;
      hash_writable = λ may. subst IsTrue (sym (ap (λ device. (state device).may_write) c.target_of-target.ensures.hash ∙ c.in_ok-opened.ensures.hash_fresh.may_write ∙ ap (λ places. places.write) write)) refl;
    }

pub returns-in_err-ended-clause-err : goal.returns-in_err-ended-clause-err
returns-in_err-ended-clause-err g c =
    let state = g.I.Dev.BlockDev.state in
    let release = c.in_ok-release.release in
    let json = c.args.order.now.json in
    let no_index = c.args.order.now.no_index in
    let old = g.W.Write.contents c.args.writer.now.inner in
    let new = g.W.Write.contents c.update_devices-data_dev.new.writer.inner in
    let failed = c.update_devices-data_dev.new.writer.failed in
    let after = surveyed_devices (state c.update_devices-data_dev.result.0.inner) (state c.update_devices-data_dev.result.1) in
    let world = world-same state c.in_ok-opened.opened _ _ _ c.target_of-target.ensures.«data» c.target_of-target.ensures.hash c.target_of-target.ensures.copies in
    let fault = c.in_err-ended.field-0.0 in
    err-from c.from_residual-in_err-ended.result _ fault c.from_residual-in_err-ended.ensures.1
    (inr (inr (inr (inr (inl (record {
      ready = c.open_all.new.images;
      release = release;
      opened = c.in_ok-opened.opened;
      is_ready = record {
        tested = c.check_pin_apart.new.images;
        apart = c.in_ok-check_pin_apart.ensures.ok;
        looked = c.find_release.new.images;
        grown = c.grow_both.new.images;
        finds = c.in_ok-release.ensures.ok;
        grows = rw c.places_of-places.ensures at c.in_ok-grow_both.ensures.ok;
        opens = rw c.places_of-places.ensures at c.in_ok-opened.ensures.ok;
      };
      ends = record {
        data_dev = c.update_devices-data_dev.result.0.inner;
        hash_dev = c.update_devices-data_dev.result.1;
        holds = subst (λ (w : RepairWorld). EndsUpdate (IsStateOf state) release no_index json w after old new failed fault) world (rw c.in_err-ended.was at c.update_devices-data_dev.ensures.err);
        back = rw c.places_of-places.ensures at c.give_back.ensures;
      };
    }))))))

pub returns-in_err-shrink_both-clause-err : goal.returns-in_err-shrink_both-clause-err
returns-in_err-shrink_both-clause-err g c =
    let state = g.I.Dev.BlockDev.state in
    let release = c.in_ok-release.release in
    let json = c.args.order.now.json in
    let no_index = c.args.order.now.no_index in
    let old = g.W.Write.contents c.args.writer.now.inner in
    let new = g.W.Write.contents c.update_devices-data_dev.new.writer.inner in
    let after = surveyed_devices (state c.update_devices-data_dev.result.0.inner) (state c.update_devices-data_dev.result.1) in
    let world = world-same state c.in_ok-opened.opened _ _ _ c.target_of-target.ensures.«data» c.target_of-target.ensures.hash c.target_of-target.ensures.copies in
    let file = c.in_err-shrink_both.field-0.0 in
    err-from c.from_residual-in_err-shrink_both.result _ (Open file) c.from_residual-in_err-shrink_both.ensures.1
    (inr (inr (inr (inr (inr (record {
      closed = c.give_back.new.images;
      updated = record {
        ready = c.open_all.new.images;
        release = release;
        opened = c.in_ok-opened.opened;
        is_ready = record {
          tested = c.check_pin_apart.new.images;
          apart = c.in_ok-check_pin_apart.ensures.ok;
          looked = c.find_release.new.images;
          grown = c.grow_both.new.images;
          finds = c.in_ok-release.ensures.ok;
          grows = rw c.places_of-places.ensures at c.in_ok-grow_both.ensures.ok;
          opens = rw c.places_of-places.ensures at c.in_ok-opened.ensures.ok;
        };
        updates = record {
          data_dev = c.update_devices-data_dev.result.0.inner;
          hash_dev = c.update_devices-data_dev.result.1;
          holds = subst (λ (w : RepairWorld). UpdatesDevices (IsStateOf state) release no_index json w after old new) world (rw c.in_ok-ended.was at c.update_devices-data_dev.ensures.ok);
          back = rw c.places_of-places.ensures at c.give_back.ensures;
        };
      };
      file = file;
      fails = rw c.places_of-places.ensures at c.in_err-shrink_both.ensures.err;
      is = refl;
    }))))))

pub returns-clause-ok : goal.returns-clause-ok
returns-clause-ok g c =
    let state = g.I.Dev.BlockDev.state in
    let release = c.in_ok-release.release in
    let json = c.args.order.now.json in
    let no_index = c.args.order.now.no_index in
    let old = g.W.Write.contents c.args.writer.now.inner in
    let new = g.W.Write.contents c.update_devices-data_dev.new.writer.inner in
    let after = surveyed_devices (state c.update_devices-data_dev.result.0.inner) (state c.update_devices-data_dev.result.1) in
    let world = world-same state c.in_ok-opened.opened _ _ _ c.target_of-target.ensures.«data» c.target_of-target.ensures.hash c.target_of-target.ensures.copies in
    record {
      closed = c.give_back.new.images;
      updated = record {
        ready = c.open_all.new.images;
        release = release;
        opened = c.in_ok-opened.opened;
        is_ready = record {
          tested = c.check_pin_apart.new.images;
          apart = c.in_ok-check_pin_apart.ensures.ok;
          looked = c.find_release.new.images;
          grown = c.grow_both.new.images;
          finds = c.in_ok-release.ensures.ok;
          grows = rw c.places_of-places.ensures at c.in_ok-grow_both.ensures.ok;
          opens = rw c.places_of-places.ensures at c.in_ok-opened.ensures.ok;
        };
        updates = record {
          data_dev = c.update_devices-data_dev.result.0.inner;
          hash_dev = c.update_devices-data_dev.result.1;
          holds = subst (λ (w : RepairWorld). UpdatesDevices (IsStateOf state) release no_index json w after old new) world (rw c.in_ok-ended.was at c.update_devices-data_dev.ensures.ok);
          back = rw c.places_of-places.ensures at c.give_back.ensures;
        };
      };
      shrinks = rw c.places_of-places.ensures at c.in_ok-shrink_both.ensures.ok;
    }
