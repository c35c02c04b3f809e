use Rattle.std.proofs.Common.{◌≡◌, ◌∙◌, ℕ, None, ap, arith, refl, sym}
use Rattle.std.proofs.lemmas.Result.{err_from_is_err_and}
use Rattle.block_device.specs.Call.{DeviceDoes}
use Rattle.verity_format.specs.Formatting.{room_refusal}
use Rattle.verity_format.specs.Trees.{tree_refusal}
use Rattle.verity_format.proofs.lemmas.DeviceLemmas.{only_read-none}
use Rattle.verity_format.proofs.HandingLemmas.{stopped-none}
use Rattle.verity_format.proofs.RefusalLemmas.{build-cause, build-refused}
use Rattle.verity_format.proofs.WritingLemmas.{part-none-tree}
use Rattle.verity_format.proofs.lemmas.RoomLemmas.{fits-from_none}
use Rattle.verity_format.proofs.making.make_tree.Goals as goal

-- neither device was accessed
pub returns-in_err-check_room-clause-devices : goal.returns-in_err-check_room-clause-devices
returns-in_err-check_room-clause-devices g c = record {
  read = only_read-none (g.D.BlockDev.state c.args.data_dev.now);
  part = part-none-tree c.args.tree.now.shape (g.H.BlockDev.state c.args.hash_dev.now);
}

pub returns-in_err-check_room-clause-err : goal.returns-in_err-check_room-clause-err
returns-in_err-check_room-clause-err g c =
    let p = err_from_is_err_and c.from_residual.result c.from_residual.ensures.1 in
    let s = c.args.tree.now.shape in
    let data_dev = g.D.BlockDev.state c.args.data_dev.now in
    let hash_dev = g.H.BlockDev.state c.args.hash_dev.now in
    rw (p.1, p.2) (build-refused s data_dev hash_dev _ (sym (ap (λ (n : ℕ). room_refusal s n data_dev hash_dev) c.tree_sectors.ensures.value) ∙ sym c.in_err-check_room.ensures))

pub returns-in_err-check_room-clause-handed : goal.returns-in_err-check_room-clause-handed
returns-in_err-check_room-clause-handed g c =
    let p = err_from_is_err_and c.from_residual.result c.from_residual.ensures.1 in
    rw p.1 (stopped-none (DeviceDoes g.D.BlockDev.state g.D.BlockDev.does) (DeviceDoes g.H.BlockDev.state g.H.BlockDev.does) c.args.tree.now.shape c.args.tree.now.salt c.args.data_dev.now c.args.hash_dev.now)

pub write_tree-requires : goal.write_tree-requires
write_tree-requires g c =
    let fits = fits-from_none c.args.tree.now.shape c.tree_sectors.result (g.D.BlockDev.state c.args.data_dev.now) (g.H.BlockDev.state c.args.hash_dev.now) (sym c.in_ok-check_room.ensures) in
    record {
      data_room = fits.0;
      tree_room = omega (arith, fits.1, c.tree_sectors.ensures.value);
      allowed = rw fits.2 refl;
    }

pub returns-in_err-root-clause-err : goal.returns-in_err-root-clause-err
returns-in_err-root-clause-err g c =
    let p = err_from_is_err_and c.from_residual-in_err-root.result c.from_residual-in_err-root.ensures.1 in
    rw (p.1, p.2)
    (build-cause c.args.tree.now.shape (g.D.BlockDev.state c.args.data_dev.now) (g.H.BlockDev.state c.args.hash_dev.now) (g.D.BlockDev.state c.write_tree.new.data_dev) (g.H.BlockDev.state c.write_tree.new.hash_dev) _ c.in_err-root.ensures.fault)

pub returns-in_err-root-clause-handed : goal.returns-in_err-root-clause-handed
returns-in_err-root-clause-handed g c =
    let p = err_from_is_err_and c.from_residual-in_err-root.result c.from_residual-in_err-root.ensures.1 in
    rw p.1 c.in_err-root.ensures.handed

pub returns-clause-ok : goal.returns-clause-ok
returns-clause-ok g c =
    let s = c.args.tree.now.shape in
    let data_dev = g.D.BlockDev.state c.args.data_dev.now in
    let hash_dev = g.H.BlockDev.state c.args.hash_dev.now in
    let fit : tree_refusal s data_dev hash_dev ≡ None = sym (ap (λ (n : ℕ). room_refusal s n data_dev hash_dev) c.tree_sectors.ensures.value) ∙ sym c.in_ok-check_room.ensures in
    record { fit = fit; written = c.in_ok-root.ensures.written }
