use Rattle.std.proofs.Common.{◌≡◌, ◌≤◌, ◌+◌, ◌/◌, ◌%◌, ◌∙◌, ℕ, Err, IsTrue, List, None, Some, true, false, refl, sym, ap, subst, length, arith, inl, inr}
use Rattle.std.proofs.lemmas.Result.{err_from_is_err_and}
use Rattle.block_device.specs.Call.{DeviceDoes, Write}
use Rattle.block_device.specs.Device.{spliced, sectors_of}
use Rattle.tree_shape.specs.Shape.{ShapeRecord}
use Rattle.tree_shape.proofs.lemmas.ShapeFaultLemmas.{first_fault-none}
use Rattle.verity_format.specs.declared.formatting.FormatFault.{FormatFault}
use Rattle.verity_format.specs.Superblock.{SuperRecord, shape_of}
use Rattle.verity_format.specs.Image.{image_sectors, formatted, tree_sectors}
use Rattle.verity_format.specs.Handing.{HandsImage}
use Rattle.verity_format.specs.Writing.{IsPartOfTree, IsTreeWritten}
use Rattle.verity_format.proofs.lemmas.RoomLemmas.{fits-from_none, format-room}
use Rattle.verity_format.proofs.RefusalLemmas.{refusal-cause, same_some}
use Rattle.verity_format.proofs.lemmas.SizeLemmas.{block-size, tree-within}
use Rattle.verity_format.proofs.lemmas.DeviceLemmas.{only_read-none, only_written-none, only_written-write, only_written-then, failed-then, steady-then}
use Rattle.verity_format.proofs.FormattingLemmas.{first-within, part-only_written, tree-cause, first-then, formatted-is, fails-at_first, written-shape}
use Rattle.verity_format.proofs.HandingLemmas.{stopped-none, stopped-shape, tree-shape}
use Rattle.verity_format.proofs.WritingLemmas.{part-none-tree}
use Rattle.verity_format.proofs.formatting.format.Goals as goal

none_applies : (f : FormatFault) → None ≡ Some f → ⊥
none_applies f h = cc

pub returns-in_err-check_room-clause-err : goal.returns-in_err-check_room-clause-err
returns-in_err-check_room-clause-err g c =
    let p = err_from_is_err_and c.from_residual.result c.from_residual.ensures.1 in
    rw (p.1, p.2) (refusal-cause c.args.params (g.D.BlockDev.state c.args.data_dev.now) (g.H.BlockDev.state c.args.hash_dev.now) (g.D.BlockDev.state c.args.data_dev.now) (g.H.BlockDev.state c.args.hash_dev.now) _
    (sym (format-room c.args.params (g.D.BlockDev.state c.args.data_dev.now) (g.H.BlockDev.state c.args.hash_dev.now) (first_fault-none (shape_of c.args.params) c.shape-shape.ensures.valid) c.shape-shape.result c.image_sectors.result c.shape-shape.ensures.value c.image_sectors.ensures) ∙ sym c.in_err-check_room.ensures))

pub returns-in_err-first-clause-err : goal.returns-in_err-first-clause-err
returns-in_err-first-clause-err g c =
    let p = err_from_is_err_and c.from_residual-in_err-first.result c.from_residual-in_err-first.ensures.1 in
    let block = block-size c.args.params.hash_block c.shape-shape.ensures.valid.hash_size in
    let h = c.in_err-first.ensures.err in
    rw (p.1, p.2)
    (record { failures = refl; hash_failures = refl; refused = (h.0, omega (arith, h.1, block.most_bytes), h.2); part = part-none-tree (shape_of c.args.params) (g.H.BlockDev.state c.args.hash_dev.now) })

pub write_tree-requires : goal.write_tree-requires
write_tree-requires g c =
    let s : SuperRecord = c.args.params in
    let data_dev = g.D.BlockDev.state c.args.data_dev.now in
    let hash_dev = g.H.BlockDev.state c.args.hash_dev.now in
    let fits = fits-from_none c.shape-shape.result c.image_sectors.result data_dev hash_dev (sym c.in_ok-check_room.ensures) in
    let needed : c.image_sectors.result ≡ image_sectors (shape_of s) = c.image_sectors.ensures ∙ ap image_sectors c.shape-shape.ensures.value in
    record {
      data_room = fits.0;
      tree_room = omega (arith, fits.1, needed, tree-within (shape_of s) refl, ap tree_sectors c.shape-shape.ensures.value);
      allowed = rw fits.2 refl;
    }

pub returns-in_err-root-clause-devices : goal.returns-in_err-root-clause-devices
returns-in_err-root-clause-devices g c =
    let s : SuperRecord = c.args.params in
    let data_dev = g.D.BlockDev.state c.args.data_dev.now in
    let hash_dev = g.H.BlockDev.state c.args.hash_dev.now in
    let fits = fits-from_none c.shape-shape.result c.image_sectors.result data_dev hash_dev (sym c.in_ok-check_room.ensures) in
    let needed : c.image_sectors.result ≡ image_sectors (shape_of s) = c.image_sectors.ensures ∙ ap image_sectors c.shape-shape.ensures.value in
    let data_dev' = g.D.BlockDev.state c.write_tree.new.data_dev in
    let mid = g.H.BlockDev.state c.write_tree.new.hash_dev in
    let part : IsPartOfTree (shape_of s) hash_dev mid = subst (λ (t : ShapeRecord). IsPartOfTree t hash_dev mid) c.shape-shape.ensures.value c.write_tree.ensures.devices.part in
    let result = err_from_is_err_and c.from_residual-in_err-root.result c.from_residual-in_err-root.ensures.1 in
    let asks = DeviceDoes g.D.BlockDev.state g.D.BlockDev.does in
    let does = DeviceDoes g.H.BlockDev.state g.H.BlockDev.does in (
      (c.write_tree.ensures.devices.read, part-only_written (shape_of s) refl hash_dev mid part),
      rw result.1
          (inl
          (stopped-shape asks does c.shape-shape.result (shape_of s) c.salt.result s.salt c.args.data_dev.now c.args.hash_dev.now c.write_tree.new.data_dev c.write_tree.new.hash_dev c.shape-shape.ensures.value c.salt.ensures
          c.in_err-root.ensures.handed)),
    )

pub returns-in_err-root-clause-err : goal.returns-in_err-root-clause-err
returns-in_err-root-clause-err g c =
    let p = err_from_is_err_and c.from_residual-in_err-root.result c.from_residual-in_err-root.ensures.1 in
    let s : SuperRecord = c.args.params in
    let data_dev = g.D.BlockDev.state c.args.data_dev.now in
    let hash_dev = g.H.BlockDev.state c.args.hash_dev.now in
    let fits = fits-from_none c.shape-shape.result c.image_sectors.result data_dev hash_dev (sym c.in_ok-check_room.ensures) in
    let needed : c.image_sectors.result ≡ image_sectors (shape_of s) = c.image_sectors.ensures ∙ ap image_sectors c.shape-shape.ensures.value in
    let data_dev' = g.D.BlockDev.state c.write_tree.new.data_dev in
    let mid = g.H.BlockDev.state c.write_tree.new.hash_dev in
    let part : IsPartOfTree (shape_of s) hash_dev mid = subst (λ (t : ShapeRecord). IsPartOfTree t hash_dev mid) c.shape-shape.ensures.value c.write_tree.ensures.devices.part in
    rw (p.1, p.2) (tree-cause s data_dev hash_dev data_dev' mid _ part c.in_err-root.ensures.fault)

pub write-requires-clause-range : goal.write-requires-clause-range
write-requires-clause-range g c =
    let s : SuperRecord = c.args.params in
    let data_dev = g.D.BlockDev.state c.args.data_dev.now in
    let hash_dev = g.H.BlockDev.state c.args.hash_dev.now in
    let fits = fits-from_none c.shape-shape.result c.image_sectors.result data_dev hash_dev (sym c.in_ok-check_room.ensures) in
    let needed : c.image_sectors.result ≡ image_sectors (shape_of s) = c.image_sectors.ensures ∙ ap image_sectors c.shape-shape.ensures.value in
    let data_dev' = g.D.BlockDev.state c.write_tree.new.data_dev in
    let mid = g.H.BlockDev.state c.write_tree.new.hash_dev in
    let part : IsPartOfTree (shape_of s) hash_dev mid = subst (λ (t : ShapeRecord). IsPartOfTree t hash_dev mid) c.shape-shape.ensures.value c.write_tree.ensures.devices.part in
    let block = block-size s.hash_block c.shape-shape.ensures.valid.hash_size in
    let size : length c.deref.result.now ≡ s.hash_block = ap length c.deref.ensures.value ∙ c.in_ok-first.ensures.size in
    let k : ℕ = length c.deref.result.now / 512 in
    let count : k ≡ s.hash_block / 512 = ap (λ n. n / 512) size in
    let low : 0 + k ≤ image_sectors (shape_of s) = first-within (shape_of s) k count in
    record {
      some = omega (arith, size, block.some);
      whole = ap (λ n. n % 512) size ∙ block.whole;
      inside = omega (arith, low, fits.1, needed, part.same.size);
    }

pub write-requires-clause-allowed : goal.write-requires-clause-allowed
write-requires-clause-allowed g c =
    let s : SuperRecord = c.args.params in
    let data_dev = g.D.BlockDev.state c.args.data_dev.now in
    let hash_dev = g.H.BlockDev.state c.args.hash_dev.now in
    let fits = fits-from_none c.shape-shape.result c.image_sectors.result data_dev hash_dev (sym c.in_ok-check_room.ensures) in
    let needed : c.image_sectors.result ≡ image_sectors (shape_of s) = c.image_sectors.ensures ∙ ap image_sectors c.shape-shape.ensures.value in
    let data_dev' = g.D.BlockDev.state c.write_tree.new.data_dev in
    let mid = g.H.BlockDev.state c.write_tree.new.hash_dev in
    let part : IsPartOfTree (shape_of s) hash_dev mid = subst (λ (t : ShapeRecord). IsPartOfTree t hash_dev mid) c.shape-shape.ensures.value c.write_tree.ensures.devices.part in
    let allowed : IsTrue hash_dev.may_write = rw fits.2 refl in
    subst IsTrue (sym part.same.may_write) allowed

pub returns-in_err-write-clause-devices : goal.returns-in_err-write-clause-devices
returns-in_err-write-clause-devices g c =
    let s : SuperRecord = c.args.params in
    let data_dev = g.D.BlockDev.state c.args.data_dev.now in
    let hash_dev = g.H.BlockDev.state c.args.hash_dev.now in
    let fits = fits-from_none c.shape-shape.result c.image_sectors.result data_dev hash_dev (sym c.in_ok-check_room.ensures) in
    let needed : c.image_sectors.result ≡ image_sectors (shape_of s) = c.image_sectors.ensures ∙ ap image_sectors c.shape-shape.ensures.value in
    let data_dev' = g.D.BlockDev.state c.write_tree.new.data_dev in
    let mid = g.H.BlockDev.state c.write_tree.new.hash_dev in
    let part : IsPartOfTree (shape_of s) hash_dev mid = subst (λ (t : ShapeRecord). IsPartOfTree t hash_dev mid) c.shape-shape.ensures.value c.write_tree.ensures.devices.part in
    let block = block-size s.hash_block c.shape-shape.ensures.valid.hash_size in
    let size : length c.deref.result.now ≡ s.hash_block = ap length c.deref.ensures.value ∙ c.in_ok-first.ensures.size in
    let k : ℕ = length c.deref.result.now / 512 in
    let count : k ≡ s.hash_block / 512 = ap (λ n. n / 512) size in
    let low : 0 + k ≤ image_sectors (shape_of s) = first-within (shape_of s) k count in
    let result = err_from_is_err_and c.from_residual-in_err-write.result c.from_residual-in_err-write.ensures.1 in
    let hash_dev' = g.H.BlockDev.state c.write.new.self in
    let asks = DeviceDoes g.D.BlockDev.state g.D.BlockDev.does in
    let does = DeviceDoes g.H.BlockDev.state g.H.BlockDev.does in
    let image : HandsImage asks does s c.args.data_dev.now c.args.hash_dev.now c.write_tree.new.data_dev c.write.new.self c.in_ok-root.root false = record {
      between = c.write_tree.new.hash_dev;
      tree =
          tree-shape asks does c.shape-shape.result (shape_of s) c.salt.result s.salt c.args.data_dev.now c.args.hash_dev.now c.write_tree.new.data_dev c.write_tree.new.hash_dev c.in_ok-root.root c.shape-shape.ensures.value c.salt.ensures
          c.in_ok-root.ensures.handed;
      last = subst (λ (xs : List ℕ). does c.write_tree.new.hash_dev (Write 0 xs false) c.write.new.self) (c.deref.ensures.value ∙ c.in_ok-first.ensures.value) c.in_err-write.ensures.call;
    } in (
      (c.write_tree.ensures.devices.read, only_written-then (image_sectors (shape_of s)) (part-only_written (shape_of s) refl hash_dev mid part) (only_written-write 0 k (image_sectors (shape_of s)) c.in_err-write.ensures.moved low)),
      rw result.1 (inr (c.in_ok-root.root, image)),
    )

pub returns-in_err-write-clause-err : goal.returns-in_err-write-clause-err
returns-in_err-write-clause-err g c =
    let p = err_from_is_err_and c.from_residual-in_err-write.result c.from_residual-in_err-write.ensures.1 in
    let s : SuperRecord = c.args.params in
    let data_dev = g.D.BlockDev.state c.args.data_dev.now in
    let hash_dev = g.H.BlockDev.state c.args.hash_dev.now in
    let fits = fits-from_none c.shape-shape.result c.image_sectors.result data_dev hash_dev (sym c.in_ok-check_room.ensures) in
    let needed : c.image_sectors.result ≡ image_sectors (shape_of s) = c.image_sectors.ensures ∙ ap image_sectors c.shape-shape.ensures.value in
    let data_dev' = g.D.BlockDev.state c.write_tree.new.data_dev in
    let mid = g.H.BlockDev.state c.write_tree.new.hash_dev in
    let part : IsPartOfTree (shape_of s) hash_dev mid = subst (λ (t : ShapeRecord). IsPartOfTree t hash_dev mid) c.shape-shape.ensures.value c.write_tree.ensures.devices.part in
    let block = block-size s.hash_block c.shape-shape.ensures.valid.hash_size in
    let size : length c.deref.result.now ≡ s.hash_block = ap length c.deref.ensures.value ∙ c.in_ok-first.ensures.size in
    let k : ℕ = length c.deref.result.now / 512 in
    let count : k ≡ s.hash_block / 512 = ap (λ n. n / 512) size in
    let low : 0 + k ≤ image_sectors (shape_of s) = first-within (shape_of s) k count in
    let hash_dev' = g.H.BlockDev.state c.write.new.self in
    let written : IsTreeWritten (shape_of s) s.salt data_dev hash_dev data_dev' mid c.in_ok-root.root =
    written-shape c.shape-shape.result (shape_of s) c.salt.result s.salt data_dev hash_dev data_dev' mid _ c.shape-shape.ensures.value c.salt.ensures c.in_ok-root.ensures.written in
    let whole = g.met.H.BlockDev.whole c.args.hash_dev.now in
    let room : image_sectors (shape_of s) ≤ length hash_dev.image = omega (arith, fits.1, needed, whole.length) in
    let image : IsTrue data_dev.steady → IsTrue hash_dev.steady → spliced mid.image 0 (sectors_of k c.deref.result.now) ≡ formatted s data_dev.image hash_dev.image = λ data_steady steady.
    formatted-is s data_dev.image hash_dev.image mid.image c.deref.result.now c.shape-shape.ensures.valid room (c.deref.ensures.value ∙ c.in_ok-first.ensures.value) size (written.image data_steady steady) in
    rw (p.1, p.2)
    (inr (inr (fails-at_first s data_dev hash_dev mid hash_dev' c.deref.result.now c.in_err-write.ensures.fault written.failures (failed-then hash_dev mid hash_dev' written.failures c.in_err-write.ensures.fault) size part written.writes
    c.in_err-write.ensures.moved image)))

pub returns-clause-devices : goal.returns-clause-devices
returns-clause-devices g c =
    let s : SuperRecord = c.args.params in
    let data_dev = g.D.BlockDev.state c.args.data_dev.now in
    let hash_dev = g.H.BlockDev.state c.args.hash_dev.now in
    let fits = fits-from_none c.shape-shape.result c.image_sectors.result data_dev hash_dev (sym c.in_ok-check_room.ensures) in
    let needed : c.image_sectors.result ≡ image_sectors (shape_of s) = c.image_sectors.ensures ∙ ap image_sectors c.shape-shape.ensures.value in
    let data_dev' = g.D.BlockDev.state c.write_tree.new.data_dev in
    let mid = g.H.BlockDev.state c.write_tree.new.hash_dev in
    let part : IsPartOfTree (shape_of s) hash_dev mid = subst (λ (t : ShapeRecord). IsPartOfTree t hash_dev mid) c.shape-shape.ensures.value c.write_tree.ensures.devices.part in
    let block = block-size s.hash_block c.shape-shape.ensures.valid.hash_size in
    let size : length c.deref.result.now ≡ s.hash_block = ap length c.deref.ensures.value ∙ c.in_ok-first.ensures.size in
    let k : ℕ = length c.deref.result.now / 512 in
    let count : k ≡ s.hash_block / 512 = ap (λ n. n / 512) size in
    let low : 0 + k ≤ image_sectors (shape_of s) = first-within (shape_of s) k count in
    let hash_dev' = g.H.BlockDev.state c.write.new.self in
    let asks = DeviceDoes g.D.BlockDev.state g.D.BlockDev.does in
    let does = DeviceDoes g.H.BlockDev.state g.H.BlockDev.does in
    let image : HandsImage asks does s c.args.data_dev.now c.args.hash_dev.now c.write_tree.new.data_dev c.write.new.self c.in_ok-root.root true = record {
      between = c.write_tree.new.hash_dev;
      tree =
          tree-shape asks does c.shape-shape.result (shape_of s) c.salt.result s.salt c.args.data_dev.now c.args.hash_dev.now c.write_tree.new.data_dev c.write_tree.new.hash_dev c.in_ok-root.root c.shape-shape.ensures.value c.salt.ensures
          c.in_ok-root.ensures.handed;
      last = subst (λ (xs : List ℕ). does c.write_tree.new.hash_dev (Write 0 xs true) c.write.new.self) (c.deref.ensures.value ∙ c.in_ok-first.ensures.value) c.in_ok-write.ensures.call;
    } in (
      (c.write_tree.ensures.devices.read, only_written-then (image_sectors (shape_of s)) (part-only_written (shape_of s) refl hash_dev mid part) (only_written-write 0 k (image_sectors (shape_of s)) c.in_ok-write.ensures.moved low)),
      image,
    )

pub returns-clause-ok : goal.returns-clause-ok
returns-clause-ok g c =
    let s : SuperRecord = c.args.params in
    let data_dev = g.D.BlockDev.state c.args.data_dev.now in
    let hash_dev = g.H.BlockDev.state c.args.hash_dev.now in
    let fits = fits-from_none c.shape-shape.result c.image_sectors.result data_dev hash_dev (sym c.in_ok-check_room.ensures) in
    let needed : c.image_sectors.result ≡ image_sectors (shape_of s) = c.image_sectors.ensures ∙ ap image_sectors c.shape-shape.ensures.value in
    let data_dev' = g.D.BlockDev.state c.write_tree.new.data_dev in
    let mid = g.H.BlockDev.state c.write_tree.new.hash_dev in
    let part : IsPartOfTree (shape_of s) hash_dev mid = subst (λ (t : ShapeRecord). IsPartOfTree t hash_dev mid) c.shape-shape.ensures.value c.write_tree.ensures.devices.part in
    let block = block-size s.hash_block c.shape-shape.ensures.valid.hash_size in
    let size : length c.deref.result.now ≡ s.hash_block = ap length c.deref.ensures.value ∙ c.in_ok-first.ensures.size in
    let k : ℕ = length c.deref.result.now / 512 in
    let count : k ≡ s.hash_block / 512 = ap (λ n. n / 512) size in
    let low : 0 + k ≤ image_sectors (shape_of s) = first-within (shape_of s) k count in
    let hash_dev' = g.H.BlockDev.state c.write.new.self in
    let written : IsTreeWritten (shape_of s) s.salt data_dev hash_dev data_dev' mid c.in_ok-root.root =
    written-shape c.shape-shape.result (shape_of s) c.salt.result s.salt data_dev hash_dev data_dev' mid _ c.shape-shape.ensures.value c.salt.ensures c.in_ok-root.ensures.written in
    let whole = g.met.H.BlockDev.whole c.args.hash_dev.now in
    let room : image_sectors (shape_of s) ≤ length hash_dev.image = omega (arith, fits.1, needed, whole.length) in
    let image : IsTrue data_dev.steady → IsTrue hash_dev.steady → spliced mid.image 0 (sectors_of k c.deref.result.now) ≡ formatted s data_dev.image hash_dev.image = λ data_steady steady.
    formatted-is s data_dev.image hash_dev.image mid.image c.deref.result.now c.shape-shape.ensures.valid room (c.deref.ensures.value ∙ c.in_ok-first.ensures.value) size (written.image data_steady steady) in
    record {
      read = written.read;
      written = first-then (shape_of s) refl hash_dev mid hash_dev' k true count part written.writes written.failures c.in_ok-write.ensures.moved;
      image = λ data_steady steady. c.in_ok-write.ensures.image (steady-then part.same steady) ∙ image data_steady steady;
      digest = λ steady. written.root steady;
    }

-- neither device was asked
pub returns-in_err-check_room-clause-devices : goal.returns-in_err-check_room-clause-devices
returns-in_err-check_room-clause-devices g c =
    let p = err_from_is_err_and c.from_residual.result c.from_residual.ensures.1 in
    let asks = DeviceDoes g.D.BlockDev.state g.D.BlockDev.does in
    let does = DeviceDoes g.H.BlockDev.state g.H.BlockDev.does in
    let s : SuperRecord = c.args.params in (
      (only_read-none (g.D.BlockDev.state c.args.data_dev.now), only_written-none (g.H.BlockDev.state c.args.hash_dev.now) (image_sectors (shape_of s))),
      rw p.1 (inl (stopped-none asks does (shape_of s) s.salt c.args.data_dev.now c.args.hash_dev.now)),
    )

-- neither device was asked
pub returns-in_err-first-clause-devices : goal.returns-in_err-first-clause-devices
returns-in_err-first-clause-devices g c =
    let p = err_from_is_err_and c.from_residual-in_err-first.result c.from_residual-in_err-first.ensures.1 in
    let asks = DeviceDoes g.D.BlockDev.state g.D.BlockDev.does in
    let does = DeviceDoes g.H.BlockDev.state g.H.BlockDev.does in
    let s : SuperRecord = c.args.params in (
      (only_read-none (g.D.BlockDev.state c.args.data_dev.now), only_written-none (g.H.BlockDev.state c.args.hash_dev.now) (image_sectors (shape_of s))),
      rw p.1 (inl (stopped-none asks does (shape_of s) s.salt c.args.data_dev.now c.args.hash_dev.now)),
    )

-- the refusal that applies
pub returns-in_err-check_room-clause-refused : goal.returns-in_err-check_room-clause-refused
returns-in_err-check_room-clause-refused g c = λ f applies.
    let p = err_from_is_err_and c.from_residual.result c.from_residual.ensures.1 in
    let room = format-room c.args.params (g.D.BlockDev.state c.args.data_dev.now) (g.H.BlockDev.state c.args.hash_dev.now) (first_fault-none (shape_of c.args.params) c.shape-shape.ensures.valid) c.shape-shape.result c.image_sectors.result c.shape-shape.ensures.value c.image_sectors.ensures in
    (p.1 ∙ ap Err (p.2 ∙ same_some _ f (c.in_err-check_room.ensures ∙ room ∙ applies)), refl, refl)

pub returns-in_err-first-clause-refused : goal.returns-in_err-first-clause-refused
returns-in_err-first-clause-refused g c = λ f applies.
    let room = format-room c.args.params (g.D.BlockDev.state c.args.data_dev.now) (g.H.BlockDev.state c.args.hash_dev.now) (first_fault-none (shape_of c.args.params) c.shape-shape.ensures.valid) c.shape-shape.result c.image_sectors.result c.shape-shape.ensures.value c.image_sectors.ensures in
    absurd (none_applies f (c.in_ok-check_room.ensures ∙ room ∙ applies))

pub returns-in_err-root-clause-refused : goal.returns-in_err-root-clause-refused
returns-in_err-root-clause-refused g c = λ f applies.
    let room = format-room c.args.params (g.D.BlockDev.state c.args.data_dev.now) (g.H.BlockDev.state c.args.hash_dev.now) (first_fault-none (shape_of c.args.params) c.shape-shape.ensures.valid) c.shape-shape.result c.image_sectors.result c.shape-shape.ensures.value c.image_sectors.ensures in
    absurd (none_applies f (c.in_ok-check_room.ensures ∙ room ∙ applies))

pub returns-in_err-write-clause-refused : goal.returns-in_err-write-clause-refused
returns-in_err-write-clause-refused g c = λ f applies.
    let room = format-room c.args.params (g.D.BlockDev.state c.args.data_dev.now) (g.H.BlockDev.state c.args.hash_dev.now) (first_fault-none (shape_of c.args.params) c.shape-shape.ensures.valid) c.shape-shape.result c.image_sectors.result c.shape-shape.ensures.value c.image_sectors.ensures in
    absurd (none_applies f (c.in_ok-check_room.ensures ∙ room ∙ applies))

pub returns-clause-refused : goal.returns-clause-refused
returns-clause-refused g c = λ f applies.
    let room = format-room c.args.params (g.D.BlockDev.state c.args.data_dev.now) (g.H.BlockDev.state c.args.hash_dev.now) (first_fault-none (shape_of c.args.params) c.shape-shape.ensures.valid) c.shape-shape.result c.image_sectors.result c.shape-shape.ensures.value c.image_sectors.ensures in
    absurd (none_applies f (c.in_ok-check_room.ensures ∙ room ∙ applies))
