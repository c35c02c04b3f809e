use Rattle.std.proofs.Common.{◌≤◌, ◌/◌, ◌<◌, length, Bool, true, false, ℕ, List, sym, subst, arith, inl, inr}
use Rattle.block_device.specs.Device.{Device, IsWritten, HasFailed}
use Rattle.stack_lines.specs.Writing.{sectors_in}
use Rattle.block_device.specs.Call.{DeviceDoes, Write}
use Rattle.stack_engine.proofs.StackLemmas.{leaf-called, leaf-there}
use Rattle.stack_meaning.proofs.lemmas.LeafLemmas.{leaf-size}
use Rattle.stack_lines.proofs.lemmas.WritableLemmas.{leaf-writable}
use Rattle.stack_lines.proofs.lemmas.WriteLeafLemmas.{leaf-written, leaf-failed}
use Rattle.stack_lines.proofs.lemmas.WriteRunLemmas.{length-sectors_in}
use Rattle.stack_engine.proofs.write.write_sectors.Goals as goal

pub bounds-devices-leaf : goal.bounds-devices-leaf
bounds-devices-leaf g c = leaf-there g.D.BlockDev.state c.args.devices.now c.args.config.now c.args.leaf c.args.first c.args.bytes.now c.requires.sound c.requires.fits

pub offset_bounds-devices-leaf : goal.offset_bounds-devices-leaf
offset_bounds-devices-leaf g c = let there = leaf-there g.D.BlockDev.state c.args.devices.now c.args.config.now c.args.leaf c.args.first c.args.bytes.now c.requires.sound c.requires.fits in grind (arith, there)

pub write-requires-clause-range : goal.write-requires-clause-range
write-requires-clause-range g c =
    let size = leaf-size g.D.BlockDev.state c.args.devices.now _ c.requires.sound.serve c.args.leaf c.index-devices-leaf.result (leaf-there g.D.BlockDev.state c.args.devices.now c.args.config.now c.args.leaf c.args.first c.args.bytes.now c.requires.sound c.requires.fits) in
    record { some = c.requires.fits.sectors.some; whole = c.requires.fits.sectors.whole; inside = omega (arith, size, c.requires.fits.holds) }

pub write-requires-clause-allowed : goal.write-requires-clause-allowed
write-requires-clause-allowed g c = leaf-writable g.D.BlockDev.state c.args.devices.now c.args.config.now c.requires.sound.serve c.args.leaf c.index-devices-leaf.result (leaf-there g.D.BlockDev.state c.args.devices.now c.args.config.now c.args.leaf c.args.first c.args.bytes.now c.requires.sound c.requires.fits) c.requires.allowed

-- the number of sectors that were written
count : (bytes : List ℕ) (old new : Device) (first : ℕ) (ok : Bool) → IsWritten old first (length bytes / 512) ok new → IsWritten old first (length (sectors_in bytes)) ok new
count bytes old new first ok r = subst (λ (n : ℕ). IsWritten old first n ok new) (sym (length-sectors_in bytes)) r

some : (bytes : List ℕ) → 0 < length bytes / 512 → 0 < length (sectors_in bytes)
some bytes h = omega (arith, h, length-sectors_in bytes)

grows : (old new : Device) (first n : ℕ) → IsWritten old first n false new → HasFailed old new → old.failures ≤ new.failures
grows old new first n r h = elim h [ inl more ↦ omega (arith, more) | inr full ↦ omega (arith, full, r.failures) ]

pub returns-in-Ok-clause-writes : goal.returns-in-Ok-clause-writes
returns-in-Ok-clause-writes g c =
    let bytes = c.args.bytes.now in
    let kept = c.in-Ok.ensures.moved in
    leaf-written g.D.BlockDev.state g.met.D.BlockDev.whole c.args.devices.now c.args.leaf c.index-devices-leaf.result (leaf-there g.D.BlockDev.state c.args.devices.now c.args.config.now c.args.leaf c.args.first c.args.bytes.now c.requires.sound c.requires.fits) c.args.config.now c.args.first (sectors_in bytes)
    (some bytes (omega (arith, c.requires.fits.sectors.some, c.requires.fits.sectors.whole))) c.write.new.self (omega (arith, kept.failures)) (count bytes _ _ c.args.first true kept) c.in-Ok.ensures.image

pub returns-in-Err-clause-writes : goal.returns-in-Err-clause-writes
returns-in-Err-clause-writes g c =
    let bytes = c.args.bytes.now in
    let kept = c.in-Err.ensures.moved in
    leaf-failed g.D.BlockDev.state g.met.D.BlockDev.whole c.args.devices.now c.args.leaf c.index-devices-leaf.result (leaf-there g.D.BlockDev.state c.args.devices.now c.args.config.now c.args.leaf c.args.first c.args.bytes.now c.requires.sound c.requires.fits) c.args.config.now c.args.first (sectors_in bytes)
    (some bytes (omega (arith, c.requires.fits.sectors.some, c.requires.fits.sectors.whole))) c.write.new.self (grows _ _ c.args.first _ kept c.in-Err.ensures.fault) (count bytes _ _ c.args.first false kept)
    c.in-Err.ensures.fault (λ never. let clash = c.in-Err.ensures.sure never in cc)

pub returns-in-Ok-clause-call : goal.returns-in-Ok-clause-call
returns-in-Ok-clause-call g c =
    let there = leaf-there g.D.BlockDev.state c.args.devices.now c.args.config.now c.args.leaf c.args.first c.args.bytes.now c.requires.sound c.requires.fits in
    leaf-called (DeviceDoes g.D.BlockDev.state g.D.BlockDev.does) c.args.devices.now c.args.leaf c.index-devices-leaf.result there (Write c.args.first c.args.bytes.now true) c.write.new.self c.in-Ok.ensures.call

pub returns-in-Err-clause-call : goal.returns-in-Err-clause-call
returns-in-Err-clause-call g c =
    let there = leaf-there g.D.BlockDev.state c.args.devices.now c.args.config.now c.args.leaf c.args.first c.args.bytes.now c.requires.sound c.requires.fits in
    leaf-called (DeviceDoes g.D.BlockDev.state g.D.BlockDev.does) c.args.devices.now c.args.leaf c.index-devices-leaf.result there (Write c.args.first c.args.bytes.now false) c.write.new.self c.in-Err.ensures.call
