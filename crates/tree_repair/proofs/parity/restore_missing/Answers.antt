use Rattle.std.proofs.Common.{ℕ, List, length, ap, arith, ◌∙◌, inl}
use Rattle.std.proofs.lemmas.List.{length-replicate}
use Rattle.tree_repair.specs.Jobs.{job}
use Rattle.tree_repair.proofs.TryLemmas.{tried-placed}
use Rattle.tree_repair.proofs.ParityLemmas.{size-block}
use Rattle.tree_repair.proofs.RunLemmas.{can-read, ended-from, ends-read, ends-refused, has-behind, has-read, parity-none, refused-within, world-none}
use Rattle.tree_repair.specs.ParityBounds.{along_bill}
use Rattle.tree_repair.specs.Runs.{size_at}
use Rattle.tree_repair.proofs.ParityBillLemmas.{asked-along, asked-none, asked-tries_alone}
use Rattle.tree_repair.proofs.ParityPassLemmas.{tells-behind, tells-from, tells-none}
use Rattle.block_device.specs.Call.{DeviceDoes}
use Rattle.verity_format.specs.declared.verifying.VerifyFault.TheVariants.{NoMemory}
use Rattle.tree_repair.specs.declared.fault.RepairFault.TheVariants.{Image}
use Rattle.tree_repair.specs.RepairCalls.{wrote_all}
use Rattle.tree_repair.proofs.RunCallLemmas.{hands-behind, hands-ended, hands-fault, hands-none, hands-read, hands-visit, visit-restored}
use Rattle.tree_repair.proofs.parity.restore_missing.Goals as goal

pub returns-in_err-made-clause-parity : goal.returns-in_err-made-clause-parity
returns-in_err-made-clause-parity g c = parity-none (g.P.BlockDev.state c.args.parity.now)

pub returns-in_err-made-clause-run : goal.returns-in_err-made-clause-run
returns-in_err-made-clause-run g c = ended-from c.from_residual.result c.from_residual.ensures.1 (ends-read (world-none c.args.image.now.world) (refused-within c.block_size-size.result (omega (arith, c.block_size-size.ensures, (size-block c.args.missing.now.repair.now.shape c.args.missing.now.place.height c.requires.can.valid).most)) c.in_err-made.ensures.err.1))

pub returns-in_err-read-clause-parity : goal.returns-in_err-read-clause-parity
returns-in_err-read-clause-parity g c = parity-none (g.P.BlockDev.state c.args.parity.now)

pub returns-in_err-read-clause-run : goal.returns-in_err-read-clause-run
returns-in_err-read-clause-run g c = ended-from c.from_residual-in_err-read.result c.from_residual-in_err-read.ensures.1 (ends-read (world-none c.args.image.now.world) (refused-within c.block_size-size.result (omega (arith, c.block_size-size.ensures, (size-block c.args.missing.now.repair.now.shape c.args.missing.now.place.height c.requires.can.valid).most)) c.in_err-read.ensures.err.1))

pub make_bytes-requires-clause-size : goal.make_bytes-requires-clause-size
make_bytes-requires-clause-size g c =
    ap (λ (l : List ℕ). length l) (c.as_mut_slice-bytes.ensures.value ∙ c.in_ok-made.ensures.ok) ∙ length-replicate {A = ℕ} c.block_size-size.result 0 ∙ c.block_size-size.ensures

pub returns-in_err-back-clause-parity : goal.returns-in_err-back-clause-parity
returns-in_err-back-clause-parity g c = c.make_bytes.ensures.parity

pub returns-in_err-back-clause-run : goal.returns-in_err-back-clause-run
returns-in_err-back-clause-run g c = ended-from c.from_residual-in_err-back.result c.from_residual-in_err-back.ensures.1 (ends-refused _ c.in_err-back.ensures.err c.make_bytes.ensures.read)

pub returns-then-not-back-clause-parity : goal.returns-then-not-back-clause-parity
returns-then-not-back-clause-parity g c = c.make_bytes.ensures.parity

pub returns-then-not-back-clause-run : goal.returns-then-not-back-clause-run
returns-then-not-back-clause-run g c = has-read c.make_bytes.ensures.read

pub put_restored-requires-clause-can : goal.put_restored-requires-clause-can
put_restored-requires-clause-can g c = can-read c.make_bytes.ensures.read c.requires.can

pub put_restored-requires-clause-good : goal.put_restored-requires-clause-good
put_restored-requires-clause-good g c = c.in_ok-back.ensures.good c.if-not-back.false

pub put_restored-requires-clause-bytes : goal.put_restored-requires-clause-bytes
put_restored-requires-clause-bytes g c =
    c.make_bytes.auto.bytes ∙ ap (λ (l : List ℕ). length l) (c.as_mut_slice-bytes.ensures.value ∙ c.in_ok-made.ensures.ok) ∙ length-replicate {A = ℕ} c.block_size-size.result 0 ∙ c.block_size-size.ensures

pub put_restored-requires-clause-size : goal.put_restored-requires-clause-size
put_restored-requires-clause-size g c =
    ap (λ (l : List ℕ). length l) (c.as_mut_slice-block.ensures.value ∙ c.in_ok-read.ensures.ok) ∙ length-replicate {A = ℕ} c.block_size-size.result 0 ∙ c.block_size-size.ensures

pub returns-clause-parity : goal.returns-clause-parity
returns-clause-parity g c = c.make_bytes.ensures.parity

pub returns-clause-run : goal.returns-clause-run
returns-clause-run g c = has-behind c.make_bytes.ensures.read c.put_restored.ensures.run

pub returns-then-not-back-clause-tried : goal.returns-then-not-back-clause-tried
returns-then-not-back-clause-tried g c = (record { image = c.make_bytes.ensures.read; parity = c.make_bytes.ensures.parity }, inl (record { p = c.args.missing.now.path.now; way = c.requires.way; vain = (rw c.if-not-back.true at c.in_ok-back.ensures.vain) c.requires.place }))

pub returns-clause-tried : goal.returns-clause-tried
returns-clause-tried g c =
    tried-placed (job c.args.missing.now.repair.now) c.args.missing.now.place.height c.args.missing.now.place.index c.args.losses.now.layout c.args.losses.now.lost.items c.args.image.now.world c.make_bytes.new.image.world c.put_restored.new.image.world
    (g.P.BlockDev.state c.args.parity.now) (g.P.BlockDev.state c.make_bytes.new.parity) c.make_bytes.new.bytes c.put_restored.result c.make_bytes.ensures.read c.make_bytes.ensures.parity c.put_restored.ensures.placed

pub returns-in_err-made-clause-within : goal.returns-in_err-made-clause-within
returns-in_err-made-clause-within g c = asked-none (along_bill c.args.losses.now.layout) c.args.image.now.world (g.P.BlockDev.state c.args.parity.now)

pub returns-in_err-read-clause-within : goal.returns-in_err-read-clause-within
returns-in_err-read-clause-within g c = asked-none (along_bill c.args.losses.now.layout) c.args.image.now.world (g.P.BlockDev.state c.args.parity.now)

pub returns-in_err-back-clause-within : goal.returns-in_err-back-clause-within
returns-in_err-back-clause-within g c = asked-tries_alone c.args.losses.now.layout c.requires.laid.layout c.make_bytes.ensures.within.0

pub returns-then-not-back-clause-within : goal.returns-then-not-back-clause-within
returns-then-not-back-clause-within g c = asked-tries_alone c.args.losses.now.layout c.requires.laid.layout c.make_bytes.ensures.within.0

pub returns-clause-within : goal.returns-clause-within
returns-clause-within g c =
    asked-along c.args.losses.now.layout c.requires.laid.layout (size_at c.args.missing.now.repair.now.shape c.args.missing.now.place.height) (c.in_ok-back.ensures.within.1 c.if-not-back.false)
    c.make_bytes.ensures.within.0 (c.put_restored.ensures.within (g.P.BlockDev.state c.make_bytes.new.parity))

pub returns-in_err-made-clause-came : goal.returns-in_err-made-clause-came
returns-in_err-made-clause-came g c = tells-from c.args.missing.now.place.height c.from_residual.result c.from_residual.ensures.1 (ends-read (world-none c.args.image.now.world) (refused-within c.block_size-size.result (omega (arith, c.block_size-size.ensures, (size-block c.args.missing.now.repair.now.shape c.args.missing.now.place.height c.requires.can.valid).most)) c.in_err-made.ensures.err.1))

pub returns-in_err-read-clause-came : goal.returns-in_err-read-clause-came
returns-in_err-read-clause-came g c = tells-from c.args.missing.now.place.height c.from_residual-in_err-read.result c.from_residual-in_err-read.ensures.1 (ends-read (world-none c.args.image.now.world) (refused-within c.block_size-size.result (omega (arith, c.block_size-size.ensures, (size-block c.args.missing.now.repair.now.shape c.args.missing.now.place.height c.requires.can.valid).most)) c.in_err-read.ensures.err.1))

pub returns-in_err-back-clause-came : goal.returns-in_err-back-clause-came
returns-in_err-back-clause-came g c = tells-from c.args.missing.now.place.height c.from_residual-in_err-back.result c.from_residual-in_err-back.ensures.1 (ends-refused _ c.in_err-back.ensures.err c.make_bytes.ensures.read)

pub returns-then-not-back-clause-came : goal.returns-then-not-back-clause-came
returns-then-not-back-clause-came g c = tells-none c.args.missing.now.place.height (has-read c.make_bytes.ensures.read)

pub returns-clause-came : goal.returns-clause-came
returns-clause-came g c = tells-behind c.make_bytes.ensures.read c.put_restored.ensures.came

pub returns-in_err-made-clause-handed : goal.returns-in_err-made-clause-handed
returns-in_err-made-clause-handed g c =
    let asks = DeviceDoes g.D.BlockDev.state g.D.BlockDev.does in
    let does = DeviceDoes g.H.BlockDev.state g.H.BlockDev.does in
    hands-ended asks does (job c.args.missing.now.repair.now) c.args.image.now c.args.image.now c.from_residual.result _ c.from_residual.ensures.1 (hands-none asks does (job c.args.missing.now.repair.now) c.args.image.now)

pub returns-in_err-read-clause-handed : goal.returns-in_err-read-clause-handed
returns-in_err-read-clause-handed g c =
    let asks = DeviceDoes g.D.BlockDev.state g.D.BlockDev.does in
    let does = DeviceDoes g.H.BlockDev.state g.H.BlockDev.does in
    hands-ended asks does (job c.args.missing.now.repair.now) c.args.image.now c.args.image.now c.from_residual-in_err-read.result _ c.from_residual-in_err-read.ensures.1 (hands-none asks does (job c.args.missing.now.repair.now) c.args.image.now)

pub returns-in_err-back-clause-handed : goal.returns-in_err-back-clause-handed
returns-in_err-back-clause-handed g c =
    let asks = DeviceDoes g.D.BlockDev.state g.D.BlockDev.does in
    let does = DeviceDoes g.H.BlockDev.state g.H.BlockDev.does in
    hands-ended asks does (job c.args.missing.now.repair.now) c.args.image.now c.make_bytes.new.image c.from_residual-in_err-back.result _ c.from_residual-in_err-back.ensures.1
    (hands-fault asks does (job c.args.missing.now.repair.now) _ (Image NoMemory) c.args.image.now c.make_bytes.new.image c.in_err-back.ensures.err.0 (hands-read asks does (job c.args.missing.now.repair.now) c.args.image.now c.make_bytes.new.image c.make_bytes.ensures.called))

pub returns-then-not-back-clause-handed : goal.returns-then-not-back-clause-handed
returns-then-not-back-clause-handed g c =
    let asks = DeviceDoes g.D.BlockDev.state g.D.BlockDev.does in
    let does = DeviceDoes g.H.BlockDev.state g.H.BlockDev.does in
    hands-read asks does (job c.args.missing.now.repair.now) c.args.image.now c.make_bytes.new.image c.make_bytes.ensures.called

pub returns-clause-handed : goal.returns-clause-handed
returns-clause-handed g c =
    let asks = DeviceDoes g.D.BlockDev.state g.D.BlockDev.does in
    let does = DeviceDoes g.H.BlockDev.state g.H.BlockDev.does in
    let m = c.args.missing.now in
    let h = m.place.height in
    let i = m.place.index in
    let p = m.path.now in
    let done = wrote_all c.put_restored.result in
    hands-behind asks does (job c.args.missing.now.repair.now) done c.args.image.now c.make_bytes.new.image c.put_restored.new.image c.make_bytes.ensures.called
    (hands-visit asks does (job c.args.missing.now.repair.now) h i p done c.make_bytes.new.image c.put_restored.new.image c.requires.place.inside c.requires.way (visit-restored asks does (job c.args.missing.now.repair.now) h i p done c.make_bytes.new.image c.put_restored.new.image c.put_restored.ensures.handed))
