use Rattle.std.proofs.Common.{ℕ, List, ◌≡◌, ◌/◌, length, true, ap, arith, inl, inr, refl, subst, ◌∙◌}
use Rattle.std.proofs.lemmas.Result.{on_err_weaker, on_ok_weaker}
use Rattle.block_device.specs.Device.{IsWritten, sectors_of, spliced}
use Rattle.tree_shape.specs.Shape.{ShapeRecord}
use Rattle.verity_format.proofs.lemmas.DeviceLemmas.{failed-then}
use Rattle.verity_format.proofs.lemmas.SizeLemmas.{block-size}
use Rattle.update_commands.proofs.EndingLemmas.{ended-on}
use Rattle.update_commands.proofs.SealLemmas.{zeros-length, zeros-taken}
use Rattle.update_commands.proofs.sealing.seal_from.Goals as goal

pub returns-then-sectors-size-clause-err : goal.returns-then-sectors-size-clause-err
returns-then-sectors-size-clause-err g c =
    let size = c.hash_block-size.ensures.value ∙ ap (λ (t : ShapeRecord). t.hash_block) c.shape-shape.ensures.value in
    inl (record { why = inl (omega (arith, c.if-sectors-size.true, c.sectors-sectors.ensures.size, size)); same = refl })

pub put_superblock-requires : goal.put_superblock-requires
put_superblock-requires g c =
    let s = c.args.superblock.now in
    let size = c.hash_block-size.ensures.value ∙ ap (λ (t : ShapeRecord). t.hash_block) c.shape-shape.ensures.value in
    zeros-taken c.args.memory.now c.hash_block-size.result 4096 s.hash_block c.requires size (block-size s.hash_block c.shape-shape.ensures.valid.hash_size).most_bytes

pub returns-in_err-write-clause-err : goal.returns-in_err-write-clause-err
returns-in_err-write-clause-err g c = ended-on c.from_residual.result (inr c.in_err-write.ensures.fault)

pub returns-clause-ok : goal.returns-clause-ok
returns-clause-ok g c =
    let s = c.args.superblock.now in
    let old = g.H.BlockDev.state c.args.hash_dev.now in
    let block = c.put_superblock.new.block in
    let size = c.hash_block-size.ensures.value ∙ ap (λ (t : ShapeRecord). t.hash_block) c.shape-shape.ensures.value in
    let zeros = zeros-taken c.args.memory.now c.hash_block-size.result 4096 s.hash_block c.requires size (block-size s.hash_block c.shape-shape.ensures.valid.hash_size).most_bytes in
    let long : length block ≡ s.hash_block = zeros-length _ block s.hash_block c.put_superblock.auto.block zeros in
    on_ok_weaker c.sync.result
    (λ kept. record {
      written_dev = g.H.BlockDev.state c.write.new.self;
      written = subst (λ (n : ℕ). IsWritten old 0 (n / 512) true (g.H.BlockDev.state c.write.new.self)) long c.in_ok-write.ensures.moved;
      image = λ steady.
          c.in_ok-write.ensures.image steady
          ∙ ap (λ (n : ℕ). spliced old.image 0 (sectors_of (n / 512) block)) long
          ∙ ap (λ (bytes : List ℕ). spliced old.image 0 (sectors_of (s.hash_block / 512) bytes)) c.put_superblock.ensures;
      kept = kept;
    })
    c.sync.ensures.ok

pub returns-clause-err : goal.returns-clause-err
returns-clause-err g c =
    on_err_weaker c.sync.result (λ unsynced. inr (failed-then (g.H.BlockDev.state c.args.hash_dev.now) (g.H.BlockDev.state c.write.new.self) (g.H.BlockDev.state c.sync.new.self) c.in_ok-write.ensures.moved.failures unsynced.failed)) c.sync.ensures.err
