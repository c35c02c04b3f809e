use Rattle.std.proofs.Common.{IsTrue, ◌≡◌, ◌≤◌, ◌+◌, ◌-◌, ◌*◌, ◌/◌, ℕ, Bool, true, not, List, arith, refl, sym, ◌∙◌, ap, subst, length, take, drop, length-drop, length-append}
use Rattle.std.specs.Prelude.{is_ok}
use Rattle.std.specs.List.{concat}
use Rattle.std.proofs.lemmas.List.{length-take-le}
use Rattle.block_device.specs.Device.{Device, IsRead, run_of}
use Rattle.alignment.specs.Lengths.{IsAlignedLen}
use Rattle.stack_rules.specs.Names.{mapped, may_write, size}
use Rattle.stack_rules.specs.Records.{Configuration}
use Rattle.transfer_commands.specs.Stores.{IsPieceStored}
use Rattle.transfer_commands.proofs.StoreLemmas.{AreNext}
use Rattle.transfer_commands.proofs.ImageLemmas.{image-none, image-piece, of_ok, unchanged-more, unchanged-none}
use Rattle.transfer_commands.proofs.image.store_image_by.Goals as goal

pub pieces-init : goal.pieces-init
pieces-init g c = record {
  stored = image-none c.args.d.0 c.args.first c.args.stack.now (g.S.BlockDev.state c.args.source.now);
  source = unchanged-none (g.S.BlockDev.state c.args.source.now);
  config = refl;
  within = omega arith;
  room = c.requires.buffer;
}

pub returns-in-Err-clause-err : goal.returns-in-Err-clause-err
returns-in-Err-clause-err g c = (c.pieces.stack, c.pieces.invariant.stored, c.read.new.out, record { piece = c.in-Err.ensures.piece; any = c.in-Err.ensures.any; steady = c.in-Err.ensures.steady })

pub pieces-preserved : goal.pieces-preserved
pieces-preserved g c =
    let u = c.pieces.invariant in
    let d : ℕ = c.args.d.0 in
    let first : ℕ = c.args.first in
    let done : ℕ = c.pieces.done in
    let most : ℕ = c.aligned_len-most.result in
    let old : Device = g.S.BlockDev.state c.args.source.now in
    let now : Device = g.S.BlockDev.state c.pieces.source in
    let new : Device = g.S.BlockDev.state c.read.new.self in
    let piece : List ℕ = c.read.new.out in
    let wide : length (take (most * 512) c.pieces.room) ≡ most * 512 = length-take-le (most * 512) c.pieces.room (omega (arith, u.room, c.aligned_len-most.ensures.few)) in
    let number : length (take (most * 512) c.pieces.room) / 512 ≡ most = omega (arith, wide) in
    let long : length piece ≡ 512 * most = omega (arith, c.read.auto.out, wide) in
    let ok : is_ok c.read.result ≡ true = c.is_err.ensures.negation ∙ ap not c.if-is_err.false in
    let moved : IsRead now most true new = subst (λ (b : Bool). IsRead now most b new) ok (subst (λ (m : ℕ). IsRead now m (is_ok c.read.result) new) number c.read.ensures.moved) in
    let bytes = of_ok c.read.result _ ok c.read.ensures.bytes in
    let wrote : IsPieceStored c.pieces.stack d (first + done) piece c.write_piece.new.self =
    record {
      written = record { piece = c.in_default.ensures.piece; any = c.in_default.ensures.any; steady = c.in_default.ensures.steady };
      wrote = c.in_default.ensures.wrote;
      needed = c.in_default.ensures.needed;
    } in
    let len : IsAlignedLen c.pieces.stack.config d (first + done) (c.sectors-sectors-2.result - done) 128 most =
    subst (λ (x : Configuration). IsAlignedLen x d (first + done) (c.sectors-sectors-2.result - done) 128 most) c.config-in-pieces.ensures.value c.aligned_len-most.ensures in
    let rest : c.sectors-sectors-2.result - done ≡ old.size - done = omega (arith, c.sectors-sectors-2.ensures.size) in
    let next : AreNext c.pieces.stack d (first + done) (old.size - done) most =
    record {
      len = subst (λ (r : ℕ). IsAlignedLen c.pieces.stack.config d (first + done) r 128 most) rest len;
      allowed = subst (λ (x : Configuration). IsTrue (may_write x (mapped d))) (sym u.config) c.requires.allowed;
      inside = subst (λ (x : Configuration). first + done + most ≤ size x (mapped d)) (sym u.config) (omega (arith, c.requires.inside, c.sectors-sectors-2.ensures.size, c.aligned_len-most.ensures.inside, c.pieces-test.true));
    } in
    record {
      stored = image-piece d first done most c.args.stack.now c.pieces.stack c.write_piece.new.self old now u.source u.stored piece long (λ steady. bytes steady ∙ ap (λ (k : ℕ). concat (run_of now.image done k)) number) next wrote c.in_default.ensures.checked;
      source = unchanged-more old now new u.source most moved;
      config = c.in_default.ensures.any.config ∙ u.config;
      within = omega (arith, c.aligned_len-most.ensures.inside, c.pieces-test.true);
      room = length-append piece (drop (most * 512) c.pieces.room) ∙ omega (arith, long, length-drop (most * 512) c.pieces.room, u.room, c.aligned_len-most.ensures.few);
    }
