use Rattle.std.proofs.Common.{◌≡◌, ◌≤◌, ℕ, ◌+◌, ◌-◌, ◌/◌, Result, Ok, Err, arith, length, refl, ap, subst, sym}
use Rattle.stack_rules.specs.Records.{Configuration}
use Rattle.stack_meaning.specs.declared.fault.IoFault.{IoFault}
use Rattle.stack_engine.proofs.lemmas.WritePieceLemmas.{write-none}
use Rattle.stack_engine.specs.WritePieces.{EachWrite}
use Rattle.request_queue.specs.AtOnce.{CanBeWritten, IsNextPiece, no_step}
use Rattle.request_queue.specs.PieceCalls.{none_handed}
use Rattle.request_queue.specs.Ranges.{most_piece}
use Rattle.request_queue.proofs.WrittenPieceLemmas.{handed-ends, handed-more, next_part, put-more, put-fails, some-encrypt, steps-more, steps-end}
use Rattle.request_queue.proofs.at_once.write_pieces.Goals as goal

abbrev ended : IoFault → Result Unit IoFault
ended fault = Err fault

pub pieces-init : goal.pieces-init
pieces-init g c = record {
  put = write-none c.args.stack.now c.args.device.0 c.args.first;
  steps = λ given fs. no_step;
  handed = none_handed;
  can = c.requires;
  whole = refl;
  within = omega arith;
}

pub returns-in-Err-clause-whole : goal.returns-in-Err-clause-whole
returns-in-Err-clause-whole g c =
    let b = c.pieces.invariant in
    let end = c.pieces.done + c.piece_bytes.result in
    rw c.piece_fault.ensures
    (put-fails c.args.stack.now c.pieces.stack c.write_piece.new.self c.args.device.0 c.args.first c.args.bytes.now c.pieces.done end b.whole (omega (arith, c.piece_bytes.ensures.some)) (omega (arith, c.piece_bytes.ensures.inside, b.within)) b.put c.in-Err.fault
    (record { piece = c.in-Err.ensures.piece; any = c.in-Err.ensures.any; steady = c.in-Err.ensures.steady }))

pub returns-in-Err-clause-steps : goal.returns-in-Err-clause-steps
returns-in-Err-clause-steps g c =
    let b = c.pieces.invariant in
    let end = c.pieces.done + c.piece_bytes.result in
    let size : c.piece_bytes.result ≡ end - c.pieces.done = omega arith in
    let next = subst (λ (n : ℕ). IsNextPiece most_piece c.pieces.stack.config c.args.device.0 (c.args.first + c.pieces.done / 512) (length c.args.bytes.now - c.pieces.done) n) size c.piece_bytes.ensures in
    rw c.piece_fault.ensures
    (steps-end c.args.stack.now c.pieces.stack c.write_piece.new.self c.args.device.0 c.args.first c.args.bytes.now c.pieces.done end b.whole (omega (arith, c.piece_bytes.ensures.some)) (omega (arith, c.piece_bytes.ensures.inside, b.within)) b.can next b.steps c.in-Err.fault
    (record {
      each = record { piece = c.in-Err.ensures.piece; any = c.in-Err.ensures.any; steady = c.in-Err.ensures.steady };
      wrote = c.in-Err.ensures.wrote;
      needed = c.in-Err.ensures.needed;
      checked = c.in-Err.ensures.checked;
    }))

pub returns-in-Err-clause-handed : goal.returns-in-Err-clause-handed
returns-in-Err-clause-handed g c =
    let b = c.pieces.invariant in
    let end = c.pieces.done + c.piece_bytes.result in
    let size : c.piece_bytes.result ≡ end - c.pieces.done = omega arith in
    let next = subst (λ (n : ℕ). IsNextPiece most_piece c.pieces.stack.config c.args.device.0 (c.args.first + c.pieces.done / 512) (length c.args.bytes.now - c.pieces.done) n) size c.piece_bytes.ensures in
    rw c.piece_fault.ensures
    (handed-ends c.args.stack.now c.pieces.stack c.write_piece.new.self c.args.device.0 c.args.first c.args.bytes.now c.pieces.done end b.whole (omega (arith, c.piece_bytes.ensures.some)) (omega (arith, c.piece_bytes.ensures.inside, b.within)) b.can.sectors.whole next b.handed c.in-Err.fault c.in-Err.ensures.handed)

pub returns-in-Err-clause-memory : goal.returns-in-Err-clause-memory
returns-in-Err-clause-memory g c =
    let b = c.pieces.invariant in
    let end = c.pieces.done + c.piece_bytes.result in
    rw c.piece_fault.ensures (λ no.
    some-encrypt c.args.stack.now c.pieces.stack c.write_piece.new.self c.args.device.0 c.args.first c.args.bytes.now c.pieces.done end b.whole (omega (arith, c.piece_bytes.ensures.some)) (omega (arith, c.piece_bytes.ensures.inside, b.within)) b.put
    (c.in-Err.ensures.memory (ap ended no)))

pub pieces-preserved : goal.pieces-preserved
pieces-preserved g c =
    let b = c.pieces.invariant in
    let end = c.pieces.done + c.piece_bytes.result in
    let each : EachWrite c.pieces.stack c.args.device.0 (c.args.first + c.pieces.done / 512) (next_part c.args.bytes.now c.pieces.done end) (Ok tt) c.write_piece.new.self =
    record { piece = c.in-Ok.ensures.piece; any = c.in-Ok.ensures.any; steady = c.in-Ok.ensures.steady } in
    let more : c.pieces.done + 512 ≤ end = omega (arith, c.piece_bytes.ensures.some) in
    let size : c.piece_bytes.result ≡ end - c.pieces.done = omega arith in
    let next = subst (λ (n : ℕ). IsNextPiece most_piece c.pieces.stack.config c.args.device.0 (c.args.first + c.pieces.done / 512) (length c.args.bytes.now - c.pieces.done) n) size c.piece_bytes.ensures in
    let within : end ≤ length c.args.bytes.now = omega (arith, c.piece_bytes.ensures.inside, b.within) in
    record {
      put = put-more c.args.stack.now c.pieces.stack c.write_piece.new.self c.args.device.0 c.args.first c.args.bytes.now c.pieces.done end b.whole more within b.put each;
      steps = steps-more c.args.stack.now c.pieces.stack c.write_piece.new.self c.args.device.0 c.args.first c.args.bytes.now c.pieces.done end b.whole more within b.can next b.steps
          (record { each = each; wrote = c.in-Ok.ensures.wrote; needed = c.in-Ok.ensures.needed; checked = c.in-Ok.ensures.checked });
      handed = handed-more c.args.stack.now c.pieces.stack c.write_piece.new.self c.args.device.0 c.args.first c.args.bytes.now c.pieces.done end b.whole more within b.can.sectors.whole next b.handed c.in-Ok.ensures.handed;
      can = subst (λ (k : Configuration). CanBeWritten k c.args.device.0 c.args.first c.args.bytes.now) (sym c.in-Ok.ensures.any.config) b.can;
      whole = omega (arith, c.piece_bytes.ensures.whole, b.whole);
      within = within;
    }
