use Rattle.std.proofs.Common.{◌≡◌, ◌≤◌, ℕ, List, ◌+◌, ◌-◌, ◌/◌, ◌%◌, Result, Ok, Err, length, take, drop, refl, ap, ◌∙◌, subst, sym, arith}
use Rattle.std.proofs.lemmas.List.{length-drop, length-take-le}
use Rattle.stack_meaning.specs.declared.fault.IoFault.{IoFault}
use Rattle.stack_engine.specs.Bytes.{EachBytes}
use Rattle.stack_rules.specs.Records.{Configuration}
use Rattle.stack_engine.specs.KeptBlocks.{ReadKeeps}
use Rattle.request_queue.specs.AtOnce.{ReadsInTurn, no_read}
use Rattle.request_queue.specs.PieceCalls.{GivesInTurn, none_given}
use Rattle.request_queue.specs.Ranges.{HaveSectors, range_at}
use Rattle.request_queue.proofs.lemmas.BytesLemmas.{bytes-none, front-is, slice-end, slice-more, slice-length, piece-within, meets-later}
use Rattle.request_queue.proofs.lemmas.KeptLemmas.{keeps-then}
use Rattle.request_queue.proofs.TurnLemmas.{given-ends, given-more, turn-ends, turn-more}
use Rattle.request_queue.proofs.WrittenPieceLemmas.{take-all}
use Rattle.request_queue.proofs.at_once.read_pieces.Goals as goal

abbrev ended : IoFault → Result Unit IoFault
ended fault = Err fault

pub pieces-init : goal.pieces-init
pieces-init g c = record {
  turns = no_read;
  given = none_given;
  sectors = c.requires;
  had = bytes-none c.args.stack.now c.args.device.0 c.args.first;
  kept = record { same = λ none. refl; checked = c.cached-kept.ensures.checked };
  whole = refl;
  within = omega arith;
  size = refl;
}

pub piece_bytes-requires-clause-sectors : goal.piece_bytes-requires-clause-sectors
piece_bytes-requires-clause-sectors g c =
    let b = c.pieces.invariant in
    record {
      device = b.sectors.device;
      whole = omega (arith, b.sectors.whole, b.whole, b.size, c.pieces-test.true);
      inside = omega (arith, b.sectors.inside, b.sectors.whole, b.whole, b.size, c.pieces-test.true);
      fits = omega (arith, b.sectors.fits, b.sectors.whole, b.whole, b.size, c.pieces-test.true);
    }

pub returns-in-Err-clause-read : goal.returns-in-Err-clause-read
returns-in-Err-clause-read g c =
    let b = c.pieces.invariant in
    let n = c.piece_bytes.result in
    let end = c.pieces.done + c.piece_bytes.result in
    let fault = c.in-Err.fault in
    let above : c.pieces.done ≤ end = omega arith in
    let inside : end ≤ length c.pieces.out = omega (arith, c.piece_bytes.ensures.inside, c.pieces-test.true) in
    let piece : EachBytes c.pieces.stack c.args.device.0 (c.args.first + c.pieces.done / 512) (length (take (end - c.pieces.done) (drop c.pieces.done c.pieces.out)) / 512) (Err fault) c.read_bytes.new.self =
    record { any = c.in-Err.ensures.any; steady = c.in-Err.ensures.steady } in
    let whole = slice-end c.args.stack.now c.pieces.stack c.read_bytes.new.self c.args.device.0 c.args.first c.pieces.out c.pieces.done end b.whole above inside b.had fault piece in
    let few = piece-within c.args.stack.now c.pieces.stack c.read_bytes.new.self c.args.device.0 c.args.first c.pieces.out c.pieces.done end b.whole above inside b.had in
    rw c.piece_fault.ensures (record {
      each = subst (λ (m : ℕ). EachBytes c.args.stack.now c.args.device.0 c.args.first (m / 512) (Err fault) c.read_bytes.new.self) b.size whole;
      kept = keeps-then c.args.stack.now c.pieces.stack c.read_bytes.new.self c.args.device.0 c.args.first (c.pieces.done / 512) (length (take (end - c.pieces.done) (drop c.pieces.done c.pieces.out)) / 512) (length c.args.out.now / 512)
          b.had.any.config (omega (arith, few, b.size)) b.kept.same c.in-Err.ensures.kept;
      pieces = turn-ends c.args.stack.now c.pieces.stack c.read_bytes.new.self c.args.device.0 c.args.first (length c.args.out.now) c.pieces.out c.pieces.done n b.whole b.sectors.whole b.size inside c.piece_bytes.ensures b.turns fault piece c.in-Err.ensures.spent;
    })

pub returns-in-Err-clause-given : goal.returns-in-Err-clause-given
returns-in-Err-clause-given g c =
    let b = c.pieces.invariant in
    let end = c.pieces.done + c.piece_bytes.result in
    let fault = c.in-Err.fault in
    let inside : end ≤ length c.pieces.out = omega (arith, c.piece_bytes.ensures.inside, c.pieces-test.true) in
    rw c.piece_fault.ensures (given-ends c.args.stack.now c.pieces.stack c.read_bytes.new.self c.args.device.0 c.args.first (length c.args.out.now) c.pieces.out c.pieces.done c.piece_bytes.result b.whole b.sectors.whole b.size inside c.piece_bytes.ensures b.given fault c.in-Err.ensures.given)

pub returns-in-Err-clause-memory : goal.returns-in-Err-clause-memory
returns-in-Err-clause-memory g c =
    let b = c.pieces.invariant in
    let end = c.pieces.done + c.piece_bytes.result in
    let above : c.pieces.done ≤ end = omega arith in
    let inside : end ≤ length c.pieces.out = omega (arith, c.piece_bytes.ensures.inside, c.pieces-test.true) in
    let few = piece-within c.args.stack.now c.pieces.stack c.read_bytes.new.self c.args.device.0 c.args.first c.pieces.out c.pieces.done end b.whole above inside b.had in
    rw c.piece_fault.ensures (λ no.
    meets-later c.args.stack.now c.pieces.stack c.args.device.0 c.args.first (c.pieces.done / 512) (length (take (end - c.pieces.done) (drop c.pieces.done c.pieces.out)) / 512) (length c.args.out.now / 512)
    b.had.any.config (omega (arith, few, b.size)) (c.in-Err.ensures.memory (ap ended no)))

pub returns-clause-read : goal.returns-clause-read
returns-clause-read g c =
    let b = c.pieces.invariant in
    let sectors : ℕ = length c.args.out.now / 512 in
    let all : take c.pieces.done c.pieces.out ≡ c.pieces.out = take-all c.pieces.out c.pieces.done b.within (omega (arith, c.pieces-test.false)) in
    let count : c.pieces.done / 512 ≡ length c.args.out.now / 512 = omega (arith, b.within, b.size, c.pieces-test.false) in
    let had = subst (λ (n : ℕ). EachBytes c.args.stack.now c.args.device.0 c.args.first n (Ok (take c.pieces.done c.pieces.out)) c.pieces.stack) count b.had in
    record {
      each = subst (λ (l : List ℕ). EachBytes c.args.stack.now c.args.device.0 c.args.first sectors (Ok l) c.pieces.stack) all had;
      kept = subst (λ (n : ℕ). ReadKeeps c.args.stack.now c.args.device.0 c.args.first n c.pieces.stack) count b.kept;
      pieces = subst (λ (l : List ℕ). ReadsInTurn (range_at c.args.device.0 c.args.first sectors) c.args.stack.now (Ok l) c.pieces.stack) all b.turns;
    }

pub returns-clause-given : goal.returns-clause-given
returns-clause-given g c =
    let b = c.pieces.invariant in
    let all : take c.pieces.done c.pieces.out ≡ c.pieces.out = take-all c.pieces.out c.pieces.done b.within (omega (arith, c.pieces-test.false)) in
    subst (λ (l : List ℕ). GivesInTurn g.D.BlockDev.state g.D.BlockDev.does (range_at c.args.device.0 c.args.first (length c.args.out.now / 512)) c.args.stack.now (Ok l) c.pieces.stack) all b.given

pub pieces-preserved : goal.pieces-preserved
pieces-preserved g c =
    let b = c.pieces.invariant in
    let end = c.pieces.done + c.piece_bytes.result in
    let above : c.pieces.done ≤ end = omega arith in
    let inside : end ≤ length c.pieces.out = omega (arith, c.piece_bytes.ensures.inside, c.pieces-test.true) in
    let last : end % 512 ≡ 0 = omega (arith, c.piece_bytes.ensures.whole, b.whole) in
    let piece : EachBytes c.pieces.stack c.args.device.0 (c.args.first + c.pieces.done / 512) (length (take (end - c.pieces.done) (drop c.pieces.done c.pieces.out)) / 512) (Ok c.read_bytes.new.out) c.read_bytes.new.self =
    record { any = c.in-Ok.ensures.any; steady = c.in-Ok.ensures.steady } in
    let few : c.pieces.done / 512 + length (take (end - c.pieces.done) (drop c.pieces.done c.pieces.out)) / 512 ≤ end / 512 =
    omega (arith, length-take-le (end - c.pieces.done) (drop c.pieces.done c.pieces.out) (omega (arith, length-drop c.pieces.done c.pieces.out, inside)), b.whole, above) in
    let size = slice-length c.args.stack.now c.pieces.stack c.read_bytes.new.self c.args.device.0 c.args.first c.pieces.out c.pieces.done end b.whole above inside b.had c.read_bytes.new.out last piece in
    record {
      turns = turn-more c.args.stack.now c.pieces.stack c.read_bytes.new.self c.args.device.0 c.args.first (length c.args.out.now) c.pieces.out c.pieces.done c.piece_bytes.result b.whole b.sectors.whole b.size inside c.piece_bytes.ensures b.turns c.read_bytes.new.out _
          (sym (front-is c.args.stack.now c.pieces.stack c.read_bytes.new.self c.args.device.0 c.args.first c.pieces.out c.pieces.done end b.whole above inside b.had c.read_bytes.new.out last piece)) piece c.in-Ok.ensures.spent;
      given = given-more c.args.stack.now c.pieces.stack c.read_bytes.new.self c.args.device.0 c.args.first (length c.args.out.now) c.pieces.out c.pieces.done c.piece_bytes.result b.whole b.sectors.whole b.size inside c.piece_bytes.ensures b.given c.read_bytes.new.out _
          (sym (front-is c.args.stack.now c.pieces.stack c.read_bytes.new.self c.args.device.0 c.args.first c.pieces.out c.pieces.done end b.whole above inside b.had c.read_bytes.new.out last piece)) c.in-Ok.ensures.given;
      had = slice-more c.args.stack.now c.pieces.stack c.read_bytes.new.self c.args.device.0 c.args.first c.pieces.out c.pieces.done end b.whole above inside b.had c.read_bytes.new.out last piece;
      sectors = subst (λ (k : Configuration). HaveSectors k c.args.device.0 c.args.first (length c.args.out.now)) (sym c.in-Ok.ensures.any.config) b.sectors;
      kept = keeps-then c.args.stack.now c.pieces.stack c.read_bytes.new.self c.args.device.0 c.args.first (c.pieces.done / 512) (length (take (end - c.pieces.done) (drop c.pieces.done c.pieces.out)) / 512) (end / 512)
          b.had.any.config few b.kept.same c.in-Ok.ensures.kept;
      whole = last;
      within = omega (arith, inside, size);
      size = size ∙ b.size;
    }
