use Rattle.std.proofs.Common.{IsTrue, ◌≤◌, ◌≡◌, ◌+◌, ◌-◌, ◌*◌, ◌/◌, ◌%◌, ℕ, List, [], ◌++◌, Option, Err, arith, refl, sym, ◌∙◌, ap, subst, length, take, drop, append-nil, length-drop, length-append}
use Rattle.std.specs.Io.KnownBytes.{Consumes, IsAtEnd}
use Rattle.std.proofs.lemmas.List.{length-take-le, take_all}
use Rattle.alignment.specs.Lengths.{IsAlignedLen}
use Rattle.stack_rules.specs.Names.{mapped, may_write, size}
use Rattle.stack_rules.specs.Records.{Configuration}
use Rattle.stack_engine.specs.WritePieces.{EachWrite}
use Rattle.transfer_commands.specs.Filling.{IsBroken}
use Rattle.transfer_commands.specs.Stores.{HasStored, IsLastEnd, IsPieceStored, IsProbeEnd, IsStoreStop, LastEnds, StoreSide, StoresPiece, store_side, whole_of}
use Rattle.transfer_commands.proofs.StoreLemmas.{AreNext, HasStoredWhole, err-as, last-err, last-ok, ok-as, probe-err, probe-ok, store-none, store-piece}
use Rattle.transfer_commands.proofs.input.store_by.Goals as goal

pub pieces-init : goal.pieces-init
pieces-init g c =
    let old : StoreSide = store_side c.args.stack.now (g.R.Read.remaining c.args.reader.now.inner) in
    let none : 0 ≡ c.args.place.first - c.args.place.first = omega arith in
    let all : c.sectors-sectors.result ≡ size c.args.stack.now.config (mapped c.args.d.0) = c.sectors-sectors.ensures ∙ ap (λ (x : Configuration). size x (mapped c.args.d.0)) c.config.ensures.value in
    let whole : HasStoredWhole c.args.d.0 c.args.place.first (c.args.place.first - c.args.place.first) old old =
    subst (λ (k : ℕ). HasStoredWhole c.args.d.0 c.args.place.first k old old) none (store-none c.args.d.0 c.args.place.first old) in
    record {
      stored = whole.stored;
      whole = whole;
      config = refl;
      from = omega arith;
      within = omega (arith, all, c.requires.inside);
      all = all;
      room = c.requires.buffer;
    }

pub returns-then-count-size-clause-ok : goal.returns-then-count-size-clause-ok
returns-then-count-size-clause-ok g c =
    let before = c.pieces.invariant in
    let d : ℕ = c.args.d.0 in
    let first : ℕ = c.args.place.first in
    let k : ℕ = c.pieces.at - first in
    let here : c.pieces.at ≡ first + k = omega (arith, before.from) in
    let filled = c.in-Ok.ensures.ok in
    let bytes : List ℕ = take c.in-Ok.count c.fill.new.buffer in
    let input : Option (List ℕ) = g.R.Read.remaining c.fill.new.reader.inner in
    let old : StoreSide = store_side c.args.stack.now (g.R.Read.remaining c.args.reader.now.inner) in
    let mid : StoreSide = store_side c.pieces.stack (g.R.Read.remaining c.pieces.reader.inner) in
    let new : StoreSide = store_side c.store_last.new.stack input in
    let most : ℕ = c.aligned_len-most.result in
    let wide : length (take (most * 512) c.pieces.room) ≡ most * 512 = length-take-le (most * 512) c.pieces.room (omega (arith, before.room, c.aligned_len-most.ensures.few)) in
    let ended : IsAtEnd input = filled.ended (omega (arith, c.fill.auto.buffer, wide, c.if-count-size.true)) in
    ok-as c.store_last.result
    (λ n. (n ≡ k + length bytes / 512) × (length bytes % 512 ≡ 0) × StoresPiece c.pieces.stack d c.pieces.at (whole_of bytes) c.store_last.new.stack)
    (λ n. HasStored d first n old new × IsAtEnd input)
    (λ n h. (
      subst (λ (m : ℕ). HasStored d first m old new) (sym h.0)
          (last-ok d first k old mid before.whole bytes c.store_last.new.stack input filled.taken h.1 (subst (λ (s : ℕ). StoresPiece c.pieces.stack d s (whole_of bytes) c.store_last.new.stack) here h.2)),
      ended,
    ))
    c.store_last.ensures.ok

pub returns-then-count-size-clause-err : goal.returns-then-count-size-clause-err
returns-then-count-size-clause-err g c =
    let before = c.pieces.invariant in
    let d : ℕ = c.args.d.0 in
    let first : ℕ = c.args.place.first in
    let k : ℕ = c.pieces.at - first in
    let here : c.pieces.at ≡ first + k = omega (arith, before.from) in
    let filled = c.in-Ok.ensures.ok in
    let bytes : List ℕ = take c.in-Ok.count c.fill.new.buffer in
    let input : Option (List ℕ) = g.R.Read.remaining c.fill.new.reader.inner in
    let old : StoreSide = store_side c.args.stack.now (g.R.Read.remaining c.args.reader.now.inner) in
    let mid : StoreSide = store_side c.pieces.stack (g.R.Read.remaining c.pieces.reader.inner) in
    let new : StoreSide = store_side c.store_last.new.stack input in
    let most : ℕ = c.aligned_len-most.result in
    let wide : length (take (most * 512) c.pieces.room) ≡ most * 512 = length-take-le (most * 512) c.pieces.room (omega (arith, before.room, c.aligned_len-most.ensures.few)) in
    let ended : IsAtEnd input = filled.ended (omega (arith, c.fill.auto.buffer, wide, c.if-count-size.true)) in
    let broken : Type 0 = IsBroken c.fill.new.reader in
    err-as c.store_last.result (IsLastEnd d c.pieces.at k bytes c.pieces.stack c.store_last.new.stack) (IsStoreStop d first old new broken)
    (λ fault h. last-err d first k old mid before.whole bytes c.store_last.new.stack input broken fault.written fault.cause filled.taken ended
    (subst (λ (s : ℕ). LastEnds d s bytes c.pieces.stack c.store_last.new.stack k fault.written fault.cause) here h))
    c.store_last.ensures.err

pub returns-in-Err-clause-err : goal.returns-in-Err-clause-err
returns-in-Err-clause-err g c =
    let before = c.pieces.invariant in
    let d : ℕ = c.args.d.0 in
    let first : ℕ = c.args.place.first in
    let k : ℕ = c.pieces.at - first in
    let here : c.pieces.at ≡ first + k = omega (arith, before.from) in
    let filled = c.in-Ok.ensures.ok in
    let piece : List ℕ = c.fill.new.buffer in
    let input : Option (List ℕ) = g.R.Read.remaining c.fill.new.reader.inner in
    let mid : StoreSide = store_side c.pieces.stack (g.R.Read.remaining c.pieces.reader.inner) in
    let most : ℕ = c.aligned_len-most.result in
    let wide : length (take (most * 512) c.pieces.room) ≡ most * 512 = length-take-le (most * 512) c.pieces.room (omega (arith, before.room, c.aligned_len-most.ensures.few)) in
    let all : take c.in-Ok.count piece ≡ piece ++ [] = take_all c.in-Ok.count piece (omega (arith, c.fill.auto.buffer, wide, c.if-count-size.false)) ∙ sym (append-nil piece) in
    record {
      left = mid;
      piece = piece;
      more = [];
      stored = before.stored;
      taken = subst (λ (l : List ℕ). Consumes (g.R.Read.remaining c.pieces.reader.inner) input l) all filled.taken;
      failed = subst (λ (s : ℕ). EachWrite c.pieces.stack d s piece (Err c.in-Err.fault) c.write_piece.new.self) here (record { piece = c.in-Err.ensures.piece; any = c.in-Err.ensures.any; steady = c.in-Err.ensures.steady });
    }

pub pieces-preserved : goal.pieces-preserved
pieces-preserved g c =
    let before = c.pieces.invariant in
    let d : ℕ = c.args.d.0 in
    let first : ℕ = c.args.place.first in
    let k : ℕ = c.pieces.at - first in
    let here : c.pieces.at ≡ first + k = omega (arith, before.from) in
    let filled = c.in-Ok.ensures.ok in
    let piece : List ℕ = c.fill.new.buffer in
    let input : Option (List ℕ) = g.R.Read.remaining c.fill.new.reader.inner in
    let old : StoreSide = store_side c.args.stack.now (g.R.Read.remaining c.args.reader.now.inner) in
    let mid : StoreSide = store_side c.pieces.stack (g.R.Read.remaining c.pieces.reader.inner) in
    let new : StoreSide = store_side c.write_piece.new.self input in
    let most : ℕ = c.aligned_len-most.result in
    let wide : length (take (most * 512) c.pieces.room) ≡ most * 512 = length-take-le (most * 512) c.pieces.room (omega (arith, before.room, c.aligned_len-most.ensures.few)) in
    let long : length piece ≡ 512 * most = omega (arith, c.fill.auto.buffer, wide) in
    let all : take c.in-Ok.count piece ≡ piece = take_all c.in-Ok.count piece (omega (arith, long, c.if-count-size.false)) in
    let at_piece : IsPieceStored c.pieces.stack d c.pieces.at piece c.write_piece.new.self =
    record {
      written = record { piece = c.in_default-write_piece.ensures.piece; any = c.in_default-write_piece.ensures.any; steady = c.in_default-write_piece.ensures.steady };
      wrote = c.in_default-write_piece.ensures.wrote;
      needed = c.in_default-write_piece.ensures.needed;
    } in
    let wrote = subst (λ (s : ℕ). IsPieceStored c.pieces.stack d s piece c.write_piece.new.self) here at_piece in
    let len : IsAlignedLen c.pieces.stack.config d c.pieces.at (c.sectors-sectors.result - c.pieces.at) 128 most =
    subst (λ (x : Configuration). IsAlignedLen x d c.pieces.at (c.sectors-sectors.result - c.pieces.at) 128 most) c.config-in-pieces.ensures.value c.aligned_len-most.ensures in
    let rest : c.sectors-sectors.result - c.pieces.at ≡ size c.args.stack.now.config (mapped d) - first - k = omega (arith, before.all, here) in
    let next : AreNext c.pieces.stack d (first + k) (size c.args.stack.now.config (mapped d) - first - k) most =
    record {
      len = subst (λ (r : ℕ). IsAlignedLen c.pieces.stack.config d (first + k) r 128 most) rest (subst (λ (s : ℕ). IsAlignedLen c.pieces.stack.config d s (c.sectors-sectors.result - c.pieces.at) 128 most) here len);
      allowed = subst (λ (x : Configuration). IsTrue (may_write x (mapped d))) (sym before.config) c.requires.allowed;
      inside = subst (λ (x : Configuration). first + k + most ≤ size x (mapped d)) (sym before.config) (omega (arith, here, before.all, c.aligned_len-most.ensures.inside, c.pieces-test.true));
    } in
    let whole : HasStoredWhole d first (k + most) old new =
    store-piece d first k old mid before.whole most piece c.write_piece.new.self input long wrote c.in_default-write_piece.ensures.checked next
    (subst (λ (l : List ℕ). Consumes (g.R.Read.remaining c.pieces.reader.inner) input l) all filled.taken) in
    let sum : k + most ≡ c.pieces.at + most - first = omega (arith, before.from) in
    let summed : HasStoredWhole d first (c.pieces.at + most - first) old new = subst (λ (m : ℕ). HasStoredWhole d first m old new) sum whole in
    record {
      stored = summed.stored;
      whole = summed;
      config = c.in_default-write_piece.ensures.any.config ∙ before.config;
      from = omega (arith, before.from);
      within = omega (arith, c.aligned_len-most.ensures.inside, c.pieces-test.true);
      all = before.all;
      room = length-append piece (drop (most * 512) c.pieces.room) ∙ omega (arith, long, length-drop (most * 512) c.pieces.room, before.room, c.aligned_len-most.ensures.few);
    }

pub returns-clause-err : goal.returns-clause-err
returns-clause-err g c =
    let before = c.pieces.invariant in
    let d : ℕ = c.args.d.0 in
    let first : ℕ = c.args.place.first in
    let k : ℕ = c.pieces.at - first in
    let input : Option (List ℕ) = g.R.Read.remaining c.probe.new.reader.inner in
    let old : StoreSide = store_side c.args.stack.now (g.R.Read.remaining c.args.reader.now.inner) in
    let mid : StoreSide = store_side c.pieces.stack (g.R.Read.remaining c.pieces.reader.inner) in
    let new : StoreSide = store_side c.pieces.stack input in
    let broken : Type 0 = IsBroken c.probe.new.reader in
    let full : first + k ≡ size c.args.stack.now.config (mapped d) = omega (arith, before.from, before.within, c.pieces-test.false) ∙ before.all in
    err-as c.probe.result (λ fault. (fault.written ≡ k) × IsProbeEnd (g.R.Read.remaining c.pieces.reader.inner) input broken fault.cause) (IsStoreStop d first old new broken)
    (λ fault h. probe-err d first k old mid before.whole input broken fault.written fault.cause h.0 full h.1)
    c.probe.ensures.err

pub returns-clause-ok : goal.returns-clause-ok
returns-clause-ok g c =
    let before = c.pieces.invariant in
    let d : ℕ = c.args.d.0 in
    let first : ℕ = c.args.place.first in
    let k : ℕ = c.pieces.at - first in
    let input : Option (List ℕ) = g.R.Read.remaining c.probe.new.reader.inner in
    let old : StoreSide = store_side c.args.stack.now (g.R.Read.remaining c.args.reader.now.inner) in
    let mid : StoreSide = store_side c.pieces.stack (g.R.Read.remaining c.pieces.reader.inner) in
    let new : StoreSide = store_side c.pieces.stack input in
    ok-as c.probe.result (λ n. (n ≡ k) × Consumes (g.R.Read.remaining c.pieces.reader.inner) input [] × IsAtEnd input) (λ n. HasStored d first n old new × IsAtEnd input)
    (λ n h. (subst (λ (m : ℕ). HasStored d first m old new) (sym h.0) (probe-ok d first k old mid before.whole input h.1), h.2))
    c.probe.ensures.ok
