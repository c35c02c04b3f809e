-- Bytes that are taken and written, piece by piece.
use Rattle.std.proofs.Common.{IsTrue, ◌≡◌, ◌≤◌, ℕ, ◌+◌, ◌-◌, ◌*◌, ◌/◌, ◌%◌, List, [], ◌++◌, length, drop, Option, Some, None, Ok, Err, refl, sym, ap, ◌∙◌, subst, arith, append-nil, append_assoc, inl, inr, length-drop}
use Rattle.std.specs.Prelude.{IfErr, IfOk, OnOk, Result, map}
use Rattle.std.specs.Io.KnownBytes.{Consumes, IsAtEnd, prepend_known}
use Rattle.std.proofs.KnownBytes.{Consumes-nil, Consumes-trans}
use Rattle.std.proofs.lemmas.List.{length-append, length-take-le, take-append-drop, take_all}
use Rattle.block_device.specs.Device.{synced}
use Rattle.stack_meaning.specs.declared.fault.IoFault.{IoFault}
use Rattle.alignment.specs.Lengths.{IsAlignedLen}
use Rattle.stack_rules.specs.Names.{mapped, may_write, size}
use Rattle.stack_engine.specs.KeptBlocks.{AreChecked}
use Rattle.stack_engine.specs.Stacks.{StackRecord}
use Rattle.stack_engine.specs.Syncs.{FailsToSync}
use Rattle.stack_engine.specs.WritePieces.{EachWrite, WritesInPieces}
use Rattle.stack_engine.proofs.lemmas.WritePieceLemmas.{write-none, write-then}
use Rattle.request_queue.specs.AtOnce.{IsNextWrite, WritesBeside, no_step}
use Rattle.request_queue.proofs.lemmas.AtOnceLemmas.{beside-more, next-piece}
use Rattle.transfer_commands.specs.declared.stream_fault.StoreCause.{StoreCause}
use Rattle.transfer_commands.specs.declared.stream_fault.StoreCause.TheVariants as cause
use Rattle.transfer_commands.specs.declared.stream_fault.StoreFault.{StoreFault}
use Rattle.transfer_commands.specs.Stores.{HasStored, IsPieceStored, IsProbeEnd, IsSyncTried, LastEnds, StopsStore, StoreSide, StoresInTurn, StoresPiece, sectors_from, store_side, whole_of}

-- bytes that were taken at once, as if in two parts
pub consumes-part : (a c : Option (List ℕ)) (x y : List ℕ) → Consumes a c (x ++ y) → Consumes a (prepend_known y c) x
consumes-part None c x y p = tt
consumes-part (Some a) None x y p = p
consumes-part (Some a) (Some c) x y p = p ∙ append_assoc x y c

pub consumes-rest : (c : Option (List ℕ)) (y : List ℕ) → Consumes (prepend_known y c) c y
consumes-rest None y = tt
consumes-rest (Some c) y = refl

-- whatever a sync answers
pub sync-tried : (old new : StackRecord) (outcome : Result Unit IoFault) → new.config ≡ old.config → new.capacity ≡ old.capacity → new.kept ≡ old.kept
    → OnOk outcome (new.leaves ≡ map synced old.leaves) → IfErr outcome (FailsToSync old.leaves new.leaves) → IsSyncTried old new
sync-tried old new (Ok done) config capacity kept ok err = record { config = config; capacity = capacity; kept = kept; leaves = inl ok }
sync-tried old new (Err fault) config capacity kept ok err = record { config = config; capacity = capacity; kept = kept; leaves = inr (fault, err) }

-- n sectors of mapped device d, from the first on, are the next piece of as many as are left, and may be written
pub record AreNext (v : StackRecord) (d first rest n : ℕ) : Type 0 where
  pub len : IsAlignedLen v.config d first rest 128 n
  pub allowed : IsTrue (may_write v.config (mapped d))
  pub inside : first + n ≤ size v.config (mapped d)

-- the bytes of n sectors were taken and written, all of them in pieces that end as `aligned_len` says
pub record HasStoredWhole (d first n : ℕ) (old new : StoreSide) : Type 0 where
  pub stored : HasStored d first n old new
  pub steps : WritesBeside (sectors_from old.stack.config d first) old.stack stored.bytes (Ok tt) new.stack

-- then no piece is shorter
whole-turns : (d first : ℕ) (w : StackRecord) (bytes : List ℕ) (w' : StackRecord) → WritesBeside (sectors_from w.config d first) w bytes (Ok tt) w' → StoresInTurn d first w bytes w'
whole-turns d first w bytes w' steps = record { front = bytes; last = []; left = w'; bytes_are = sym (append-nil bytes); steps = steps; ends = inl (refl, refl) }

pub store-none : (d first : ℕ) (old : StoreSide) → HasStoredWhole d first 0 old old
store-none d first old =
    let none : WritesBeside (sectors_from old.stack.config d first) old.stack [] (Ok tt) old.stack = λ given fs. no_step in
    record {
      stored = record { bytes = []; count = refl; pieces = write-none old.stack d first; turns = whole-turns d first old.stack [] old.stack none; taken = Consumes-nil old.input };
      steps = none;
    }

module _ (d first k : ℕ) (old mid : StoreSide) (whole : HasStoredWhole d first k old mid) where
  start : first + k ≡ first + length whole.stored.bytes / 512
  start = omega (arith, whole.stored.count)

  -- the next piece
  pub store-piece : (n : ℕ) (piece : List ℕ) (stack : StackRecord) (input : Option (List ℕ)) → length piece ≡ 512 * n → IsPieceStored mid.stack d (first + k) piece stack → AreChecked stack
      → AreNext mid.stack d (first + k) (size old.stack.config (mapped d) - first - k) n → Consumes mid.input input piece → HasStoredWhole d first (k + n) old (store_side stack input)
  store-piece n piece stack input long q checked next taken =
      let front : List ℕ = whole.stored.bytes in
      let all : ℕ = size old.stack.config (mapped d) - first in
      let here : k ≡ length whole.stored.bytes / 512 = omega (arith, whole.stored.count) in
      let left : 512 * all - length front ≡ 512 * (all - k) = omega (arith, whole.stored.count) in
      let sectors : length piece / 512 ≡ n = omega (arith, long) in
      let paid : IsNextWrite mid.stack d (first + k) (512 * all - length front) (length piece) stack =
      record { next = next-piece mid.stack.config d (first + k) (all - k) n (512 * all - length front) (length piece) next.len long left; wrote = q.wrote; needed = q.needed } in
      let steps : WritesBeside (sectors_from old.stack.config d first) old.stack (front ++ piece) (Ok tt) stack =
      beside-more (sectors_from old.stack.config d first) old.stack mid.stack stack front piece next.allowed (omega (arith, start, sectors, next.inside)) checked
      (subst (λ (m : ℕ). IsNextWrite mid.stack d m (512 * all - length front) (length piece) stack) start paid) whole.steps
      (subst (λ (m : ℕ). EachWrite mid.stack d m piece (Ok tt) stack) start q.written) in
      record {
        stored = record {
          bytes = front ++ piece;
          count = length-append front piece ∙ omega (arith, whole.stored.count, long);
          pieces = write-then d first front piece (omega (arith, whole.stored.count)) whole.stored.pieces (subst (λ (m : ℕ). EachWrite mid.stack d (first + m) piece (Ok tt) stack) here q.written);
          turns = whole-turns d first old.stack (front ++ piece) stack steps;
          taken = Consumes-trans old.input mid.input input front piece whole.stored.taken taken;
        };
        steps = steps;
      }

  some-pieces : (piece : List ℕ) (stack : StackRecord) → StoresPiece mid.stack d (first + k) piece stack → WritesInPieces old.stack d first (whole.stored.bytes ++ piece) (Ok tt) stack
  some-pieces piece stack (inr q) =
      let here : k ≡ length whole.stored.bytes / 512 = omega (arith, whole.stored.count) in
      write-then d first whole.stored.bytes piece (omega (arith, whole.stored.count)) whole.stored.pieces (subst (λ (m : ℕ). EachWrite mid.stack d (first + m) piece (Ok tt) stack) here q.written)
  some-pieces piece stack (inl none) =
      let all : whole.stored.bytes ++ piece ≡ whole.stored.bytes = ap (λ (l : List ℕ). whole.stored.bytes ++ l) none.0 ∙ append-nil whole.stored.bytes in
      subst (λ (w : StackRecord). WritesInPieces old.stack d first (whole.stored.bytes ++ piece) (Ok tt) w) (sym none.1)
      (subst (λ (l : List ℕ). WritesInPieces old.stack d first l (Ok tt) mid.stack) (sym all) whole.stored.pieces)

  -- the last one, which may have no sector
  pub store-some : (n : ℕ) (piece : List ℕ) (stack : StackRecord) (input : Option (List ℕ)) → length piece ≡ 512 * n → StoresPiece mid.stack d (first + k) piece stack → Consumes mid.input input piece
      → HasStored d first (k + n) old (store_side stack input)
  store-some n piece stack input long q taken = record {
    bytes = whole.stored.bytes ++ piece;
    count = length-append whole.stored.bytes piece ∙ omega (arith, whole.stored.count, long);
    pieces = some-pieces piece stack q;
    turns = record {
      front = whole.stored.bytes;
      last = piece;
      left = mid.stack;
      bytes_are = refl;
      steps = whole.steps;
      ends = subst (λ (m : ℕ). StoresPiece mid.stack d m piece stack) start q;
    };
    taken = Consumes-trans old.input mid.input input whole.stored.bytes piece whole.stored.taken taken;
  }

  -- the last bytes, which are whole sectors
  pub last-ok : (bytes : List ℕ) (stack : StackRecord) (input : Option (List ℕ)) → Consumes mid.input input bytes → length bytes % 512 ≡ 0 → StoresPiece mid.stack d (first + k) (whole_of bytes) stack
      → HasStored d first (k + length bytes / 512) old (store_side stack input)
  last-ok bytes stack input taken even q =
      let all : whole_of bytes ≡ bytes = take_all (length bytes / 512 * 512) bytes (omega (arith, even)) in
      store-some (length bytes / 512) bytes stack input (omega (arith, even)) (subst (λ (l : List ℕ). StoresPiece mid.stack d (first + k) l stack) all q) taken

  -- or aren't, or aren't written
  pub last-err : (bytes : List ℕ) (stack : StackRecord) (input : Option (List ℕ)) (broken : Type 0) (n : ℕ) (why : StoreCause) → Consumes mid.input input bytes → IsAtEnd input
      → LastEnds d (first + k) bytes mid.stack stack k n why → StopsStore d first n old (store_side stack input) broken why
  last-err bytes stack input broken n cause.PartSector taken ended h =
      let part : List ℕ = drop (length bytes / 512 * 512) bytes in
      let whole : List ℕ = whole_of bytes in
      let long : length whole ≡ 512 * (length bytes / 512) = length-take-le (length bytes / 512 * 512) bytes (omega arith) ∙ omega arith in
      let both : bytes ≡ whole ++ part = sym (take-append-drop (length bytes / 512 * 512) bytes) in
      let split : Consumes mid.input input (whole ++ part) = subst (λ (l : List ℕ). Consumes mid.input input l) both taken in
      let stored : HasStored d first (k + length bytes / 512) old (store_side stack (prepend_known part input)) =
      store-some (length bytes / 512) whole stack (prepend_known part input) long h.2 (consumes-part mid.input input whole part split) in
      let rest : length part ≡ length bytes - length bytes / 512 * 512 = length-drop (length bytes / 512 * 512) bytes in (
        part,
        omega (arith, rest, h.1),
        omega (arith, rest),
        record {
          left = prepend_known part input;
          stored = subst (λ (m : ℕ). HasStored d first m old (store_side stack (prepend_known part input))) (sym h.0) stored;
          taken = consumes-rest input part;
        },
        ended,
      )
  last-err bytes stack input broken n (cause.Write fault) taken ended h =
      let both : bytes ≡ whole_of bytes ++ drop (length bytes / 512 * 512) bytes = sym (take-append-drop (length bytes / 512 * 512) bytes) in
      record {
        left = mid;
        piece = whole_of bytes;
        more = drop (length bytes / 512 * 512) bytes;
        stored = subst (λ (m : ℕ). HasStored d first m old mid) (sym h.0) whole.stored;
        taken = subst (λ (l : List ℕ). Consumes mid.input input l) both taken;
        failed = subst (λ (m : ℕ). EachWrite mid.stack d (first + m) (whole_of bytes) (Err fault) stack) (sym h.0) h.1;
      }
  last-err bytes stack input broken n cause.ReadOnly taken ended h = absurd h
  last-err bytes stack input broken n cause.Range taken ended h = absurd h
  last-err bytes stack input broken n cause.Length taken ended h = absurd h
  last-err bytes stack input broken n cause.TooLong taken ended h = absurd h
  last-err bytes stack input broken n cause.Read taken ended h = absurd h
  last-err bytes stack input broken n (cause.Sync fault) taken ended h = absurd h

  -- the device is full
  pub probe-ok : (input : Option (List ℕ)) → Consumes mid.input input [] → HasStored d first k old (store_side mid.stack input)
  probe-ok input none = record {
    bytes = whole.stored.bytes;
    count = whole.stored.count;
    pieces = whole.stored.pieces;
    turns = whole.stored.turns;
    taken = subst (λ (l : List ℕ). Consumes old.input input l) (append-nil whole.stored.bytes) (Consumes-trans old.input mid.input input whole.stored.bytes [] whole.stored.taken none);
  }

  pub probe-err : (input : Option (List ℕ)) (broken : Type 0) (n : ℕ) (why : StoreCause) → n ≡ k → first + k ≡ size old.stack.config (mapped d) → IsProbeEnd mid.input input broken why → StopsStore d first n old (store_side mid.stack input) broken why
  probe-err input broken n cause.TooLong is full h = (
    h.0,
    h.1,
    record {
      left = mid.input;
      stored = subst (λ (m : ℕ). HasStored d first m old mid) (sym is) whole.stored;
      taken = h.2;
    },
    ap (λ (m : ℕ). first + m) is ∙ full,
  )
  probe-err input broken n cause.Read is full h = (
    h.0,
    record {
      left = mid.input;
      stored = subst (λ (m : ℕ). HasStored d first m old mid) (sym is) whole.stored;
      taken = h.1;
    },
    h.2,
  )
  probe-err input broken n cause.ReadOnly is full h = absurd h
  probe-err input broken n cause.Range is full h = absurd h
  probe-err input broken n cause.Length is full h = absurd h
  probe-err input broken n cause.PartSector is full h = absurd h
  probe-err input broken n (cause.Write fault) is full h = absurd h
  probe-err input broken n (cause.Sync fault) is full h = absurd h

-- what follows of a result
pub ok-as : (r : Result ℕ StoreFault) (P Q : ℕ → Type 0) → ((n : ℕ) → P n → Q n) → IfOk r P → IfOk r Q
ok-as (Ok n) P Q f h = f n h
ok-as (Err fault) P Q f h = tt

pub err-as : (r : Result ℕ StoreFault) (P Q : StoreFault → Type 0) → ((fault : StoreFault) → P fault → Q fault) → IfErr r P → IfErr r Q
err-as (Ok n) P Q f h = tt
err-as (Err fault) P Q f h = f fault h
