-- Sectors that are read at once.
use Rattle.std.proofs.Common.{◌≡◌, ◌<◌, ◌≤◌, ℕ, ◌+◌, ◌*◌, ◌/◌, ◌%◌, ◌^◌, List, [], length, refl, ap, ◌∙◌, subst, arith, inl, inr, Some, Result, Ok, Err}
use Rattle.std.specs.Int.{div_ceil}
use Rattle.std.specs.Str.{bytes_eq}
use Rattle.std.proofs.lemmas.List.Quantifiers.{position-Some}
use Rattle.std.specs.Prelude.{Bool, true, false, not, nat_le, if◌then◌else◌, nat_lt, ◌==◌}
use Rattle.allocation.specs.Refusal.{IsOutOfMemory}
use Rattle.stack_rules.specs.Names.{device_named, mapped, size}
use Rattle.stack_rules.specs.Records.{Configuration}
use Rattle.stack_meaning.specs.declared.fault.IoFault.{IoFault}
use Rattle.stack_meaning.specs.declared.fault.IoFault.TheVariants as io
use Rattle.stack_meaning.specs.Meaning.{said_at}
use Rattle.stack_meaning.specs.Reading.{MeetVerity}
use Rattle.stack_lines.proofs.lemmas.TouchLemmas.{touches-as}
use Rattle.stack_engine.specs.Bytes.{EachBytes}
use Rattle.stack_engine.specs.KeptBlocks.{ReadKeeps}
use Rattle.request_queue.specs.declared.fault.BytesFault.{BytesFault}
use Rattle.request_queue.specs.declared.fault.BytesFault.TheVariants.{Failed}
use Rattle.request_queue.specs.declared.fault.SubmitFault.{SubmitFault}
use Rattle.request_queue.specs.declared.fault.SubmitFault.TheVariants.{NoSuchDevice, OutOfRange, Length}
use Rattle.request_queue.specs.declared.range.SectorRange.{SectorRange}
use Rattle.request_queue.specs.declared.fault.PieceFault.{PieceFault}
use Rattle.request_queue.specs.AtOnce.{EndsRead, IsPieceOf, ReadsInPieces}
use Rattle.request_queue.specs.Parts.{EachPart}
use Rattle.request_queue.specs.Ranges.{bytes_range, range_at}
use Rattle.request_queue.specs.WholeRuns.{ReadsWhole}
use Rattle.request_queue.specs.World.{World, Step, read_bytes}
use Rattle.request_queue.specs.Replies.{LacksMemory}
use Rattle.request_queue.proofs.lemmas.AtOnceLemmas.{failed-inside}
use Rattle.request_queue.proofs.lemmas.BytesLemmas.{bytes-at}
use Rattle.request_queue.proofs.lemmas.KeptLemmas.{bytes-kept}
use Rattle.request_queue.proofs.lemmas.LedLemmas.{led-none, led-one}
use Rattle.nbd_server.specs.declared.failure.Failure.{Failure}
use Rattle.nbd_server.specs.Failures.{no_memory, read_failure}
use Rattle.nbd_protocol.specs.Exports.{ExportRecord}
use Rattle.nbd_server.specs.Premises.{AreBytesOf, AreSectorsOf}
use Rattle.nbd_server.specs.Sectors.{FailsToFetch, IsFetched}
use Rattle.nbd_server.specs.Status.{touched}
use Rattle.nbd_server.specs.Transmission.{room_behind}

-- ---- one read

-- a read that ended with that piece
abbrev pub failed_by : PieceFault → Result Unit BytesFault
failed_by piece = Err (Failed piece)

-- the device of a name is there
pub named-below : (c : Configuration) (name : List ℕ) (d : ℕ) → device_named c name ≡ Some d → d < length c.devices
named-below c name d found = (position-Some (λ x. bytes_eq x.name name) c.devices d (record { name = name; writable = true; table = [] }) found).0

tests-pass : (a b e : Bool) (x : SectorRange) (fault : SubmitFault) → a ≡ false → b ≡ false → e ≡ true → (if a then Err NoSuchDevice else if b then Err OutOfRange else if not e then Err Length else Ok x) ≡ Err fault → ⊥
tests-pass true b e x fault one two three h = let clash : true ≡ false = one in cc
tests-pass false true e x fault one two three h = let clash : true ≡ false = two in cc
tests-pass false false false x fault one two three h = let clash : false ≡ true = three in cc
tests-pass false false true x fault one two three h = let clash : Ok x ≡ Err fault = h in cc

whole-ok : (w w' : World) (d first count len : ℕ) (bytes : List ℕ) → EachBytes w.stack d first count (Ok bytes) w'.stack → ReadKeeps w.stack d first count w'.stack → EndsRead (range_at d first count) w.stack (Ok bytes) w'.stack
    → Step EachPart w (read_bytes d first len (Ok (Ok bytes))) w' → IsFetched w d first count bytes w'
whole-ok w w' d first count len bytes p kept pieces s = record {
  chains = p.any.may.chains;
  read = record { config = p.any.config; capacity = p.any.capacity; moved = p.any.moved; may = p.any.may.read; touches = touches-as (Ok _) tt p.any.touches; fails = p.any.fails; kept = kept; exact = λ sure. (p.steady (record { steady = sure.steady; agrees = sure.agrees })).exact };
  pieces = pieces;
  good = p.any.may.good;
  led = led-one EachPart w (read_bytes d first len (Ok (Ok bytes))) w' s;
}

whole-err : (w w' : World) (d first count : ℕ) (fault : IoFault) → EachBytes w.stack d first count (Err fault) w'.stack → ReadKeeps w.stack d first count w'.stack → ReadsWhole w.stack (range_at d first count) (Err fault) w'.stack
whole-err w w' d first count (io.Stack fault) p kept = record { config = p.any.config; capacity = p.any.capacity; moved = p.any.moved; may = p.any.may; touches = touches-as (Err _) p.any.touches.fault p.any.touches; fails = p.any.fails; kept = kept; exact = λ sure. (p.steady (record { steady = sure.steady; agrees = sure.agrees })).exact }
whole-err w w' d first count (io.Device i) p kept = record { config = p.any.config; capacity = p.any.capacity; moved = p.any.moved; may = p.any.may; touches = touches-as (Err _) p.any.touches.fault p.any.touches; fails = p.any.fails; kept = kept; exact = λ sure. tt }
whole-err w w' d first count io.NoMemory p kept = record { config = p.any.config; capacity = p.any.capacity; moved = p.any.moved; may = p.any.may; touches = touches-as (Err io.NoMemory) tt p.any.touches; fails = p.any.fails; kept = kept; exact = λ sure. tt }

module _ (w w' : World) (d first count len : ℕ) (all : len ≡ count * 512) where
  sectors-are : len / 512 ≡ count
  sectors-are = omega (arith, all)

  pub fetched : (bytes : List ℕ) → Step EachPart w (read_bytes d first len (Ok (Ok bytes))) w' → ReadsInPieces w d first len (Ok bytes) w' → IsFetched w d first count bytes w'
  fetched bytes s pieces = whole-ok w w' d first count len bytes (subst (λ (n : ℕ). EachBytes w.stack d first n (Ok bytes) w'.stack) sectors-are (bytes-at w d first len (Ok bytes) w' s))
      (subst (λ (n : ℕ). ReadKeeps w.stack d first n w'.stack) sectors-are (bytes-kept w d first len (Ok bytes) w' s))
      (subst (λ (n : ℕ). EndsRead (range_at d first n) w.stack (Ok bytes) w'.stack) sectors-are pieces) s

  module _ (piece : PieceFault) (s : Step EachPart w (read_bytes d first len (Ok (Err piece.fault))) w') (pieces : ReadsInPieces w d first len (Err (Failed piece)) w') where
    read-whole : ReadsWhole w.stack (range_at d first count) (Err piece.fault) w'.stack
    read-whole = whole-err w w' d first count piece.fault (subst (λ (n : ℕ). EachBytes w.stack d first n (Err piece.fault) w'.stack) sectors-are (bytes-at w d first len (Err piece.fault) w' s))
        (subst (λ (n : ℕ). ReadKeeps w.stack d first n w'.stack) sectors-are (bytes-kept w d first len (Err piece.fault) w' s))

    read-pieces : EndsRead (range_at d first count) w.stack (Err piece) w'.stack
    read-pieces = subst (λ (n : ℕ). EndsRead (range_at d first n) w.stack (Err piece) w'.stack) sectors-are pieces

    -- the sectors of the piece that failed are sectors of the device
    pub piece-inside : first + count ≤ size w.stack.config (mapped d) → piece.first < size w'.stack.config (mapped d)
    piece-inside inside =
        let of : IsPieceOf (range_at d first count) piece = failed-inside (range_at d first count) w.stack piece w'.stack read-pieces in
        let same : size w'.stack.config (mapped d) ≡ size w.stack.config (mapped d) = ap (λ (c : Configuration). size c (mapped d)) read-whole.config in
        omega (arith, of.some, of.inside, inside, same)

    pub unfetched : (error : Failure) → error ≡ read_failure w'.stack.config d piece → ((met : PieceFault) → failed_by piece ≡ failed_by met → LacksMemory met → MeetVerity (said_at w.stack.config (mapped d)) first (len / 512))
        → FailsToFetch w d first count error w'
    unfetched error told cause = record {
      cause = inl (record {
        piece = piece;
        told = told ∙ ap (λ (c : Configuration). read_failure c d piece) read-whole.config;
        cause = λ e. subst (λ (n : ℕ). MeetVerity (said_at w.stack.config (mapped d)) first n) sectors-are (cause piece refl e);
        read = read-whole;
        pieces = read-pieces;
      });
      led = led-one EachPart w (read_bytes d first len (Ok (Err piece.fault))) w' s;
    }

  -- sectors inside a device are read, or fail
  pub not-refused : (fault : SubmitFault) → d < length w.stack.config.devices → first + count ≤ size w.stack.config (mapped d) → bytes_range w.stack.config d first len ≡ Err fault → ⊥
  not-refused fault there inside h =
      let one : nat_le (length w.stack.config.devices) d ≡ false = grind (arith, there) in
      let whole : div_ceil len 512 ≡ count = omega (arith, all) in
      let two : nat_lt (size w.stack.config (mapped d)) (first + div_ceil len 512) ≡ false = grind (arith, inside, whole) in
      let three : (len % 512 == 0) ≡ true = grind (arith, all) in
      tests-pass (nat_le (length w.stack.config.devices) d) (nat_lt (size w.stack.config (mapped d)) (first + div_ceil len 512)) (len % 512 == 0) (range_at d first (len / 512)) fault one two three h

-- an allocation of the bytes was refused
pub no-buffer : (w : World) (d first count : ℕ) → IsOutOfMemory (512 * count) → FailsToFetch w d first count no_memory w
no-buffer w d first count refused = record { cause = inr (refl, refl, refused); led = led-none EachPart w }

-- ---- the sectors that bytes of the export touch

module _ (c : Configuration) (e : ExportRecord) (offset len : ℕ) (a : AreBytesOf c e offset len) where
  pub sectors-of : len < 2 ^ 32 → AreSectorsOf c e (offset / 512) (touched offset len)
  sectors-of few = record { export = a.export; inside = omega (arith, a.within, a.export.size); few = omega (arith, few) }

  pub bytes-behind : AreBytesOf c e (offset + len) (room_behind offset len)
  bytes-behind = record { export = a.export; within = omega (arith, a.within, a.export.size) }
