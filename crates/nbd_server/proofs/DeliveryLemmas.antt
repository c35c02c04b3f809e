-- A READ that is answered piece by piece.
use Rattle.std.proofs.Common.{◌≡◌, ◌<◌, ◌≤◌, ℕ, ◌+◌, ◌*◌, ◌/◌, ◌%◌, List, [], ◌++◌, drop, length, refl, take, ap, sym, ◌∙◌, subst, arith, inl, inr, Option, None, Result, Ok, Err}
use Rattle.std.specs.Prelude.{◌==◌, Bool, false, true, OnOk}
use Rattle.std.specs.Io.KnownBytes.{Appends, Keeps}
use Rattle.std.proofs.KnownBytes.{Appends-kept, Appends-nil, Appends-trans}
use Rattle.std.proofs.lemmas.List.{drop-append-le, length-drop, length-take-le, take-append-le}
use Rattle.program_io.specs.Counted.{CountedRecord, Grows, Writes, WritesSome, Writing}
use Rattle.program_io.specs.declared.fault.WriteFault.{WriteFault}
use Rattle.request_queue.specs.Parts.{EachPart}
use Rattle.request_queue.specs.Runs.{IsLed}
use Rattle.request_queue.specs.World.{World}
use Rattle.request_queue.proofs.lemmas.LedLemmas.{led-none, led-then}
use Rattle.nbd_protocol.specs.Exports.{ExportRecord}
use Rattle.nbd_server.specs.declared.failure.Failure.{Failure}
use Rattle.nbd_server.specs.declared.known_faults.SectorFault.{SectorFault}
use Rattle.nbd_server.specs.Failures.{failure_text, fault_of, reported_error}
use Rattle.nbd_server.specs.Sectors.{IsFetched}
use Rattle.nbd_server.specs.Status.{IsLineStatus, TouchZeros, touched}
use Rattle.nbd_server.specs.declared.status.BlockStatus.{BlockStatus}
use Rattle.nbd_server.specs.Reads.{ReadsExport}
use Rattle.nbd_server.specs.Premises.{AreBytesOf, IsDeliveryRest}
use Rattle.nbd_protocol.specs.Chunks.{error_at_chunk, hole_chunk}
use Rattle.nbd_server.specs.Content.{TellsContent}
use Rattle.stack_rules.specs.Records.{Configuration}
use Rattle.nbd_server.specs.Delivery.{AnswersPiece, BeginsWithZeros, Delivers, delivers_none, delivers_more, DeliversAs, DeliversPart, GoesOnReplying, IsDelivered, IsLost, AreNextBytes, IsReadPiece, IsStuck, SendsPiece, at_first, next_size, progress_after, progress_again}
use Rattle.nbd_server.specs.declared.delivery.Delivery.{Delivery}
use Rattle.nbd_server.specs.declared.progress.Progress.{Progress}
use Rattle.nbd_server.proofs.PieceLemmas.{read-led, read-config, again-led, again-config, again-inside, again-less, sector-led, sector-config, read-again, sector-lost}
use Rattle.nbd_server.proofs.ProgressLemmas.{left_of}
use Rattle.nbd_server.proofs.ToldLemmas.{some-told}

-- ---- pieces

module _ (e : ExportRecord) (d : Delivery) where
  goes-led : (p : Progress) (w : World) (chunk : List ℕ) (next : Progress) (w' : World) → GoesOnReplying e d p w chunk next w' → IsLed EachPart w w'
  goes-led p w chunk next w' (inl s) = read-led e w (d.offset + p.done) s.size (Ok s.content) w' s.reads
  goes-led p w chunk next w' (inr (inl s)) = again-led e d p w next w' s.again
  goes-led p w chunk next w' (inr (inr s)) = subst (λ (v : World). IsLed EachPart w v) (sym s.same) (led-none EachPart w)

  pub goes-config : (p : Progress) (w : World) (chunk : List ℕ) (next : Progress) (w' : World) → GoesOnReplying e d p w chunk next w' → w'.stack.config ≡ w.stack.config
  goes-config p w chunk next w' (inl s) = read-config e w (d.offset + p.done) s.size (Ok s.content) w' s.reads
  goes-config p w chunk next w' (inr (inl s)) = again-config e d p w next w' s.again
  goes-config p w chunk next w' (inr (inr s)) = ap (λ (v : World). v.stack.config) s.same

  lost-led : (p : Progress) (w : World) (chunk : List ℕ) (w' : World) → IsLost e d p w chunk w' → IsLed EachPart w w'
  lost-led p w chunk w' s = sector-led e d p w w' s.error s.sector

  lost-config : (p : Progress) (w : World) (chunk : List ℕ) (w' : World) → IsLost e d p w chunk w' → w'.stack.config ≡ w.stack.config
  lost-config p w chunk w' s = sector-config e d p w w' s.error s.sector

  -- a piece is after the one before it, and done or put off once
  pub goes-inside : (p : Progress) (w : World) (chunk : List ℕ) (next : Progress) (w' : World) → GoesOnReplying e d p w chunk next w' → next.done ≤ d.count
  goes-inside p w chunk next w' (inl s) = subst (λ (n : Progress). n.done ≤ d.count) (sym s.next_is) s.piece.next.bytes.inside
  goes-inside p w chunk next w' (inr (inr s)) = subst (λ (n : Progress). n.done ≤ d.count) (sym s.next_is) s.bytes.inside
  goes-inside p w chunk next w' (inr (inl s)) = again-inside e d p w next w' s.again

  pub goes-smaller : (p : Progress) (w : World) (chunk : List ℕ) (next : Progress) (w' : World) → GoesOnReplying e d p w chunk next w' → left_of d.count next < left_of d.count p
  goes-smaller p w chunk next w' (inl s) = subst (λ (n : Progress). left_of d.count n < left_of d.count p) (sym s.next_is) (omega (arith, s.piece.next.bytes.inside, s.piece.next.bytes.some))
  goes-smaller p w chunk next w' (inr (inl s)) = again-less e d p w next w' s.again
  goes-smaller p w chunk next w' (inr (inr s)) = subst (λ (n : Progress). left_of d.count n < left_of d.count p) (sym s.next_is) (omega (arith, s.bytes.inside, s.bytes.some))

-- ---- what comes of a piece

-- bytes up to the end of some sectors lie in them
pub few-touched : (at place size room sectors : ℕ) → at ≡ place → size ≤ room → at % 512 + room ≤ 512 * sectors → touched place size ≤ sectors
few-touched at place size room sectors is few within = omega (arith, is, few, within)

-- the first of the next bytes
pub piece-part : (d : Delivery) (p : Progress) (size part : ℕ) → AreNextBytes d p size → 0 < part → part ≤ size → AreNextBytes d p part
piece-part d p size part piece some few = record {
  some = some;
  few = omega (arith, few, piece.few);
  inside = omega (arith, few, piece.inside);
}

-- the bytes of a piece that was read
pub part-size : (items : List ℕ) (start size : ℕ) → start + size ≤ length items → length (take size (drop start items)) ≡ size
part-size items start size inside = length-take-le size (drop start items) (omega (arith, length-drop start items, inside))

-- they lie in the sectors that were read
pub part-front : (sectors rest : List ℕ) (start size : ℕ) → start + size ≤ length sectors → take size (drop start sectors) ≡ take size (drop start (sectors ++ rest))
part-front sectors rest start size inside =
    let there : size ≤ length (drop start sectors) = omega (arith, length-drop start sectors, inside) in
    sym (ap (take size) (drop-append-le start sectors rest (omega (arith, inside))) ∙ take-append-le size (drop start sectors) rest there)

-- what was read to the beginning of a buffer
pub read-of : (e : ExportRecord) (w w' : World) (at size : ℕ) (sectors rest : List ℕ) (result : Result Unit Failure) → length sectors ≡ 512 * touched at size
    → OnOk result (IsFetched w e.device (at / 512) (touched at size) sectors w') → OnOk result (ReadsExport e w at size (Ok (take size (drop (at % 512) (sectors ++ rest)))) w')
read-of e w w' at size sectors rest (Ok done) held p = (sectors, p, sym (part-front sectors rest (at % 512) size (omega (arith, held))))
read-of e w w' at size sectors rest (Err error) held p = tt

-- what is left of it has small places
pub rest-left : (c : Configuration) (e : ExportRecord) (d : Delivery) (p : Progress) → AreBytesOf c e d.offset d.count → p.done ≤ d.count → IsDeliveryRest d p
rest-left c e d p bytes inside = record { inside = inside; small = omega (arith, bytes.within, bytes.export.fits) }

-- zeros with which the next piece begins
pub zeros-told : (c : Configuration) (e : ExportRecord) (at size left : ℕ) (s : BlockStatus) → size ≡ left → IsLineStatus c e at at size s → s.zeros ≡ true → BeginsWithZeros c e at left s.count
zeros-told c e at size left s is told sure = subst (λ (n : ℕ). BeginsWithZeros c e at n s.count) is (subst (λ (b : Bool). IsLineStatus c e at at size (record { count = s.count; zeros = b })) sure told)

module _ (e : ExportRecord) (d : Delivery) (p : Progress) (w w' : World) (size at : ℕ) (place : at ≡ d.offset + p.done) (piece : AreNextBytes d p size) where
  pub piece-bytes : (c : Configuration) → AreBytesOf c e d.offset d.count → AreBytesOf c e at size
  piece-bytes c bytes = record { export = bytes.export; within = omega (arith, bytes.within, piece.inside, place) }

  module _ (old new : Option (List ℕ)) where
    hole-goes : size ≤ next_size w.stack.config e.device d p → TouchZeros w.stack.config e at size → BeginsWithZeros w.stack.config e at (next_size w.stack.config e.device d p) size → w' ≡ w
        → GoesOnReplying e d p w (hole_chunk (p.done + size == d.count) d.cookie (d.offset + p.done) size) (progress_after p size) w'
    hole-goes front zeros status same = inr (inr (record {
      size = size;
      bytes = piece;
      front = front;
      zeros = subst (λ (k : ℕ). TouchZeros w.stack.config e k size) place zeros;
      status = subst (λ (k : ℕ). BeginsWithZeros w.stack.config e k (next_size w.stack.config e.device d p) size) place status;
      chunk_is = refl;
      next_is = refl;
      same = same;
    }))

    -- it is a hole
    pub piece-hole : size ≤ next_size w.stack.config e.device d p → TouchZeros w.stack.config e at size → BeginsWithZeros w.stack.config e at (next_size w.stack.config e.device d p) size → w' ≡ w → Appends old new (hole_chunk (p.done + size == d.count) d.cookie (d.offset + p.done) size)
        → AnswersPiece e d p w w' old new (Ok (progress_after p size))
    piece-hole front zeros status same a = (hole_chunk (p.done + size == d.count) d.cookie (d.offset + p.done) size, hole-goes front zeros status same, a)

    pub hole-stuck : size ≤ next_size w.stack.config e.device d p → TouchZeros w.stack.config e at size → BeginsWithZeros w.stack.config e at (next_size w.stack.config e.device d p) size → w' ≡ w → SendsPiece e d p w w'
    hole-stuck front zeros status same = inl (hole_chunk (p.done + size == d.count) d.cookie (d.offset + p.done) size, progress_after p size, hole-goes front zeros status same)

module _ (e : ExportRecord) (d : Delivery) (p : Progress) (w w' : World) (size at : ℕ) (place : at ≡ d.offset + p.done) (piece : IsReadPiece w.stack.config e d p size) where
  module _ (old new : Option (List ℕ)) where
    sent-goes : (n : ℕ) → n ≡ size → (content chunk : List ℕ) → ReadsExport e w at size (Ok content) w' → TellsContent d.cookie (p.done + n == d.count) (d.offset + p.done) content chunk
        → GoesOnReplying e d p w chunk (progress_after p size) w'
    sent-goes n is content chunk reads told = inl (record {
      size = size;
      content = content;
      piece = piece;
      reads = subst (λ (k : ℕ). ReadsExport e w k size (Ok content) w') place reads;
      told = subst (λ (k : ℕ). TellsContent d.cookie (p.done + k == d.count) (d.offset + p.done) content chunk) is told;
      next_is = refl;
    })

    -- it was read
    pub piece-sent : (n : ℕ) → n ≡ size → (content : List ℕ) → ReadsExport e w at size (Ok content) w' → Grows old new (TellsContent d.cookie (p.done + n == d.count) (d.offset + p.done) content)
        → AnswersPiece e d p w w' old new (Ok (progress_after p size))
    piece-sent n is content reads a = (a.text, sent-goes n is content a.text reads a.holds, a.written)

    -- it wasn't, and lies in several sectors
    pub piece-put_off : (error : Failure) (next : Progress) → ReadsExport e w at size (Err error) w' → 1 < touched at size → next ≡ progress_again p size (touched at size) → new ≡ old → AnswersPiece e d p w w' old new (Ok next)
    piece-put_off error next reads several is same = (
      [],
      inr (inl (record { other = piece.other; again = read-again e d p w w' size at place piece.next error reads next several is; silent = refl })),
      subst (λ (o : Option (List ℕ)). Appends old o []) (sym same) (Appends-nil old),
    )

    -- it wasn't, and lies in one
    pub piece-lost : (error : Failure) → ReadsExport e w at size (Err error) w' → touched at size ≤ 1 → (lost : IsLost e d p w (error_at_chunk d.cookie at (reported_error error) (failure_text error)) w') × (lost.error ≡ error)
    piece-lost error reads few = (
      record {
        error = error;
        other = piece.other;
        sector = sector-lost e d p w w' size at place piece.next error reads few;
        chunk_is = ap (λ (k : ℕ). error_at_chunk d.cookie k (reported_error error) (failure_text error)) place;
      },
      refl,
    )

    -- the writer failed
    pub sent-stuck : (content : List ℕ) → 0 < length content → ReadsExport e w at size (Ok content) w' → SendsPiece e d p w w'
    sent-stuck content some reads =
        let told = some-told d.cookie (p.done + size == d.count) (d.offset + p.done) content some in
        inl (told.text, progress_after p size, sent-goes size refl content told.text reads told.tells)

    pub lost-stuck : (error : Failure) → ReadsExport e w at size (Err error) w' → touched at size ≤ 1 → SendsPiece e d p w w'
    lost-stuck error reads few = inr (error_at_chunk d.cookie at (reported_error error) (failure_text error), (piece-lost error reads few).0)

-- ---- replies

pub pieces-led : {e : ExportRecord} {d : Delivery} {first w : World} {p : Progress} {written : List ℕ} → Delivers e d first p w written → IsLed EachPart first w
pieces-led {first = first} delivers_none = led-none EachPart first
pieces-led {e = e} {d = d} {first = first} (delivers_more {p = p} {next = next} {w = w} {w' = w'} chunk before piece) = led-then EachPart first w w' (pieces-led before) (goes-led e d p w chunk next w' piece)

pieces-config : {e : ExportRecord} {d : Delivery} {first w : World} {p : Progress} {written : List ℕ} → Delivers e d first p w written → w.stack.config ≡ first.stack.config
pieces-config delivers_none = refl
pieces-config {e = e} {d = d} (delivers_more {p = p} {next = next} {w = w} {w' = w'} chunk before piece) = goes-config e d p w chunk next w' piece ∙ pieces-config before

pub delivered-led : (e : ExportRecord) (d : Delivery) (w : World) (reply : List ℕ) (w' : World) → IsDelivered e d w reply w' → IsLed EachPart w w'
delivered-led e d w reply w' (inl x) = pieces-led x.pieces
delivered-led e d w reply w' (inr x) = led-then EachPart w x.mid w' (pieces-led x.pieces) (lost-led e d x.last x.mid x.chunk w' x.lost)

pub delivered-config : (e : ExportRecord) (d : Delivery) (w : World) (reply : List ℕ) (w' : World) → IsDelivered e d w reply w' → w'.stack.config ≡ w.stack.config
delivered-config e d w reply w' (inl x) = pieces-config x.pieces
delivered-config e d w reply w' (inr x) = lost-config e d x.last x.mid x.chunk w' x.lost ∙ pieces-config x.pieces

-- ---- the loop

-- pieces were answered, and nothing failed
pub record IsUnderway (e : ExportRecord) (d : Delivery) (first : World) (p : Progress) (w : World) (old new : Option (List ℕ)) : Type 0 where
  pub written : List ℕ
  pub pieces : Delivers e d first p w written
  pub appended : Appends old new written
  pub inside : p.done ≤ d.count
  pub bytes : AreBytesOf w.stack.config e d.offset d.count

pub underway-none : (e : ExportRecord) (d : Delivery) (w : World) (old : Option (List ℕ)) → AreBytesOf w.stack.config e d.offset d.count → IsUnderway e d w at_first w old old
underway-none e d w old bytes = record { written = []; pieces = delivers_none; appended = Appends-nil old; inside = omega arith; bytes = bytes }

module _ (e : ExportRecord) (d : Delivery) (first : World) (p : Progress) (w w' : World) (old mid new : Option (List ℕ)) (u : IsUnderway e d first p w old mid) where
  pub underway-more : (next : Progress) → AnswersPiece e d p w w' mid new (Ok next) → IsUnderway e d first next w' old new
  underway-more next a = record {
    written = u.written ++ a.0;
    pieces = delivers_more a.0 u.pieces a.1;
    appended = Appends-trans old mid new u.written a.0 u.appended a.2;
    inside = goes-inside e d p w a.0 next w' a.1;
    bytes = subst (λ c. AreBytesOf c e d.offset d.count) (sym (goes-config e d p w a.0 next w' a.1)) u.bytes;
  }

  -- a sector is lost
  lost-part : (chunk : List ℕ) → IsLost e d p w chunk w' → DeliversPart e d first (u.written ++ chunk) w'
  lost-part chunk lost = record { last = p; mid = w; written = u.written; chunk = chunk; pieces = u.pieces; lost = lost; reply_is = refl }

  pub underway-lost : (error : Failure) (met : Option SectorFault) → met ≡ fault_of error → AnswersPiece e d p w w' mid new (Err error) → Grows old new (λ reply. DeliversAs e d first met reply w')
  underway-lost error met is a = record {
    text = u.written ++ a.0;
    holds = (
      inr (record { last = p; mid = w; written = u.written; chunk = a.0; pieces = u.pieces; lost = a.1; reply_is = refl }),
      is ∙ sym (ap fault_of a.2),
    );
    written = Appends-trans old mid new u.written a.0 u.appended a.3;
  }

  -- the writer failed
  pub underway-stuck : SendsPiece e d p w w' → IsStuck e d first w'
  underway-stuck (inl r) = inl (record { last = r.1; written = u.written ++ r.0; pieces = delivers_more r.0 u.pieces r.2 })
  underway-stuck (inr r) = inr (u.written ++ r.0, inr (lost-part r.0 r.1))

pub underway-all : (e : ExportRecord) (d : Delivery) (first : World) (p : Progress) (w : World) (old new : Option (List ℕ)) → IsUnderway e d first p w old new → d.count ≤ p.done
    → Grows old new (λ reply. DeliversAs e d first None reply w)
underway-all e d first p w old new u all = record { text = u.written; holds = (inl (record { last = p; pieces = u.pieces; all = omega (arith, u.inside, all) }), refl); written = u.appended }

-- ---- chunks that are handed on

pub some-flushed : {T : Type 0} (contents : T → Option (List ℕ)) (P : List ℕ → Type 0) (old mid new : CountedRecord T) (result : Result Unit WriteFault) → Grows (contents old.inner) (contents mid.inner) P → mid.failed ≡ old.failed
    → Writing mid new result (Keeps (contents mid.inner) (contents new.inner) × (new.pending ≡ false)) → WritesSome contents old new P result
some-flushed contents P old mid new (Ok done) a k p = record {
  ok = record { text = a.text; holds = a.holds; written = Appends-kept (contents old.inner) (contents mid.inner) (contents new.inner) a.text a.written p.ok.0 };
  kept = p.kept ∙ k;
  failed = tt;
}
some-flushed contents P old mid new (Err fault) a k p = record { ok = tt; kept = tt; failed = p.failed }

pub then-flushed : {T : Type 0} (contents : T → Option (List ℕ)) (old mid new : CountedRecord T) (text : List ℕ) (result : Result Unit WriteFault) → Appends (contents old.inner) (contents mid.inner) text → mid.failed ≡ old.failed
    → Writing mid new result (Keeps (contents mid.inner) (contents new.inner) × (new.pending ≡ false)) → Writes contents old new text result
then-flushed contents old mid new text (Ok done) a k p = record { ok = Appends-kept (contents old.inner) (contents mid.inner) (contents new.inner) text a p.ok.0; kept = p.kept ∙ k; failed = tt }
then-flushed contents old mid new text (Err fault) a k p = record { ok = tt; kept = tt; failed = p.failed }
