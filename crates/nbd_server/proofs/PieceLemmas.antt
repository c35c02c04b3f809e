-- The pieces of a READ.
use Rattle.std.proofs.Common.{◌≡◌, ◌<◌, ◌≤◌, ℕ, ◌+◌, ◌/◌, length, ap, sym, ◌∙◌, subst, arith, inl, inr, Ok, Err}
use Rattle.std.specs.Prelude.{◌⊎◌}
use Rattle.request_queue.specs.Parts.{EachPart}
use Rattle.request_queue.specs.Runs.{IsLed}
use Rattle.request_queue.specs.World.{World}
use Rattle.nbd_protocol.specs.Exports.{ExportRecord}
use Rattle.nbd_server.specs.declared.failure.Failure.{Failure}
use Rattle.nbd_server.specs.Replies.{RequestOutcome}
use Rattle.nbd_server.specs.Sectors.{FailsToFetch, EndsIn, HasNoBuffer}
use Rattle.nbd_server.specs.Status.{touched}
use Rattle.nbd_server.specs.Reads.{ReadsExport}
use Rattle.nbd_server.specs.Delivery.{IsDeliveryPiece, IsReadAgain, IsSectorLost, progress_again}
use Rattle.nbd_server.specs.declared.delivery.Delivery.{Delivery}
use Rattle.nbd_server.specs.declared.progress.Progress.{Progress}
use Rattle.nbd_server.proofs.ProgressLemmas.{again-done, again-smaller, left_of}

-- ---- one read

pub read-led : (e : ExportRecord) (w : World) (offset length : ℕ) (outcome : RequestOutcome) (w' : World) → ReadsExport e w offset length outcome w' → IsLed EachPart w w'
read-led e w offset length (Ok content) w' p = p.1.led
read-led e w offset length (Err error) w' p = p.led

fails-config : (w : World) (d first count : ℕ) (error : Failure) (w' : World) → EndsIn w d first count error w' ⊎ HasNoBuffer w count error w' → w'.stack.config ≡ w.stack.config
fails-config w d first count error w' (inl x) = x.read.config
fails-config w d first count error w' (inr x) = ap (λ (v : World). v.stack.config) x.1

pub fetch-config : (w : World) (d first count : ℕ) (error : Failure) (w' : World) → FailsToFetch w d first count error w' → w'.stack.config ≡ w.stack.config
fetch-config w d first count error w' p = fails-config w d first count error w' p.cause

pub read-config : (e : ExportRecord) (w : World) (offset length : ℕ) (outcome : RequestOutcome) (w' : World) → ReadsExport e w offset length outcome w' → w'.stack.config ≡ w.stack.config
read-config e w offset length (Ok content) w' p = p.1.read.config
read-config e w offset length (Err error) w' p = fetch-config w e.device (offset / 512) (touched offset length) error w' p

-- ---- a piece that couldn't be read

module _ (e : ExportRecord) (d : Delivery) (p : Progress) (w : World) where
  module _ (next : Progress) (w' : World) (s : IsReadAgain e d p w next w') where
    pub again-led : IsLed EachPart w w'
    again-led = read-led e w (d.offset + p.done) s.size (Err s.error) w' s.reads

    pub again-config : w'.stack.config ≡ w.stack.config
    again-config = read-config e w (d.offset + p.done) s.size (Err s.error) w' s.reads

    pub again-inside : next.done ≤ d.count
    again-inside = subst (λ (n : Progress). n.done ≤ d.count) (sym s.next_is) (omega (arith, s.piece.bytes.inside, again-done p s.size (touched (d.offset + p.done) s.size)))

    pub again-less : left_of d.count next < left_of d.count p
    again-less = subst (λ (n : Progress). left_of d.count n < left_of d.count p) (sym s.next_is) (again-smaller d.count p s.size (touched (d.offset + p.done) s.size) s.piece.bytes.some s.several s.piece.small)

  module _ (w' : World) (error : Failure) (s : IsSectorLost e d p w w' error) where
    pub sector-led : IsLed EachPart w w'
    sector-led = read-led e w (d.offset + p.done) s.size (Err error) w' s.reads

    pub sector-config : w'.stack.config ≡ w.stack.config
    sector-config = read-config e w (d.offset + p.done) s.size (Err error) w' s.reads

  module _ (w' : World) (size at : ℕ) (place : at ≡ d.offset + p.done) (piece : IsDeliveryPiece w.stack.config e.device d p size) (error : Failure) (reads : ReadsExport e w at size (Err error) w') where
    -- it lies in several sectors
    pub read-again : (next : Progress) → 1 < touched at size → next ≡ progress_again p size (touched at size) → IsReadAgain e d p w next w'
    read-again next several is = record {
      size = size;
      error = error;
      piece = piece;
      several = subst (λ (k : ℕ). 1 < touched k size) place several;
      reads = subst (λ (k : ℕ). ReadsExport e w k size (Err error) w') place reads;
      next_is = is ∙ ap (λ (k : ℕ). progress_again p size (touched k size)) place;
    }

    -- it lies in one
    pub sector-lost : touched at size ≤ 1 → IsSectorLost e d p w w' error
    sector-lost few = record {
      size = size;
      piece = piece;
      one = omega (arith, few, piece.bytes.some, place);
      reads = subst (λ (k : ℕ). ReadsExport e w k size (Err error) w') place reads;
    }
