-- A READ that is answered in one reply.
use Rattle.std.proofs.Common.{◌≡◌, ◌<◌, ◌≤◌, ℕ, ◌+◌, List, [], refl, take, length, ap, sym, ◌∙◌, subst, arith, inl, inr, Result, Ok, Err}
use Rattle.std.specs.Prelude.{IfErr, IfOk}
use Rattle.std.proofs.lemmas.List.{append-nil, take_all}
use Rattle.request_queue.specs.Parts.{EachPart}
use Rattle.request_queue.specs.Runs.{IsLed}
use Rattle.request_queue.specs.World.{World}
use Rattle.request_queue.proofs.lemmas.LedLemmas.{led-none, led-then}
use Rattle.nbd_protocol.specs.Exports.{ExportRecord}
use Rattle.nbd_server.specs.declared.delivery.Delivery.{Delivery}
use Rattle.nbd_server.specs.declared.failure.Failure.{Failure}
use Rattle.nbd_server.specs.declared.progress.Progress.{Progress}
use Rattle.nbd_server.specs.Delivery.{IsDeliveryPiece, IsSectorLost, at_first, delivery, progress_again}
use Rattle.nbd_server.specs.Premises.{AreBytesOf}
use Rattle.nbd_server.specs.Reads.{ReadsExport}
use Rattle.nbd_server.specs.Replies.{RequestOutcome}
use Rattle.nbd_server.specs.Status.{touched}
use Rattle.nbd_server.specs.Undivided.{AnswersRead, ExtendsRead, FailsToGather, Gathers, gathers_none, gathers_more, GoesOnReading, IsGathered}
use Rattle.nbd_server.proofs.PieceLemmas.{again-config, again-inside, again-led, again-less, read-again, read-config, read-led, sector-config, sector-led, sector-lost}
use Rattle.nbd_server.proofs.ProgressLemmas.{again-done, left_of}

-- ---- one piece

module _ (e : ExportRecord) (d : Delivery) (p : Progress) (w : World) where
  goes-led : (content : List ℕ) (next : Progress) (w' : World) → GoesOnReading e d p w content next w' → IsLed EachPart w w'
  goes-led content next w' (inl s) = read-led e w (d.offset + p.done) s.size (Ok content) w' s.reads
  goes-led content next w' (inr s) = again-led e d p w next w' s.0

  goes-config : (content : List ℕ) (next : Progress) (w' : World) → GoesOnReading e d p w content next w' → w'.stack.config ≡ w.stack.config
  goes-config content next w' (inl s) = read-config e w (d.offset + p.done) s.size (Ok content) w' s.reads
  goes-config content next w' (inr s) = again-config e d p w next w' s.0

  goes-inside : (content : List ℕ) (next : Progress) (w' : World) → GoesOnReading e d p w content next w' → next.done ≤ d.count
  goes-inside content next w' (inl s) = subst (λ (n : Progress). n.done ≤ d.count) (sym s.next_is) s.piece.bytes.inside
  goes-inside content next w' (inr s) = again-inside e d p w next w' s.0

  pub goes-smaller : (content : List ℕ) (next : Progress) (w' : World) → GoesOnReading e d p w content next w' → left_of d.count next < left_of d.count p
  goes-smaller content next w' (inl s) = subst (λ (n : Progress). left_of d.count n < left_of d.count p) (sym s.next_is) (omega (arith, s.piece.bytes.inside, s.piece.bytes.some))
  goes-smaller content next w' (inr s) = again-less e d p w next w' s.0

  -- a piece couldn't be read
  module _ (w' : World) (size at : ℕ) (place : at ≡ d.offset + p.done) (piece : IsDeliveryPiece w.stack.config e.device d p size) (error : Failure) (reads : ReadsExport e w at size (Err error) w') where
    pub unread-ok : (bytes : List ℕ) (result : Result Progress Failure) → IfOk result (λ next. (1 < touched at size) × (next ≡ progress_again p size (touched at size))) → IfOk result (ExtendsRead e d p w bytes bytes w')
    unread-ok bytes (Ok next) x = record {
      content = [];
      goes = inr (read-again e d p w w' size at place piece error reads next x.0 x.1, refl);
      bytes = ap (λ (n : Progress). take n.done bytes) x.1 ∙ ap (λ (n : ℕ). take n bytes) (again-done p size (touched at size)) ∙ sym (append-nil (take p.done bytes));
    }
    unread-ok bytes (Err lost) x = tt

    pub unread-err : (result : Result Progress Failure) → IfErr result (λ lost. (touched at size ≤ 1) × (lost ≡ error)) → IfErr result (IsSectorLost e d p w w')
    unread-err (Ok next) x = tt
    unread-err (Err lost) x = subst (IsSectorLost e d p w w') (sym x.1) (sector-lost e d p w w' size at place piece error reads x.0)

-- ---- the READ

gathered-led : {e : ExportRecord} {d : Delivery} {first w : World} {p : Progress} {bytes : List ℕ} → Gathers e d first p w bytes → IsLed EachPart first w
gathered-led {first = first} gathers_none = led-none EachPart first
gathered-led {e = e} {d = d} {first = first} (gathers_more {p = p} {next = next} {w = w} {w' = w'} content before piece) = led-then EachPart first w w' (gathered-led before) (goes-led e d p w content next w' piece)

gathered-config : {e : ExportRecord} {d : Delivery} {first w : World} {p : Progress} {bytes : List ℕ} → Gathers e d first p w bytes → w.stack.config ≡ first.stack.config
gathered-config gathers_none = refl
gathered-config {e = e} {d = d} (gathers_more {p = p} {next = next} {w = w} {w' = w'} content before piece) = goes-config e d p w content next w' piece ∙ gathered-config before

pub answers-led : (e : ExportRecord) (w : World) (offset count : ℕ) (outcome : RequestOutcome) (w' : World) → AnswersRead e w offset count outcome w' → IsLed EachPart w w'
answers-led e w offset count (Ok content) w' p = gathered-led p.pieces
answers-led e w offset count (Err error) w' (inl p) = subst (IsLed EachPart w) (sym p.1) (led-none EachPart w)
answers-led e w offset count (Err error) w' (inr p) = led-then EachPart w p.mid w' (gathered-led p.pieces) (sector-led e (delivery 0 offset count) p.last p.mid w' error p.lost)

pub answers-config : (e : ExportRecord) (w : World) (offset count : ℕ) (outcome : RequestOutcome) (w' : World) → AnswersRead e w offset count outcome w' → w'.stack.config ≡ w.stack.config
answers-config e w offset count (Ok content) w' p = gathered-config p.pieces
answers-config e w offset count (Err error) w' (inl p) = ap (λ (v : World). v.stack.config) p.1
answers-config e w offset count (Err error) w' (inr p) = sector-config e (delivery 0 offset count) p.last p.mid w' error p.lost ∙ gathered-config p.pieces

-- ---- the loop

-- the first bytes of a buffer were read, and nothing failed
pub record IsPartGathered (e : ExportRecord) (d : Delivery) (first : World) (p : Progress) (w : World) (out : List ℕ) : Type 0 where
  pub pieces : Gathers e d first p w (take p.done out)
  pub inside : p.done ≤ d.count
  pub held : length out ≡ d.count
  pub bytes : AreBytesOf w.stack.config e d.offset d.count

pub part-none : (e : ExportRecord) (d : Delivery) (w : World) (out : List ℕ) → length out ≡ d.count → AreBytesOf w.stack.config e d.offset d.count → IsPartGathered e d w at_first w out
part-none e d w out held bytes = record { pieces = gathers_none; inside = omega arith; held = held; bytes = bytes }

module _ (e : ExportRecord) (d : Delivery) (first : World) (p : Progress) (w w' : World) (old : List ℕ) (g : IsPartGathered e d first p w old) where
  pub part-more : (new : List ℕ) (next : Progress) → length new ≡ length old → ExtendsRead e d p w old new w' next → IsPartGathered e d first next w' new
  part-more new next size x = record {
    pieces = subst (Gathers e d first next w') (sym x.bytes) (gathers_more x.content g.pieces x.goes);
    inside = goes-inside e d p w x.content next w' x.goes;
    held = size ∙ g.held;
    bytes = subst (λ c. AreBytesOf c e d.offset d.count) (sym (goes-config e d p w x.content next w' x.goes)) g.bytes;
  }

  pub part-lost : (error : Failure) → IsSectorLost e d p w w' error → FailsToGather e d first w' error
  part-lost error lost = record { last = p; mid = w; bytes = take p.done old; pieces = g.pieces; lost = lost }

pub part-all : (e : ExportRecord) (d : Delivery) (first : World) (p : Progress) (w : World) (out : List ℕ) → IsPartGathered e d first p w out → d.count ≤ p.done → IsGathered e d first out w
part-all e d first p w out g all = record {
  last = p;
  pieces = subst (Gathers e d first p w) (take_all p.done out (omega (arith, g.held, all))) g.pieces;
  all = omega (arith, g.inside, all);
}
