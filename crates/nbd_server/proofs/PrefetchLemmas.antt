-- A CACHE.
use Rattle.std.proofs.Common.{◌≡◌, ◌<◌, ◌≤◌, ℕ, ◌+◌, ◌-◌, List, refl, sym, ◌∙◌, subst, arith, Ok, Err}
use Rattle.request_queue.specs.Parts.{EachPart}
use Rattle.request_queue.specs.Runs.{IsLed}
use Rattle.request_queue.specs.World.{World}
use Rattle.request_queue.proofs.lemmas.LedLemmas.{led-none, led-then}
use Rattle.nbd_protocol.specs.Exports.{ExportRecord}
use Rattle.nbd_server.specs.declared.delivery.Delivery.{Delivery}
use Rattle.nbd_server.specs.declared.failure.Failure.{Failure}
use Rattle.nbd_server.specs.declared.progress.Progress.{Progress}
use Rattle.nbd_server.specs.Delivery.{IsDeliveryPiece, at_first, progress_after}
use Rattle.nbd_server.specs.Undivided.{AnswersRead}
use Rattle.nbd_server.specs.Prefetch.{FailsPart, FailsToPrefetch, IsPrefetched, Prefetches, prefetches_none, prefetches_more, ReadsPart, ServesCache, cache_range}
use Rattle.nbd_server.specs.Premises.{AreBytesOf}
use Rattle.nbd_server.specs.Replies.{RequestOutcome}
use Rattle.nbd_server.proofs.UndividedLemmas.{answers-config, answers-led}

-- ---- one part

module _ (e : ExportRecord) (d : Delivery) (p : Progress) (w w' : World) where
  module _ (size at : ℕ) (place : at ≡ d.offset + p.done) (piece : IsDeliveryPiece w.stack.config e.device d p size) where
    pub part-read : (content : List ℕ) → AnswersRead e w at size (Ok content) w' → (next : Progress) → next ≡ progress_after p size → ReadsPart e d p w w' next
    part-read content reads next is = record { size = size; content = content; piece = piece; reads = subst (λ (n : ℕ). AnswersRead e w n size (Ok content) w') place reads; next_is = is }

    pub part-failed : (error : Failure) → AnswersRead e w at size (Err error) w' → FailsPart e d p w w' error
    part-failed error reads = record { size = size; piece = piece; reads = subst (λ (n : ℕ). AnswersRead e w n size (Err error) w') place reads }

  part-led : (next : Progress) → ReadsPart e d p w w' next → IsLed EachPart w w'
  part-led next s = answers-led e w (d.offset + p.done) s.size (Ok s.content) w' s.reads

  part-config : (next : Progress) → ReadsPart e d p w w' next → w'.stack.config ≡ w.stack.config
  part-config next s = answers-config e w (d.offset + p.done) s.size (Ok s.content) w' s.reads

  failed-led : (error : Failure) → FailsPart e d p w w' error → IsLed EachPart w w'
  failed-led error s = answers-led e w (d.offset + p.done) s.size (Err error) w' s.reads

  failed-config : (error : Failure) → FailsPart e d p w w' error → w'.stack.config ≡ w.stack.config
  failed-config error s = answers-config e w (d.offset + p.done) s.size (Err error) w' s.reads

  part-inside : (next : Progress) → ReadsPart e d p w w' next → next.done ≤ d.count
  part-inside next s = subst (λ (n : Progress). n.done ≤ d.count) (sym s.next_is) s.piece.bytes.inside

  pub part-smaller : (next : Progress) → ReadsPart e d p w w' next → d.count - next.done < d.count - p.done
  part-smaller next s = subst (λ (n : Progress). d.count - n.done < d.count - p.done) (sym s.next_is) (omega (arith, s.piece.bytes.inside, s.piece.bytes.some))

-- ---- the CACHE

parts-led : {e : ExportRecord} {d : Delivery} {first w : World} {p : Progress} → Prefetches e d first p w → IsLed EachPart first w
parts-led {first = first} prefetches_none = led-none EachPart first
parts-led {e = e} {d = d} {first = first} (prefetches_more {p = p} {next = next} {w = w} {w' = w'} before part) = led-then EachPart first w w' (parts-led before) (part-led e d p w w' next part)

parts-config : {e : ExportRecord} {d : Delivery} {first w : World} {p : Progress} → Prefetches e d first p w → w.stack.config ≡ first.stack.config
parts-config prefetches_none = refl
parts-config {e = e} {d = d} (prefetches_more {p = p} {next = next} {w = w} {w' = w'} before part) = part-config e d p w w' next part ∙ parts-config before

pub cache-led : (e : ExportRecord) (w : World) (offset length : ℕ) (outcome : RequestOutcome) (w' : World) → ServesCache e w offset length outcome w' → IsLed EachPart w w'
cache-led e w offset length (Ok content) w' p = parts-led p.1.parts
cache-led e w offset length (Err error) w' p = led-then EachPart w p.mid w' (parts-led p.parts) (failed-led e (cache_range offset length) p.last p.mid w' error p.lost)

pub cache-config : (e : ExportRecord) (w : World) (offset length : ℕ) (outcome : RequestOutcome) (w' : World) → ServesCache e w offset length outcome w' → w'.stack.config ≡ w.stack.config
cache-config e w offset length (Ok content) w' p = parts-config p.1.parts
cache-config e w offset length (Err error) w' p = failed-config e (cache_range offset length) p.last p.mid w' error p.lost ∙ parts-config p.parts

-- ---- the loop

-- the first bytes were read, and nothing failed
pub record ArePartsRead (e : ExportRecord) (d : Delivery) (first : World) (p : Progress) (w : World) : Type 0 where
  pub parts : Prefetches e d first p w
  pub inside : p.done ≤ d.count
  pub bytes : AreBytesOf w.stack.config e d.offset d.count

pub parts-none : (e : ExportRecord) (d : Delivery) (w : World) → AreBytesOf w.stack.config e d.offset d.count → ArePartsRead e d w at_first w
parts-none e d w bytes = record { parts = prefetches_none; inside = omega arith; bytes = bytes }

module _ (e : ExportRecord) (d : Delivery) (first : World) (p : Progress) (w w' : World) (g : ArePartsRead e d first p w) where
  pub parts-more : (next : Progress) → ReadsPart e d p w w' next → ArePartsRead e d first next w'
  parts-more next x = record {
    parts = prefetches_more g.parts x;
    inside = part-inside e d p w w' next x;
    bytes = subst (λ c. AreBytesOf c e d.offset d.count) (sym (part-config e d p w w' next x)) g.bytes;
  }

  pub parts-lost : (error : Failure) → FailsPart e d p w w' error → FailsToPrefetch e d first w' error
  parts-lost error lost = record { last = p; mid = w; parts = g.parts; lost = lost }

pub parts-all : (e : ExportRecord) (d : Delivery) (first : World) (p : Progress) (w : World) → ArePartsRead e d first p w → d.count ≤ p.done → IsPrefetched e d first w
parts-all e d first p w g all = record { last = p; parts = g.parts; all = omega (arith, g.inside, all) }
