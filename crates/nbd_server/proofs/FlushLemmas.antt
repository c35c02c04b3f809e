-- Replies that are flushed.
use Rattle.std.proofs.Common.{◌≡◌, ◌∙◌, Bool, true, false, List, [], refl, inl, inr, Option, Some, Ok, Err, ℕ, ap}
use Rattle.std.specs.Io.KnownBytes.{Keeps}
use Rattle.std.proofs.KnownBytes.{Appends-kept}
use Rattle.program_io.specs.Counted.{Grows}
use Rattle.program_io.specs.Streams.{Streams, streams}
use Rattle.request_queue.specs.World.{World}
use Rattle.nbd_protocol.specs.Exports.{ExportRecord}
use Rattle.nbd_protocol.specs.declared.fault.ServiceFault.TheVariants as fault
use Rattle.nbd_protocol.specs.declared.phase.Phase.{Phase}
use Rattle.nbd_protocol.specs.declared.phase.Phase.TheVariants.{Haggling}
use Rattle.nbd_protocol.specs.declared.phase.Terms.{Terms}
use Rattle.nbd_server.specs.Replies.{RequestOutcome}
use Rattle.nbd_server.specs.Service.{EndsMessage, EndsTurn}
use Rattle.nbd_server.specs.Transmission.{Flushes, Settles}
use Rattle.nbd_server.specs.declared.session_log.SessionLog.{SessionLog}

-- what was written, after a flush
pub grows-kept : (old mid new : Option (List ℕ)) (P : List ℕ → Type 0) → Grows old mid P → Keeps mid new → Grows old new P
grows-kept old mid new P p kept = record { text = p.text; holds = p.holds; written = Appends-kept old mid new p.text p.written kept }

module _ (es : List ExportRecord) (terms : Terms) (w : World) (log : SessionLog) (old : Streams) (input output output' : Option (List ℕ)) (next : Phase)
    (told : EndsMessage es (Haggling terms) w w old (streams input output) (Ok (Some next))) where
  -- the reply to an option
  pub option-flushed : Keeps output output' → EndsTurn es (Haggling terms) w w log log old (streams input output') (Ok (Some next))
  option-flushed kept = record {
    taken = told.taken;
    written = told.written;
    consumed = told.consumed;
    appended = Appends-kept old.output output output' told.written told.appended kept;
    holds = (told.holds, refl);
  }

  -- and the writer failed in the flush
  pub option-unflushed : EndsTurn es (Haggling terms) w w log log old (streams input output') (Err fault.WriteFault)
  option-unflushed = (inl (record { message = told.taken; reply = told.written; next = next; consumed = told.consumed; takes = told.holds }), refl)

-- ---- a sync keeps the configuration

pub flush-config : (w : World) (outcome : RequestOutcome) (w' : World) → Flushes w outcome w' → w'.stack.config ≡ w.stack.config
flush-config w (Ok content) w' p = ap (λ (x : World). x.stack.config) p.1
flush-config w (Err error) w' p = ap (λ (x : World). x.stack.config) p.2.leaves

pub settle-config : (w : World) (fua : Bool) (Does : RequestOutcome → World → Type 0) → ((o : RequestOutcome) (v : World) → Does o v → v.stack.config ≡ w.stack.config) → (outcome : RequestOutcome) (w' : World)
    → Settles fua Does outcome w' → w'.stack.config ≡ w.stack.config
settle-config w false Does kept outcome w' p = kept outcome w' p
settle-config w true Does kept (Ok content) w' p = flush-config p.0 (Ok content) w' p.2 ∙ kept (Ok []) p.0 p.1
settle-config w true Does kept (Err error) w' (inl p) = kept (Err error) w' p
settle-config w true Does kept (Err error) w' (inr p) = flush-config p.0 (Err error) w' p.2 ∙ kept (Ok []) p.0 p.1
