-- The service of a client as a run of the queue, of which its law speaks.
use Rattle.std.proofs.Common.{◌≡◌, ◌≢◌, ℕ, ◌+◌, ◌-◌, ◌%◌, List, [], ◌∷◌, length, inl, inr, subst, sym, Ok, Err, Result, Option, Some, None}
use Rattle.std.specs.Prelude.{◌⊎◌, Bool, true, false, replicate}
use Rattle.request_queue.specs.Parts.{EachPart}
use Rattle.request_queue.specs.Runs.{IsLed}
use Rattle.request_queue.specs.World.{World, sync}
use Rattle.request_queue.proofs.lemmas.LedLemmas.{led-none, led-one, led-then}
use Rattle.nbd_protocol.specs.declared.header.Command.{Command}
use Rattle.nbd_protocol.specs.declared.header.Command.TheVariants.{Read, Write, Zero, Hint, Cache, Flush, Status}
use Rattle.nbd_protocol.specs.declared.header.Header.{Header}
use Rattle.nbd_protocol.specs.declared.phase.Agreement.{Agreement}
use Rattle.nbd_protocol.specs.declared.phase.Phase.{Phase}
use Rattle.nbd_protocol.specs.declared.phase.Phase.TheVariants.{Greeted, Haggling, Serving, Over}
use Rattle.nbd_protocol.specs.declared.request_error.RequestError.{RequestError}
use Rattle.nbd_server.specs.declared.failure.Failure.{Failure}
use Rattle.nbd_protocol.specs.Exports.{ExportRecord, export_at}
use Rattle.nbd_protocol.specs.Headers.{command_of, header_of}
use Rattle.nbd_server.specs.Replies.{RequestOutcome}
use Rattle.nbd_server.specs.Reads.{ReadsExport}
use Rattle.nbd_server.specs.Transmission.{FailsToReadEnds, Flushes, IsFramed, ReportsSpace, ServesCommand, ServesZero, Settles, WritesAtOnce, WritesGiven, WritesPayload, WritesAny, room_behind}
use Rattle.nbd_server.specs.Service.{BeginsMessage, Conversation, begins, goes_on, IsLastRequest, IsServedRequest, GivesReply, TakesMessage}
use Rattle.nbd_server.specs.Delivery.{delivery_of}
use Rattle.nbd_server.specs.declared.delivery.Delivery.{Delivery}
use Rattle.nbd_server.proofs.DeliveryLemmas.{delivered-led, pieces-led}
use Rattle.nbd_server.proofs.PieceLemmas.{read-led}
use Rattle.nbd_server.proofs.UndividedLemmas.{answers-led}
use Rattle.nbd_server.proofs.PrefetchLemmas.{cache-led}
use Rattle.nbd_server.proofs.ReadStatusLemmas.{status-led}

stays-led : (w w' : World) → w' ≡ w → IsLed EachPart w w'
stays-led w w' same = subst (IsLed EachPart w) (sym same) (led-none EachPart w)

ends-led : (e : ExportRecord) (w mid w' : World) (offset length : ℕ) (before behind : RequestOutcome) → ReadsExport e w (offset - offset % 512) (offset % 512) before mid
    → ReadsExport e mid (offset + length) (room_behind offset length) behind w' → IsLed EachPart w w'
ends-led e w mid w' offset length before behind p q =
    led-then EachPart w mid w' (read-led e w (offset - offset % 512) (offset % 512) before mid p) (read-led e mid (offset + length) (room_behind offset length) behind w' q)

framed-led : (e : ExportRecord) (w : World) (offset : ℕ) (bytes sectors : List ℕ) (w' : World) → IsFramed e w offset bytes sectors w' → IsLed EachPart w w'
framed-led e w offset bytes sectors w' p = ends-led e w p.ends.mid w' offset (length bytes) (Ok p.before) (Ok p.behind) p.ends.first p.ends.last

unread-led : (e : ExportRecord) (w : World) (offset length : ℕ) (error : Failure) (w' : World) → FailsToReadEnds e w offset length w' error → IsLed EachPart w w'
unread-led e w offset length error w' (inl p) = read-led e w (offset - offset % 512) (offset % 512) (Err error) w' p
unread-led e w offset length error w' (inr p) = ends-led e w p.1 w' offset length (Ok p.0) (Err error) p.2 p.3

bytes-led : (e : ExportRecord) (w : World) (offset : ℕ) (bytes : List ℕ) (outcome : RequestOutcome) (w' : World) → WritesAtOnce e w offset bytes outcome w' → IsLed EachPart w w'
bytes-led e w offset bytes (Ok content) w' p = led-then EachPart w p.2 w' (framed-led e w offset bytes p.1 p.2 p.3) p.4.stored.led
bytes-led e w offset bytes (Err error) w' (inl p) = unread-led e w offset (length bytes) error w' p
bytes-led e w offset bytes (Err error) w' (inr p) = led-then EachPart w p.1 w' (framed-led e w offset bytes p.0 p.1 p.2) p.3.put.led

write-led : (e : ExportRecord) (w : World) (offset : ℕ) (bytes : List ℕ) (outcome : RequestOutcome) (w' : World) → WritesAny e w offset bytes outcome w' → IsLed EachPart w w'
write-led e w offset [] outcome w' p = stays-led w w' p.1
write-led e w offset (byte ∷ more) (Ok content) w' p = led-then EachPart w p.2 w' (framed-led e w offset (byte ∷ more) p.1 p.2 p.3) p.4.stored.led
write-led e w offset (byte ∷ more) (Err error) w' (inl p) = unread-led e w offset (length (byte ∷ more)) error w' p
write-led e w offset (byte ∷ more) (Err error) w' (inr p) =
    let ends : IsLed EachPart p.1 w' = elim p.3.fails [ inl q ↦ q.led | inr q ↦ q.1.put.led ] in
    led-then EachPart w p.1 w' (framed-led e w offset (byte ∷ more) p.0 p.1 p.2) ends

payload-led : (e : ExportRecord) (w : World) (offset : ℕ) (bytes : List ℕ) (outcome : RequestOutcome) (w' : World) → WritesPayload e w offset bytes outcome w' → IsLed EachPart w w'
payload-led e w offset [] outcome w' p = stays-led w w' p.1
payload-led e w offset (byte ∷ more) outcome w' p = bytes-led e w offset (byte ∷ more) outcome w' p

given-led : (e : ExportRecord) (w : World) (offset : ℕ) (bytes : List ℕ) (outcome : RequestOutcome) (w' : World) → WritesGiven e w offset bytes outcome w' → IsLed EachPart w w'
given-led e w offset bytes outcome w' (inl p) = stays-led w w' p.1
given-led e w offset bytes outcome w' (inr p) = payload-led e w offset bytes outcome w' p

flush-led : (w : World) (outcome : RequestOutcome) (w' : World) → Flushes w outcome w' → IsLed EachPart w w'
flush-led w (Ok content) w' p = led-one EachPart w (sync (Ok tt)) w' p.1
flush-led w (Err error) w' p = led-one EachPart w (sync (Err p.0)) w' p.2

settle-led : (w : World) (fua : Bool) (Does : RequestOutcome → World → Type 0) → ((o : RequestOutcome) (v : World) → Does o v → IsLed EachPart w v) → (outcome : RequestOutcome) (w' : World)
    → Settles fua Does outcome w' → IsLed EachPart w w'
settle-led w false Does led outcome w' p = led outcome w' p
settle-led w true Does led (Ok content) w' p = led-then EachPart w p.0 w' (led (Ok []) p.0 p.1) (flush-led p.0 (Ok content) w' p.2)
settle-led w true Does led (Err error) w' (inl p) = led (Err error) w' p
settle-led w true Does led (Err error) w' (inr p) = led-then EachPart w p.0 w' (led (Ok []) p.0 p.1) (flush-led p.0 (Err error) w' p.2)

zero-led : (e : ExportRecord) (w : World) (offset length : ℕ) (fua : Bool) (outcome : RequestOutcome) (w' : World) → ServesZero e w offset length fua outcome w' → IsLed EachPart w w'
zero-led e w offset length fua outcome w' p = settle-led w fua (ReportsSpace (WritesAny e w offset (replicate length 0))) (λ o v q. write-led e w offset (replicate length 0) q.0 v q.1) outcome w' p

command-led : (e : ExportRecord) (w : World) (command : Result Command RequestError) (payload : List ℕ) (outcome : RequestOutcome) (w' : World) → ServesCommand e w command payload outcome w' → IsLed EachPart w w'
command-led e w (Err error) payload outcome w' p = stays-led w w' p.1
command-led e w (Ok (Read offset length)) payload outcome w' p = answers-led e w offset length outcome w' p
command-led e w (Ok (Write offset length fua)) payload outcome w' p = settle-led w fua (ReportsSpace (WritesGiven e w offset payload)) (λ o v q. given-led e w offset payload q.0 v q.1) outcome w' p
command-led e w (Ok (Zero offset length fua false)) payload outcome w' p = zero-led e w offset length fua outcome w' p
command-led e w (Ok (Zero offset length fua true)) payload outcome w' (inl p) = zero-led e w offset length fua outcome w' p.0
command-led e w (Ok (Zero offset length fua true)) payload outcome w' (inr p) = stays-led w w' p.0.1
command-led e w (Ok Hint) payload outcome w' p = stays-led w w' p.1
command-led e w (Ok (Cache offset length)) payload outcome w' p = cache-led e w offset length outcome w' p
command-led e w (Ok Flush) payload outcome w' p = flush-led w outcome w' p
command-led e w (Ok (Status offset length one)) payload outcome w' p = status-led e w offset length one outcome w' p

replies-led : (e : ExportRecord) (agreed : Agreement) (w : World) (h : Header) (payload : List ℕ) (found : Option Delivery) (reply : List ℕ) (w' : World) → GivesReply e agreed w h payload found reply w' → IsLed EachPart w w'
replies-led e agreed w h payload (Some d) reply w' p = delivered-led e d w reply w' p
replies-led e agreed w h payload None reply w' p = command-led e w (command_of e agreed h) payload p.0 w' p.1

request-led : (e : ExportRecord) (agreed : Agreement) (w : World) (header payload reply : List ℕ) (next : Phase) (w' : World) → IsLastRequest w header reply next w' ⊎ ((header_of header).kind ≢ 2) × IsServedRequest e agreed w header payload reply next w' → IsLed EachPart w w'
request-led e agreed w header payload reply next w' (inl x) = stays-led w w' x.same
request-led e agreed w header payload reply next w' (inr x) = replies-led e agreed w (header_of header) payload (delivery_of e agreed (header_of header)) reply w' x.1.replies

message-led : (es : List ExportRecord) (phase : Phase) (w : World) (message reply : List ℕ) (next : Phase) (w' : World) → TakesMessage es phase w message reply next w' → IsLed EachPart w w'
message-led es Greeted w message reply next w' p = stays-led w w' p.1
message-led es (Haggling terms) w message reply next w' p = stays-led w w' p.1
message-led es (Serving agreed) w message reply next w' p = request-led (export_at es agreed.place) agreed w p.header p.payload reply next w' p.answered
message-led es Over w message reply next w' p = absurd p

-- messages one after another are a run of the queue
pub talk-led : {es : List ExportRecord} {first : World} {phase : Phase} {w : World} {taken written : List ℕ} → Conversation es first phase w taken written → IsLed EachPart first w
talk-led {es = es} {first = first} begins = led-none EachPart first
talk-led {es = es} {first = first} (goes_on {phase = phase} {next = next} {w = w} {w' = w'} message reply talk takes) =
    led-then EachPart first w w' (talk-led talk) (message-led es phase w message reply next w' takes)

-- and so is a reply that was begun
pub begun-led : (es : List ExportRecord) (phase : Phase) (w : World) (message : List ℕ) (w' : World) → BeginsMessage es phase w message w' → IsLed EachPart w w'
begun-led es Greeted w message w' p = absurd p
begun-led es (Haggling terms) w message w' p = absurd p
begun-led es (Serving agreed) w message w' p = pieces-led p.begun.pieces
begun-led es Over w message w' p = absurd p
