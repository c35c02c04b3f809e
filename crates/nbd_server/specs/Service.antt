-- The session of a client: its messages in order, and the reply to each.
use Rattle.std.specs.Prelude.{◌≡◌, ◌≢◌, ◌⊎◌, ℕ, ◌<◌, ◌≤◌, nat_le, true, false, List, [], ◌++◌, length, take, codes, Bool, Option, Some, None, Result, Ok, Err}
use mathlib.Core.Logic.{inl, inr}
use Rattle.std.specs.Io.KnownBytes.{Appends, Consumes, IsAtEnd, Keeps}
use Rattle.request_queue.specs.Parts.{EachPart}
use Rattle.request_queue.specs.Runs.{IsLed}
use Rattle.request_queue.specs.World.{World}
use Rattle.program_io.specs.Counted.{CountedRecord}
use Rattle.program_io.specs.Streams.{Streams, streams}
use Rattle.nbd_protocol.specs.Numbers.{big_endian32}
use Rattle.nbd_protocol.specs.Exports.{ExportRecord, asked, export_at, export_records}
use Rattle.nbd_protocol.specs.declared.export.Export.{Export}
use Rattle.nbd_protocol.specs.Handshake.{greeting, answer_to, answer_to_long, phase_after, phase_after_long, names_export, most_data, most_options}
use Rattle.nbd_protocol.specs.Headers.{command_of, header_of, payload_len, request_magic}
use Rattle.nbd_server.specs.Causes.{Breaks}
use Rattle.nbd_protocol.specs.Streaming.{Spoken, TakesInto, content_in}
use Rattle.nbd_server.specs.Replies.{RequestOutcome, agreed_reply}
use Rattle.nbd_server.specs.Tallies.{moved_bytes}
use Rattle.nbd_server.specs.Transmission.{ServesRequest}
use Rattle.nbd_server.specs.Delivery.{IsBegun, IsDelivered, delivery_fault, delivery_of}
use Rattle.nbd_server.specs.Logs.{logged, met_faults, no_log, outcome_fault}
use Rattle.nbd_server.specs.declared.known_faults.ExportFault.{ExportFault}
use Rattle.nbd_server.specs.declared.known_faults.SectorFault.{SectorFault}
use Rattle.nbd_server.specs.declared.session_end.SessionEnd.{SessionEnd}
use Rattle.nbd_server.specs.declared.session_end.SessionEnd.TheVariants.{Ended, Gone}
use Rattle.nbd_server.specs.declared.session_log.SessionLog.{SessionLog}
use Rattle.nbd_server.specs.declared.delivery.Delivery.{Delivery}
use Rattle.nbd_protocol.specs.declared.header.Header.{Header}
use Rattle.nbd_protocol.specs.declared.fault.ServiceFault.{ServiceFault}
use Rattle.nbd_protocol.specs.declared.fault.ServiceFault.TheVariants.{NoSuchExport, WriteFault}
use Rattle.nbd_protocol.specs.declared.phase.Terms.{Terms}
use Rattle.nbd_protocol.specs.declared.phase.Agreement.{Agreement}
use Rattle.nbd_protocol.specs.declared.phase.Phase.{Phase}
use Rattle.nbd_protocol.specs.declared.phase.Phase.TheVariants.{Greeted, Haggling, Serving, Over}

-- The client flags: four bytes, with no flags but the two that the service offers. There is no reply.
pub record TakesFlags (message reply : List ℕ) (next : Phase) : Type 0 where
  pub size : length message ≡ 4
  pub offered : big_endian32 message 0 < 4
  pub next_is : next ≡ Haggling (record { no_zeroes = nat_le 2 (big_endian32 message 0); structured = false; status = None; left = most_options })
  pub silent : reply ≡ []

-- an option whose data are short enough; its reply depends on its number and its data
pub record IsAnswered (es : List ExportRecord) (terms : Terms) (option : ℕ) (content reply : List ℕ) (next : Phase) : Type 0 where
  pub short : length content ≤ most_data
  pub named : names_export es option content ≡ true
  pub reply_is : reply ≡ answer_to es terms option content
  pub next_is : next ≡ phase_after es terms option content

-- an option whose `count` bytes of data are too long
pub record IsTooLong (terms : Terms) (option count : ℕ) (reply : List ℕ) (next : Phase) : Type 0 where
  pub long : most_data < count
  pub other : option ≢ 1
  pub reply_is : reply ≡ answer_to_long option
  pub next_is : next ≡ phase_after_long terms option

abbrev pub AnswersOption : List ExportRecord → Terms → ℕ → List ℕ → List ℕ → Phase → Type 0
AnswersOption es terms option content reply next = IsAnswered es terms option content reply next ⊎ IsTooLong terms option (length content) reply next

-- An option, if another one is allowed: its magic, its number, the length of its data, and the data.
pub record TakesOption (es : List ExportRecord) (terms : Terms) (message reply : List ℕ) (next : Phase) : Type 0 where
  pub header : List ℕ
  pub content : List ℕ
  pub allowed : 0 < terms.left
  pub message_is : message ≡ header ++ content
  pub size : length header ≡ 16
  pub magic : take 8 header ≡ codes "IHAVEOPT"
  pub count : length content ≡ big_endian32 header 12
  pub answered : AnswersOption es terms (big_endian32 header 8) content reply next

-- the reply to a request: piece by piece for a READ that is answered so, otherwise the result in the form that is agreed on
abbrev pub GivesReply : ExportRecord → Agreement → World → Header → List ℕ → Option Delivery → List ℕ → World → Type 0
GivesReply e a w h payload (Some d) reply w' = IsDelivered e d w reply w'
GivesReply e a w h payload None reply w' = (outcome : RequestOutcome) × ServesRequest e a w h payload outcome w' × (reply ≡ agreed_reply a h outcome)

-- a request after which the session goes on
pub record IsServedRequest (e : ExportRecord) (agreed : Agreement) (w : World) (header payload reply : List ℕ) (next : Phase) (w' : World) : Type 0 where
  pub replies : GivesReply e agreed w (header_of header) payload (delivery_of e agreed (header_of header)) reply w'
  pub next_is : next ≡ Serving agreed

-- the request by which the client ends the session; it has no reply
pub record IsLastRequest (w : World) (header reply : List ℕ) (next : Phase) (w' : World) : Type 0 where
  pub kind : (header_of header).kind ≡ 2
  pub silent : reply ≡ []
  pub next_is : next ≡ Over
  pub same : w' ≡ w

-- A request: a header of 28 bytes, and the payload of a WRITE.
pub record TakesRequest (e : ExportRecord) (agreed : Agreement) (w : World) (message reply : List ℕ) (next : Phase) (w' : World) : Type 0 where
  pub header : List ℕ
  pub payload : List ℕ
  pub message_is : message ≡ header ++ payload
  pub size : length header ≡ 28
  pub magic : big_endian32 header 0 ≡ request_magic
  pub count : length payload ≡ payload_len (header_of header)
  pub answered : IsLastRequest w header reply next w' ⊎ ((header_of header).kind ≢ 2) × IsServedRequest e agreed w header payload reply next w'

-- One message that the client may send in this phase, from one state of the queue to the next.
abbrev pub TakesMessage : List ExportRecord → Phase → World → List ℕ → List ℕ → Phase → World → Type 0
TakesMessage es Greeted w message reply next w' = TakesFlags message reply next × (w' ≡ w)
TakesMessage es (Haggling terms) w message reply next w' = TakesOption es terms message reply next × (w' ≡ w)
TakesMessage es (Serving agreed) w message reply next w' = TakesRequest (export_at es agreed.place) agreed w message reply next w'
TakesMessage es Over w message reply next w' = ⊥

-- A sequence of messages, all bytes of these messages, and all bytes of the replies.
pub data Conversation (es : List ExportRecord) (first : World) : Phase → World → List ℕ → List ℕ → Type 0 where
  begins : Conversation es first Greeted first [] []
  goes_on : {phase next : Phase} {w w' : World} {taken written : List ℕ} (message reply : List ℕ) → Conversation es first phase w taken written → TakesMessage es phase w message reply next w'
      → Conversation es first next w' (taken ++ message) (written ++ reply)

-- ---- the log of the requests

-- the fault that the reply to a request reports as an input/output error
abbrev pub request_fault : (e : ExportRecord) → (a : Agreement) → (w : World) → (h : Header) → (payload : List ℕ) → (found : Option Delivery) → (reply : List ℕ) → (w' : World) → GivesReply e a w h payload found reply w' → Option SectorFault
request_fault e a w h payload (Some d) reply w' given = delivery_fault e d w reply w' given
request_fault e a w h payload None reply w' given = outcome_fault given.0

-- the log after a request: DISC isn't counted
abbrev pub request_log : (e : ExportRecord) → (agreed : Agreement) → (w : World) → (header payload reply : List ℕ) → (next : Phase) → (w' : World)
    → IsLastRequest w header reply next w' ⊎ ((header_of header).kind ≢ 2) × IsServedRequest e agreed w header payload reply next w' → SessionLog → SessionLog
request_log e agreed w header payload reply next w' (inl last) log = log
request_log e agreed w header payload reply next w' (inr served) log =
    logged agreed.place (moved_bytes (command_of e agreed (header_of header))) (request_fault e agreed w (header_of header) payload (delivery_of e agreed (header_of header)) reply w' served.1.replies) log

-- the log after a message
abbrev pub message_log : (es : List ExportRecord) → (phase : Phase) → (w : World) → (message reply : List ℕ) → (next : Phase) → (w' : World) → TakesMessage es phase w message reply next w' → SessionLog → SessionLog
message_log es (Serving agreed) w message reply next w' takes log = request_log (export_at es agreed.place) agreed w takes.header takes.payload reply next w' takes.answered log
message_log es phase w message reply next w' takes log = log

-- the log of a sequence of messages
abbrev pub log_of : {es : List ExportRecord} {first : World} {phase : Phase} {w : World} {taken written : List ℕ} → Conversation es first phase w taken written → SessionLog
log_of begins = no_log
log_of {es = es} (goes_on {phase = phase} {next = next} {w = w} {w' = w'} message reply talk takes) = message_log es phase w message reply next w' takes (log_of talk)

-- the log of the messages before the last one
abbrev pub log_before : {es : List ExportRecord} {first : World} {phase : Phase} {w : World} {taken written : List ℕ} → Conversation es first phase w taken written → SessionLog
log_before begins = no_log
log_before (goes_on message reply talk takes) = log_of talk

-- ---- the faults

-- the fault of a request, if it had one
abbrev pub request_faults : (e : ExportRecord) → (agreed : Agreement) → (w : World) → (header payload reply : List ℕ) → (next : Phase) → (w' : World)
    → IsLastRequest w header reply next w' ⊎ ((header_of header).kind ≢ 2) × IsServedRequest e agreed w header payload reply next w' → List ExportFault
request_faults e agreed w header payload reply next w' (inl last) = []
request_faults e agreed w header payload reply next w' (inr served) =
    met_faults agreed.place (request_fault e agreed w (header_of header) payload (delivery_of e agreed (header_of header)) reply w' served.1.replies)

-- the fault of a message, if it is a request and had one
abbrev pub message_faults : (es : List ExportRecord) → (phase : Phase) → (w : World) → (message reply : List ℕ) → (next : Phase) → (w' : World) → TakesMessage es phase w message reply next w' → List ExportFault
message_faults es (Serving agreed) w message reply next w' takes = request_faults (export_at es agreed.place) agreed w takes.header takes.payload reply next w' takes.answered
message_faults es phase w message reply next w' takes = []

-- the faults of a sequence of messages, in their order
abbrev pub faults_of : {es : List ExportRecord} {first : World} {phase : Phase} {w : World} {taken written : List ℕ} → Conversation es first phase w taken written → List ExportFault
faults_of begins = []
faults_of {es = es} (goes_on {phase = phase} {next = next} {w = w} {w' = w'} message reply talk takes) = faults_of talk ++ message_faults es phase w message reply next w' takes

-- those of the messages before the last one
abbrev pub faults_before : {es : List ExportRecord} {first : World} {phase : Phase} {w : World} {taken written : List ℕ} → Conversation es first phase w taken written → List ExportFault
faults_before begins = []
faults_before (goes_on message reply talk takes) = faults_of talk

-- ---- ends

-- an option without a reply: EXPORT_NAME whose name is that of no export
abbrev pub IsExportUnnamed : List ExportRecord → ℕ → List ℕ → ServiceFault → Type 0
IsExportUnnamed es option content fault = (fault ≡ NoSuchExport) × (option ≡ 1) × (asked es content ≡ None)

-- EXPORT_NAME with a name that is too long to be an export's
abbrev pub IsNameUnread : ℕ → ℕ → ServiceFault → Type 0
IsNameUnread option count fault = (fault ≡ NoSuchExport) × (option ≡ 1) × (most_data < count)

-- how a reply ends: it was written, and a phase follows; or the writer failed in it; or there is no reply, and the fault says
-- why
abbrev pub EndsReply : (List ℕ → Phase → Type 0) → (ServiceFault → Type 0) → Option (List ℕ) → Option (List ℕ) → Result Phase ServiceFault → Type 0
EndsReply Is Ends old new (Ok next) = (reply : List ℕ) × Is reply next × Appends old new reply
EndsReply Is Ends old new (Err WriteFault) = (reply : List ℕ) × (next : Phase) × Is reply next
EndsReply Is Ends old new (Err fault) = Keeps old new × Ends fault

-- how the reply to an option ends, and to an option whose data are too long
abbrev pub EndsOption : {W : Type 0} → (W → Option (List ℕ)) → CountedRecord W → CountedRecord W → List Export → Terms → ℕ → List ℕ → Result Phase ServiceFault → Type 0
EndsOption contents old new exports terms option content result =
    EndsReply (IsAnswered (export_records exports) terms option content) (IsExportUnnamed (export_records exports) option content) (contents old.inner) (contents new.inner) result

abbrev pub EndsLongOption : {W : Type 0} → (W → Option (List ℕ)) → CountedRecord W → CountedRecord W → Terms → ℕ → ℕ → Result Phase ServiceFault → Type 0
EndsLongOption contents old new terms option count result = EndsReply (IsTooLong terms option count) (IsNameUnread option count) (contents old.inner) (contents new.inner) result

-- the data of an option were received, and are at the beginning of the buffer if they fit
abbrev pub TakesContent : {R : Type 0} → (R → Option (List ℕ)) → CountedRecord R → CountedRecord R → ℕ → List ℕ → Bool → Type 0
TakesContent remaining old new count room fits = TakesInto (content_in fits count room) count (remaining old.inner) (remaining new.inner)

-- a message was received and handled, and the writer failed in its reply
pub record IsUnanswered (es : List ExportRecord) (phase : Phase) (w w' : World) (old new : Option (List ℕ)) : Type 0 where
  pub message : List ℕ
  pub reply : List ℕ
  pub next : Phase
  pub consumed : Consumes old new message
  pub takes : TakesMessage es phase w message reply next w'

-- a request that is answered piece by piece, whose reply began
pub record BeginsRequest (e : ExportRecord) (agreed : Agreement) (w : World) (message : List ℕ) (w' : World) : Type 0 where
  pub delivery : Delivery
  pub size : length message ≡ 28
  pub magic : big_endian32 message 0 ≡ request_magic
  pub asks : delivery_of e agreed (header_of message) ≡ Some delivery
  pub begun : IsBegun e delivery w w'

-- a message whose reply began
abbrev pub BeginsMessage : List ExportRecord → Phase → World → List ℕ → World → Type 0
BeginsMessage es (Serving agreed) w message w' = BeginsRequest (export_at es agreed.place) agreed w message w'
BeginsMessage es phase w message w' = ⊥

-- a message was received, its reply began, and the writer failed in it
pub record IsInterrupted (es : List ExportRecord) (phase : Phase) (w w' : World) (old new : Option (List ℕ)) : Type 0 where
  pub message : List ℕ
  pub consumed : Consumes old new message
  pub begins : BeginsMessage es phase w message w'

-- How a message ends: it was handled; the input ended before it; the writer failed in its reply; or the session ends because of
-- the message, and nothing was done.
abbrev pub EndsMessage : List ExportRecord → Phase → World → World → Streams → Streams → Result (Option Phase) ServiceFault → Type 0
EndsMessage es phase w w' old new (Ok (Some next)) = Spoken old new (λ message reply. TakesMessage es phase w message reply next w')
EndsMessage es phase w w' old new (Ok None) = Spoken old new (λ taken written. (taken ≡ []) × (written ≡ []) × (w' ≡ w)) × IsAtEnd new.input
EndsMessage es phase w w' old new (Err WriteFault) = IsUnanswered es phase w w' old.input new.input ⊎ IsInterrupted es phase w w' old.input new.input
EndsMessage es phase w w' old new (Err fault) = Spoken old new (λ taken written. (written ≡ []) × (w' ≡ w) × Breaks es phase taken new.input fault)

-- a message that was handled, and the log before and after it
abbrev pub CountsMessage : List ExportRecord → Phase → World → SessionLog → SessionLog → Phase → World → List ℕ → List ℕ → Type 0
CountsMessage es phase w t t' next w' message reply = (takes : TakesMessage es phase w message reply next w') × (t' ≡ message_log es phase w message reply next w' takes t)

-- how a message ends, and the log before and after it: only a message that was handled is counted
abbrev pub EndsTurn : List ExportRecord → Phase → World → World → SessionLog → SessionLog → Streams → Streams → Result (Option Phase) ServiceFault → Type 0
EndsTurn es phase w w' t t' old new (Ok (Some next)) = Spoken old new (CountsMessage es phase w t t' next w')
EndsTurn es phase w w' t t' old new (Ok None) = EndsMessage es phase w w' old new (Ok None) × (t' ≡ t)
EndsTurn es phase w w' t t' old new (Err fault) = EndsMessage es phase w w' old new (Err fault) × (t' ≡ t)

-- how the message of the client flags ends, for any exports, queue and output
abbrev pub EndsFlags : {R : Type 0} → (R → Option (List ℕ)) → CountedRecord R → CountedRecord R → Result (Option Phase) ServiceFault → Type 0
EndsFlags remaining old new result =
    (es : List ExportRecord) (w : World) (written : Option (List ℕ)) → EndsMessage es Greeted w w (streams (remaining old.inner) written) (streams (remaining new.inner) written) result

-- how the session ends after some messages: the client ended it; or the input ended before a further message; or the rest of the
-- input has the cause of the fault
abbrev pub EndsSo : List ExportRecord → Phase → List ℕ → Option (List ℕ) → Result SessionEnd ServiceFault → Type 0
EndsSo es phase rest input (Ok Ended) = (rest ≡ []) × (phase ≡ Over)
EndsSo es phase rest input (Ok Gone) = (rest ≡ []) × (phase ≢ Over) × IsAtEnd input
EndsSo es phase rest input (Err fault) = Breaks es phase rest input fault

-- the input was whole messages and a rest, and the output the greeting and the replies to these messages; the log is theirs, and their
-- faults are reported
pub record IsHeld (es : List ExportRecord) (first last : World) (input : Option (List ℕ)) (log : SessionLog) (Reports : List ExportFault → Type 0) (result : Result SessionEnd ServiceFault) (taken written : List ℕ) : Type 0 where
  pub phase : Phase
  pub whole : List ℕ
  pub replies : List ℕ
  pub rest : List ℕ
  pub talk : Conversation es first phase last whole replies
  pub logged_is : log ≡ log_of talk
  pub reported : Reports (faults_of talk)
  pub taken_is : taken ≡ whole ++ rest
  pub written_is : written ≡ greeting ++ replies
  pub ends : EndsSo es phase rest input result

-- The input was whole messages, which were handled. The reply to the last one failed, or the greeting; or only some of its pieces
-- were read, if it is answered piece by piece. That one isn't counted.
pub record IsServiceDone (es : List ExportRecord) (first last : World) (old new : Option (List ℕ)) (log : SessionLog) (Reports : List ExportFault → Type 0) : Type 0 where
  pub phase : Phase
  pub whole : List ℕ
  pub replies : List ℕ
  pub mid : World
  pub rest : List ℕ
  pub consumed : Consumes old new (whole ++ rest)
  pub talk : Conversation es first phase mid whole replies
  pub ends : ((rest ≡ []) × (last ≡ mid) × (log ≡ log_before talk) × Reports (faults_before talk)) ⊎ (BeginsMessage es phase mid rest last × (log ≡ log_of talk) × Reports (faults_of talk))

-- What a session read and wrote, from the first state of its queue to the last, the log of its requests, and the report of their
-- faults.
pub record IsService (es : List ExportRecord) (first last : World) (old new : Streams) (log : SessionLog) (Reports : List ExportFault → Type 0) (result : Result SessionEnd ServiceFault) : Type 0 where
  -- if the writer didn't fail
  pub held : result ≢ Err WriteFault → Spoken old new (IsHeld es first last new.input log Reports result)
  -- if the writer failed
  pub done : result ≡ Err WriteFault → IsServiceDone es first last old.input new.input log Reports
  -- in each case the messages are a run of the queue, to which the queue's law applies
  pub led : IsLed EachPart first last
