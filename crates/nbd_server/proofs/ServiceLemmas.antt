-- A service, message by message.
use Rattle.std.proofs.Common.{◌≡◌, ◌≢◌, ℕ, ◌+◌, ◌-◌, ◌/◌, ◌%◌, List, [], ◌∷◌, ◌++◌, length, refl, ap, sym, ◌∙◌, subst, append_assoc, append-nil, inl, inr, Option, Some, None, Result, Ok, Err}
use Rattle.std.specs.Prelude.{◌⊎◌, ◌<◌, ◌&&◌, ◌==◌, Bool, true, false, replicate, if◌then◌else◌}
use Rattle.std.specs.Io.KnownBytes.{Appends, Consumes, Keeps}
use Rattle.std.proofs.KnownBytes.{Appends-nil, Appends-trans, Appends-kept, Consumes-nil, Consumes-trans}
use Rattle.request_queue.specs.Parts.{EachPart}
use Rattle.request_queue.specs.Runs.{IsLed}
use Rattle.request_queue.specs.World.{World}
use Rattle.program_io.specs.Streams.{Streams, streams}
use Rattle.nbd_protocol.specs.declared.fault.ServiceFault.{ServiceFault}
use Rattle.nbd_protocol.specs.declared.fault.ServiceFault.TheVariants as fault
use Rattle.nbd_protocol.specs.declared.phase.Terms.{Terms}
use Rattle.nbd_protocol.specs.declared.phase.Agreement.{Agreement}
use Rattle.nbd_protocol.specs.declared.phase.Phase.{Phase}
use Rattle.nbd_protocol.specs.declared.phase.Phase.TheVariants.{Greeted, Haggling, Serving, Over}
use Rattle.nbd_protocol.specs.declared.header.Command.{Command}
use Rattle.nbd_protocol.specs.declared.header.Command.TheVariants.{Read, Write, Zero, Hint, Cache, Flush, Status}
use Rattle.nbd_protocol.specs.declared.request_error.RequestError.{RequestError}
use Rattle.nbd_server.specs.declared.failure.Failure.{Failure}
use Rattle.nbd_protocol.specs.Exports.{AreExports, ExportRecord, asked, export_at, export_records}
use Rattle.nbd_protocol.specs.declared.export.Export.{Export}
use Rattle.nbd_protocol.specs.Numbers.{big_endian32}
use Rattle.nbd_protocol.specs.Headers.{command_of, header_of}
use Rattle.nbd_server.specs.Sectors.{EndsPut, StopsPut}
use Rattle.nbd_server.specs.Replies.{RequestOutcome}
use Rattle.nbd_server.specs.Transmission.{FailsToReadEnds, IsFramed, ReportsSpace, ServesCommand, ServesZero, WritesAtOnce, WritesGiven, WritesPayload, WritesAny, room_behind}
use Rattle.nbd_protocol.specs.Handshake.{greeting, is_info, name_in, phase_after, serving_at, terms_after, terms_after_long}
use Rattle.nbd_protocol.proofs.lemmas.ExportLemmas.{asked-inside}
use Rattle.nbd_server.specs.Premises.{IsExportPlaced}
use Rattle.nbd_server.specs.Causes.{Breaks}
use Rattle.nbd_protocol.specs.Streaming.{Spoken}
use Rattle.nbd_protocol.specs.declared.header.Header.{Header}
use Rattle.nbd_server.specs.Delivery.{delivery_of}
use Rattle.nbd_server.specs.declared.delivery.Delivery.{Delivery}
use Rattle.nbd_server.specs.Service.{AnswersOption, BeginsMessage, Conversation, begins, goes_on, EndsTurn, IsInterrupted, IsService, IsLastRequest, IsServedRequest, IsUnanswered, GivesReply, TakesMessage, faults_before, faults_of, message_faults, message_log, log_before, log_of}
use Rattle.nbd_server.specs.declared.known_faults.ExportFault.{ExportFault}
use Rattle.nbd_server.specs.Logs.{no_log}
use Rattle.nbd_server.specs.declared.session_end.SessionEnd.TheVariants.{Ended, Gone}
use Rattle.nbd_server.specs.declared.session_log.SessionLog.{SessionLog}
use Rattle.nbd_server.proofs.FlushLemmas.{flush-config, settle-config}
use Rattle.nbd_server.proofs.DeliveryLemmas.{delivered-config}
use Rattle.nbd_server.proofs.PieceLemmas.{read-config}
use Rattle.nbd_server.proofs.UndividedLemmas.{answers-config}
use Rattle.nbd_server.proofs.PrefetchLemmas.{cache-config}
use Rattle.nbd_server.proofs.ReadStatusLemmas.{status-config}
use Rattle.nbd_server.proofs.RunLemmas.{begun-led, talk-led}
use Rattle.request_queue.proofs.lemmas.LedLemmas.{led-then}

-- what is said of a list of faults
abbrev Reporting : Type 1
Reporting = List ExportFault → Type 0

-- the messages so far, the greeting and their replies, their log and the report of their faults
abbrev pub IsTalk : List ExportRecord → World → Phase → World → SessionLog → Reporting → List ℕ → List ℕ → Type 0
IsTalk es first phase now log Reports taken written =
    (replies : List ℕ) × (talk : Conversation es first phase now taken replies) × (written ≡ greeting ++ replies) × (log ≡ log_of talk) × Reports (faults_of talk)

abbrev pub BusyOr : List ExportRecord → World → Phase → World → SessionLog → Reporting → Streams → Streams → Type 0
BusyOr es first phase now log Reports old new = Spoken old new (IsTalk es first phase now log Reports)

pub held-starts : (es : List ExportRecord) (first : World) (log : SessionLog) (Reports : Reporting) (input output output' : Option (List ℕ)) → log ≡ no_log → Reports [] → Appends output output' greeting
    → BusyOr es first Greeted first log Reports (streams input output) (streams input output')
held-starts es first log Reports input output output' none reported a = record { taken = []; written = greeting; consumed = Consumes-nil input; appended = a; holds = ([], begins, sym (append-nil greeting), none, reported) }

-- what was kept back is handed on
pub held-kept : {es : List ExportRecord} {first now : World} {phase : Phase} {log : SessionLog} {old : Streams} (Reports : Reporting) (input output output' : Option (List ℕ)) → BusyOr es first phase now log Reports old (streams input output) → Keeps output output'
    → BusyOr es first phase now log Reports old (streams input output')
held-kept {old = old} Reports input output output' h k = record { taken = h.taken; written = h.written; consumed = h.consumed; appended = Appends-kept old.output output output' h.written h.appended k; holds = h.holds }

-- the same with another report of the faults
pub held-as : {es : List ExportRecord} {first now : World} {phase : Phase} {log : SessionLog} {old new : Streams} (Reports Reports' : Reporting) → BusyOr es first phase now log Reports old new
    → ((faults : List ExportFault) → Reports faults → Reports' faults) → BusyOr es first phase now log Reports' old new
held-as Reports Reports' h implies = record { taken = h.taken; written = h.written; consumed = h.consumed; appended = h.appended; holds = (h.holds.0, h.holds.1, h.holds.2, h.holds.3, implies (faults_of h.holds.1) h.holds.4) }

pub held-more : {es : List ExportRecord} {first now : World} {phase : Phase} {log : SessionLog} {old mid : Streams} (Reports Reports' : Reporting) (next : Phase) (now' : World) (log' : SessionLog) (new : Streams)
    → BusyOr es first phase now log Reports old mid → (t : EndsTurn es phase now now' log log' mid new (Ok (Some next)))
    → ((faults : List ExportFault) → Reports faults → Reports' (faults ++ message_faults es phase now t.taken t.written next now' t.holds.0)) → BusyOr es first next now' log' Reports' old new
held-more {es = es} {now = now} {phase = phase} {old = old} {mid = mid} Reports Reports' next now' log' new h t reports = record {
  taken = h.taken ++ t.taken;
  written = h.written ++ t.written;
  consumed = Consumes-trans old.input mid.input new.input h.taken t.taken h.consumed t.consumed;
  appended = Appends-trans old.output mid.output new.output h.written t.written h.appended t.appended;
  holds = (
    h.holds.0 ++ t.written,
    goes_on t.taken t.written h.holds.1 t.holds.0,
    ap (λ l. l ++ t.written) h.holds.2 ∙ append_assoc greeting h.holds.0 t.written,
    t.holds.1 ∙ ap (λ (x : SessionLog). message_log es phase now t.taken t.written next now' t.holds.0 x) h.holds.3,
    reports (faults_of h.holds.1) h.holds.4,
  );
}

-- it went away between two messages
pub held-none : {es : List ExportRecord} {first now : World} {phase : Phase} {log : SessionLog} {Reports : Reporting} {old mid : Streams} (now' : World) (log' : SessionLog) (new : Streams) → phase ≢ Over
    → BusyOr es first phase now log Reports old mid → EndsTurn es phase now now' log log' mid new (Ok None) → IsService es first now' old new log' Reports (Ok Gone)
held-none {es = es} {first = first} {now = now} {phase = phase} {log = log} {Reports = Reports} {old = old} {mid = mid} now' log' new going h t =
    let none = t.0.0 in
    let talk = subst (λ (x : World). IsTalk es first phase x log Reports h.taken h.written) (sym none.holds.2) h.holds in
    record {
      held = λ other. record {
        taken = h.taken ++ none.taken;
        written = h.written ++ none.written;
        consumed = Consumes-trans old.input mid.input new.input h.taken none.taken h.consumed none.consumed;
        appended = Appends-trans old.output mid.output new.output h.written none.written h.appended none.appended;
        holds = record {
          phase = phase;
          whole = h.taken;
          replies = talk.0;
          rest = none.taken;
          talk = talk.1;
          logged_is = t.1 ∙ talk.3;
          reported = talk.4;
          taken_is = refl;
          written_is = ap (λ l. h.written ++ l) none.holds.1 ∙ append-nil h.written ∙ talk.2;
          ends = (none.holds.0, going, t.0.1);
        };
      };
      done = λ is. (cc);
      led = subst (IsLed EachPart first) (sym none.holds.2) (talk-led h.holds.1);
    }

-- the service ends in a message, for another fault than the writer's
ends-in : {es : List ExportRecord} {first now : World} {phase : Phase} {log : SessionLog} {Reports : Reporting} {old mid : Streams} (now' : World) (log' : SessionLog) (new : Streams) (x : ServiceFault) → x ≢ fault.WriteFault
    → BusyOr es first phase now log Reports old mid → log' ≡ log → Spoken mid new (λ taken written. (written ≡ []) × (now' ≡ now) × Breaks es phase taken new.input x) → IsService es first now' old new log' Reports (Err x)
ends-in {es = es} {first = first} {now = now} {phase = phase} {log = log} {Reports = Reports} {old = old} {mid = mid} now' log' new x apart h same t = let talk = subst (λ (y : World). IsTalk es first phase y log Reports h.taken h.written) (sym t.holds.1) h.holds in record {
  held = λ other. record {
    taken = h.taken ++ t.taken;
    written = h.written ++ t.written;
    consumed = Consumes-trans old.input mid.input new.input h.taken t.taken h.consumed t.consumed;
    appended = Appends-trans old.output mid.output new.output h.written t.written h.appended t.appended;
    holds = record {
      phase = phase;
      whole = h.taken;
      replies = talk.0;
      rest = t.taken;
      talk = talk.1;
      logged_is = same ∙ talk.3;
      reported = talk.4;
      taken_is = refl;
      written_is = ap (λ l. h.written ++ l) t.holds.0 ∙ append-nil h.written ∙ talk.2;
      ends = t.holds.2;
    };
  };
  done = λ is. absurd (apart (cc));
  led = subst (IsLed EachPart first) (sym t.holds.1) (talk-led h.holds.1);
}

-- ---- the writer failed

-- those messages were taken and done
stuck : {es : List ExportRecord} {first last : World} {phase : Phase} {Reports : Reporting} {old new : Streams} (log : SessionLog) (whole replies : List ℕ) → Consumes old.input new.input whole → (talk : Conversation es first phase last whole replies)
    → log ≡ log_before talk → Reports (faults_before talk) → IsService es first last old new log Reports (Err fault.WriteFault)
stuck {last = last} {phase = phase} {old = old} {new = new} log whole replies c talk logged_is reported = record {
  held = λ other. absurd (other refl);
  done = λ is. record {
    phase = phase;
    whole = whole;
    replies = replies;
    mid = last;
    rest = [];
    consumed = subst (λ (l : List ℕ). Consumes old.input new.input l) (sym (append-nil whole)) c;
    talk = talk;
    ends = inl (refl, refl, logged_is, reported);
  };
  led = talk-led talk;
}

-- and the reply to another one was begun
stuck-begun : {es : List ExportRecord} {first mid : World} {phase : Phase} {Reports : Reporting} (last : World) (old new : Streams) (log : SessionLog) (whole replies rest : List ℕ) → Consumes old.input new.input (whole ++ rest) → (talk : Conversation es first phase mid whole replies)
    → log ≡ log_of talk → Reports (faults_of talk) → BeginsMessage es phase mid rest last → IsService es first last old new log Reports (Err fault.WriteFault)
stuck-begun {es = es} {first = first} {mid = mid} {phase = phase} last old new log whole replies rest c talk logged_is reported begun = record {
  held = λ other. absurd (other refl);
  done = λ is. record {
    phase = phase;
    whole = whole;
    replies = replies;
    mid = mid;
    rest = rest;
    consumed = c;
    talk = talk;
    ends = inr (begun, logged_is, reported);
  };
  led = led-then EachPart first mid last (talk-led talk) (begun-led es phase mid rest last begun);
}

-- in the greeting
pub held-unsaid : (es : List ExportRecord) (first : World) (log : SessionLog) (Reports : Reporting) (input output output' : Option (List ℕ)) → log ≡ no_log → Reports [] → IsService es first first (streams input output) (streams input output') log Reports (Err fault.WriteFault)
held-unsaid es first log Reports input output output' none reported = stuck {Reports = Reports} {old = streams input output} {new = streams input output'} log [] [] (Consumes-nil input) begins none reported

-- in a reply
held-fails : {es : List ExportRecord} {first now : World} {phase : Phase} {log : SessionLog} {Reports : Reporting} {old mid : Streams} (now' : World) (log' : SessionLog) (new : Streams) → BusyOr es first phase now log Reports old mid → log' ≡ log
    → IsUnanswered es phase now now' mid.input new.input ⊎ IsInterrupted es phase now now' mid.input new.input → IsService es first now' old new log' Reports (Err fault.WriteFault)
held-fails {Reports = Reports} {old = old} {mid = mid} now' log' new h same (inl t) =
    stuck {Reports = Reports} {old = old} {new = new} log' (h.taken ++ t.message) (h.holds.0 ++ t.reply) (Consumes-trans old.input mid.input new.input h.taken t.message h.consumed t.consumed) (goes_on t.message t.reply h.holds.1 t.takes) (same ∙ h.holds.3) h.holds.4
held-fails {Reports = Reports} {old = old} {mid = mid} now' log' new h same (inr t) =
    stuck-begun {Reports = Reports} now' old new log' h.taken h.holds.0 t.message (Consumes-trans old.input mid.input new.input h.taken t.message h.consumed t.consumed) h.holds.1 (same ∙ h.holds.3) h.holds.4 t.begins

-- ---- any fault

pub held-ends : {es : List ExportRecord} {first now : World} {phase : Phase} {log : SessionLog} {Reports : Reporting} {old mid : Streams} (now' : World) (log' : SessionLog) (new : Streams) (x : ServiceFault) → BusyOr es first phase now log Reports old mid
    → EndsTurn es phase now now' log log' mid new (Err x) → IsService es first now' old new log' Reports (Err x)
held-ends now' log' new fault.Lost h t = ends-in now' log' new fault.Lost (λ is. (cc)) h t.1 t.0
held-ends now' log' new fault.Magic h t = ends-in now' log' new fault.Magic (λ is. (cc)) h t.1 t.0
held-ends now' log' new fault.Flags h t = ends-in now' log' new fault.Flags (λ is. (cc)) h t.1 t.0
held-ends now' log' new fault.NoSuchExport h t = ends-in now' log' new fault.NoSuchExport (λ is. (cc)) h t.1 t.0
held-ends now' log' new fault.TooManyOptions h t = ends-in now' log' new fault.TooManyOptions (λ is. (cc)) h t.1 t.0
held-ends now' log' new fault.ReadFault h t = ends-in now' log' new fault.ReadFault (λ is. (cc)) h t.1 t.0
held-ends {old = old} {mid = mid} now' log' new fault.WriteFault h t = held-fails {old = old} {mid = mid} now' log' new h t.1 t.0

-- the reader was called too often
pub held-stops : {es : List ExportRecord} {first now : World} {phase : Phase} {log : SessionLog} {Reports : Reporting} {old : Streams} (new : Streams) → BusyOr es first phase now log Reports old new → IsService es first now old new log Reports (Err fault.ReadFault)
held-stops {now = now} {log = log} new h =
    ends-in {mid = new} now log new fault.ReadFault (λ is. (cc)) h refl (record { taken = []; written = []; consumed = Consumes-nil new.input; appended = Appends-nil new.output; holds = (refl, refl, inl refl) })

-- the client has ended it
pub held-over : {es : List ExportRecord} {first now : World} {phase : Phase} {log : SessionLog} {Reports : Reporting} {old new : Streams} → BusyOr es first phase now log Reports old new → phase ≡ Over → IsService es first now old new log Reports (Ok Ended)
held-over {phase = phase} h over = record {
  held = λ other. record {
    taken = h.taken;
    written = h.written;
    consumed = h.consumed;
    appended = h.appended;
    holds = record {
      phase = phase;
      whole = h.taken;
      replies = h.holds.0;
      rest = [];
      talk = h.holds.1;
      logged_is = h.holds.3;
      reported = h.holds.4;
      taken_is = sym (append-nil h.taken);
      written_is = h.holds.2;
      ends = (refl, over);
    };
  };
  done = λ is. (cc);
  led = talk-led h.holds.1;
}

-- ---- the configuration stays

same-config : (w w' : World) → w' ≡ w → w'.stack.config ≡ w.stack.config
same-config w w' same = ap (λ (x : World). x.stack.config) same

pub framed-config : (e : ExportRecord) (w : World) (offset : ℕ) (bytes sectors : List ℕ) (w' : World) → IsFramed e w offset bytes sectors w' → w'.stack.config ≡ w.stack.config
framed-config e w offset bytes sectors w' p =
    read-config e p.ends.mid (offset + length bytes) (room_behind offset (length bytes)) (Ok p.behind) w' p.ends.last
    ∙ read-config e w (offset - offset % 512) (offset % 512) (Ok p.before) p.ends.mid p.ends.first

ends-config : (e : ExportRecord) (w : World) (offset length : ℕ) (error : Failure) (w' : World) → FailsToReadEnds e w offset length w' error → w'.stack.config ≡ w.stack.config
ends-config e w offset length error w' (inl p) = read-config e w (offset - offset % 512) (offset % 512) (Err error) w' p
ends-config e w offset length error w' (inr p) =
    read-config e p.1 (offset + length) (room_behind offset length) (Err error) w' p.3 ∙ read-config e w (offset - offset % 512) (offset % 512) (Ok p.0) p.1 p.2

unstored-config : (w : World) (d first : ℕ) (bytes : List ℕ) (error : Failure) (w' : World) → EndsPut w d first bytes error w' ⊎ StopsPut w d first bytes error w' → w'.stack.config ≡ w.stack.config
unstored-config w d first bytes error w' (inl p) = p.3.any.config
unstored-config w d first bytes error w' (inr p) = p.2.put.put.any.config

bytes-config : (e : ExportRecord) (w : World) (offset : ℕ) (bytes : List ℕ) (outcome : RequestOutcome) (w' : World) → WritesAtOnce e w offset bytes outcome w' → w'.stack.config ≡ w.stack.config
bytes-config e w offset bytes (Ok content) w' p = p.4.stored.put.any.config ∙ framed-config e w offset bytes p.1 p.2 p.3
bytes-config e w offset bytes (Err error) w' (inl p) = ends-config e w offset (length bytes) error w' p
bytes-config e w offset bytes (Err error) w' (inr p) = unstored-config p.1 e.device (offset / 512) p.0 error w' p.3.put.cause ∙ framed-config e w offset bytes p.0 p.1 p.2

write-config : (e : ExportRecord) (w : World) (offset : ℕ) (bytes : List ℕ) (outcome : RequestOutcome) (w' : World) → WritesAny e w offset bytes outcome w' → w'.stack.config ≡ w.stack.config
write-config e w offset [] outcome w' p = same-config w w' p.1
write-config e w offset (byte ∷ more) (Ok content) w' p = p.4.stored.put.any.config ∙ framed-config e w offset (byte ∷ more) p.1 p.2 p.3
write-config e w offset (byte ∷ more) (Err error) w' (inl p) = ends-config e w offset (length (byte ∷ more)) error w' p
write-config e w offset (byte ∷ more) (Err error) w' (inr p) =
    let ends : w'.stack.config ≡ p.1.stack.config = elim p.3.fails [ inl q ↦ unstored-config p.1 e.device (offset / 512) p.0 error w' q.cause | inr q ↦ q.1.put.put.any.config ] in ends ∙ framed-config e w offset (byte ∷ more) p.0 p.1 p.2

payload-config : (e : ExportRecord) (w : World) (offset : ℕ) (bytes : List ℕ) (outcome : RequestOutcome) (w' : World) → WritesPayload e w offset bytes outcome w' → w'.stack.config ≡ w.stack.config
payload-config e w offset [] outcome w' p = same-config w w' p.1
payload-config e w offset (byte ∷ more) outcome w' p = bytes-config e w offset (byte ∷ more) outcome w' p

given-config : (e : ExportRecord) (w : World) (offset : ℕ) (bytes : List ℕ) (outcome : RequestOutcome) (w' : World) → WritesGiven e w offset bytes outcome w' → w'.stack.config ≡ w.stack.config
given-config e w offset bytes outcome w' (inl p) = same-config w w' p.1
given-config e w offset bytes outcome w' (inr p) = payload-config e w offset bytes outcome w' p

zero-config : (e : ExportRecord) (w : World) (offset length : ℕ) (fua : Bool) (outcome : RequestOutcome) (w' : World) → ServesZero e w offset length fua outcome w' → w'.stack.config ≡ w.stack.config
zero-config e w offset length fua outcome w' p = settle-config w fua (ReportsSpace (WritesAny e w offset (replicate length 0))) (λ o v q. write-config e w offset (replicate length 0) q.0 v q.1) outcome w' p

command-config : (e : ExportRecord) (w : World) (command : Result Command RequestError) (payload : List ℕ) (outcome : RequestOutcome) (w' : World) → ServesCommand e w command payload outcome w' → w'.stack.config ≡ w.stack.config
command-config e w (Err error) payload outcome w' p = same-config w w' p.1
command-config e w (Ok (Read offset length)) payload outcome w' p = answers-config e w offset length outcome w' p
command-config e w (Ok (Write offset length fua)) payload outcome w' p = settle-config w fua (ReportsSpace (WritesGiven e w offset payload)) (λ o v q. given-config e w offset payload q.0 v q.1) outcome w' p
command-config e w (Ok (Zero offset length fua false)) payload outcome w' p = zero-config e w offset length fua outcome w' p
command-config e w (Ok (Zero offset length fua true)) payload outcome w' (inl p) = zero-config e w offset length fua outcome w' p.0
command-config e w (Ok (Zero offset length fua true)) payload outcome w' (inr p) = same-config w w' p.0.1
command-config e w (Ok Hint) payload outcome w' p = same-config w w' p.1
command-config e w (Ok (Cache offset length)) payload outcome w' p = cache-config e w offset length outcome w' p
command-config e w (Ok Flush) payload outcome w' p = flush-config w outcome w' p
command-config e w (Ok (Status offset length one)) payload outcome w' p = status-config e w offset length one outcome w' p

replies-config : (e : ExportRecord) (agreed : Agreement) (w : World) (h : Header) (payload : List ℕ) (found : Option Delivery) (reply : List ℕ) (w' : World) → GivesReply e agreed w h payload found reply w' → w'.stack.config ≡ w.stack.config
replies-config e agreed w h payload (Some d) reply w' p = delivered-config e d w reply w' p
replies-config e agreed w h payload None reply w' p = command-config e w (command_of e agreed h) payload p.0 w' p.1

request-config : (e : ExportRecord) (agreed : Agreement) (w : World) (header payload reply : List ℕ) (next : Phase) (w' : World) → IsLastRequest w header reply next w' ⊎ ((header_of header).kind ≢ 2) × IsServedRequest e agreed w header payload reply next w' → w'.stack.config ≡ w.stack.config
request-config e agreed w header payload reply next w' (inl x) = same-config w w' x.same
request-config e agreed w header payload reply next w' (inr x) = replies-config e agreed w (header_of header) payload (delivery_of e agreed (header_of header)) reply w' x.1.replies

pub message-config : (es : List ExportRecord) (phase : Phase) (w : World) (message reply : List ℕ) (next : Phase) (w' : World) → TakesMessage es phase w message reply next w' → w'.stack.config ≡ w.stack.config
message-config es Greeted w message reply next w' p = same-config w w' p.1
message-config es (Haggling terms) w message reply next w' p = same-config w w' p.1
message-config es (Serving agreed) w message reply next w' p = request-config (export_at es agreed.place) agreed w p.header p.payload reply next w' p.answered
message-config es Over w message reply next w' p = absurd p

pub exports-kept : (exports : List Export) (phase : Phase) (w w' : World) (log log' : SessionLog) (old new : Streams) (next : Phase) → AreExports w.stack.config exports
    → EndsTurn (export_records exports) phase w w' log log' old new (Ok (Some next)) → AreExports w'.stack.config exports
exports-kept exports phase w w' log log' old new next x t = subst (λ c. AreExports c exports) (sym (message-config (export_records exports) phase w t.taken t.written next w' t.holds.0)) x

-- ---- the export that is served is one of them

module _ (es : List ExportRecord) where
  serving-placed : (terms : Terms) (name : List ℕ) (found : Option ℕ) → asked es name ≡ found → IsExportPlaced es (serving_at terms found)
  serving-placed terms name (Some place) is = asked-inside es name place is
  serving-placed terms name None is = tt

  after-placed : (terms : Terms) (option : ℕ) (content : List ℕ) → IsExportPlaced es (phase_after es terms option content)
  unfolding phase_after
  after-placed terms option content = go (option == 1) (option == 2) ((option == 7) && is_info content)
    where
      go : (named ended goes : Bool) → IsExportPlaced es (if named then serving_at terms (asked es content) else if ended then Over else if goes then serving_at terms (asked es (name_in content)) else Haggling (terms_after es terms option content))
      go true ended goes = serving-placed terms content (asked es content) refl
      go false true goes = tt
      go false false true = serving-placed terms (name_in content) (asked es (name_in content)) refl
      go false false false = tt

  long-placed : (after : Terms) (ended : Bool) → IsExportPlaced es (if ended then Over else Haggling after)
  long-placed after true = tt
  long-placed after false = tt

  option-placed : (terms : Terms) (option : ℕ) (content reply : List ℕ) (next : Phase) → AnswersOption es terms option content reply next → IsExportPlaced es next
  option-placed terms option content reply next (inl a) = subst (IsExportPlaced es) (sym a.next_is) (after-placed terms option content)
  option-placed terms option content reply next (inr a) = subst (IsExportPlaced es) (sym a.next_is) (long-placed (terms_after_long terms option) (option == 2))

  request-placed : (e : ExportRecord) (agreed : Agreement) (w : World) (header payload reply : List ℕ) (next : Phase) (w' : World) → agreed.place < length es
      → IsLastRequest w header reply next w' ⊎ ((header_of header).kind ≢ 2) × IsServedRequest e agreed w header payload reply next w' → IsExportPlaced es next
  request-placed e agreed w header payload reply next w' inside (inl x) = subst (IsExportPlaced es) (sym x.next_is) tt
  request-placed e agreed w header payload reply next w' inside (inr x) = subst (IsExportPlaced es) (sym x.1.next_is) inside

  message-placed : (phase : Phase) (w : World) (message reply : List ℕ) (next : Phase) (w' : World) → IsExportPlaced es phase → TakesMessage es phase w message reply next w' → IsExportPlaced es next
  message-placed Greeted w message reply next w' placed p = subst (IsExportPlaced es) (sym p.0.next_is) tt
  message-placed (Haggling terms) w message reply next w' placed p = option-placed terms (big_endian32 p.0.header 8) p.0.content reply next p.0.answered
  message-placed (Serving agreed) w message reply next w' placed p = request-placed (export_at es agreed.place) agreed w p.header p.payload reply next w' placed p.answered
  message-placed Over w message reply next w' placed p = absurd p

  pub placed-next : (phase : Phase) (w w' : World) (log log' : SessionLog) (old new : Streams) (next : Phase) → IsExportPlaced es phase → EndsTurn es phase w w' log log' old new (Ok (Some next)) → IsExportPlaced es next
  placed-next phase w w' log log' old new next placed t = message-placed phase w t.taken t.written next w' placed t.holds.0
