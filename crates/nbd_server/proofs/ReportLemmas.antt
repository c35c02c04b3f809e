-- The report of a session's faults.
use Rattle.std.proofs.Common.{◌≡◌, ◌≢◌, ◌∙◌, ℕ, Bool, List, [], ◌∷◌, ◌++◌, ap, append_assoc, append-nil, inl, inr, refl, subst, sym, Option, Some, None, Ok}
use Rattle.std.specs.Prelude.{◌⊎◌}
use Rattle.std.proofs.lemmas.List.Elements.{All-nil, All-cons, All-append}
use Rattle.std.proofs.lemmas.List.{map_push}
use Rattle.nbd_protocol.specs.Exports.{ExportRecord, export_at}
use Rattle.nbd_protocol.specs.Headers.{command_of, header_of}
use Rattle.nbd_protocol.specs.declared.phase.Agreement.{Agreement}
use Rattle.nbd_protocol.specs.declared.phase.Phase.{Phase}
use Rattle.nbd_protocol.specs.declared.phase.Phase.TheVariants.{Greeted, Haggling, Serving, Over}
use Rattle.nbd_server.specs.Delivery.{delivery_of}
use Rattle.nbd_server.specs.FaultLines.{IsPrinted, IsReported, IsReporting, TellsFault, TellsMet, last_line, lines_of, met_lines, served_fault}
use Rattle.nbd_server.specs.FaultLog.{MetFault, log_after, met_fault, new_log, next_log}
use Rattle.nbd_server.specs.Logs.{logged, met_faults}
use Rattle.nbd_server.specs.Service.{EndsTurn, IsLastRequest, IsServedRequest, TakesMessage, message_faults, message_log, request_fault, request_faults, request_log}
use Rattle.nbd_server.specs.Tallies.{moved_bytes}
use Rattle.nbd_server.specs.declared.fault_log.FaultLog.{FaultLog}
use Rattle.nbd_server.specs.declared.known_faults.ExportFault.{ExportFault}
use Rattle.nbd_server.specs.declared.known_faults.SectorFault.{SectorFault}
use Rattle.nbd_server.specs.declared.session_log.SessionLog.{SessionLog}
use Rattle.nbd_server.proofs.FaultLineLemmas.{printed-both, printed-none}
use Rattle.program_io.specs.Counted.{CountedRecord}
use Rattle.program_io.specs.Streams.{Streams}
use Rattle.request_queue.specs.World.{World}

-- ---- the fault of a message

abbrev found_faults : Option ExportFault → List ExportFault
found_faults None = []
found_faults (Some fault) = fault ∷ []

logged-met : (place bytes : ℕ) (met : Option SectorFault) (log : SessionLog) → met_faults place met ≡ found_faults (logged place bytes met log).last
logged-met place bytes None log = refl
logged-met place bytes (Some met) log = refl

request-met : (e : ExportRecord) (agreed : Agreement) (w : World) (header payload reply : List ℕ) (next : Phase) (w' : World)
    → (answered : IsLastRequest w header reply next w' ⊎ ((header_of header).kind ≢ 2) × IsServedRequest e agreed w header payload reply next w') → (log : SessionLog)
    → request_faults e agreed w header payload reply next w' answered ≡ found_faults (served_fault (Serving agreed) next (request_log e agreed w header payload reply next w' answered log))
request-met e agreed w header payload reply next w' (inl last) log = sym (ap (λ (n : Phase). found_faults (served_fault (Serving agreed) n log)) last.next_is)
request-met e agreed w header payload reply next w' (inr served) log =
    let met = request_fault e agreed w (header_of header) payload (delivery_of e agreed (header_of header)) reply w' served.1.replies in
    let bytes = moved_bytes (command_of e agreed (header_of header)) in
    logged-met agreed.place bytes met log ∙ sym (ap (λ (n : Phase). found_faults (served_fault (Serving agreed) n (logged agreed.place bytes met log))) served.1.next_is)

message-met : (es : List ExportRecord) (phase : Phase) (w : World) (message reply : List ℕ) (next : Phase) (w' : World) → (takes : TakesMessage es phase w message reply next w') → (log : SessionLog)
    → message_faults es phase w message reply next w' takes ≡ found_faults (served_fault phase next (message_log es phase w message reply next w' takes log))
message-met es Greeted w message reply next w' takes log = refl
message-met es (Haggling terms) w message reply next w' takes log = refl
message-met es (Serving agreed) w message reply next w' takes log = request-met (export_at es agreed.place) agreed w takes.header takes.payload reply next w' takes.answered log
message-met es Over w message reply next w' takes log = absurd takes

-- ---- the lines so far

log-snoc : (l : FaultLog) (met : List MetFault) (m : MetFault) → log_after l (met ++ m ∷ []) ≡ next_log m (log_after l met)
log-snoc l [] m = refl
log-snoc l (x ∷ xs) m = log-snoc (next_log x l) xs m

lines-snoc : (exports : List ExportRecord) (l : FaultLog) (met : List MetFault) (m : MetFault) → lines_of exports l (met ++ m ∷ []) ≡ lines_of exports l met ++ met_lines exports m (log_after l met)
lines-snoc exports l [] m = append-nil (met_lines exports m l)
lines-snoc exports l (x ∷ xs) m =
    let more = lines-snoc exports (next_log x l) xs m in
    ap (λ (t : List ℕ). met_lines exports x l ++ t) more ∙ sym (append_assoc (met_lines exports x l) (lines_of exports (next_log x l) xs) (met_lines exports m (log_after (next_log x l) xs)))

module _ {E : Type 0} (contents : E → Option (List ℕ)) (Shows : ℕ → Type 0) (exports : List ExportRecord) where
  pub reporting-none : (l : FaultLog) (at : CountedRecord E) → IsReporting contents Shows exports l l at at []
  reporting-none l at = record { met = []; faults_are = refl; shown = All-nil (λ (m : MetFault). Shows m.seconds); now_is = refl; printed = printed-none contents at }

  -- a further fault
  reporting-next : (begin l l' : FaultLog) (old mid new : CountedRecord E) (faults : List ExportFault) (fault : ExportFault) → IsReporting contents Shows exports begin l old mid faults
      → TellsFault contents Shows exports l l' mid new fault → IsReporting contents Shows exports begin l' old new (faults ++ fault ∷ [])
  reporting-next begin l l' old mid new faults fault h t =
      let m = met_fault t.seconds fault in
      let P = λ (x : MetFault). Shows x.seconds in
      record {
        met = h.met ++ m ∷ [];
        faults_are = ap (λ (f : List ExportFault). f ++ fault ∷ []) h.faults_are ∙ sym (map_push (λ (x : MetFault). x.fault) h.met m);
        shown = All-append P h.met (m ∷ []) h.shown (All-cons P m [] t.shown (All-nil P));
        now_is = t.log_is ∙ ap (next_log m) h.now_is ∙ sym (log-snoc begin h.met m);
        printed = subst (IsPrinted contents old new) (ap (λ (x : FaultLog). lines_of exports begin h.met ++ met_lines exports m x) h.now_is ∙ sym (lines-snoc exports begin h.met m))
            (printed-both contents old mid new (lines_of exports begin h.met) (met_lines exports m l) h.printed t.printed);
      }

  pub reporting-same : (begin l l' : FaultLog) (old mid new : CountedRecord E) (faults : List ExportFault) → IsReporting contents Shows exports begin l old mid faults → (l' ≡ l) × (new ≡ mid)
      → IsReporting contents Shows exports begin l' old new faults
  reporting-same begin l l' old mid new faults h same = subst (λ (x : FaultLog). IsReporting contents Shows exports begin x old new faults) (sym same.0) (subst (λ (x : CountedRecord E). IsReporting contents Shows exports begin l old x faults) (sym same.1) h)

  reporting-met : (begin l l' : FaultLog) (old mid new : CountedRecord E) (faults : List ExportFault) (met : Option ExportFault) → IsReporting contents Shows exports begin l old mid faults
      → TellsMet contents Shows exports l l' mid new met → IsReporting contents Shows exports begin l' old new (faults ++ found_faults met)
  reporting-met begin l l' old mid new faults None h t = subst (IsReporting contents Shows exports begin l' old new) (sym (append-nil faults)) (reporting-same begin l l' old mid new faults h t)
  reporting-met begin l l' old mid new faults (Some fault) h t = reporting-next begin l l' old mid new faults fault h t

  -- a further message
  pub reporting-more : (begin l l' : FaultLog) (old mid new : CountedRecord E) (phase next : Phase) (w w' : World) (log log' : SessionLog) (before after : Streams) (t : EndsTurn exports phase w w' log log' before after (Ok (Some next)))
      → TellsMet contents Shows exports l l' mid new (served_fault phase next log') → (faults : List ExportFault) → IsReporting contents Shows exports begin l old mid faults
      → IsReporting contents Shows exports begin l' old new (faults ++ message_faults exports phase w t.taken t.written next w' t.holds.0)
  reporting-more begin l l' old mid new phase next w w' log log' before after t told faults h =
      let is = ap (λ (x : SessionLog). found_faults (served_fault phase next x)) t.holds.1 ∙ sym (message-met exports phase w t.taken t.written next w' t.holds.0 log) in
      subst (λ (f : List ExportFault). IsReporting contents Shows exports begin l' old new (faults ++ f)) is (reporting-met begin l l' old mid new faults (served_fault phase next log') h told)

  -- and the last line
  pub reported-all : (priorities : Bool) (l : FaultLog) (old mid new : CountedRecord E) (faults : List ExportFault) → IsReporting contents Shows exports (new_log priorities) l old mid faults
      → IsPrinted contents mid new (last_line l) → IsReported contents Shows priorities exports old new faults
  reported-all priorities l old mid new faults h last = record {
    met = h.met;
    faults_are = h.faults_are;
    shown = h.shown;
    printed = subst (λ (x : FaultLog). IsPrinted contents old new (lines_of exports (new_log priorities) h.met ++ last_line x)) h.now_is
        (printed-both contents old mid new (lines_of exports (new_log priorities) h.met) (last_line l) h.printed last);
  }
