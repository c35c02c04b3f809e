-- A service with another report of the same faults.
use Rattle.std.proofs.Common.{List, ℕ, inl, inr, Result}
use Rattle.nbd_protocol.specs.Exports.{ExportRecord}
use Rattle.nbd_protocol.specs.declared.fault.ServiceFault.{ServiceFault}
use Rattle.nbd_server.specs.Service.{IsHeld, IsService, IsServiceDone}
use Rattle.nbd_server.specs.declared.known_faults.ExportFault.{ExportFault}
use Rattle.nbd_server.specs.declared.session_end.SessionEnd.{SessionEnd}
use Rattle.nbd_server.specs.declared.session_log.SessionLog.{SessionLog}
use Rattle.program_io.specs.Streams.{Streams}
use Rattle.request_queue.specs.World.{World}

module _ (es : List ExportRecord) (first last : World) (old new : Streams) (log : SessionLog) (Reports Reports' : List ExportFault → Type 0) (result : Result SessionEnd ServiceFault) (implies : (faults : List ExportFault) → Reports faults → Reports' faults) where
  held-as : (taken written : List ℕ) → IsHeld es first last new.input log Reports result taken written → IsHeld es first last new.input log Reports' result taken written
  held-as taken written h = record {
    phase = h.phase;
    whole = h.whole;
    replies = h.replies;
    rest = h.rest;
    talk = h.talk;
    logged_is = h.logged_is;
    reported = implies _ h.reported;
    taken_is = h.taken_is;
    written_is = h.written_is;
    ends = h.ends;
  }

  done-as : IsServiceDone es first last old.input new.input log Reports → IsServiceDone es first last old.input new.input log Reports'
  done-as d = record {
    phase = d.phase;
    whole = d.whole;
    replies = d.replies;
    mid = d.mid;
    rest = d.rest;
    consumed = d.consumed;
    talk = d.talk;
    ends = elim d.ends [ inl e ↦ inl (e.0, e.1, e.2, implies _ e.3) | inr e ↦ inr (e.0, e.1, implies _ e.2) ];
  }

  pub service-as : IsService es first last old new log Reports result → IsService es first last old new log Reports' result
  service-as s = record {
    held = λ other. let h = s.held other in record { taken = h.taken; written = h.written; consumed = h.consumed; appended = h.appended; holds = held-as h.taken h.written h.holds };
    done = λ is. done-as (s.done is);
    led = s.led;
  }
