-- How the command ends.
use Rattle.std.proofs.Common.{◌≡◌, ◌-◌, ℕ, Bool, true, false, List, [], ◌∷◌, ◌++◌, Option, Result, Ok, Err, inl, refl, ap, ap₂, sym, subst, ◌∙◌, append-nil, append_assoc}
use Rattle.std.proofs.KnownBytes.{Appends-nil, Appends-trans}
use Rattle.std.specs.Io.KnownBytes.{Appends}
use Rattle.std.specs.Prelude.{IfErr, IsErrAnd}
use Rattle.allocation.specs.Refusal.{IsOutOfMemory}
use Rattle.block_device.specs.Call.{Call, Calls, DeviceDoes}
use Rattle.block_device.specs.Device.{Device}
use Rattle.program_io.specs.Counted.{CountedRecord}
use Rattle.stack_recovery.specs.declared.recovery.Counts.{Counts}
use Rattle.stack_recovery.specs.Listings.{listed}
use Rattle.scan_commands.specs.declared.pass_counts.PassCounts.{PassCounts}
use Rattle.scan_commands.specs.CountedPasses.{unrestored}
use Rattle.scan_commands.specs.Counting.{IsCountsEnd, counts_text, has_missing}
use Rattle.scan_commands.specs.declared.recovering_fault.RecoveringFault.{RecoveringFault}
use Rattle.scan_commands.specs.declared.recovering_fault.RecoveringFault.TheVariants.{Lost, LostAsSaid, NoMemory, OutputTooSmall, Pass, Stack, Write}
use Rattle.find_commands.specs.declared.finding.Finding.{Finding}
use Rattle.find_commands.specs.declared.listing.KeptFindings.{KeptFindings}
use Rattle.find_commands.specs.declared.listing.ListFault.{ListFault}
use Rattle.find_commands.specs.declared.listing.ListFault.TheVariants as list_fault
use Rattle.find_commands.specs.Areas.{StatesLine}
use Rattle.find_commands.specs.Commands.{FindsThings, IsFoundLinesEnd, IsFoundObjectEnd, LosesSome, Printing, PrintsFound, PrintsObject, PrintsWhole, SeenDoes, found_lines_text, list_end, printing, found_whole_text}
use Rattle.find_commands.specs.Findings.{findings_in}
use Rattle.find_commands.specs.Lines.{finding_line, found_lines}
use Rattle.find_commands.specs.Searches.{Receives, Searches, SearchSides, read_counts, shown}

-- what holds of a fault holds of the result that hands it on
pub err-from : {T E : Type 0} (r : Result T E) (P : E → Type 0) (fault : E) → IsErrAnd r (λ e. e ≡ fault) → P fault → IfErr r P
err-from (Ok done) P fault is holds = tt
err-from (Err e) P fault is holds = subst P (sym is) holds

-- ---- what receivers hold

-- a receiver of lines: its contents grow by the line of each finding
abbrev pub TellsLine : {W : Type 0} → (W → Option (List ℕ)) → CountedRecord W → Finding → CountedRecord W → Type 0
TellsLine contents old f new = Appends (contents old.inner) (contents new.inner) (finding_line f)

-- a list in memory: it grows by each finding
abbrev pub KeepsFinding : KeptFindings → Finding → KeptFindings → Type 0
KeepsFinding old f new = new.findings.items ≡ old.findings.items ++ f ∷ []

writes-lines : {W : Type 0} (contents : W → Option (List ℕ)) (old new : CountedRecord W) (found : List Finding) → Receives (TellsLine contents) old found new → Appends (contents old.inner) (contents new.inner) (found_lines found)
writes-lines {W} contents old new [] same = subst (λ (w : CountedRecord W). Appends (contents old.inner) (contents w.inner) []) (sym same) (Appends-nil (contents old.inner))
writes-lines contents old new (f ∷ more) h =
    Appends-trans (contents old.inner) (contents h.0.inner) (contents new.inner) (finding_line f) (found_lines more) h.1 (writes-lines contents h.0 new more h.2)

keeps-all : (old new : KeptFindings) (found : List Finding) → Receives KeepsFinding old found new → new.findings.items ≡ old.findings.items ++ found
keeps-all old new [] same = ap (λ (k : KeptFindings). k.findings.items) same ∙ sym (append-nil old.findings.items)
keeps-all old new (f ∷ more) h = keeps-all h.0 new more h.2 ∙ ap (λ (l : List Finding). l ++ more) h.1 ∙ append_assoc old.findings.items (f ∷ []) more

-- ---- what was found

calls-seen : {D : Type 0} (state : D → Device) (does : D → Call → D → Type 0) (old new : D) (calls : List Call) → Calls (DeviceDoes state does) old calls new → Calls (SeenDoes state) old calls new
calls-seen state does old new [] same = same
calls-seen state does old new (call ∷ more) h = (h.0, h.1.0, calls-seen state does h.0 new more h.2)

-- the counts of a whole search
counts-are : {D L : Type 0} (Does : D → Call → D → Type 0) (receives : L → Finding → L → Type 0) (old new : SearchSides D L) (size : ℕ) (counts : Counts) (s : Searches Does receives old new size counts) → counts ≡ read_counts (shown s.calls)
counts-are Does receives old new size counts s =
    ap₂ {C = Counts} (λ (r l : ℕ). record { read = r; lost = l; untried = counts.untried }) (s.counted ∙ ap₂ {C = ℕ} (λ (m k : ℕ). m - k) (sym s.known) (sym s.lost_are)) (sym s.lost_are)
    ∙ ap (λ (t : ℕ). record (read_counts (shown s.calls)) { untried = t }) s.tried

-- these things were found if the receiver holds them
finds-of : {D L : Type 0} (state : D → Device) (does : D → Call → D → Type 0) (receives : L → Finding → L → Type 0) (old new : SearchSides D L) (counts : Counts)
    (s : Searches (DeviceDoes state does) receives old new (state old.device).size counts) (found : List Finding) → found ≡ findings_in (shown s.calls) → FindsThings state old.device new.device found counts
finds-of state does receives old new counts s found are = record {
  calls = s.calls;
  made = calls-seen state does old.device new.device s.calls s.made;
  order = s.order;
  whole = s.known;
  found_are = are;
  counted = counts-are (DeviceDoes state does) receives old new (state old.device).size counts s;
}

-- lines were printed
pub prints-lines : {D W : Type 0} (state : D → Device) (does : D → Call → D → Type 0) (contents : W → Option (List ℕ)) (old new : SearchSides D (CountedRecord W)) (counts : Counts)
    → Searches (DeviceDoes state does) (TellsLine contents) old new (state old.device).size counts → PrintsFound state found_lines_text (printing old.device new.device (contents old.list.inner) (contents new.list.inner)) counts
prints-lines state does contents old new counts s = record {
  found = findings_in (shown s.calls);
  finds = finds-of state does (TellsLine contents) old new counts s (findings_in (shown s.calls)) refl;
  text_is = writes-lines contents old.list new.list (findings_in (shown s.calls)) s.received;
}

-- and then the counts
pub prints-counts : {D : Type 0} (state : D → Device) (device device' : D) (old mid new : Option (List ℕ)) (counts : Counts) → has_missing counts ≡ false → (p : PrintsFound state found_lines_text (printing device device' old mid) counts)
    → Appends mid new (counts_text (unrestored counts)) → PrintsWhole state found_whole_text (printing device device' old new)
prints-counts state device device' old mid new counts none p printed =
    (counts, none, record { found = p.found; finds = p.finds; text_is = Appends-trans old mid new (found_lines p.found) (counts_text (unrestored counts)) p.text_is printed })

-- sectors are lost, or a line can't be written
pub lines-lossy : {D : Type 0} (state : D → Device) (device device' : D) (old mid new : Option (List ℕ)) (counts : Counts) (mid_failed failed : Bool) (fault : RecoveringFault) → PrintsFound state found_lines_text (printing device device' old mid) counts
    → IsCountsEnd (unrestored counts) (listed mid mid_failed) new failed fault → IsFoundLinesEnd state (printing device device' old new) failed fault
lines-lossy state device device' old mid new counts mid_failed failed (Lost of) p e = subst (λ (c : PassCounts). LosesSome state (printing device device' old new) c.sectors × (c ≡ unrestored c.sectors)) (sym e.0) (
  record {
    some = e.1;
    prints = record { found = p.found; finds = p.finds; text_is = subst (λ (x : Option (List ℕ)). Appends old x (found_lines p.found)) (sym e.2) p.text_is };
  },
  refl,
)
lines-lossy state device device' old mid new counts mid_failed failed Write p e = e
lines-lossy state device device' old mid new counts mid_failed failed NoMemory p e = absurd e
lines-lossy state device device' old mid new counts mid_failed failed (Stack fault) p e = absurd e
lines-lossy state device device' old mid new counts mid_failed failed (OutputTooSmall needed) p e = absurd e
lines-lossy state device device' old mid new counts mid_failed failed (Pass fault) p e = absurd e
lines-lossy state device device' old mid new counts mid_failed failed LostAsSaid p e = absurd e

-- ---- a finding that isn't received

pub lines-stopped : {D : Type 0} (state : D → Device) (o : Printing D) (failed : Bool) (fault : ListFault) (end : RecoveringFault) → end ≡ list_end fault → (fault ≡ list_fault.Write) × (failed ≡ true) → IsFoundLinesEnd state o failed end
lines-stopped state o failed fault end is h = subst (λ (e : RecoveringFault). IsFoundLinesEnd state o failed e) (sym (is ∙ ap list_end h.0)) h.1

pub object-stopped : {D : Type 0} (state : D → Device) (device device' : D) (text : Option (List ℕ)) (failed : Bool) (fault : ListFault) (end : RecoveringFault) → end ≡ list_end fault → (fault ≡ list_fault.NoMemory) × IsOutOfMemory 1
    → IsFoundObjectEnd state (printing device device' text text) failed end
object-stopped state device device' text failed fault end is h =
    subst (λ (e : RecoveringFault). IsFoundObjectEnd state (printing device device' text text) failed e) (sym (is ∙ ap list_end h.0)) (record { quiet = refl; cause = inl h.1 })

-- ---- findings in memory

pub kept-found : {D : Type 0} (state : D → Device) (does : D → Call → D → Type 0) (old new : SearchSides D KeptFindings) (counts : Counts) → old.list.findings.items ≡ []
    → Searches (DeviceDoes state does) KeepsFinding old new (state old.device).size counts → FindsThings state old.device new.device new.list.findings.items counts
kept-found state does old new counts none s =
    finds-of state does KeepsFinding old new counts s new.list.findings.items
    (keeps-all old.list new.list (findings_in (shown s.calls)) s.received ∙ ap (λ (l : List Finding). l ++ findings_in (shown s.calls)) none)

-- the object was printed
pub prints-object : {D : Type 0} (state : D → Device) (device searched device' : D) (old new : Option (List ℕ)) (found listed : List Finding) (counts : Counts) (line text : List ℕ) → FindsThings state device searched found counts
    → listed ≡ found → StatesLine state searched listed device' counts line → text ≡ line → Appends old new text → PrintsObject state (printing device device' old new) counts
prints-object state device searched device' old new found listed counts line text finds same states is printed = record {
  searched = searched;
  found = found;
  shown = states.shown;
  finds = finds;
  are = states.are ∙ same;
  segments = states.finds;
  text_is = subst (λ (t : List ℕ). Appends old new t) (is ∙ states.line_is) printed;
}
