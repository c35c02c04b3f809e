-- A search, call by call.
use Rattle.std.proofs.Common.{◌≡◌, ℕ, zero, suc, ◌+◌, ◌-◌, ◌*◌, ◌/◌, ◌==◌, Bool, true, false, List, [], ◌∷◌, ◌++◌, length, map, replicate, Option, Some, None, if◌then◌else◌, refl, ap, sym, subst, subst₂, ◌∙◌, append_assoc, append-nil, arith, length-append}
use Rattle.std.proofs.lemmas.List.{length-map, length-replicate}
use Rattle.std.proofs.lemmas.List.Concat.{flat_map-append}
use Rattle.block_device.specs.Call.{Call, Read, Sync, Write}
use Rattle.block_device.specs.Device.{sectors_of}
use Rattle.block_device.specs.Whole.{length-sectors_of}
use Rattle.block_device.proofs.lemmas.CallLemmas.{calls-last}
use Rattle.stack_recovery.specs.declared.recovery.Counts.{Counts}
use Rattle.find_commands.specs.declared.finding.Finding.{Finding}
use Rattle.find_commands.specs.declared.listing.ListFault.{ListFault}
use Rattle.find_commands.specs.declared.checksum.Checksum.TheVariants.{Unchecked}
use Rattle.find_commands.specs.declared.header.OpenHeader.{OpenHeader}
use Rattle.find_commands.specs.Findings.{ReadState, open_from, reports_from, sector_open, sector_report}
use Rattle.find_commands.specs.Headers.{Header, IsOpen, interrupted}
use Rattle.find_commands.specs.Searches.{AreInOrder, IsSearch, Receives, ReportsAfter, SearchSides, Searches, StopsSearch, lost_by, lost_open, lost_report, lost_states, shown, shown_by, search_sides, states_read}

-- ---- what was received

pub receives-append : {L : Type 0} (receives : L → Finding → L → Type 0) (a b c : L) (findings others : List Finding) → Receives receives a findings b → Receives receives b others c → Receives receives a (findings ++ others) c
receives-append receives a b c [] others same h = subst (λ x. Receives receives x others c) same h
receives-append receives a b c (f ∷ more) others h last = (h.0, h.1, receives-append receives h.0 b c more others h.2 last)

-- ---- states of sectors

open-append : (h : Option Header) (at : ℕ) (xs ys : List ReadState) → open_from h at (xs ++ ys) ≡ open_from (open_from h at xs) (at + length xs) ys
open-append h at [] ys = let same : at ≡ at + 0 = omega arith in ap (λ (k : ℕ). open_from h k ys) same
open-append h at (s ∷ xs) ys =
    let next : (at + 1) + length xs ≡ at + suc (length xs) = omega arith in
    open-append (sector_open h at s) (at + 1) xs ys ∙ ap (λ (k : ℕ). open_from (open_from (sector_open h at s) (at + 1) xs) k ys) next

reports-append : (h : Option Header) (at : ℕ) (xs ys : List ReadState) → reports_from h at (xs ++ ys) ≡ reports_from h at xs ++ reports_from (open_from h at xs) (at + length xs) ys
reports-append h at [] ys = let same : at ≡ at + 0 = omega arith in ap (λ (k : ℕ). reports_from h k ys) same
reports-append h at (s ∷ xs) ys =
    let next : (at + 1) + length xs ≡ at + suc (length xs) = omega arith in
    let rest : Option Header = sector_open h at s in
    ap (λ (l : List Finding). sector_report h at s ++ l) (reports-append rest (at + 1) xs ys ∙ ap (λ (k : ℕ). reports_from rest (at + 1) xs ++ reports_from (open_from rest (at + 1) xs) k ys) next)
    ∙ sym (append_assoc (sector_report h at s) (reports_from rest (at + 1) xs) (reports_from (open_from rest (at + 1) xs) (at + suc (length xs)) ys))

-- a failed read of n sectors
lost-reports : (h : Option Header) (at : ℕ) (single : Bool) → reports_from h at (replicate (if single then 1 else 0) None) ≡ (if single then interrupted Unchecked h else [])
lost-reports h at true = append-nil (interrupted Unchecked h)
lost-reports h at false = refl

lost-opens : (h : Option Header) (at : ℕ) (single : Bool) → open_from h at (replicate (if single then 1 else 0) None) ≡ (if single then None else h)
lost-opens h at true = refl
lost-opens h at false = refl

lost-append : (xs ys : List ReadState) → lost_states (xs ++ ys) ≡ lost_states xs + lost_states ys
lost-append [] ys = omega arith
lost-append (Some s ∷ xs) ys = lost-append xs ys
lost-append (None ∷ xs) ys = omega (arith, lost-append xs ys)

lost-nones : (n : ℕ) → lost_states (replicate n None) ≡ n
lost-nones zero = refl
lost-nones (suc n) = omega (arith, lost-nones n)

none-lost : (sectors : List (List ℕ)) → lost_states (map (λ s. Some s) sectors) ≡ 0
none-lost [] = refl
none-lost (s ∷ more) = none-lost more

length-read : (bytes : List ℕ) (n : ℕ) → length bytes ≡ n * 512 → length (states_read bytes) ≡ n
length-read bytes n e = length-map (sectors_of (length bytes / 512) bytes) (λ s. Some s) ∙ length-sectors_of (length bytes / 512) bytes ∙ omega (arith, e)

-- ---- calls

shown-last : (calls : List Call) (call : Call) → shown (calls ++ call ∷ []) ≡ shown calls ++ shown_by call
shown-last calls call = flat_map-append shown_by calls (call ∷ []) ∙ ap (λ (l : List ReadState). shown calls ++ l) (append-nil (shown_by call))

order-last : (from : ℕ) (calls : List Call) (at : ℕ) (bytes : List ℕ) (ok : Bool) → AreInOrder from calls → at ≡ from + length (shown calls) → AreInOrder from (calls ++ Read at bytes ok ∷ [])
order-last from [] at bytes ok h e = let same : at ≡ from = omega (arith, e) in (same, tt)
order-last from (Read first b o ∷ more) at bytes ok h e =
    (h.0, order-last (from + length (shown_by (Read first b o))) more at bytes ok h.1 (omega (arith, e, length-append (shown_by (Read first b o)) (shown more))))
order-last from (Write first b o ∷ more) at bytes ok h e = absurd h
order-last from (Sync o ∷ more) at bytes ok h e = absurd h

-- ---- the search

pub search-none : {D L : Type 0} (Does : D → Call → D → Type 0) (receives : L → Finding → L → Type 0) (old : SearchSides D L) → IsSearch Does receives old old 0 0 None
search-none Does receives old = record { calls = []; made = refl; order = tt; known = refl; lost_are = refl; reported = (refl, tt) }

-- one more read
search-step : {D L : Type 0} (Does : D → Call → D → Type 0) (receives : L → Finding → L → Type 0) (old now : SearchSides D L) (at lost : ℕ) (current : Option OpenHeader) → IsSearch Does receives old now at lost current
    → (bytes : List ℕ) (ok : Bool) (device : D) (list : L) (next : Option OpenHeader) → Does now.device (Read at bytes ok) device
    → ReportsAfter receives now.list list current (λ h. reports_from h at (shown_by (Read at bytes ok))) (λ h. open_from h at (shown_by (Read at bytes ok))) next
    → IsSearch Does receives old (search_sides device list) (at + length (shown_by (Read at bytes ok))) (lost + lost_states (shown_by (Read at bytes ok))) next
search-step Does receives old now at lost current s bytes ok device list next did told =
    let call : Call = Read at bytes ok in
    let more = shown-last s.calls call in
    let here : 0 + length (shown s.calls) ≡ at = omega (arith, s.known) in
    let h : Option Header = open_from None 0 (shown s.calls) in
    let reports = told h s.reported.1 in
    record {
      calls = s.calls ++ call ∷ [];
      made = calls-last Does old.device now.device device s.calls call s.made did;
      order = order-last 0 s.calls at bytes ok s.order (sym here);
      known = ap length more ∙ length-append (shown s.calls) (shown_by call) ∙ ap (λ (n : ℕ). n + length (shown_by call)) s.known;
      lost_are = ap lost_states more ∙ lost-append (shown s.calls) (shown_by call) ∙ ap (λ (n : ℕ). n + lost_states (shown_by call)) s.lost_are;
      reported = (
        subst (λ (l : List Finding). Receives receives old.list l list)
            (sym (ap (reports_from None 0) more ∙ reports-append None 0 (shown s.calls) (shown_by call) ∙ ap (λ (k : ℕ). reports_from None 0 (shown s.calls) ++ reports_from h k (shown_by call)) here))
            (receives-append receives old.list now.list list (reports_from None 0 (shown s.calls)) (reports_from h at (shown_by call)) s.reported.0 reports.0),
        subst (IsOpen next) (sym (ap (open_from None 0) more ∙ open-append None 0 (shown s.calls) (shown_by call) ∙ ap (λ (k : ℕ). open_from h k (shown_by call)) here)) reports.1,
      );
    }

-- a piece was read, and what it shows received
pub search-read : {D L : Type 0} (Does : D → Call → D → Type 0) (receives : L → Finding → L → Type 0) (old now : SearchSides D L) (at lost : ℕ) (current : Option OpenHeader) → IsSearch Does receives old now at lost current
    → (n : ℕ) (bytes : List ℕ) (device : D) (list : L) (next : Option OpenHeader) → length bytes ≡ n * 512 → Does now.device (Read at bytes true) device
    → ReportsAfter receives now.list list current (λ h. reports_from h at (states_read bytes)) (λ h. open_from h at (states_read bytes)) next
    → IsSearch Does receives old (search_sides device list) (at + n) lost next
search-read Does receives old now at lost current s n bytes device list next e did told =
    let none : lost + 0 ≡ lost = omega arith in
    subst₂ (λ (a l : ℕ). IsSearch Does receives old (search_sides device list) a l next) (ap (λ (k : ℕ). at + k) (length-read bytes n e)) (ap (λ (k : ℕ). lost + k) (none-lost (sectors_of (length bytes / 512) bytes)) ∙ none)
    (search-step Does receives old now at lost current s bytes true device list next did told)

-- a piece couldn't be read
pub search-failed : {D L : Type 0} (Does : D → Call → D → Type 0) (receives : L → Finding → L → Type 0) (old now : SearchSides D L) (at lost : ℕ) (current : Option OpenHeader) → IsSearch Does receives old now at lost current
    → (n : ℕ) (bytes : List ℕ) (device : D) (list : L) (next : Option OpenHeader) → length bytes ≡ n * 512 → Does now.device (Read at bytes false) device → ReportsAfter receives now.list list current (lost_report n) (lost_open n) next
    → IsSearch Does receives old (search_sides device list) (at + lost_by n) (lost + lost_by n) next
search-failed Does receives old now at lost current s n bytes device list next e did told =
    let count : length bytes / 512 ≡ n = omega (arith, e) in
    let k : ℕ = lost_by (length bytes / 512) in
    subst₂ (λ (a l : ℕ). IsSearch Does receives old (search_sides device list) a l next)
    (ap (λ (m : ℕ). at + m) (length-replicate {A = ReadState} k None ∙ ap lost_by count))
    (ap (λ (m : ℕ). lost + m) (lost-nones k ∙ ap lost_by count))
    (search-step Does receives old now at lost current s bytes false device list next did (λ h is. let t = told h is in (
      subst (λ (l : List Finding). Receives receives now.list l list) (sym (ap (λ (m : ℕ). reports_from h at (replicate (lost_by m) None)) count ∙ lost-reports h at (n == 1))) t.0,
      subst (IsOpen next) (sym (ap (λ (m : ℕ). open_from h at (replicate (lost_by m) None)) count ∙ lost-opens h at (n == 1))) t.1,
    )))

-- a finding of the last read wasn't received, or one after it
pub search-stops : {D L : Type 0} (Does : D → Call → D → Type 0) (receives : L → Finding → L → Type 0) (refuses : L → ListFault → Type 0) (old now : SearchSides D L) (at lost : ℕ) (current : Option OpenHeader) → IsSearch Does receives old now at lost current
    → (call : Call) (device : D) (list : L) (fault : ListFault) → Does now.device call device → refuses list fault → StopsSearch Does receives refuses old (search_sides device list) fault
search-stops Does receives refuses old now at lost current s call device list fault did refused = record {
  between = now;
  at = at;
  lost = lost;
  current = current;
  last = call ∷ [];
  before = s;
  few = omega arith;
  made = (device, did, refl);
  refused = refused;
}

pub search-stops-last : {D L : Type 0} (Does : D → Call → D → Type 0) (receives : L → Finding → L → Type 0) (refuses : L → ListFault → Type 0) (old now : SearchSides D L) (at lost : ℕ) (current : Option OpenHeader) → IsSearch Does receives old now at lost current
    → (list : L) (fault : ListFault) → refuses list fault → StopsSearch Does receives refuses old (search_sides now.device list) fault
search-stops-last Does receives refuses old now at lost current s list fault refused = record {
  between = now;
  at = at;
  lost = lost;
  current = current;
  last = [];
  before = s;
  few = omega arith;
  made = refl;
  refused = refused;
}

-- all sectors were searched, and a header that was open then is reported
pub search-whole : {D L : Type 0} (Does : D → Call → D → Type 0) (receives : L → Finding → L → Type 0) (old now : SearchSides D L) (size lost : ℕ) (current : Option OpenHeader) (list : L) (counts : Counts) → IsSearch Does receives old now size lost current
    → ((h : Option Header) → IsOpen current h → Receives receives now.list (interrupted Unchecked h) list) → counts ≡ record { read = size - lost; lost = lost; untried = 0 } → Searches Does receives old (search_sides now.device list) size counts
search-whole Does receives old now size lost current list counts s last are = subst (Searches Does receives old (search_sides now.device list) size) (sym are) (record {
  calls = s.calls;
  made = s.made;
  order = s.order;
  known = s.known;
  lost_are = s.lost_are;
  received = receives-append receives old.list now.list list (reports_from None 0 (shown s.calls)) (interrupted Unchecked (open_from None 0 (shown s.calls))) s.reported.0 (last (open_from None 0 (shown s.calls)) s.reported.1);
  counted = refl;
  tried = refl;
})
