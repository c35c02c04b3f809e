-- What sectors show, reported one sector after another.
use Rattle.std.proofs.Common.{◌≡◌, ℕ, zero, suc, ◌+◌, ◌-◌, ◌/◌, ◌<◌, ◌≤◌, List, [], ◌++◌, length, take, drop, map, Option, Some, refl, ap, sym, subst, ◌∙◌, append_assoc, append-nil, arith, length-drop}
use Rattle.block_device.specs.Device.{sectors_of}
use Rattle.find_commands.specs.declared.finding.Finding.{Finding}
use Rattle.find_commands.specs.declared.header.OpenHeader.{OpenHeader}
use Rattle.find_commands.specs.Findings.{ReadState, open_from, reports_from, sector_open, sector_report}
use Rattle.find_commands.specs.Headers.{Header, IsOpen}
use Rattle.find_commands.specs.Searches.{Receives, Reports, states_read}
use Rattle.find_commands.proofs.SearchLemmas.{receives-append}

-- n sectors, which were read
abbrev states : ℕ → List ℕ → List ReadState
states n bytes = map (λ s. Some s) (sectors_of n bytes)

-- what the sectors before sector `number` show was received, and these bytes are the others; a header was open at first, and one is now
pub record IsTelling {L : Type 0} (receives : L → Finding → L → Type 0) (first : ℕ) (bytes : List ℕ) (begun : Option Header) (number : ℕ) (rest : List ℕ) (old new : L) (current : Option OpenHeader) : Type 0 where
  pub done : List Finding
  pub count : ℕ
  pub now : Option Header
  pub size : count ≡ length rest / 512
  pub received : Receives receives old done new
  pub is_open : IsOpen current now
  pub joined : reports_from begun first (states_read bytes) ≡ done ++ reports_from now number (map (λ s. Some s) (sectors_of count rest))
  pub ends : open_from begun first (states_read bytes) ≡ open_from now number (map (λ s. Some s) (sectors_of count rest))

pub telling-none : {L : Type 0} (receives : L → Finding → L → Type 0) (first : ℕ) (bytes : List ℕ) (begun : Option Header) (list : L) (current : Option OpenHeader) → IsOpen current begun → IsTelling receives first bytes begun first bytes list list current
telling-none receives first bytes begun list current is = record { done = []; count = length bytes / 512; now = begun; size = refl; received = refl; is_open = is; joined = refl; ends = refl }

module _ (h : Option Header) (number : ℕ) (rest : List ℕ) where
  reports-split : (count : ℕ) → 0 < count
      → reports_from h number (states count rest) ≡ sector_report h number (Some (take 512 rest)) ++ reports_from (sector_open h number (Some (take 512 rest))) (number + 1) (states (count - 1) (drop 512 rest))
  unfolding sectors_of
  reports-split zero some = let no : ⊥ = omega (arith, some) in absurd no
  reports-split (suc count) some = let same : suc count - 1 ≡ count = omega arith in rw same refl

  open-split : (count : ℕ) → 0 < count
      → open_from h number (states count rest) ≡ open_from (sector_open h number (Some (take 512 rest))) (number + 1) (states (count - 1) (drop 512 rest))
  unfolding sectors_of
  open-split zero some = let no : ⊥ = omega (arith, some) in absurd no
  open-split (suc count) some = let same : suc count - 1 ≡ count = omega arith in rw same refl

-- the next sector
pub telling-more : {L : Type 0} (receives : L → Finding → L → Type 0) (first : ℕ) (bytes : List ℕ) (begun : Option Header) (number : ℕ) (rest : List ℕ) (old mid new : L) (current next : Option OpenHeader)
    → (t : IsTelling receives first bytes begun number rest old mid current) → 512 ≤ length rest
    → Reports receives mid (sector_report t.now number (Some (take 512 rest))) new next (sector_open t.now number (Some (take 512 rest))) → IsTelling receives first bytes begun (number + 1) (drop 512 rest) old new next
telling-more receives first bytes begun number rest old mid new current next t some here =
    let more : 0 < t.count = omega (arith, t.size, some) in
    let one : List Finding = sector_report t.now number (Some (take 512 rest)) in
    let after : Option Header = sector_open t.now number (Some (take 512 rest)) in
    record {
      done = t.done ++ one;
      count = t.count - 1;
      now = after;
      size = omega (arith, length-drop 512 rest, t.size, some);
      received = receives-append receives old mid new t.done one t.received here.0;
      is_open = here.1;
      joined = t.joined ∙ ap (λ (l : List Finding). t.done ++ l) (reports-split t.now number rest t.count more)
          ∙ sym (append_assoc t.done one (reports_from after (number + 1) (states (t.count - 1) (drop 512 rest))));
      ends = t.ends ∙ open-split t.now number rest t.count more;
    }

all-told : {L : Type 0} (receives : L → Finding → L → Type 0) (count number : ℕ) (rest : List ℕ) (old new : L) (current : Option OpenHeader) (now all : Option Header) (done found : List Finding) → count ≡ 0 → Receives receives old done new → IsOpen current now
    → found ≡ done ++ reports_from now number (states count rest) → all ≡ open_from now number (states count rest) → Reports receives old found new current all
unfolding sectors_of
all-told receives zero number rest old new current now all done found none h is e ends = (subst (λ (l : List Finding). Receives receives old l new) (sym (e ∙ append-nil done)) h, subst (IsOpen current) (sym ends) is)
all-told receives (suc count) number rest old new current now all done found none h is e ends = let no : ⊥ = omega (arith, none) in absurd no

-- there is no other whole sector
pub telling-all : {L : Type 0} (receives : L → Finding → L → Type 0) (first : ℕ) (bytes : List ℕ) (begun : Option Header) (number : ℕ) (rest : List ℕ) (old new : L) (current : Option OpenHeader) → IsTelling receives first bytes begun number rest old new current → length rest < 512
    → Reports receives old (reports_from begun first (states_read bytes)) new current (open_from begun first (states_read bytes))
telling-all receives first bytes begun number rest old new current t few =
    all-told receives t.count number rest old new current t.now (open_from begun first (states_read bytes)) t.done (reports_from begun first (states_read bytes)) (omega (arith, t.size, few)) t.received t.is_open t.joined t.ends
