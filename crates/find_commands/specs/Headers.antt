-- LUKS2 headers, whose checksums are computed while their sectors are read (LUKS2 On-Disk Format Specification 1.1.4, 2.1).
use Rattle.std.specs.Prelude.{◌≡◌, ℕ, ◌-◌, ◌/◌, ◌==◌, Bool, true, false, List, [], ◌∷◌, ◌++◌, codes, replicate, slice_range, Option, Some, None, if◌then◌else◌}
use Rattle.std.specs.Str.{bytes_eq}
use Rattle.sha2.specs.Hashers.{Holds256}
use Rattle.sha2.specs.Sha256.{sha256}
use Rattle.find_commands.specs.declared.checksum.Checksum.{Checksum}
use Rattle.find_commands.specs.declared.checksum.Checksum.TheVariants.{Valid, Wrong, Unchecked}
use Rattle.find_commands.specs.declared.finding.Finding.{Finding}
use Rattle.find_commands.specs.declared.header.OpenHeader.{OpenHeader}
use Rattle.find_commands.specs.Luks.{is_header_size, stated_size}

-- The checksum (csum) is that of the whole header with zeros in the place of its own 64 bytes, of which SHA-256 fills the first 32.
abbrev pub without_checksum : List ℕ → List ℕ
without_checksum sector = slice_range sector 0 448 ++ replicate 64 0

abbrev pub stated_checksum : List ℕ → List ℕ
stated_checksum sector = slice_range sector 448 480

-- its algorithm (csum_alg), a text that ends before a zero
abbrev pub sha256_name : List ℕ
sha256_name = codes "sha256" ++ 0 ∷ []

abbrev pub is_sha256 : List ℕ → Bool
is_sha256 sector = bytes_eq (slice_range sector 72 79) sha256_name

-- what the checksum of a header of these bytes shows
abbrev pub computed : List ℕ → List ℕ → Checksum
computed message stated = if bytes_eq (sha256 message) stated then Valid else Wrong

abbrev pub judged : Checksum → Finding → Finding
judged checksum f = record f { checksum = Some checksum }

-- ---- a header whose sectors are being read

-- what it shows, its checksum, its bytes so far, and how many sectors are left
pub record Header : Type 0 where
  pub finding : Finding
  pub stated : List ℕ
  pub message : List ℕ
  pub left : ℕ

-- after its first sector, and after another one
abbrev pub begun : Finding → List ℕ → Header
begun f sector = record { finding = f; stated = stated_checksum sector; message = without_checksum sector; left = stated_size f.size / 512 - 1 }

abbrev pub grown : Header → List ℕ → Header
grown h sector = record { finding = h.finding; stated = h.stated; message = h.message ++ sector; left = h.left - 1 }

-- if all its sectors were read, it is reported; otherwise it stays open
abbrev pub whole_report : Header → List Finding
whole_report h = if h.left == 0 then judged (computed h.message h.stated) h.finding ∷ [] else []

abbrev pub whole_open : Header → Option Header
whole_open h = if h.left == 0 then None else Some h

-- ---- if one is open

-- it ends early
abbrev pub interrupted : Checksum → Option Header → List Finding
interrupted checksum None = []
interrupted checksum (Some h) = judged checksum h.finding ∷ []

-- its next sector is this one
abbrev pub grown_report : Option Header → List ℕ → List Finding
grown_report None sector = []
grown_report (Some h) sector = whole_report (grown h sector)

abbrev pub grown_open : Option Header → List ℕ → Option Header
grown_open None sector = None
grown_open (Some h) sector = whole_open (grown h sector)

-- ---- the first sector of one

-- A header of a size that there is, and with SHA-256, is open then; another one is reported at once.
abbrev pub begun_report : Finding → List ℕ → List Finding
begun_report f sector = if is_header_size (stated_size f.size) then (if is_sha256 sector then [] else judged Unchecked f ∷ []) else judged Wrong f ∷ []

abbrev pub begun_open : Finding → List ℕ → Option Header
begun_open f sector = if is_header_size (stated_size f.size) then (if is_sha256 sector then Some (begun f sector) else None) else None

-- ---- the header as the program has it

pub record IsHeader (o : OpenHeader) (h : Header) : Type 0 where
  pub finding : o.finding ≡ h.finding
  pub stated : o.stated ≡ h.stated
  pub message : Holds256 o.message h.message
  pub left : o.left ≡ h.left

abbrev pub IsOpen : Option OpenHeader → Option Header → Type 0
IsOpen None None = Unit {0}
IsOpen (Some o) (Some h) = IsHeader o h
IsOpen o h = ⊥
