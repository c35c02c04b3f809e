-- Findings and the segments of LUKS2 volumes as a JSON object.
use Rattle.std.specs.Prelude.{ℕ, zero, suc, List, [], ◌∷◌, ◌++◌, map, codes, decimal, Option, Some, None, if◌then◌else◌}
use Rattle.std.specs.Str.{bytes_eq}
use Rattle.uuid.specs.Text.{hyphenated_text, lower}
use Rattle.serde_json.specs.Data.{Data, array, null, number, object, string, unsigned, member, no_members}
use Rattle.serde_json.specs.View.{items_of}
use Rattle.stack_recovery.specs.declared.recovery.Counts.{Counts}
use Rattle.find_commands.specs.declared.checksum.Checksum.{Checksum}
use Rattle.find_commands.specs.declared.finding.Finding.{Finding}
use Rattle.find_commands.specs.declared.luks.Extent.{Extent}
use Rattle.find_commands.specs.Kinds.{checksum_name, found_name, opener_name}
use Rattle.find_commands.specs.CryptLines.{crypt_line}
use Rattle.find_commands.specs.Luks.{crypt_in, segment_at}

abbrev pub stated_json : Option ℕ → Data
stated_json (Some n) = number (unsigned n)
stated_json None = null

abbrev pub uuid_json : Option (List ℕ) → Data
uuid_json (Some uuid) = string (hyphenated_text lower uuid)
uuid_json None = null

-- ---- segments

-- the `crypt` line over the volume, if lines have its cipher
abbrev pub line_json : List ℕ → Extent → Data
line_json cipher extent = if bytes_eq cipher (codes "aes-xts-plain64") then string (crypt_line extent) else null

abbrev pub segment_json : ℕ → List ℕ → Extent → Data
segment_json id cipher extent =
    object
    (member (codes "encryption") (string cipher)
    (member (codes "id") (number (unsigned id))
    (member (codes "iv_tweak") (number (unsigned extent.iv_tweak))
    (member (codes "line") (line_json cipher extent)
    (member (codes "offset") (number (unsigned extent.offset))
    (member (codes "sector_size") (number (unsigned extent.sector_size))
    (member (codes "size") (stated_json extent.size)
    no_members)))))))

abbrev pub crypt_items : ℕ → Option (List ℕ × Extent) → List Data
crypt_items id (Some found) = segment_json id found.0 found.1 ∷ []
crypt_items id None = []

abbrev pub segment_items : ℕ → Option Data → List Data
segment_items id (Some segment) = crypt_items id (crypt_in segment)
segment_items id None = []

-- those among the first n segments of type `crypt`
unfoldable pub segments_to : Data → ℕ → List Data
segments_to area zero = []
segments_to area (suc n) = segments_to area n ++ segment_items n (segment_at (decimal n) area)

-- a volume has at most 32 segments, as cryptsetup has it
abbrev pub segments_json : Option Data → Data
segments_json (Some area) = array (items_of (segments_to area 32))
segments_json None = null

-- ---- findings

-- what the checksum of a LUKS2 header shows
abbrev pub checksum_json : Option Checksum → Data
checksum_json (Some checksum) = string (checksum_name checksum)
checksum_json None = null

-- a finding, as its line says, and the segments that it shows
abbrev pub finding_json : Finding → Data → Data
finding_json f segments =
    object
    (member (codes "blocks") (stated_json f.blocks)
    (member (codes "checksum") (checksum_json f.checksum)
    (member (codes "kind") (string (found_name f.kind))
    (member (codes "offset") (number (unsigned f.offset))
    (member (codes "opener") (string (opener_name f.kind))
    (member (codes "segments") segments
    (member (codes "size") (stated_json f.size)
    (member (codes "uuid") (uuid_json f.uuid)
    no_members))))))))

abbrev pub shown_json : Finding × Data → Data
shown_json shown = finding_json shown.0 shown.1

-- what was found, how many sectors are lost, and how many were read
abbrev pub counted_json : Data → Counts → Data
counted_json found counts =
    object
    (member (codes "found") found
    (member (codes "lost") (number (unsigned counts.lost))
    (member (codes "read") (number (unsigned counts.read))
    no_members)))

abbrev pub found_json : List (Finding × Data) → Counts → Data
found_json shown counts = counted_json (array (items_of (map shown_json shown))) counts
