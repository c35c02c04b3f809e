-- An export: a mapped device as a range of bytes.
use Rattle.std.specs.Prelude.{◌≡◌, ◌⊎◌, ◌<◌, nat_lt, ◌≤◌, ◌&&◌, ◌==◌, not, ℕ, ◌+◌, ◌*◌, ◌^◌, All, Bool, false, true, List, [], get_or, length, map, position, Option, Some, None, if◌then◌else◌}
use Rattle.std.specs.List.{list_any}
use Rattle.std.specs.Str.{bytes_eq}
use Rattle.dm_table.specs.declared.table.Line.{Line}
use Rattle.dm_table.specs.declared.table.Target.{Target}
use Rattle.dm_table.specs.declared.table.Target.TheVariants as target
use Rattle.stack_rules.specs.Names.{device_named, lines_of, mapped, may_write, size}
use Rattle.stack_rules.specs.Records.{Configuration, LeafRecord}
use Rattle.nbd_protocol.specs.declared.export.Export.{Export}

-- its name, its index among the devices, its size in bytes, whether it is writable, whether several sessions can open its
-- backing devices at the same time, and whether all of its lines are `verity` lines
pub record ExportRecord : Type 0 where
  pub name : List ℕ
  pub device : ℕ
  pub size : ℕ
  pub writable : Bool
  pub shared : Bool
  pub verity : Bool

abbrev pub export_record : Export → ExportRecord
export_record e = record { name = e.name.now; device = e.device.0; size = e.size; writable = e.writable; shared = e.shared; verity = e.verity }

-- a backing device is writable, so that a session locks it
abbrev pub has_writable : List LeafRecord → Bool
has_writable leaves = list_any (λ l. l.writable) leaves

-- a target of another type than `verity`
abbrev pub is_other_target : Target → Bool
is_other_target (target.Verity verity) = false
is_other_target other = true

abbrev pub is_other : Line → Bool
is_other line = is_other_target line.target

-- a line has another target
abbrev pub has_other : List Line → Bool
has_other lines = list_any is_other lines

-- the longest string in bytes that the protocol allows
abbrev pub most_name : ℕ
most_name = 4096

-- It is the device of that name in the configuration, and writable if the device is. Its size fits in 64 bits, and its name in
-- a string of the protocol.
pub record IsExport (c : Configuration) (e : ExportRecord) : Type 0 where
  pub found : device_named c e.name ≡ Some e.device
  pub size : e.size ≡ 512 * size c (mapped e.device)
  pub writable : e.writable ≡ may_write c (mapped e.device)
  pub shared : e.shared ≡ not (has_writable c.leaves)
  pub verity : e.verity ≡ not (has_other (lines_of c e.device))
  pub fits : e.size < 2 ^ 64
  pub short : length e.name ≤ most_name

-- no device has that name, or its name or its size doesn't fit in the protocol
abbrev pub HasNoExport : Configuration → List ℕ → Type 0
HasNoExport c name =
    (device_named c name ≡ None) ⊎ ((most_name < length name) ⊎ ((d : ℕ) × (device_named c name ≡ Some d) × (2 ^ 64 ≤ 512 * size c (mapped d))))

-- ---- the exports of a service, in the order of LIST

-- the value past the last export
abbrev pub no_export : ExportRecord
no_export = record { name = []; device = 0; size = 0; writable = false; shared = false; verity = false }

abbrev pub export_at : List ExportRecord → ℕ → ExportRecord
export_at es place = get_or es place no_export

-- the index of the first export with that name
abbrev pub export_place : List ExportRecord → List ℕ → Option ℕ
export_place es name = position (λ e. bytes_eq e.name name) es

-- the index of the export that a client requests by name; the empty name means the first one
unfoldable pub asked : List ExportRecord → List ℕ → Option ℕ
asked es name = if (length name == 0) && nat_lt 0 (length es) then Some 0 else export_place es name

abbrev pub export_records : List Export → List ExportRecord
export_records exports = map export_record exports

-- each is the device of its name
abbrev pub AreExports : Configuration → List Export → Type 0
AreExports c exports = All (λ e. IsExport c (export_record e)) exports

-- the name fits in a string of the protocol
abbrev pub HasShortName : ExportRecord → Type 0
HasShortName e = length e.name ≤ most_name

abbrev pub HaveShortNames : List Export → Type 0
HaveShortNames exports = All (λ e. HasShortName (export_record e)) exports

-- ---- the transmission flags

abbrev pub has_flags : ℕ
has_flags = 1

abbrev pub read_only : ℕ
read_only = 2

abbrev pub send_flush : ℕ
send_flush = 4

abbrev pub send_fua : ℕ
send_fua = 8

abbrev pub send_trim : ℕ
send_trim = 32

abbrev pub send_write_zeroes : ℕ
send_write_zeroes = 64

abbrev pub send_df : ℕ
send_df = 128

abbrev pub can_multi_conn : ℕ
can_multi_conn = 256

abbrev pub send_cache : ℕ
send_cache = 1024

abbrev pub send_fast_zero : ℕ
send_fast_zero = 2048

-- the flags of every export
abbrev pub flags_of_each : ℕ
flags_of_each = has_flags + send_flush + send_fua + send_cache

-- the client may request one chunk if it agreed on structured replies
abbrev pub flag_of_chunks : Bool → ℕ
flag_of_chunks structured = if structured then send_df else 0

-- Several connections see the same bytes if none of them writes, and can be served if no session locks a backing device.
abbrev pub flag_of_connections : Bool → ℕ
flag_of_connections shared = if shared then can_multi_conn else 0

-- the flags of an export
abbrev pub transmission_flags : ExportRecord → Bool → ℕ
transmission_flags e structured = flags_of_each + (if e.writable then send_trim + send_write_zeroes + send_fast_zero else read_only + flag_of_connections e.shared) + flag_of_chunks structured
