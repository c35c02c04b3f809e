-- A header that was written, read again.
use Rattle.std.proofs.Common.{◌≡◌, ◌⊎◌, ◌∙◌, ◌+◌, ◌*◌, ◌≤◌, ◌<◌, ◌^◌, ◌-◌, ◌==◌, ◌&&◌, ◌||◌, ℕ, Bool, true, false, cond, not, nat_le, nat_lt, List, [], ◌∷◌, ◌++◌, Option, None, Some, ap, arith, inl, inr, length, refl, replicate, sym, take}
use Rattle.std.specs.Prelude.{codes, slice_range}
use Rattle.std.specs.Int.{div_ceil, is_power_of_two}
use Rattle.std.specs.Str.{bytes_eq}
use Rattle.std.proofs.lemmas.Bool.Decides.{nat_tests}
use Rattle.std.proofs.lemmas.List.{take_all}
use Rattle.std.proofs.lemmas.List.Elements.{All-from_recursion}
use Rattle.std.proofs.lemmas.Slice.Eq.{bytes_eq-Decides}
use Rattle.partition_table.specs.declared.sector_size.Disk.{Disk}
use Rattle.partition_table.specs.declared.sector_size.SectorSize.{SectorSize}
use Rattle.partition_table.specs.declared.sector_size.SectorSize.TheVariants.{Bytes4096, Bytes512}
use Rattle.partition_table.specs.declared.table_fault.TableFault.{TableFault}
use Rattle.partition_table.specs.declared.table_fault.TableFault.TheVariants.{EntriesSector, EntryCount, EntrySize, HeaderChecksum, HeaderSector, HeaderSize, Revision, Signature, UsableSectors}
use Rattle.partition_table.specs.Crc.{crc32}
use Rattle.partition_table.specs.Disks.{bytes_of_size}
use Rattle.partition_table.specs.Fields.{number32, number64}
use Rattle.partition_table.specs.Headers.{array_bytes, array_sectors, field_fault, has_count, has_place, has_size, has_usable, header_checksum, header_fault, is_header_size, table_header}
use Rattle.disk_layout.specs.declared.header.TableHeader.{TableHeader}
use Rattle.disk_layout.specs.Ends.{entries_sectors}
use Rattle.disk_layout.specs.Headers.{entries_fields, header_bytes, header_sector, place_fields, start_fields, usable_fields}
use Rattle.disk_layout.specs.Numbers.{bytes32, bytes64, stored_uuid}
use Rattle.disk_layout.specs.Written.{AreBytes, IsField}
use Rattle.disk_layout.proofs.BytesLemmas.{byte-append, bytes32-bytes, bytes64-bytes, number32-back, number64-back, stored-bytes, uuid-back}
use Rattle.disk_layout.proofs.ChecksumLemmas.{crc32-small}
use Rattle.disk_layout.proofs.OrderLemmas.{and-true, le-true, lt-true}

-- a header states numbers of its fields' sizes
pub record IsStated (h : TableHeader) : Type 0 where
  pub own : h.own < 2 ^ 64
  pub other : h.other < 2 ^ 64
  pub last : h.last_usable < 2 ^ 64
  pub id : IsField 16 h.disk_id
  pub sum : h.entries_checksum < 2 ^ 32

-- its sectors are in their places on a disk
pub record IsPlaced (disk : Disk) (h : TableHeader) : Type 0 where
  pub some : h.first_usable ≤ h.last_usable
  pub usable : h.last_usable < disk.sectors
  pub entries : 2 ≤ h.entries
  pub inside : h.entries + entries_sectors disk.size < disk.sectors
  pub few : disk.sectors < 2 ^ 64
  pub apart : (h.entries + entries_sectors disk.size ≤ h.first_usable) ⊎ (h.last_usable < h.entries)

pub length-header : (h : TableHeader) (sum : ℕ) → length (header_bytes h sum) ≡ 92
unfolding header_bytes start_fields place_fields usable_fields entries_fields bytes32 bytes64 stored_uuid
length-header h sum = refl

signature-bytes : AreBytes (codes "EFI PART")
signature-bytes = All-from_recursion (λ b. b < 256) (codes "EFI PART") (omega arith, (omega arith, (omega arith, (omega arith, (omega arith, (omega arith, (omega arith, (omega arith, tt))))))))

start-are_bytes : AreBytes (start_fields 0)
unfolding start_fields
start-are_bytes =
    byte-append (codes "EFI PART") (bytes32 0x10000 ++ (bytes32 92 ++ bytes32 0)) signature-bytes
    (byte-append (bytes32 0x10000) (bytes32 92 ++ bytes32 0) (bytes32-bytes 0x10000) (byte-append (bytes32 92) (bytes32 0) (bytes32-bytes 92) (bytes32-bytes 0)))

places-are_bytes : (h : TableHeader) → AreBytes (place_fields h)
unfolding place_fields
places-are_bytes h =
    byte-append (bytes32 0) (bytes64 h.own ++ (bytes64 h.other ++ bytes64 h.first_usable)) (bytes32-bytes 0)
    (byte-append (bytes64 h.own) (bytes64 h.other ++ bytes64 h.first_usable) (bytes64-bytes h.own) (byte-append (bytes64 h.other) (bytes64 h.first_usable) (bytes64-bytes h.other) (bytes64-bytes h.first_usable)))

usable-are_bytes : (h : TableHeader) → IsStated h → AreBytes (usable_fields h)
unfolding usable_fields
usable-are_bytes h ok =
    byte-append (bytes64 h.last_usable) (stored_uuid h.disk_id ++ (bytes64 h.entries ++ bytes32 128)) (bytes64-bytes h.last_usable)
    (byte-append (stored_uuid h.disk_id) (bytes64 h.entries ++ bytes32 128) (stored-bytes h.disk_id ok.id) (byte-append (bytes64 h.entries) (bytes32 128) (bytes64-bytes h.entries) (bytes32-bytes 128)))

entries-are_bytes : (h : TableHeader) → AreBytes (entries_fields h)
unfolding entries_fields
entries-are_bytes h = byte-append (bytes32 128) (bytes32 h.entries_checksum) (bytes32-bytes 128) (bytes32-bytes h.entries_checksum)

header-are_bytes : (h : TableHeader) → IsStated h → AreBytes (header_bytes h 0)
unfolding header_bytes
header-are_bytes h ok =
    byte-append (start_fields 0) (place_fields h ++ (usable_fields h ++ entries_fields h)) start-are_bytes
    (byte-append (place_fields h) (usable_fields h ++ entries_fields h) (places-are_bytes h) (byte-append (usable_fields h) (entries_fields h) (usable-are_bytes h ok) (entries-are_bytes h)))

-- ---- tests

pub eq-true : (m n : ℕ) → m ≡ n → (m == n) ≡ true
eq-true m n h = grind (arith, nat_tests)

or-true : (a b : Bool) → (a ≡ true) ⊎ (b ≡ true) → (a || b) ≡ true
or-true true b h = refl
or-true false b (inl p) = cc
or-true false b (inr q) = q

passing : (a b c d e : Bool) (o : Option TableFault) → a ≡ true → b ≡ true → c ≡ true → d ≡ true → e ≡ true → o ≡ None
    → cond (not a) (Some Signature) (cond (not b) (Some Revision) (cond (not c) (Some HeaderSize) (cond (not d) (Some HeaderChecksum) (cond (not e) (Some HeaderSector) o)))) ≡ None
passing true true true true true o ha hb hc hd he ho = ho
passing false b c d e o ha hb hc hd he ho = cc
passing true false c d e o ha hb hc hd he ho = cc
passing true true false d e o ha hb hc hd he ho = cc
passing true true true false e o ha hb hc hd he ho = cc
passing true true true true false o ha hb hc hd he ho = cc

fields-pass : (a b c d : Bool) → a ≡ true → b ≡ true → c ≡ true → d ≡ true
    → cond (not a) (Some UsableSectors) (cond (not b) (Some EntrySize) (cond (not c) (Some EntryCount) (cond (not d) (Some EntriesSector) None))) ≡ None
fields-pass true true true true ha hb hc hd = refl
fields-pass false b c d ha hb hc hd = cc
fields-pass true false c d ha hb hc hd = cc
fields-pass true true false d ha hb hc hd = cc
fields-pass true true true false ha hb hc hd = cc

sectors-are : (size : SectorSize) → div_ceil 16384 (bytes_of_size size) ≡ entries_sectors size
sectors-are Bytes512 = refl
sectors-are Bytes4096 = refl

power-true : is_power_of_two 128 ≡ true
unfolding lib.Count.ones
power-true = refl

header_size-true : (size : SectorSize) → is_header_size size 92 ≡ true
header_size-true Bytes512 = refl
header_size-true Bytes4096 = refl

fits : (size : SectorSize) → 92 ≤ bytes_of_size size
fits Bytes512 = omega arith
fits Bytes4096 = omega arith

-- the sector is the fields, and then zeros
pub sector-is : (size : SectorSize) (h : TableHeader) → header_sector size h ≡ header_bytes h (crc32 (header_bytes h 0)) ++ replicate (bytes_of_size size - 92) 0
unfolding header_sector
sector-is size h =
    let text = header_bytes h (crc32 (header_bytes h 0)) in
    ap (λ (l : List ℕ). l ++ replicate (bytes_of_size size - length text) 0) (take_all (bytes_of_size size) text (omega (arith, length-header h (crc32 (header_bytes h 0)), fits size)))
    ∙ ap (λ (k : ℕ). text ++ replicate (bytes_of_size size - k) 0) (length-header h (crc32 (header_bytes h 0)))

-- ---- the fields

module _ (h : TableHeader) (sum : ℕ) (rest : List ℕ) where
  signature-at : slice_range (header_bytes h sum ++ rest) 0 8 ≡ codes "EFI PART"
  unfolding header_bytes start_fields place_fields usable_fields entries_fields bytes32 bytes64 stored_uuid
  signature-at = refl

  revision-at : slice_range (header_bytes h sum ++ rest) 8 12 ≡ bytes32 0x10000
  unfolding header_bytes start_fields place_fields usable_fields entries_fields bytes32 bytes64 stored_uuid
  revision-at = refl

  size-at : slice_range (header_bytes h sum ++ rest) 12 16 ≡ bytes32 92
  unfolding header_bytes start_fields place_fields usable_fields entries_fields bytes32 bytes64 stored_uuid
  size-at = refl

  sum-at : slice_range (header_bytes h sum ++ rest) 16 20 ≡ bytes32 sum
  unfolding header_bytes start_fields place_fields usable_fields entries_fields bytes32 bytes64 stored_uuid
  sum-at = refl

  pub reserved-at : slice_range (header_bytes h sum ++ rest) 20 24 ≡ bytes32 0
  unfolding header_bytes start_fields place_fields usable_fields entries_fields bytes32 bytes64 stored_uuid
  reserved-at = refl

  own-at : slice_range (header_bytes h sum ++ rest) 24 32 ≡ bytes64 h.own
  unfolding header_bytes start_fields place_fields usable_fields entries_fields bytes32 bytes64 stored_uuid
  own-at = refl

  other-at : slice_range (header_bytes h sum ++ rest) 32 40 ≡ bytes64 h.other
  unfolding header_bytes start_fields place_fields usable_fields entries_fields bytes32 bytes64 stored_uuid
  other-at = refl

  first-at : slice_range (header_bytes h sum ++ rest) 40 48 ≡ bytes64 h.first_usable
  unfolding header_bytes start_fields place_fields usable_fields entries_fields bytes32 bytes64 stored_uuid
  first-at = refl

  last-at : slice_range (header_bytes h sum ++ rest) 48 56 ≡ bytes64 h.last_usable
  unfolding header_bytes start_fields place_fields usable_fields entries_fields bytes32 bytes64 stored_uuid
  last-at = refl

  disk-at : slice_range (header_bytes h sum ++ rest) 56 72 ≡ stored_uuid h.disk_id
  unfolding header_bytes start_fields place_fields usable_fields entries_fields bytes32 bytes64 stored_uuid
  disk-at = refl

  entries-at : slice_range (header_bytes h sum ++ rest) 72 80 ≡ bytes64 h.entries
  unfolding header_bytes start_fields place_fields usable_fields entries_fields bytes32 bytes64 stored_uuid
  entries-at = refl

  count-at : slice_range (header_bytes h sum ++ rest) 80 84 ≡ bytes32 128
  unfolding header_bytes start_fields place_fields usable_fields entries_fields bytes32 bytes64 stored_uuid
  count-at = refl

  entry-at : slice_range (header_bytes h sum ++ rest) 84 88 ≡ bytes32 128
  unfolding header_bytes start_fields place_fields usable_fields entries_fields bytes32 bytes64 stored_uuid
  entry-at = refl

  entries_sum-at : slice_range (header_bytes h sum ++ rest) 88 92 ≡ bytes32 h.entries_checksum
  unfolding header_bytes start_fields place_fields usable_fields entries_fields bytes32 bytes64 stored_uuid
  entries_sum-at = refl

  summed-at : take 16 (header_bytes h sum ++ rest) ++ ((0 ∷ 0 ∷ 0 ∷ 0 ∷ []) ++ slice_range (header_bytes h sum ++ rest) 20 92) ≡ header_bytes h 0
  unfolding header_bytes start_fields place_fields usable_fields entries_fields bytes32 bytes64 stored_uuid
  summed-at = refl

module _ (h : TableHeader) (ok : IsStated h) (rest : List ℕ) where
  abbrev sum : ℕ
  sum = crc32 (header_bytes h 0)

  abbrev bytes : List ℕ
  bytes = header_bytes h sum ++ rest

  sum-small : sum < 2 ^ 32
  sum-small = crc32-small (header_bytes h 0) (header-are_bytes h ok)

  pub last-is : (table_header bytes).last_usable ≡ h.last_usable
  unfolding table_header
  last-is = number64-back bytes 48 h.last_usable ok.last (last-at h sum rest)

  pub count-is : (table_header bytes).entry_count ≡ 128
  unfolding table_header
  count-is = number32-back bytes 80 128 (omega arith) (count-at h sum rest)

  pub entry_size-is : (table_header bytes).entry_size ≡ 128
  unfolding table_header
  entry_size-is = number32-back bytes 84 128 (omega arith) (entry-at h sum rest)

  pub checksum-is : (table_header bytes).entries_checksum ≡ h.entries_checksum
  unfolding table_header
  checksum-is = number32-back bytes 88 h.entries_checksum ok.sum (entries_sum-at h sum rest)

  pub alternate-is : (table_header bytes).alternate ≡ h.other
  unfolding table_header
  alternate-is = number64-back bytes 32 h.other ok.other (other-at h sum rest)

  pub id-is : (table_header bytes).disk_id ≡ h.disk_id
  unfolding table_header
  id-is = uuid-back bytes 56 h.disk_id ok.id.0 (disk-at h sum rest)

  first-is : h.first_usable < 2 ^ 64 → (table_header bytes).first_usable ≡ h.first_usable
  unfolding table_header
  first-is small = number64-back bytes 40 h.first_usable small (first-at h sum rest)

  entries-is : h.entries < 2 ^ 64 → (table_header bytes).entries_sector ≡ h.entries
  unfolding table_header
  entries-is small = number64-back bytes 72 h.entries small (entries-at h sum rest)

  pub array_bytes-is : array_bytes (table_header bytes) ≡ 16384
  array_bytes-is = ap (λ (n : ℕ). n * (table_header bytes).entry_size) count-is ∙ ap (λ (n : ℕ). 128 * n) entry_size-is

  pub array_sectors-is : (size : SectorSize) → array_sectors size (table_header bytes) ≡ entries_sectors size
  array_sectors-is size = ap (λ (n : ℕ). div_ceil n (bytes_of_size size)) array_bytes-is ∙ sectors-are size

  module _ (disk : Disk) (placed : IsPlaced disk h) where
    pub first-read : (table_header bytes).first_usable ≡ h.first_usable
    first-read = first-is (omega (arith, placed.some, ok.last))

    pub entries-read : (table_header bytes).entries_sector ≡ h.entries
    entries-read = entries-is (omega (arith, placed.inside, placed.few))

    usable-true : has_usable disk (table_header bytes) ≡ true
    usable-true =
        and-true (nat_le (table_header bytes).first_usable (table_header bytes).last_usable) _ (le-true _ _ (omega (arith, first-read, last-is, placed.some)))
        (or-true (nat_lt (table_header bytes).last_usable disk.sectors) (nat_lt (table_header bytes).last_usable (table_header bytes).alternate) (inl (lt-true _ _ (omega (arith, last-is, placed.usable)))))

    size-true : has_size (table_header bytes) ≡ true
    size-true = ap (λ (n : ℕ). nat_le 128 n && is_power_of_two n) entry_size-is ∙ power-true

    count-true : has_count (table_header bytes) ≡ true
    count-true =
        and-true (nat_lt 0 (table_header bytes).entry_count) (nat_le (array_bytes (table_header bytes)) 0x100000) (lt-true _ _ (omega (arith, count-is))) (le-true _ _ (omega (arith, array_bytes-is)))

    apart-true : (h.entries + entries_sectors disk.size ≤ h.first_usable) ⊎ (h.last_usable < h.entries)
        → (nat_le ((table_header bytes).entries_sector + array_sectors disk.size (table_header bytes)) (table_header bytes).first_usable ≡ true)
        ⊎ (nat_lt (table_header bytes).last_usable (table_header bytes).entries_sector ≡ true)
    apart-true (inl before) = inl (le-true _ _ (omega (arith, entries-read, array_sectors-is disk.size, first-read, before)))
    apart-true (inr after) = inr (lt-true _ _ (omega (arith, entries-read, last-is, after)))

    place-true : has_place disk (table_header bytes) ≡ true
    place-true =
        and-true (nat_le 2 (table_header bytes).entries_sector) _ (le-true _ _ (omega (arith, entries-read, placed.entries)))
        (and-true (nat_lt ((table_header bytes).entries_sector + array_sectors disk.size (table_header bytes)) disk.sectors) _
        (lt-true _ _ (omega (arith, entries-read, array_sectors-is disk.size, placed.inside))) (or-true _ _ (apart-true placed.apart)))

    fields-faultless : field_fault disk (table_header bytes) ≡ None
    fields-faultless = fields-pass (has_usable disk (table_header bytes)) (has_size (table_header bytes)) (has_count (table_header bytes)) (has_place disk (table_header bytes)) usable-true size-true count-true place-true

    pub text-faultless : header_fault disk h.own bytes ≡ None
    unfolding header_fault
    text-faultless =
        let size : number32 bytes 12 ≡ 92 = number32-back bytes 12 92 (omega arith) (size-at h sum rest) in
        let summed : header_checksum bytes (number32 bytes 12) ≡ sum = ap (λ (n : ℕ). header_checksum bytes n) size ∙ ap crc32 (summed-at h sum rest) in
        let stored : number32 bytes 16 ≡ sum = number32-back bytes 16 sum sum-small (sum-at h sum rest) in
        passing (bytes_eq (slice_range bytes 0 8) (codes "EFI PART")) (number32 bytes 8 == 0x10000) (is_header_size disk.size (number32 bytes 12))
        (header_checksum bytes (number32 bytes 12) == number32 bytes 16) (number64 bytes 24 == h.own) (field_fault disk (table_header bytes))
        ((bytes_eq-Decides (slice_range bytes 0 8) (codes "EFI PART")).1 (signature-at h sum rest)) (eq-true _ _ (number32-back bytes 8 0x10000 (omega arith) (revision-at h sum rest)))
        (ap (λ (n : ℕ). is_header_size disk.size n) size ∙ header_size-true disk.size) (eq-true _ _ (summed ∙ sym stored)) (eq-true _ _ (number64-back bytes 24 h.own ok.own (own-at h sum rest)))
        fields-faultless
