-- A table that was written causes no warning.
use Rattle.std.proofs.Common.{◌≡◌, ◌∙◌, ◌-◌, ◌<◌, ◌==◌, ℕ, zero, suc, Bool, true, false, not, nat_le, List, ◌++◌, ap, arith, length, refl, replicate, take}
use Rattle.std.specs.Prelude.{slice_range}
use Rattle.std.specs.List.{list_all}
use Rattle.std.proofs.lemmas.List.{drop_at, length-append, length-replicate, take_all}
use Rattle.partition_table.specs.declared.mbr.Mbr.TheVariants.{Protective}
use Rattle.partition_table.specs.declared.sector_size.Disk.{Disk}
use Rattle.partition_table.specs.declared.sector_size.SectorSize.{SectorSize}
use Rattle.partition_table.specs.declared.sector_size.SectorSize.TheVariants.{Bytes4096, Bytes512}
use Rattle.partition_table.specs.Crc.{crc32}
use Rattle.partition_table.specs.Disks.{bytes_of_size}
use Rattle.partition_table.specs.Fields.{number32}
use Rattle.partition_table.specs.Headers.{is_clear, table_header}
use Rattle.partition_table.specs.Mbrs.{has_protective, has_records, is_protective, is_record_used, is_zero, mbr_of}
use Rattle.partition_table.specs.Tables.{copy_warnings, no_warnings}
use Rattle.disk_layout.specs.declared.header.TableHeader.{TableHeader}
use Rattle.disk_layout.specs.Headers.{header_bytes, header_sector}
use Rattle.disk_layout.specs.Mbrs.{mbr_bytes, mbr_sector, protected_sectors, protective_record}
use Rattle.disk_layout.specs.Numbers.{bytes32, padded}
use Rattle.disk_layout.proofs.BytesLemmas.{number32-back}
use Rattle.disk_layout.proofs.HeaderLemmas.{IsStated, alternate-is, eq-true, length-header, reserved-at, sector-is}
use Rattle.disk_layout.proofs.OrderLemmas.{and-true, le-false}

all-zero : (k : ℕ) → list_all (λ (b : ℕ). b == 0) (replicate k 0) ≡ true
all-zero zero = refl
all-zero (suc k) = all-zero k

clear-is : (h : TableHeader) (sum k : ℕ) → is_clear (header_bytes h sum ++ replicate k 0) ≡ true
unfolding is_clear
clear-is h sum k =
    let bytes = header_bytes h sum ++ replicate k 0 in
    let size : length bytes - 92 ≡ k = omega (arith, length-append (header_bytes h sum) (replicate k 0), length-header h sum, length-replicate {A = ℕ} k 0) in
    let rest : slice_range bytes 92 (length bytes) ≡ replicate k 0 =
    ap (take (length bytes - 92)) (drop_at (header_bytes h sum) (replicate k 0) 92 (length-header h sum)) ∙ take_all (length bytes - 92) (replicate k 0) (omega (arith, size, length-replicate {A = ℕ} k 0)) in
    and-true (number32 bytes 20 == 0) (list_all (λ (b : ℕ). b == 0) (slice_range bytes 92 (length bytes))) (eq-true _ _ (number32-back bytes 20 0 (omega arith) (reserved-at h sum (replicate k 0))))
    (ap (list_all (λ (b : ℕ). b == 0)) rest ∙ all-zero k)

no-warning : (a b r : Bool) → a ≡ false → b ≡ true → r ≡ true → record { cut_short = a; alternate = not b; reserved = not r } ≡ no_warnings
no-warning false true true p q s = refl
no-warning true b r p q s = cc
no-warning false false r p q s = cc
no-warning false true false p q s = cc

module _ (disk : Disk) (h : TableHeader) (stated : IsStated h) (within : h.other < disk.sectors) where
  pub quiet : copy_warnings disk h.other (table_header (header_sector disk.size h)) ≡ no_warnings
  unfolding table_header
  quiet =
      let k = bytes_of_size disk.size - 92 in
      let header = table_header (header_sector disk.size h) in
      let other : header.alternate ≡ h.other = ap (λ (b : List ℕ). (table_header b).alternate) (sector-is disk.size h) ∙ alternate-is h stated (replicate k 0) in
      let clear : header.is_clear ≡ true = ap (λ (b : List ℕ). (table_header b).is_clear) (sector-is disk.size h) ∙ clear-is h (crc32 (header_bytes h 0)) k in
      no-warning (nat_le disk.sectors header.alternate) (header.alternate == h.other) header.is_clear (le-false disk.sectors header.alternate (omega (arith, other, within))) (eq-true _ _ other) clear

protective-bytes : (size : SectorSize) (n : ℕ) → mbr_of (padded (bytes_of_size size) (mbr_bytes n)) ≡ Protective
unfolding mbr_of has_protective has_records is_record_used is_protective is_zero mbr_bytes protective_record bytes32
protective-bytes Bytes512 n = refl
protective-bytes Bytes4096 n = refl

pub protective : (disk : Disk) → mbr_of (mbr_sector disk) ≡ Protective
unfolding mbr_sector
protective disk = protective-bytes disk.size (protected_sectors disk)
