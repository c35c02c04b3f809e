use Rattle.std.proofs.Common.{◌≡◌, ◌++◌, ◌∙◌, ℕ, List, ap}
use Rattle.partition_table.specs.Crc.{crc32}
use Rattle.disk_layout.specs.declared.header.TableHeader.{TableHeader}
use Rattle.disk_layout.specs.Ends.{back_bytes, backup_header, front_bytes, primary_header}
use Rattle.disk_layout.specs.Entries.{entries_array}
use Rattle.disk_layout.specs.Headers.{header_sector}
use Rattle.disk_layout.specs.Mbrs.{mbr_sector}
use Rattle.disk_layout.proofs.ends.table_ends.Goals as goal

pub returns-clause-front : goal.returns-clause-front
unfolding front_bytes
returns-clause-front c =
    let disk = c.args.disk in
    let array = entries_array c.args.partitions.now in
    let header : c.primary_header-primary.result ≡ primary_header disk c.args.disk_id (crc32 array) =
    c.primary_header-primary.ensures ∙ ap (primary_header disk c.args.disk_id) (c.crc32-checksum.ensures ∙ ap crc32 (c.deref.ensures.value ∙ c.in_ok-array.ensures.ok)) in
    c.in_ok-front.ensures.ok ∙ ap (λ (h : TableHeader). mbr_sector disk ++ (header_sector disk.size h ++ c.deref-2.result.now)) header
    ∙ ap (λ (l : List ℕ). mbr_sector disk ++ (header_sector disk.size (primary_header disk c.args.disk_id (crc32 array)) ++ l)) (c.deref-2.ensures.value ∙ c.in_ok-array.ensures.ok)

pub returns-clause-back : goal.returns-clause-back
unfolding back_bytes
returns-clause-back c =
    let disk = c.args.disk in
    let array = entries_array c.args.partitions.now in
    let header : c.backup_header-backup.result ≡ backup_header disk c.args.disk_id (crc32 array) =
    c.backup_header-backup.ensures ∙ ap (backup_header disk c.args.disk_id) (c.crc32-checksum.ensures ∙ ap crc32 (c.deref.ensures.value ∙ c.in_ok-array.ensures.ok)) in
    c.in_ok-back.ensures.ok ∙ ap (λ (l : List ℕ). l ++ header_sector disk.size c.backup_header-backup.result) (c.deref-3.ensures.value ∙ c.in_ok-array.ensures.ok)
    ∙ ap (λ (h : TableHeader). array ++ header_sector disk.size h) header
