-- Why no write of an export's sectors is refused.
use Rattle.std.proofs.Common.{◌≡◌, ◌<◌, ◌≤◌, ℕ, ◌+◌, ◌-◌, ◌/◌, ◌%◌, ◌==◌, nat_lt, Bool, true, false, List, length, sym, ◌∙◌, arith, Ok, Err}
use Rattle.std.specs.Int.{div_ceil}
use Rattle.std.specs.Prelude.{IsTrue, not, nat_le, if◌then◌else◌}
use Rattle.stack_rules.specs.Names.{mapped, may_write, size}
use Rattle.stack_rules.specs.Records.{Configuration}
use Rattle.request_queue.specs.declared.fault.SubmitFault.{SubmitFault}
use Rattle.request_queue.specs.declared.fault.SubmitFault.TheVariants.{NoSuchDevice, OutOfRange, Length, ReadOnly}
use Rattle.request_queue.specs.declared.range.SectorRange.{SectorRange}
use Rattle.request_queue.specs.AtOnce.{write_range}
use Rattle.request_queue.specs.Ranges.{range_at}
use Rattle.request_queue.specs.Requests.{writable_sectors}
use Rattle.nbd_protocol.specs.Exports.{ExportRecord, IsExport}
use Rattle.nbd_server.specs.Premises.{AreExportSectors}
use Rattle.nbd_server.proofs.FetchLemmas.{named-below}

last-tests : (e m : Bool) (x : SectorRange) (fault : SubmitFault) → e ≡ true → m ≡ true → (if not e then Err Length else if not m then Err ReadOnly else Ok x) ≡ Err fault → ⊥
last-tests false m x fault whole may h = let clash : false ≡ true = whole in cc
last-tests true false x fault whole may h = let clash : false ≡ true = may in cc
last-tests true true x fault whole may h = let clash : Ok x ≡ Err fault = h in cc

module _ (c : Configuration) (bytes : List ℕ) (x : SectorRange) (fault : SubmitFault) (whole : (length bytes % 512 == 0) ≡ true) (may : IsTrue (may_write c (mapped x.device.0))) where
  all-tests : (a b e : Bool) → a ≡ false → b ≡ false → e ≡ true → writable_sectors c bytes (if a then Err NoSuchDevice else if b then Err OutOfRange else if not e then Err Length else Ok x) ≡ Err fault → ⊥
  all-tests true b e one two three h = let clash : true ≡ false = one in cc
  all-tests false true e one two three h = let clash : true ≡ false = two in cc
  all-tests false false false one two three h = let clash : false ≡ true = three in cc
  all-tests false false true one two three h = last-tests (length bytes % 512 == 0) (may_write c (mapped x.device.0)) x fault whole may h

-- sectors of an export that may be written are written, or fail
pub not-refused : (c : Configuration) (e : ExportRecord) (first : ℕ) (bytes : List ℕ) (fault : SubmitFault) → IsExport c e → AreExportSectors e first bytes → write_range c e.device first bytes ≡ Err fault → ⊥
not-refused c e first bytes fault export sectors h =
    let there : e.device < length c.devices = named-below c e.name e.device export.found in
    let one : nat_le (length c.devices) e.device ≡ false = grind (arith, there) in
    let count : div_ceil (length bytes) 512 ≡ length bytes / 512 = omega (arith, sectors.whole) in
    let inside : first + length bytes / 512 ≤ size c (mapped e.device) = omega (arith, sectors.inside, sectors.whole, export.size) in
    let two : nat_lt (size c (mapped e.device)) (first + div_ceil (length bytes) 512) ≡ false = grind (arith, inside, count) in
    let three : (length bytes % 512 == 0) ≡ true = grind (arith, sectors.whole) in
    all-tests c bytes (range_at e.device first (length bytes / 512)) fault three (sym export.writable ∙ sectors.allowed)
    (nat_le (length c.devices) e.device) (nat_lt (size c (mapped e.device)) (first + div_ceil (length bytes) 512)) (length bytes % 512 == 0) one two three h
