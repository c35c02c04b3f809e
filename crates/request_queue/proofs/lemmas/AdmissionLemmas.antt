-- What an admitted request has.
use Rattle.std.proofs.Common.{◌≡◌, ◌==◌, ◌||◌, ℕ, ◌+◌, ◌*◌, ◌/◌, ◌%◌, nat_lt, true, false, Bool, List, length, refl, sym, ap, subst, arith, Option, Some, None, Result, Ok, Err}
use Rattle.std.specs.Prelude.{not, min, IsTrue, IfOk, if◌then◌else◌}
use Rattle.stack_rules.specs.Records.{Configuration}
use Rattle.stack_rules.specs.Names.{mapped, may_write, size, device_named}
use Rattle.request_queue.specs.declared.fault.SubmitFault.{SubmitFault}
use Rattle.request_queue.specs.declared.fault.SubmitFault.TheVariants.{NoSuchDevice, OutOfRange, Length, ReadOnly, Full}
use Rattle.request_queue.specs.declared.range.SectorRange.{SectorRange}
use Rattle.request_queue.specs.Ranges.{IsRangeInside, range_at, range_in, range_of}
use Rattle.request_queue.specs.Flights.{IsAdmissible}
use Rattle.request_queue.specs.Requests.{a_write, sector_count, writable_sectors, sectors_for}
use Rattle.request_queue.specs.World.{World, admission, unless_full, is_full}

not-zero : (n : ℕ) → not (n == 0) ≡ false → n ≡ 0
not-zero n e = grind (arith, e)

-- what is so of the range that the checks pass on
tests-some : (a z b : Bool) (x y : SectorRange) (P : SectorRange → Type 0) → (z ≡ false → P x) → (if a then Err OutOfRange else if z || b then Err Length else Ok x) ≡ Ok y → P y
tests-some true z b x y P p h = let clash : Err OutOfRange ≡ Ok y = h in cc
tests-some false true b x y P p h = let clash : Err Length ≡ Ok y = h in cc
tests-some false false true x y P p h = let clash : Err Length ≡ Ok y = h in cc
tests-some false false false x y P p h = let same : Ok x ≡ Ok y = h in let is : x ≡ y = cc in subst P is (p refl)

pub unless-ok : (full : Bool) (r : Result SectorRange SubmitFault) (range : SectorRange) → unless_full full r ≡ Ok range → r ≡ Ok range
unless-ok true (Ok x) range h = let clash : Err Full ≡ Ok range = h in cc
unless-ok false (Ok x) range h = h
unless-ok full (Err fault) range h = let clash : Err fault ≡ Ok range = h in cc

may-test : (b : Bool) → not b ≡ false → IsTrue b
may-test true e = refl
may-test false e = let clash : true ≡ false = e in cc

-- what holds of a write that the checks pass on
pub record IsWritable (c : Configuration) (bytes : List ℕ) (range : SectorRange) : Type 0 where
  pub whole : length bytes % 512 ≡ 0
  pub may : IsTrue (may_write c (mapped range.device.0))

writable-tests : (c : Configuration) (bytes : List ℕ) (x range : SectorRange) (a b : Bool) → not (length bytes % 512 == 0) ≡ a → not (may_write c (mapped x.device.0)) ≡ b
    → (if a then Err Length else if b then Err ReadOnly else Ok x) ≡ Ok range → (x ≡ range) × IsWritable c bytes range
writable-tests c bytes x range true b e f h = let clash : Err Length ≡ Ok range = h in cc
writable-tests c bytes x range false true e f h = let clash : Err ReadOnly ≡ Ok range = h in cc
writable-tests c bytes x range false false e f h =
    let both : Ok x ≡ Ok range = h in
    let same : x ≡ range = cc in
    (same, subst (IsWritable c bytes) same (record { whole = not-zero (length bytes % 512) e; may = may-test (may_write c (mapped x.device.0)) f }))

-- the range of a write is that of its sectors
pub writable-ok : (c : Configuration) (bytes : List ℕ) (r : Result SectorRange SubmitFault) (range : SectorRange) → writable_sectors c bytes r ≡ Ok range → (r ≡ Ok range) × IsWritable c bytes range
writable-ok c bytes (Err fault) range h = let clash : Err fault ≡ Ok range = h in cc
writable-ok c bytes (Ok x) range h =
    let tests = writable-tests c bytes x range (not (length bytes % 512 == 0)) (not (may_write c (mapped x.device.0))) refl refl h in
    (ap Ok tests.0, tests.1)

in-count : (c : Configuration) (o : Option ℕ) (first count : ℕ) (range : SectorRange) → range_in c o first count ≡ Ok range → range.count ≡ count
in-count c None first count range h = let clash : Err NoSuchDevice ≡ Ok range = h in cc
in-count c (Some d) first count range h =
    tests-some (nat_lt (size c (mapped d)) (first + count)) (count == 0) (nat_lt 2048 count) (range_at d first count) range (λ x. x.count ≡ count) (λ test. refl) h

pub range_of-count : (c : Configuration) (name : List ℕ) (first count : ℕ) (range : SectorRange) → range_of c name first count ≡ Ok range → range.count ≡ count
unfolding range_of
range_of-count c name first count range h = in-count c (device_named c name) first count range h

-- the bytes of an admitted write are all sectors of its range
pub admission-whole : (w : World) (name : List ℕ) (first : ℕ) (bytes : List ℕ) (range : SectorRange) → admission w (a_write name first bytes) ≡ Ok range → length bytes ≡ 512 * range.count
admission-whole w name first bytes range h =
    let c = w.stack.config in
    let ok = writable-ok c bytes (range_of c name first (sector_count bytes)) range (unless-ok (is_full w) (sectors_for c (a_write name first bytes)) range h) in
    let count : range.count ≡ length bytes / 512 + min 1 (length bytes % 512) = range_of-count c name first (sector_count bytes) range ok.0 in
    omega (arith, count, ok.1.whole)

-- a write that the checks pass on may be begun
pub admissible-write : (c : Configuration) (name : List ℕ) (first : ℕ) (bytes : List ℕ) (range : SectorRange) (r : Result SectorRange SubmitFault) → r ≡ writable_sectors c bytes (Ok range)
    → Ok range ≡ range_of c name first (sector_count bytes) → IsRangeInside c range → IfOk r (λ x. IsAdmissible c (a_write name first bytes) x)
admissible-write c name first bytes range (Err fault) e found inside = tt
admissible-write c name first bytes range (Ok x) e found inside =
    let ok = writable-ok c bytes (Ok range) x (sym e) in
    let both : Ok range ≡ Ok x = ok.0 in
    let same : range ≡ x = cc in
    let count : range.count ≡ length bytes / 512 + min 1 (length bytes % 512) = range_of-count c name first (sector_count bytes) range (sym found) in
    let len : length bytes ≡ 512 * x.count = omega (arith, count, ok.1.whole, ap (λ (y : SectorRange). y.count) same) in
    record { inside = subst (IsRangeInside c) same inside; work = (len, ok.1.may) }
