-- A step of a write through the units of a `crypt` line: the unit that begins at a place of its bytes.
use Rattle.std.proofs.Common.{◌≡◌, ℕ, suc, ◌+◌, ◌-◌, ◌*◌, ◌/◌, ◌%◌, ◌<◌, ◌≤◌, min, List, length, take, drop, Result, ap, ◌∙◌, subst, arith}
use Rattle.std.proofs.lemmas.List.{length-take, length-drop}
use Rattle.std.proofs.lemmas.Nat.{mod-mul-add}
use Rattle.std.proofs.Math.Nat.{add-mul}
use Rattle.block_device.specs.Device.{Device}
use Rattle.stack_meaning.specs.Units.{unit_bytes, per_unit}
use Rattle.stack_meaning.specs.declared.units.CryptUnits.{CryptUnits}
use Rattle.stack_rules.specs.declared.lower.Lower.{Lower}
use Rattle.stack_rules.specs.Records.{Configuration}
use Rattle.stack_meaning.proofs.lemmas.UnitSizeLemmas.{per_unit-some}
use Rattle.xts_sector.specs.Units.{unit}
use Rattle.stack_meaning.specs.declared.fault.IoFault.{IoFault}
use Rattle.stack_lines.specs.Writing.{sectors_in, destination_of, WritesSectors}
use Rattle.stack_engine.proofs.UnitWriteLemmas.{at-is, next-is, next-even, one-is, one-fits}

-- from byte `at` on to the byte `end`, of n sectors in units of `size` bytes
pub record IsStep (units : CryptUnits) (n at size end : ℕ) : Type 0 where
  pub is : size ≡ unit_bytes units
  pub fits : at / size * per_unit units + per_unit units ≤ n
  pub place : at ≡ 512 * (at / size * per_unit units)
  pub next : at + size ≡ 512 * (suc (at / size) * per_unit units)
  pub even : (at + size) % size ≡ 0
  pub end_is : end ≡ at + size
  pub one : (xs : List ℕ) → take (at + size - at) (drop at xs) ≡ unit (unit_bytes units) xs (at / size)

pub step-at : (units : CryptUnits) (len n at size end : ℕ) → size ≡ unit_bytes units → len ≡ 512 * n → n % per_unit units ≡ 0 → at % size ≡ 0 → at < len → end ≡ min len (at + size) → IsStep units n at size end
step-at units len n at size end is long whole even low least =
    let fits = one-fits units len n at size is long whole even low in
    let next = next-is units len n at size is long whole even in
    record {
      is = is;
      fits = fits;
      place = at-is units len n at size is long whole even;
      next = next;
      even = next-even units len n at size is long whole even;
      end_is = omega (arith, least, next, fits, long, add-mul 1 (at / size) (per_unit units));
      one = one-is units len n at size is long whole even;
    }

module _ {units : CryptUnits} {n at size end : ℕ} (step : IsStep units n at size end) where
  pub step-width : (xs : List ℕ) → length xs ≡ 512 * n → length (take (end - at) (drop at xs)) ≡ size
  step-width xs long = omega (arith, step.end_is, step.next, step.fits, long, add-mul 1 (at / size) (per_unit units), length-take (end - at) (drop at xs), length-drop at xs)

  -- in sectors: those before it are whole units, and so are those up to its end
  pub step-one : (xs : List ℕ) → length xs ≡ 512 * n → length (take (end - at) (drop at xs)) / 512 ≡ per_unit units
  step-one xs long = omega (arith, step-width xs long, step.is)

  pub step-sectors : at / 512 % per_unit units ≡ 0
  step-sectors =
      let before : at / 512 ≡ at / size * per_unit units + 0 = omega (arith, step.place) in
      ap (λ (k : ℕ). k % per_unit units) before ∙ mod-mul-add (at / size) (per_unit units) 0 (omega (arith, per_unit-some units))

  pub step-behind : at / 512 + per_unit units ≡ end / 512
  step-behind = omega (arith, step.end_is, step.place, step.is)

  pub step-sectors-behind : (at / 512 + per_unit units) % per_unit units ≡ 0
  step-sectors-behind =
      let behind : at / 512 + per_unit units ≡ (at / size + 1) * per_unit units + 0 = omega (arith, step.place, add-mul (at / size) 1 (per_unit units)) in
      ap (λ (k : ℕ). k % per_unit units) behind ∙ mod-mul-add (at / size + 1) (per_unit units) 0 (omega (arith, per_unit-some units))

  pub step-within : at / 512 + per_unit units ≤ n
  step-within = omega (arith, step.place, step.fits)

  pub step-written : (c : Configuration) (lower : Lower) (start first : ℕ) (now new bytes : List ℕ) {old mid : List Device} {result : Result Unit IoFault} → start ≡ first → drop at now ≡ drop at new → new ≡ bytes
      → WritesSectors (destination_of c lower) (start + at / 512) (sectors_in (take (end - at) (drop at now))) old mid result
      → WritesSectors (destination_of c lower) (first + at / size * per_unit units) (sectors_in (unit (unit_bytes units) bytes (at / size))) old mid result
  step-written c lower start first now new bytes {old = old} {mid = mid} {result = result} from rest same wrote =
      let place : start + at / 512 ≡ first + at / size * per_unit units = omega (arith, from, step.place) in
      let one : take (end - at) (drop at now) ≡ unit (unit_bytes units) bytes (at / size) =
      ap (λ (k : ℕ). take (k - at) (drop at now)) step.end_is ∙ ap (take (at + size - at)) rest ∙ ap (λ (x : List ℕ). take (at + size - at) (drop at x)) same ∙ step.one bytes in
      subst (λ (k : ℕ). WritesSectors (destination_of c lower) k (sectors_in (unit (unit_bytes units) bytes (at / size))) old mid result) place
      (subst (λ (b : List ℕ). WritesSectors (destination_of c lower) (start + at / 512) (sectors_in b) old mid result) one wrote)
