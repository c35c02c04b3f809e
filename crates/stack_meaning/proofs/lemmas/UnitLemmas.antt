-- Units of `crypt` lines: their sectors as bytes and as spans.
use Rattle.std.proofs.Common.{◌≡◌, ℕ, zero, suc, ◌+◌, ◌*◌, ◌/◌, ◌%◌, ◌<◌, ◌≤◌, List, length, take, drop, Ok, sym, ap, ◌∙◌, subst, arith}
use Rattle.std.proofs.lemmas.List.{length-drop, length-take-le, take-append-drop, drop-drop, nil_from_length}
use Rattle.std.proofs.lemmas.Nat.{div-add-mod', div-mul-add, mod-mul-add, mod_below, div_below}
use Rattle.std.proofs.Math.Nat.{add-mul, mul_comm, mul_assoc, mul-le-mul_right}
use Rattle.aes_block.proofs.lemmas.PartLemmas.{part-joined, length-joined_parts}
use Rattle.xts_sector.specs.Units.{unit}
use Rattle.xts_sector.proofs.lemmas.UnitLemmas as xts
use Rattle.stack_meaning.specs.Outcomes.{Outcome, joint_outcome, span, part}
use Rattle.stack_meaning.specs.declared.units.CryptUnits.{CryptUnits}
use Rattle.stack_meaning.specs.Units.{per_unit, unit_bytes, crypt_unit_number, encrypted_unit, decrypted_unit, encrypted_units, decrypted_units, unit_part}
use Rattle.stack_meaning.proofs.lemmas.RunLemmas.{part_left}
use Rattle.stack_meaning.proofs.lemmas.UnitSizeLemmas.{per_unit-some}

-- ---- parts

pub part-drop : (bytes : List ℕ) (j : ℕ) → part (drop 512 bytes) j ≡ part bytes (suc j)
part-drop bytes j =
    let at : 512 + 512 * j ≡ 512 * suc j = omega arith in
    ap (take 512) (drop-drop (512 * j) 512 bytes ∙ ap (λ (k : ℕ). drop k bytes) at)

-- ---- spans

-- sectors with those bytes are a span of them
pub span-parts : (f : ℕ → Outcome) (first n : ℕ) (bytes : List ℕ) → length bytes ≡ 512 * n → ((j : ℕ) → j < n → f (first + j) ≡ Ok (part bytes j)) → span f first n ≡ Ok bytes
span-parts f first zero bytes len all = ap Ok (sym (nil_from_length bytes (omega (arith, len))))
span-parts f first (suc n) bytes len all =
    let here : first + 0 ≡ first = omega arith in
    let one : f first ≡ Ok (take 512 bytes) = ap f (sym here) ∙ all 0 (omega arith) in
    let rest : span f (suc first) n ≡ Ok (drop 512 bytes) = span-parts f (suc first) n (drop 512 bytes) (omega (arith, len, length-drop 512 bytes))
    (λ j h. let at : suc first + j ≡ first + suc j = omega arith in ap f at ∙ all (suc j) (omega (arith, h)) ∙ ap Ok (sym (part-drop bytes j))) in
    ap (λ (x : Outcome). joint_outcome x (span f (suc first) n)) one ∙ ap (joint_outcome (Ok (take 512 bytes))) rest ∙ ap Ok (take-append-drop 512 bytes)

-- ---- places in units

-- sector j of some units lies in the unit j / u of them
pub unit-more : (u w j : ℕ) → 0 < u → w % u ≡ 0 → ((w + j) / u ≡ w / u + j / u) × ((w + j) % u ≡ j % u)
unit-more u w j some aligned =
    let split : w + j ≡ (w / u + j / u) * u + j % u = omega (arith, div-add-mod' w u, div-add-mod' j u, aligned, add-mul (w / u) (j / u) u) in
    let low : j % u < u = mod_below j u some in
    (ap (λ (x : ℕ). x / u) split ∙ div-mul-add (w / u + j / u) u (j % u) low, ap (λ (x : ℕ). x % u) split ∙ mod-mul-add (w / u + j / u) u (j % u) low)

-- the unit with sector j ends by the end of whole units
pub unit-fits : (u n j : ℕ) → 0 < u → n % u ≡ 0 → j < n → j / u * u + u ≤ n
unit-fits u n j some whole low =
    let all : n / u * u ≡ n = omega (arith, div-add-mod' n u, whole) in
    let below : j / u < n / u = div_below j u (n / u) some (omega (arith, all, low)) in
    let room : (j / u + 1) * u ≤ n / u * u = mul-le-mul_right u (omega (arith, below)) in
    omega (arith, room, all, add-mul (j / u) 1 u)

-- ---- units as bytes

module _ (units : CryptUnits) where
  -- where unit i of some bytes begins
  pub unit-begin : (i : ℕ) → unit_bytes units * i ≡ 512 * (i * per_unit units)
  unit-begin i = mul_assoc 512 (per_unit units) i ∙ ap (λ (k : ℕ). 512 * k) (mul_comm (per_unit units) i)

  pub unit-is : (bytes : List ℕ) (i : ℕ) → unit (unit_bytes units) bytes i ≡ take (512 * per_unit units) (drop (512 * (i * per_unit units)) bytes)
  unit-is bytes i = ap (λ (k : ℕ). take (unit_bytes units) (drop k bytes)) (unit-begin i)

  module _ (bytes : List ℕ) (n : ℕ) (len : length bytes ≡ 512 * n) where
    pub unit-length : (i : ℕ) → i * per_unit units + per_unit units ≤ n → length (unit (unit_bytes units) bytes i) ≡ 512 * per_unit units
    unit-length i fits =
        ap length (unit-is bytes i)
        ∙ length-take-le (512 * per_unit units) (drop (512 * (i * per_unit units)) bytes) (omega (arith, fits, len, length-drop (512 * (i * per_unit units)) bytes))

    -- a sector of a unit of some bytes is one of theirs
    pub unit-sector : (i t : ℕ) → i * per_unit units + per_unit units ≤ n → t < per_unit units → part (unit (unit_bytes units) bytes i) t ≡ part bytes (i * per_unit units + t)
    unit-sector i t fits low =
        let a : ℕ = i * per_unit units in
        let rest : List ℕ = drop (512 * a) bytes in
        let front : List ℕ = take (512 * per_unit units) rest in
        let at : 512 * a + 512 * t ≡ 512 * (a + t) = omega arith in
        ap (λ (l : List ℕ). part l t) (unit-is bytes i)
        ∙ sym (part_left front (drop (512 * per_unit units) rest) (per_unit units) t (sym (ap length (unit-is bytes i)) ∙ unit-length i fits) low)
        ∙ ap (λ (l : List ℕ). part l t) (take-append-drop (512 * per_unit units) rest)
        ∙ ap (take 512) (drop-drop (512 * t) (512 * a) bytes)
        ∙ ap (λ (k : ℕ). take 512 (drop k bytes)) at

    module _ (whole : n % per_unit units ≡ 0) where
      pub units-count : length bytes / unit_bytes units ≡ n / per_unit units
      units-count =
          let m : ℕ = n / per_unit units in
          let all : m * per_unit units ≡ n = omega (arith, div-add-mod' n (per_unit units), whole) in
          let none : 0 < unit_bytes units = omega (arith, per_unit-some units) in
          let split : length bytes ≡ m * unit_bytes units + 0 = omega (arith, len, all, unit-begin m, mul_comm (unit_bytes units) m) in
          ap (λ (k : ℕ). k / unit_bytes units) split ∙ div-mul-add m (unit_bytes units) 0 none

      unit-low : (i : ℕ) → i < length bytes / unit_bytes units → i * per_unit units + per_unit units ≤ n
      unit-low i h =
          let all : n / per_unit units * per_unit units ≡ n = omega (arith, div-add-mod' n (per_unit units), whole) in
          let room : (i + 1) * per_unit units ≤ n / per_unit units * per_unit units = mul-le-mul_right (per_unit units) (omega (arith, h, units-count)) in
          omega (arith, room, all, add-mul i 1 (per_unit units))

      all-bytes : unit_bytes units * (length bytes / unit_bytes units) ≡ 512 * n
      all-bytes =
          let all : n / per_unit units * per_unit units ≡ n = omega (arith, div-add-mod' n (per_unit units), whole) in
          ap (λ (m : ℕ). unit_bytes units * m) units-count ∙ unit-begin (n / per_unit units) ∙ ap (λ (m : ℕ). 512 * m) all

      module _ (key : List ℕ) (k : ℕ) where
        decrypted-length : (i : ℕ) → i < length bytes / unit_bytes units → length (decrypted_unit units key (k + i) (unit (unit_bytes units) bytes i)) ≡ unit_bytes units
        decrypted-length i h =
            let long = unit-length i (unit-low i h) in
            xts.length-decrypted key (crypt_unit_number units (k + i)) (unit (unit_bytes units) bytes i) (omega (arith, long)) ∙ long

        encrypted-length : (i : ℕ) → i < length bytes / unit_bytes units → length (encrypted_unit units key (k + i) (unit (unit_bytes units) bytes i)) ≡ unit_bytes units
        encrypted-length i h =
            let long = unit-length i (unit-low i h) in
            xts.length-encrypted key (crypt_unit_number units (k + i)) (unit (unit_bytes units) bytes i) (omega (arith, long)) ∙ long

        pub length-decrypted_units : length (decrypted_units units key k bytes) ≡ 512 * n
        unfolding decrypted_units
        length-decrypted_units = length-joined_parts (unit_bytes units) (λ i. decrypted_unit units key (k + i) (unit (unit_bytes units) bytes i)) (length bytes / unit_bytes units) decrypted-length ∙ all-bytes

        pub length-encrypted_units : length (encrypted_units units key k bytes) ≡ 512 * n
        unfolding encrypted_units
        length-encrypted_units = length-joined_parts (unit_bytes units) (λ i. encrypted_unit units key (k + i) (unit (unit_bytes units) bytes i)) (length bytes / unit_bytes units) encrypted-length ∙ all-bytes

        pub unit-decrypted : (i : ℕ) → i < length bytes / unit_bytes units → unit (unit_bytes units) (decrypted_units units key k bytes) i ≡ decrypted_unit units key (k + i) (unit (unit_bytes units) bytes i)
        unfolding decrypted_units
        unit-decrypted i h = part-joined (unit_bytes units) (λ i. decrypted_unit units key (k + i) (unit (unit_bytes units) bytes i)) (length bytes / unit_bytes units) i decrypted-length h

        pub unit-encrypted : (i : ℕ) → i < length bytes / unit_bytes units → unit (unit_bytes units) (encrypted_units units key k bytes) i ≡ encrypted_unit units key (k + i) (unit (unit_bytes units) bytes i)
        unfolding encrypted_units
        unit-encrypted i h = part-joined (unit_bytes units) (λ i. encrypted_unit units key (k + i) (unit (unit_bytes units) bytes i)) (length bytes / unit_bytes units) i encrypted-length h

-- a sector of decrypted units, which begin at sector w of their line
pub part-decrypted : (units : CryptUnits) (key : List ℕ) (bytes : List ℕ) (n : ℕ) (len : length bytes ≡ 512 * n) (whole : n % per_unit units ≡ 0) (w j : ℕ) → w % per_unit units ≡ 0 → j < n → part (decrypted_units units key (w / per_unit units) bytes) j ≡ unit_part units key (w + j) (unit (unit_bytes units) bytes (j / per_unit units))
part-decrypted units key bytes n len whole w j aligned h =
    let some : 0 < per_unit units = omega (arith, per_unit-some units) in
    let i : ℕ = j / per_unit units in
    let t : ℕ = j % per_unit units in
    let k : ℕ = w / per_unit units in
    let out : List ℕ = decrypted_units units key k bytes in
    let low : t < per_unit units = mod_below j (per_unit units) some in
    let fits = unit-fits (per_unit units) n j some whole h in
    let place = unit-more (per_unit units) w j some aligned in
    let back : i * per_unit units + t ≡ j = omega (arith, div-add-mod' j (per_unit units)) in
    let all : n / per_unit units * per_unit units ≡ n = omega (arith, div-add-mod' n (per_unit units), whole) in
    let below : i < length bytes / unit_bytes units = subst (λ (m : ℕ). i < m) (sym (units-count units bytes n len whole)) (div_below j (per_unit units) (n / per_unit units) some (omega (arith, all, h))) in
    ap (part out) (sym back)
    ∙ sym (unit-sector units out n (length-decrypted_units units bytes n len whole key k) i t fits low)
    ∙ ap (λ (l : List ℕ). part l t) (unit-decrypted units bytes n len whole key k i below)
    ∙ ap (λ (m : ℕ). part (decrypted_unit units key m (unit (unit_bytes units) bytes i)) t) (sym place.0)
    ∙ ap (λ (m : ℕ). part (decrypted_unit units key ((w + j) / per_unit units) (unit (unit_bytes units) bytes i)) m) (sym place.1)
