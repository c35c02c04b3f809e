-- What a put of units does.
use Rattle.std.proofs.Common.{◌≡◌, ℕ, zero, suc, ◌+◌, ◌-◌, ◌*◌, ◌/◌, ◌%◌, ◌<◌, ◌≤◌, ◌==◌, Bool, true, false, List, [], ◌++◌, length, take, refl, sym, ap, ◌∙◌, subst, inl, inr, arith}
use Rattle.std.specs.Prelude.{if◌then◌else◌}
use Rattle.std.specs.List.{concat}
use Rattle.std.proofs.lemmas.Bool.{eq-eqb, eqb-true}
use Rattle.std.proofs.lemmas.List.{length-take-le, take_all}
use Rattle.std.proofs.lemmas.Nat.{div-mul-add, mod-mul-add, le-div}
use Rattle.std.proofs.Math.Nat.{add-mul}
use Rattle.std.proofs.Math.Seq.{take-add}
use Rattle.block_device.specs.Device.{sectors_of}
use Rattle.block_device.proofs.lemmas.SectorLemmas.{concat-sectors_of}
use Rattle.stack_meaning.specs.declared.units.CryptUnits.{CryptUnits}
use Rattle.stack_rules.specs.declared.lower.Lower.{Lower}
use Rattle.stack_rules.specs.Records.{Configuration}
use Rattle.xts_sector.specs.Units.{unit}
use Rattle.stack_meaning.specs.Outcomes.{Images, Outcome, span}
use Rattle.stack_meaning.specs.Units.{per_unit, unit_bytes, encrypted_unit, encrypted_units, unit_first}
use Rattle.stack_meaning.specs.Meaning.{said_at}
use Rattle.stack_meaning.specs.Puts.{Put, then_put, Putting, read_put, encrypted_sectors, changed_unit, unit_put, in_unit, put_on}
use Rattle.stack_lines.specs.Cuts.{PutsInSteps}
use Rattle.stack_lines.specs.Writing.{sectors_in, crypt_put}
use Rattle.stack_lines.proofs.StripeLemmas.{part-more, part-ends}
use Rattle.stack_meaning.proofs.lemmas.UnitSizeLemmas.{per_unit-some}
use Rattle.stack_lines.proofs.lemmas.UnitFirstLemmas.{unit_first-more}
use Rattle.stack_lines.proofs.lemmas.PutLemmas.{then_same, Apart, put-apart, put-together, put-none}
use Rattle.stack_meaning.proofs.lemmas.UnitLemmas.{unit-more, unit-is, unit-length, length-encrypted_units, unit-encrypted, units-count}
use Rattle.stack_lines.proofs.lemmas.WriteRunLemmas.{length-sectors_in, sectors_in-none, sectors_in-append}

-- ---- sectors as bytes

concat-in : (bytes : List ℕ) (n : ℕ) → length bytes ≡ 512 * n → concat (sectors_in bytes) ≡ bytes
concat-in bytes n len = concat-sectors_of (length bytes / 512) bytes ∙ take_all (512 * (length bytes / 512)) bytes (omega (arith, len))

pub sectors_in-of : (bytes : List ℕ) (n : ℕ) → length bytes ≡ 512 * n → sectors_in bytes ≡ sectors_of n bytes
sectors_in-of bytes n len = let count : length bytes / 512 ≡ n = omega (arith, len) in ap (λ (k : ℕ). sectors_of k bytes) count

-- ---- runs of one unit

module _ (c : Configuration) (lower : Lower) (units : CryptUnits) (key : List ℕ) where
  -- a whole unit
  pub whole-put : (w : ℕ) (bytes : List ℕ) (images : Images) → w % per_unit units ≡ 0 → length bytes ≡ 512 * per_unit units
      → crypt_put c lower units key w (sectors_in bytes) images
      ≡ put_on c lower (unit_first units w) (sectors_of (per_unit units) (encrypted_unit units key (w / per_unit units) bytes)) images
  whole-put w bytes images aligned len =
      let u : ℕ = per_unit units in
      let count : length (sectors_in bytes) ≡ u = omega (arith, length-sectors_in bytes, len) in
      let yes : (length (sectors_in bytes) == u) ≡ true = eq-eqb (length (sectors_in bytes)) u count in
      let f : ℕ → Outcome = λ t. (said_at c lower t).means images in
      put-together (unit_put (λ i t. (said_at c lower t).means i) (put_on c lower) units key) (in_unit units) w (sectors_in bytes) images (omega (arith, count, per_unit-some units))
      (λ j h. part-more u w j (omega (arith, h, count, aligned)))
      ∙ ap (λ (b : Bool). if b then put_on c lower (unit_first units w) (encrypted_sectors units key w (concat (sectors_in bytes))) images
      else read_put (span f (unit_first units w) u) (λ bytes'. put_on c lower (unit_first units w) (encrypted_sectors units key w (changed_unit units key w (sectors_in bytes) bytes'))) images) yes
      ∙ ap (λ (x : List ℕ). put_on c lower (unit_first units w) (encrypted_sectors units key w x) images) (concat-in bytes u len)

  -- part of a unit
  pub some-put : (w : ℕ) (bytes : List ℕ) (n : ℕ) (images : Images) → w % per_unit units + n ≤ per_unit units → n < per_unit units → 0 < n → length bytes ≡ 512 * n
      → crypt_put c lower units key w (sectors_in bytes) images
      ≡ read_put (span (λ t. (said_at c lower t).means images) (unit_first units w) (per_unit units)) (λ below. put_on c lower (unit_first units w) (encrypted_sectors units key w (changed_unit units key w (sectors_in bytes) below))) images
  some-put w bytes n images within part some len =
      let u : ℕ = per_unit units in
      let count : length (sectors_in bytes) ≡ n = omega (arith, length-sectors_in bytes, len) in
      let no : (length (sectors_in bytes) == u) ≡ false = not-eq (length (sectors_in bytes)) u (omega (arith, count, part)) in
      let f : ℕ → Outcome = λ t. (said_at c lower t).means images in
      put-together (unit_put (λ i t. (said_at c lower t).means i) (put_on c lower) units key) (in_unit units) w (sectors_in bytes) images (omega (arith, count, some))
      (λ j h. part-more u w j (omega (arith, h, count, within)))
      ∙ ap (λ (b : Bool). if b then put_on c lower (unit_first units w) (encrypted_sectors units key w (concat (sectors_in bytes))) images
      else read_put (span f (unit_first units w) u) (λ below. put_on c lower (unit_first units w) (encrypted_sectors units key w (changed_unit units key w (sectors_in bytes) below))) images) no
    where
      not-eq : (a b : ℕ) → a < b → (a == b) ≡ false
      not-eq a b h = go (a == b) refl
        where
          go : (t : Bool) → (a == b) ≡ t → (a == b) ≡ false
          go false e = e
          go true e = absurd (omega (arith, h, eqb-true a b e))

  -- ---- units one after another

  module _ (w : ℕ) (bytes : List ℕ) (n : ℕ) (aligned : w % per_unit units ≡ 0) (len : length bytes ≡ 512 * n) (whole : n % per_unit units ≡ 0) where
    some-unit : 0 < per_unit units
    some-unit = omega (arith, per_unit-some units)

    at-unit : (i : ℕ) → ((w + i * per_unit units) / per_unit units ≡ w / per_unit units + i) × ((w + i * per_unit units) % per_unit units ≡ 0)
    at-unit i =
        let u : ℕ = per_unit units in
        let place = unit-more u w (i * u) some-unit aligned in
        let split : i * u ≡ i * u + 0 = omega arith in
        (place.0 ∙ ap (λ (k : ℕ). w / u + k) (ap (λ (k : ℕ). k / u) split ∙ div-mul-add i u 0 some-unit), place.1 ∙ ap (λ (k : ℕ). k % u) split ∙ mod-mul-add i u 0 some-unit)

    pub first-at : (i : ℕ) → unit_first units (w + i * per_unit units) ≡ unit_first units w + i * per_unit units
    first-at i =
        let u : ℕ = per_unit units in
        let split : i * u ≡ i * u + 0 = omega arith in
        unit_first-more units w aligned (i * u) ∙ ap (λ (k : ℕ). unit_first units w + k * u) (ap (λ (k : ℕ). k / u) split ∙ div-mul-add i u 0 some-unit)

    -- unit i of the encrypted bytes
    pub encrypted-at : (i : ℕ) → i * per_unit units + per_unit units ≤ n
        → unit (unit_bytes units) (encrypted_units units key (w / per_unit units) bytes) i ≡ encrypted_unit units key ((w + i * per_unit units) / per_unit units) (unit (unit_bytes units) bytes i)
    encrypted-at i fits =
        let u : ℕ = per_unit units in
        let below : i < length bytes / unit_bytes units = subst (λ (m : ℕ). i < m) (sym (units-count units bytes n len whole)) (le-div (suc i) n u some-unit (omega (arith, fits, add-mul 1 i u))) in
        unit-encrypted units bytes n len whole key (w / u) i below ∙ ap (λ (k : ℕ). encrypted_unit units key k (unit (unit_bytes units) bytes i)) (sym (at-unit i).0)

    -- unit i is put as its encrypted bytes are on the device beneath
    pub unit-step : (i : ℕ) (images : Images) → i * per_unit units + per_unit units ≤ n
        → crypt_put c lower units key (w + i * per_unit units) (sectors_in (unit (unit_bytes units) bytes i)) images
        ≡ put_on c lower (unit_first units w + i * per_unit units) (sectors_in (unit (unit_bytes units) (encrypted_units units key (w / per_unit units) bytes) i)) images
    unit-step i images fits =
        let u : ℕ = per_unit units in
        let one = unit (unit_bytes units) bytes i in
        let long : length one ≡ 512 * u = unit-length units bytes n len i fits in
        let enc = encrypted_units units key (w / u) bytes in
        let wide : length (unit (unit_bytes units) enc i) ≡ 512 * u = unit-length units enc n (length-encrypted_units units bytes n len whole key (w / u)) i fits in
        whole-put (w + i * u) one images (at-unit i).1 long
        ∙ ap (λ (s : ℕ). put_on c lower s (sectors_of u (encrypted_unit units key ((w + i * u) / u) one)) images) (first-at i)
        ∙ ap (λ (b : List ℕ). put_on c lower (unit_first units w + i * u) (sectors_of u b) images) (sym (encrypted-at i fits))
        ∙ ap (λ (x : List (List ℕ)). put_on c lower (unit_first units w + i * u) x images) (sym (sectors_in-of (unit (unit_bytes units) enc i) u wide))

    -- the units before the i-th
    pub front-length : (i : ℕ) → i * per_unit units ≤ n → length (take (512 * (i * per_unit units)) bytes) ≡ 512 * (i * per_unit units)
    front-length i fits = length-take-le (512 * (i * per_unit units)) bytes (omega (arith, len, fits))

    pub front-more : (i : ℕ) → i * per_unit units + per_unit units ≤ n → sectors_in (take (512 * (suc i * per_unit units)) bytes) ≡ sectors_in (take (512 * (i * per_unit units)) bytes) ++ sectors_in (unit (unit_bytes units) bytes i)
    front-more i fits =
        let u : ℕ = per_unit units in
        let parts : 512 * (suc i * u) ≡ 512 * (i * u) + 512 * u = omega (arith, add-mul 1 i u) in
        let long = front-length i (omega (arith, fits)) in
        ap (λ (k : ℕ). sectors_in (take k bytes)) parts
        ∙ ap sectors_in (take-add (512 * (i * u)) (512 * u) bytes)
        ∙ ap (λ (x : List ℕ). sectors_in (take (512 * (i * u)) bytes ++ x)) (sym (unit-is units bytes i))
        ∙ sectors_in-append (take (512 * (i * u)) bytes) (unit (unit_bytes units) bytes i) (omega (arith, long))

    front-count : (i : ℕ) → i * per_unit units ≤ n → length (sectors_in (take (512 * (i * per_unit units)) bytes)) ≡ i * per_unit units
    front-count i fits = omega (arith, length-sectors_in (take (512 * (i * per_unit units)) bytes), front-length i fits)

    -- they are split after unit i
    apart : (i : ℕ) (ys : List (List ℕ)) → i * per_unit units ≤ n → Apart (in_unit units) w (sectors_in (take (512 * (i * per_unit units)) bytes)) ys
    apart zero ys fits =
        let u : ℕ = per_unit units in
        let none : 0 * u ≡ 0 = omega arith in
        inl (ap (λ (k : ℕ). sectors_in (take (512 * k) bytes)) none ∙ sectors_in-none)
    apart (suc i) ys fits =
        let u : ℕ = per_unit units in
        let positive : 0 < suc i * u = omega (arith, add-mul 1 i u, some-unit) in
        inr (inr (ap (λ (k : ℕ). in_unit units (w + k - 1)) (front-count (suc i) fits) ∙ part-ends u (w + suc i * u) some-unit (omega (arith, positive)) (at-unit (suc i)).1))

    pub units-apart : (i : ℕ) (ys : List (List ℕ)) (images : Images) → i * per_unit units ≤ n
        → crypt_put c lower units key w (sectors_in (take (512 * (i * per_unit units)) bytes) ++ ys) images
        ≡ then_put (crypt_put c lower units key w (sectors_in (take (512 * (i * per_unit units)) bytes)) images) (crypt_put c lower units key (w + i * per_unit units) ys)
    units-apart i ys images fits =
        let u : ℕ = per_unit units in
        let xs = sectors_in (take (512 * (i * u)) bytes) in
        let g : ℕ → Putting = unit_put (λ i t. (said_at c lower t).means i) (put_on c lower) units key in
        let tog = in_unit units in
        let at : w + length xs ≡ w + i * u = omega (arith, front-count i fits) in
        put-apart g tog w xs ys images (apart i ys fits) ∙ ap (λ (k : ℕ). then_put (crypt_put c lower units key w xs images) (crypt_put c lower units key k ys)) at

    -- a whole unit is cut from what follows it
    pub unit-apart : (i : ℕ) (one : List ℕ) (ys : List (List ℕ)) (images : Images) → length one ≡ 512 * per_unit units
        → crypt_put c lower units key (w + i * per_unit units) (sectors_in one ++ ys) images
        ≡ then_put (crypt_put c lower units key (w + i * per_unit units) (sectors_in one) images) (crypt_put c lower units key (w + i * per_unit units + length (sectors_in one)) ys)
    unit-apart i one ys images long =
        let u : ℕ = per_unit units in
        let s : ℕ = w + i * u in
        let xs = sectors_in one in
        let count : length xs ≡ u = omega (arith, length-sectors_in one, long) in
        let end : s + length xs ≡ w + suc i * u = omega (arith, count, add-mul 1 i u) in
        let g : ℕ → Putting = unit_put (λ i t. (said_at c lower t).means i) (put_on c lower) units key in
        let tog = in_unit units in
        let cut : tog (s + length xs - 1) ≡ false = ap (λ (e : ℕ). tog (e - 1)) end ∙ part-ends u (w + suc i * u) some-unit (omega (arith, add-mul 1 i u, some-unit)) (at-unit (suc i)).1 in
        put-apart g tog s xs ys images (inr (inr cut))

-- ---- units of which a put may be split after each one

module _ (c : Configuration) (lower : Lower) (units : CryptUnits) (key : List ℕ) (w : ℕ) (bytes : List ℕ) (n : ℕ) (aligned : w % per_unit units ≡ 0) (len : length bytes ≡ 512 * n)
    (whole : n % per_unit units ≡ 0) (cut : PutsInSteps (put_on c lower) (unit_first units w) n (record { size = per_unit units; skip = 0 })) where
  enc-length : length (encrypted_units units key (w / per_unit units) bytes) ≡ 512 * n
  enc-length = length-encrypted_units units bytes n len whole key (w / per_unit units)

  -- no sectors are before the first unit
  none-before : (x : List ℕ) → sectors_in (take (512 * (0 * per_unit units)) x) ≡ []
  none-before x =
      let none : 0 * per_unit units ≡ 0 = omega arith in
      ap (λ (j : ℕ). sectors_in (take (512 * j) x)) none ∙ sectors_in-none

  -- units before the i-th, encrypted
  out-count : (i : ℕ) → i * per_unit units ≤ n → length (sectors_in (take (512 * (i * per_unit units)) (encrypted_units units key (w / per_unit units) bytes))) ≡ i * per_unit units
  out-count i fits =
      let enc = encrypted_units units key (w / per_unit units) bytes in
      omega (arith, length-sectors_in (take (512 * (i * per_unit units)) enc), length-take-le (512 * (i * per_unit units)) enc (omega (arith, enc-length, fits)))

  -- the put of the units before the i-th and of the i-th
  out-parts : (i : ℕ) (images : Images) → i * per_unit units + per_unit units ≤ n
      → put_on c lower (unit_first units w) (sectors_in (take (512 * (i * per_unit units)) (encrypted_units units key (w / per_unit units) bytes)) ++ sectors_in (unit (unit_bytes units) (encrypted_units units key (w / per_unit units) bytes) i)) images
      ≡ then_put (put_on c lower (unit_first units w) (sectors_in (take (512 * (i * per_unit units)) (encrypted_units units key (w / per_unit units) bytes))) images)
      (put_on c lower (unit_first units w + i * per_unit units) (sectors_in (unit (unit_bytes units) (encrypted_units units key (w / per_unit units) bytes) i)))
  out-parts zero images fits =
      let u : ℕ = per_unit units in
      let one = sectors_in (unit (unit_bytes units) (encrypted_units units key (w / u) bytes) 0) in
      let first : unit_first units w ≡ unit_first units w + 0 * u = omega arith in
      let none = none-before (encrypted_units units key (w / u) bytes) in
      ap (λ (x : List (List ℕ)). put_on c lower (unit_first units w) (x ++ one) images) none
      ∙ ap (λ (k : ℕ). put_on c lower k one images) first
      ∙ ap (λ (p : Put). then_put p (put_on c lower (unit_first units w + 0 * u) one)) (sym (put-none c lower (unit_first units w) images))
      ∙ ap (λ (x : List (List ℕ)). then_put (put_on c lower (unit_first units w) x images) (put_on c lower (unit_first units w + 0 * u) one)) (sym none)
  out-parts (suc i) images fits =
      let u : ℕ = per_unit units in
      let enc = encrypted_units units key (w / u) bytes in
      let front = sectors_in (take (512 * (suc i * u)) enc) in
      let one = sectors_in (unit (unit_bytes units) enc (suc i)) in
      let count : length front ≡ suc i * u = out-count (suc i) (omega (arith, fits)) in
      let long : length one ≡ u = omega (arith, length-sectors_in (unit (unit_bytes units) enc (suc i)), unit-length units enc n enc-length (suc i) fits) in
      let positive : 0 < suc i * u = omega (arith, add-mul 1 i u, per_unit-some units) in
      let split : 0 + length front ≡ suc i * u + 0 = omega (arith, count) in
      let ends : (0 + length front) % u ≡ 0 = ap (λ (k : ℕ). k % u) split ∙ mod-mul-add (suc i) u 0 (omega (arith, per_unit-some units)) in
      let at : unit_first units w + length front ≡ unit_first units w + suc i * u = omega (arith, count) in
      cut front one images (omega (arith, count, positive)) (omega (arith, long, per_unit-some units)) (omega (arith, count, long, fits)) ends
      ∙ ap (λ (k : ℕ). then_put (put_on c lower (unit_first units w) front images) (put_on c lower k one)) at

  pub lower-units : (i : ℕ) (images : Images) → i * per_unit units ≤ n → crypt_put c lower units key w (sectors_in (take (512 * (i * per_unit units)) bytes)) images
      ≡ put_on c lower (unit_first units w) (sectors_in (take (512 * (i * per_unit units)) (encrypted_units units key (w / per_unit units) bytes))) images
  lower-units zero images fits =
      let u : ℕ = per_unit units in
      ap (λ (x : List (List ℕ)). crypt_put c lower units key w x images) (none-before bytes)
      ∙ sym (put-none c lower (unit_first units w) images)
      ∙ ap (λ (x : List (List ℕ)). put_on c lower (unit_first units w) x images) (sym (none-before (encrypted_units units key (w / u) bytes)))
  lower-units (suc i) images fits =
      let u : ℕ = per_unit units in
      let room : i * u + u ≤ n = omega (arith, fits, add-mul 1 i u) in
      let enc = encrypted_units units key (w / u) bytes in
      let done_front = take (512 * (i * u)) enc in
      let one = unit (unit_bytes units) bytes i in
      ap (λ (x : List (List ℕ)). crypt_put c lower units key w x images) (front-more c lower units key w bytes n aligned len whole i room)
      ∙ units-apart c lower units key w bytes n aligned len whole i (sectors_in one) images (omega (arith, room))
      ∙ ap (λ (p : Put). then_put p (crypt_put c lower units key (w + i * u) (sectors_in one))) (lower-units i images (omega (arith, room)))
      ∙ then_same (put_on c lower (unit_first units w) (sectors_in done_front) images) _ _ (λ j. unit-step c lower units key w bytes n aligned len whole i j room)
      ∙ sym (out-parts i images room)
      ∙ ap (λ (x : List (List ℕ)). put_on c lower (unit_first units w) x images) (sym (front-more c lower units key w enc n aligned enc-length whole i room))
