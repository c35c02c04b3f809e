-- Parity written round by round.
use Rattle.std.proofs.Common.{◌≡◌, ◌%◌, ◌≢◌, true, false, ℕ, ◌+◌, ◌-◌, ◌*◌, ◌/◌, ◌<◌, ◌≤◌, suc, List, ◌++◌, length, take, drop, subst, inl, inr, refl, sym, ap, ◌∙◌, arith}
use Rattle.std.specs.List.{concat}
use Rattle.std.specs.Str.{bytes_eq}
use Rattle.std.proofs.lemmas.Slice.Eq.{bytes_eq-Decides}
use Rattle.std.proofs.lemmas.Bool.Decides.{not_from_Decides}
use Rattle.std.proofs.Math.Nat.{mul-le-mul_right}
use Rattle.std.proofs.lemmas.Bool.{cases_lt}
use Rattle.std.proofs.lemmas.List.{drop-take, take-take, drop_at, take_at, length-take-le, take_all, append_assoc}
use Rattle.block_device.specs.Device.{Device, IsInside, run_of, spliced, sectors_of}
use Rattle.block_device.specs.Whole.{length-sectors_of}
use Rattle.block_device.proofs.lemmas.SectorLemmas.{concat-sectors_of, take-spliced}
use Rattle.verity_format.specs.Blocks.{block_at}
use Rattle.fec_area.specs.declared.layout.Layout.{Layout}
use Rattle.fec_area.specs.Layouts.{IsLayout, IsParityOf, parity_sectors, round_bytes, code_rounds}
use Rattle.fec_area.proofs.RoundLemmas.{parity-unique}
use Rattle.fec_area.proofs.LayoutLemmas.{round-quotient, round-room, round-sectors, round-some, whole-sectors}

-- a run in front of a splice
run-before : (image ss : List (List ℕ)) (f j k : ℕ) → f ≤ length image → j + k ≤ f → run_of (spliced image f ss) j k ≡ run_of image j k
run-before image ss f j k inside low =
    let split : f ≡ j + (f - j) = omega arith in
    let fits : k ≤ f - j = omega arith in
    let cut : (xs : List (List ℕ)) → run_of (take f xs) j k ≡ run_of xs j k = λ xs.
    ap (λ n. take k (drop j (take n xs))) split ∙ ap (take k) (drop-take j (f - j) xs) ∙ take-take k (f - j) (drop j xs) fits in
    sym (cut (spliced image f ss)) ∙ ap (λ xs. run_of xs j k) (take-spliced image ss f inside) ∙ cut image

-- the run that was put in
run-at : (image ss : List (List ℕ)) (f k : ℕ) → f ≤ length image → length ss ≡ k → run_of (spliced image f ss) f k ≡ ss
run-at image ss f k inside long =
    let rest = drop (f + length ss) image in
    ap (λ xs. take k (drop f xs)) (append_assoc (take f image) ss rest)
    ∙ ap (take k) (drop_at (take f image) (ss ++ rest) f (length-take-le f image inside))
    ∙ take_at ss rest k long

-- the parity of the first rounds is stored on its device
abbrev pub AreWrittenRounds : Layout → List (List ℕ) → List (List ℕ) → List (List ℕ) → ℕ → Type 0
AreWrittenRounds l d h image n = (round : ℕ) → round < n → IsParityOf l d h round (block_at image (round_bytes l) round)

pub written-more : (l : Layout) (d h image new : List (List ℕ)) (parity : List ℕ) (n f k : ℕ) → IsLayout l → length parity ≡ round_bytes l → k ≡ length parity / 512 → f ≡ n * k → f ≤ length image
    → new ≡ spliced image f (sectors_of k parity) → IsParityOf l d h n parity → AreWrittenRounds l d h image n → AreWrittenRounds l d h new (n + 1)
unfolding block_at
written-more l d h image new parity n f k valid size count first inside put here known round lt =
    let per : round_bytes l / 512 ≡ k = sym (count ∙ ap (λ m. m / 512) size) in
    let whole : length parity ≡ 512 * k = omega (arith, size, round-sectors l valid, per) in
    let ss = sectors_of k parity in
    elim (cases_lt round n) [
      | inl below ↦
          let up : suc round * k ≤ n * k = mul-le-mul_right k below in
          let next : suc round * k ≡ round * k + k = grind arith in
          let same : block_at new (round_bytes l) round ≡ block_at image (round_bytes l) round
          = ap (λ m. concat (run_of new (round * m) m)) per
          ∙ ap (λ xs. concat (run_of xs (round * k) k)) put
          ∙ ap concat (run-before image ss f (round * k) k inside (omega (arith, up, next, first)))
          ∙ sym (ap (λ m. concat (run_of image (round * m) m)) per) in
          subst (λ xs. IsParityOf l d h round xs) (sym same) (known round below)
      | inr above ↦
          let at : n ≡ round = omega (arith, lt, above) in
          let place : round * k ≡ f = ap (λ m. m * k) (sym at) ∙ sym first in
          let same : block_at new (round_bytes l) round ≡ parity
          = ap (λ m. concat (run_of new (round * m) m)) per
          ∙ ap (λ m. concat (run_of new m k)) place
          ∙ ap (λ xs. concat (run_of xs f k)) put
          ∙ ap concat (run-at image ss f k inside (length-sectors_of k parity))
          ∙ concat-sectors_of k parity
          ∙ take_all (512 * k) parity (omega (arith, whole)) in
          subst (λ xs. IsParityOf l d h round xs) (sym same) (subst (λ r. IsParityOf l d h r parity) at here)
    ]

-- a round's parity lies within all of it
pub round-within : (l : Layout) (round s k : ℕ) → round < code_rounds l → s ≡ l.roots * (l.block / 512) → k ≡ l.roots * (l.block / 512) → round * s + k ≤ parity_sectors l
round-within l round s k lt is size =
    let first : round * s ≡ round * (l.roots * (l.block / 512)) = ap (λ m. round * m) is in
    omega (arith, first, size, round-room l round lt)

-- a round's parity lies on a device that has room for all
pub write-inside : (l : Layout) (old now : Device) (round len s : ℕ) → IsLayout l → parity_sectors l ≤ old.size → now.size ≡ old.size → round < code_rounds l → len ≡ round_bytes l → s ≡ l.roots * (l.block / 512)
    → IsInside now (round * s) len
write-inside l old now round len s valid room same lt size is =
    let k = round-quotient l len valid size in
    let bytes = size ∙ round-sectors l valid in
    let some : 1 ≤ l.roots * (l.block / 512) = round-some l valid in
    record {
      some = omega (arith, bytes, some);
      whole = ap (λ m. m % 512) bytes ∙ whole-sectors (l.roots * (l.block / 512));
      inside = omega (arith, round-within l round s (len / 512) lt is k, room, same);
    }

-- what was read is the round's parity
pub round-at : (l : Layout) (image : List (List ℕ)) (round s len : ℕ) (bytes : List ℕ) → IsLayout l → s ≡ l.roots * (l.block / 512) → len ≡ round_bytes l
    → bytes ≡ concat (run_of image (round * s) (len / 512)) → bytes ≡ block_at image (round_bytes l) round
unfolding block_at
round-at l image round s len bytes valid is size e =
    let per : round_bytes l / 512 ≡ len / 512 = ap (λ m. m / 512) (sym size) in
    let same : s ≡ round_bytes l / 512 = is ∙ sym (round-quotient l (round_bytes l) valid refl) in
    e ∙ ap (λ m. concat (run_of image (round * m) (len / 512))) same ∙ ap (λ m. concat (run_of image (round * (round_bytes l / 512)) m)) (sym per)

-- compared as bytes
pub bytes-same : (xs ys : List ℕ) → bytes_eq xs ys ≡ true → xs ≡ ys
bytes-same xs ys e = (bytes_eq-Decides xs ys).0 e

pub bytes-other : (xs ys : List ℕ) → bytes_eq xs ys ≡ false → xs ≢ ys
bytes-other xs ys e = not_from_Decides (bytes_eq xs ys) (bytes_eq-Decides xs ys) e

-- the round's parity is stored there
pub round-more : (l : Layout) (d h image : List (List ℕ)) (n : ℕ) (parity stored : List ℕ) → stored ≡ block_at image (round_bytes l) n → bytes_eq parity stored ≡ true
    → IsParityOf l d h n parity → AreWrittenRounds l d h image n → AreWrittenRounds l d h image (n + 1)
round-more l d h image n parity stored at same summed known round lt =
    elim (cases_lt round n) [
      | inl below ↦ known round below
      | inr above ↦
          let is : n ≡ round = omega (arith, lt, above) in
          let bytes : parity ≡ block_at image (round_bytes l) n = bytes-same parity stored same ∙ at in
          subst (λ r. IsParityOf l d h r (block_at image (round_bytes l) r)) is (subst (λ xs. IsParityOf l d h n xs) bytes summed)
    ]

-- another one does
pub round-other : (l : Layout) (d h image : List (List ℕ)) (n : ℕ) (parity stored : List ℕ) → IsLayout l → length parity ≡ round_bytes l → length stored ≡ round_bytes l
    → stored ≡ block_at image (round_bytes l) n → bytes_eq parity stored ≡ false → IsParityOf l d h n parity → IsParityOf l d h n (block_at image (round_bytes l) n) → ⊥
round-other l d h image n parity stored valid size size_stored at other summed stands =
    bytes-other parity stored other (parity-unique l d h n parity stored valid size size_stored summed (subst (λ xs. IsParityOf l d h n xs) (sym at) stands))
