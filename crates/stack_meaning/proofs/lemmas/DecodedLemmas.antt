-- Blocks at lost positions are restored by the code.
use Rattle.std.proofs.Common.{◌≡◌, ◌⊎◌, ℕ, zero, suc, ◌+◌, ◌-◌, ◌*◌, ◌/◌, ◌%◌, ◌<◌, ◌≤◌, Bool, true, false, cond, nat_eq, nat_lt, ◌||◌, List, [], ◌∷◌, length, Ok, inl, inr, refl, sym, ap, ◌∙◌, arith, bit_xor, subst}
use Rattle.std.specs.Prelude.{slice_index, EachIndex}
use Rattle.std.proofs.lemmas.Bool.{cases_lt, eq-eqb, le-ltb, lt-ltb}
use Rattle.std.proofs.lemmas.Bool.Decides.{eqb_tells}
use Rattle.std.proofs.lemmas.List.{ext_get_or, get_or-map}
use Rattle.std.proofs.lemmas.List.FromFn.{get_or-map-range_with_len, length-map-range_with_len}
use Rattle.std.proofs.lemmas.Nat.{div-mul-add, mod-mul-add}
use Rattle.std.proofs.Math.Nat.{mod-lt}
use Rattle.reed_solomon.specs.Factors.{erasure_factor}
use Rattle.reed_solomon.specs.Field.{field_product, total}
use Rattle.reed_solomon.specs.Sums.{part_combination}
use Rattle.reed_solomon.proofs.lemmas.ErasureLemmas.{factor-restores, lost-product}
use Rattle.reed_solomon.proofs.lemmas.SumLemmas.{total-parts}
use Rattle.dm_table.specs.declared.parity.Parity.{Parity}
use Rattle.dm_table.specs.declared.verity.Verity.{Verity}
use Rattle.stack_rules.specs.Trees.{round_count, zero_block}
use Rattle.stack_meaning.specs.Outcomes.{Outcome, changed_outcome, then_outcome}
use Rattle.stack_meaning.specs.Spares.{BlockSources, covered_block, former_byte, place_number, round_parity}
use Rattle.stack_meaning.specs.Erasures.{ErasuresAreDecoded, IsFormerCode, IsKeptElsewhere, decoded_block, former_word, is_among, kept_block, scaled_block, with_scaled_parity}
use Rattle.stack_meaning.proofs.lemmas.SpareLemmas.{former-own, place-below, rounds-some, summed, zero-byte, zero-length}

-- ---- positions

pub among-index : (places : List ℕ) (i : ℕ) → is_among places i ≡ true → (a : ℕ) × (a < length places) × (slice_index places a ≡ i)
among-index [] i e = cc e
among-index (k ∷ more) i e = elim (eqb_tells k i) [
  | inl same ↦ (0, omega arith, same.1)
  | inr other ↦
      let rest = among-index more i (ap (λ b. b || is_among more i) (sym other.0) ∙ e) in
      let low = rest.1 in
      (suc rest.0, omega (arith, low), rest.2)
]

pub index-among : (places : List ℕ) (a : ℕ) → a < length places → is_among places (slice_index places a) ≡ true
index-among [] a low = absurd (omega (arith, low))
index-among (k ∷ more) zero low = ap (λ b. b || is_among more k) (eq-eqb k k refl)
index-among (k ∷ more) (suc a) low = or-there (nat_eq k (slice_index more a)) (is_among more (slice_index more a)) (index-among more a (omega (arith, low)))
  where
    or-there : (x y : Bool) → y ≡ true → (x || y) ≡ true
    or-there true y e = refl
    or-there false y e = e

-- ---- blocks that the code adds up

abbrev kept : Verity → Parity → (ℕ → List ℕ) → ℕ → List ℕ → ℕ → List ℕ
kept v p former n lost i = cond (is_among lost i) (zero_block v) (cond (nat_lt (place_number p n i) p.blocks) (former (place_number p n i)) (zero_block v))

kept-lost : (v : Verity) (p : Parity) (former : ℕ → List ℕ) (n : ℕ) (lost : List ℕ) (i : ℕ) → is_among lost i ≡ true → kept v p former n lost i ≡ zero_block v
kept-lost v p former n lost i e = ap (λ b. cond b (zero_block v) (cond (nat_lt (place_number p n i) p.blocks) (former (place_number p n i)) (zero_block v))) e

kept-former : (v : Verity) (p : Parity) (former : ℕ → List ℕ) (n : ℕ) (lost : List ℕ) (i : ℕ) → is_among lost i ≡ false → place_number p n i < p.blocks → kept v p former n lost i ≡ former (place_number p n i)
kept-former v p former n lost i e low =
    ap (λ b. cond b (zero_block v) (cond (nat_lt (place_number p n i) p.blocks) (former (place_number p n i)) (zero_block v))) e
    ∙ ap (λ b. cond b (former (place_number p n i)) (zero_block v)) (lt-ltb (place_number p n i) p.blocks low)

kept-past : (v : Verity) (p : Parity) (former : ℕ → List ℕ) (n : ℕ) (lost : List ℕ) (i : ℕ) → is_among lost i ≡ false → p.blocks ≤ place_number p n i → kept v p former n lost i ≡ zero_block v
kept-past v p former n lost i e high =
    ap (λ b. cond b (zero_block v) (cond (nat_lt (place_number p n i) p.blocks) (former (place_number p n i)) (zero_block v))) e
    ∙ ap (λ b. cond b (former (place_number p n i)) (zero_block v)) (le-ltb (place_number p n i) p.blocks high)

pub either : (b : Bool) → (b ≡ true) ⊎ (b ≡ false)
either true = inl refl
either false = inr refl

-- what is read
kept-read : (v : Verity) (p : Parity) (below : BlockSources) (former : ℕ → List ℕ) (parity lost : List ℕ) (j i : ℕ) → 0 < round_count p → IsKeptElsewhere v p below former j parity lost
    → kept_block v p below (j % round_count p) lost i ≡ Ok (kept v p former (j % round_count p) lost i)
kept-read v p below former parity lost j i some whole =
    let n : ℕ = j % round_count p in
    let k : ℕ = place_number p n i in
    let low_round : n < round_count p = mod-lt j some in
    let zeros : Outcome = Ok (zero_block v) in
    elim (either (is_among lost i)) [
      | inl e ↦ ap (λ b. cond b zeros (cond (nat_lt k p.blocks) (covered_block v below k) zeros)) e ∙ ap Ok (sym (kept-lost v p former n lost i e))
      | inr e ↦ elim (cases_lt k p.blocks) [
        | inl low ↦
            let round : k % round_count p ≡ n = mod-mul-add i (round_count p) n low_round in
            let place : k / round_count p ≡ i = div-mul-add i (round_count p) n low_round in
            ap (λ b. cond b zeros (cond (nat_lt k p.blocks) (covered_block v below k) zeros)) e
            ∙ ap (λ b. cond b (covered_block v below k) zeros) (lt-ltb k p.blocks low)
            ∙ whole.others k low round (ap (λ x. is_among lost x) place ∙ e)
            ∙ ap Ok (sym (kept-former v p former n lost i e low))
        | inr high ↦
            ap (λ b. cond b zeros (cond (nat_lt k p.blocks) (covered_block v below k) zeros)) e
            ∙ ap (λ b. cond b (covered_block v below k) zeros) (le-ltb k p.blocks high)
            ∙ ap Ok (sym (kept-past v p former n lost i e high))
      ]
    ]

kept-length : (v : Verity) (p : Parity) (former : ℕ → List ℕ) (n : ℕ) (lost : List ℕ) (i : ℕ) → ((j : ℕ) → j < p.blocks → length (former j) ≡ v.data_block) → length (kept v p former n lost i) ≡ v.data_block
kept-length v p former n lost i sizes = elim (either (is_among lost i)) [
  | inl e ↦ ap length (kept-lost v p former n lost i e) ∙ zero-length v
  | inr e ↦ elim (cases_lt (place_number p n i) p.blocks) [
    | inl low ↦ ap length (kept-former v p former n lost i e low) ∙ sizes (place_number p n i) low
    | inr high ↦ ap length (kept-past v p former n lost i e high) ∙ zero-length v
  ]
]

-- byte i of a former codeword
word-front : (p : Parity) (former : ℕ → List ℕ) (n : ℕ) (parity : List ℕ) (c i : ℕ) → i < 255 - p.roots → slice_index (former_word p former n parity c) i ≡ former_byte p former n c i
word-front p former n parity c i low =
    get_or-map-range_with_len (λ i. cond (nat_lt i (255 - p.roots)) (former_byte p former n c i) (slice_index parity (c * p.roots + (i - (255 - p.roots))))) 0 255 i i 0 (omega (arith, low)) (omega arith)
    ∙ ap (λ b. cond b (former_byte p former n c i) (slice_index parity (c * p.roots + (i - (255 - p.roots))))) (lt-ltb i (255 - p.roots) low)

word-back : (p : Parity) (former : ℕ → List ℕ) (n : ℕ) (parity : List ℕ) (c k : ℕ) → p.roots ≤ 24 → k < p.roots → slice_index (former_word p former n parity c) (255 - p.roots + k) ≡ slice_index parity (c * p.roots + k)
word-back p former n parity c k few low =
    let i : ℕ = 255 - p.roots + k in
    let back : i - (255 - p.roots) ≡ k = omega arith in
    get_or-map-range_with_len (λ i. cond (nat_lt i (255 - p.roots)) (former_byte p former n c i) (slice_index parity (c * p.roots + (i - (255 - p.roots))))) 0 255 i i 0 (omega (arith, low, few)) (omega arith)
    ∙ ap (λ b. cond b (former_byte p former n c i) (slice_index parity (c * p.roots + (i - (255 - p.roots))))) (le-ltb i (255 - p.roots) (omega arith))
    ∙ ap (λ x. slice_index parity (c * p.roots + x)) back

module _ (v : Verity) (p : Parity) (few : p.roots ≤ 24) (below : BlockSources) (former : ℕ → List ℕ) (parity lost : List ℕ) (j : ℕ) (inside : j < p.blocks)
    (enough : length lost ≤ p.roots) (code : IsFormerCode v p former (j % round_count p) parity) (whole : IsKeptElsewhere v p below former j parity lost) where
  abbrev round : ℕ
  round = j % round_count p

  abbrev place : ℕ
  place = j / round_count p

  abbrev count : ℕ
  count = 255 - p.roots

  abbrev factor : ℕ → ℕ
  factor = erasure_factor lost place

  abbrev word : ℕ → List ℕ
  word c = former_word p former round parity c

  abbrev scaled : ℕ → List ℕ
  scaled i = scaled_block (factor i) (kept v p former round lost i)

  -- a lost block has factor 0, and zeros in its place
  scaled-byte : (c i : ℕ) → c < v.data_block → i < count → slice_index (scaled i) c ≡ field_product (factor i) (slice_index (word c) i)
  scaled-byte c i low at =
      let size = kept-length v p former round lost i code.sizes in
      let byte : slice_index (scaled i) c ≡ field_product (factor i) (slice_index (kept v p former round lost i) c)
      = get_or-map (field_product (factor i)) (kept v p former round lost i) c 0 0 (omega (arith, low, size)) in
      elim (either (is_among lost i)) [
        | inl e ↦
            let index = among-index lost i e in
            let none : (x : ℕ) → field_product (factor i) x ≡ 0 = λ x. ap (λ k. field_product (factor k) x) (sym index.2) ∙ lost-product lost place index.0 x index.1 in
            byte ∙ none (slice_index (kept v p former round lost i) c) ∙ sym (none (slice_index (word c) i))
        | inr e ↦ byte ∙ ap (λ x. field_product (factor i) x) (stored e ∙ sym (word-front p former round parity c i at))
      ]
    where
      stored : is_among lost i ≡ false → slice_index (kept v p former round lost i) c ≡ former_byte p former round c i
      stored e = elim (cases_lt (place_number p round i) p.blocks) [
        | inl here ↦
            ap (λ b. slice_index b c) (kept-former v p former round lost i e here)
            ∙ sym (ap (λ b. cond b (slice_index (former (place_number p round i)) c) 0) (lt-ltb (place_number p round i) p.blocks here))
        | inr past ↦
            ap (λ b. slice_index b c) (kept-past v p former round lost i e past)
            ∙ zero-byte v c low
            ∙ sym (ap (λ b. cond b (slice_index (former (place_number p round i)) c) 0) (le-ltb (place_number p round i) p.blocks past))
      ]

  own-byte : (c : ℕ) → c < v.data_block → bit_xor (total (λ i. slice_index (scaled i) c) count) (part_combination (λ k. factor (count + k)) p.roots parity c) ≡ slice_index (former j) c
  own-byte c low =
      let all : count + p.roots ≡ 255 = omega (arith, few) in
      let index = among-index lost place whole.own in
      let within : EachIndex lost (λ a. slice_index lost a < 255) = λ a h. let at = whole.inside (slice_index lost a) (index-among lost a h) in omega (arith, at) in
      let restored : total (λ i. field_product (factor i) (slice_index (word c) i)) 255 ≡ slice_index (word c) place
      = subst (λ q. total (λ i. field_product (erasure_factor lost q i) (slice_index (word c) i)) 255 ≡ slice_index (word c) q) index.2
      (factor-restores p.roots lost (word c) index.0 index.1 enough within (code.words c low)) in
      let parts = total-parts (λ i. field_product (factor i) (slice_index (word c) i)) (λ i. slice_index (scaled i) c) (λ k. field_product (factor (count + k)) (slice_index parity (c * p.roots + k))) count p.roots
      (λ i h. sym (scaled-byte c i low h))
      (λ k h. ap (λ x. field_product (factor (count + k)) x) (word-back p former round parity c k few h)) in
      sym parts
      ∙ ap (λ m. total (λ i. field_product (factor i) (slice_index (word c) i)) m) all
      ∙ restored
      ∙ word-front p former round parity c place (place-below p j few inside)
      ∙ former-own p former j c inside

  pub decoded : decoded_block v p below j lost ≡ Ok (former j)
  decoded =
      let some = rounds-some p j few inside in
      let blank = zero-length v in
      let at : ℕ → Outcome = λ i. changed_outcome (scaled_block (factor i)) (kept_block v p below round lost i) in
      let read : (i : ℕ) → i < count → at i ≡ Ok (scaled i) = λ i h. ap (λ (x : Outcome). changed_outcome (scaled_block (factor i)) x) (kept-read v p below former parity lost j i some whole) in
      let found = summed (zero_block v) at scaled count (λ c lt. zero-byte v c (omega (arith, lt, blank))) read in
      let sums = found.0 in
      let known = found.1 in
      let size : length sums ≡ v.data_block = known.size ∙ blank in
      let ends : ℕ → ℕ = λ k. factor (count + k) in
      let long : length (with_scaled_parity ends p.roots sums parity) ≡ length sums = length-map-range_with_len (λ c. bit_xor (slice_index sums c) (part_combination ends p.roots parity c)) 0 (length sums) in
      let bytes : (c : ℕ) → c < length (with_scaled_parity ends p.roots sums parity) → slice_index (with_scaled_parity ends p.roots sums parity) c ≡ slice_index (former j) c
      = λ c lt.
      let low : c < v.data_block = omega (arith, lt, long, size) in
      get_or-map-range_with_len (λ c. bit_xor (slice_index sums c) (part_combination ends p.roots parity c)) 0 (length sums) c c 0 (omega (arith, lt, long)) (omega arith)
      ∙ ap (λ x. bit_xor x (part_combination ends p.roots parity c)) (known.bytes c (omega (arith, low, blank)))
      ∙ own-byte c low in
      ap (λ (x : Outcome). then_outcome x (λ s. then_outcome (round_parity v p below round) (λ q. Ok (with_scaled_parity ends p.roots s q)))) known.is
      ∙ ap (λ (x : Outcome). then_outcome x (λ q. Ok (with_scaled_parity ends p.roots sums q))) whole.stored
      ∙ ap Ok (ext_get_or 0 (with_scaled_parity ends p.roots sums parity) (former j) (long ∙ size ∙ sym (code.sizes j inside)) bytes)

pub erasures-decoded : ErasuresAreDecoded
erasures-decoded v p few below former parity lost j inside enough code whole = decoded v p few below former parity lost j inside enough code whole
