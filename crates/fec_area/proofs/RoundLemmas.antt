-- Sums over a round's codewords are its parity.
use Rattle.std.proofs.Common.{◌≡◌, ℕ, ◌+◌, ◌-◌, ◌*◌, ◌/◌, ◌%◌, ◌<◌, ◌≤◌, zero, suc, List, length, subst, cond, nat_lt, inl, inr, sym, ap, ◌∙◌, arith, bit_xor}
use Rattle.std.specs.Prelude.{slice_index, EachIndex}
use Rattle.std.proofs.lemmas.Bool.{cases_lt, lt-ltb, le-ltb}
use Rattle.std.proofs.lemmas.List.{get_or_past, ext_get_or}
use Rattle.std.proofs.lemmas.List.FromFn.{get_or-map-range_with_len, length-map-range_with_len, get_or-range_with_len, length-range_with_len}
use Rattle.std.proofs.lemmas.Nat.{div-mul-add, mod-mul-add, div-add-mod'}
use Rattle.std.proofs.Math.Nat.{mul-le-mul_right, mod-lt}
use Rattle.reed_solomon.specs.Factors.{AreProducts, parity_places}
use Rattle.reed_solomon.specs.Field.{field_product, total}
use Rattle.reed_solomon.proofs.FieldLemmas.{product_lt, xor_byte}
use Rattle.reed_solomon.proofs.CodeLemmas.{total-same, total-start, total-next}
use Rattle.reed_solomon.proofs.lemmas.ParityLemmas.{parity-codeword, restored-byte}
use Rattle.reed_solomon.proofs.RestoringLemmas.{codewords_equal}
use Rattle.reed_solomon.specs.Restoring.{AgreesOutside}
use Rattle.fec_area.specs.declared.layout.Layout.{Layout}
use Rattle.fec_area.specs.Layouts.{IsLayout, IsParityOf, codeword, message_byte, round_bytes}
use Rattle.fec_area.specs.Rounds.{AreRestored, AreProductsAdded}

codeword_at : (l : Layout) (d h : List (List ℕ)) (round : ℕ) (parity : List ℕ) (c i : ℕ) → i < 255
    → slice_index (codeword l d h round parity c) i ≡ cond (nat_lt i (255 - l.roots)) (message_byte l d h round c i) (slice_index parity (c * l.roots + (i - (255 - l.roots))))
unfolding codeword
codeword_at l d h round parity c i lt =
    get_or-map-range_with_len (λ i. cond (nat_lt i (255 - l.roots)) (message_byte l d h round c i) (slice_index parity (c * l.roots + (i - (255 - l.roots))))) 0 255 i i 0 lt (omega arith)

pub length-codeword : (l : Layout) (d h : List (List ℕ)) (round : ℕ) (parity : List ℕ) (c : ℕ) → length (codeword l d h round parity c) ≡ 255
unfolding codeword
length-codeword l d h round parity c =
    length-map-range_with_len (λ i. cond (nat_lt i (255 - l.roots)) (message_byte l d h round c i) (slice_index parity (c * l.roots + (i - (255 - l.roots))))) 0 255

-- a byte of the message
pub codeword-message : (l : Layout) (d h : List (List ℕ)) (round : ℕ) (parity : List ℕ) (c i : ℕ) → i < 255 - l.roots → slice_index (codeword l d h round parity c) i ≡ message_byte l d h round c i
codeword-message l d h round parity c i lt =
    codeword_at l d h round parity c i (omega (arith, lt)) ∙ ap (λ b. cond b (message_byte l d h round c i) (slice_index parity (c * l.roots + (i - (255 - l.roots))))) (lt-ltb i (255 - l.roots) lt)

-- a byte of the parity
pub codeword-parity : (l : Layout) (d h : List (List ℕ)) (round : ℕ) (parity : List ℕ) (c k : ℕ) → l.roots ≤ 255 → k < l.roots → slice_index (codeword l d h round parity c) (255 - l.roots + k) ≡ slice_index parity (c * l.roots + k)
codeword-parity l d h round parity c k few lt =
    let i = 255 - l.roots + k in
    let rest : i - (255 - l.roots) ≡ k = omega arith in
    codeword_at l d h round parity c i (omega (arith, few, lt))
    ∙ ap (λ b. cond b (message_byte l d h round c i) (slice_index parity (c * l.roots + (i - (255 - l.roots))))) (le-ltb i (255 - l.roots) (omega arith))
    ∙ ap (λ n. slice_index parity (c * l.roots + n)) rest

-- The bytes at the first places are summed up: with n sums for each codeword, whose byte i is `word c i`.
abbrev pub AreSummed : (ℕ → ℕ → ℕ) → ℕ → List ℕ → List ℕ → ℕ → Type 0
AreSummed word n products sums place = (m : ℕ) → m < length sums → slice_index sums m ≡ total (λ i. field_product (slice_index products (i * n + m % n)) (word (m / n) i)) place

pub summed-none : (word : ℕ → ℕ → ℕ) (n : ℕ) (products sums : List ℕ) → ((m : ℕ) → m < length sums → slice_index sums m ≡ 0) → AreSummed word n products sums 0
summed-none word n products sums none m lt = none m lt ∙ sym (total-start (λ i. field_product (slice_index products (i * n + m % n)) (word (m / n) i)))

pub summed-more : (word : ℕ → ℕ → ℕ) (n : ℕ) (products old new : List ℕ) (place : ℕ) → length new ≡ length old
    → ((m : ℕ) → m < length new → slice_index new m ≡ bit_xor (slice_index old m) (field_product (slice_index products (place * n + m % n)) (word (m / n) place)))
    → AreSummed word n products old place → AreSummed word n products new (place + 1)
summed-more word n products old new place size added known m lt =
    let f = λ (i : ℕ). field_product (slice_index products (i * n + m % n)) (word (m / n) i) in
    added m lt ∙ ap (λ x. bit_xor x (f place)) (known m (omega (arith, lt, size))) ∙ sym (total-next f place)

-- the sum at byte k of codeword c
pub summed-at : (word : ℕ → ℕ → ℕ) (n block : ℕ) (products sums : List ℕ) (place c k : ℕ) → length sums ≡ block * n → c < block → k < n → AreSummed word n products sums place
    → slice_index sums (c * n + k) ≡ total (λ i. field_product (slice_index products (i * n + k)) (word c i)) place
summed-at word n block products sums place c k size inside lt known =
    let m = c * n + k in
    let up : suc c * n ≤ block * n = mul-le-mul_right n inside in
    let next : suc c * n ≡ c * n + n = grind arith in
    known m (omega (arith, up, next, size, lt))
    ∙ ap (λ q. total (λ i. field_product (slice_index products (i * n + q)) (word (m / n) i)) place) (mod-mul-add c n k lt)
    ∙ ap (λ q. total (λ i. field_product (slice_index products (i * n + k)) (word q i)) place) (div-mul-add c n k lt)

total_lt : (f : ℕ → ℕ) (n : ℕ) → ((i : ℕ) → f i < 256) → total f n < 256
unfolding total
total_lt f zero fits = omega arith
total_lt f (suc n) fits = xor_byte (total f n) (f n) (total_lt f n fits) (fits n)

-- each sum is a byte
pub summed-small : (word : ℕ → ℕ → ℕ) (n : ℕ) (products sums : List ℕ) (place : ℕ) → AreSummed word n products sums place → (m : ℕ) → slice_index sums m < 256
summed-small word n products sums place known m =
    elim (cases_lt m (length sums)) [
      | inl below ↦
          omega (arith, known m below, total_lt (λ i. field_product (slice_index products (i * n + m % n)) (word (m / n) i)) place (λ i. product_lt (slice_index products (i * n + m % n)) (word (m / n) i)))
      | inr above ↦ omega (arith, get_or_past sums m 0 above)
    ]

-- each byte of the message at the first places is one
abbrev pub AreBytes : Layout → List (List ℕ) → List (List ℕ) → ℕ → ℕ → Type 0
AreBytes l d h round place = (i c : ℕ) → i < place → message_byte l d h round c i < 256

pub bytes-more : (l : Layout) (d h : List (List ℕ)) (round place : ℕ) → ((c : ℕ) → message_byte l d h round c place < 256) → AreBytes l d h round place → AreBytes l d h round (place + 1)
bytes-more l d h round place here known i c lt =
    elim (cases_lt i place) [
      | inl below ↦ known i c below
      | inr above ↦
          let at : place ≡ i = omega (arith, lt, above) in
          subst (λ j. message_byte l d h round c j < 256) at (here c)
    ]

pub round-swap : (l : Layout) → l.block * l.roots ≡ round_bytes l
round-swap l = grind arith

-- sums over all places of the message are the parity
pub summed-parity : (l : Layout) (d h : List (List ℕ)) (products : List ℕ) (round : ℕ) (sums : List ℕ) (place : ℕ) → IsLayout l → AreProducts (parity_places l.roots) products
    → length sums ≡ round_bytes l → place ≡ 255 - l.roots → AreBytes l d h round place
    → AreSummed (message_byte l d h round) l.roots products sums place → IsParityOf l d h round sums
summed-parity l d h products round sums place valid known size end bytes summed c inside =
    let small = summed-small (message_byte l d h round) l.roots products sums place summed in
    let roots = l.roots in
    let few = valid.few in
    let word = codeword l d h round sums c in
    let len = length-codeword l d h round sums c in
    let byte : (i : ℕ) → slice_index word i < 256 = λ i. elim (cases_lt i 255) [
      | inr past ↦ omega (arith, get_or_past word i 0 (omega (arith, len, past)))
      | inl lt ↦ elim (cases_lt i (255 - roots)) [
        | inl below ↦ omega (arith, codeword-message l d h round sums c i below, bytes i c (omega (arith, below, end)))
        | inr above ↦
            let k = i - (255 - roots) in
            let at : 255 - roots + k ≡ i = omega (arith, above) in
            let value : slice_index word i ≡ slice_index sums (c * roots + k) = ap (λ j. slice_index word j) (sym at) ∙ codeword-parity l d h round sums c k (omega (arith, few)) (omega (arith, few, above, lt)) in
            omega (arith, value, small (c * roots + k))
      ]
    ] in
    parity-codeword roots products word (omega (arith, valid.some)) few len byte known
    (λ k lt.
    codeword-parity l d h round sums c k (omega (arith, few)) lt
    ∙ summed-at (message_byte l d h round) roots l.block products sums place c k (size ∙ sym (round-swap l)) inside lt summed
    ∙ ap (λ q. total (λ i. field_product (slice_index products (i * roots + k)) (message_byte l d h round c i)) q) end
    ∙ total-same (λ i. field_product (slice_index products (i * roots + k)) (message_byte l d h round c i)) (λ i. field_product (slice_index products (i * roots + k)) (slice_index word i)) (255 - roots)
    (λ i below. ap (λ x. field_product (slice_index products (i * roots + k)) x) (sym (codeword-message l d h round sums c i below))))

-- sums over all places are the lost blocks
pub summed-restored : (l : Layout) (d h : List (List ℕ)) (products : List ℕ) (round : ℕ) (parity lost sums : List ℕ) (place : ℕ) → IsLayout l → AreProducts lost products
    → ((k : ℕ) → k < length lost → slice_index lost k < 255 - l.roots) → length lost ≤ l.roots → length sums ≡ l.block * length lost → place ≡ 255
    → AreSummed (λ c. slice_index (codeword l d h round parity c)) (length lost) products sums place → AreRestored l d h round parity lost sums
summed-restored l d h products round parity lost sums place valid known within enough size end summed d' h' former c k inside lt =
    let n = length lost in
    let few = valid.few in
    let word = codeword l d h round parity c in
    let whole = codeword l d' h' round parity c in
    let agree : AgreesOutside lost word whole = λ i outside. elim (cases_lt i 255) [
      | inr past ↦
          get_or_past word i 0 (omega (arith, length-codeword l d h round parity c, past))
          ∙ sym (get_or_past whole i 0 (omega (arith, length-codeword l d' h' round parity c, past)))
      | inl in_word ↦ elim (cases_lt i (255 - l.roots)) [
        | inl below ↦
            codeword-message l d h round parity c i below
            ∙ ap (λ b. slice_index b c) (former.same i below outside)
            ∙ sym (codeword-message l d' h' round parity c i below)
        | inr above ↦
            let j = i - (255 - l.roots) in
            let at : 255 - l.roots + j ≡ i = omega (arith, above) in
            let less : j < l.roots = omega (arith, few, above, in_word) in
            ap (λ q. slice_index word q) (sym at)
            ∙ codeword-parity l d h round parity c j (omega (arith, few)) less
            ∙ sym (codeword-parity l d' h' round parity c j (omega (arith, few)) less)
            ∙ ap (λ q. slice_index whole q) at
      ]
    ] in
    summed-at (λ c. slice_index (codeword l d h round parity c)) n l.block products sums place c k size inside lt summed
    ∙ ap (λ q. total (λ i. field_product (slice_index products (i * n + k)) (slice_index word i)) q) end
    ∙ restored-byte l.roots lost products word whole k lt enough known (former.stands c inside) agree
    ∙ codeword-message l d' h' round parity c (slice_index lost k) (within k lt)

-- a round has one parity
pub parity-unique : (l : Layout) (d h : List (List ℕ)) (round : ℕ) (p q : List ℕ) → IsLayout l → length p ≡ round_bytes l → length q ≡ round_bytes l
    → IsParityOf l d h round p → IsParityOf l d h round q → p ≡ q
parity-unique l d h round p q valid size_p size_q one other =
    let roots = l.roots in
    let few = valid.few in
    let lost = parity_places roots in
    let size : length lost ≡ roots = length-range_with_len (255 - roots) roots in
    let within : (k : ℕ) → k < length lost → slice_index lost k < 255 = λ k h. omega (arith, get_or-range_with_len (255 - roots) roots k 0 (omega (arith, h, size)), h, size, few) in
    ext_get_or 0 p q (size_p ∙ sym size_q)
    (λ m lt.
    let some : 0 < roots = omega (arith, valid.some) in
    let c = m / roots in
    let k = m % roots in
    let less : k < roots = mod-lt m some in
    let at : c * roots + k ≡ m = div-add-mod' m roots in
    let inside : c < l.block = elim (cases_lt c l.block) [
      | inl below ↦ below
      | inr above ↦
          let up : l.block * roots ≤ c * roots = mul-le-mul_right roots above in
          absurd (omega (arith, up, at, lt, size_p, round-swap l))
    ] in
    let v = codeword l d h round p c in
    let w = codeword l d h round q c in
    let agree : AgreesOutside lost v w = λ i outside. elim (cases_lt i (255 - roots)) [
      | inl below ↦ codeword-message l d h round p c i below ∙ sym (codeword-message l d h round q c i below)
      | inr above ↦ elim (cases_lt i 255) [
        | inr past ↦ get_or_past v i 0 (omega (arith, length-codeword l d h round p c, past)) ∙ sym (get_or_past w i 0 (omega (arith, length-codeword l d h round q c, past)))
        | inl in_word ↦
            absurd (outside (i - (255 - roots)) (omega (arith, size, few, above, in_word)) (get_or-range_with_len (255 - roots) roots (i - (255 - roots)) 0 (omega (arith, few, above, in_word)) ∙ omega (arith, above)))
      ]
    ] in
    let same = codewords_equal roots lost v w (omega (arith, size)) within (one c inside) (other c inside) agree in
    ap (λ j. slice_index p j) (sym at)
    ∙ sym (codeword-parity l d h round p c k (omega (arith, few)) less)
    ∙ ap (λ u. slice_index u (255 - roots + k)) same
    ∙ codeword-parity l d h round q c k (omega (arith, few)) less
    ∙ ap (λ j. slice_index q j) at)

-- a column of the parity was added
pub column-more : (l : Layout) (d h : List (List ℕ)) (products : List ℕ) (round : ℕ) (parity : List ℕ) (n k : ℕ) (block old new : List ℕ) → l.roots ≤ 255 → k < l.roots → length new ≡ length old
    → length block ≡ l.block → length new ≡ l.block * n → EachIndex block (λ c. slice_index block c ≡ slice_index parity (c * l.roots + k))
    → ((m : ℕ) → m < length new → slice_index new m ≡ bit_xor (slice_index old m) (field_product (slice_index products ((255 - l.roots + k) * n + m % n)) (slice_index block (m / n))))
    → AreSummed (λ c. slice_index (codeword l d h round parity c)) n products old (255 - l.roots + k)
    → AreSummed (λ c. slice_index (codeword l d h round parity c)) n products new (255 - l.roots + (k + 1))
column-more l d h products round parity n k block old new few lt size long all column added known =
    let place = 255 - l.roots + k in
    let word = λ (c : ℕ). slice_index (codeword l d h round parity c) in
    let next : place + 1 ≡ 255 - l.roots + (k + 1) = omega arith in
    subst (λ (j : ℕ). AreSummed word n products new j) next
    (summed-more word n products old new place size
    (λ m within.
    let c = m / n in
    let inside : c < length block = elim (cases_lt c (length block)) [
      | inl below ↦ below
      | inr above ↦
          let up : length block * n ≤ c * n = mul-le-mul_right n above in
          let whole = div-add-mod' m n in
          let same : length block * n ≡ l.block * n = ap (λ j. j * n) long in
          absurd (omega (arith, up, whole, same, all, within))
    ] in
    added m within
    ∙ ap (λ v. bit_xor (slice_index old m) (field_product (slice_index products (place * n + m % n)) v)) (column c inside ∙ sym (codeword-parity l d h round parity c k few lt)))
    known)

-- the bytes at a place of the message were added
pub message-more : (l : Layout) (d h : List (List ℕ)) (products : List ℕ) (round : ℕ) (parity : List ℕ) (n place : ℕ) (old new : List ℕ) → place < 255 - l.roots → length new ≡ length old
    → AreProductsAdded l d h n products round place old new → AreSummed (λ c. slice_index (codeword l d h round parity c)) n products old place
    → AreSummed (λ c. slice_index (codeword l d h round parity c)) n products new (place + 1)
message-more l d h products round parity n place old new lt size added known =
    summed-more (λ (c : ℕ). slice_index (codeword l d h round parity c)) n products old new place size
    (λ m within. added m within ∙ ap (λ v. bit_xor (slice_index old m) (field_product (slice_index products (place * n + m % n)) v)) (sym (codeword-message l d h round parity (m / n) place lt)))
    known
