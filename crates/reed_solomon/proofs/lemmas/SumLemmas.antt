-- The bytes of a codeword sum to 0, so one lost byte is the sum of the others.
use Rattle.std.proofs.Common.{◌≡◌, ◌≢◌, ℕ, ◌+◌, ◌-◌, ◌*◌, ◌<◌, zero, suc, List, cond, refl, sym, ap, ◌∙◌, arith, bit_xor}
use Rattle.std.specs.Prelude.{slice_index}
use Rattle.std.proofs.lemmas.Bool.{eq-eqb, ne_eqb}
use Rattle.std.proofs.lemmas.Nat.{xor_comm}
use Rattle.std.specs.Int.Bits.{xor_assoc, xor_self, xor_zero_l, xor_zero_r}
use Rattle.reed_solomon.specs.Field.{field_product, power, total}
use Rattle.reed_solomon.specs.Sums.{summand_beside}
use Rattle.reed_solomon.specs.Code.{IsCodeword}
use Rattle.reed_solomon.proofs.FieldLemmas.{product_one_r, xor_same}
use Rattle.reed_solomon.proofs.CodeLemmas.{power_none, total-same, total-start, total-next, total-xor, total_single}

-- a sum in two parts
total-split : (f : ℕ → ℕ) (n m : ℕ) → total f (n + m) ≡ bit_xor (total f n) (total (λ k. f (n + k)) m)
total-split f n zero =
    let none : n + 0 ≡ n = omega arith in
    let front : total f (n + 0) ≡ total f n = ap (λ k. total f k) none in
    let back : total (λ k. f (n + k)) 0 ≡ 0 = total-start (λ k. f (n + k)) in
    let same : bit_xor (total f n) (total (λ k. f (n + k)) 0) ≡ bit_xor (total f n) 0 = ap (λ x. bit_xor (total f n) x) back in
    front ∙ sym (same ∙ xor_zero_r (total f n))
total-split f n (suc m) =
    let more : n + suc m ≡ n + m + 1 = omega arith in
    let next : suc m ≡ m + 1 = omega arith in
    let whole : total f (n + suc m) ≡ bit_xor (total f (n + m)) (f (n + m)) = ap (λ k. total f k) more ∙ total-next f (n + m) in
    let front : total f (n + m) ≡ bit_xor (total f n) (total (λ k. f (n + k)) m) = total-split f n m in
    let back : total (λ k. f (n + k)) (suc m) ≡ bit_xor (total (λ k. f (n + k)) m) (f (n + m)) = ap (λ j. total (λ k. f (n + k)) j) next ∙ total-next (λ k. f (n + k)) m in
    let regroup = xor_assoc (total f n) (total (λ k. f (n + k)) m) (f (n + m)) in
    cc (whole, front, back, regroup)

pub total-alike : (f g : ℕ → ℕ) (n : ℕ) → ((k : ℕ) → k < n → f k ≡ g k) → total f n ≡ total g n
total-alike f g n same = total-same f g n same

-- the parts by other summands
pub total-parts : (f g h : ℕ → ℕ) (n m : ℕ) → ((i : ℕ) → i < n → f i ≡ g i) → ((k : ℕ) → k < m → f (n + k) ≡ h k) → total f (n + m) ≡ bit_xor (total g n) (total h m)
total-parts f g h n m front back =
    total-split f n m
    ∙ ap (λ x. bit_xor x (total (λ k. f (n + k)) m)) (total-same f g n front)
    ∙ ap (λ x. bit_xor (total g n) x) (total-same (λ k. f (n + k)) h m back)

pub summand-own : (f : ℕ → ℕ) (place : ℕ) → summand_beside f place place ≡ 0
summand-own f place = ap (λ b. cond b 0 (f place)) (eq-eqb place place refl)

pub summand-other : (f : ℕ → ℕ) (place k : ℕ) → k ≢ place → summand_beside f place k ≡ f k
summand-other f place k apart = ap (λ b. cond b 0 (f k)) (ne_eqb k place apart)

-- the sum of all and that of the others have one summand as their sum
pub total-beside : (f g : ℕ → ℕ) (n place : ℕ) → place < n → g place ≡ 0 → ((k : ℕ) → k < n → k ≢ place → g k ≡ f k) → bit_xor (total f n) (total g n) ≡ f place
total-beside f g n place inside own others =
    let rest : (k : ℕ) → k < n → k ≢ place → bit_xor (f k) (g k) ≡ 0 = λ k lt apart. ap (λ x. bit_xor (f k) x) (others k lt apart) ∙ xor_self (f k) in
    let joined = total-xor f g n in
    let single = total_single (λ k. bit_xor (f k) (g k)) n place inside rest in
    sym joined ∙ single ∙ ap (λ x. bit_xor (f place) x) own ∙ xor_zero_r (f place)

-- if all summands and another number sum to 0, the others and that number sum to the one left out
pub total-lost : (f g : ℕ → ℕ) (n place other : ℕ) → place < n → g place ≡ 0 → ((k : ℕ) → k < n → k ≢ place → g k ≡ f k)
    → bit_xor (total f n) other ≡ 0 → bit_xor (total g n) other ≡ f place
total-lost f g n place other inside own others none =
    let same : total f n ≡ other = xor_same (total f n) other none in
    let beside = total-beside f g n place inside own others in
    let swap : bit_xor (total g n) (total f n) ≡ bit_xor (total f n) (total g n) = xor_comm (total g n) (total f n) in
    ap (λ x. bit_xor (total g n) x) (sym same) ∙ swap ∙ beside

-- x to the power 0 is a root of every codeword
pub codeword-sum : (parity : ℕ) (word : List ℕ) → 0 < parity → IsCodeword parity word → total (slice_index word) 255 ≡ 0
codeword-sum parity word some code =
    let same : (i : ℕ) → i < 255 → slice_index word i ≡ field_product (slice_index word i) (power (0 * (254 - i)))
    = λ i h.
    let none : 0 * (254 - i) ≡ 0 = omega arith in
    sym (ap (λ x. field_product (slice_index word i) x) (ap power none ∙ power_none) ∙ product_one_r (slice_index word i) (code.bytes i)) in
    total-same (slice_index word) (λ i. field_product (slice_index word i) (power (0 * (254 - i)))) 255 same ∙ code.roots 0 some

pub codeword-lost : (parity : ℕ) (word : List ℕ) (place : ℕ) → 0 < parity → IsCodeword parity word → place < 255
    → total (summand_beside (slice_index word) place) 255 ≡ slice_index word place
codeword-lost parity word place some code inside =
    let f : ℕ → ℕ = slice_index word in
    let g : ℕ → ℕ = summand_beside f place in
    let none = codeword-sum parity word some code in
    let beside = total-beside f g 255 place inside (summand-own f place) (λ k lt apart. summand-other f place k apart) in
    sym (xor_zero_l (total g 255)) ∙ ap (λ x. bit_xor x (total g 255)) (sym none) ∙ beside
