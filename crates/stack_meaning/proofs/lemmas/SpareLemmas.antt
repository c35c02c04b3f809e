-- The only lost block of a round is restored by its parity.
use Rattle.std.proofs.Common.{◌≡◌, ◌≢◌, ◌⊎◌, ℕ, zero, suc, ◌-◌, ◌*◌, ◌/◌, ◌%◌, ◌<◌, ◌≤◌, true, false, cond, nat_eq, nat_lt, List, length, Ok, Err, inl, inr, refl, sym, ap, ◌∙◌, arith, bit_xor}
use Rattle.std.specs.Prelude.{slice_index}
use Rattle.std.proofs.lemmas.Bool.{cases_lt, eq-eqb, le-ltb, lt-ltb, ne_eqb}
use Rattle.std.proofs.lemmas.Bool.Decides.{eqb_tells}
use Rattle.std.proofs.lemmas.Grind.{div_ceil_times}
use Rattle.std.proofs.lemmas.List.{ext_get_or, get_or-replicate, length-replicate}
use Rattle.std.proofs.lemmas.List.FromFn.{get_or-map-range_with_len, length-map-range_with_len}
use Rattle.std.proofs.lemmas.Nat.{div_below, div-mul-add, mod-mul-add, div-add-mod'}
use Rattle.std.proofs.Math.Nat.{mod-lt}
use Rattle.reed_solomon.specs.Field.{total}
use Rattle.reed_solomon.specs.Sums.{part_sum}
use Rattle.reed_solomon.proofs.lemmas.SumLemmas.{total-lost}
use Rattle.tree_shape.specs.Digests.{digest}
use Rattle.dm_table.specs.declared.parity.Parity.{Parity}
use Rattle.dm_table.specs.declared.verity.Verity.{Verity}
use Rattle.stack_rules.specs.Trees.{round_count, zero_block}
use Rattle.stack_meaning.specs.declared.fault.Fault.{Fault}
use Rattle.stack_meaning.specs.Outcomes.{Outcome, then_outcome}
use Rattle.stack_meaning.specs.Checked.{checked}
use Rattle.stack_meaning.specs.Spares.{BlockSources, HealingKeepsBlocks, IsFormerRound, IsWholeBeside, OneLostBlockIsRestored, added_block, covered_block, former_byte, healed_outcome, place_number, restored_block, round_block, round_parity, summed_blocks, with_parity}
use Rattle.stack_meaning.proofs.lemmas.CheckedLemmas.{checked-same, then-parts}

-- ---- sums of blocks

length-added : (sums block : List ℕ) → length (added_block sums block) ≡ length sums
length-added sums block = length-map-range_with_len (λ c. bit_xor (slice_index sums c) (slice_index block c)) 0 (length sums)

added-at : (sums block : List ℕ) (c : ℕ) → c < length sums → slice_index (added_block sums block) c ≡ bit_xor (slice_index sums c) (slice_index block c)
added-at sums block c lt = get_or-map-range_with_len (λ c. bit_xor (slice_index sums c) (slice_index block c)) 0 (length sums) c c 0 lt (omega arith)

-- the sum of m readable blocks
pub record IsSummed (first : List ℕ) (at : ℕ → Outcome) (block : ℕ → List ℕ) (m : ℕ) (sums : List ℕ) : Type 0 where
  pub is : summed_blocks first at m ≡ Ok sums
  pub size : length sums ≡ length first
  pub bytes : (c : ℕ) → c < length first → slice_index sums c ≡ total (λ i. slice_index (block i) c) m

pub summed : (first : List ℕ) (at : ℕ → Outcome) (block : ℕ → List ℕ) (m : ℕ) → ((c : ℕ) → c < length first → slice_index first c ≡ 0) → ((i : ℕ) → i < m → at i ≡ Ok (block i))
    → (sums : List ℕ) × IsSummed first at block m sums
unfolding summed_blocks total
summed first at block zero zeros each = (first, record { is = refl; size = refl; bytes = zeros })
summed first at block (suc m) zeros each =
    let before = summed first at block m zeros (λ i h. each i (omega (arith, h))) in
    let old = before.0 in
    let known = before.1 in
    let size = known.size in
    let here : at m ≡ Ok (block m) = each m (omega arith) in (
      added_block old (block m),
      record {
        is = ap (λ (x : Outcome). then_outcome x (λ s. then_outcome (at m) (λ b. Ok (added_block s b)))) known.is
            ∙ ap (λ (x : Outcome). then_outcome x (λ b. Ok (added_block old b))) here;
        size = length-added old (block m) ∙ size;
        bytes = λ c lt. added-at old (block m) c (omega (arith, lt, size)) ∙ ap (λ x. bit_xor x (slice_index (block m) c)) (known.bytes c lt);
      },
    )

pub length-summed : (first : List ℕ) (at : ℕ → Outcome) (m : ℕ) (sums : List ℕ) → summed_blocks first at m ≡ Ok sums → length sums ≡ length first
unfolding summed_blocks
length-summed first at zero sums e = let same : first ≡ sums = cc in ap length (sym same)
length-summed first at (suc m) sums e =
    let before = then-parts (summed_blocks first at m) (λ old. then_outcome (at m) (λ block. Ok (added_block old block))) sums e in
    let here = then-parts (at m) (λ block. Ok (added_block before.0 block)) sums before.2 in
    let same : added_block before.0 here.0 ≡ sums = cc in
    ap length (sym same) ∙ length-added before.0 here.0 ∙ length-summed first at m before.0 before.1

-- ---- the places of a round

rounds-room : (p : Parity) → p.roots ≤ 24 → p.blocks ≤ round_count p * (255 - p.roots)
rounds-room p few = (div_ceil_times p.blocks (255 - p.roots) (omega (arith, few))).0

pub rounds-some : (p : Parity) (j : ℕ) → p.roots ≤ 24 → j < p.blocks → 0 < round_count p
rounds-some p j few inside = elim (cases_lt 0 (round_count p)) [
  | inl some ↦ some
  | inr none ↦
      let no_rounds : round_count p ≡ 0 = omega (arith, none) in
      let nothing : round_count p * (255 - p.roots) ≡ 0 * (255 - p.roots) = ap (λ n. n * (255 - p.roots)) no_rounds in
      absurd (omega (arith, nothing, rounds-room p few, inside))
]

pub place-below : (p : Parity) (j : ℕ) → p.roots ≤ 24 → j < p.blocks → j / round_count p < 255 - p.roots
place-below p j few inside =
    let swap : round_count p * (255 - p.roots) ≡ (255 - p.roots) * round_count p = grind arith in
    div_below j (round_count p) (255 - p.roots) (rounds-some p j few inside) (omega (arith, rounds-room p few, swap, inside))

-- ---- the blocks of a round

-- what is summed at each position if all blocks but one are the former ones
abbrev summand : Verity → Parity → (ℕ → List ℕ) → ℕ → ℕ → ℕ → List ℕ
summand v p former n lost i = cond (nat_eq i lost) (zero_block v) (cond (nat_lt (place_number p n i) p.blocks) (former (place_number p n i)) (zero_block v))

pub zero-byte : (v : Verity) (c : ℕ) → c < v.data_block → slice_index (zero_block v) c ≡ 0
zero-byte v c lt = get_or-replicate {A = ℕ} v.data_block c 0 0 lt

pub zero-length : (v : Verity) → length (zero_block v) ≡ v.data_block
zero-length v = length-replicate {A = ℕ} v.data_block 0

summand-lost : (v : Verity) (p : Parity) (former : ℕ → List ℕ) (n lost i : ℕ) → nat_eq i lost ≡ true → summand v p former n lost i ≡ zero_block v
summand-lost v p former n lost i e = ap (λ b. cond b (zero_block v) (cond (nat_lt (place_number p n i) p.blocks) (former (place_number p n i)) (zero_block v))) e

summand-former : (v : Verity) (p : Parity) (former : ℕ → List ℕ) (n lost i : ℕ) → nat_eq i lost ≡ false → place_number p n i < p.blocks → summand v p former n lost i ≡ former (place_number p n i)
summand-former v p former n lost i e low =
    ap (λ b. cond b (zero_block v) (cond (nat_lt (place_number p n i) p.blocks) (former (place_number p n i)) (zero_block v))) e
    ∙ ap (λ b. cond b (former (place_number p n i)) (zero_block v)) (lt-ltb (place_number p n i) p.blocks low)

summand-past : (v : Verity) (p : Parity) (former : ℕ → List ℕ) (n lost i : ℕ) → nat_eq i lost ≡ false → p.blocks ≤ place_number p n i → summand v p former n lost i ≡ zero_block v
summand-past v p former n lost i e high =
    ap (λ b. cond b (zero_block v) (cond (nat_lt (place_number p n i) p.blocks) (former (place_number p n i)) (zero_block v))) e
    ∙ ap (λ b. cond b (former (place_number p n i)) (zero_block v)) (le-ltb (place_number p n i) p.blocks high)

-- its byte c is that of the former block, and 0 at the lost position
summand-own : (v : Verity) (p : Parity) (former : ℕ → List ℕ) (n lost c : ℕ) → c < v.data_block → slice_index (summand v p former n lost lost) c ≡ 0
summand-own v p former n lost c lt = ap (λ b. slice_index b c) (summand-lost v p former n lost lost (eq-eqb lost lost refl)) ∙ zero-byte v c lt

summand-other : (v : Verity) (p : Parity) (former : ℕ → List ℕ) (n lost c i : ℕ) → c < v.data_block → i ≢ lost → slice_index (summand v p former n lost i) c ≡ former_byte p former n c i
summand-other v p former n lost c i lt apart = elim (cases_lt (place_number p n i) p.blocks) [
  | inl low ↦
      ap (λ b. slice_index b c) (summand-former v p former n lost i (ne_eqb i lost apart) low)
      ∙ sym (ap (λ b. cond b (slice_index (former (place_number p n i)) c) 0) (lt-ltb (place_number p n i) p.blocks low))
  | inr high ↦
      ap (λ b. slice_index b c) (summand-past v p former n lost i (ne_eqb i lost apart) high)
      ∙ zero-byte v c lt
      ∙ sym (ap (λ b. cond b (slice_index (former (place_number p n i)) c) 0) (le-ltb (place_number p n i) p.blocks high))
]

-- the blocks that are read
round-read : (v : Verity) (p : Parity) (below : BlockSources) (former : ℕ → List ℕ) (parity : List ℕ) (j i : ℕ) → 0 < round_count p → IsWholeBeside v p below former j parity
    → round_block v p below (j % round_count p) (j / round_count p) i ≡ Ok (summand v p former (j % round_count p) (j / round_count p) i)
round-read v p below former parity j i some whole =
    let rounds : ℕ = round_count p in
    let n : ℕ = j % rounds in
    let lost : ℕ = j / rounds in
    let k : ℕ = place_number p n i in
    let low_round : n < rounds = mod-lt j some in
    let zeros : Outcome = Ok (zero_block v) in
    elim (eqb_tells i lost) [
      | inl e ↦ ap (λ b. cond b zeros (cond (nat_lt k p.blocks) (covered_block v below k) zeros)) e.0 ∙ ap Ok (sym (summand-lost v p former n lost i e.0))
      | inr e ↦ elim (cases_lt k p.blocks) [
        | inl low ↦
            let round : k % rounds ≡ n = mod-mul-add i rounds n low_round in
            let place : k / rounds ≡ i = div-mul-add i rounds n low_round in
            let apart : k ≢ j = λ same. e.1 (sym place ∙ ap (λ x. x / rounds) same) in
            ap (λ b. cond b zeros (cond (nat_lt k p.blocks) (covered_block v below k) zeros)) e.0
            ∙ ap (λ b. cond b (covered_block v below k) zeros) (lt-ltb k p.blocks low)
            ∙ whole.others k low round apart
            ∙ ap Ok (sym (summand-former v p former n lost i e.0 low))
        | inr high ↦
            ap (λ b. cond b zeros (cond (nat_lt k p.blocks) (covered_block v below k) zeros)) e.0
            ∙ ap (λ b. cond b (covered_block v below k) zeros) (le-ltb k p.blocks high)
            ∙ ap Ok (sym (summand-past v p former n lost i e.0 high))
      ]
    ]

-- ---- the lost block

length-with_parity : (roots : ℕ) (sums parity : List ℕ) → length (with_parity roots sums parity) ≡ length sums
length-with_parity roots sums parity = length-map-range_with_len (λ c. bit_xor (slice_index sums c) (part_sum roots parity c)) 0 (length sums)

pub restored-length : (v : Verity) (p : Parity) (below : BlockSources) (j : ℕ) (bytes : List ℕ) → restored_block v p below j ≡ Ok bytes → length bytes ≡ v.data_block
restored-length v p below j bytes e =
    let n : ℕ = j % round_count p in
    let at : ℕ → Outcome = round_block v p below n (j / round_count p) in
    let read = then-parts (summed_blocks (zero_block v) at (255 - p.roots)) (λ sums. then_outcome (round_parity v p below n) (λ parity. Ok (with_parity p.roots sums parity))) bytes e in
    let stored = then-parts (round_parity v p below n) (λ parity. Ok (with_parity p.roots read.0 parity)) bytes read.2 in
    let same : with_parity p.roots read.0 stored.0 ≡ bytes = cc in
    ap length (sym same) ∙ length-with_parity p.roots read.0 stored.0 ∙ length-summed (zero_block v) at (255 - p.roots) read.0 read.1 ∙ zero-length v

pub former-own : (p : Parity) (former : ℕ → List ℕ) (j c : ℕ) → j < p.blocks → former_byte p former (j % round_count p) c (j / round_count p) ≡ slice_index (former j) c
former-own p former j c inside =
    let at : place_number p (j % round_count p) (j / round_count p) ≡ j = div-add-mod' j (round_count p) in
    ap (λ k. cond (nat_lt k p.blocks) (slice_index (former k) c) 0) at ∙ ap (λ b. cond b (slice_index (former j) c) 0) (lt-ltb j p.blocks inside)

pub restored-former : (v : Verity) (p : Parity) → p.roots ≤ 24 → (below : BlockSources) (former : ℕ → List ℕ) (parity : List ℕ) (j : ℕ) → j < p.blocks
    → IsFormerRound v p former (j % round_count p) parity → IsWholeBeside v p below former j parity → restored_block v p below j ≡ Ok (former j)
restored-former v p few below former parity j inside round whole =
    let n : ℕ = j % round_count p in
    let lost : ℕ = j / round_count p in
    let m : ℕ = 255 - p.roots in
    let some = rounds-some p j few inside in
    let place : lost < m = place-below p j few inside in
    let block : ℕ → List ℕ = summand v p former n lost in
    let blank = zero-length v in
    let found = summed (zero_block v) (round_block v p below n lost) block m (λ c lt. zero-byte v c (omega (arith, lt, blank))) (λ i h. round-read v p below former parity j i some whole) in
    let sums = found.0 in
    let known = found.1 in
    let size : length sums ≡ v.data_block = known.size ∙ blank in
    let long = length-with_parity p.roots sums parity in
    let bytes : (c : ℕ) → c < length (with_parity p.roots sums parity) → slice_index (with_parity p.roots sums parity) c ≡ slice_index (former j) c
    = λ c lt.
    let within : c < v.data_block = omega (arith, lt, long, size) in
    get_or-map-range_with_len (λ c. bit_xor (slice_index sums c) (part_sum p.roots parity c)) 0 (length sums) c c 0 (omega (arith, lt, long)) (omega arith)
    ∙ ap (λ x. bit_xor x (part_sum p.roots parity c)) (known.bytes c (omega (arith, within, blank)))
    ∙ total-lost (former_byte p former n c) (λ i. slice_index (block i) c) m lost (part_sum p.roots parity c) place
    (summand-own v p former n lost c within)
    (λ i h apart. summand-other v p former n lost c i within apart)
    (round.sums c within)
    ∙ former-own p former j c inside in
    ap (λ (x : Outcome). then_outcome x (λ s. then_outcome (round_parity v p below n) (λ q. Ok (with_parity p.roots s q)))) known.is
    ∙ ap (λ (x : Outcome). then_outcome x (λ q. Ok (with_parity p.roots sums q))) whole.stored
    ∙ ap Ok (ext_get_or 0 (with_parity p.roots sums parity) (former j) (long ∙ size ∙ sym (round.sizes j inside)) bytes)

pub lost-restored : OneLostBlockIsRestored
lost-restored v p few below former parity j inside round whole =
    ap (λ (x : Outcome). then_outcome x (checked v.salt (digest v.salt (former j)))) (restored-former v p few below former parity j inside round whole)
    ∙ checked-same v.salt (digest v.salt (former j)) (former j) refl

-- ---- healing

-- a block that is healed is the block or its spare
pub healed-from : (own spare : Outcome) (bytes : List ℕ) → healed_outcome own spare ≡ Ok bytes → (own ≡ Ok bytes) ⊎ (spare ≡ Ok bytes)
healed-from (Ok block) spare bytes e = inl e
healed-from (Err fault) (Ok block) bytes e = inr e
healed-from (Err fault) (Err other) bytes e = cc

healed-fault : (own spare : Outcome) (fault : Fault) → healed_outcome own spare ≡ Err fault → own ≡ Err fault
healed-fault (Ok block) spare fault e = e
healed-fault (Err own) (Ok block) fault e = cc
healed-fault (Err own) (Err other) fault e = e

pub healing-keeps : HealingKeepsBlocks
healing-keeps own spare = record {
  block = λ bytes e. ap (λ (x : Outcome). healed_outcome x spare) e;
  fault = λ fault e. healed-fault own spare fault e;
}
