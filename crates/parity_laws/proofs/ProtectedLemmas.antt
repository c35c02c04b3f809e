-- The rounds of an image with parity are the former rounds of a line with that parity.
use Rattle.std.proofs.Common.{◌≡◌, ℕ, ◌+◌, ◌-◌, ◌*◌, ◌/◌, ◌%◌, ◌<◌, ◌≤◌, nat_lt, cond, List, [], length, map, inl, inr, sym, subst, ap, ◌∙◌, arith, bit_xor}
use Rattle.std.specs.Prelude.{slice_index}
use Rattle.std.specs.Int.{div_ceil}
use Rattle.std.specs.List.{range_with_len, slice_index_or}
use Rattle.std.proofs.Math.Nat.{mod-lt}
use Rattle.std.proofs.lemmas.Bool.{cases_lt, cond-true, cond-false, lt-ltb, le-ltb}
use Rattle.std.proofs.lemmas.Grind.{div_ceil_times, same_number_lists}
use Rattle.std.proofs.lemmas.List.{get_or_past}
use Rattle.std.proofs.lemmas.List.FromFn.{get_or-map-range_with_len, length-map-range_with_len}
use Rattle.reed_solomon.specs.Code.{IsCodeword}
use Rattle.reed_solomon.specs.Field.{total}
use Rattle.reed_solomon.specs.Sums.{part_sum}
use Rattle.reed_solomon.proofs.CodeLemmas.{total-same}
use Rattle.dm_table.specs.declared.parity.Parity.{Parity}
use Rattle.dm_table.specs.declared.verity.Verity.{Verity}
use Rattle.tree_shape.specs.Shape.{ancestor}
use Rattle.stack_rules.specs.Trees.{block_sectors, round_count, tree_of}
use Rattle.stack_meaning.specs.Blocks.{covered_hash}
use Rattle.stack_config.proofs.lemmas.ParityLineLemmas.{parity-line}
use Rattle.stack_meaning.specs.Erasures.{IsFormerCode, former_word}
use Rattle.stack_meaning.specs.Spares.{BlockSources, IsFormerRound, former_byte, place_number}
use Rattle.stack_engine.specs.DamagedData.{DamagedDataIsRead, IsKeptOrRestorable, line_sources}
use Rattle.stack_engine.proofs.lemmas.FormattedLemmas.{block-low, facts, line-is}
use Rattle.verity_format.specs.Blocks.{block_at}
use Rattle.verity_format.proofs.lemmas.SizeLemmas.{block-inside}
use Rattle.verity_format.proofs.lemmas.RunLemmas.{block-sized}
use Rattle.fec_area.specs.declared.layout.Layout.{Layout}
use Rattle.fec_area.specs.Layouts.{IsLayout, code_rounds, codeword, covered, covered_blocks, message_byte}
use Rattle.fec_area.specs.Sums.{RoundsSumToZeros}
use Rattle.parity_laws.specs.ProtectedLines.{HasKeptRound, IsLayoutOfLine, IsProtectedImage, ProtectedDataIsRead, ProtectedImage, ProtectedRoundsAreFormer, protected_block, protected_data, protected_parity}

-- ---- covered blocks

data-covered : (l : Layout) (d h : List (List ℕ)) (j : ℕ) → j < l.data_blocks → covered l d h j ≡ block_at d l.block j
data-covered l d h j low = cond-true (nat_lt j l.data_blocks) _ _ (lt-ltb j l.data_blocks low)

hash-covered : (l : Layout) (d h : List (List ℕ)) (j : ℕ) → l.data_blocks ≤ j → j < covered_blocks l → covered l d h j ≡ block_at h l.block (l.hash_first + (j - l.data_blocks))
hash-covered l d h j high low = cond-false (nat_lt j l.data_blocks) _ _ (le-ltb j l.data_blocks high) ∙ cond-true (nat_lt j (covered_blocks l)) _ _ (lt-ltb j (covered_blocks l) low)

none-covered : (l : Layout) (d h : List (List ℕ)) (j : ℕ) → covered_blocks l ≤ j → covered l d h j ≡ []
none-covered l d h j high = cond-false (nat_lt j l.data_blocks) _ _ (le-ltb j l.data_blocks (omega (arith, high))) ∙ cond-false (nat_lt j (covered_blocks l)) _ _ (le-ltb j (covered_blocks l) high)

module _ (l : Layout) (valid : IsLayout l) (f : ProtectedImage) (image : IsProtectedImage l f) where
  -- each of them has the size of a block
  covered-whole : (j : ℕ) → j < covered_blocks l → length (protected_block l f j) ≡ l.block
  covered-whole j low = elim (cases_lt j l.data_blocks) [
    | inl own ↦
        ap length (data-covered l f.data_image f.hash_image j own)
        ∙ block-sized f.data_image l.block valid.size image.data_sectors j (omega (arith, block-inside j l.data_blocks (l.block / 512) own, image.data_fits))
    | inr past ↦
        let at : ℕ = l.hash_first + (j - l.data_blocks) in
        let inside : at < l.hash_first + l.hash_blocks = omega (arith, low, past) in
        ap length (hash-covered l f.data_image f.hash_image j past low)
        ∙ block-sized f.hash_image l.block valid.size image.hash_sectors at (omega (arith, block-inside at (l.hash_first + l.hash_blocks) (l.block / 512) inside, image.hash_fits))
  ]

-- ---- the rounds

module _ (v : Verity) (p : Parity) (l : Layout) (f : ProtectedImage) (laid : IsLayoutOfLine v p l) where
  rounds-are : code_rounds l ≡ round_count p
  rounds-are = ap (λ n. div_ceil n (255 - l.roots)) laid.all ∙ ap (λ n. div_ceil p.blocks (255 - n)) laid.roots

  -- byte c of the block at a position
  byte-is : (n c i : ℕ) → former_byte p (protected_block l f) n c i ≡ message_byte l f.data_image f.hash_image n c i
  byte-is n c i =
      let at : i * code_rounds l + n ≡ place_number p n i = ap (λ m. i * m + n) rounds-are in
      let own : ℕ = slice_index (protected_block l f (place_number p n i)) c in
      elim (cases_lt (place_number p n i) p.blocks) [
        | inl low ↦ cond-true (nat_lt (place_number p n i) p.blocks) own 0 (lt-ltb (place_number p n i) p.blocks low) ∙ ap (λ j. slice_index (protected_block l f j) c) (sym at)
        | inr high ↦
            let past : covered_blocks l ≤ i * code_rounds l + n = omega (arith, laid.all, at, high) in
            cond-false (nat_lt (place_number p n i) p.blocks) own 0 (le-ltb (place_number p n i) p.blocks high)
            ∙ sym (ap (λ b. slice_index b c) (none-covered l f.data_image f.hash_image (i * code_rounds l + n) past) ∙ get_or_past {X = ℕ} [] c 0 (omega arith))
      ]

  round-former : RoundsSumToZeros → IsProtectedImage l f → (n : ℕ) → n < round_count p → IsFormerRound v p (protected_block l f) n (protected_parity l f n)
  round-former law image n low = record {
    sizes = λ j inside. covered-whole l laid.layout f image j (omega (arith, laid.all, inside)) ∙ laid.size;
    sums = λ c lt.
        let parity = protected_parity l f n in
        let zeros = law l laid.layout f.data_image f.hash_image n parity (image.parity_is n (omega (arith, rounds-are, low))) c (omega (arith, laid.size, lt)) in
        let former : total (former_byte p (protected_block l f) n c) (255 - p.roots) ≡ total (message_byte l f.data_image f.hash_image n c) (255 - p.roots) =
        total-same (former_byte p (protected_block l f) n c) (message_byte l f.data_image f.hash_image n c) (255 - p.roots) (λ i h. byte-is n c i) in
        ap (λ x. bit_xor x (part_sum p.roots parity c)) former
        ∙ ap (λ m. bit_xor (total (message_byte l f.data_image f.hash_image n c) (255 - m)) (part_sum m parity c)) (sym laid.roots)
        ∙ zeros;
  }

  -- byte i of codeword c
  abbrev word-byte : ℕ → List ℕ → ℕ → ℕ → ℕ
  word-byte n parity c i = cond (nat_lt i (255 - l.roots)) (message_byte l f.data_image f.hash_image n c i) (slice_index parity (c * l.roots + (i - (255 - l.roots))))

  abbrev word-of : ℕ → List ℕ → ℕ → ℕ → ℕ
  word-of n parity c i = cond (nat_lt i (255 - p.roots)) (former_byte p (protected_block l f) n c i) (slice_index parity (c * p.roots + (i - (255 - p.roots))))

  byte-same : (n : ℕ) (parity : List ℕ) (c i : ℕ) → word-byte n parity c i ≡ word-of n parity c i
  byte-same n parity c i =
      ap (λ m. cond (nat_lt i (255 - m)) (message_byte l f.data_image f.hash_image n c i) (slice_index parity (c * m + (i - (255 - m))))) laid.roots
      ∙ ap (λ x. cond (nat_lt i (255 - p.roots)) x (slice_index parity (c * p.roots + (i - (255 - p.roots))))) (sym (byte-is n c i))

  word-is : (n : ℕ) (parity : List ℕ) (c : ℕ) → codeword l f.data_image f.hash_image n parity c ≡ former_word p (protected_block l f) n parity c
  unfolding codeword
  word-is n parity c =
      let long : length (map (word-byte n parity c) (range_with_len 0 255)) ≡ 255 = length-map-range_with_len (word-byte n parity c) 0 255 in
      let also : length (map (word-of n parity c) (range_with_len 0 255)) ≡ 255 = length-map-range_with_len (word-of n parity c) 0 255 in
      same_number_lists (map (word-byte n parity c) (range_with_len 0 255)) (map (word-of n parity c) (range_with_len 0 255)) (long ∙ sym also)
      (λ i lt.
      let low : i < 255 = omega (arith, lt, long) in
      get_or-map-range_with_len (word-byte n parity c) 0 255 i i 0 low (omega arith)
      ∙ byte-same n parity c i
      ∙ sym (get_or-map-range_with_len (word-of n parity c) 0 255 i i 0 low (omega arith)))

  round-code : IsProtectedImage l f → (n : ℕ) → n < round_count p → IsFormerCode v p (protected_block l f) n (protected_parity l f n)
  round-code image n low = record {
    sizes = λ j inside. covered-whole l laid.layout f image j (omega (arith, laid.all, inside)) ∙ laid.size;
    words = λ c lt.
        let parity = protected_parity l f n in
        let stored = image.parity_is n (omega (arith, rounds-are, low)) c (omega (arith, laid.size, lt)) in
        subst (IsCodeword p.roots) (word-is n parity c) (subst (λ m. IsCodeword m (codeword l f.data_image f.hash_image n parity c)) laid.roots stored);
  }

pub rounds-former : RoundsSumToZeros → ProtectedRoundsAreFormer
rounds-former law v p l f laid image n low = (round-former v p l f laid law image n low, round-code v p l f laid image n low)

-- ---- a sector of a line

-- there is a round, if there are blocks
rounds-some : (p : Parity) → p.roots ≤ 24 → 0 < p.blocks → 0 < round_count p
rounds-some p few some = elim (cases_lt 0 (round_count p)) [
  | inl is ↦ is
  | inr none ↦
      let zeros : round_count p ≡ 0 = omega (arith, none) in
      let nothing : round_count p * (255 - p.roots) ≡ 0 * (255 - p.roots) = ap (λ n. n * (255 - p.roots)) zeros in
      absurd (omega (arith, nothing, (div_ceil_times p.blocks (255 - p.roots) (omega (arith, few))).0, some))
]

-- covered block j
module _ (v : Verity) (p : Parity) (l : Layout) (f : ProtectedImage) (from : BlockSources) (law : RoundsSumToZeros) (laid : IsLayoutOfLine v p l) (image : IsProtectedImage l f) (some : 0 < round_count p) where
  kept-restorable : (j : ℕ) → HasKeptRound v p l f from j → IsKeptOrRestorable v p from (protected_block l f) j
  kept-restorable j kept = elim kept [
    | inl own ↦ inl own
    | inr beside ↦
        inr (record {
          parity = protected_parity l f (j % round_count p);
          beside = elim beside [
            | inl known ↦ inl (round-code v p l f laid image (j % round_count p) (mod-lt j some), known)
            | inr whole ↦ inr (round-former v p l f laid law image (j % round_count p) (mod-lt j some), whole)
          ];
        })
  ]

pub protected-read : RoundsSumToZeros → DamagedDataIsRead → ProtectedDataIsRead
protected-read law damaged c loaded images whole d s k line v lies p l f is kept =
    let i : ℕ = (s - line.start) / block_sectors v in
    let from = line_sources c images v in
    let low = block-low c loaded images whole d s k line v lies in
    let line_facts = facts c loaded images whole d s k line v lies in
    let parity = parity-line c d k line v p loaded (line-is c loaded images whole d s k line v lies) lies.has is.has line_facts.1 line_facts.2.hash_named in
    let inside : i < p.blocks = omega (arith, low, parity.1.covers) in
    let some : 0 < round_count p = rounds-some p parity.1.grammar.most_roots (omega (arith, inside)) in
    let block : List ℕ = slice_index_or (protected_data v f) i [] in
    let own : protected_block l f i ≡ block =
    data-covered l f.data_image f.hash_image i (omega (arith, is.laid.data_blocks, low))
    ∙ ap (λ n. block_at f.data_image n i) is.laid.size
    ∙ sym (get_or-map-range_with_len (block_at f.data_image v.data_block) 0 v.blocks i i [] low (omega arith)) in
    damaged c loaded images whole d s k line v lies p (protected_data v f) (protected_block l f) (record {
      has = is.has;
      sized = is.sized;
      root_is = is.root_is;
      own = own;
      above = kept.above;
      block = kept-restorable v p l f from law is.laid is.protected some i kept.block;
      path = λ n inside. kept-restorable v p l f from law is.laid is.protected some (covered_hash v n (ancestor (tree_of v) (n + 1) i)) (kept.path n inside);
    })
