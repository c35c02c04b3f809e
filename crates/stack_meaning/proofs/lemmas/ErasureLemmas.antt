-- The lost blocks of a round are restored, if there are no more of them than bytes of parity, and a spare has its digest.
use Rattle.std.proofs.Common.{◌≡◌, ◌≢◌, ◌⊎◌, ℕ, zero, suc, ◌+◌, ◌-◌, ◌/◌, ◌%◌, ◌<◌, ◌≤◌, Bool, true, false, not, cond, nat_eq, nat_lt, ◌&&◌, ◌||◌, List, [], ◌∷◌, ◌++◌, length, Option, Some, None, Ok, Err, inl, inr, refl, sym, ap, ◌∙◌, arith, bit_xor, subst}
use Rattle.std.specs.Prelude.{slice_index}
use Rattle.std.specs.Str.{bytes_eq}
use Rattle.std.proofs.lemmas.Bool.{cases_lt, eq-eqb, le-ltb, lt-ltb, ne_eqb}
use Rattle.std.proofs.lemmas.Bool.Decides.{eqb_tells}
use Rattle.std.proofs.lemmas.List.Folds.{list_any-append}
use Rattle.std.proofs.lemmas.List.FromFn.{length-map-range_with_len}
use Rattle.std.proofs.lemmas.Nat.{div-mul-add, mod-mul-add, div-add-mod'}
use Rattle.std.proofs.Math.Nat.{mod-lt}
use Rattle.std.proofs.lemmas.Slice.Eq.{bytes_eq-Decides}
use Rattle.reed_solomon.specs.Factors.{erasure_factor}
use Rattle.reed_solomon.specs.Sums.{part_combination}
use Rattle.tree_shape.specs.Digests.{digest}
use Rattle.dm_table.specs.declared.parity.Parity.{Parity}
use Rattle.dm_table.specs.declared.verity.Verity.{Verity}
use Rattle.stack_rules.specs.Trees.{round_count, zero_block}
use Rattle.stack_meaning.specs.Outcomes.{Outcome, changed_outcome, mismatch, span, then_outcome}
use Rattle.stack_meaning.specs.Checked.{checked, checked_span}
use Rattle.stack_meaning.specs.Spares.{BlockSources, covered_block, healed_outcome, place_number, restored_block, round_parity, spare_block, summed_blocks}
use Rattle.stack_meaning.specs.Erasures.{HealedBlocksAreVerified, IsFormerCode, IsKeptElsewhere, IsKnownBeside, LostBlocksAreRestored, SharesDigest, covered_spare, decoded_block, erasure_spare, erasures_by, is_among, is_lost, is_lost_beside, is_lost_by, kept_block, known_digest, lost_places, round_losses, round_spare, scaled_block, with_scaled_parity}
use Rattle.stack_meaning.proofs.lemmas.CheckedLemmas.{checked-digest, checked-is, checked-same, then-parts}
use Rattle.stack_meaning.proofs.lemmas.SpareLemmas.{healed-from, length-summed, place-below, restored-length, rounds-some, zero-length}
use Rattle.stack_meaning.proofs.lemmas.DecodedLemmas.{decoded, either}

-- ---- lost blocks

module _ (v : Verity) (p : Parity) (below : BlockSources) (j : ℕ) where
  abbrev own : ℕ
  own = j / round_count p

  abbrev number : ℕ → ℕ
  number i = place_number p (j % round_count p) i

  losses-next : (m : ℕ) (b : Bool) → is_lost_beside v p below j m ≡ b → lost_places v p below j (suc m) ≡ cond b (lost_places v p below j m ++ (m ∷ [])) (lost_places v p below j m)
  unfolding lost_places
  losses-next m b e = ap (λ t. cond t (lost_places v p below j m ++ (m ∷ [])) (lost_places v p below j m)) e

  losses-own : (m : ℕ) → is_among (lost_places v p below j m) own ≡ true
  unfolding lost_places
  losses-own zero = ap (λ b. b || false) (eq-eqb own own refl)
  losses-own (suc m) = elim (either (is_lost_beside v p below j m)) [
    | inl e ↦ ap (λ xs. is_among xs own) (losses-next m true e) ∙ list_any-append (λ k. nat_eq k own) (lost_places v p below j m) (m ∷ []) ∙ ap (λ b. b || is_among (m ∷ []) own) (losses-own m)
    | inr e ↦ ap (λ xs. is_among xs own) (losses-next m false e) ∙ losses-own m
  ]

  -- each is the block itself, or a position below m
  losses-inside : (m i : ℕ) → is_among (lost_places v p below j m) i ≡ true → (i ≡ own) ⊎ (i < m)
  unfolding lost_places
  losses-inside zero i e = elim (eqb_tells own i) [
    | inl same ↦ inl (sym same.1)
    | inr other ↦
        let none : false ≡ true = sym (ap (λ b. b || false) other.0) ∙ e in
        cc none
  ]
  losses-inside (suc m) i e =
      let before : is_among (lost_places v p below j m) i ≡ true → (i ≡ own) ⊎ (i < suc m) = λ is. elim (losses-inside m i is) [
        | inl same ↦ inl same
        | inr low ↦ inr (omega (arith, low))
      ] in
      elim (either (is_lost_beside v p below j m)) [
        | inl lost ↦
            let split : (is_among (lost_places v p below j m) i || is_among (m ∷ []) i) ≡ true = sym (list_any-append (λ k. nat_eq k i) (lost_places v p below j m) (m ∷ [])) ∙ sym (ap (λ xs. is_among xs i) (losses-next m true lost)) ∙ e in
            elim (either (is_among (lost_places v p below j m) i)) [
              | inl is ↦ before is
              | inr isnt ↦ elim (eqb_tells m i) [
                | inl same ↦
                    let at = same.1 in
                    inr (omega (arith, at))
                | inr other ↦
                    let none : false ≡ true = sym (ap (λ b. b || is_among (m ∷ []) i) isnt ∙ ap (λ b. b || false) other.0) ∙ split in
                    cc none
              ]
            ]
        | inr good ↦ before (sym (ap (λ xs. is_among xs i) (losses-next m false good)) ∙ e)
      ]

  -- a position that isn't among them has no lost block
  losses-all : (m i : ℕ) → i < m → is_among (lost_places v p below j m) i ≡ false → is_lost_beside v p below j i ≡ false
  unfolding lost_places
  losses-all zero i low e = absurd (omega (arith, low))
  losses-all (suc m) i low e = elim (either (is_lost_beside v p below j m)) [
    | inl lost ↦
        let split : (is_among (lost_places v p below j m) i || is_among (m ∷ []) i) ≡ false = sym (list_any-append (λ k. nat_eq k i) (lost_places v p below j m) (m ∷ [])) ∙ sym (ap (λ xs. is_among xs i) (losses-next m true lost)) ∙ e in
        elim (either (is_among (lost_places v p below j m) i)) [
          | inl is ↦
              let none : true ≡ false = sym (ap (λ b. b || is_among (m ∷ []) i) is) ∙ split in
              cc none
          | inr isnt ↦ elim (eqb_tells m i) [
            | inl same ↦
                let none : true ≡ false = sym (ap (λ b. b || is_among (m ∷ []) i) isnt ∙ ap (λ b. b || false) same.0) ∙ split in
                cc none
            | inr other ↦
                let apart = other.1 in
                losses-all m i (omega (arith, low, apart)) isnt
          ]
        ]
    | inr good ↦ elim (eqb_tells m i) [
      | inl same ↦ ap (λ k. is_lost_beside v p below j k) (sym same.1) ∙ good
      | inr other ↦
          let apart = other.1 in
          losses-all m i (omega (arith, low, apart)) (sym (ap (λ xs. is_among xs i) (losses-next m false good)) ∙ e)
    ]
  ]

  -- so another block of the round isn't lost
  good-beside : (i : ℕ) → i ≢ own → number i < p.blocks → is_lost_beside v p below j i ≡ false → is_lost v below (number i) ≡ false
  good-beside i apart low e =
      sym (ap (λ b. not b && (nat_lt (number i) p.blocks && is_lost v below (number i))) (ne_eqb i own apart) ∙ ap (λ b. b && is_lost v below (number i)) (lt-ltb (number i) p.blocks low)) ∙ e

-- ---- blocks that aren't lost

not-false : (b : Bool) → not b ≡ false → b ≡ true
not-false true e = refl
not-false false e = cc e

-- a block that isn't lost is the former one, or has its digest
former-or-shared : (v : Verity) (below : BlockSources) (former : List ℕ) (k : ℕ) → is_lost v below k ≡ false
    → (known_digest v below k ≡ Ok (digest v.salt former)) ⊎ (covered_block v below k ≡ Ok former) → (covered_block v below k ≡ Ok former) ⊎ SharesDigest v.salt former
former-or-shared v below former k good (inr is) = inl is
former-or-shared v below former k good (inl known) = go (covered_block v below k) refl
  where
    go : (own : Outcome) → covered_block v below k ≡ own → (own ≡ Ok former) ⊎ SharesDigest v.salt former
    go (Err fault) e =
        let none : true ≡ false = sym (ap (λ (x : Outcome). is_lost_by v.salt x (known_digest v below k)) e) ∙ good in
        cc none
    go (Ok block) e =
        let test : not (bytes_eq (digest v.salt block) (digest v.salt former)) ≡ false
        = sym (ap (λ (x : Outcome). is_lost_by v.salt x (known_digest v below k)) e ∙ ap (λ (x : Outcome). is_lost_by v.salt (Ok block) x) known) ∙ good in
        let same = (bytes_eq-Decides (digest v.salt block) (digest v.salt former)).0 (not-false (bytes_eq (digest v.salt block) (digest v.salt former)) test) in
        elim (either (bytes_eq block former)) [
          | inl is ↦ inl (ap Ok ((bytes_eq-Decides block former).0 is))
          | inr isnt ↦ inr (record {
            other = block;
            differs = λ e. let none : true ≡ false = sym ((bytes_eq-Decides block former).1 e) ∙ isnt in cc none;
            same = same;
          })
        ]

module _ (v : Verity) (p : Parity) (few : p.roots ≤ 24) (below : BlockSources) (former : ℕ → List ℕ) (parity : List ℕ) (j : ℕ) (inside : j < p.blocks)
    (code : IsFormerCode v p former (j % round_count p) parity) (known : IsKnownBeside v p below former j parity) where
  abbrev most : ℕ
  most = 255 - p.roots

  abbrev losses : List ℕ
  losses = lost_places v p below j most

  -- two blocks of the round have one digest
  abbrev Shared : Type 0
  Shared = (k : ℕ) × (k < p.blocks) × (k % round_count p ≡ j % round_count p) × SharesDigest v.salt (former k)

  abbrev IsFormerAt : ℕ → Type 0
  IsFormerAt i = place_number p (j % round_count p) i < p.blocks → is_among losses i ≡ false → covered_block v below (place_number p (j % round_count p) i) ≡ Ok (former (place_number p (j % round_count p) i))

  former-at : (i : ℕ) → i < most → IsFormerAt i ⊎ Shared
  former-at i low =
      let n : ℕ = j % round_count p in
      let k : ℕ = place_number p n i in
      let low_round : n < round_count p = mod-lt j (rounds-some p j few inside) in
      let same_round : k % round_count p ≡ n = mod-mul-add i (round_count p) n low_round in
      let place : k / round_count p ≡ i = div-mul-add i (round_count p) n low_round in
      elim (cases_lt k p.blocks) [
        | inr past ↦ inl (λ here. absurd (omega (arith, here, past)))
        | inl here ↦ elim (either (is_among losses i)) [
          | inl lost ↦ inl (λ at isnt. let none : true ≡ false = sym lost ∙ isnt in cc none)
          | inr isnt ↦
              let apart : i ≢ j / round_count p = λ e. let none : true ≡ false = sym (losses-own v p below j most) ∙ ap (λ x. is_among losses x) (sym e) ∙ isnt in cc none in
              let other : k ≢ j = λ e. apart (sym place ∙ ap (λ x. x / round_count p) e) in
              let good = good-beside v p below j i apart here (losses-all v p below j most i low isnt) in
              elim (former-or-shared v below (former k) k good (known.others k here same_round other)) [
                | inl is ↦ inl (λ at gone. is)
                | inr shared ↦ inr (k, here, same_round, shared)
              ]
        ]
      ]

  all-former : (m : ℕ) → m ≤ most → ((i : ℕ) → i < m → IsFormerAt i) ⊎ Shared
  all-former zero h = inl (λ i low. absurd (omega (arith, low)))
  all-former (suc m) h = elim (all-former m (omega (arith, h))) [
    | inr shared ↦ inr shared
    | inl before ↦ elim (former-at m (omega (arith, h))) [
      | inr shared ↦ inr shared
      | inl here ↦ inl (λ i low. elim (eqb_tells i m) [
        | inl e ↦ subst IsFormerAt (sym e.1) here
        | inr e ↦
            let apart = e.1 in
            before i (omega (arith, low, apart))
      ])
    ]
  ]

  kept-elsewhere : ((i : ℕ) → i < most → IsFormerAt i) → IsKeptElsewhere v p below former j parity losses
  kept-elsewhere all = record {
    own = losses-own v p below j most;
    inside = λ i is. elim (losses-inside v p below j most i is) [
      | inl e ↦ subst (λ x. x < most) (sym e) (place-below p j few inside)
      | inr low ↦ low
    ];
    others = λ k low round isnt.
        let number : place_number p (j % round_count p) (k / round_count p) ≡ k = ap (λ x. place_number p x (k / round_count p)) (sym round) ∙ div-add-mod' k (round_count p) in
        let here = all (k / round_count p) (place-below p k few low) in
        subst (λ x. covered_block v below x ≡ Ok (former x)) number (here (subst (λ x. x < p.blocks) (sym number) low) isnt);
    stored = known.stored;
  }

  erasures-restore : ((i : ℕ) → i < most → IsFormerAt i) → erasure_spare v p below j (digest v.salt (former j)) ≡ Ok (former j)
  erasures-restore all =
      let block : erasures_by v p below j losses ≡ Ok (former j)
      = ap (λ b. cond b (Err mismatch) (decoded_block v p below j losses)) (le-ltb p.roots (length losses) known.few)
      ∙ decoded v p few below former parity losses j inside known.few code (kept-elsewhere all) in
      ap (λ (x : Outcome). then_outcome x (checked v.salt (digest v.salt (former j)))) block ∙ checked-same v.salt (digest v.salt (former j)) (former j) refl

  -- the exclusive-or, if it has the digest, is the former block or shares it
  restored : (round_spare v p below j (digest v.salt (former j)) ≡ Ok (former j)) ⊎ Shared
  restored = go (spare_block v p below j (digest v.salt (former j))) refl
    where
      go : (sum : Outcome) → spare_block v p below j (digest v.salt (former j)) ≡ sum → (healed_outcome sum (erasure_spare v p below j (digest v.salt (former j))) ≡ Ok (former j)) ⊎ Shared
      go (Ok block) e =
          let read = then-parts (restored_block v p below j) (checked v.salt (digest v.salt (former j))) block e in
          let same = checked-digest v.salt (digest v.salt (former j)) read.0 block read.2 in
          elim (either (bytes_eq block (former j))) [
            | inl is ↦ inl (ap Ok ((bytes_eq-Decides block (former j)).0 is))
            | inr isnt ↦ inr (
              j,
              inside,
              refl,
              record {
                other = block;
                differs = λ e. let none : true ≡ false = sym ((bytes_eq-Decides block (former j)).1 e) ∙ isnt in cc none;
                same = same;
              },
            )
          ]
      go (Err fault) e = elim (all-former most (omega arith)) [
        | inr shared ↦ inr shared
        | inl all ↦ inl (ap (λ (x : Outcome). healed_outcome (Err fault) x) (erasures-restore all))
      ]

pub losses-restored : LostBlocksAreRestored
losses-restored v p few below former parity j inside code known = restored v p few below former parity j inside code known

-- ---- spares

-- a spare by erasures is what the code restores over no more positions than bytes of parity
pub erasures-parts : (v : Verity) (p : Parity) (below : BlockSources) (j : ℕ) (lost bytes : List ℕ) → erasures_by v p below j lost ≡ Ok bytes → (length lost ≤ p.roots) × (decoded_block v p below j lost ≡ Ok bytes)
erasures-parts v p below j lost bytes e = elim (cases_lt p.roots (length lost)) [
  | inl many ↦
      let none : Err mismatch ≡ Ok bytes = sym (ap (λ b. cond b (Err mismatch) (decoded_block v p below j lost)) (lt-ltb p.roots (length lost) many)) ∙ e in
      cc none
  | inr few ↦ (few, sym (ap (λ b. cond b (Err mismatch) (decoded_block v p below j lost)) (le-ltb p.roots (length lost) few)) ∙ e)
]

-- a spare is the sum, or what the code restores
pub spare-parts : (v : Verity) (p : Parity) (below : BlockSources) (j : ℕ) (expected bytes : List ℕ) → round_spare v p below j expected ≡ Ok bytes
    → ((restored_block v p below j ≡ Ok bytes) ⊎ ((length (round_losses v p below j) ≤ p.roots) × (decoded_block v p below j (round_losses v p below j) ≡ Ok bytes))) × (digest v.salt bytes ≡ expected)
spare-parts v p below j expected bytes e = elim (healed-from (spare_block v p below j expected) (erasure_spare v p below j expected) bytes e) [
  | inl sum ↦
      let read = then-parts (restored_block v p below j) (checked v.salt expected) bytes sum in
      (inl (read.1 ∙ ap Ok (checked-is v.salt expected read.0 bytes read.2)), checked-digest v.salt expected read.0 bytes read.2)
  | inr code ↦
      let read = then-parts (erasures_by v p below j (round_losses v p below j)) (checked v.salt expected) bytes code in
      let found : erasures_by v p below j (round_losses v p below j) ≡ Ok bytes = read.1 ∙ ap Ok (checked-is v.salt expected read.0 bytes read.2) in
      (inr (erasures-parts v p below j (round_losses v p below j) bytes found), checked-digest v.salt expected read.0 bytes read.2)
]

pub spare-verified : (v : Verity) (p : Parity) (below : BlockSources) (j : ℕ) (expected bytes : List ℕ) → round_spare v p below j expected ≡ Ok bytes → digest v.salt bytes ≡ expected
spare-verified v p below j expected bytes e = (spare-parts v p below j expected bytes e).1

decoded-length : (v : Verity) (p : Parity) (below : BlockSources) (j : ℕ) (lost bytes : List ℕ) → decoded_block v p below j lost ≡ Ok bytes → length bytes ≡ v.data_block
decoded-length v p below j lost bytes e =
    let n : ℕ = j % round_count p in
    let factor : ℕ → ℕ = erasure_factor lost (j / round_count p) in
    let ends : ℕ → ℕ = λ k. factor (255 - p.roots + k) in
    let at : ℕ → Outcome = λ i. changed_outcome (scaled_block (factor i)) (kept_block v p below n lost i) in
    let read = then-parts (summed_blocks (zero_block v) at (255 - p.roots)) (λ sums. then_outcome (round_parity v p below n) (λ parity. Ok (with_scaled_parity ends p.roots sums parity))) bytes e in
    let stored = then-parts (round_parity v p below n) (λ parity. Ok (with_scaled_parity ends p.roots read.0 parity)) bytes read.2 in
    let same : with_scaled_parity ends p.roots read.0 stored.0 ≡ bytes = cc in
    ap length (sym same)
    ∙ length-map-range_with_len (λ c. bit_xor (slice_index read.0 c) (part_combination ends p.roots stored.0 c)) 0 (length read.0)
    ∙ length-summed (zero_block v) at (255 - p.roots) read.0 read.1
    ∙ zero-length v

-- a spare has the size of a block
pub spare-length : (v : Verity) (below : BlockSources) (parity : Option Parity) (i : ℕ) (expected bytes : List ℕ) → covered_spare v below parity i expected ≡ Ok bytes → length bytes ≡ v.data_block
spare-length v below None i expected bytes e = cc
spare-length v below (Some p) i expected bytes e = elim (spare-parts v p below i expected bytes e).0 [
  | inl sum ↦ restored-length v p below i bytes sum
  | inr code ↦ decoded-length v p below i (round_losses v p below i) bytes code.1
]

-- ---- healing

pub healed-verified : HealedBlocksAreVerified
healed-verified v p below at first n j expected bytes e = elim (healed-from (checked_span at first n v.salt expected) (round_spare v p below j expected) bytes e) [
  | inl own ↦
      let read = then-parts (span at first n) (checked v.salt expected) bytes own in
      checked-digest v.salt expected read.0 bytes read.2
  | inr spare ↦ spare-verified v p below j expected bytes spare
]
