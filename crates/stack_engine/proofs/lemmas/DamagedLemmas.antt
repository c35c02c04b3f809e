-- A verity line with parity that has lost blocks.
use Rattle.std.proofs.Common.{◌≡◌, ◌≢◌, ◌⊎◌, ℕ, zero, suc, ◌+◌, ◌-◌, ◌*◌, ◌/◌, ◌<◌, ◌≤◌, Bool, true, false, List, [], ◌++◌, length, get_or, map, Some, Ok, Err, inl, inr, refl, sym, ap, ◌∙◌, subst, arith}
use Rattle.std.specs.Str.{bytes_eq}
use Rattle.std.proofs.lemmas.Bool.{cases_Bool, cond-true, cond-false}
use Rattle.std.proofs.lemmas.List.{append_cancel_left}
use Rattle.std.proofs.lemmas.Slice.Eq.{bytes_eq-Decides}
use Rattle.hash_tree.specs.Chain.{HangsFrom, formed, path_to}
use Rattle.hash_tree.specs.Laws.{AreBlocks, FormedChainsAreGood}
use Rattle.hash_tree.specs.Tree.{root}
use Rattle.tree_shape.specs.Digests.{digest}
use Rattle.tree_shape.specs.Shape.{IsShape, ancestor, levels}
use Rattle.dm_table.specs.declared.parity.Parity.{Parity}
use Rattle.dm_table.specs.declared.verity.Verity.{Verity}
use Rattle.stack_rules.specs.Trees.{block_sectors, tree_of, zero_block}
use Rattle.stack_config.proofs.lemmas.ParityLineLemmas.{parity-line}
use Rattle.stack_meaning.specs.Blocks.{block_below, checked, checked_span, covered_hash, data_block_at, hash_block_at, hash_sectors, hash_start, is_ignored, next_digest, verified_block}
use Rattle.stack_meaning.specs.Outcomes.{Outcome, span, then_outcome}
use Rattle.stack_meaning.specs.Erasures.{covered_spare, erasure_spare}
use Rattle.stack_meaning.specs.Spares.{BlockSources, covered_block, healed_outcome, spare_block, verified_blocks}
use Rattle.stack_meaning.proofs.lemmas.CheckedLemmas.{checked-digest, checked-same, then-parts}
use Rattle.stack_meaning.proofs.lemmas.CoveredLemmas.{covered-data, covered-hash, hash-verified}
use Rattle.stack_meaning.proofs.lemmas.ErasureLemmas.{losses-restored}
use Rattle.stack_meaning.proofs.lemmas.SpareLemmas.{lost-restored}
use Rattle.stack_engine.specs.DamagedData.{DamagedDataIsRead, IsKeptOrRestorable, IsRestorable, LostCollides, RoundCollides, line_sources, tree_block}
use Rattle.stack_engine.specs.Laws.{IsSha256Collision}
use Rattle.stack_engine.proofs.lemmas.FormattedLemmas.{block-low, facts, length-path_to, line-is, sector-shown, shown_block}

-- two blocks of one digest
pub digest-collides : (v : Verity) (other block : List ℕ) → other ≢ block → digest v.salt other ≡ digest v.salt block → IsSha256Collision (v.salt ++ other) (v.salt ++ block)
unfolding digest
digest-collides v other block differ same = record { differ = λ e. differ (append_cancel_left v.salt other block e); same = same }

module _ (v : Verity) (p : Parity) (has : v.parity ≡ Some p) (few : p.roots ≤ 24) (from : BlockSources) (former : ℕ → List ℕ) where
  -- a block that is as it was, or can be restored
  module _ (j : ℕ) (covered : j < p.blocks) (at : ℕ → Outcome) (first n : ℕ) (read : span at first n ≡ covered_block v from j) where
    abbrev block : List ℕ
    block = former j

    abbrev expected : List ℕ
    expected = digest v.salt block

    abbrev own : Outcome
    own = checked_span at first n v.salt expected

    abbrev spare : Outcome
    spare = covered_spare v from v.parity j expected

    own-kept : covered_block v from j ≡ Ok block → own ≡ Ok block
    own-kept kept = ap (λ (x : Outcome). then_outcome x (checked v.salt expected)) (read ∙ kept) ∙ checked-same v.salt expected block refl

    own-good : (b : List ℕ) → own ≡ Ok b → digest v.salt b ≡ expected
    own-good b e = let parts = then-parts (span at first n) (checked v.salt expected) b e in checked-digest v.salt expected parts.0 b parts.2

    own-collides : (b : List ℕ) → b ≢ block → digest v.salt b ≡ expected → RoundCollides v p former j
    own-collides b differ same = record { number = j; covered = covered; beside = refl; collides = record { other = b; collision = digest-collides v b block differ same } }

    -- it is restored, or a block of its round collides with others
    spare-is : IsRestorable v p from former j → (spare ≡ Ok block) ⊎ RoundCollides v p former j
    spare-is lost = elim lost.beside [
      | inl known ↦ elim (losses-restored v p few from former lost.parity j covered known.0 known.1) [
        | inl is ↦ inl (ap (λ o. covered_spare v from o j expected) has ∙ is)
        | inr shared ↦
            let k = shared.0 in
            inr (record { number = k; covered = shared.1; beside = shared.2; collides = record { other = shared.3.other; collision = digest-collides v shared.3.other (former k) shared.3.differs shared.3.same } })
      ]
      | inr whole ↦
          let alone : spare_block v p from j expected ≡ Ok block = lost-restored v p few from former lost.parity j covered whole.0 whole.1 in
          inl (ap (λ o. covered_spare v from o j expected) has ∙ ap (λ (x : Outcome). healed_outcome x (erasure_spare v p from j expected)) alone)
    ]

    -- it has its bytes, or collides with others
    healed-own : (o : Outcome) → own ≡ o → spare ≡ Ok block → (healed_outcome o spare ≡ Ok block) ⊎ LostCollides v p from former j
    healed-own (Ok b) is restored = go (bytes_eq b block) refl
      where
        go : (t : Bool) → bytes_eq b block ≡ t → (healed_outcome (Ok b) spare ≡ Ok block) ⊎ LostCollides v p from former j
        go true e = inl (ap Ok ((bytes_eq-Decides b block).0 e))
        go false e =
            let differ : b ≢ block = λ same. let clash : true ≡ false = sym ((bytes_eq-Decides b block).1 same) ∙ e in cc in
            inr (record {
              lost = λ kept. let both : Ok b ≡ Ok block = sym is ∙ own-kept kept in differ cc;
              round = own-collides b differ (own-good b is);
            })
    healed-own (Err fault) is restored = inl (ap (healed_outcome (Err fault)) restored)

    -- without a spare it is as it was, or lost
    own-lost : (o : Outcome) → own ≡ o → RoundCollides v p former j → (healed_outcome own spare ≡ Ok block) ⊎ LostCollides v p from former j
    own-lost (Ok b) is round = go (bytes_eq b block) refl
      where
        go : (t : Bool) → bytes_eq b block ≡ t → (healed_outcome own spare ≡ Ok block) ⊎ LostCollides v p from former j
        go true e = inl (ap (λ (x : Outcome). healed_outcome x spare) (is ∙ ap Ok ((bytes_eq-Decides b block).0 e)))
        go false e =
            let differ : b ≢ block = λ same. let clash : true ≡ false = sym ((bytes_eq-Decides b block).1 same) ∙ e in cc in
            inr (record { lost = λ kept. let both : Ok b ≡ Ok block = sym is ∙ own-kept kept in differ cc; round = round })
    own-lost (Err fault) is round = inr (record { lost = λ kept. let both : Err fault ≡ Ok block = sym is ∙ own-kept kept in cc; round = round })

    block-damaged : IsKeptOrRestorable v p from former j → (healed_outcome own spare ≡ Ok block) ⊎ LostCollides v p from former j
    block-damaged lost = elim lost [
      | inl kept ↦ inl (ap (λ (x : Outcome). healed_outcome x spare) (own-kept kept))
      | inr restorable ↦ elim (spare-is restorable) [
        | inl is ↦ healed-own own refl is
        | inr round ↦ own-lost own refl round
      ]
    ]

  -- a data block, as the line shows it
  data-damaged : (i : ℕ) → i < v.blocks → i < p.blocks → IsKeptOrRestorable v p from former i → (data_block_at v from i (digest v.salt (former i)) ≡ Ok (shown_block v (former i))) ⊎ LostCollides v p from former i
  data-damaged i inside covered lost =
      let block : List ℕ = former i in
      elim (cases_Bool (is_ignored v (digest v.salt block))) [
        | inl zeros ↦ inl (cond-true _ _ _ zeros ∙ ap Ok (sym (cond-true (is_ignored v (digest v.salt block)) (zero_block v) block zeros)))
        | inr other ↦ elim (block-damaged i covered from.on_data (block_sectors v * i) (block_sectors v) (covered-data v from i inside) lost) [
          | inl same ↦ inl (cond-false _ _ _ other ∙ same ∙ ap Ok (sym (cond-false (is_ignored v (digest v.salt block)) (zero_block v) block other)))
          | inr collides ↦ inr collides
        ]
      ]

  -- the path to data block i, whose hash blocks are so
  module _ (shape : IsShape (tree_of v)) (size : v.data_block ≡ v.hash_block) (covers : verified_blocks v ≤ p.blocks) (blocks : List (List ℕ)) (i : ℕ) (inside : i < v.blocks) where
    abbrev number : ℕ → ℕ
    number l = covered_hash v l (ancestor (tree_of v) (l + 1) i)

    -- they were the tree's
    abbrev AreAbove : Type 0
    AreAbove = (l : ℕ) → l < levels (tree_of v) → former (number l) ≡ tree_block v blocks l i

    abbrev AreOnPath : Type 0
    AreOnPath = (l : ℕ) → l < levels (tree_of v) → IsKeptOrRestorable v p from former (number l)

    abbrev SomeCollides : Type 0
    SomeCollides = (l : ℕ) × (l < levels (tree_of v)) × LostCollides v p from former (number l)

    hash-damaged : AreAbove → AreOnPath → (l : ℕ) → l < levels (tree_of v) → (hash_block_at v from l (ancestor (tree_of v) (l + 1) i) (digest v.salt (tree_block v blocks l i)) ≡ Ok (tree_block v blocks l i)) ⊎ LostCollides v p from former (number l)
    hash-damaged above path l low =
        subst (λ (b : List ℕ). (hash_block_at v from l (ancestor (tree_of v) (l + 1) i) (digest v.salt b) ≡ Ok b) ⊎ LostCollides v p from former (number l)) (above l low)
        (block-damaged (number l) (omega (arith, hash-verified v shape l i low inside, covers)) from.on_hash (hash_start v l i) (hash_sectors v) (covered-hash v from l (ancestor (tree_of v) (l + 1) i) size) (path l low))

    walk-damaged : AreAbove → AreOnPath → (l : ℕ) → l ≤ levels (tree_of v) → (expected : List ℕ) → HangsFrom (tree_of v) v.salt i expected (path_to (tree_of v) v.salt (map (digest v.salt) blocks) l i) (get_or blocks i [])
        → (block_below v from i l expected ≡ data_block_at v from i (digest v.salt (get_or blocks i []))) ⊎ SomeCollides
    walk-damaged above path zero low expected hangs = inl (ap (data_block_at v from i) (sym hangs.1))
    walk-damaged above path (suc l) low expected hangs =
        let ds : List (List ℕ) = map (digest v.salt) blocks in
        let block : List ℕ = tree_block v blocks l i in
        let next : List ℕ → Outcome = λ b. block_below v from i l (next_digest v l i b) in
        let at : next_digest v (length (path_to (tree_of v) v.salt ds l i)) i block ≡ next_digest v l i block = ap (λ (k : ℕ). next_digest v k i block) (length-path_to (tree_of v) v.salt ds l i) in
        elim (hash-damaged above path l (omega (arith, low))) [
          | inl same ↦ elim (walk-damaged above path l (omega (arith, low)) (next_digest v l i block) (subst (λ (e : List ℕ). HangsFrom (tree_of v) v.salt i e (path_to (tree_of v) v.salt ds l i) (get_or blocks i [])) at hangs.2)) [
            | inl rest ↦
                inl (ap (λ (e : List ℕ). then_outcome (hash_block_at v from l (ancestor (tree_of v) (l + 1) i) e) next) (sym hangs.1) ∙ ap (λ (x : Outcome). then_outcome x next) same ∙ rest)
            | inr collides ↦ inr collides
          ]
          | inr collides ↦ inr (l, omega (arith, low), collides)
        ]

    block-walked : FormedChainsAreGood → AreBlocks v.blocks v.data_block blocks → v.root ≡ root v.hash_block v.salt (map (digest v.salt) blocks) → AreAbove → AreOnPath
        → (verified_block v from i ≡ data_block_at v from i (digest v.salt (get_or blocks i []))) ⊎ SomeCollides
    unfolding formed
    block-walked law even is above path =
        let good = law (tree_of v) shape v.salt blocks even i inside in
        elim (walk-damaged above path (levels (tree_of v)) (omega arith) (root v.hash_block v.salt (map (digest v.salt) blocks)) good.hangs) [
          | inl same ↦ inl (ap (block_below v from i (levels (tree_of v))) is ∙ same)
          | inr collides ↦ inr collides
        ]

pub damaged-read : FormedChainsAreGood → DamagedDataIsRead
damaged-read law c loaded images whole d s l line v lies p blocks former damaged =
    let i : ℕ = (s - line.start) / block_sectors v in
    let from = line_sources c images v in
    let low = block-low c loaded images whole d s l line v lies in
    let line_facts = facts c loaded images whole d s l line v lies in
    let parity = parity-line c d l line v p loaded (line-is c loaded images whole d s l line v lies) lies.has damaged.has line_facts.1 line_facts.2.hash_named in
    let few = parity.1.grammar.most_roots in
    elim (block-walked v p damaged.has few from former line_facts.2.shape parity.1.one_size parity.1.covers blocks i low law damaged.sized damaged.root_is damaged.above damaged.path) [
      | inl walked ↦ elim (data-damaged v p damaged.has few from former i low (omega (arith, low, parity.1.covers)) damaged.block) [
        | inl shown ↦
            let own : data_block_at v from i (digest v.salt (get_or blocks i [])) ≡ Ok (shown_block v (get_or blocks i [])) = subst (λ (b : List ℕ). data_block_at v from i (digest v.salt b) ≡ Ok (shown_block v b)) damaged.own shown in
            inl (sector-shown c loaded images whole d s l line v lies blocks damaged.sized (walked ∙ own))
        | inr collides ↦ inr (inl collides)
      ]
      | inr collides ↦ inr (inr collides)
    ]
