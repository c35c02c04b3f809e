-- Sectors of one data block of a verity line, read from its chain.
use Rattle.std.proofs.Common.{◌≡◌, ℕ, ◌+◌, ◌-◌, ◌*◌, ◌/◌, ◌%◌, ◌<◌, ◌≤◌, List, [], ◌∷◌, ◌++◌, length, get_or, Contains, take, drop, Ok, Err, refl, sym, ap, ◌∙◌, subst, arith, inl, inr}
use Rattle.std.proofs.lemmas.List.{length-drop, length-take-le, drop-take, take-take, drop-drop, length-append, get_or-append_right, get_or_append_left}
use Rattle.std.proofs.lemmas.List.Elements.{All-cons, All-nil, All-append}
use Rattle.std.proofs.lemmas.Bool.{cases_lt}
use Rattle.std.proofs.lemmas.Nat.{div-mul-add, mod-mul-add, div-add-mod'}
use Rattle.std.proofs.Math.Nat.{mul-le-mul_right}
use Rattle.hash_tree.specs.Chain.{ChainRecord, HangsFrom, IsGood}
use Rattle.tree_shape.specs.Shape.{ShapeRecord}
use Rattle.block_device.specs.Device.{Device}
use Rattle.dm_table.specs.declared.verity.Verity.{Verity}
use Rattle.stack_rules.specs.Records.{Configuration}
use Rattle.stack_rules.specs.Trees.{tree_of, block_sectors}
use Rattle.stack_meaning.specs.declared.fault.IoFault.{IoFault}
use Rattle.stack_meaning.specs.Sectors.{SomeOf}
use Rattle.stack_meaning.specs.Outcomes.{Outcome, Images, then_outcome, part}
use Rattle.stack_meaning.specs.Found.{FoundRecord, Entry, found_entry, AreDistinct, HasGrown}
use Rattle.stack_meaning.specs.Blocks.{verified_block, BlockMeets}
use Rattle.stack_meaning.specs.Meaning.{content_part, verity_said}
use Rattle.stack_meaning.specs.Kept.{IsKept, AllKept}
use Rattle.stack_meaning.specs.Leaves.{steady_images, AreSteady, AreRead}
use Rattle.stack_meaning.specs.Places.{Place, run_expected}
use Rattle.stack_meaning.specs.Reading.{Gets}
use Rattle.stack_lines.specs.Walks.{AgreesAt, DataBlock, base_said, chain_expected, sources_of, GetsChain}
use Rattle.stack_meaning.proofs.lemmas.LeafListLemmas.{AreRead-none}
use Rattle.stack_meaning.proofs.lemmas.SpanLemmas.{span_block, span_fails}
use Rattle.stack_meaning.proofs.lemmas.RunLemmas.{fault_passes}

-- ---- places within a block

module _ (n w j : ℕ) (h : w % n + j < n) where
  pub same_block : (w + j) / n ≡ w / n
  same_block =
      let at : w + j ≡ w / n * n + (w % n + j) = omega (arith, div-add-mod' w n) in
      ap (λ (k : ℕ). k / n) at ∙ div-mul-add (w / n) n (w % n + j) h

  pub same_within : (w + j) % n ≡ w % n + j
  same_within =
      let at : w + j ≡ w / n * n + (w % n + j) = omega (arith, div-add-mod' w n) in
      ap (λ (k : ℕ). k % n) at ∙ mod-mul-add (w / n) n (w % n + j) h

part-run : (content : List ℕ) (w n j : ℕ) → j < n → part (take (512 * n) (drop (512 * w) content)) j ≡ part content (w + j)
part-run content w n j h =
    let more : 512 * n ≡ 512 * j + (512 * n - 512 * j) = omega (arith, h) in
    let at : 512 * w + 512 * j ≡ 512 * (w + j) = omega arith in
    ap (λ (k : ℕ). take 512 (drop (512 * j) (take k (drop (512 * w) content)))) more
    ∙ ap (take 512) (drop-take (512 * j) (512 * n - 512 * j) (drop (512 * w) content))
    ∙ take-take 512 (512 * n - 512 * j) (drop (512 * j) (drop (512 * w) content)) (omega (arith, h))
    ∙ ap (take 512) (drop-drop (512 * j) (512 * w) content ∙ ap (λ (k : ℕ). drop k content) at)

-- ---- chains

-- a chain's content is one data block
hangs-content : (s : ShapeRecord) (salt : List ℕ) (i : ℕ) (path : List (List ℕ)) (expected content : List ℕ) → HangsFrom s salt i expected path content → length content ≡ s.data_block
hangs-content s salt i [] expected content h = h.0
hangs-content s salt i (block ∷ path) expected content h = hangs-content s salt i path _ content h.2

pub length-content : (v : Verity) (chain : ChainRecord) → IsGood (tree_of v) v.salt v.root chain → length chain.content ≡ v.data_block
length-content v chain good = hangs-content (tree_of v) v.salt chain.index chain.path v.root chain.content good.hangs

-- ---- one more chain

pub AllKept-push : (c : Configuration) (leaves : List Device) (found : List FoundRecord) (x : FoundRecord) → AllKept c leaves found → IsKept c leaves x → AllKept c leaves (found ++ (x ∷ []))
AllKept-push c leaves found x kept one = All-append (IsKept c leaves) found (x ∷ []) kept (All-cons (IsKept c leaves) x [] one (All-nil (IsKept c leaves)))

pub Grown-push : (entries : ℕ → List Entry) (first n : ℕ) (found : List FoundRecord) (x : FoundRecord) → 0 < n → Contains (entries first) (found_entry x) → HasGrown entries first n found (found ++ (x ∷ []))
Grown-push entries first n found x some is = record {
  added = x ∷ [];
  is = refl;
  used =
      let at : first + 0 ≡ first = omega arith in
      let Used : FoundRecord → Type 0 = λ y. SomeOf (λ s. Contains (entries s) (found_entry y)) first n in
      All-cons Used x [] (0, some, subst (λ (s : ℕ). Contains (entries s) (found_entry x)) (sym at) is) (All-nil Used);
}

-- of a block of which there was none
pub distinct-push : (found : List FoundRecord) (x : FoundRecord) → ((k : ℕ) → k < length found → (y : FoundRecord) → found_entry (get_or found k y) ≡ found_entry x → ⊥) → AreDistinct found → AreDistinct (found ++ (x ∷ []))
distinct-push found x none distinct a b y lower below same =
    let len : length (found ++ (x ∷ [])) ≡ length found + 1 = length-append found (x ∷ []) in
    let low : a < length found = omega (arith, len, lower, below) in
    let left : get_or (found ++ (x ∷ [])) a y ≡ get_or found a y = get_or_append_left found (x ∷ []) y a low in
    elim (cases_lt b (length found)) [
      | inl within ↦ distinct a b y lower within (ap found_entry (sym left) ∙ same ∙ ap found_entry (get_or_append_left found (x ∷ []) y b within))
      | inr past ↦
          let last : b - length found ≡ 0 = omega (arith, len, below, past) in
          let right : get_or (found ++ (x ∷ [])) b y ≡ x = get_or-append_right found (x ∷ []) (length found) b y refl past ∙ ap (λ (k : ℕ). get_or (x ∷ []) k y) last in
          none a low y (ap found_entry (sym left) ∙ same ∙ ap found_entry right)
    ]

-- ---- a chain answers a read

-- the sectors of data block b from sector w of its line on, the l-th of device d, as a place whose images agree so
abbrev pub block_place : DataBlock → ℕ × ℕ → ℕ → ℕ → (Images → Type 0) → Place
block_place b at w cost agrees = record { said = λ j. verity_said (base_said b) at.0 at.1 b.verity (w + j); cost = cost; leaves = (chain_expected b).leaves; agrees = agrees }

abbrev pub entry_in : DataBlock → ℕ × ℕ → Entry
entry_in b at = (at.0, at.1, b.index)

module _ (b : DataBlock) (at : ℕ × ℕ) (w n cost : ℕ) (agrees : Images → Type 0) (up : (images : Images) → agrees images → AgreesAt b images) (index : b.index ≡ w / block_sectors b.verity) (within : w % block_sectors b.verity + n ≤ block_sectors b.verity) (whole : 512 * block_sectors b.verity ≡ b.verity.data_block) where
  part_is : (content : List ℕ) (j : ℕ) → j < n → part (take (512 * n) (drop (512 * (w % block_sectors b.verity)) content)) j ≡ content_part b.verity (w + j) content
  part_is content j h = part-run content (w % block_sectors b.verity) n j h ∙ ap (part content) (sym (same_within (block_sectors b.verity) w j (omega (arith, h, within))))

  index_is : (j : ℕ) → j < n → (w + j) / block_sectors b.verity ≡ b.index
  index_is j h = same_block (block_sectors b.verity) w j (omega (arith, h, within)) ∙ sym index

  means_is : (images : Images) (j : ℕ) → j < n
      → ((block_place b at w cost agrees).said j).means images ≡ then_outcome ((chain_expected b).means images) (λ block. Ok (content_part b.verity (w + j) block))
  means_is images j h =
      ap (λ (k : ℕ). then_outcome (verified_block b.verity (sources_of b images) k) (λ block. Ok (content_part b.verity (w + j) block)))
      (index_is j h)

  -- the sectors of a good chain that is there
  pub chain_fills : {old new : List Device} (chains : List FoundRecord) (x : FoundRecord) {bytes : List ℕ} → 0 < n → AreRead old (n * cost) new
      → (AreSteady (chain_expected b).leaves old → agrees (steady_images old) → (chain_expected b).means (steady_images old) ≡ Ok x.chain.content)
      → IsGood (tree_of b.verity) b.verity.salt b.verity.root x.chain → found_entry x ≡ entry_in b at → Contains chains x
      → bytes ≡ take (512 * n) (drop (512 * (w % block_sectors b.verity)) x.chain.content)
      → Gets (run_expected (block_place b at w cost agrees) chains 0 n) old new (Ok bytes)
  chain_fills {old = old} chains x {bytes = bytes} some moved exact good here given is =
      let content : List ℕ = x.chain.content in
      let size : length content ≡ 512 * block_sectors b.verity = length-content b.verity x.chain good ∙ sym whole in
      record {
        moved = moved;
        may = record {
          len = ap length is ∙ length-take-le (512 * n) (drop (512 * (w % block_sectors b.verity)) content) (omega (arith, size, within, length-drop (512 * (w % block_sectors b.verity)) content));
          sectors = λ j h. (
            x,
            record { given = given; at = here ∙ ap (λ (k : ℕ). (at.0, at.1, k)) (sym (index_is (0 + j) (omega (arith, h)))); good = good },
            ap (λ (y : List ℕ). part y j) is ∙ part_is content j h ∙ (let e : w + j ≡ w + (0 + j) = omega arith in ap (λ (k : ℕ). content_part b.verity k content) e),
          );
        };
        exact = λ sure.
            span_block (λ j. ((block_place b at w cost agrees).said j).means (steady_images old)) content 0 (w % block_sectors b.verity) n
            (λ j h. means_is (steady_images old) (0 + j) (omega (arith, h))
            ∙ ap (λ (y : Outcome). then_outcome y (λ block. Ok (content_part b.verity (w + (0 + j)) block))) (exact sure.steady (sure.agrees (0, some, inl refl)))
            ∙ ap (λ (k : ℕ). Ok (part content k)) (same_within (block_sectors b.verity) w (0 + j) (omega (arith, h, within)) ∙ let e : w % block_sectors b.verity + (0 + j) ≡ w % block_sectors b.verity + j = omega arith in e))
            (omega (arith, size, within))
            ∙ ap Ok (sym is);
      }

  -- a walk that ended by a fault
  pub block_fails : {old new : List Device} (chains : List FoundRecord) (fault : IoFault) → 0 < n → (chain_expected b).cost ≤ cost → GetsChain b old new (Err fault)
      → Gets (run_expected (block_place b at w cost agrees) chains 0 n) old new (Err fault)
  block_fails {old = old} chains fault some most p =
      fault_passes {wanted = chain_expected b} {wanted' = run_expected (block_place b at w cost agrees) chains 0 n} fault p (AreRead-none 0 old)
      (omega (arith, most, mul-le-mul_right cost some))
      (λ x meets. (0, some, subst (λ (k : ℕ). BlockMeets b.verity (λ s. (b.on_data.said s).meets) (λ s. (b.on_hash.said s).meets) k x) (sym (index_is (0 + 0) some)) meets))
      (λ i is. is)
      up
      (λ sure x is.
      span_fails (λ j. ((block_place b at w cost agrees).said j).means (steady_images old)) 0 n x some
      (means_is (steady_images old) 0 some ∙ ap (λ (y : Outcome). then_outcome y (λ block. Ok (content_part b.verity (w + 0) block))) is))
