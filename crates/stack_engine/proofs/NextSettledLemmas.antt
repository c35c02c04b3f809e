-- The next one of whole data blocks that were read at once, after it is settled.
use Rattle.std.proofs.Common.{◌≡◌, ℕ, ◌+◌, ◌-◌, ◌*◌, ◌/◌, ◌<◌, ◌≤◌, Bool, false, List, [], ◌∷◌, ◌++◌, length, get_or, take, drop, Vec, Global, Ok, Err, sym, ap, ◌∙◌, subst, arith}
use Rattle.std.proofs.lemmas.List.{length-take-le, length-drop}
use Rattle.std.proofs.lemmas.Slice.{take-put_mid_below, between-put_mid}
use Rattle.std.proofs.Math.Seq.{take-add}
use Rattle.std.proofs.Math.Nat.{add-mul, mul_comm, mul-le-mul_right}
use borrow.Rule.Slice.PartMut.{put_mid}
use Rattle.tree_shape.specs.Digests.{digest}
use Rattle.block_device.specs.Device.{Device}
use Rattle.stack_rules.specs.Records.{Configuration}
use Rattle.stack_rules.specs.Names.{mapped}
use Rattle.stack_rules.specs.Descend.{read_cost}
use Rattle.stack_rules.specs.Trees.{block_sectors}
use Rattle.stack_meaning.specs.declared.fault.IoFault.{IoFault}
use Rattle.stack_meaning.specs.declared.fault.IoFault.TheVariants as io
use Rattle.stack_lines.specs.declared.source.VerityPart.{VerityPart}
use Rattle.stack_lines.specs.declared.source.Source.TheVariants.{Blocks}
use Rattle.stack_meaning.specs.Blocks.{is_ignored}
use Rattle.stack_meaning.specs.Outcomes.{mismatch}
use Rattle.stack_meaning.specs.Found.{FoundRecord}
use Rattle.stack_meaning.specs.Leaves.{AreRead}
use Rattle.stack_meaning.specs.Places.{LeafRead}
use Rattle.stack_meaning.specs.Reading.{Finds, Gets}
use Rattle.stack_lines.specs.Budgets.{ReadsAtMost, part_budget}
use Rattle.stack_lines.specs.Sources.{ReadsSource}
use Rattle.stack_lines.specs.Walks.{block_in, data_expected, settled_cost, spare_expected, GetsChain}
use Rattle.stack_meaning.proofs.lemmas.LeafListLemmas.{AreRead-more, AreRead-then}
use Rattle.stack_engine.proofs.BlocksAtLemmas.{blocks_place, read_cost_so_far, BlocksAt, IsRead}
use Rattle.stack_engine.proofs.BlocksLemmas.{alone-stops, heal-stops, total-cost, before-more, none-more, blocks-more, blocks-full, blocks-read}
use Rattle.stack_engine.proofs.ReadBlockLemmas.{block-lost, block-other}
use Rattle.stack_engine.proofs.lemmas.BlockLemmas.{distinct-push}
use Rattle.stack_engine.proofs.SpentLemmas.{had-spent}
use Rattle.stack_engine.specs.Healing.{unhealed}
use Rattle.allocation.specs.Refusal.{IsOutOfMemory}
use Rattle.stack_meaning.specs.Memory.{largest_allocation}
use Rattle.stack_engine.proofs.NextBlockLemmas.{AreReadAhead, IsNext, WereHad, block-begin, block-size, rest-put, sub-same}

module _ {c : Configuration} {p : VerityPart} {n : ℕ} {found : List FoundRecord} (b : BlocksAt c p n found) where
  -- what settles it: the bytes that were there, and those that are written there
  module _ {r j : ℕ} {bytes expected : List ℕ} {path : List (List ℕ)} {did : LeafRead} (out : List ℕ) (inside : j < n / block_sectors p.verity.now) (read : r ≤ n / block_sectors p.verity.now) (next : IsNext c p n r j j bytes expected path did)
      (len : length out ≡ 512 * n) (end : j * p.verity.now.data_block + p.verity.now.data_block ≤ length out) where
    up-to : j + 1 ≤ n / block_sectors p.verity.now
    up-to = omega (arith, inside)

    pub width : j * p.verity.now.data_block + p.verity.now.data_block - j * p.verity.now.data_block ≡ 512 * block_sectors p.verity.now
    width = sub-same (j * p.verity.now.data_block) p.verity.now.data_block ∙ sym (block-size b) ∙ mul_comm (block_sectors p.verity.now) 512

    part-is : (l : List ℕ) → take (j * p.verity.now.data_block + p.verity.now.data_block - j * p.verity.now.data_block) (drop (j * p.verity.now.data_block) l) ≡ take (512 * block_sectors p.verity.now) (drop (512 * (j * block_sectors p.verity.now)) l)
    part-is l = ap (λ (k : ℕ). take k (drop (j * p.verity.now.data_block) l)) width ∙ ap (λ (k : ℕ). take (512 * block_sectors p.verity.now) (drop k l)) (block-begin b j)

    pub stood-len : length (take (j * p.verity.now.data_block + p.verity.now.data_block - j * p.verity.now.data_block) (drop (j * p.verity.now.data_block) out)) ≡ j * p.verity.now.data_block + p.verity.now.data_block - j * p.verity.now.data_block
    stood-len = length-take-le (j * p.verity.now.data_block + p.verity.now.data_block - j * p.verity.now.data_block) (drop (j * p.verity.now.data_block) out) (omega (arith, end, length-drop (j * p.verity.now.data_block) out))

    -- it was read, unless the line ignores it
    pub was-read : (made : List (List ℕ)) (x : List ℕ) → AreReadAhead c p j r out made did.old → j < r → IsRead c p did.old j (take (j * p.verity.now.data_block + p.verity.now.data_block - j * p.verity.now.data_block) (drop (j * p.verity.now.data_block) out)) (get_or made j x)
    was-read made x ahead within = subst (λ (l : List ℕ). IsRead c p did.old j l (get_or made j x)) (sym (part-is out)) (ahead j (omega arith) within x)

    -- the digest that was made of the bytes that are stored there
    pub digest-made : (made : List (List ℕ)) (x : List ℕ) → AreReadAhead c p j r out made did.old → j < r → get_or made j x ≡ digest p.verity.now.salt (take (j * p.verity.now.data_block + p.verity.now.data_block - j * p.verity.now.data_block) (drop (j * p.verity.now.data_block) out))
    digest-made made x ahead within = (was-read made x ahead within).made_is

    -- it was settled, maybe by its spare
    module _ {new : List Device} (more : AreRead did.new (settled_cost (block_in c p.verity.now 0)) new) where
      abbrev after : LeafRead
      after = record { old = did.old; new = new; before = did.before; after = did.after }

      one-more : read_cost_so_far c p.verity.now (r * block_sectors p.verity.now) (j + 1) j + settled_cost (block_in c p.verity.now 0) ≤ read_cost_so_far c p.verity.now (r * block_sectors p.verity.now) (j + 1) (j + 1)
      one-more = omega (arith, add-mul j 1 (settled_cost (block_in c p.verity.now 0)))

      all-moved-on : AreRead did.old (read_cost_so_far c p.verity.now (r * block_sectors p.verity.now) (j + 1) (j + 1)) new
      all-moved-on = AreRead-more one-more (AreRead-then next.moved more)

      rest-on : AreRead next.mid (read_cost_so_far c p.verity.now (r * block_sectors p.verity.now) (j + 1) (j + 1)) new
      rest-on = AreRead-more one-more (AreRead-then next.rest more)

      few : read_cost_so_far c p.verity.now (r * block_sectors p.verity.now) (j + 1) (j + 1) ≤ n * read_cost c (mapped p.device.0)
      few = total-cost b r (j + 1) (j + 1) read up-to up-to

      pub block-costs : ReadsAtMost (part_budget c p n) did.old new
      block-costs = had-spent b r (j + 1) (j + 1) read up-to up-to all-moved-on

      -- no memory for its chain
      pub block-full : IsOutOfMemory largest_allocation → ReadsSource c (Blocks p) n after (Err io.NoMemory)
      block-full refused = blocks-read b after (Err io.NoMemory) r (j + 1) (j + 1) read up-to up-to all-moved-on (blocks-full b j inside next.so_far rest-on few refused)

      -- it has another digest, as has its spare, or that can't be read
      pub block-fails : {ignored : Bool} (made : List (List ℕ)) (x : List ℕ) → ignored ≡ is_ignored p.verity.now expected → AreReadAhead c p j r out made did.old → (ignored ≡ false → j < r) → ignored ≡ false → (get_or made j x ≡ expected → ⊥)
          → (vain : IoFault) → Gets (spare_expected (λ (x : List ℕ). x) (block_in c p.verity.now (p.first / block_sectors p.verity.now + j)) expected) did.new new (Err vain) → ReadsSource c (Blocks p) n after (Err (unhealed (io.Stack mismatch) vain))
      block-fails made x same ahead within used other vain got =
          blocks-read b after (Err (unhealed (io.Stack mismatch) vain)) r (j + 1) (j + 1) read up-to up-to all-moved-on
          (heal-stops b j inside next.so_far rest-on few expected vain
          (λ fault is. block-other b j next.later next.walked _ _ (sym same ∙ used) (was-read made x ahead (within used)) other next.moved fault
          (subst (λ (v : IoFault). Gets (spare_expected (λ (x : List ℕ). x) (block_in c p.verity.now (p.first / block_sectors p.verity.now + j)) expected) did.new new (Err v)) is got)) next.rest got)

      -- it can't be read alone
      pub alone-fails : (fault : IoFault) → Gets (data_expected (λ (x : Vec ℕ Global). x.items) (block_in c p.verity.now (p.first / block_sectors p.verity.now + j)) expected) did.new new (Err fault) → ReadsSource c (Blocks p) n after (Err fault)
      alone-fails fault got =
          blocks-read b after (Err fault) r (j + 1) (j + 1) read up-to up-to all-moved-on
          (alone-stops b j inside next.so_far rest-on few expected fault
          (λ why is. block-lost b j next.later next.walked next.moved why
          (subst (λ (y : IoFault). Gets (data_expected (λ (x : Vec ℕ Global). x.items) (block_in c p.verity.now (p.first / block_sectors p.verity.now + j)) expected) did.new new (Err y)) is got)) next.rest got)

      -- it is ignored, or has the digest, or its spare has, or it was read alone: its chain is there
      module _ (block : List ℕ) (front : take (512 * (j * block_sectors p.verity.now)) out ≡ take (512 * (j * block_sectors p.verity.now)) bytes)
          (wide : length block ≡ length (take (j * p.verity.now.data_block + p.verity.now.data_block - j * p.verity.now.data_block) (drop (j * p.verity.now.data_block) out))) where
        abbrev pub written : List ℕ
        written = put_mid (j * p.verity.now.data_block) (j * p.verity.now.data_block + p.verity.now.data_block - j * p.verity.now.data_block) out block

        abbrev content : List ℕ
        content = take (j * p.verity.now.data_block + p.verity.now.data_block - j * p.verity.now.data_block) (drop (j * p.verity.now.data_block) written)

        block-fits : j * p.verity.now.data_block ≤ length out
        block-fits = omega (arith, end)

        content-is : content ≡ block
        content-is = between-put_mid (j * p.verity.now.data_block) (j * p.verity.now.data_block + p.verity.now.data_block - j * p.verity.now.data_block) out block (j * p.verity.now.data_block + p.verity.now.data_block) block-fits (wide ∙ stood-len)

        content-len : length content ≡ 512 * block_sectors p.verity.now
        content-len = ap (λ (l : List ℕ). length l) content-is ∙ wide ∙ stood-len ∙ width

        pub block-checked : GetsChain (block_in c p.verity.now (p.first / block_sectors p.verity.now + j)) next.mid next.here (Ok (record { index = p.first / block_sectors p.verity.now + j; content = block; path = path }))
            → {number : ℕ} {way : List (List ℕ)} → number ≡ p.first / block_sectors p.verity.now + j → way ≡ path
            → WereHad c p n r (j + 1) written (record { old = did.old; new = new; before = did.before; after = did.after ++ (record { device = p.device.0; line = p.line; chain = record { index = number; content = content; path = way } } ∷ []) })
        block-checked got {number = number} {way = way} here goes =
            let u : ℕ = block_sectors p.verity.now in
            let got_content = subst (λ (l : List ℕ). GetsChain (block_in c p.verity.now (p.first / block_sectors p.verity.now + j)) next.mid next.here (Ok (record { index = p.first / block_sectors p.verity.now + j; content = l; path = path }))) (sym content-is) got in
            let more_read = blocks-more b j inside next.so_far rest-on few content path content-len got_content in
            let count : j * u + u ≡ (j + 1) * u = omega (arith, add-mul j 1 u) in
            let one : FoundRecord = record { device = p.device.0; line = p.line; chain = record { index = p.first / u + j; content = content; path = path } } in
            let own : record { device = p.device.0; line = p.line; chain = record { index = number; content = content; path = way } } ≡ one =
            ap {B = FoundRecord} (λ (i : ℕ). record { device = p.device.0; line = p.line; chain = record { index = i; content = content; path = way } }) here
            ∙ ap {B = FoundRecord} (λ (l : List (List ℕ)). record { device = p.device.0; line = p.line; chain = record { index = p.first / u + j; content = content; path = l } }) goes in
            let now : LeafRead = record { old = did.old; new = new; before = did.before; after = did.after ++ (one ∷ []) } in
            let before : take (512 * (j * u)) written ≡ take (512 * (j * u)) bytes =
            take-put_mid_below (j * p.verity.now.data_block) (j * p.verity.now.data_block + p.verity.now.data_block - j * p.verity.now.data_block) out block (512 * (j * u)) (omega (arith, block-begin b j)) block-fits ∙ front in
            let e : 512 * (j * u) + 512 * u ≡ 512 * (j * u + u) = omega arith in
            let longer : take (512 * (j * u)) bytes ++ content ≡ take (512 * (j * u + u)) written =
            ap (λ (l : List ℕ). l ++ content) (sym before) ∙ ap (λ (l : List ℕ). take (512 * (j * u)) written ++ l) (part-is written) ∙ sym (take-add (512 * (j * u)) (512 * u) written) ∙ ap (λ (k : ℕ). take k written) e in
            subst (λ (y : FoundRecord). WereHad c p n r (j + 1) written (record { old = did.old; new = new; before = did.before; after = did.after ++ (y ∷ []) })) (sym own) (record {
              so_far = subst (λ (k : ℕ). Finds (blocks_place c p n) c 0 k now (Ok (take (512 * k) written))) count
                  (subst (λ (l : List ℕ). Finds (blocks_place c p n) c 0 (j * u + u) now (Ok l)) longer more_read);
              moved = all-moved-on;
              before = before-more b did.after j content path next.before;
              distinct = λ d. distinct-push did.after one (none-more b did.after j next.before) (next.distinct d);
            })

        -- those after it stay
        pub rest-ahead : (made : List (List ℕ)) → AreReadAhead c p j r out made did.old → AreReadAhead c p (j + 1) r written made did.old
        rest-ahead made ahead k low below y =
            let u : ℕ = block_sectors p.verity.now in
            let up : (j + 1) * u ≤ k * u = mul-le-mul_right u low in
            let past : j * p.verity.now.data_block + (j * p.verity.now.data_block + p.verity.now.data_block - j * p.verity.now.data_block) ≤ 512 * (k * u) = omega (arith, block-begin b j, block-size b, up, add-mul j 1 u) in
            subst (λ (l : List ℕ). IsRead c p did.old k l (get_or made k y)) (sym (rest-put (j * p.verity.now.data_block) (j * p.verity.now.data_block + p.verity.now.data_block - j * p.verity.now.data_block) out block block-fits (512 * (k * u)) (512 * u) past (wide ∙ stood-len)))
            (ahead k (omega (arith, low)) below y)
