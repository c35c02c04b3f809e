-- A data block that was read together with others: its chain, or its fault.
use Rattle.std.proofs.Common.{◌≡◌, ℕ, ◌+◌, ◌*◌, ◌/◌, ◌<◌, true, false, List, length, Vec, Global, Result, Ok, Err, inl, refl, sym, ap, ◌∙◌, subst, arith}
use Rattle.std.proofs.Math.Nat.{add-mul, mul_comm}
use Rattle.tree_shape.specs.Digests.{digest}
use Rattle.block_device.specs.Device.{Device}
use Rattle.stack_rules.specs.Records.{Configuration}
use Rattle.stack_rules.specs.Trees.{block_sectors, zero_block}
use Rattle.stack_meaning.specs.declared.fault.IoFault.{IoFault}
use Rattle.stack_meaning.specs.declared.fault.IoFault.TheVariants as io
use Rattle.stack_lines.specs.declared.source.VerityPart.{VerityPart}
use Rattle.stack_meaning.specs.Outcomes.{Images, Outcome, mismatch, span, then_outcome}
use Rattle.stack_meaning.specs.Blocks.{checked, is_ignored}
use Rattle.stack_meaning.specs.Found.{FoundRecord}
use Rattle.stack_meaning.specs.Places.{Expected, place_of}
use Rattle.stack_meaning.specs.Agreement.{AgreesOn}
use Rattle.stack_meaning.specs.Reading.{Gets, IsCertain}
use Rattle.stack_meaning.specs.declared.fault.Fault.{Fault}
use Rattle.stack_meaning.specs.Leaves.{steady_images, AreSteady, AreRead}
use Rattle.stack_lines.specs.Touches.{leaves_of}
use Rattle.stack_lines.specs.Walks.{AgreesAt, block_in, checked_expected, data_expected, spare_expected, GetsChain, IsWalked}
use Rattle.stack_meaning.proofs.lemmas.LeafListLemmas.{AreRead-none}
use Rattle.stack_meaning.proofs.lemmas.CheckedLemmas.{checked-same}
use Rattle.stack_engine.proofs.HealLemmas.{checked-other}
use Rattle.stack_engine.proofs.lemmas.WalkLemmas.{data_zeros, data_read, data_healed, walk_ends, walk_fails}
use Rattle.stack_engine.proofs.PathLemmas.{checked-at}
use Rattle.stack_engine.proofs.BlocksAtLemmas.{BlocksAt, IsRead, same-images}
use Rattle.stack_engine.proofs.BlocksLemmas.{start}

module _ {c : Configuration} {p : VerityPart} {n : ℕ} {found : List FoundRecord} (b : BlocksAt c p n found) where
  abbrev index : ℕ
  index = p.first / block_sectors p.verity.now

  module _ (j : ℕ) {old mid now : List Device} {r : ℕ} (later : AreRead old r now) {expected : List ℕ} {path : List (List ℕ)} (walked : IsWalked (block_in c p.verity.now (index + j)) 0 expected path mid now)
      (block made : List ℕ) where
    here : IsRead c p old j block made → AreSteady (leaves_of c p.data) now → AgreesOn c (leaves_of c p.data) (steady_images now) → span (λ s. ((place_of c p.data).said s).means (steady_images now)) (p.first + j * block_sectors p.verity.now) (block_sectors p.verity.now) ≡ Ok block
    here was steady agrees =
        let same = same-images was.first later steady in
        ap (λ (i : Images). span (λ s. ((place_of c p.data).said s).means i) (p.first + j * block_sectors p.verity.now) (block_sectors p.verity.now)) same.1 ∙ was.means same.0 (subst (AgreesOn c (leaves_of c p.data)) same.1 agrees)

    at-place : (result : Result (List ℕ) IoFault) → Gets (checked_expected (λ (x : List ℕ). x) (place_of c p.data) (p.first + j * block_sectors p.verity.now) (block_sectors p.verity.now) p.verity.now.salt expected) now now result
        → Gets (checked_expected (λ (x : List ℕ). x) (block_in c p.verity.now (index + j)).on_data (block_sectors p.verity.now * (index + j)) (block_sectors p.verity.now) p.verity.now.salt expected) now now result
    at-place result one =
        let e : p.first + j * block_sectors p.verity.now ≡ block_sectors p.verity.now * (index + j) = omega (arith, start b, add-mul index j (block_sectors p.verity.now), mul_comm (block_sectors p.verity.now) (index + j)) in
        checked-at c p.verity.now.data p.data (block_sectors p.verity.now * (index + j)) (block_sectors p.verity.now) p.verity.now.salt expected result (record { lower = p.data; first = block_sectors p.verity.now * (index + j); sectors = block_sectors p.verity.now }) b.is refl
        (subst (λ (k : ℕ). Gets (checked_expected (λ (x : List ℕ). x) (place_of c p.data) k (block_sectors p.verity.now) p.verity.now.salt expected) now now result) e one)

    -- it has the digest
    pub block-had : is_ignored p.verity.now expected ≡ false → IsRead c p old j block made → length block ≡ 512 * block_sectors p.verity.now → index + j < p.verity.now.blocks → made ≡ expected
        → GetsChain (block_in c p.verity.now (index + j)) mid now (Ok (record { index = index + j; content = block; path = path }))
    block-had taken was len there same =
        let good : digest p.verity.now.salt block ≡ expected = sym was.made_is ∙ same in
        walk_ends (λ (x : List ℕ). x) (block_in c p.verity.now (index + j)) b.size.whole walked block there
        (data_read (λ (x : List ℕ). x) (block_in c p.verity.now (index + j)) expected block taken
        (at-place (Ok block) (record {
          moved = AreRead-none _ now;
          may = (len, good);
          exact = λ sure. ap (λ (s : Outcome). then_outcome s (checked p.verity.now.salt expected)) (here was sure.steady (sure.agrees (inl refl))) ∙ checked-same p.verity.now.salt expected block good;
        })))

    -- it is ignored
    pub block-zeros : is_ignored p.verity.now expected ≡ true → block ≡ zero_block p.verity.now → index + j < p.verity.now.blocks → GetsChain (block_in c p.verity.now (index + j)) mid now (Ok (record { index = index + j; content = block; path = path }))
    block-zeros ignored zeros there =
        walk_ends (λ (x : List ℕ). x) (block_in c p.verity.now (index + j)) b.size.whole walked block there
        (data_zeros (λ (x : List ℕ). x) (block_in c p.verity.now (index + j)) expected now block b.size.whole ignored zeros)

    -- it has another one
    own-differs : IsRead c p old j block made → (made ≡ expected → ⊥)
        → Gets (checked_expected (λ (x : List ℕ). x) (block_in c p.verity.now (index + j)).on_data (block_sectors p.verity.now * (index + j)) (block_sectors p.verity.now) p.verity.now.salt expected) now now (Err (io.Stack mismatch))
    own-differs was different =
        let other : digest p.verity.now.salt block ≡ expected → ⊥ = λ good. different (was.made_is ∙ good) in
        at-place (Err (io.Stack mismatch)) (record {
          moved = AreRead-none _ now;
          may = inl refl;
          exact = λ sure. ap (λ (s : Outcome). then_outcome s (checked p.verity.now.salt expected)) (here was sure.steady (sure.agrees (inl refl))) ∙ checked-other p.verity.now.salt expected block other;
        })

    -- what its spare means stays
    spare-means : {at : List Device} {q : ℕ} → AreRead old q at → IsCertain (spare_expected (λ (x : List ℕ). x) (block_in c p.verity.now (index + j)) expected) now
        → IsCertain (spare_expected (λ (x : List ℕ). x) (block_in c p.verity.now (index + j)) expected) at
        × ((spare_expected (λ (x : List ℕ). x) (block_in c p.verity.now (index + j)) expected).means (steady_images now) ≡ (spare_expected (λ (x : List ℕ). x) (block_in c p.verity.now (index + j)) expected).means (steady_images at))
    spare-means rest sure =
        let same = same-images rest later sure.steady in
        (record { steady = same.0; agrees = λ meets. subst (AgreesAt (block_in c p.verity.now (index + j))) same.1 (sure.agrees meets) }, ap (λ (i : Images). (spare_expected (λ (x : List ℕ). x) (block_in c p.verity.now (index + j)) expected).means i) same.1)

    -- its spare, which was read after it
    module _ (taken : is_ignored p.verity.now expected ≡ false) (was : IsRead c p old j block made) (different : made ≡ expected → ⊥) {at new : List Device} {q : ℕ} (rest : AreRead old q at) where
      pub block-healed : {spare : List ℕ} → Gets (spare_expected (λ (x : List ℕ). x) (block_in c p.verity.now (index + j)) expected) at new (Ok spare) → index + j < p.verity.now.blocks
          → GetsChain (block_in c p.verity.now (index + j)) mid now (Ok (record { index = index + j; content = spare; path = path }))
      block-healed {spare = spare} got there =
          walk_ends (λ (x : List ℕ). x) (block_in c p.verity.now (index + j)) b.size.whole walked spare there
          (data_healed (λ (x : List ℕ). x) (block_in c p.verity.now (index + j)) expected mismatch taken (own-differs was different) (Ok spare) (record {
            moved = AreRead-none _ now;
            may = got.may;
            exact = λ sure. let at_last = spare-means rest sure in at_last.1 ∙ got.exact at_last.0;
          }))

      -- or which a lower line refused, or which has another digest
      pub block-other : (vain : Fault) → Gets (spare_expected (λ (x : List ℕ). x) (block_in c p.verity.now (index + j)) expected) at new (Err (io.Stack vain)) → GetsChain (block_in c p.verity.now (index + j)) mid now (Err (io.Stack mismatch))
      block-other vain got =
          walk_fails (λ (x : List ℕ). x) (block_in c p.verity.now (index + j)) b.size.whole walked (io.Stack mismatch)
          (data_healed (λ (x : List ℕ). x) (block_in c p.verity.now (index + j)) expected mismatch taken (own-differs was different) (Err (io.Stack vain)) (record {
            moved = AreRead-none _ now;
            may = tt;
            exact = λ sure. let at_last = spare-means rest sure in at_last.1 ∙ got.exact at_last.0;
          }))

  -- it is read alone, after more was read
  module _ (j : ℕ) {old mid now at : List Device} {r q : ℕ} (later : AreRead old r now) {expected : List ℕ} {path : List (List ℕ)} (walked : IsWalked (block_in c p.verity.now (index + j)) 0 expected path mid now) (rest : AreRead old q at) where
    abbrev alone_wanted : Expected (Vec ℕ Global)
    alone_wanted = data_expected (λ block. block.items) (block_in c p.verity.now (index + j)) expected

    alone-means : IsCertain alone_wanted now → IsCertain alone_wanted at × (alone_wanted.means (steady_images now) ≡ alone_wanted.means (steady_images at))
    alone-means sure =
        let same = same-images rest later sure.steady in
        (record { steady = same.0; agrees = λ meets. subst (AgreesAt (block_in c p.verity.now (index + j))) same.1 (sure.agrees meets) }, ap (λ (i : Images). alone_wanted.means i) same.1)

    pub block-alone : {new : List Device} (block : Vec ℕ Global) → Gets alone_wanted at new (Ok block) → index + j < p.verity.now.blocks → GetsChain (block_in c p.verity.now (index + j)) mid now (Ok (record { index = index + j; content = block.items; path = path }))
    block-alone block got there =
        walk_ends (λ (x : Vec ℕ Global). x.items) (block_in c p.verity.now (index + j)) b.size.whole walked block there
        (record { moved = AreRead-none _ now; may = got.may; exact = λ sure. let at_last = alone-means sure in at_last.1 ∙ got.exact at_last.0 })

    pub block-lost : {new : List Device} (fault : Fault) → Gets alone_wanted at new (Err (io.Stack fault)) → GetsChain (block_in c p.verity.now (index + j)) mid now (Err (io.Stack fault))
    block-lost fault got =
        walk_fails (λ (x : Vec ℕ Global). x.items) (block_in c p.verity.now (index + j)) b.size.whole walked (io.Stack fault)
        (record { moved = AreRead-none _ now; may = got.may; exact = λ sure. let at_last = alone-means sure in at_last.1 ∙ got.exact at_last.0 })
