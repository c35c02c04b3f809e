-- A block of a verity line that is read alone: it, or its spare.
use Rattle.std.proofs.Common.{◌≡◌, ℕ, ◌+◌, ◌*◌, ◌≤◌, ◌<◌, Bool, IsTrue, true, false, List, Option, Some, None, Result, Ok, Err, inl, refl, sym, ap, ◌∙◌, arith}
use Rattle.std.specs.Prelude.{is_some}
use Rattle.block_device.specs.Device.{Device}
use Rattle.dm_table.specs.declared.parity.Parity.{Parity}
use Rattle.stack_rules.specs.Trees.{block_sectors}
use Rattle.stack_meaning.specs.declared.fault.Fault.{Fault}
use Rattle.stack_meaning.specs.declared.fault.IoFault.{IoFault}
use Rattle.stack_meaning.specs.declared.fault.IoFault.TheVariants as io
use Rattle.stack_meaning.specs.Blocks.{checked_span}
use Rattle.stack_meaning.specs.Leaves.{steady_images, AreRead}
use Rattle.stack_meaning.specs.Outcomes.{Images, Outcome, mismatch, span}
use Rattle.stack_meaning.specs.Places.{Place, Expected}
use Rattle.stack_meaning.specs.Reading.{Gets, IsCertain}
use Rattle.stack_meaning.specs.Erasures.{covered_spare}
use Rattle.stack_meaning.specs.Spares.{covered_block, healed_outcome, verified_blocks}
use Rattle.stack_meaning.proofs.lemmas.AgreementLemmas.{agreed-restored}
use Rattle.stack_meaning.proofs.lemmas.LeafListLemmas.{AreRead-none, AreRead-then, AreRead-more, failed_earlier, failed_later, images-kept}
use Rattle.stack_meaning.proofs.lemmas.RunLemmas.{certain-for}
use Rattle.stack_lines.specs.Walks.{AgreesAt, DataBlock, at_number, block_leaves, checked_expected, healed_expected, sources_of, spare_cost, spare_expected}
use Rattle.stack_engine.specs.Healing.{IsHealed, IsSettled, healed_result}

-- a block is read on one of the devices of its line
pub record IsOnLine (b : DataBlock) (place : Place) : Type 0 where
  pub within : (i : ℕ) → IsTrue (place.leaves i) → IsTrue (block_leaves b i)
  pub agrees : (images : Images) → AgreesAt b images → place.agrees images

-- it is covered block j, if the line has parity
pub record IsCoveredAt (b : DataBlock) (place : Place) (first n j : ℕ) : Type 0 where
  pub verified : j < verified_blocks b.verity
  pub covered : (p : Parity) → b.verity.parity ≡ Some p → (images : Images) → span (λ s. (place.said s).means images) first n ≡ covered_block b.verity (sources_of b images) j

-- the agreement doesn't depend on the number
pub at-number : (b : DataBlock) (j : ℕ) (images : Images) → AgreesAt b images → AgreesAt (at_number b j) images
at-number b j images all = record { on_data = all.on_data; on_hash = all.on_hash; on_parity = all.on_parity; line = all.line }

-- what isn't healed without a device's or memory's fault is of a line without parity
no-parity : (o : Option Parity) → is_some o ≡ false → o ≡ None
no-parity None lacks = refl
no-parity (Some p) lacks = let clash : true ≡ false = lacks in absurd cc

module _ {A : Type 0} (bytes_of : A → List ℕ) (b : DataBlock) (place : Place) (first n j : ℕ) (expected : List ℕ) (on : IsOnLine b place) where
  abbrev own_wanted : Expected A
  own_wanted = checked_expected bytes_of place first n b.verity.salt expected

  abbrev wanted : Expected A
  wanted = healed_expected bytes_of b place first n j expected

  abbrev spare_wanted : Expected A
  spare_wanted = spare_expected bytes_of (at_number b j) expected

  abbrev spare_means : Images → Outcome
  spare_means images = covered_spare b.verity (sources_of b images) b.verity.parity j expected

  -- what makes the block certain makes its own read certain, and that of its spare
  own-sure : {old mid : List Device} {m : ℕ} → AreRead old m mid → IsCertain wanted old → IsCertain own_wanted mid
  own-sure moved = certain-for own_wanted moved on.within (λ meets. inl refl) on.agrees

  spare-sure : {old mid : List Device} {m : ℕ} → AreRead old m mid → IsCertain wanted old → IsCertain spare_wanted mid
  spare-sure moved = certain-for spare_wanted moved (λ i is. is) (λ meets. inl refl) (at-number b j)

  -- one that is read
  pub block-read : {old new : List Device} (x : A) → Gets own_wanted old new (Ok x) → Gets wanted old new (Ok x)
  block-read {old = old} x q = record {
    moved = AreRead-more (omega arith) q.moved;
    may = q.may;
    exact = λ sure. ap (λ (o : Outcome). healed_outcome o (spare_means (steady_images old))) (q.exact (own-sure (AreRead-none 0 old) sure));
  }

  -- one whose fault stays
  pub block-settled : {old new : List Device} (fault : IoFault) → IsSettled b.verity.parity fault → Gets own_wanted old new (Err fault) → Gets wanted old new (Err fault)
  block-settled {old = old} (io.Stack fault) settled q = record {
    moved = AreRead-more (omega arith) q.moved;
    may = q.may;
    exact = λ sure.
        ap (λ (o : Outcome). healed_outcome o (spare_means (steady_images old))) (q.exact (own-sure (AreRead-none 0 old) sure))
        ∙ ap (λ (o : Option Parity). healed_outcome (Err fault) (covered_spare b.verity (sources_of b (steady_images old)) o j expected)) (no-parity b.verity.parity settled);
  }
  block-settled (io.Device i) settled q = record { moved = AreRead-more (omega arith) q.moved; may = q.may; exact = λ sure. tt }
  block-settled io.NoMemory settled q = record { moved = AreRead-more (omega arith) q.moved; may = q.may; exact = λ sure. tt }

  module _ {old mid : List Device} (wide : n ≡ block_sectors b.verity) where
    module _ (fault : Fault) (own : Gets own_wanted old mid (Err (io.Stack fault))) where
      healed-exact : IsCertain wanted old → (x : Outcome) → spare_means (steady_images mid) ≡ x → wanted.means (steady_images old) ≡ healed_outcome (Err fault) x
      healed-exact sure x is =
          let images : steady_images mid ≡ steady_images old = images-kept own.moved in
          ap (λ (o : Outcome). healed_outcome o (spare_means (steady_images old))) (own.exact (own-sure (AreRead-none 0 old) sure))
          ∙ ap (λ (o : Outcome). healed_outcome (Err fault) o) (ap (λ (i : Images). spare_means i) (sym images) ∙ is)

      -- by its spare
      pub block-healed : {new : List Device} (spare : Result A IoFault) → Gets spare_wanted mid new spare → Gets wanted old new (healed_result (io.Stack fault) spare)
      block-healed (Ok x) q = record {
        moved = AreRead-then own.moved q.moved;
        may = (q.may.0 ∙ ap (λ (k : ℕ). 512 * k) (sym wide), q.may.1);
        exact = λ sure. healed-exact sure (Ok (bytes_of x)) (q.exact (spare-sure own.moved sure));
      }
      block-healed (Err (io.Stack vain)) q = record {
        moved = AreRead-then own.moved q.moved;
        may = own.may;
        exact = λ sure. healed-exact sure (Err vain) (q.exact (spare-sure own.moved sure));
      }
      block-healed (Err (io.Device i)) q = record {
        moved = AreRead-then own.moved q.moved;
        may = (q.may.0, failed_later own.moved.moved q.moved.moved q.may.1);
        exact = λ sure. tt;
      }
      block-healed (Err io.NoMemory) q = record { moved = AreRead-then own.moved q.moved; may = q.may; exact = λ sure. tt }

    -- a device failed: its spare is the block that is stored, or the device's fault stays
    module _ (at : IsCoveredAt b place first n j) (leaf : ℕ) (own : Gets own_wanted old mid (Err (io.Device leaf))) where
      restored-exact : (x : A) → IsCertain wanted old → spare_means (steady_images mid) ≡ Ok (bytes_of x) → wanted.means (steady_images old) ≡ Ok (bytes_of x)
      restored-exact x sure is = go (checked_span (λ s. (place.said s).means (steady_images old)) first n b.verity.salt expected) refl (ap (λ (i : Images). spare_means i) (sym (images-kept own.moved)) ∙ is)
        where
          go : (o : Outcome) → checked_span (λ s. (place.said s).means (steady_images old)) first n b.verity.salt expected ≡ o → spare_means (steady_images old) ≡ Ok (bytes_of x)
              → healed_outcome o (spare_means (steady_images old)) ≡ Ok (bytes_of x)
          go (Ok stored) there spare =
              ap Ok (sym (agreed-restored b.verity (sources_of b (steady_images old)) (λ s. (place.said s).means (steady_images old)) first n j expected stored (bytes_of x)
              (λ p has. ((sure.agrees (inl refl)).line p has j at.verified, at.covered p has (steady_images old))) there spare))
          go (Err fault) there spare = ap (healed_outcome (Err fault)) spare

      device-stays : {new : List Device} {m : ℕ} → AreRead mid m new → m ≤ spare_cost b → Gets wanted old new (Err (io.Device leaf))
      device-stays more few = record {
        moved = AreRead-more (omega (arith, few)) (AreRead-then own.moved more);
        may = (own.may.0, failed_earlier more.moved own.may.1);
        exact = λ sure. tt;
      }

      block-restored : {new : List Device} (spare : Result A IoFault) → Gets spare_wanted mid new spare → Gets wanted old new (healed_result (io.Device leaf) spare)
      block-restored (Ok x) q = record {
        moved = AreRead-then own.moved q.moved;
        may = (q.may.0 ∙ ap (λ (k : ℕ). 512 * k) (sym wide), q.may.1);
        exact = λ sure. restored-exact x sure (q.exact (spare-sure own.moved sure));
      }
      block-restored (Err (io.Stack vain)) q = device-stays q.moved (omega arith)
      block-restored (Err (io.Device i)) q = device-stays q.moved (omega arith)
      block-restored (Err io.NoMemory) q = record { moved = AreRead-then own.moved q.moved; may = q.may; exact = λ sure. tt }

    -- whichever fault its own read ended in
    pub block-answered : (at : IsCoveredAt b place first n j) {new : List Device} (own : IoFault) (spare : Result A IoFault) → IsHealed b.verity.parity own → Gets own_wanted old mid (Err own) → Gets spare_wanted mid new spare → Gets wanted old new (healed_result own spare)
    block-answered at (io.Stack fault) spare heals own q = block-healed fault own spare q
    block-answered at (io.Device leaf) spare heals own q = block-restored at leaf own spare q
    block-answered at io.NoMemory spare heals own q = let clash : false ≡ true = heals in absurd cc
