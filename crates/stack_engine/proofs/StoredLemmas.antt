-- A covered block as it is stored, and its digest.
use Rattle.std.proofs.Common.{◌≡◌, ℕ, ◌+◌, ◌-◌, ◌*◌, ◌/◌, ◌<◌, ◌≤◌, Bool, IsTrue, List, [], Option, Some, None, Result, Ok, Err, refl, sym, ap, ◌∙◌, arith, subst}
use Rattle.std.proofs.Math.Nat.{mul-le-mul_left}
use Rattle.block_device.specs.Call.{Call}
use Rattle.block_device.specs.Device.{Device}
use Rattle.tree_shape.specs.Digests.{digest}
use Rattle.dm_table.specs.declared.parity.Parity.{Parity}
use Rattle.dm_table.specs.declared.verity.Verity.{Verity}
use Rattle.stack_rules.specs.Descend.{depth, read_cost}
use Rattle.stack_rules.specs.Names.{mapped}
use Rattle.stack_rules.specs.Records.{Configuration}
use Rattle.stack_rules.specs.Rules.{IsLoaded}
use Rattle.stack_rules.specs.Trees.{block_sectors}
use Rattle.stack_meaning.specs.declared.fault.IoFault.{IoFault}
use Rattle.stack_meaning.specs.Leaves.{steady_images}
use Rattle.stack_meaning.specs.Outcomes.{Images, Outcome, changed_outcome, span}
use Rattle.stack_meaning.specs.Places.{place_of, run_expected}
use Rattle.stack_meaning.specs.Reading.{Gets}
use Rattle.stack_meaning.specs.Spares.{covered_start}
use Rattle.stack_meaning.proofs.lemmas.LeafListLemmas.{AreRead-none, AreRead-more}
use Rattle.stack_meaning.proofs.lemmas.RunLemmas.{certain-for, fault_passes}
use Rattle.stack_lines.specs.declared.source.Source.TheVariants.{Below}
use Rattle.stack_lines.specs.declared.tree.Extent.{Extent}
use Rattle.stack_lines.specs.declared.tree.Tree.{Tree}
use Rattle.stack_lines.specs.Touches.{AsksOnly, leaves_of}
use Rattle.stack_lines.specs.Walks.{DataBlock, IsTreeOf, block_in}
use Rattle.stack_lines.proofs.lemmas.AskLemmas.{asks-up}
use Rattle.stack_engine.specs.Bytes.{GetsBytes}
use Rattle.stack_engine.specs.Restored.{Served}
use Rattle.stack_engine.specs.SectorCalls.{Gives, ReadsBy, block_at, covered_at, place_in}
use Rattle.stack_engine.specs.Spares.{block_cost, sector_cost, stored_digest_wanted}
use Rattle.stack_engine.proofs.lemmas.RoundLemmas.{covered-means, covered-of}

-- the extent that was found
pub extent-is : {e x : Extent} → Some e ≡ Some x → e ≡ x
extent-is same = cc

module _ (c : Configuration) (v : Verity) (tree : Tree) (loaded : IsLoaded c) (is : IsTreeOf c v tree) (k : ℕ) (e : Extent) (at : e ≡ covered_at (place_in v tree k) k) where
  abbrev b : DataBlock
  b = block_in c v k

  pub stored-deep : depth c e.lower < depth c (mapped tree.device.0)
  stored-deep = subst (λ (x : Extent). depth c x.lower < depth c (mapped tree.device.0)) (sym at) (covered-of c v tree loaded is k k).deep

  pub stored-asks : {A Unhealed : Type 0} {old new : List Device} {result : Result A IoFault} → AsksOnly Unhealed (leaves_of c e.lower) old new result → AsksOnly Unhealed (leaves_of c (mapped tree.device.0)) old new result
  stored-asks {Unhealed = Unhealed} {old = old} {new = new} {result = result} h = asks-up (covered-of c v tree loaded is k k).within (subst (λ (x : Extent). AsksOnly Unhealed (leaves_of c x.lower) old new result) at h)

  -- its calls
  pub stored-calls : {D : Type 0} {does : D → Call → D → Type 0} {n : ℕ} {old new : Served D} {answer : Result (List ℕ) IoFault} → n ≡ e.sectors → Gives does c (Below e.lower e.first) n old new answer → ReadsBy does c (block_at (place_in v tree k) k) old new answer
  stored-calls {does = does} {old = old} {new = new} {answer = answer} count got =
      subst (λ (x : Extent). Gives does c (Below x.lower x.first) x.sectors old new answer) at (subst (λ (m : ℕ). Gives does c (Below e.lower e.first) m old new answer) count got)

  module _ (n : ℕ) (count : n ≡ e.sectors) where
    sectors : n ≡ block_sectors v
    sectors = count ∙ ap (λ (x : Extent). x.sectors) at

    stored-cost : n * read_cost c e.lower ≤ block_cost b
    stored-cost =
        let most : read_cost c e.lower ≤ sector_cost b = subst (λ (x : Extent). read_cost c x.lower ≤ sector_cost b) (sym at) (covered-of c v tree loaded is k k).cost in
        let less : n * read_cost c e.lower ≤ n * sector_cost b = mul-le-mul_left n most in
        omega (arith, less, ap (λ m. m * sector_cost b) sectors)

    stored-exact : (images : Images) (x : Outcome) → span (λ s. ((place_of c e.lower).said s).means images) e.first n ≡ x → (stored_digest_wanted c v k).means images ≡ changed_outcome (digest v.salt) x
    stored-exact images x got =
        ap (λ (o : Outcome). changed_outcome (digest v.salt) o)
        (covered-means c v tree loaded is k images k
        ∙ sym (ap (λ (y : Extent). span (λ s. ((place_of c y.lower).said s).means images) y.first (block_sectors v)) at)
        ∙ sym (ap (λ m. span (λ s. ((place_of c e.lower).said s).means images) e.first m) sectors) ∙ got)

    within : (i : ℕ) → IsTrue (leaves_of c e.lower i) → IsTrue ((stored_digest_wanted c v k).leaves i)
    within i on = (covered-of c v tree loaded is k k).leaves i (subst (λ (x : Extent). IsTrue (leaves_of c x.lower i)) at on)

    agrees : (images : Images) → (stored_digest_wanted c v k).agrees images → (run_expected (place_of c e.lower) [] e.first n).agrees images
    agrees images all = subst (λ (x : Extent). (place_of c x.lower).agrees images) (sym at) ((covered-of c v tree loaded is k k).agrees images all)

    pub stored-had : {old new : List Device} {block : List ℕ} → GetsBytes c e.lower e.first n old new (Ok block) → Gets (stored_digest_wanted c v k) old new (Ok (digest v.salt block))
    stored-had {old = old} {block = block} gets = record {
      moved = AreRead-more stored-cost gets.got.moved;
      may = tt;
      exact = λ sure. stored-exact (steady_images old) (Ok block)
          (gets.got.exact (certain-for (run_expected (place_of c e.lower) gets.chains e.first n) {wanted' = stored_digest_wanted c v k} (AreRead-none 0 old) within (λ meets. tt) agrees sure));
    }

    pub stored-lacks : {old new : List Device} (fault : IoFault) → GetsBytes c e.lower e.first n old new (Err fault) → Gets (stored_digest_wanted c v k) old new (Err fault)
    stored-lacks {old = old} fault gets =
        fault_passes {wanted = run_expected (place_of c e.lower) gets.chains e.first n} {wanted' = stored_digest_wanted c v k} fault gets.got (AreRead-none 0 old) (omega (arith, stored-cost))
        (λ x meets. tt) within agrees (λ sure x is. stored-exact (steady_images old) (Err x) is)
