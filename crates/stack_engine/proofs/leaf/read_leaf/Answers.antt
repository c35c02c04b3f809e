use Rattle.std.proofs.Common.{◌≡◌, ◌<◌, ◌≤◌, ◌+◌, ◌*◌, ◌/◌, ◌-◌, length, map, get_or, set, true, false, ℕ, List, Ok, sym, ap, ◌∙◌, subst, arith, inl, inr}
use Rattle.block_device.specs.Device.{Device, IsRead, HasFailed}
use Rattle.stack_rules.specs.declared.lower.Lower.TheVariants.{Leaf}
use Rattle.stack_rules.specs.Records.{Configuration}
use Rattle.stack_rules.specs.Descend.{read_cost}
use Rattle.stack_meaning.specs.Outcomes.{zero_sector}
use Rattle.stack_meaning.specs.Meaning.{Said, said_at}
use Rattle.stack_meaning.specs.Leaves.{steady_images, LeafFailed}
use Rattle.stack_lines.proofs.lemmas.WriteLeafLemmas.{leaf-plain, leaf-stops}
use Rattle.stack_lines.proofs.lemmas.TouchLemmas.{leaf-named}
use Rattle.stack_lines.proofs.lemmas.AskLemmas.{leaf-asked, leaf-ends, leaf-fails}
use Rattle.stack_lines.proofs.lemmas.StandingLemmas.{leaf-stands}
use Rattle.stack_meaning.proofs.lemmas.LeafLemmas.{leaf-size, leaves-few, AreRead-device, image_at, steady_at, LeafFailed-device}
use Rattle.block_device.specs.Call.{DeviceDoes, Read}
use Rattle.stack_engine.proofs.StackLemmas.{leaf-called, leaf-there}
use Rattle.stack_meaning.proofs.lemmas.LeafListLemmas.{AreRead-more}
use Rattle.stack_meaning.proofs.lemmas.SpanLemmas.{span_image}
use Rattle.stack_meaning.proofs.lemmas.SectorLemmas.{said_at-leaf}
use Rattle.stack_meaning.proofs.lemmas.CostLemmas.{cost-leaf}
use Rattle.stack_meaning.proofs.lemmas.RunLemmas.{leaf-run}
use Rattle.stack_engine.proofs.leaf.read_leaf.Goals as goal

pub bounds-devices-leaf : goal.bounds-devices-leaf
bounds-devices-leaf g c = leaf-there g.D.BlockDev.state c.args.devices.now c.args.config.now c.args.leaf c.args.first c.args.out.now c.requires.sound c.requires.fits

pub offset_bounds-devices-leaf : goal.offset_bounds-devices-leaf
offset_bounds-devices-leaf g c = let there = leaf-there g.D.BlockDev.state c.args.devices.now c.args.config.now c.args.leaf c.args.first c.args.out.now c.requires.sound c.requires.fits in grind (arith, there)

pub read-requires : goal.read-requires
read-requires g c =
    let size = leaf-size g.D.BlockDev.state c.args.devices.now _ c.requires.sound.serve c.args.leaf c.index-devices-leaf.result (leaf-there g.D.BlockDev.state c.args.devices.now c.args.config.now c.args.leaf c.args.first c.args.out.now c.requires.sound c.requires.fits) in
    record { some = c.requires.fits.sectors.some; whole = c.requires.fits.sectors.whole; inside = omega (arith, size, c.requires.fits.holds) }

pub overflow_add-result : goal.overflow_add-result
overflow_add-result g c =
    let few = leaves-few g.D.BlockDev.state c.args.devices.now _ c.requires.sound.serve c.args.leaf (leaf-there g.D.BlockDev.state c.args.devices.now c.args.config.now c.args.leaf c.args.first c.args.out.now c.requires.sound c.requires.fits) c.requires.sound.loaded.leaves.count in omega (arith, few)

leaf_cost : (c : Configuration) (i n : ℕ) → n ≤ n * read_cost c (Leaf i)
leaf_cost c i n = let one : n * read_cost c (Leaf i) ≡ n * 1 = ap (λ (k : ℕ). n * k) (cost-leaf c i) in omega (arith, one)

grows : (old new : Device) (n : ℕ) → IsRead old n false new → HasFailed old new → old.failures ≤ new.failures
grows old new n r h = elim h [ inl more ↦ omega (arith, more) | inr full ↦ omega (arith, full, r.failures) ]

pub returns-in-Ok-clause-reads : goal.returns-in-Ok-clause-reads
returns-in-Ok-clause-reads g c =
    let state = g.D.BlockDev.state in
    let config = c.args.config.now in
    let devices = c.args.devices.now in
    let leaf = c.args.leaf in
    let x = c.index-devices-leaf.result in
    let n : ℕ = length c.args.out.now / 512 in
    let some : 0 < n = omega (arith, c.requires.fits.sectors.some, c.requires.fits.sectors.whole) in
    let there = leaf-there state devices config leaf c.args.first c.args.out.now c.requires.sound c.requires.fits in
    let old : Device = state (get_or devices leaf x) in
    let whole = g.met.D.BlockDev.whole (get_or devices leaf x) in
    let size = leaf-size state devices _ c.requires.sound.serve leaf x there in
    let kept = c.in-Ok.ensures.moved in
    let moved = AreRead-more (leaf_cost config leaf n) (AreRead-device state devices leaf x there _ _ c.read.new.self some (omega (arith, kept.failures)) kept) in
    record {
      got = λ found. record {
        moved = moved;
        may = leaf-run (λ s. (said_at config (Leaf leaf) s).may found) c.args.first n c.read.new.out (omega (arith, c.read.auto.out, c.requires.fits.sectors.whole))
            (λ s bytes h. subst (λ (x : Said). x.may found bytes) (sym (said_at-leaf config leaf s)) h);
        exact = λ sure.
            let here = steady_at state devices leaf x there (leaf-stands config leaf) sure.steady in
            span_image _ old.image c.args.first n
            (λ s. ap (λ (x : Said). x.means (steady_images (map state devices))) (said_at-leaf config leaf s) ∙ ap (λ (l : List (List ℕ)). Ok (get_or l s zero_sector)) (image_at state devices leaf x there here))
            (omega (arith, size, whole.length, c.requires.fits.holds))
            ∙ ap Ok (sym (c.in-Ok.ensures.bytes here));
      };
      plain = leaf-plain state devices leaf config c.args.first n some c.read.new.self _ (λ e. cc) tt;
      touches = leaf-asked (Unit {0}) state devices leaf config c.read.new.self _ tt (leaf-ends state devices leaf x there c.read.new.self {A = Unit {0}} tt kept.failures);
    }

pub returns-in-Err-clause-reads : goal.returns-in-Err-clause-reads
returns-in-Err-clause-reads g c =
    let state = g.D.BlockDev.state in
    let config = c.args.config.now in
    let devices = c.args.devices.now in
    let leaf = c.args.leaf in
    let x = c.index-devices-leaf.result in
    let n : ℕ = length c.args.out.now / 512 in
    let some : 0 < n = omega (arith, c.requires.fits.sectors.some, c.requires.fits.sectors.whole) in
    let there = leaf-there state devices config leaf c.args.first c.args.out.now c.requires.sound c.requires.fits in
    let kept = c.in-Err.ensures.moved in
    let failed = LeafFailed-device state devices leaf x there c.read.new.self c.in-Err.ensures.fault (λ never. let clash = c.in-Err.ensures.sure never in cc) in
    let number : leaf ≡ leaf + 1 - 1 = omega arith in
    record {
      got = λ found. record {
        moved = AreRead-more (leaf_cost config leaf n) (AreRead-device state devices leaf x there _ _ c.read.new.self some (grows _ _ n kept c.in-Err.ensures.fault) kept);
        may = (omega arith, subst (λ (i : ℕ). LeafFailed i (map state devices) (map state (set devices leaf c.read.new.self))) number failed);
        exact = λ sure. tt;
      };
      plain = leaf-plain state devices leaf config c.args.first n some c.read.new.self _ (λ e. cc) (leaf-stops state devices leaf config c.args.first n some c.read.new.self);
      touches = leaf-asked (Unit {0}) state devices leaf config c.read.new.self _ (leaf-named config leaf) (leaf-fails state devices leaf x there c.read.new.self (Unit {0}) kept.failures);
    }

pub returns-in-Ok-clause-call : goal.returns-in-Ok-clause-call
returns-in-Ok-clause-call g c =
    let there = leaf-there g.D.BlockDev.state c.args.devices.now c.args.config.now c.args.leaf c.args.first c.args.out.now c.requires.sound c.requires.fits in
    leaf-called (DeviceDoes g.D.BlockDev.state g.D.BlockDev.does) c.args.devices.now c.args.leaf c.index-devices-leaf.result there (Read c.args.first c.read.new.out true) c.read.new.self c.in-Ok.ensures.call

pub returns-in-Err-clause-call : goal.returns-in-Err-clause-call
returns-in-Err-clause-call g c =
    let there = leaf-there g.D.BlockDev.state c.args.devices.now c.args.config.now c.args.leaf c.args.first c.args.out.now c.requires.sound c.requires.fits in
    leaf-called (DeviceDoes g.D.BlockDev.state g.D.BlockDev.does) c.args.devices.now c.args.leaf c.index-devices-leaf.result there (Read c.args.first c.read.new.out false) c.read.new.self c.in-Err.ensures.call
