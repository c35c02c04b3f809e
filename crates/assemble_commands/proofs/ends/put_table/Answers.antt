use Rattle.std.proofs.Common.{ℕ, ap, ◌≡◌, ◌∙◌, IsTrue, arith, false, true, inl, inr, length, refl, subst, sym}
use Rattle.block_device.specs.Device.{IsInside}
use Rattle.disk_layout.specs.Ends.{back_bytes, back_sector, front_bytes}
use Rattle.disk_layout.specs.Writing.{PutsEnds}
use Rattle.image_commands.specs.declared.fault.ImageFault.TheVariants.{NoMemory, Open}
use Rattle.partition_table.specs.declared.sector_size.Disk.{Disk}
use Rattle.assemble_commands.specs.Plans.{disk_id, partitions_of}
use Rattle.assemble_commands.specs.Steps.{is_short}
use Rattle.assemble_commands.proofs.EndLemmas.{err-from}
use Rattle.assemble_commands.proofs.TableLemmas.{back-inside, front-inside, long-enough, puts-same}
use Rattle.assemble_commands.proofs.ends.put_table.Goals as goal

pub returns-in_err-image-clause-err : goal.returns-in_err-image-clause-err
returns-in_err-image-clause-err g c =
    let file = c.in_err-image.field-0.0 in
    err-from c.from_residual.result _ (Open file) c.from_residual.ensures.1
    (inl (file, refl, c.in_err-image.ensures.err))

pub returns-then-is_short-clause-err : goal.returns-then-is_short-clause-err
returns-then-is_short-clause-err g c =
    let needed : ℕ = c.args.plan.now.parts.sectors in
    inr (record {
      image = c.in_ok-image.image;
      device' = c.in_ok-image.image.device;
      opened = c.in_ok-image.ensures.ok;
      fails = inr (inl (subst (λ (n : ℕ). is_short n needed ≡ true) c.sectors-sectors.ensures.size (sym c.is_short.ensures ∙ c.if-is_short.true), refl));
    })

pub returns-in_err-ends-clause-err : goal.returns-in_err-ends-clause-err
returns-in_err-ends-clause-err g c =
    let e = c.in_err-ends.field-0.0 in
    err-from c.from_residual-in_err-ends.result _ NoMemory c.from_residual-in_err-ends.ensures.1
    (inr (record {
      image = c.in_ok-image.image;
      device' = c.in_ok-image.image.device;
      opened = c.in_ok-image.ensures.ok;
      fails = inl (refl, (e.asked, omega (arith, c.in_err-ends.ensures.err), e.refused));
    }))

pub write_ends-requires-clause-ends : goal.write_ends-requires-clause-ends
write_ends-requires-clause-ends g c =
    let device = g.I.Dev.BlockDev.state c.in_ok-image.image.device in
    let long = long-enough device.size c.args.plan.now.parts.sectors (subst (λ (n : ℕ). is_short n c.args.plan.now.parts.sectors ≡ false) c.sectors-sectors.ensures.size (sym c.is_short.ensures ∙ c.if-is_short.false)) in
    let size = c.args.plan.now.size in (
      front-inside device size _ long (ap length c.deref.ensures.value ∙ rw c.of-disk.ensures.value at c.in_ok-ends.ensures.sizes.0),
      subst (λ (n : ℕ). IsInside device n (length c.deref-2.result.now)) (sym (c.back_sector.ensures ∙ ap back_sector c.of-disk.ensures.value))
          (back-inside device size _ long (ap length c.deref-2.ensures.value ∙ rw c.of-disk.ensures.value at c.in_ok-ends.ensures.sizes.1)),
    )

pub write_ends-requires-clause-allowed : goal.write_ends-requires-clause-allowed
write_ends-requires-clause-allowed g c = subst IsTrue (sym c.in_ok-image.ensures.fresh.may_write) refl

pub returns-clause-err : goal.returns-clause-err
returns-clause-err g c = inr (record { image = c.in_ok-image.image; device' = c.write_ends.new.device; opened = c.in_ok-image.ensures.ok; fails = inr (inr (c.in-Err.ensures.err, refl)) })

pub returns-in-Ok-clause-ok : goal.returns-in-Ok-clause-ok
returns-in-Ok-clause-ok g c =
    let state = g.I.Dev.BlockDev.state in
    let device = state c.in_ok-image.image.device in
    let new = state c.write_ends.new.device in
    let plan = c.args.plan.now in
    let made = c.args.made.now in
    record {
      between = c.open_apart.new.images;
      image = c.in_ok-image.image;
      device' = c.write_ends.new.device;
      opened = c.in_ok-image.ensures.ok;
      used = record {
        long = subst (λ (n : ℕ). is_short n plan.parts.sectors ≡ false) c.sectors-sectors.ensures.size (sym c.is_short.ensures ∙ c.if-is_short.false);
        few = omega (arith, c.sectors-sectors.ensures.size, c.sectors-sectors.ensures.small);
        puts = subst (λ (disk : Disk). PutsEnds device (front_bytes disk (disk_id made) (partitions_of plan made)) (back_sector disk) (back_bytes disk (disk_id made) (partitions_of plan made)) new) c.of-disk.ensures.value
            (puts-same device new _ _ _ _ _ _ (c.deref.ensures.value ∙ c.in_ok-ends.ensures.front) c.back_sector.ensures (c.deref-2.ensures.value ∙ c.in_ok-ends.ensures.back) c.in-Ok.ensures.ok);
      };
      closed = c.close.ensures;
    }
