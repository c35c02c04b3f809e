use Rattle.std.proofs.Common.{ℕ, ◌∙◌, IsTrue, ap, arith, inl, inr, length, refl, subst, sym}
use Rattle.std.proofs.lemmas.List.{length-replicate}
use Rattle.image_commands.specs.declared.fault.ImageFault.TheVariants.{NoMemory}
use Rattle.assemble_commands.proofs.EndLemmas.{err-from}
use Rattle.assemble_commands.proofs.filling.copy_part.Goals as goal

pub returns-in_err-room-clause-err : goal.returns-in_err-room-clause-err
returns-in_err-room-clause-err g c =
    let e = c.in_err-room.field-0.0 in
    err-from c.from_residual.result _ NoMemory c.from_residual.ensures.1 (inl ((refl, (e.asked, omega (arith, c.in_err-room.ensures.err.0), e.refused)), refl))

pub returns-in_err-image-clause-err : goal.returns-in_err-image-clause-err
returns-in_err-image-clause-err g c =
    err-from c.from_residual-in_err-image.result _ c.in_err-image.field-0.0 c.from_residual-in_err-image.ensures.1 (inr (inl c.in_err-image.ensures.err))

pub copy_synced-requires-clause-room : goal.copy_synced-requires-clause-room
copy_synced-requires-clause-room g c = ap length c.deref_mut.ensures.value ∙ ap length c.in_ok-room.ensures.ok ∙ length-replicate {A = ℕ} 65536 0

pub copy_synced-requires-clause-fits : goal.copy_synced-requires-clause-fits
copy_synced-requires-clause-fits g c =
    (omega (arith, c.if-held-sectors.false, c.sectors-held.ensures.size, c.sectors-sectors.ensures.size), subst IsTrue (sym c.in_ok-image.ensures.fresh.may_write) refl)

pub returns-then-held-sectors-clause-err : goal.returns-then-held-sectors-clause-err
returns-then-held-sectors-clause-err g c =
    inr (inr (record {
      image = c.in_ok-image.image;
      device' = c.in_ok-image.image.device;
      opened = c.in_ok-image.ensures.ok;
      fails = (c.args.data_dev.now.inner, inl (omega (arith, c.if-held-sectors.true, c.sectors-held.ensures.size, c.sectors-sectors.ensures.size), refl));
    }))

pub returns-clause-err : goal.returns-clause-err
returns-clause-err g c =
    inr (inr (record { image = c.in_ok-image.image; device' = c.copy_synced.new.to; opened = c.in_ok-image.ensures.ok; fails = (c.copy_synced.new.from.inner, inr (c.in-Err.ensures.err, refl)) }))

pub returns-in-Ok-clause-ok : goal.returns-in-Ok-clause-ok
returns-in-Ok-clause-ok g c = record {
  between = c.open_disk_part.new.images;
  image = c.in_ok-image.image;
  device' = c.copy_synced.new.to;
  opened = c.in_ok-image.ensures.ok;
  used = c.in-Ok.ensures.ok;
  closed = c.close_part.ensures;
}
