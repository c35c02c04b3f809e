use Rattle.std.proofs.Common.{ℕ, ◌≡◌, ◌-◌, ◌∙◌, IsTrue, arith, false, true, inl, inr, refl, replicate, subst, sym}
use Rattle.image_commands.specs.declared.fault.ImageFault.TheVariants.{NoMemory, Open}
use Rattle.assemble_commands.specs.Steps.{is_short}
use Rattle.assemble_commands.proofs.EndLemmas.{err-from}
use Rattle.assemble_commands.proofs.TableLemmas.{cleared-inside, puts-same}
use Rattle.assemble_commands.proofs.ends.clear_ends.Goals as goal

pub returns-in_err-empty-clause-err : goal.returns-in_err-empty-clause-err
returns-in_err-empty-clause-err g c =
    let e = c.in_err-empty.field-0.0 in
    err-from c.from_residual.result _ NoMemory c.from_residual.ensures.1 (inl ((refl, (e.asked, omega (arith, c.in_err-empty.ensures.err.0), e.refused)), refl))

pub returns-in_err-image-clause-err : goal.returns-in_err-image-clause-err
returns-in_err-image-clause-err g c =
    let file = c.in_err-image.field-0.0 in
    err-from c.from_residual-in_err-image.result _ (Open file) c.from_residual-in_err-image.ensures.1
    (inr (inl (file, refl, c.in_err-image.ensures.err)))

pub returns-then-is_short-clause-err : goal.returns-then-is_short-clause-err
returns-then-is_short-clause-err g c =
    inr (inr (record {
      image = c.in_ok-image.image;
      device' = c.in_ok-image.image.device;
      opened = c.in_ok-image.ensures.ok;
      fails = inl (subst (λ (n : ℕ). is_short n c.args.needed ≡ true) c.sectors-sectors.ensures.size (sym c.is_short.ensures ∙ c.if-is_short.true), refl);
    }))

pub write_ends-requires-clause-ends : goal.write_ends-requires-clause-ends
write_ends-requires-clause-ends g c =
    cleared-inside (g.I.Dev.BlockDev.state c.in_ok-image.image.device) c.args.needed c.sectors-sectors.result _ _ _ c.sectors-sectors.ensures.size (sym c.is_short.ensures ∙ c.if-is_short.false) (omega arith)
    (c.deref.ensures.value ∙ c.in_ok-empty.ensures.ok) (c.deref-2.ensures.value ∙ c.in_ok-empty.ensures.ok)

pub write_ends-requires-clause-allowed : goal.write_ends-requires-clause-allowed
write_ends-requires-clause-allowed g c = subst IsTrue (sym c.in_ok-image.ensures.fresh.may_write) refl

pub returns-clause-err : goal.returns-clause-err
returns-clause-err g c = inr (inr (record { image = c.in_ok-image.image; device' = c.write_ends.new.device; opened = c.in_ok-image.ensures.ok; fails = inr (c.in-Err.ensures.err, refl) }))

pub returns-in-Ok-clause-ok : goal.returns-in-Ok-clause-ok
returns-in-Ok-clause-ok g c =
    let state = g.I.Dev.BlockDev.state in
    let device = state c.in_ok-image.image.device in
    record {
      between = c.open_apart.new.images;
      image = c.in_ok-image.image;
      device' = c.write_ends.new.device;
      opened = c.in_ok-image.ensures.ok;
      used = record {
        long = subst (λ (n : ℕ). is_short n c.args.needed ≡ false) c.sectors-sectors.ensures.size (sym c.is_short.ensures ∙ c.if-is_short.false);
        puts =
            puts-same device (state c.write_ends.new.device) _ (replicate 32768 0) _ (replicate 32768 0) _ (device.size - 64) (c.deref.ensures.value ∙ c.in_ok-empty.ensures.ok)
            (omega (arith, c.sectors-sectors.ensures.size)) (c.deref-2.ensures.value ∙ c.in_ok-empty.ensures.ok) c.in-Ok.ensures.ok;
      };
      closed = c.close.ensures;
    }
