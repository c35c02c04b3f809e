use Rattle.std.proofs.Common.{inl, inr, refl, subst}
use Rattle.fec_area.specs.Layouts.{IsLayoutOf}
use Rattle.fec_commands.specs.declared.fault.FecFault.TheVariants.{Parity, Verity}
use Rattle.tree_shape.specs.Shape.{ShapeRecord}
use Rattle.verity_commands.specs.declared.verity_fault.VerityFault.TheVariants.{Image}
use Rattle.assemble_commands.specs.StepEnds.{IsUnlaid}
use Rattle.assemble_commands.proofs.EndLemmas.{err-from, sealed-inner, sealing-inner}
use Rattle.assemble_commands.proofs.parity.protect_parts.Goals as goal

pub returns-then-not-plan-clause-ok : goal.returns-then-not-plan-clause-ok
returns-then-not-plan-clause-ok g c = rw c.if-not-plan.true (refl, refl)

pub returns-in_err-hash-clause-err : goal.returns-in_err-hash-clause-err
returns-in_err-hash-clause-err g c =
    let cause = c.in_err-hash.field-0.0 in
    err-from c.from_residual.result _ (Verity (Image cause)) c.from_residual.ensures.1 (rw c.if-not-plan.false refl, inl (cause, refl, inl c.in_err-hash.ensures.err))

pub returns-in_err-parity-clause-err : goal.returns-in_err-parity-clause-err
returns-in_err-parity-clause-err g c =
    let cause = c.in_err-parity.field-0.0 in
    err-from c.from_residual-in_err-parity.result _ (Verity (Image cause)) c.from_residual-in_err-parity.ensures.1 (
      rw c.if-not-plan.false refl,
      inl (cause, refl, inr (record { between = c.open_disk_part.new.images; hash = c.in_ok-hash.hash; opens_hash = c.in_ok-hash.ensures.ok; refused = c.in_err-parity.ensures.err })),
    )

pub returns-in_default-clause-err : goal.returns-in_default-clause-err
returns-in_default-clause-err g c =
    let state = g.I.Dev.BlockDev.state in (
      rw c.if-not-plan.false refl,
      inr (record {
        between = c.open_disk_part.new.images;
        hash = c.in_ok-hash.hash;
        parity = c.in_ok-parity.parity;
        opens_hash = c.in_ok-hash.ensures.ok;
        opens_parity = c.in_ok-parity.ensures.ok;
        fails = inl (refl, subst (λ (s : ShapeRecord). IsUnlaid s (state c.args.data_dev.now.inner) (state c.in_ok-hash.hash.device)) c.shape-shape.ensures.value c.in_default.ensures.none);
      }),
    )

pub returns-in_err-write_synced-clause-err : goal.returns-in_err-write_synced-clause-err
returns-in_err-write_synced-clause-err g c =
    let state = g.I.Dev.BlockDev.state in
    let cause = c.in_err-write_synced.field-0.0 in
    err-from c.from_residual-in_err-write_synced.result _ (Parity cause) c.from_residual-in_err-write_synced.ensures.1 (
      rw c.if-not-plan.false refl,
      inr (record {
        between = c.open_disk_part.new.images;
        hash = c.in_ok-hash.hash;
        parity = c.in_ok-parity.parity;
        opens_hash = c.in_ok-hash.ensures.ok;
        opens_parity = c.in_ok-parity.ensures.ok;
        fails = inr (record {
          cause = cause;
          layout = c.in-Some.layout;
          parity_dev' = c.write_synced.new.parity_dev;
          is = subst (λ (s : ShapeRecord). IsLayoutOf s (state c.in_ok-hash.hash.device).size 2 c.in-Some.layout) c.shape-shape.ensures.value c.in-Some.ensures.is;
          laid = c.in-Some.ensures.laid;
          ends = sealing-inner state (λ w. w.inner) _ c.in-Some.layout _ _ _ _ cause c.in_err-write_synced.ensures.err;
          fault_is = refl;
        });
      }),
    )

pub returns-clause-ok : goal.returns-clause-ok
returns-clause-ok g c =
    let state = g.I.Dev.BlockDev.state in
    rw c.if-not-plan.false (record {
      hash_opened = c.open_disk_part.new.images;
      parity_opened = c.open_disk_part-2.new.images;
      hash = c.in_ok-hash.hash;
      parity = c.in_ok-parity.parity;
      parity_dev' = c.write_synced.new.parity_dev;
      layout = c.in-Some.layout;
      opens_hash = c.in_ok-hash.ensures.ok;
      opens_parity = c.in_ok-parity.ensures.ok;
      is = subst (λ (s : ShapeRecord). IsLayoutOf s (state c.in_ok-hash.hash.device).size 2 c.in-Some.layout) c.shape-shape.ensures.value c.in-Some.ensures.is;
      laid = c.in-Some.ensures.laid;
      sealed = sealed-inner state (λ w. w.inner) _ c.in-Some.layout _ _ _ _ c.in_ok-write_synced.ensures.ok;
      closed = c.close_part.ensures;
    })
