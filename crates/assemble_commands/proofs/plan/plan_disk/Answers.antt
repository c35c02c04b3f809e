use Rattle.std.proofs.Common.{ℕ, ap, inl, inr, refl, subst, ◌∙◌}
use Rattle.disk_layout.specs.Parts.{disk_parts}
use Rattle.image_commands.specs.declared.fault.ImageFault.TheVariants.{Format}
use Rattle.tree_shape.specs.Shape.{ShapeRecord}
use Rattle.verity_format.specs.Image.{image_sectors}
use Rattle.verity_format.specs.Superblock.{shape_of}
use Rattle.assemble_commands.specs.Plans.{IsParityCount, padded}
use Rattle.assemble_commands.proofs.EndLemmas.{err-from}
use Rattle.assemble_commands.proofs.plan.plan_disk.Goals as goal

pub returns-in_err-options-clause-err : goal.returns-in_err-options-clause-err
returns-in_err-options-clause-err g c =
    err-from c.from_residual.result _ c.in_err-options.field-0.0 c.from_residual.ensures.1 (inl (rw c.seed_options.ensures at c.in_err-options.ensures.err))

pub returns-in_err-superblock-clause-err : goal.returns-in_err-superblock-clause-err
returns-in_err-superblock-clause-err g c =
    err-from c.from_residual-in_err-superblock.result _ (Format c.in_err-superblock.field-0.0) c.from_residual-in_err-superblock.ensures.1
    (inr (
      ap (λ fault. Format fault) c.in_err-superblock.ensures.err.0,
      record {
        options = c.in_ok-options.options;
        drawn = rw c.seed_options.ensures at c.in_ok-options.ensures.ok;
        unshaped = inl c.in_err-superblock.ensures.err.1;
      },
    ))

pub returns-clause-ok : goal.returns-clause-ok
returns-clause-ok g c =
    let shape : ShapeRecord = shape_of c.in_ok-superblock.superblock in
    let hash = c.image_sectors-hash.ensures ∙ ap image_sectors c.shape-shape.ensures.value in
    let parity : ℕ = c.parity_count-parity.result in
    record {
      drawn = rw c.seed_options.ensures at c.in_ok-options.ensures.ok;
      shaped = c.in_ok-superblock.ensures.ok;
      is_superblock = c.in_ok-superblock.ensures.valid;
      parity_count = parity;
      parity = subst (λ (n : ℕ). IsParityCount shape n c.args.words.now.parity parity) hash (subst (λ (s : ShapeRecord). IsParityCount s c.image_sectors-hash.result c.args.words.now.parity parity) c.shape-shape.ensures.value c.parity_count-parity.ensures);
      parts = c.disk_parts.ensures
          ∙ ap (λ (n : ℕ). disk_parts n c.image_sectors-hash.result parity) c.padded-data.ensures
          ∙ ap (λ (n : ℕ). disk_parts (padded c.args.words.now.sector_size c.args.sectors) n parity) hash;
      kinds_are = refl;
      size = c.size_of.ensures;
      has_parity = refl;
    }
