use Rattle.std.proofs.Common.{inl, inr, refl}
use Rattle.fec_commands.specs.declared.fault.FecFault.TheVariants.{Verity}
use Rattle.verity_commands.specs.declared.verity_fault.VerityFault.TheVariants.{Image}
use Rattle.assemble_commands.proofs.EndLemmas.{err-from}
use Rattle.assemble_commands.proofs.assemble.fill_disk.Goals as goal

pub returns-in_err-grow_disk-clause-err : goal.returns-in_err-grow_disk-clause-err
returns-in_err-grow_disk-clause-err g c =
    let cause = c.in_err-grow_disk.field-0.0 in
    err-from c.from_residual.result _ (Verity (Image cause)) c.from_residual.ensures.1 (inl (cause, refl, c.in_err-grow_disk.ensures.err))

pub returns-in_err-clear_ends-clause-err : goal.returns-in_err-clear_ends-clause-err
returns-in_err-clear_ends-clause-err g c =
    let cause = c.in_err-clear_ends.field-0.0 in
    err-from c.from_residual-in_err-clear_ends.result _ (Verity (Image cause)) c.from_residual-in_err-clear_ends.ensures.1
    (inr (record { grown = c.grow_disk.new.images; grows = c.in_ok-grow_disk.ensures.ok; ends = inl (cause, refl, c.in_err-clear_ends.ensures.err) }))

pub returns-in_err-copy_part-clause-err : goal.returns-in_err-copy_part-clause-err
returns-in_err-copy_part-clause-err g c =
    let cause = c.in_err-copy_part.field-0.0 in
    err-from c.from_residual-in_err-copy_part.result _ (Verity (Image cause)) c.from_residual-in_err-copy_part.ensures.1
    (inr (record {
      grown = c.grow_disk.new.images;
      grows = c.in_ok-grow_disk.ensures.ok;
      ends = inr (record { cleared = c.clear_ends.new.images; clears = c.in_ok-clear_ends.ensures.ok; ends = inl (cause, refl, c.in_err-copy_part.ensures.err) });
    }))

pub returns-in_err-made-clause-err : goal.returns-in_err-made-clause-err
returns-in_err-made-clause-err g c =
    let cause = c.in_err-made.field-0.0 in
    err-from c.from_residual-in_err-made.result _ (Verity (Image cause)) c.from_residual-in_err-made.ensures.1
    (inr (record {
      grown = c.grow_disk.new.images;
      grows = c.in_ok-grow_disk.ensures.ok;
      ends = inr (record {
        cleared = c.clear_ends.new.images;
        clears = c.in_ok-clear_ends.ensures.ok;
        ends = inr (record {
          copied = c.copy_part.new.images;
          copied_dev = c.copy_part.new.data_dev.inner;
          copies = c.in_ok-copy_part.ensures.ok;
          ends = inl (cause, refl, c.in_err-made.ensures.err);
        });
      });
    }))

pub returns-in_err-protect_parts-clause-err : goal.returns-in_err-protect_parts-clause-err
returns-in_err-protect_parts-clause-err g c =
    err-from c.from_residual-in_err-protect_parts.result _ c.in_err-protect_parts.field-0.0 c.from_residual-in_err-protect_parts.ensures.1
    (inr (record {
      grown = c.grow_disk.new.images;
      grows = c.in_ok-grow_disk.ensures.ok;
      ends = inr (record {
        cleared = c.clear_ends.new.images;
        clears = c.in_ok-clear_ends.ensures.ok;
        ends = inr (record {
          copied = c.copy_part.new.images;
          copied_dev = c.copy_part.new.data_dev.inner;
          copies = c.in_ok-copy_part.ensures.ok;
          ends = inr (record {
            formatted = c.make_part.new.images;
            formatted_dev = c.make_part.new.data_dev.inner;
            made = c.in_ok-made.made;
            makes = c.in_ok-made.ensures.ok;
            ends = inl c.in_err-protect_parts.ensures.err;
          });
        });
      });
    }))

pub returns-in_err-put_table-clause-err : goal.returns-in_err-put_table-clause-err
returns-in_err-put_table-clause-err g c =
    let cause = c.in_err-put_table.field-0.0 in
    err-from c.from_residual-in_err-put_table.result _ (Verity (Image cause)) c.from_residual-in_err-put_table.ensures.1
    (inr (record {
      grown = c.grow_disk.new.images;
      grows = c.in_ok-grow_disk.ensures.ok;
      ends = inr (record {
        cleared = c.clear_ends.new.images;
        clears = c.in_ok-clear_ends.ensures.ok;
        ends = inr (record {
          copied = c.copy_part.new.images;
          copied_dev = c.copy_part.new.data_dev.inner;
          copies = c.in_ok-copy_part.ensures.ok;
          ends = inr (record {
            formatted = c.make_part.new.images;
            formatted_dev = c.make_part.new.data_dev.inner;
            made = c.in_ok-made.made;
            makes = c.in_ok-made.ensures.ok;
            ends = inr (record {
              protected = c.protect_parts.new.images;
              protected_dev = c.protect_parts.new.data_dev.inner;
              protects = c.in_ok-protect_parts.ensures.ok;
              ends = (cause, refl, c.in_err-put_table.ensures.err);
            });
          });
        });
      });
    }))

pub returns-clause-ok : goal.returns-clause-ok
returns-clause-ok g c = record {
  grown = c.grow_disk.new.images;
  cleared = c.clear_ends.new.images;
  copied = c.copy_part.new.images;
  formatted = c.make_part.new.images;
  protected = c.protect_parts.new.images;
  copied_dev = c.copy_part.new.data_dev.inner;
  formatted_dev = c.make_part.new.data_dev.inner;
  protected_dev = c.protect_parts.new.data_dev.inner;
  grows = c.in_ok-grow_disk.ensures.ok;
  clears = c.in_ok-clear_ends.ensures.ok;
  copies = c.in_ok-copy_part.ensures.ok;
  makes = c.in_ok-made.ensures.ok;
  protects = c.in_ok-protect_parts.ensures.ok;
  table = c.in_ok-put_table.ensures.ok;
}
