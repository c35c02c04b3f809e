use Rattle.std.proofs.Common.{inl, inr, refl}
use Rattle.verity_commands.specs.declared.tree_fault.TreeFault.TheVariants.{Open}
use Rattle.repair_commands.proofs.EndingLemmas.{err-from}
use Rattle.repair_commands.proofs.PairLemmas.{narrowed-fresh}
use Rattle.repair_commands.proofs.opening.open_all.Goals as goal

pub returns-in_err-whole-clause-err : goal.returns-in_err-whole-clause-err
returns-in_err-whole-clause-err g c =
    err-from c.from_residual.result _ (Open c.in_err-whole.field-0.0) c.from_residual.ensures.1
    (inl (record { file = c.in_err-whole.field-0.0; ends = inl c.in_err-whole.ensures.err; is = refl }))

pub returns-in_err-check_parts-clause-err : goal.returns-in_err-check_parts-clause-err
returns-in_err-check_parts-clause-err g c =
    let measured = c.parts_of-parts.ensures in
    err-from c.from_residual-in_err-check_parts.result _ (Open c.in_err-check_parts.field-0.0) c.from_residual-in_err-check_parts.ensures.1
    (inl (record {
      file = c.in_err-check_parts.field-0.0;
      ends = inr (record {
        parts = c.parts_of-parts.result;
        pair = c.narrow_both-pair.result;
        opened = record {
          between = c.open_files.new.images;
          files = c.in_ok-whole.whole;
          opens = c.in_ok-whole.ensures.ok;
          measures = record { data_part = measured.data_part; hash_part = measured.hash_part; paths = measured.paths };
          narrows = c.narrow_both-pair.ensures;
        };
        overlap = c.in_err-check_parts.ensures.err;
      });
      is = refl;
    }))

pub returns-in-Ok-clause-ok : goal.returns-in-Ok-clause-ok
returns-in-Ok-clause-ok g c =
    let measured = c.parts_of-parts.ensures in
    record {
      between = c.narrow_both-pair.new.images;
      pair_open = record {
        opened = record {
          between = c.open_files.new.images;
          files = c.in_ok-whole.whole;
          opens = c.in_ok-whole.ensures.ok;
          measures = record { data_part = measured.data_part; hash_part = measured.hash_part; paths = measured.paths };
          narrows = c.narrow_both-pair.ensures;
        };
        apart = c.in_ok-check_parts.ensures.ok;
      };
      copies_open = rw (c.part_use.ensures, c.part_use-2.ensures) at c.in-Ok.ensures.ok;
    }

pub returns-in-Ok-clause-data_fresh : goal.returns-in-Ok-clause-data_fresh
returns-in-Ok-clause-data_fresh g c = narrowed-fresh _ _ _ _ c.narrow_both-pair.ensures.data_narrowed.is c.in_ok-whole.ensures.data_fresh

pub returns-in-Ok-clause-hash_fresh : goal.returns-in-Ok-clause-hash_fresh
returns-in-Ok-clause-hash_fresh g c = narrowed-fresh _ _ _ _ c.narrow_both-pair.ensures.hash_narrowed.is c.in_ok-whole.ensures.hash_fresh

pub returns-clause-err : goal.returns-clause-err
returns-clause-err g c =
    let measured = c.parts_of-parts.ensures in
    inr (record {
      between = c.narrow_both-pair.new.images;
      parts = c.parts_of-parts.result;
      pair = c.narrow_both-pair.result;
      pair_open = record {
        opened = record {
          between = c.open_files.new.images;
          files = c.in_ok-whole.whole;
          opens = c.in_ok-whole.ensures.ok;
          measures = record { data_part = measured.data_part; hash_part = measured.hash_part; paths = measured.paths };
          narrows = c.narrow_both-pair.ensures;
        };
        apart = c.in_ok-check_parts.ensures.ok;
      };
      refused = rw (c.part_use.ensures, c.part_use-2.ensures) at c.in-Err.ensures.err;
    })
