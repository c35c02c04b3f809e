use Rattle.std.proofs.Common.{inr, refl}
use Rattle.verity_commands.specs.declared.verity_fault.VerityFault.TheVariants as verity
use Rattle.verity_commands.proofs.EndingLemmas.{err-from}
use Rattle.verity_commands.proofs.placed.invoke_table.Goals as goal

pub returns-clause-ok : goal.returns-clause-ok
returns-clause-ok g c =
    let words = c.args.words.now in
    record {
      between = c.trusted_in.new.images;
      words = record { root = record { ref_ptr = words.data_name.ref_ptr; now = c.in_ok-trusted.trusted }; data_name = words.data_name; hash_name = words.hash_name };
      name = words.name;
      told = c.in_ok-trusted.ensures.ok;
      names = (refl, refl);
      entry = refl;
      prints = rw c.sector_at.ensures at c.in_ok-table_placed.ensures.ok;
    }

pub returns-in_err-table_placed-clause-err : goal.returns-in_err-table_placed-clause-err
returns-in_err-table_placed-clause-err g c =
    let fault = c.in_err-table_placed.field-0.0 in
    let ends = rw c.sector_at.ensures at c.in_err-table_placed.ensures.err in
    err-from c.from_residual-in_err-table_placed.result _ (verity.Image fault) c.from_residual-in_err-table_placed.ensures.1
    (inr (record { between = c.trusted_in.new.images; found = c.in_ok-trusted.trusted; told = c.in_ok-trusted.ensures.ok; ends = ends }), c.in_err-table_placed.ensures.quiet)
