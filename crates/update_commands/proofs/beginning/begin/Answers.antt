use Rattle.std.proofs.Common.{ap, arith, inl, inr, refl}
use Rattle.verity_format.specs.Image.{data_sectors, image_sectors}
use Rattle.update_commands.proofs.BeginningLemmas.{image-some}
use Rattle.update_commands.proofs.beginning.begin.Goals as goal

pub returns-then-data_size-data_needed-clause-err : goal.returns-then-data_size-data_needed-clause-err
returns-then-data_size-data_needed-clause-err g c =
    inl (record {
      past = inl (omega (arith, c.data_sectors-data_needed.ensures.value, ap data_sectors c.shape-shape.ensures.value, c.sectors-data_size.ensures.size));
      is = refl;
      same = refl;
    })

pub returns-then-hash_size-hash_needed-clause-err : goal.returns-then-hash_size-hash_needed-clause-err
returns-then-hash_size-hash_needed-clause-err g c =
    inl (record {
      past = inr (omega (arith, c.image_sectors-hash_needed.ensures, ap image_sectors c.shape-shape.ensures.value, c.sectors-hash_size.ensures.size));
      is = refl;
      same = refl;
    })

pub clear_superblock-requires-clause-some : goal.clear_superblock-requires-clause-some
clear_superblock-requires-clause-some g c =
    omega (arith, image-some c.args.superblock.now c.shape-shape.ensures.valid, c.image_sectors-hash_needed.ensures, ap image_sectors c.shape-shape.ensures.value, c.sectors-hash_size.ensures.size)

pub returns-in-Ok-clause-ok : goal.returns-in-Ok-clause-ok
returns-in-Ok-clause-ok g c = record {
  data_fits = omega (arith, c.data_sectors-data_needed.ensures.value, ap data_sectors c.shape-shape.ensures.value, c.sectors-data_size.ensures.size);
  hash_fits = omega (arith, c.image_sectors-hash_needed.ensures, ap image_sectors c.shape-shape.ensures.value, c.sectors-hash_size.ensures.size);
  cleared = c.in-Ok.ensures.ok;
}

pub returns-in-Err-clause-err : goal.returns-in-Err-clause-err
returns-in-Err-clause-err g c = inr (record { uncleared = c.in-Err.ensures.err; is = refl })
