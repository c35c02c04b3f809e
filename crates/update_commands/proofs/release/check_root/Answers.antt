use Rattle.std.proofs.Common.{arith, inl, inr, refl}
use Rattle.update_commands.proofs.release.check_root.Goals as goal

pub returns-then-size-needed-clause-err : goal.returns-then-size-needed-clause-err
returns-then-size-needed-clause-err g c =
    inl (record {
      past = omega (arith, c.if-size-needed.true, c.tree_sectors-needed.ensures.value, c.sectors-size.ensures.size);
      is = refl;
    })

pub check_root_block-requires : goal.check_root_block-requires
check_root_block-requires g c = omega (arith, c.if-size-needed.false, c.tree_sectors-needed.ensures.value, c.sectors-size.ensures.size)

pub returns-in-Ok-clause-ok : goal.returns-in-Ok-clause-ok
returns-in-Ok-clause-ok g c = record {
  fits = omega (arith, c.if-size-needed.false, c.tree_sectors-needed.ensures.value, c.sectors-size.ensures.size);
  verified = c.in-Ok.ensures.ok.0;
}

pub returns-in-Err-clause-err : goal.returns-in-Err-clause-err
returns-in-Err-clause-err g c = inr (record { cause = c.in-Err.fault; why = c.in-Err.ensures.err; is = refl })
