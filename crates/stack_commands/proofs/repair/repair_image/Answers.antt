use Rattle.std.proofs.Common.{inl, inr, refl}
use Rattle.std.proofs.lemmas.Result.{IfErr-weaker, on_ok_weaker}
use Rattle.std.specs.Prelude.{None, Some}
use Rattle.image_files.specs.Opener.{calls}
use Rattle.stack_commands.proofs.RepairingLemmas.{ends-by, repairs-by}
use Rattle.stack_commands.proofs.repair.repair_image.Goals as goal

pub returns-in-Err-clause-err : goal.returns-in-Err-clause-err
returns-in-Err-clause-err g c = inl (c.in-Err.ensures.err, refl)

pub returns-in-None-clause-ok : goal.returns-in-None-clause-ok
returns-in-None-clause-ok g c =
    on_ok_weaker c.by_copies.result
    (λ repairs. record {
      between = c.sought_tree_in.new.images;
      found = _;
      copies = c.args.words.now.copies.items;
      are = refl;
      told = c.in-Ok.ensures.ok;
      repairs = repairs-by c.args.words.now.fec None (calls g.I.Images.relations g.I.Dev.BlockDev.state c.sought_tree_in.new.images c.by_copies.new.context.0) _ c.args.words.now.copies.items _ _ _ c.in-None.is repairs;
    })
    (rw (c.as_slice-copies.ensures.value, c.sector_at.ensures) at c.by_copies.ensures.ok)

pub returns-in-None-clause-err : goal.returns-in-None-clause-err
returns-in-None-clause-err g c =
    IfErr-weaker c.by_copies.result _ _
    (λ fault ends. inr (record {
      between = c.sought_tree_in.new.images;
      found = _;
      copies = c.args.words.now.copies.items;
      are = refl;
      told = c.in-Ok.ensures.ok;
      ends = ends-by c.args.words.now.fec None (calls g.I.Images.relations g.I.Dev.BlockDev.state c.sought_tree_in.new.images c.by_copies.new.context.0) _ c.args.words.now.copies.items _ _ _ _ fault c.in-None.is ends;
    }))
    (rw (c.as_slice-copies.ensures.value, c.sector_at.ensures) at c.by_copies.ensures.err)

pub returns-in-Some-clause-ok : goal.returns-in-Some-clause-ok
returns-in-Some-clause-ok g c =
    on_ok_weaker c.by_parity.result
    (λ repairs. record {
      between = c.sought_tree_in.new.images;
      found = _;
      copies = c.args.words.now.copies.items;
      are = refl;
      told = c.in-Ok.ensures.ok;
      repairs = repairs-by c.args.words.now.fec (Some c.in-Some.fec) (calls g.I.Images.relations g.I.Dev.BlockDev.state c.sought_tree_in.new.images c.by_parity.new.context.0) _ c.args.words.now.copies.items _ _ _ c.in-Some.is repairs;
    })
    (rw (c.as_slice-copies.ensures.value, c.sector_at.ensures) at c.by_parity.ensures.ok)

pub returns-in-Some-clause-err : goal.returns-in-Some-clause-err
returns-in-Some-clause-err g c =
    IfErr-weaker c.by_parity.result _ _
    (λ fault ends. inr (record {
      between = c.sought_tree_in.new.images;
      found = _;
      copies = c.args.words.now.copies.items;
      are = refl;
      told = c.in-Ok.ensures.ok;
      ends = ends-by c.args.words.now.fec (Some c.in-Some.fec) (calls g.I.Images.relations g.I.Dev.BlockDev.state c.sought_tree_in.new.images c.by_parity.new.context.0) _ c.args.words.now.copies.items _ _ _ _ fault c.in-Some.is ends;
    }))
    (rw (c.as_slice-copies.ensures.value, c.sector_at.ensures) at c.by_parity.ensures.err)
