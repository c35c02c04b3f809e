use Rattle.std.proofs.Common.{IsTrue, ap, inl, inr, refl, subst, sym, ◌∙◌}
use Rattle.block_device.specs.Device.{Device}
use Rattle.verity_format.specs.Formatting.{given_blocks}
use Rattle.verity_format.specs.Options.{superblock_with}
use Rattle.image_commands.proofs.ClearingLemmas.{ended-on, formatted-cleared, steady-cleared}
use Rattle.image_commands.proofs.OpeningLemmas.{err-from}
use Rattle.image_commands.proofs.format.make.Goals as goal

pub returns-in-Ok-clause-ok : goal.returns-in-Ok-clause-ok
returns-in-Ok-clause-ok g c =
    let data_dev : Device = g.D.BlockDev.state c.args.data_dev.now in
    let hash_dev : Device = g.H.BlockDev.state c.args.hash_dev.now in
    let cleared : Device = g.H.BlockDev.state c.clear_superblock.new.hash_dev in
    let o = c.args.options in
    record {
      cleared = cleared;
      written = g.H.BlockDev.state c.format_with.new.hash_dev;
      left = (c.clear_superblock.new.hash_dev, refl);
      allowed = c.in_ok-check_format.ensures.ok.none;
      clearing = c.in_ok-clear_superblock.ensures.ok;
      formatting = c.in_ok-root.ensures.formats;
      image = λ a b.
          ap (λ (d : Device). d.image) c.in-Ok.ensures.ok
          ∙ c.in_ok-root.ensures.formats.ok.image a (subst IsTrue (sym (steady-cleared hash_dev cleared c.in_ok-clear_superblock.ensures.ok)) b)
          ∙ formatted-cleared (superblock_with o data_dev.size) data_dev.image hash_dev cleared c.in_ok-check_format.ensures.ok.some c.in_ok-clear_superblock.ensures.ok b;
      kept = c.in-Ok.ensures.ok;
      salt = refl;
      uuid = refl;
      blocks = c.given_blocks-blocks.ensures ∙ ap (given_blocks o.blocks o.data_block) c.sectors.ensures.size;
    }

pub returns-in_err-check_format-clause-stopped : goal.returns-in_err-check_format-clause-stopped
returns-in_err-check_format-clause-stopped g c = ended-on c.from_residual.result (inl (refl, inl refl))

pub returns-in_err-clear_superblock-clause-stopped : goal.returns-in_err-clear_superblock-clause-stopped
returns-in_err-clear_superblock-clause-stopped g c =
    ended-on c.from_residual-in_err-clear_superblock.result (inl (refl, inr c.in_err-clear_superblock.ensures.handed))

pub returns-in_err-root-clause-stopped : goal.returns-in_err-root-clause-stopped
returns-in_err-root-clause-stopped g c =
    ended-on c.from_residual-in_err-root.result
    (inr (inl (record {
      cleared = c.clear_superblock.new.hash_dev;
      fault = c.in_err-root.field-0.0;
      clearing = c.in_ok-clear_superblock.ensures.handed;
      formatting = c.in_err-root.ensures.handed;
    })))

pub returns-in-Ok-clause-handed : goal.returns-in-Ok-clause-handed
returns-in-Ok-clause-handed g c = record {
  cleared = c.clear_superblock.new.hash_dev;
  written = c.format_with.new.hash_dev;
  clearing = c.in_ok-clear_superblock.ensures.handed;
  formatting = c.in_ok-root.ensures.handed;
  last = c.in-Ok.ensures.call;
}

pub returns-in-Err-clause-stopped : goal.returns-in-Err-clause-stopped
returns-in-Err-clause-stopped g c =
    inr (inr (
      c.in_ok-root.root,
      record {
        cleared = c.clear_superblock.new.hash_dev;
        written = c.format_with.new.hash_dev;
        clearing = c.in_ok-clear_superblock.ensures.handed;
        formatting = c.in_ok-root.ensures.handed;
        last = c.in-Err.ensures.call;
      },
    ))

pub returns-in_err-root-clause-err : goal.returns-in_err-root-clause-err
returns-in_err-root-clause-err g c =
    err-from c.from_residual-in_err-root.result _ c.in_err-root.field-0.0 c.from_residual-in_err-root.ensures.1
    (inr (inr (inl (record {
      cleared = g.H.BlockDev.state c.clear_superblock.new.hash_dev;
      left = (c.clear_superblock.new.hash_dev, refl);
      clearing = c.in_ok-clear_superblock.ensures.ok;
      formatting = c.in_err-root.ensures.formats;
    }))))

pub returns-in-Err-clause-err : goal.returns-in-Err-clause-err
returns-in-Err-clause-err g c =
    inr (inr (inr (record {
      root = c.in_ok-root.root;
      cleared = g.H.BlockDev.state c.clear_superblock.new.hash_dev;
      written = g.H.BlockDev.state c.format_with.new.hash_dev;
      left = (c.clear_superblock.new.hash_dev, refl);
      clearing = c.in_ok-clear_superblock.ensures.ok;
      formatting = c.in_ok-root.ensures.formats;
      unsynced = c.in-Err.ensures.err;
      is = refl;
    })))
