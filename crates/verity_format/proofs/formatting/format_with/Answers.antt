-- Where the parts have no shape, neither device was asked.
use Rattle.std.proofs.Common.{◌≡◌, ◌∙◌, ℕ, ap, sym, subst, refl, inl, Err, Some}
use Rattle.block_device.specs.Call.{DeviceDoes}
use Rattle.verity_format.specs.declared.formatting.FormatFault.TheVariants.{Shape}
use Rattle.verity_format.specs.Superblock.{SuperRecord}
use Rattle.verity_format.specs.Formatting.{given_blocks, format_refusal, IsFormatting}
use Rattle.verity_format.proofs.RefusalLemmas.{no_shape, same_some}
use Rattle.verity_format.proofs.lemmas.DeviceLemmas.{only_read-none, only_written-none}
use Rattle.verity_format.proofs.HandingLemmas.{stopped-none}
use Rattle.verity_format.proofs.formatting.format_with.Goals as goal

pub returns-in-Err-clause-formats : goal.returns-in-Err-clause-formats
returns-in-Err-clause-formats g c =
    let data_dev = g.D.BlockDev.state c.args.data_dev.now in
    let hash_dev = g.H.BlockDev.state c.args.hash_dev.now in
    let o = c.args.options in
    let with_blocks : ℕ → SuperRecord = λ n. record { uuid = o.uuid; data_block = o.data_block; hash_block = o.hash_block; blocks = n; salt = o.salt } in
    let count : c.given_blocks-count.result ≡ given_blocks o.blocks o.data_block data_dev.size = c.given_blocks-count.ensures ∙ ap (given_blocks o.blocks o.data_block) c.sectors.ensures.size in
    let refusal : format_refusal (with_blocks c.given_blocks-count.result) data_dev hash_dev ≡ Some Shape = no_shape (with_blocks c.given_blocks-count.result) data_dev hash_dev _ c.in-Err.ensures.fault in
    subst (λ (n : ℕ). IsFormatting (with_blocks n) data_dev hash_dev data_dev hash_dev (Err Shape)) count
    (record {
      read = only_read-none data_dev;
      written = only_written-none hash_dev _;
      ok = tt;
      err = refusal;
      refused = λ f applies. (ap Err (same_some Shape f (sym refusal ∙ applies)), refl, refl);
    })

pub returns-in-Err-clause-handed : goal.returns-in-Err-clause-handed
returns-in-Err-clause-handed g c = inl (stopped-none (DeviceDoes g.D.BlockDev.state g.D.BlockDev.does) (DeviceDoes g.H.BlockDev.state g.H.BlockDev.does) _ _ c.args.data_dev.now c.args.hash_dev.now)
