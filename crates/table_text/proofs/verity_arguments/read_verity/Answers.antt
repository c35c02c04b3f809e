use Rattle.std.proofs.Common.{Err, drop, ap, sym, ◌∙◌, refl, arith}
use Rattle.dm_table.specs.Options.{options_at}
use Rattle.dm_table.specs.Parity.{parity_at}
use Rattle.dm_table.specs.ValuedOptions.{valued_options}
use Rattle.dm_table.specs.Verity.{known_verity_options, verity_at}
use Rattle.table_text.proofs.ReadLemmas.{exit_kind, exit_memory, exit_part}
use Rattle.table_text.proofs.VerityLemmas.{verity-few, device_at-length}
use Rattle.table_text.proofs.verity_arguments.read_verity.Goals as goal

pub returns-in_err-words : goal.returns-in_err-words
returns-in_err-words c =
    let few = c.in_err-words.ensures in
    exit_kind _ _ _ c.from_residual.ensures.1 (verity-few _ few.1 ∙ ap Err (sym few.0))

pub returns-in_err-check_version : goal.returns-in_err-check_version
unfolding verity_at
returns-in_err-check_version c =
    exit_kind _ _ _ c.from_residual-in_err-check_version.ensures.1 (rw (c.in_ok-words.ensures, sym c.in_err-check_version.ensures) refl)

pub returns-in_err-check_device : goal.returns-in_err-check_device
unfolding verity_at
returns-in_err-check_device c =
    exit_kind _ _ _ c.from_residual-in_err-check_device.ensures.1 (rw (c.in_ok-words.ensures, sym c.in_ok-check_version.ensures, c.in_err-check_device.ensures) refl)

pub returns-in_err-check_device-2 : goal.returns-in_err-check_device-2
unfolding verity_at
returns-in_err-check_device-2 c =
    exit_kind _ _ _ c.from_residual-in_err-check_device-2.ensures.1 (rw (c.in_ok-words.ensures, sym c.in_ok-check_version.ensures, c.in_ok-check_device.ensures, c.in_err-check_device-2.ensures) refl)

pub returns-in_err-data_block : goal.returns-in_err-data_block
unfolding verity_at
returns-in_err-data_block c =
    exit_kind _ _ _ c.from_residual-in_err-data_block.ensures.1 (rw (c.in_ok-words.ensures, sym c.in_ok-check_version.ensures, c.in_ok-check_device.ensures, c.in_ok-check_device-2.ensures, sym c.in_err-data_block.ensures) refl)

pub returns-in_err-hash_block : goal.returns-in_err-hash_block
unfolding verity_at
returns-in_err-hash_block c =
    exit_kind _ _ _ c.from_residual-in_err-hash_block.ensures.1 (rw (c.in_ok-words.ensures, sym c.in_ok-check_version.ensures, c.in_ok-check_device.ensures, c.in_ok-check_device-2.ensures, sym c.in_ok-data_block.ensures, sym c.in_err-hash_block.ensures) refl)

pub returns-in_err-blocks : goal.returns-in_err-blocks
unfolding verity_at
returns-in_err-blocks c =
    exit_kind _ _ _ c.from_residual-in_err-blocks.ensures.1 (rw (c.in_ok-words.ensures, sym c.in_ok-check_version.ensures, c.in_ok-check_device.ensures, c.in_ok-check_device-2.ensures, sym c.in_ok-data_block.ensures, sym c.in_ok-hash_block.ensures, sym c.in_err-blocks.ensures) refl)

pub returns-in_err-start : goal.returns-in_err-start
unfolding verity_at
returns-in_err-start c =
    exit_kind _ _ _ c.from_residual-in_err-start.ensures.1 (rw (c.in_ok-words.ensures, sym c.in_ok-check_version.ensures, c.in_ok-check_device.ensures, c.in_ok-check_device-2.ensures, sym c.in_ok-data_block.ensures, sym c.in_ok-hash_block.ensures, sym c.in_ok-blocks.ensures, sym c.in_err-start.ensures) refl)

pub returns-in_err-algorithm : goal.returns-in_err-algorithm
unfolding verity_at
returns-in_err-algorithm c =
    exit_kind _ _ _ c.from_residual-in_err-algorithm.ensures.1 (rw (c.in_ok-words.ensures, sym c.in_ok-check_version.ensures, c.in_ok-check_device.ensures, c.in_ok-check_device-2.ensures, sym c.in_ok-data_block.ensures, sym c.in_ok-hash_block.ensures, sym c.in_ok-blocks.ensures, sym c.in_ok-start.ensures, sym c.in_err-algorithm.ensures) refl)

pub returns-in_err-root : goal.returns-in_err-root
unfolding verity_at
returns-in_err-root c =
    exit_kind _ _ _ c.from_residual-in_err-root.ensures.1 (rw (c.in_ok-words.ensures, sym c.in_ok-check_version.ensures, c.in_ok-check_device.ensures, c.in_ok-check_device-2.ensures, sym c.in_ok-data_block.ensures, sym c.in_ok-hash_block.ensures, sym c.in_ok-blocks.ensures, sym c.in_ok-start.ensures, sym c.in_ok-algorithm.ensures, sym c.in_err-root.ensures) refl)

pub returns-in_err-salt : goal.returns-in_err-salt
unfolding verity_at
returns-in_err-salt c =
    exit_kind _ _ _ c.from_residual-in_err-salt.ensures.1 (rw (c.in_ok-words.ensures, sym c.in_ok-check_version.ensures, c.in_ok-check_device.ensures, c.in_ok-check_device-2.ensures, sym c.in_ok-data_block.ensures, sym c.in_ok-hash_block.ensures, sym c.in_ok-blocks.ensures, sym c.in_ok-start.ensures, sym c.in_ok-algorithm.ensures, sym c.in_ok-root.ensures, sym c.in_err-salt.ensures) refl)

pub returns-in_err-options : goal.returns-in_err-options
unfolding verity_at
returns-in_err-options c =
    exit_part _ _ _ _ c.from_residual-in_err-options.ensures.1 c.in_err-options.ensures (λ kind e. rw (c.in_ok-words.ensures, sym c.in_ok-check_version.ensures, c.in_ok-check_device.ensures, c.in_ok-check_device-2.ensures, sym c.in_ok-data_block.ensures, sym c.in_ok-hash_block.ensures, sym c.in_ok-blocks.ensures, sym c.in_ok-start.ensures, sym c.in_ok-algorithm.ensures, sym c.in_ok-root.ensures, sym c.in_ok-salt.ensures, ap (options_at known_verity_options valued_options) (sym c.again.ensures) ∙ e) refl)

pub returns-in_err-corruption : goal.returns-in_err-corruption
unfolding verity_at
returns-in_err-corruption c =
    exit_kind _ _ _ c.from_residual-in_err-corruption.ensures.1 (rw (c.in_ok-words.ensures, sym c.in_ok-check_version.ensures, c.in_ok-check_device.ensures, c.in_ok-check_device-2.ensures, sym c.in_ok-data_block.ensures, sym c.in_ok-hash_block.ensures, sym c.in_ok-blocks.ensures, sym c.in_ok-start.ensures, sym c.in_ok-algorithm.ensures, sym c.in_ok-root.ensures, sym c.in_ok-salt.ensures, ap (options_at known_verity_options valued_options) (sym c.again.ensures) ∙ c.in_ok-options.ensures, sym c.in_err-corruption.ensures) refl)

pub returns-in_err-parity : goal.returns-in_err-parity
unfolding verity_at
returns-in_err-parity c =
    exit_part _ _ _ _ c.from_residual-in_err-parity.ensures.1 c.in_err-parity.ensures (λ kind e. rw (c.in_ok-words.ensures, sym c.in_ok-check_version.ensures, c.in_ok-check_device.ensures, c.in_ok-check_device-2.ensures, sym c.in_ok-data_block.ensures, sym c.in_ok-hash_block.ensures, sym c.in_ok-blocks.ensures, sym c.in_ok-start.ensures, sym c.in_ok-algorithm.ensures, sym c.in_ok-root.ensures, sym c.in_ok-salt.ensures, ap (options_at known_verity_options valued_options) (sym c.again.ensures) ∙ c.in_ok-options.ensures, sym c.in_ok-corruption.ensures, ap (λ ws. parity_at c.in_ok-options.options (drop 1 ws)) (sym c.again-2.ensures) ∙ e) refl)

pub returns-in_err-signature_key : goal.returns-in_err-signature_key
unfolding verity_at
returns-in_err-signature_key c =
    exit_part _ _ _ _ c.from_residual-in_err-signature_key.ensures.1 c.in_err-signature_key.ensures (λ kind e. rw (c.in_ok-words.ensures, sym c.in_ok-check_version.ensures, c.in_ok-check_device.ensures, c.in_ok-check_device-2.ensures, sym c.in_ok-data_block.ensures, sym c.in_ok-hash_block.ensures, sym c.in_ok-blocks.ensures, sym c.in_ok-start.ensures, sym c.in_ok-algorithm.ensures, sym c.in_ok-root.ensures, sym c.in_ok-salt.ensures, ap (options_at known_verity_options valued_options) (sym c.again.ensures) ∙ c.in_ok-options.ensures, sym c.in_ok-corruption.ensures, ap (λ ws. parity_at c.in_ok-options.options (drop 1 ws)) (sym c.again-2.ensures) ∙ c.in_ok-parity.ensures, e) refl)

pub returns-in_err-data : goal.returns-in_err-data
returns-in_err-data c =
    let short = device_at-length _ c.in_ok-check_device.ensures in
    exit_memory _ _ c.in_err-data.field-0.0 c.from_residual-in_err-data.ensures.1 (omega (arith, c.in_err-data.ensures.err.0))

pub returns-in_err-hash : goal.returns-in_err-hash
returns-in_err-hash c =
    let short = device_at-length _ c.in_ok-check_device-2.ensures in
    exit_memory _ _ c.in_err-hash.field-0.0 c.from_residual-in_err-hash.ensures.1 (omega (arith, c.in_err-hash.ensures.err.0))

pub returns : goal.returns
unfolding verity_at
returns c = rw (c.in_ok-words.ensures, sym c.in_ok-check_version.ensures, c.in_ok-check_device.ensures, c.in_ok-check_device-2.ensures, sym c.in_ok-data_block.ensures, sym c.in_ok-hash_block.ensures, sym c.in_ok-blocks.ensures, sym c.in_ok-start.ensures, sym c.in_ok-algorithm.ensures, sym c.in_ok-root.ensures, sym c.in_ok-salt.ensures, ap (options_at known_verity_options valued_options) (sym c.again.ensures) ∙ c.in_ok-options.ensures, sym c.in_ok-corruption.ensures, ap (λ ws. parity_at c.in_ok-options.options (drop 1 ws)) (sym c.again-2.ensures) ∙ c.in_ok-parity.ensures, c.in_ok-signature_key.ensures, c.in_ok-data.ensures.ok, c.in_ok-hash.ensures.ok, c.is_kept-ignore_zero_blocks.ensures, c.is_kept-in_tasklet.ensures) refl
