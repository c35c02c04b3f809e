use Rattle.std.proofs.Common.{Err, ap, sym, ◌∙◌, refl}
use Rattle.dm_table.specs.Crypt.{crypt_at}
use Rattle.table_text.proofs.ReadLemmas.{exit_kind, exit_part}
use Rattle.table_text.proofs.CryptLemmas.{crypt-few}
use Rattle.table_text.proofs.crypt_arguments.read_crypt.Goals as goal

pub returns-in_err-words : goal.returns-in_err-words
returns-in_err-words c =
    let few = c.in_err-words.ensures in
    exit_kind _ _ _ c.from_residual.ensures.1 (crypt-few _ few.1 ∙ ap Err (sym few.0))

pub returns-in_err-check_cipher : goal.returns-in_err-check_cipher
unfolding crypt_at
returns-in_err-check_cipher c =
    exit_kind _ _ _ c.from_residual-in_err-check_cipher.ensures.1 (rw (c.in_ok-words.ensures, sym c.in_err-check_cipher.ensures) refl)

pub returns-in_err-key : goal.returns-in_err-key
unfolding crypt_at
returns-in_err-key c =
    exit_kind _ _ _ c.from_residual-in_err-key.ensures.1 (rw (c.in_ok-words.ensures, sym c.in_ok-check_cipher.ensures, sym c.in_err-key.ensures) refl)

pub returns-in_err-iv_offset : goal.returns-in_err-iv_offset
unfolding crypt_at
returns-in_err-iv_offset c =
    exit_kind _ _ _ c.from_residual-in_err-iv_offset.ensures.1
    (rw (c.in_ok-words.ensures, sym c.in_ok-check_cipher.ensures, sym c.in_ok-key.ensures, sym c.in_err-iv_offset.ensures) refl)

pub returns-in_err-base : goal.returns-in_err-base
unfolding crypt_at
returns-in_err-base c =
    exit_part _ _ _ _ c.from_residual-in_err-base.ensures.1 c.in_err-base.ensures
    (λ kind e. rw (c.in_ok-words.ensures, sym c.in_ok-check_cipher.ensures, sym c.in_ok-key.ensures, sym c.in_ok-iv_offset.ensures, e) refl)

pub returns-in_err-options : goal.returns-in_err-options
unfolding crypt_at
returns-in_err-options c =
    exit_part _ _ _ _ c.from_residual-in_err-options.ensures.1 c.in_err-options.ensures
    (λ kind e. rw (c.in_ok-words.ensures, sym c.in_ok-check_cipher.ensures, sym c.in_ok-key.ensures, sym c.in_ok-iv_offset.ensures, c.in_ok-base.ensures, e) refl)

pub returns : goal.returns
unfolding crypt_at
returns c =
    rw (c.in_ok-words.ensures, sym c.in_ok-check_cipher.ensures, sym c.in_ok-key.ensures, sym c.in_ok-iv_offset.ensures, c.in_ok-base.ensures, c.in_ok-options.ensures) refl
