use Rattle.std.proofs.Common.{List, [], ◌∷◌, ◌++◌, codes, decimal, flat_map, refl, ap, ◌∙◌}
use Rattle.table_text.specs.ArgumentWords.{options_words, key_word, crypt_words}
use Rattle.dm_table.specs.Crypt.{cipher_name}
use Rattle.dm_table.specs.Words.{Word}
use Rattle.table_text.specs.Print.{base_words, spaced_word}
use Rattle.table_text.proofs.PrintLemmas.{exit_part, exit_rest, exit_word, then_word, then_words}
use Rattle.table_text.proofs.print_crypt.print_crypt.Goals as goal

pub returns-clause-ok : goal.returns-clause-ok
unfolding crypt_words
returns-clause-ok c =
    let v = c.args.crypt.now in
    let key = key_word c.args.show_keys v.key in
    let last = c.print_options.new.text.items in
    let w4 = options_words v.options in
    let w3 = base_words v.base ++ w4 in
    let w2 = decimal v.iv_offset ∷ w3 in
    let w1 = key ∷ w2 in
    let options = c.in_ok-print_options.ensures.ok ∙ ap (λ o. c.print_base.new.text.items ++ flat_map spaced_word (options_words o)) c.as_slice.ensures in
    then_word c.args.text.now.items c.push_spaced.new.text.items last (codes "crypt") (codes "crypt") (cipher_name ∷ w1) refl c.in_ok-push_spaced.ensures.ok (
    then_word c.push_spaced.new.text.items c.push_spaced-2.new.text.items last cipher_name cipher_name w1 refl c.in_ok-push_spaced-2.ensures.ok (
    then_word c.push_spaced-2.new.text.items c.print_key.new.text.items last key key w2 refl c.in_ok-print_key.ensures.ok (
    then_word c.print_key.new.text.items c.push_spaced_number.new.text.items last (decimal v.iv_offset) (decimal v.iv_offset) w3 refl c.in_ok-push_spaced_number.ensures.ok (
    then_words c.push_spaced_number.new.text.items c.print_base.new.text.items last (base_words v.base) w4 c.in_ok-print_base.ensures.ok options))))

pub returns-in_err-push_spaced-2-clause-err : goal.returns-in_err-push_spaced-2-clause-err
unfolding crypt_words
returns-in_err-push_spaced-2-clause-err c =
    let v = c.args.crypt.now in
    let key = key_word c.args.show_keys v.key in
    let w4 : List Word = options_words v.options in
    let w3 : List Word = base_words v.base ++ w4 in
    let w2 : List Word = decimal v.iv_offset ∷ w3 in
    let w1 : List Word = key ∷ w2 in
    exit_word (codes "crypt" ∷ []) cipher_name w1 c.from_residual-in_err-push_spaced-2.result c.in_err-push_spaced-2.field-0.0 cipher_name c.from_residual-in_err-push_spaced-2.ensures.1 refl c.in_err-push_spaced-2.ensures.err

pub returns-in_err-print_key-clause-err : goal.returns-in_err-print_key-clause-err
unfolding crypt_words
returns-in_err-print_key-clause-err c =
    let v = c.args.crypt.now in
    let key = key_word c.args.show_keys v.key in
    let w4 : List Word = options_words v.options in
    let w3 : List Word = base_words v.base ++ w4 in
    let w2 : List Word = decimal v.iv_offset ∷ w3 in
    let w1 : List Word = key ∷ w2 in
    exit_word (codes "crypt" ∷ cipher_name ∷ []) key w2 c.from_residual-in_err-print_key.result c.in_err-print_key.field-0.0 key c.from_residual-in_err-print_key.ensures.1 refl c.in_err-print_key.ensures.err

pub returns-in_err-push_spaced_number-clause-err : goal.returns-in_err-push_spaced_number-clause-err
unfolding crypt_words
returns-in_err-push_spaced_number-clause-err c =
    let v = c.args.crypt.now in
    let key = key_word c.args.show_keys v.key in
    let w4 : List Word = options_words v.options in
    let w3 : List Word = base_words v.base ++ w4 in
    let w2 : List Word = decimal v.iv_offset ∷ w3 in
    let w1 : List Word = key ∷ w2 in
    exit_word (codes "crypt" ∷ cipher_name ∷ key ∷ []) (decimal v.iv_offset) w3 c.from_residual-in_err-push_spaced_number.result c.in_err-push_spaced_number.field-0.0 (decimal v.iv_offset) c.from_residual-in_err-push_spaced_number.ensures.1 refl c.in_err-push_spaced_number.ensures.err

pub returns-in_err-print_base-clause-err : goal.returns-in_err-print_base-clause-err
unfolding crypt_words
returns-in_err-print_base-clause-err c =
    let v = c.args.crypt.now in
    let key = key_word c.args.show_keys v.key in
    let w4 : List Word = options_words v.options in
    let w3 : List Word = base_words v.base ++ w4 in
    let w2 : List Word = decimal v.iv_offset ∷ w3 in
    let w1 : List Word = key ∷ w2 in
    exit_part (codes "crypt" ∷ cipher_name ∷ key ∷ decimal v.iv_offset ∷ []) (base_words v.base) w4 c.from_residual-in_err-print_base.result c.in_err-print_base.field-0.0 c.from_residual-in_err-print_base.ensures.1 c.in_err-print_base.ensures.err

pub returns-in_err-print_options-clause-err : goal.returns-in_err-print_options-clause-err
unfolding crypt_words
returns-in_err-print_options-clause-err c =
    let v = c.args.crypt.now in
    let key = key_word c.args.show_keys v.key in
    let w4 : List Word = options_words v.options in
    let w3 : List Word = base_words v.base ++ w4 in
    let w2 : List Word = decimal v.iv_offset ∷ w3 in
    let w1 : List Word = key ∷ w2 in
    exit_rest (codes "crypt" ∷ cipher_name ∷ key ∷ decimal v.iv_offset ∷ base_words v.base) w4 c.from_residual-in_err-print_options.result c.in_err-print_options.field-0.0 c.from_residual-in_err-print_options.ensures.1 (rw (c.as_slice.ensures) at c.in_err-print_options.ensures.err)
