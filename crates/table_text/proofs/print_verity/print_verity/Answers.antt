use Rattle.std.proofs.Common.{List, [], ◌∷◌, codes, decimal, refl, ap, ◌∙◌}
use Rattle.hex.specs.Hex.{encode_lower}
use Rattle.tree_shape.specs.Algorithms.{algorithm_name}
use Rattle.dm_table.specs.Words.{Word}
use Rattle.table_text.specs.ArgumentWords.{options_words, salt_word, verity_words}
use Rattle.dm_table.specs.Verity.{verity_options}
use Rattle.table_text.proofs.PrintLemmas.{exit_rest, exit_word, then_word}
use Rattle.table_text.proofs.print_verity.print_verity.Goals as goal

pub returns-clause-ok : goal.returns-clause-ok
unfolding verity_words
returns-clause-ok c =
    let v = c.args.verity.now in
    let last = c.print_options.new.text.items in
    let w11 : List Word = options_words (verity_options v) in
    let w10 = (salt_word v.salt) ∷ w11 in
    let w9 = (encode_lower v.root) ∷ w10 in
    let w8 = (codes "sha256") ∷ w9 in
    let w7 = (decimal v.start) ∷ w8 in
    let w6 = (decimal v.blocks) ∷ w7 in
    let w5 = (decimal v.hash_block) ∷ w6 in
    let w4 = (decimal v.data_block) ∷ w5 in
    let w3 = v.hash ∷ w4 in
    let w2 = v.data ∷ w3 in
    let w1 = (codes "1") ∷ w2 in
    then_word c.args.text.now.items c.push_spaced.new.text.items last (codes "verity") (codes "verity") w1 refl c.in_ok-push_spaced.ensures.ok (
    then_word c.push_spaced.new.text.items c.push_spaced-2.new.text.items last (codes "1") (codes "1") w2 refl c.in_ok-push_spaced-2.ensures.ok (
    then_word c.push_spaced-2.new.text.items c.push_spaced-3.new.text.items last v.data c.as_slice.result.now w3 c.as_slice.ensures c.in_ok-push_spaced-3.ensures.ok (
    then_word c.push_spaced-3.new.text.items c.push_spaced-4.new.text.items last v.hash c.as_slice-2.result.now w4 c.as_slice-2.ensures c.in_ok-push_spaced-4.ensures.ok (
    then_word c.push_spaced-4.new.text.items c.push_spaced_number.new.text.items last (decimal v.data_block) (decimal c.from.result) w5 (ap decimal c.from.ensures) c.in_ok-push_spaced_number.ensures.ok (
    then_word c.push_spaced_number.new.text.items c.push_spaced_number-2.new.text.items last (decimal v.hash_block) (decimal c.from-2.result) w6 (ap decimal c.from-2.ensures) c.in_ok-push_spaced_number-2.ensures.ok (
    then_word c.push_spaced_number-2.new.text.items c.push_spaced_number-3.new.text.items last (decimal v.blocks) (decimal v.blocks) w7 refl c.in_ok-push_spaced_number-3.ensures.ok (
    then_word c.push_spaced_number-3.new.text.items c.push_spaced_number-4.new.text.items last (decimal v.start) (decimal v.start) w8 refl c.in_ok-push_spaced_number-4.ensures.ok (
    then_word c.push_spaced_number-4.new.text.items c.push_spaced-5.new.text.items last (codes "sha256") c.name.result.now w9 (c.name.ensures.value ∙ ap algorithm_name c.algorithm.ensures) c.in_ok-push_spaced-5.ensures.ok (
    then_word c.push_spaced-5.new.text.items c.push_digits.new.text.items last (encode_lower v.root) (encode_lower c.as_bytes.result.now) w10 (ap encode_lower c.as_bytes.ensures.value) c.in_ok-push_digits.ensures.ok (
    then_word c.push_digits.new.text.items c.print_salt.new.text.items last (salt_word v.salt) (salt_word c.bytes.result.now) w11 (ap salt_word c.bytes.ensures.value) c.in_ok-print_salt.ensures.ok
    c.in_ok-print_options.ensures.ok))))))))))

pub returns-in_err-push_spaced-3-clause-err : goal.returns-in_err-push_spaced-3-clause-err
unfolding verity_words
returns-in_err-push_spaced-3-clause-err c =
    let v = c.args.verity.now in
    let w11 : List Word = options_words (verity_options v) in
    let w10 : List Word = (salt_word v.salt) ∷ w11 in
    let w9 : List Word = (encode_lower v.root) ∷ w10 in
    let w8 : List Word = (codes "sha256") ∷ w9 in
    let w7 : List Word = (decimal v.start) ∷ w8 in
    let w6 : List Word = (decimal v.blocks) ∷ w7 in
    let w5 : List Word = (decimal v.hash_block) ∷ w6 in
    let w4 : List Word = (decimal v.data_block) ∷ w5 in
    let w3 : List Word = v.hash ∷ w4 in
    exit_word (codes "verity" ∷ codes "1" ∷ []) v.data w3 c.from_residual-in_err-push_spaced-3.result c.in_err-push_spaced-3.field-0.0 c.as_slice.result.now c.from_residual-in_err-push_spaced-3.ensures.1 c.as_slice.ensures c.in_err-push_spaced-3.ensures.err

pub returns-in_err-push_spaced-4-clause-err : goal.returns-in_err-push_spaced-4-clause-err
unfolding verity_words
returns-in_err-push_spaced-4-clause-err c =
    let v = c.args.verity.now in
    let w11 : List Word = options_words (verity_options v) in
    let w10 : List Word = (salt_word v.salt) ∷ w11 in
    let w9 : List Word = (encode_lower v.root) ∷ w10 in
    let w8 : List Word = (codes "sha256") ∷ w9 in
    let w7 : List Word = (decimal v.start) ∷ w8 in
    let w6 : List Word = (decimal v.blocks) ∷ w7 in
    let w5 : List Word = (decimal v.hash_block) ∷ w6 in
    let w4 : List Word = (decimal v.data_block) ∷ w5 in
    exit_word (codes "verity" ∷ codes "1" ∷ v.data ∷ []) v.hash w4 c.from_residual-in_err-push_spaced-4.result c.in_err-push_spaced-4.field-0.0 c.as_slice-2.result.now c.from_residual-in_err-push_spaced-4.ensures.1 c.as_slice-2.ensures c.in_err-push_spaced-4.ensures.err

pub returns-in_err-push_spaced_number-clause-err : goal.returns-in_err-push_spaced_number-clause-err
unfolding verity_words
returns-in_err-push_spaced_number-clause-err c =
    let v = c.args.verity.now in
    let w11 : List Word = options_words (verity_options v) in
    let w10 : List Word = (salt_word v.salt) ∷ w11 in
    let w9 : List Word = (encode_lower v.root) ∷ w10 in
    let w8 : List Word = (codes "sha256") ∷ w9 in
    let w7 : List Word = (decimal v.start) ∷ w8 in
    let w6 : List Word = (decimal v.blocks) ∷ w7 in
    let w5 : List Word = (decimal v.hash_block) ∷ w6 in
    exit_word (codes "verity" ∷ codes "1" ∷ v.data ∷ v.hash ∷ []) (decimal v.data_block) w5 c.from_residual-in_err-push_spaced_number.result c.in_err-push_spaced_number.field-0.0 (decimal c.from.result) c.from_residual-in_err-push_spaced_number.ensures.1 (ap decimal c.from.ensures) c.in_err-push_spaced_number.ensures.err

pub returns-in_err-push_spaced_number-2-clause-err : goal.returns-in_err-push_spaced_number-2-clause-err
unfolding verity_words
returns-in_err-push_spaced_number-2-clause-err c =
    let v = c.args.verity.now in
    let w11 : List Word = options_words (verity_options v) in
    let w10 : List Word = (salt_word v.salt) ∷ w11 in
    let w9 : List Word = (encode_lower v.root) ∷ w10 in
    let w8 : List Word = (codes "sha256") ∷ w9 in
    let w7 : List Word = (decimal v.start) ∷ w8 in
    let w6 : List Word = (decimal v.blocks) ∷ w7 in
    exit_word (codes "verity" ∷ codes "1" ∷ v.data ∷ v.hash ∷ decimal v.data_block ∷ []) (decimal v.hash_block) w6 c.from_residual-in_err-push_spaced_number-2.result c.in_err-push_spaced_number-2.field-0.0 (decimal c.from-2.result) c.from_residual-in_err-push_spaced_number-2.ensures.1 (ap decimal c.from-2.ensures) c.in_err-push_spaced_number-2.ensures.err

pub returns-in_err-push_spaced_number-3-clause-err : goal.returns-in_err-push_spaced_number-3-clause-err
unfolding verity_words
returns-in_err-push_spaced_number-3-clause-err c =
    let v = c.args.verity.now in
    let w11 : List Word = options_words (verity_options v) in
    let w10 : List Word = (salt_word v.salt) ∷ w11 in
    let w9 : List Word = (encode_lower v.root) ∷ w10 in
    let w8 : List Word = (codes "sha256") ∷ w9 in
    let w7 : List Word = (decimal v.start) ∷ w8 in
    exit_word (codes "verity" ∷ codes "1" ∷ v.data ∷ v.hash ∷ decimal v.data_block ∷ decimal v.hash_block ∷ []) (decimal v.blocks) w7 c.from_residual-in_err-push_spaced_number-3.result c.in_err-push_spaced_number-3.field-0.0 (decimal v.blocks) c.from_residual-in_err-push_spaced_number-3.ensures.1 refl c.in_err-push_spaced_number-3.ensures.err

pub returns-in_err-push_spaced_number-4-clause-err : goal.returns-in_err-push_spaced_number-4-clause-err
unfolding verity_words
returns-in_err-push_spaced_number-4-clause-err c =
    let v = c.args.verity.now in
    let w11 : List Word = options_words (verity_options v) in
    let w10 : List Word = (salt_word v.salt) ∷ w11 in
    let w9 : List Word = (encode_lower v.root) ∷ w10 in
    let w8 : List Word = (codes "sha256") ∷ w9 in
    exit_word (codes "verity" ∷ codes "1" ∷ v.data ∷ v.hash ∷ decimal v.data_block ∷ decimal v.hash_block ∷ decimal v.blocks ∷ []) (decimal v.start) w8 c.from_residual-in_err-push_spaced_number-4.result c.in_err-push_spaced_number-4.field-0.0 (decimal v.start) c.from_residual-in_err-push_spaced_number-4.ensures.1 refl c.in_err-push_spaced_number-4.ensures.err

pub returns-in_err-push_digits-clause-err : goal.returns-in_err-push_digits-clause-err
unfolding verity_words
returns-in_err-push_digits-clause-err c =
    let v = c.args.verity.now in
    let w11 : List Word = options_words (verity_options v) in
    let w10 : List Word = (salt_word v.salt) ∷ w11 in
    exit_word (codes "verity" ∷ codes "1" ∷ v.data ∷ v.hash ∷ decimal v.data_block ∷ decimal v.hash_block ∷ decimal v.blocks ∷ decimal v.start ∷ codes "sha256" ∷ []) (encode_lower v.root) w10 c.from_residual-in_err-push_digits.result c.in_err-push_digits.field-0.0 (encode_lower c.as_bytes.result.now) c.from_residual-in_err-push_digits.ensures.1 (ap encode_lower c.as_bytes.ensures.value) c.in_err-push_digits.ensures.err

pub returns-in_err-print_salt-clause-err : goal.returns-in_err-print_salt-clause-err
unfolding verity_words
returns-in_err-print_salt-clause-err c =
    let v = c.args.verity.now in
    let w11 : List Word = options_words (verity_options v) in
    exit_word (codes "verity" ∷ codes "1" ∷ v.data ∷ v.hash ∷ decimal v.data_block ∷ decimal v.hash_block ∷ decimal v.blocks ∷ decimal v.start ∷ codes "sha256" ∷ encode_lower v.root ∷ []) (salt_word v.salt) w11 c.from_residual-in_err-print_salt.result c.in_err-print_salt.field-0.0 (salt_word c.bytes.result.now) c.from_residual-in_err-print_salt.ensures.1 (ap salt_word c.bytes.ensures.value) c.in_err-print_salt.ensures.err

pub returns-in_err-print_options-clause-err : goal.returns-in_err-print_options-clause-err
unfolding verity_words
returns-in_err-print_options-clause-err c =
    let v = c.args.verity.now in
    let w11 : List Word = options_words (verity_options v) in
    exit_rest (codes "verity" ∷ codes "1" ∷ v.data ∷ v.hash ∷ decimal v.data_block ∷ decimal v.hash_block ∷ decimal v.blocks ∷ decimal v.start ∷ codes "sha256" ∷ encode_lower v.root ∷ salt_word v.salt ∷ []) w11 c.from_residual-in_err-print_options.result c.in_err-print_options.field-0.0 c.from_residual-in_err-print_options.ensures.1 c.in_err-print_options.ensures.err
