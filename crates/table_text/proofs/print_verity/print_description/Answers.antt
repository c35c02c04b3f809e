use Rattle.std.proofs.Common.{List, [], ◌∷◌, append-nil, codes, refl, sym}
use Rattle.dm_table.specs.Words.{Word}
use Rattle.table_text.proofs.PrintLemmas.{then_word}
use Rattle.table_text.proofs.print_verity.print_description.Goals as goal

pub returns-clause-ok : goal.returns-clause-ok
returns-clause-ok c =
    let key = c.args.key.now in
    let last = c.push_spaced-2.new.text.items in
    let w2 : List Word = [] in
    let w1 : List Word = key ∷ w2 in
    then_word c.args.text.now.items c.push_spaced.new.text.items last (codes "root_hash_sig_key_desc") (codes "root_hash_sig_key_desc") w1 refl c.in_ok-push_spaced.ensures.ok (
    then_word c.push_spaced.new.text.items c.push_spaced-2.new.text.items last key c.as_slice.result.now w2 c.as_slice.ensures c.in_ok-push_spaced-2.ensures.ok (
    sym (append-nil last)))
