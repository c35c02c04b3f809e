use Rattle.std.proofs.Common.{List, [], ◌∷◌, append-nil, codes, decimal, refl, ap, sym}
use Rattle.dm_table.specs.Words.{Word}
use Rattle.table_text.proofs.PrintLemmas.{then_word}
use Rattle.table_text.proofs.print_verity.print_fec.Goals as goal

pub returns-clause-ok : goal.returns-clause-ok
returns-clause-ok c =
    let p = c.args.parity.now in
    let last = c.push_spaced_number-3.new.text.items in
    let w8 : List Word = [] in
    let w7 : List Word = (decimal p.roots) ∷ w8 in
    let w6 : List Word = (codes "fec_roots") ∷ w7 in
    let w5 : List Word = (decimal p.start) ∷ w6 in
    let w4 : List Word = (codes "fec_start") ∷ w5 in
    let w3 : List Word = (decimal p.blocks) ∷ w4 in
    let w2 : List Word = (codes "fec_blocks") ∷ w3 in
    let w1 : List Word = p.device ∷ w2 in
    then_word c.args.text.now.items c.push_spaced.new.text.items last (codes "use_fec_from_device") (codes "use_fec_from_device") w1 refl c.in_ok-push_spaced.ensures.ok (
    then_word c.push_spaced.new.text.items c.push_spaced-2.new.text.items last p.device c.as_slice.result.now w2 c.as_slice.ensures c.in_ok-push_spaced-2.ensures.ok (
    then_word c.push_spaced-2.new.text.items c.push_spaced-3.new.text.items last (codes "fec_blocks") (codes "fec_blocks") w3 refl c.in_ok-push_spaced-3.ensures.ok (
    then_word c.push_spaced-3.new.text.items c.push_spaced_number.new.text.items last (decimal p.blocks) (decimal p.blocks) w4 refl c.in_ok-push_spaced_number.ensures.ok (
    then_word c.push_spaced_number.new.text.items c.push_spaced-4.new.text.items last (codes "fec_start") (codes "fec_start") w5 refl c.in_ok-push_spaced-4.ensures.ok (
    then_word c.push_spaced-4.new.text.items c.push_spaced_number-2.new.text.items last (decimal p.start) (decimal p.start) w6 refl c.in_ok-push_spaced_number-2.ensures.ok (
    then_word c.push_spaced_number-2.new.text.items c.push_spaced-5.new.text.items last (codes "fec_roots") (codes "fec_roots") w7 refl c.in_ok-push_spaced-5.ensures.ok (
    then_word c.push_spaced-5.new.text.items c.push_spaced_number-3.new.text.items last (decimal p.roots) (decimal c.from.result) w8 (ap decimal c.from.ensures) c.in_ok-push_spaced_number-3.ensures.ok (
    sym (append-nil last)))))))))
