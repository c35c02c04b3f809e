use Rattle.std.proofs.Common.{◌≡◌, ◌+◌, ◌-◌, ◌*◌, ◌/◌, ◌++◌, take, length, sym, ap, ◌∙◌, arith}
use Rattle.std.proofs.lemmas.Slice.{take-put_mid}
use Rattle.aes_block.specs.KeyExpansion.{word, add_words, key_term, expansion, key_schedule}
use Rattle.aes_block.proofs.KeyScheduleLemmas.{expansion_more, with_word-take, key_words_between}
use Rattle.aes_block.proofs.key_expansion.expand.Goals as goal

pub loop-i-preserved : goal.loop-i-preserved
loop-i-preserved c =
    let key = c.args.key.now in
    let nk = length key / 4 in
    let between = key_words_between (length key) c.requires in
    let i = c.loop-i.i in
    let s = c.loop-i.schedule in
    let so_far : take (4 * i) s ≡ expansion nk key (i - nk) = c.loop-i.invariant in
    let written = c.copy_from_slice-in-loop-i.new.self in
    let next : written ≡ add_words (word s (i - nk)) (key_term nk (word s (i - 1)) i) = cc in
    let long = ap length next in
    let put = take-put_mid (4 * i) (4 * i + 4 - 4 * i) s written (4 * (i + 1)) (omega (arith, long)) (omega (arith, c.add_words-next.array_long)) in
    let more = with_word-take nk s (expansion nk key (i - nk)) i (omega (arith, between)) (omega arith) so_far in
    put ∙ ap (λ w. take (4 * i) s ++ w) next ∙ more ∙ sym (expansion_more nk key i (omega arith))

pub returns : goal.returns
unfolding key_schedule
returns c =
    let key = c.args.key.now in
    let nk = length key / 4 in
    let between = key_words_between (length key) c.requires in
    let i = c.loop-i.i in
    let so_far : take (4 * i) c.loop-i.schedule ≡ expansion nk key (i - nk) = c.loop-i.invariant in
    let done : 16 * (nk + 6 + 1) ≡ 4 * i = omega (arith, between) in
    let words : 4 * (nk + 6 + 1) - nk ≡ i - nk = omega (arith, between) in
    rw (done, words) so_far
