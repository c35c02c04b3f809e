use Rattle.std.proofs.Common.{◌+◌, ◌-◌, ◌*◌, ◌++◌, slice_index, ap, ◌∙◌, arith}
use Rattle.std.proofs.lemmas.List.{get_or_append_left, get_or-append_right}
use Rattle.sha256_lanes.proofs.WordLemmas.{words_of_bytes, word_at-same, byte_of_two}
use Rattle.sha256_lanes.proofs.big_endian.two_fours.Goals as goal

pub returns-clause-low : goal.returns-clause-low
returns-clause-low c = λ k h.
    let xs = c.piece-first.result in
    let ys = c.piece-second.result in
    let bytes = c.args.bytes.now in
    words_of_bytes xs ys (byte_of_two xs ys c.piece-first.ensures.bytes c.piece-second.ensures.bytes) k (omega arith)
    ∙ word_at-same (xs ++ ys) bytes (4 * k) (c.args.low + 4 * k) (λ n hn.
    get_or_append_left xs ys 0 (4 * k + n) (omega (arith, c.piece-first.ensures.size))
    ∙ c.piece-first.ensures.value (4 * k + n) (omega arith)
    ∙ ap (slice_index bytes) (omega arith))

pub returns-clause-high : goal.returns-clause-high
returns-clause-high c = λ k h.
    let xs = c.piece-first.result in
    let ys = c.piece-second.result in
    let bytes = c.args.bytes.now in
    words_of_bytes xs ys (byte_of_two xs ys c.piece-first.ensures.bytes c.piece-second.ensures.bytes) (4 + k) (omega arith)
    ∙ word_at-same (xs ++ ys) bytes (4 * (4 + k)) (c.args.high + 4 * k) (λ n hn.
    get_or-append_right xs ys 16 (4 * (4 + k) + n) 0 c.piece-first.ensures.size (omega arith)
    ∙ c.piece-second.ensures.value (4 * (4 + k) + n - 16) (omega arith)
    ∙ ap (slice_index bytes) (omega arith))
