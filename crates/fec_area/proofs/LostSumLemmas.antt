-- The blocks of a round and its parity sum to zeros, so one lost block is the sum of the rest.
use Rattle.std.proofs.Common.{◌≡◌, ℕ, ◌+◌, ◌-◌, ◌*◌, sym, ap, ◌∙◌, arith, bit_xor}
use Rattle.std.specs.Prelude.{slice_index}
use Rattle.reed_solomon.specs.Field.{total}
use Rattle.reed_solomon.specs.Sums.{part_sum, summand_beside}
use Rattle.reed_solomon.proofs.lemmas.SumLemmas.{codeword-sum, summand-other, summand-own, total-lost, total-parts}
use Rattle.fec_area.specs.Layouts.{codeword, message_byte}
use Rattle.fec_area.specs.Sums.{OneLostBlockIsASum, RoundsSumToZeros, message_sum}
use Rattle.fec_area.proofs.RoundLemmas.{codeword-message, codeword-parity}

pub rounds-sum : RoundsSumToZeros
rounds-sum l valid d h round parity stands c inside =
    let few = valid.few in
    let roots = l.roots in
    let n : ℕ = 255 - roots in
    let word = codeword l d h round parity c in
    let whole : n + roots ≡ 255 = omega (arith, few) in
    let none : total (slice_index word) 255 ≡ 0 = codeword-sum roots word (omega (arith, valid.some)) (stands c inside) in
    let parts : total (slice_index word) (n + roots) ≡ bit_xor (message_sum l d h round c) (part_sum roots parity c)
    = total-parts (slice_index word) (message_byte l d h round c) (λ k. slice_index parity (c * roots + k)) n roots
    (λ i lt. codeword-message l d h round parity c i lt)
    (λ k lt. codeword-parity l d h round parity c k (omega (arith, few)) lt) in
    sym parts ∙ ap (λ j. total (slice_index word) j) whole ∙ none

pub lost-sum : OneLostBlockIsASum
lost-sum l valid d h round parity stands c place inside within =
    let f : ℕ → ℕ = message_byte l d h round c in
    total-lost f (summand_beside f place) (255 - l.roots) place (part_sum l.roots parity c) within (summand-own f place) (λ k lt apart. summand-other f place k apart)
    (rounds-sum l valid d h round parity stands c inside)
