use Rattle.std.proofs.Common.{◌≡◌, ℕ, List, [], ◌∷◌, ◌+◌, ◌-◌, ◌*◌, ◌/◌, ◌%◌, ◌^◌, ◌++◌, length, slice_index, get_or, arith, ap, sym, ◌∙◌, inl, inr, length-append}
use Rattle.std.proofs.lemmas.Bool.{cases_lt}
use Rattle.std.proofs.lemmas.List.{get_or-replicate}
use Rattle.std.specs.Int.{to_be_bytes, w64}
use Rattle.sha256_lanes.proofs.PaddingLemmas.{get_or-padded_first, get_or-padded_one, get_or-padded_zero, get_or-padded_length}
use Rattle.sha256_lanes.proofs.message.frame.Goals as goal

pub returns-clause-before : goal.returns-clause-before
returns-clause-before c = λ b k lt first.
    let p : List ℕ = c.args.prefix.now in
    let n : ℕ = c.args.index * 64 + k in
    c.overlay-3.ensures.before k lt (omega arith)
    ∙ c.overlay-2.ensures.before k lt (omega arith)
    ∙ c.overlay.ensures.inside k lt (omega arith) (omega arith)
    ∙ ap (slice_index p) (omega arith)
    ∙ sym (get_or-padded_first p b n first)

pub returns-clause-behind : goal.returns-clause-behind
returns-clause-behind c = λ b sized k lt over.
    let p : List ℕ = c.args.prefix.now in
    let n : ℕ = c.args.index * 64 + k in
    let len : length (p ++ b) ≡ length p + c.args.size = omega (arith, length-append p b, sized) in
    let e : ℕ = (length p + c.args.size + 72) / 64 * 64 - 8 in
    let eight : length c.to_be_bytes-bits.result ≡ 8 = ap length c.to_be_bytes-bits.ensures in
    let o1 = c.overlay.ensures in
    let o2 = c.overlay-2.ensures in
    let o3 = c.overlay-3.ensures in
    elim (cases_lt (length p + c.args.size) n) [
      | inl more ↦ elim (cases_lt n e) [
        | inl zero ↦ o3.before k lt zero ∙ o2.after k lt (omega arith) ∙ o1.after k lt (omega arith)
            ∙ get_or-replicate 64 k 0 0 lt ∙ sym (get_or-padded_zero (p ++ b) n (omega (arith, len)) (omega (arith, len)))
        | inr field ↦ o3.inside k lt field (omega (arith, eight))
            ∙ ap (λ (x : List ℕ). get_or x (n - e) 0) c.to_be_bytes-bits.ensures
            ∙ ap (λ (i : ℕ). get_or (to_be_bytes w64 (i * 8 % 2 ^ 64)) (n - e) 0) (sym len)
            ∙ sym (get_or-padded_length (p ++ b) n e (omega (arith, len)) field)
      ]
      | inr one ↦
          let none : n - (length p + c.args.size) ≡ 0 = omega arith in
          o3.before k lt (omega arith) ∙ o2.inside k lt over (omega arith)
          ∙ ap (λ (i : ℕ). get_or (0x80 ∷ []) i 0) none ∙ sym (get_or-padded_one (p ++ b) n (omega (arith, len)))
    ]
