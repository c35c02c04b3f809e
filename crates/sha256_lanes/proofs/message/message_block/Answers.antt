use Rattle.std.proofs.Common.{ℕ, List, ◌+◌, ◌*◌, length, sym, ◌∙◌, inl, inr}
use Rattle.std.proofs.lemmas.Bool.{cases_lt}
use Rattle.sha256_lanes.proofs.PaddingLemmas.{get_or-padded_second}
use Rattle.sha256_lanes.proofs.message.message_block.Goals as goal

pub returns : goal.returns
returns c = λ k lt.
    let p : List ℕ = c.args.prefix.now in
    let b : List ℕ = c.args.block.now in
    let n : ℕ = c.args.index * 64 + k in
    elim (cases_lt n (length p)) [
      | inl first ↦ c.overlay.ensures.before k lt first ∙ c.requires.before k lt first
      | inr past ↦ elim (cases_lt n (length p + length b)) [
        | inl second ↦ c.overlay.ensures.inside k lt past second ∙ sym (get_or-padded_second p b n past second)
        | inr over ↦ c.overlay.ensures.after k lt over ∙ c.requires.behind k lt over
      ]
    ]
