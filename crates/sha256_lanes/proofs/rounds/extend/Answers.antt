use Rattle.std.proofs.Common.{◌≡◌, ◌≢◌, List, [], ℕ, ap, ◌∙◌, arith, inl, inr, slice_index}
use Rattle.std.proofs.lemmas.Bool.{cases_lt}
use Rattle.std.proofs.lemmas.List.{get_or-set_same, get_or-set_other}
use Rattle.sha256_lanes.proofs.rounds.extend.Goals as goal

pub returns : goal.returns
returns c = λ j lt b held k small.
    let t = c.args.t in
    let w = c.args.w.now in
    let x = c.next_word-word.result in
    elim (cases_lt k t) [
      | inl below ↦
          let other : k ≢ t = omega arith in
          ap (λ (l : List ℕ). slice_index l j) (get_or-set_other w t k x [] other) ∙ held k below
      | inr behind ↦
          let at : k ≡ t = omega arith in
          rw at (ap (λ (l : List ℕ). slice_index l j) (get_or-set_same w t x [] (omega arith)) ∙ c.next_word-word.ensures j lt b held)
    ]
