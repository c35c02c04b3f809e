use Rattle.std.proofs.Common.{◌≡◌, ℕ, List, [], length, refl, sym, ap, subst, ◌+◌, ◌*◌, ◌∙◌, arith, take, drop, slice_index}
use Rattle.std.proofs.lemmas.List.{get_or_append_left}
use Rattle.sha2.specs.Sha256.{add_state, compress, rounds, schedule}
use Rattle.sha2.proofs.Schedule256.{slice_index-schedule_first}
use Rattle.sha256_lanes.specs.Lanes.{AreWords, state_of_lane, word_of_lane}
use Rattle.sha256_lanes.proofs.PaddingLemmas.{word_at-part}
use Rattle.sha256_lanes.proofs.rounds.compress.Goals as goal

pub schedule-init : goal.schedule-init
schedule-init c = λ j lt k small.
    let at = c.args.at + j * c.args.stride in
    let b = take 64 (drop at c.args.bytes.now) in
    let copied = c.copy_from_slice.ensures.after in
    let long : length c.copy_from_slice.new.self ≡ 16 = ap (λ (l : List (List ℕ)). length l) copied ∙ omega arith in
    ap (λ (l : List ℕ). slice_index l j) (get_or_append_left c.copy_from_slice.new.self _ [] k (omega arith))
    ∙ ap (λ (w : List (List ℕ)). word_of_lane w k j) copied
    ∙ c.words-first.ensures j lt k small
    ∙ sym (word_at-part c.args.bytes.now at (4 * k) _ (omega arith) (omega arith))
    ∙ sym (slice_index-schedule_first b 48 k small)

pub rounds-init : goal.rounds-init
unfolding rounds
rounds-init c = λ j lt. refl

pub rounds-preserved : goal.rounds-preserved
rounds-preserved c = λ j lt.
    let b = take 64 (drop (c.args.at + j * c.args.stride) c.args.bytes.now) in
    let h = state_of_lane j c.args.state.now in
    let done : c.schedule.t ≡ 64 = omega (arith, c.schedule.auto.t-end (omega arith)) in
    let words = subst (λ (n : ℕ). AreWords b n j c.schedule.w) done (c.schedule.invariant j lt) in
    let half = c.four_steps-half.ensures j lt b h words (c.rounds.invariant j lt) in
    c.four_steps-v.ensures j lt b h words half ∙ ap (rounds h (schedule b 48)) (omega arith)

pub returns : goal.returns
unfolding compress
returns c = λ j lt.
    let done : 8 * c.rounds.turn ≡ 64 = omega (arith, c.rounds.auto.turn-end) in
    let held = rw done at (c.rounds.invariant j lt) in
    c.sums-sum.ensures j lt ∙ ap (add_state (state_of_lane j c.args.state.now)) held
