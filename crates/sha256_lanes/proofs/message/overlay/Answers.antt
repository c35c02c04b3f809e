use Rattle.std.proofs.Common.{◌≡◌, ℕ, List, ◌<◌, ◌-◌, length, slice_index, take, drop, arith, ap, ◌∙◌, length-drop}
use Rattle.std.proofs.lemmas.List.{get_or-take, get_or-drop, length-take-le}
use Rattle.sha256_lanes.proofs.PaddingLemmas.{put_mid-at}
use Rattle.sha256_lanes.proofs.message.overlay.Goals as goal

pub returns-then-from-to-clause-inside : goal.returns-then-from-to-clause-inside
returns-then-from-to-clause-inside c = λ k lt low high.
    let a : ℕ = c.max-from.result - c.args.at in
    let s : ℕ = c.max-from.result - c.args.start in
    let n : ℕ = c.min-to.result - c.args.start - s in
    let row : List ℕ = c.copy_from_slice.new.self in
    let same : row ≡ take n (drop s c.args.piece.now) = c.copy_from_slice.ensures.after in
    let long : length row ≡ n = ap length same ∙ length-take-le n (drop s c.args.piece.now) (omega (arith, length-drop s c.args.piece.now)) in
    let here : k - a < n = omega arith in
    put_mid-at a (c.min-to.result - c.args.at - a) c.args.out.now row k (omega arith) (omega arith) (omega arith)
    ∙ ap (λ (x : List ℕ). slice_index x (k - a)) same
    ∙ get_or-take n (drop s c.args.piece.now) (k - a) 0 here
    ∙ get_or-drop s c.args.piece.now (k - a) 0
    ∙ ap (slice_index c.args.piece.now) (omega arith)
