-- What the last of some copies counts as read.
use Rattle.std.proofs.Common.{◌≡◌, ◌<◌, ◌-◌, ◌∙◌, ℕ, List, ap, arith, get_or, length, map}
use Rattle.std.proofs.lemmas.List.{get_or-map, length-map}
use Rattle.block_device.specs.Device.{Device}
use Rattle.repair_commands.specs.Counters.{last_read}

-- of those that are the devices of some values
pub last-read : {X : Type 0} (state : X → Device) (xs : List X) (k : ℕ) (d : X) → k < length xs → k ≡ length xs - 1 → last_read (map state xs) ≡ (state (get_or xs k d)).reads
last-read state xs k d low last =
    let reads = λ (v : Device). v.reads in
    let at : length (map state xs) - 1 ≡ k = omega (arith, last, length-map xs state) in
    let inside : k < length (map state xs) = omega (arith, low, length-map xs state) in
    ap (λ (n : ℕ). get_or (map reads (map state xs)) n 0) at
    ∙ get_or-map reads (map state xs) k (state d) 0 inside
    ∙ ap reads (get_or-map state xs k d (state d) low)
