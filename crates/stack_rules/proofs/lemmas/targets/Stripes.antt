-- A device that is striped over its own stripes is that device, and a stripe that is taken out of a striped device
-- is the base on which it lies.
use Rattle.std.proofs.Common.{◌≡◌, ◌+◌, ◌*◌, ◌/◌, ◌%◌, ◌<◌, ◌≤◌, ℕ, List, length, Some, ap, ◌∙◌, subst}
use Rattle.std.proofs.lemmas.Nat.{div-add-mod', div-mul-add, mod-mul-add, mod_below}
use Rattle.dm_table.specs.declared.table.Base.{Base}
use Rattle.dm_table.specs.declared.unstriped.Unstriped.{Unstriped}
use Rattle.stack_rules.specs.targets.Striped.{striped}
use Rattle.stack_rules.specs.targets.Unstriped.{unstriped}

-- the line that takes stripe i, one of so many of that chunk, out of the device that begins at that base
abbrev pub stripe_of : ℕ → ℕ → ℕ → Base → Unstriped
stripe_of stripes chunk i whole = record { stripes = stripes; chunk = chunk; stripe = i; base = whole }

-- Sector s of the striped device lies on a stripe, and that sector of the stripe lies on sector s of the whole.
pub striped-over-stripes : (chunk : ℕ) (bases : List Base) (whole : Base) (s : ℕ) (p : ℕ × ℕ) → 1 ≤ chunk → (striped chunk bases).lies s ≡ Some p
    → (unstriped (stripe_of (length bases) chunk p.0 whole)).lies p.1 ≡ Some (0, s)
striped-over-stripes chunk bases whole s p some lies =
    let n : ℕ = length bases in
    let q : ℕ = s / chunk in
    let r : ℕ = s % chunk in
    let t : ℕ = q / n * chunk + r in
    let low : r < chunk = mod_below s chunk some in
    let is : (t / chunk * n + q % n) * chunk + t % chunk ≡ s =
    ap (λ (k : ℕ). (k * n + q % n) * chunk + t % chunk) (div-mul-add (q / n) chunk r low)
    ∙ ap (λ (k : ℕ). (q / n * n + q % n) * chunk + k) (mod-mul-add (q / n) chunk r low)
    ∙ ap (λ (k : ℕ). k * chunk + r) (div-add-mod' q n)
    ∙ div-add-mod' s chunk in
    let same : (q % n, t) ≡ p = cc in
    subst (λ (p : ℕ × ℕ). (unstriped (stripe_of n chunk p.0 whole)).lies p.1 ≡ Some (0, s)) same (ap (λ (k : ℕ). Some (0, k)) is)

-- Sector t of stripe i lies on a sector of the striped device, and that one lies on the i-th base at t.
pub stripe-of-striped : (chunk : ℕ) (bases : List Base) (whole : Base) (i t : ℕ) (p : ℕ × ℕ) → 1 ≤ chunk → i < length bases
    → (unstriped (stripe_of (length bases) chunk i whole)).lies t ≡ Some p → (striped chunk bases).lies p.1 ≡ Some (i, t)
stripe-of-striped chunk bases whole i t p some within lies =
    let n : ℕ = length bases in
    let q : ℕ = t / chunk in
    let r : ℕ = t % chunk in
    let k : ℕ = q * n + i in
    let s : ℕ = k * chunk + r in
    let low : r < chunk = mod_below t chunk some in
    let row : s / chunk ≡ k = div-mul-add k chunk r low in
    let base : s / chunk % n ≡ i = ap (λ (x : ℕ). x % n) row ∙ mod-mul-add q n i within in
    let place : s / chunk / n * chunk + s % chunk ≡ t =
    ap (λ (x : ℕ). x / n * chunk + s % chunk) row
    ∙ ap (λ (x : ℕ). x * chunk + s % chunk) (div-mul-add q n i within)
    ∙ ap (λ (x : ℕ). q * chunk + x) (mod-mul-add k chunk r low)
    ∙ div-add-mod' t chunk in
    let same : (0, s) ≡ p = cc in
    subst (λ (p : ℕ × ℕ). (striped chunk bases).lies p.1 ≡ Some (i, t)) same
    (ap (λ (x : ℕ). Some (x, s / chunk / n * chunk + s % chunk)) base ∙ ap (λ (x : ℕ). Some (i, x)) place)
