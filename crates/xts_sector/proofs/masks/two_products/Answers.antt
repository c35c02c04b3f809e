use Rattle.std.proofs.Common.{◌≡◌, Fits, w8, get_or, take, arith, rules}
use Rattle.std.proofs.lemmas.List.{take_all}
use Rattle.xts_sector.proofs.TwoMaskLemmas.{two_masks}
use Rattle.xts_sector.proofs.masks.two_products.Goals as goal

pub returns : goal.returns
returns c =
    let old = c.args.masks.now in
    let whole : take 32 old ≡ old = take_all 32 old (omega (arith, c.requires)) in
    rw whole (two_masks old c.requires (λ i. let byte : Fits w8 (get_or old i 0) = search rules in byte.fits))
