-- Runs of a part of an image.
use Rattle.std.proofs.Common.{◌≡◌, ℕ, ◌+◌, ◌-◌, ◌≤◌, List, ◌++◌, length, take, drop, ap, subst, sym, ◌∙◌, arith}
use Rattle.std.proofs.lemmas.List.{drop-append-le, drop-drop, drop-take, length-append, length-drop, length-take-le, take-take}
use Rattle.std.proofs.Math.Seq.{take-append-add}
use Rattle.block_device.specs.Device.{run_of, spliced}
use Rattle.device_adapters.specs.declared.part.Part.{Part}
use Rattle.device_adapters.specs.Parts.{Outside, outside_of}

-- the sectors of a part before one of its sectors, and from it on
pub take-run_of : (image : List (List ℕ)) (p c f : ℕ) → f ≤ c → take f (run_of image p c) ≡ drop p (take (p + f) image)
take-run_of image p c f few = take-take f c (drop p image) few ∙ sym (drop-take p f image)

pub drop-run_of : (image : List (List ℕ)) (p c f : ℕ) → f ≤ c → drop f (run_of image p c) ≡ run_of image (p + f) (c - f)
drop-run_of image p c f few =
    let both : c ≡ f + (c - f) = omega arith in
    ap (λ (k : ℕ). drop f (take k (drop p image))) both
    ∙ drop-take f (c - f) (drop p image)
    ∙ ap (take (c - f)) (drop-drop f p image)

-- a run of a part is a run of the whole
pub run_of-run_of : (image : List (List ℕ)) (p c f n : ℕ) → f + n ≤ c → run_of (run_of image p c) f n ≡ run_of image (p + f) n
run_of-run_of image p c f n few =
    ap (take n) (drop-run_of image p c f (omega arith))
    ∙ take-take n (c - f) (drop (p + f) image) (omega arith)

-- if the whole is the same before a sector of the part, so is the part, and the same after it
pub before-run_of : (old new : List (List ℕ)) (p c f : ℕ) → f ≤ c → take (p + f) new ≡ take (p + f) old → take f (run_of new p c) ≡ take f (run_of old p c)
before-run_of old new p c f few same = take-run_of new p c f few ∙ ap (drop p) same ∙ sym (take-run_of old p c f few)

pub after-run_of : (old new : List (List ℕ)) (p c f n : ℕ) → f + n ≤ c → drop (p + f + n) new ≡ drop (p + f + n) old → drop (f + n) (run_of new p c) ≡ drop (f + n) (run_of old p c)
after-run_of old new p c f n few same =
    let at : p + (f + n) ≡ p + f + n = omega arith in
    let here : drop (p + (f + n)) new ≡ drop (p + (f + n)) old = ap (λ (k : ℕ). drop k new) at ∙ same ∙ ap (λ (k : ℕ). drop k old) (sym at) in
    drop-run_of new p c (f + n) few ∙ ap (take (c - (f + n))) here ∙ sym (drop-run_of old p c (f + n) few)

-- sectors put into the whole are put into the part
pub run_of-spliced : (image sectors : List (List ℕ)) (p c f : ℕ) → p + c ≤ length image → f + length sectors ≤ c → run_of (spliced image (p + f) sectors) p c ≡ spliced (run_of image p c) f sectors
run_of-spliced image sectors p c f inside few =
    let n : ℕ = length sectors in
    let front : length (take (p + f) image) ≡ p + f = length-take-le (p + f) image (omega arith) in
    let part : List (List ℕ) = take f (drop p image) ++ sectors in
    let head : length (take f (drop p image)) ≡ f = length-take-le f (drop p image) (omega (arith, length-drop p image)) in
    let all : c ≡ length part + (c - (f + n)) = omega (arith, length-append (take f (drop p image)) sectors, head) in
    let at : p + f + n ≡ p + (f + n) = omega arith in
    ap (take c) (drop-append-le p (take (p + f) image ++ sectors) (drop (p + f + n) image) (omega (arith, length-append (take (p + f) image) sectors, front)))
    ∙ ap (λ (l : List (List ℕ)). take c (l ++ drop (p + f + n) image)) (drop-append-le p (take (p + f) image) sectors (omega (arith, front)))
    ∙ ap (λ (l : List (List ℕ)). take c (l ++ sectors ++ drop (p + f + n) image)) (drop-take p f image)
    ∙ ap (λ (k : ℕ). take k (part ++ drop (p + f + n) image)) all
    ∙ take-append-add part (drop (p + f + n) image) (c - (f + n))
    ∙ ap (λ (k : ℕ). part ++ take (c - (f + n)) (drop k image)) at
    ∙ ap (λ (l : List (List ℕ)). part ++ l) (sym (drop-run_of image p c (f + n) few))
    ∙ ap (λ (l : List (List ℕ)). l ++ sectors ++ drop (f + n) (run_of image p c)) (sym (take-take f c (drop p image) (omega arith)))

-- what is written inside of a part leaves what is outside
pub outside_of-same : (old new : List (List ℕ)) (part : Part) (f n : ℕ) → f + n ≤ part.count → take (part.first + f) new ≡ take (part.first + f) old → drop (part.first + f + n) new ≡ drop (part.first + f + n) old
    → outside_of new part ≡ outside_of old part
outside_of-same old new part f n few before behind =
    let p : ℕ = part.first in
    let rest : ℕ = part.count - (f + n) in
    let end : p + f + n + rest ≡ p + part.count = omega arith in
    let make : List (List ℕ) → List (List ℕ) → Outside = λ a b. record { place = part; before = a; behind = b } in
    let front : take p new ≡ take p old = sym (take-take p (p + f) new (omega arith)) ∙ ap (take p) before ∙ take-take p (p + f) old (omega arith) in
    let back : drop (p + f + n + rest) new ≡ drop (p + f + n + rest) old = sym (drop-drop rest (p + f + n) new) ∙ ap (drop rest) behind ∙ drop-drop rest (p + f + n) old in
    let same : drop (p + part.count) new ≡ drop (p + part.count) old = subst (λ (k : ℕ). drop k new ≡ drop k old) end back in
    ap (λ (l : List (List ℕ)). make l (drop (p + part.count) new)) front ∙ ap (make (take p old)) same
