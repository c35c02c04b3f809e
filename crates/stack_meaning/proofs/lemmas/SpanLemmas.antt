-- Spans of sectors.
use Rattle.std.proofs.Common.{◌≡◌, ℕ, zero, suc, ◌+◌, ◌*◌, ◌<◌, ◌≤◌, List, [], ◌∷◌, ◌++◌, length, get_or, take, drop, replicate, refl, sym, ap, ◌∙◌, arith, Ok, Err}
use Rattle.std.proofs.lemmas.List.{append_assoc, drop-drop, drop_more, replicate-append-replicate}
use Rattle.std.proofs.Math.Seq.{take-add}
use Rattle.std.specs.List.{concat}
use Rattle.block_device.specs.Device.{run_of}
use Rattle.stack_meaning.specs.declared.fault.Fault.{Fault}
use Rattle.stack_meaning.specs.Outcomes.{Outcome, joint_outcome, span, zero_sector, part}

-- a leaf's span
pub span_image : (f : ℕ → Outcome) (image : List (List ℕ)) (first n : ℕ) → ((s : ℕ) → f s ≡ Ok (get_or image s zero_sector)) → first + n ≤ length image → span f first n ≡ Ok (concat (run_of image first n))
span_image f image first zero is h = refl
span_image f image first (suc n) is h =
    let one : suc first ≡ first + 1 = omega arith in
    let more : drop first image ≡ get_or image first zero_sector ∷ drop (suc first) image = drop_more image first zero_sector (omega arith) ∙ ap (λ (j : ℕ). get_or image first zero_sector ∷ drop j image) (sym one) in
    ap (λ (x : Outcome). joint_outcome x (span f (suc first) n)) (is first)
    ∙ ap (joint_outcome (Ok (get_or image first zero_sector))) (span_image f image (suc first) n is (omega arith))
    ∙ ap (λ (l : List (List ℕ)). Ok (concat (take (suc n) l))) (sym more)

joint_outcome_assoc : (a b c : Outcome) → joint_outcome (joint_outcome a b) c ≡ joint_outcome a (joint_outcome b c)
joint_outcome_assoc (Ok a) (Ok b) (Ok c) = ap Ok (append_assoc a b c)
joint_outcome_assoc (Ok a) (Ok b) (Err x) = refl
joint_outcome_assoc (Ok a) (Err x) c = refl
joint_outcome_assoc (Err x) b c = refl

joint_outcome_none : (a : Outcome) → joint_outcome (Ok []) a ≡ a
joint_outcome_none (Ok a) = refl
joint_outcome_none (Err x) = refl

-- a span in two parts
pub span-add : (f : ℕ → Outcome) (first n m : ℕ) → span f first (n + m) ≡ joint_outcome (span f first n) (span f (first + n) m)
span-add f first zero m =
    let a : 0 + m ≡ m = omega arith in let b : first + 0 ≡ first = omega arith in
    ap (span f first) a ∙ sym (joint_outcome_none (span f first m)) ∙ ap (λ (j : ℕ). joint_outcome (Ok []) (span f j m)) (sym b)
span-add f first (suc n) m =
    let a : suc n + m ≡ suc (n + m) = omega arith in let b : suc first + n ≡ first + suc n = omega arith in
    ap (span f first) a ∙ ap (joint_outcome (f first)) (span-add f (suc first) n m) ∙ sym (joint_outcome_assoc (f first) (span f (suc first) n) (span f (suc first + n) m))
    ∙ ap (λ (j : ℕ). joint_outcome (joint_outcome (f first) (span f (suc first) n)) (span f j m)) b

-- spans of the same sectors
pub span_same : (f g : ℕ → Outcome) (a b n : ℕ) → ((j : ℕ) → j < n → f (a + j) ≡ g (b + j)) → span f a n ≡ span g b n
span_same f g a b zero same = refl
span_same f g a b (suc n) same =
    let a0 : a + 0 ≡ a = omega arith in let b0 : b + 0 ≡ b = omega arith in
    let first : f a ≡ g b = ap f (sym a0) ∙ same 0 (omega arith) ∙ ap g b0 in
    let rest = span_same f g (suc a) (suc b) n (λ j h. let x : suc a + j ≡ a + suc j = omega arith in let y : suc b + j ≡ b + suc j = omega arith in ap f x ∙ same (suc j) (omega arith) ∙ ap g (sym y)) in
    ap (λ (x : Outcome). joint_outcome x (span f (suc a) n)) first ∙ ap (joint_outcome (g b)) rest

-- a span whose first sector fails
pub span_fails : (f : ℕ → Outcome) (a n : ℕ) (x : Fault) → 0 < n → f a ≡ Err x → span f a n ≡ Err x
span_fails f a zero x h e = absurd (omega arith)
span_fails f a (suc n) x h e = ap (λ (y : Outcome). joint_outcome y (span f (suc a) n)) e

-- a span of zeros
pub span_zeros : (f : ℕ → Outcome) (a n : ℕ) → ((j : ℕ) → j < n → f (a + j) ≡ Ok zero_sector) → span f a n ≡ Ok (replicate (512 * n) 0)
unfolding zero_sector
span_zeros f a zero is = refl
span_zeros f a (suc n) is =
    let a0 : a + 0 ≡ a = omega arith in
    let first : f a ≡ Ok (replicate 512 0) = ap f (sym a0) ∙ is 0 (omega arith) in
    let rest = span_zeros f (suc a) n (λ j h. let x : suc a + j ≡ a + suc j = omega arith in ap f x ∙ is (suc j) (omega arith)) in
    let len : 512 + 512 * n ≡ 512 * suc n = omega arith in
    ap (λ (x : Outcome). joint_outcome x (span f (suc a) n)) first ∙ ap (joint_outcome (Ok (replicate 512 0))) rest
    ∙ ap Ok (replicate-append-replicate 512 (512 * n) 0) ∙ ap (λ (j : ℕ). Ok (replicate j 0)) len

-- sectors that follow one another in some bytes
part_first : (content : List ℕ) (w n : ℕ) → 512 * w + (512 + 512 * n) ≤ length content → part content w ++ take (512 * n) (drop (512 * suc w) content) ≡ take (512 * suc n) (drop (512 * w) content)
part_first content w n h =
    let len : 512 + 512 * n ≡ 512 * suc n = omega arith in
    let at : 512 * w + 512 ≡ 512 * suc w = omega arith in
    ap (λ (j : ℕ). part content w ++ take (512 * n) (drop j content)) (sym at)
    ∙ ap (λ (l : List ℕ). part content w ++ take (512 * n) l) (sym (drop-drop 512 (512 * w) content))
    ∙ sym (take-add 512 (512 * n) (drop (512 * w) content))
    ∙ ap (λ (j : ℕ). take j (drop (512 * w) content)) len

-- sectors of one block
pub span_block : (f : ℕ → Outcome) (content : List ℕ) (a w n : ℕ) → ((j : ℕ) → j < n → f (a + j) ≡ Ok (part content (w + j))) → 512 * w + 512 * n ≤ length content → span f a n ≡ Ok (take (512 * n) (drop (512 * w) content))
span_block f content a w zero is h = refl
span_block f content a w (suc n) is h =
    let a0 : a + 0 ≡ a = omega arith in
    let w0 : w + 0 ≡ w = omega arith in
    let first : f a ≡ Ok (part content w) = ap f (sym a0) ∙ is 0 (omega arith) ∙ ap (λ (j : ℕ). Ok (part content j)) w0 in
    let rest = span_block f content (suc a) (suc w) n (λ j h. let x : suc a + j ≡ a + suc j = omega arith in let y : w + suc j ≡ suc w + j = omega arith in ap f x ∙ is (suc j) (omega (arith, h)) ∙ ap (λ (j : ℕ). Ok (part content j)) y) (omega (arith, h)) in
    ap (λ (x : Outcome). joint_outcome x (span f (suc a) n)) first ∙ ap (joint_outcome (Ok (part content w))) rest ∙ ap Ok (part_first content w n (omega (arith, h)))
