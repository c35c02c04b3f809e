-- Zeros with the rest of their first and last sector, as bytes.
use Rattle.std.proofs.Common.{◌≡◌, ◌≤◌, ℕ, ◌+◌, ◌-◌, List, [], ◌++◌, length, drop, replicate, ap, sym, ◌∙◌, append_assoc, append-nil, arith}
use Rattle.std.proofs.lemmas.List.{drop-replicate, length-append, length-replicate, take-append-drop, take-replicate}

pub length-zeros : (before behind : List ℕ) (n : ℕ) → length (before ++ (replicate n 0 ++ behind)) ≡ length before + (n + length behind)
length-zeros before behind n = omega (arith, length-append before (replicate n 0 ++ behind), length-append {A = ℕ} (replicate n 0) behind, length-replicate {A = ℕ} n 0)

-- the first of them, and the others
pub zeros-split : (before behind : List ℕ) (m n : ℕ) → m ≤ n → before ++ (replicate n 0 ++ behind) ≡ (before ++ (replicate m 0 ++ [])) ++ ([] ++ (replicate (n - m) 0 ++ behind))
zeros-split before behind m n few =
    let halves : replicate n 0 ≡ replicate m 0 ++ replicate (n - m) 0 =
    sym (take-append-drop m (replicate n 0)) ∙ ap (λ l. l ++ drop m (replicate n 0)) (take-replicate m n 0 few) ∙ ap (λ l. replicate m 0 ++ l) (drop-replicate m n 0) in
    ap (λ l. before ++ (l ++ behind)) halves
    ∙ ap (λ l. before ++ l) (append_assoc (replicate m 0) (replicate (n - m) 0) behind)
    ∙ sym (append_assoc before (replicate m 0) (replicate (n - m) 0 ++ behind))
    ∙ ap (λ l. (before ++ l) ++ (replicate (n - m) 0 ++ behind)) (sym (append-nil (replicate m 0)))
