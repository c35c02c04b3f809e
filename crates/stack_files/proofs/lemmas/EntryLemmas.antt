-- A text that grows by parts, one after the other.
use Rattle.std.proofs.Common.{◌≡◌, ◌++◌, ◌∙◌, ℕ, List, ap, append_assoc}

pub append-three : (t t1 t2 t3 a b m : List ℕ) → t1 ≡ t ++ a → t2 ≡ t1 ++ b → t3 ≡ t2 ++ m → t3 ≡ t ++ (a ++ (b ++ m))
append-three t t1 t2 t3 a b m e1 e2 e3 =
    e3 ∙ ap (λ (l : List ℕ). l ++ m) (e2 ∙ ap (λ (l : List ℕ). l ++ b) e1) ∙ append_assoc (t ++ a) b m ∙ append_assoc t a (b ++ m)

pub append-four : (t t1 t2 t3 t4 a b m n : List ℕ) → t1 ≡ t ++ a → t2 ≡ t1 ++ b → t3 ≡ t2 ++ m → t4 ≡ t3 ++ n → t4 ≡ t ++ (a ++ (b ++ (m ++ n)))
append-four t t1 t2 t3 t4 a b m n e1 e2 e3 e4 =
    append-three (t ++ a) t2 t3 t4 b m n (e2 ∙ ap (λ (l : List ℕ). l ++ b) e1) e3 e4 ∙ append_assoc t a (b ++ (m ++ n))
