-- Lines that are written one after another.
use Rattle.std.proofs.Common.{◌≡◌, ℕ, List, [], ◌++◌, Option, Some, None, sym, ap, ◌∙◌}
use Rattle.std.specs.Io.KnownBytes.{Appends}
use Rattle.std.proofs.lemmas.List.{append-nil, append_assoc}

pub writes_nothing : (known : Option (List ℕ)) → Appends known known []
writes_nothing None = tt
writes_nothing (Some xs) = sym (append-nil xs)

pub writes-then : (a b c : Option (List ℕ)) (xs ys : List ℕ) → Appends a b xs → Appends b c ys → Appends a c (xs ++ ys)
writes-then None b c xs ys p q = tt
writes-then (Some a) None c xs ys p q = absurd p
writes-then (Some a) (Some b) None xs ys p q = absurd q
writes-then (Some a) (Some b) (Some c) xs ys p q = q ∙ ap (λ (l : List ℕ). l ++ ys) p ∙ append_assoc a xs ys
