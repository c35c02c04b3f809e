use Rattle.std.proofs.Common.{◌≡◌, ◌∙◌, ◌||◌, Bool, List, [], ◌∷◌, ap, map, refl}
use Rattle.std.specs.List.{list_any}
use Rattle.std.specs.Str.{bytes_eq}
use Rattle.command_line.proofs.disk_types.is_one_of.Goals as goal

list_any-map : {A B : Type 0} (f : A → B) (p : B → Bool) (xs : List A) → list_any (λ x. p (f x)) xs ≡ list_any p (map f xs)
list_any-map f p [] = refl
list_any-map f p (x ∷ xs) = ap (λ more. p (f x) || more) (list_any-map f p xs)

pub returns : goal.returns
returns c = c.has_name.ensures ∙ list_any-map (λ name. name.now) (λ name. bytes_eq name c.args.word.now) c.args.names.now
