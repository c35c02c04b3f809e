-- A device that is striped over its own stripes means what the device does from which they are taken, and a stripe
-- that is taken out of a striped device means what its base does.
use Rattle.std.proofs.Common.{◌≡◌, ◌+◌, ◌-◌, ◌*◌, ◌/◌, ◌%◌, ◌<◌, ◌≤◌, ℕ, zero, suc, List, [], ◌∷◌, length, get_or, Option, Some, refl, ap, ◌∙◌, arith}
use Rattle.std.specs.Prelude.{slice_get, option_map, option_and_then}
use Rattle.std.proofs.lemmas.Bool.{eqb-true, not-false}
use Rattle.std.proofs.lemmas.Nat.{div-add-mod', div_below, mod_below, row_fits}
use Rattle.std.proofs.lemmas.Option.{slice_get-get_or, slice_get_within}
use Rattle.std.proofs.Math.Nat.{mul_comm, mul_assoc}
use Rattle.dm_table.specs.declared.table.Base.{Base}
use Rattle.dm_table.specs.declared.table.Line.{Line}
use Rattle.dm_table.specs.declared.table.Target.{Target}
use Rattle.dm_table.specs.declared.table.Target.TheVariants.{Striped, Unstriped as unstriped_target}
use Rattle.dm_table.specs.declared.unstriped.Unstriped.{Unstriped}
use Rattle.stack_rules.specs.declared.lower.Lower.{Lower}
use Rattle.stack_rules.specs.Records.{Configuration}
use Rattle.stack_rules.specs.Names.{mapped, named, lines_of}
use Rattle.stack_rules.specs.Descend.{known}
use Rattle.stack_rules.specs.Lines.{line_in}
use Rattle.stack_rules.specs.Rules.{IsValid}
use Rattle.stack_rules.specs.targets.Unstriped.{striped_sector}
use Rattle.stack_rules.proofs.lemmas.targets.Stripes.{stripe_of, striped-over-stripes, stripe-of-striped}
use Rattle.stack_meaning.specs.Beneath.{on_base, beneath}
use Rattle.stack_meaning.specs.Meaning.{Said, none_said, line_said, said_at, said_by_name}
use Rattle.stack_meaning.proofs.lemmas.LineLemmas.{here}
use Rattle.stack_meaning.proofs.lemmas.LoadedLemmas.{line-divided}
use Rattle.stack_meaning.proofs.lemmas.SectorLemmas.{said_at-line, line_said-beneath}

abbrev pub one_line : ℕ → Target → Line
one_line sectors target = record { start = 0; length = sectors; target = target }

-- the name is that of a mapped device of one line, which has so many sectors
pub record IsOneLine (c : Configuration) (name : List ℕ) (sectors : ℕ) (target : Target) : Type 0 where
  pub place : ℕ
  pub is : named c name ≡ Some (mapped place)
  pub table : lines_of c place ≡ one_line sectors target ∷ []

-- each of the bases is a device of so many sectors, from its first one on: a stripe of what begins at that base
abbrev pub AreStripes : Configuration → ℕ → List Base → Base → ℕ → Type 0
AreStripes c chunk bases whole sectors =
    (i : ℕ) (base : Base) → slice_get bases i ≡ Some base → (base.offset ≡ 0) × IsOneLine c base.device sectors (unstriped_target (stripe_of (length bases) chunk i whole))

positive : (n sectors s : ℕ) → s < n * sectors → 0 < n
positive zero sectors s inside = let none : 0 * sectors ≡ 0 = omega arith in absurd (omega (arith, inside, none))
positive (suc n) sectors s inside = omega arith

-- the place of a sector on its stripe is a sector of that stripe
stripe_inside : (s n chunk sectors : ℕ) → 1 ≤ chunk → 0 < n → sectors % chunk ≡ 0 → s < n * sectors → s / chunk / n * chunk + s % chunk < sectors
stripe_inside s n chunk sectors some some_n whole inside =
    let m : ℕ = sectors / chunk in
    let all : m * chunk ≡ sectors = omega (arith, div-add-mod' sectors chunk, whole) in
    let turned : m * n * chunk ≡ n * sectors = ap (λ (x : ℕ). x * chunk) (mul_comm m n) ∙ mul_assoc n m chunk ∙ ap (λ (x : ℕ). n * x) all in
    let chunks : s / chunk < m * n = div_below s chunk (m * n) some (omega (arith, turned, inside)) in
    let row : s / chunk / n < m = div_below (s / chunk) n m some_n chunks in
    omega (arith, all, row_fits (s / chunk / n) chunk m chunk row (omega arith), mod_below s chunk some)

module _ (c : Configuration) (valid : IsValid c) where
  -- what is said of a device of one line is said by the line
  said-one_line : (name : List ℕ) (sectors : ℕ) (target : Target) (one : IsOneLine c name sectors target) (t : ℕ) → t < sectors → said_by_name c name t ≡ line_said (said_by_name c) one.place 0 target t
  said-one_line name sectors target one t inside =
      let line : Line = one_line sectors target in
      let found : line_in (lines_of c one.place) t ≡ Some (0, line) = ap (λ (lines : List Line). line_in lines t) one.table ∙ here 0 line [] t (omega (arith, inside)) in
      let there : t ≡ t + 0 = omega arith in
      let back : t - 0 + 0 ≡ t = omega arith in
      ap (λ (o : Option Lower). known {A = ℕ → Said} (λ t. none_said) (said_at c) o t) one.is
      ∙ ap (said_at c (mapped one.place)) there
      ∙ said_at-line c valid one.place t 0 0 line found (omega arith) (omega (arith, inside))
      ∙ ap (line_said (said_by_name c) one.place 0 target) back

  -- What the striped line says of sector s is what is said of sector s of the whole.
  pub said-striped-over-stripes : (chunk : ℕ) (bases : List Base) (whole : Base) (sectors d l s : ℕ) → 1 ≤ chunk → AreStripes c chunk bases whole sectors → s < length bases * sectors
      → line_said (said_by_name c) d l (Striped chunk bases) s ≡ said_by_name c whole.device (whole.offset + s)
  said-striped-over-stripes chunk bases whole sectors d l s some stripes inside =
      let n : ℕ = length bases in
      let some_n : 0 < n = positive n sectors s inside in
      let i : ℕ = s / chunk % n in
      let t : ℕ = s / chunk / n * chunk + s % chunk in
      let base : Base = get_or bases i whole in
      let at : slice_get bases i ≡ Some base = slice_get-get_or bases i whole (mod_below (s / chunk) n some_n) in
      let stripe : (base.offset ≡ 0) × IsOneLine c base.device sectors (unstriped_target (stripe_of n chunk i whole)) = stripes i base at in
      let line : Unstriped = stripe_of n chunk i whole in
      let one : IsOneLine c base.device sectors (unstriped_target line) = stripe.1 in
      let divided = line-divided c one.place 0 (one_line sectors (unstriped_target line)) valid (ap (λ (lines : List Line). slice_get lines 0) one.table) in
      let low : t < sectors = stripe_inside s n chunk sectors some some_n (eqb-true (sectors % chunk) 0 (not-false _ divided)) inside in
      let on_stripe : beneath (Striped chunk bases) s ≡ Some (base.device, base.offset + t) = ap (option_map (λ (b : Base). (b.device, b.offset + t))) at in
      let on_whole : beneath (unstriped_target line) t ≡ Some (whole.device, whole.offset + s) = ap (option_and_then (on_base (whole ∷ []))) (striped-over-stripes chunk bases whole s (i, t) some refl) in
      line_said-beneath (said_by_name c) d l (Striped chunk bases) s (base.device, base.offset + t) tt on_stripe
      ∙ ap (said_by_name c base.device) (omega (arith, stripe.0))
      ∙ said-one_line base.device sectors (unstriped_target line) one t low
      ∙ line_said-beneath (said_by_name c) one.place 0 (unstriped_target line) t (whole.device, whole.offset + s) tt on_whole

  -- What the line of stripe i of a striped device says of sector t is what is said of sector t of the i-th base.
  pub said-stripe-of-striped : (chunk : ℕ) (bases : List Base) (name : List ℕ) (sectors d l i t : ℕ) (base : Base) → 1 ≤ chunk → IsOneLine c name sectors (Striped chunk bases) → slice_get bases i ≡ Some base
      → striped_sector (stripe_of (length bases) chunk i (record { device = name; offset = 0 })) t < sectors
      → line_said (said_by_name c) d l (unstriped_target (stripe_of (length bases) chunk i (record { device = name; offset = 0 }))) t ≡ said_by_name c base.device (base.offset + t)
  said-stripe-of-striped chunk bases name sectors d l i t base some one at inside =
      let n : ℕ = length bases in
      let whole : Base = record { device = name; offset = 0 } in
      let line : Unstriped = stripe_of n chunk i whole in
      let s : ℕ = striped_sector line t in
      let begins : 0 + s ≡ s = omega arith in
      let lies = stripe-of-striped chunk bases whole i t (0, s) some (slice_get_within bases i base at) refl in
      let on_base_i : beneath (Striped chunk bases) s ≡ Some (base.device, base.offset + t) =
      ap (option_and_then (on_base bases)) lies ∙ ap (option_map (λ (b : Base). (b.device, b.offset + t))) at in
      line_said-beneath (said_by_name c) d l (unstriped_target line) t (name, 0 + s) tt refl
      ∙ ap (said_by_name c name) begins
      ∙ said-one_line name sectors (Striped chunk bases) one s inside
      ∙ line_said-beneath (said_by_name c) one.place 0 (Striped chunk bases) s (base.device, base.offset + t) tt on_base_i
