-- The JSON areas of LUKS2 headers.
use Rattle.std.proofs.Common.{◌≡◌, ◌∙◌, ℕ, suc, ◌+◌, ◌-◌, ◌/◌, ◌<◌, ◌≤◌, ◌==◌, ◌&&◌, Bool, true, false, not, cond, nat_le, List, [], ◌∷◌, ◌++◌, length, take, drop, get_or, drop-cons, inl, inr, refl, ap, sym, subst, subst₂, arith}
use Rattle.std.specs.Int.{is_power_of_two}
use Rattle.std.specs.List.{prefix_len}
use Rattle.std.proofs.lemmas.Bool.{and_parts}
use Rattle.std.proofs.lemmas.Bool.Decides.{nat_tests}
use Rattle.std.proofs.lemmas.List.{map-append, take-append-drop, take_more}
use Rattle.block_device.specs.Device.{Device}
use Rattle.partition_table.specs.Labels.{before_zero}
use Rattle.serde_json.specs.Data.{Data}
use Rattle.find_commands.specs.declared.finding.Finding.{Finding}
use Rattle.find_commands.specs.declared.area.AreaFault.{AreaFault}
use Rattle.find_commands.specs.declared.area.AreaFault.TheVariants.{Device as DeviceFailed, NoMemory}
use Rattle.find_commands.specs.Areas.{FindsEach, FindsSegments, MissesArea, SeeksSegments, SeeksSome, StatesFindings, TriesArea, TriesNext, TriesSegments}
use Rattle.find_commands.specs.Luks.{area_first, area_sectors, fits_header, has_area, is_header_size}
use Rattle.find_commands.specs.Objects.{finding_json, shown_json}

-- ---- where an area is

at_most : (m n : ℕ) → nat_le m n ≡ true → m ≤ n
at_most m n h = grind (arith, nat_tests)

pub header-sizes : (size : ℕ) → is_header_size size ≡ true → (16384 ≤ size) × (size ≤ 4194304)
unfolding is_header_size
header-sizes size h =
    let sizes = and_parts (is_power_of_two size) (nat_le 16384 size && nat_le size 4194304) h in
    let bounds = and_parts (nat_le 16384 size) (nat_le size 4194304) sizes.1 in
    (at_most 16384 size bounds.0, at_most size 4194304 bounds.1)

-- an area isn't empty, and ends on the disk
pub area-fits : (sectors first size : ℕ) → fits_header sectors first size ≡ true → (0 < size / 512 - 8) × (size / 512 - 8 ≤ 8192) × (first + 8 + (size / 512 - 8) ≤ sectors)
area-fits sectors first size h =
    let parts = and_parts (is_header_size size) (nat_le (size / 512) sectors && nat_le first (sectors - size / 512)) h in
    let ends = and_parts (nat_le (size / 512) sectors) (nat_le first (sectors - size / 512)) parts.1 in
    let sizes = header-sizes size parts.0 in
    let inside : size / 512 ≤ sectors = at_most (size / 512) sectors ends.0 in
    let begins : first ≤ sectors - size / 512 = at_most first (sectors - size / 512) ends.1 in
    (omega (arith, sizes.0), omega (arith, sizes.1), omega (arith, sizes.0, inside, begins))

pub segments-sought : {D : Type 0} (state : D → Device) (f : Finding) (old new : D) (segments : Data) (sectors first count : ℕ) → sectors ≡ (state old).size → first ≡ area_first f → count ≡ area_sectors f
    → has_area sectors f ≡ true → SeeksSegments state first count old new segments → FindsSegments state f old new segments
segments-sought state f old new segments sectors first count size first_is count_is has seeks =
    inr (subst (λ (n : ℕ). has_area n f ≡ true) size has, subst₂ (λ (a n : ℕ). SeeksSegments state a n old new segments) first_is count_is seeks)

-- an area was read, or it wasn't
pub area-missed : {D : Type 0} (state : D → Device) (first count : ℕ) (old new : D) (fault : AreaFault) → MissesArea state first count old new fault → TriesArea state first count old new
area-missed state first count old new DeviceFailed misses = inr (false, misses)
area-missed state first count old new NoMemory same = inl same

pub segments-tried : {D : Type 0} (state : D → Device) (f : Finding) (old new : D) (sectors first count : ℕ) → sectors ≡ (state old).size → first ≡ area_first f → count ≡ area_sectors f
    → has_area sectors f ≡ true → TriesArea state first count old new → TriesSegments state f old new
segments-tried state f old new sectors first count size first_is count_is has tries =
    inr (subst (λ (n : ℕ). has_area n f ≡ true) size has, subst₂ (λ (a n : ℕ). TriesArea state a n old new) first_is count_is tries)

-- ---- the text of an area

-- how many of the bytes after the first one come before a zero
abbrev after_first : List ℕ → ℕ
after_first rest = 1 + prefix_len (λ v. not (v == 0)) rest

-- a zero ends the text
before_zero-zero : (u : ℕ) (rest : List ℕ) → (u == 0) ≡ true → before_zero (u ∷ rest) ≡ []
before_zero-zero u rest is = ap (λ (b : Bool). take (cond (not b) (after_first rest) 0) (u ∷ rest)) is

-- another byte doesn't
before_zero-more : (u : ℕ) (rest : List ℕ) → (u == 0) ≡ false → before_zero (u ∷ rest) ≡ u ∷ before_zero rest
before_zero-more u rest is =
    let next : after_first rest ≡ suc (prefix_len (λ v. not (v == 0)) rest) = omega arith in
    ap (λ (b : Bool). take (cond (not b) (after_first rest) 0) (u ∷ rest)) is ∙ ap (λ (n : ℕ). take n (u ∷ rest)) next

module _ (bytes : List ℕ) (i : ℕ) where
  left : i < length bytes → drop i bytes ≡ get_or bytes i 0 ∷ drop (i + 1) bytes
  left within =
      let next : suc i ≡ i + 1 = omega arith in
      drop-cons bytes i 0 within ∙ ap (λ (n : ℕ). get_or bytes i 0 ∷ drop n bytes) next

  -- a zero at an index ends the text there
  pub left-zero : i < length bytes → (get_or bytes i 0 == 0) ≡ true → before_zero (drop i bytes) ≡ []
  left-zero within is = ap before_zero (left within) ∙ before_zero-zero (get_or bytes i 0) (drop (i + 1) bytes) is

  pub left-more : i < length bytes → (get_or bytes i 0 == 0) ≡ false → before_zero (drop i bytes) ≡ get_or bytes i 0 ∷ before_zero (drop (i + 1) bytes)
  left-more within is = ap before_zero (left within) ∙ before_zero-more (get_or bytes i 0) (drop (i + 1) bytes) is

-- ---- one thing after another

finds-last : {D : Type 0} (state : D → Device) (shown : List (Finding × Data)) (f : Finding) (segments : Data) (old mid new : D) → FindsEach state old shown mid → FindsSegments state f mid new segments
    → FindsEach state old (shown ++ (f, segments) ∷ []) new
finds-last {D} state [] f segments old mid new same last = (new, subst (λ (d : D). FindsSegments state f d new segments) same last, refl)
finds-last state (s ∷ more) f segments old mid new h last = (h.0, h.1, finds-last state more f segments h.0 mid new h.2 last)

pub states-none : {D : Type 0} (state : D → Device) (old : D) (values : List Data) → values ≡ [] → StatesFindings state old [] old values
states-none state old values none = record { shown = []; are = refl; finds = refl; values_are = none }

pub states-next : {D : Type 0} (state : D → Device) (found : List Finding) (i : ℕ) (f : Finding) (old mid new : D) (values values' : List Data) (segments : Data) → i < length found
    → StatesFindings state old (take i found) mid values → FindsSegments state (get_or found i f) mid new segments → values' ≡ values ++ finding_json (get_or found i f) segments ∷ []
    → StatesFindings state old (take (i + 1) found) new values'
states-next state found i f old mid new values values' segments inside s last grows =
    let this : Finding × Data = (get_or found i f, segments) in
    record {
      shown = s.shown ++ this ∷ [];
      are = map-append (λ (x : Finding × Data). x.0) s.shown (this ∷ []) ∙ ap (λ (l : List Finding). l ++ get_or found i f ∷ []) s.are ∙ sym (take_more found i f inside);
      finds = finds-last state s.shown (get_or found i f) segments old mid new s.finds last;
      values_are = grows ∙ ap (λ (l : List Data). l ++ shown_json this ∷ []) s.values_are ∙ sym (map-append shown_json s.shown (this ∷ []));
    }

tries-none : {D : Type 0} (state : D → Device) (rest : List Finding) (d : D) → TriesNext state rest d d
tries-none state [] d = refl
tries-none state (f ∷ more) d = inl refl

-- the things up to some one are the first ones
pub some-first : {D : Type 0} (state : D → Device) (found : List Finding) (i : ℕ) (old new : D) (values : List Data) → StatesFindings state old (take i found) new values → SeeksSome state old found new
some-first state found i old new values s = record {
  shown = s.shown;
  rest = drop i found;
  are = ap (λ (l : List Finding). l ++ drop i found) s.are ∙ take-append-drop i found;
  between = new;
  finds = s.finds;
  next = tries-none state (drop i found) new;
}

pub some-tried : {D : Type 0} (state : D → Device) (found : List Finding) (i : ℕ) (f : Finding) (old mid new : D) (values : List Data) → i < length found → StatesFindings state old (take i found) mid values
    → TriesSegments state (get_or found i f) mid new → SeeksSome state old found new
some-tried state found i f old mid new values inside s tries =
    let left : take i found ++ get_or found i f ∷ drop (suc i) found ≡ found = ap (λ (l : List Finding). take i found ++ l) (sym (drop-cons found i f inside)) ∙ take-append-drop i found in
    record {
      shown = s.shown;
      rest = get_or found i f ∷ drop (suc i) found;
      are = ap (λ (l : List Finding). l ++ get_or found i f ∷ drop (suc i) found) s.are ∙ left;
      between = mid;
      finds = s.finds;
      next = tries;
    }
