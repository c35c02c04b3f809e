-- LUKS2 headers of which a search computes the checksums.
use Rattle.std.proofs.Common.{◌≡◌, ℕ, ◌+◌, ◌-◌, ◌/◌, ◌≤◌, ◌==◌, nat_le, nat_lt, Bool, true, false, List, [], ◌∷◌, ◌++◌, All, length, map, Option, Some, None, option_and_then, if◌then◌else◌, refl, sym, ap, ap₂, subst, ◌∙◌, append_assoc, append-nil, arith, length-append}
use Rattle.std.specs.List.{flat_map}
use Rattle.std.proofs.lemmas.Bool.{false≢true, eqb-true, eqb-false}
use Rattle.std.proofs.lemmas.List.{map-append}
use Rattle.std.proofs.lemmas.List.Concat.{flat_map-append}
use Rattle.std.proofs.lemmas.List.Elements.{All-append, All-cons, All-nil}
use Rattle.find_commands.specs.declared.checksum.Checksum.{Checksum}
use Rattle.find_commands.specs.declared.checksum.Checksum.TheVariants.{Valid, Wrong, Unchecked}
use Rattle.find_commands.specs.declared.finding.Finding.{Finding}
use Rattle.find_commands.specs.declared.kind.Kind.{Kind}
use Rattle.find_commands.specs.Findings.{ReadState, checksum_in, finding, findings_in, found_as, found_at, found_open, found_report, open_from, reports_from, sector_open, sector_report, sectors_back}
use Rattle.find_commands.specs.Headers.{Header, begun, begun_open, begun_report, computed, grown, grown_open, grown_report, interrupted, is_sha256, judged, stated_checksum, whole_open, whole_report, without_checksum}
use Rattle.find_commands.specs.Kinds.{is_luks2}
use Rattle.find_commands.specs.Laws.{IsSound, IsSoundIfValid, ValidHeadersAreSound, WereRead}
use Rattle.find_commands.specs.Luks.{is_header_size, stated_size}
use Rattle.find_commands.specs.Signatures.{kind_at}
use Rattle.find_commands.proofs.AreaLemmas.{header-sizes}

-- what the law states of a finding
abbrev Holds : List ReadState → Finding → Type 0
Holds states f = IsSoundIfValid states f f.checksum

-- a header whose sectors come last of those that were searched
record IsFollowed (before : List ReadState) (h : Header) : Type 0 where
  start : List ReadState
  first : List ℕ
  more : List (List ℕ)
  here : length start ≡ h.finding.sector
  are : before ≡ start ++ map (λ s. Some s) (first ∷ more)
  message : h.message ≡ without_checksum first ++ flat_map (λ s. s) more
  stated : h.stated ≡ stated_checksum first
  left : h.left + length more ≡ stated_size h.finding.size / 512 - 1

abbrev Follows : List ReadState → Option Header → Type 0
Follows before None = Unit {0}
Follows before (Some h) = IsFollowed before h × (1 ≤ h.left)

-- ---- what is reported of one

holds-if : (states : List ReadState) (f : Finding) (c : Checksum) → (c ≡ Valid → IsSound states f) → IsSoundIfValid states f (Some c)
holds-if states f Valid sound = sound refl
holds-if states f Wrong sound = tt
holds-if states f Unchecked sound = tt

holds-one : (states : List ReadState) (f : Finding) → Holds states f → All (Holds states) (f ∷ [])
holds-one states f h = All-cons (Holds states) f [] h (All-nil (Holds states))

interrupted-wrong : (states : List ReadState) (h : Option Header) → All (Holds states) (interrupted Wrong h)
interrupted-wrong states None = All-nil (Holds states)
interrupted-wrong states (Some h) = holds-one states (judged Wrong h.finding) tt

interrupted-unchecked : (states : List ReadState) (h : Option Header) → All (Holds states) (interrupted Unchecked h)
interrupted-unchecked states None = All-nil (Holds states)
interrupted-unchecked states (Some h) = holds-one states (judged Unchecked h.finding) tt

-- all its sectors were read
sound : (states before after : List ReadState) (h : Header) → states ≡ before ++ after → IsFollowed before h → h.left ≡ 0 → (c : Checksum) → computed h.message h.stated ≡ c → c ≡ Valid → IsSound states (judged c h.finding)
sound states before after h all u none c is valid = record {
  first = u.first;
  more = u.more;
  read = record {
    before = u.start;
    after = after;
    here = u.here;
    are = all ∙ ap (λ (l : List ReadState). l ++ after) u.are ∙ append_assoc u.start (map (λ s. Some s) (u.first ∷ u.more)) after;
  };
  whole = omega (arith, u.left, none);
  intact = sym (ap₂ {C = Checksum} (λ (m t : List ℕ). computed m t) u.message u.stated) ∙ is ∙ valid;
}

module _ (states before after : List ReadState) (h : Header) (all : states ≡ before ++ after) (u : IsFollowed before h) where
  report-at : (b : Bool) → (b ≡ true → h.left ≡ 0) → All (Holds states) (if b then judged (computed h.message h.stated) h.finding ∷ [] else [])
  report-at true none =
      holds-one states (judged (computed h.message h.stated) h.finding)
      (holds-if states (judged (computed h.message h.stated) h.finding) (computed h.message h.stated) (sound states before after h all u (none refl) (computed h.message h.stated) refl))
  report-at false none = All-nil (Holds states)

  open-at : (b : Bool) → (b ≡ false → 1 ≤ h.left) → Follows before (if b then None else Some h)
  open-at true some = tt
  open-at false some = (u, some refl)

  whole-reported : All (Holds states) (whole_report h)
  whole-reported = report-at (h.left == 0) (λ e. eqb-true h.left 0 e)

  whole-followed : Follows before (whole_open h)
  whole-followed = open-at (h.left == 0) (λ e. some e)
    where
      some : (h.left == 0) ≡ false → 1 ≤ h.left
      some e = let no : h.left ≡ 0 → ⊥ = eqb-false h.left 0 e in omega (arith, no)

-- ---- one sector more

grown-followed : (before : List ReadState) (h : Header) (s : List ℕ) → IsFollowed before h → 1 ≤ h.left → IsFollowed (before ++ Some s ∷ []) (grown h s)
grown-followed before h s u some = record {
  start = u.start;
  first = u.first;
  more = u.more ++ s ∷ [];
  here = u.here;
  are = ap (λ (l : List ReadState). l ++ Some s ∷ []) u.are ∙ append_assoc u.start (map (λ s. Some s) (u.first ∷ u.more)) (Some s ∷ [])
      ∙ ap (λ (l : List ReadState). u.start ++ (Some u.first ∷ l)) (sym (map-append (λ (x : List ℕ). Some x) u.more (s ∷ [])));
  message = ap (λ (l : List ℕ). l ++ s) u.message ∙ append_assoc (without_checksum u.first) (flat_map (λ s. s) u.more) s
      ∙ ap (λ (l : List ℕ). without_checksum u.first ++ l) (sym (flat_map-append (λ (x : List ℕ). x) u.more (s ∷ []) ∙ ap (λ (l : List ℕ). flat_map (λ s. s) u.more ++ l) (append-nil s)));
  stated = u.stated;
  left = omega (arith, u.left, some, length-append u.more (s ∷ []));
}

begun-followed : (before : List ReadState) (f : Finding) (s : List ℕ) → f.sector ≡ length before → IsFollowed (before ++ Some s ∷ []) (begun f s)
begun-followed before f s here = record {
  start = before;
  first = s;
  more = [];
  here = sym here;
  are = refl;
  message = sym (append-nil (without_checksum s));
  stated = refl;
  left = omega arith;
}

-- ---- what a sector shows

record IsShown (at : ℕ) (f : Finding) : Type 0 where
  sector : f.sector ≡ at
  checksum : f.checksum ≡ checksum_in f.kind

shown-as : (at : ℕ) (s : List ℕ) (kind : Kind) (b : Bool) (f : Finding) → (if b then None else Some (finding at s kind)) ≡ Some f → IsShown at f
shown-as at s kind true f e = cc
shown-as at s kind false f e = let same : finding at s kind ≡ f = cc in subst (IsShown at) same (record { sector = refl; checksum = refl })

shown-by : (at : ℕ) (s : List ℕ) (k : Option Kind) (f : Finding) → option_and_then (found_as at s) k ≡ Some f → IsShown at f
shown-by at s None f e = cc
shown-by at s (Some kind) f e = shown-as at s kind (nat_lt at (sectors_back kind s)) f e

found-shown : (at : ℕ) (s : List ℕ) (f : Finding) → found_at at s ≡ Some f → IsShown at f
unfolding found_at
found-shown at s f e = shown-by at s (kind_at s) f e

-- ---- sector by sector

module _ (states before after : List ReadState) (h : Option Header) (s : List ℕ) (all : states ≡ (before ++ Some s ∷ []) ++ after) (u : Follows before h) where
  grows : (h : Option Header) → Follows before h → All (Holds states) (grown_report h s) × Follows (before ++ Some s ∷ []) (grown_open h s)
  grows None v = (All-nil (Holds states), tt)
  grows (Some x) v =
      let next : IsFollowed (before ++ Some s ∷ []) (grown x s) = grown-followed before x s v.0 v.1 in
      (whole-reported states (before ++ Some s ∷ []) after (grown x s) all next, whole-followed states (before ++ Some s ∷ []) after (grown x s) all next)

  begins : (f : Finding) (size known : Bool) → (size ≡ true → is_header_size (stated_size f.size) ≡ true) → f.sector ≡ length before
      → All (Holds states) (if size then (if known then [] else judged Unchecked f ∷ []) else judged Wrong f ∷ []) × Follows (before ++ Some s ∷ []) (if size then (if known then Some (begun f s) else None) else None)
  begins f true true is here = (All-nil (Holds states), (begun-followed before f s here, omega (arith, (header-sizes (stated_size f.size) (is refl)).0)))
  begins f true false is here = (holds-one states (judged Unchecked f) tt, tt)
  begins f false known is here = (holds-one states (judged Wrong f) tt, tt)

  finds : (f : Finding) (luks : Bool) → is_luks2 f.kind ≡ luks → IsShown (length before) f
      → All (Holds states) (if luks then interrupted Wrong h ++ begun_report f s else grown_report h s ++ f ∷ []) × Follows (before ++ Some s ∷ []) (if luks then begun_open f s else grown_open h s)
  finds f true is shown =
      let start = begins f (is_header_size (stated_size f.size)) (is_sha256 s) (λ e. e) shown.sector in
      (All-append (Holds states) (interrupted Wrong h) (begun_report f s) (interrupted-wrong states h) start.0, start.1)
  finds f false is shown =
      let next = grows h u in
      let none : f.checksum ≡ None = shown.checksum ∙ ap (λ (b : Bool). if b then Some Unchecked else None) is in
      let holds : Holds states f = subst (λ (c : Option Checksum). IsSoundIfValid states f c) (sym none) tt in
      (All-append (Holds states) (grown_report h s) (f ∷ []) next.0 (holds-one states f holds), next.1)

  reads : (o : Option Finding) → ((f : Finding) → o ≡ Some f → IsShown (length before) f) → All (Holds states) (found_report h o s) × Follows (before ++ Some s ∷ []) (found_open h o s)
  reads None shown = grows h u
  reads (Some f) shown = finds f (is_luks2 f.kind) refl (shown f refl)

steps : (states before after : List ReadState) (h : Option Header) (x : ReadState) → states ≡ (before ++ x ∷ []) ++ after → Follows before h
    → All (Holds states) (sector_report h (length before) x) × Follows (before ++ x ∷ []) (sector_open h (length before) x)
steps states before after h None all u = (interrupted-unchecked states h, tt)
steps states before after h (Some s) all u = reads states before after h s all u (found_at (length before) s) (λ f e. found-shown (length before) s f e)

each-sound : (states before : List ReadState) (h : Option Header) (xs : List ReadState) → states ≡ before ++ xs → Follows before h → All (Holds states) (reports_from h (length before) xs)
each-sound states before h [] all u = All-nil (Holds states)
each-sound states before h (x ∷ more) all u =
    let joined : states ≡ (before ++ x ∷ []) ++ more = all ∙ sym (append_assoc before (x ∷ []) more) in
    let step = steps states before more h x joined u in
    let next : Option Header = sector_open h (length before) x in
    let on : length (before ++ x ∷ []) ≡ length before + 1 = length-append before (x ∷ []) in
    All-append (Holds states) (sector_report h (length before) x) (reports_from next (length before + 1) more) step.0
    (subst (λ (n : ℕ). All (Holds states) (reports_from next n more)) on (each-sound states (before ++ x ∷ []) next more joined step.1))

pub all-sound : ValidHeadersAreSound
all-sound states =
    All-append (Holds states) (reports_from None 0 states) (interrupted Unchecked (open_from None 0 states)) (each-sound states [] None states refl tt)
    (interrupted-unchecked states (open_from None 0 states))
