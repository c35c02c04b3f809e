-- States by their rows and columns.
use Rattle.std.proofs.Common.{◌≡◌, ℕ, ◌+◌, ◌*◌, ◌/◌, ◌%◌, ◌<◌, List, length, get_or, sym, ◌∙◌, inl, inr, refl, arith}
use Rattle.std.proofs.lemmas.Bool.{cases_lt}
use Rattle.std.proofs.lemmas.List.{get_or_past}
use Rattle.std.proofs.lemmas.List.FromFn.{length-map-range_with_len, get_or-map-range_with_len, fill_by_all}
use Rattle.aes_block.specs.State.{IsBlock, byte_at, state_of}

pub length-state_of : (f : ℕ → ℕ → ℕ) → length (state_of f) ≡ 16
unfolding state_of
length-state_of f = length-map-range_with_len (λ i. f (i % 4) (i / 4)) 0 16

get_or-state_of : (f : ℕ → ℕ → ℕ) (i : ℕ) → i < 16 → get_or (state_of f) i 0 ≡ f (i % 4) (i / 4)
unfolding state_of
get_or-state_of f i h = get_or-map-range_with_len (λ i. f (i % 4) (i / 4)) 0 16 i i 0 h (omega arith)

pub byte_at-state_of : (f : ℕ → ℕ → ℕ) (r c : ℕ) → r < 4 → c < 4 → byte_at (state_of f) r c ≡ f r c
byte_at-state_of f r c hr hc =
    let at = get_or-state_of f (4 * c + r) (omega arith) in
    let row : (4 * c + r) % 4 ≡ r = omega arith in
    let column : (4 * c + r) / 4 ≡ c = omega arith in
    cc (at, row, column)

-- a state is known by its bytes
pub same_state : (s : List ℕ) (f : ℕ → ℕ → ℕ) → length s ≡ 16 → ((r c : ℕ) → r < 4 → c < 4 → byte_at s r c ≡ f r c) → s ≡ state_of f
unfolding state_of
same_state s f len same =
    fill_by_all (λ i. f (i % 4) (i / 4)) s 16 0 len
    (λ k h.
    let at = same (k % 4) (k / 4) (omega arith) (omega arith) in
    let place : 4 * (k / 4) + k % 4 ≡ k = omega arith in
    cc (at, place))

pub state_of-same : (f g : ℕ → ℕ → ℕ) → ((r c : ℕ) → r < 4 → c < 4 → f r c ≡ g r c) → state_of f ≡ state_of g
state_of-same f g same = same_state (state_of f) g (length-state_of f) (λ r c hr hc. byte_at-state_of f r c hr hc ∙ same r c hr hc)

pub state_of-byte_at : (s : List ℕ) → length s ≡ 16 → state_of (byte_at s) ≡ s
state_of-byte_at s len = sym (same_state s (byte_at s) len (λ r c hr hc. refl))

pub IsBlock-state_of : (f : ℕ → ℕ → ℕ) → ((r c : ℕ) → r < 4 → c < 4 → f r c < 256) → IsBlock (state_of f)
IsBlock-state_of f fits = record {
  len = length-state_of f;
  bytes = λ i. elim (cases_lt i 16) [
    | inl h ↦ let at = get_or-state_of f i h in omega (arith, at, fits (i % 4) (i / 4) (omega arith) (omega arith))
    | inr h ↦ let at = get_or_past (state_of f) i 0 (omega (arith, length-state_of f, h)) in omega (arith, at)
  ];
}
