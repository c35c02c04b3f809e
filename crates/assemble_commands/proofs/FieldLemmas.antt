-- Digests, UUIDs and labels are fields of a partition table.
use Rattle.std.proofs.Common.{◌≡◌, ◌∙◌, ◌+◌, ◌-◌, ◌*◌, ◌/◌, ◌%◌, ◌^◌, ◌<◌, ◌≤◌, ℕ, zero, suc, List, [], ◌∷◌, ◌++◌, ap, arith, drop, length, refl, replicate, take}
use Rattle.std.specs.Prelude.{slice_index, slice_set}
use Rattle.std.specs.Int.{byte_at, bytes_high_first, to_be_bytes, w32}
use Rattle.std.proofs.lemmas.List.{length-append, length-drop, length-replicate, length-set, length-take-le}
use Rattle.std.proofs.lemmas.List.Elements.{All-append, All-cons, All-drop, All-from_recursion, All-nil, All-replicate, All-set, All-take}
use Rattle.std.proofs.lemmas.Nat.{mod_below}
use Rattle.sha2.proofs.Facts256.{length-sha256}
use Rattle.sha2.specs.Sha256.{digest_bytes, sha256}
use Rattle.tree_shape.specs.Digests.{digest}
use Rattle.uuid.specs.Parts.{with_variant, with_version}
use Rattle.uuid.specs.declared.Variant.TheVariants.{RFC4122}
use Rattle.uuid.specs.declared.Version.TheVariants.{Custom}
use Rattle.disk_layout.specs.Written.{AreBytes, IsField}
use Rattle.assemble_commands.specs.Identifiers.{identifier}
use Rattle.assemble_commands.specs.Plans.{data_label, hash_label, label_of, parity_kind, parity_label}

-- ---- digests

byte_at-small : (i n : ℕ) → byte_at i n < 256
byte_at-small zero n = mod_below n 256 (omega arith)
byte_at-small (suc i) n = mod_below (n / 256 ^ suc i) 256 (omega arith)

high-bytes : (k n : ℕ) → AreBytes (bytes_high_first k n)
high-bytes zero n = All-nil (λ b. b < 256)
high-bytes (suc k) n = All-cons (λ b. b < 256) (byte_at k n) (bytes_high_first k n) (byte_at-small k n) (high-bytes k n)

words-bytes : (words : List ℕ) (n : ℕ) → AreBytes (digest_bytes words n)
unfolding digest_bytes
words-bytes words zero = All-nil (λ b. b < 256)
words-bytes words (suc n) = All-append (λ b. b < 256) (digest_bytes words n) (to_be_bytes w32 (slice_index words n)) (words-bytes words n) (high-bytes 4 (slice_index words n))

pub digest-field : (salt block : List ℕ) → IsField 32 (digest salt block)
unfolding digest sha256
digest-field salt block = (length-sha256 (salt ++ block), words-bytes _ 8)

-- ---- UUIDs

pub first-half : (root : List ℕ) → IsField 32 root → IsField 16 (take 16 root)
first-half root is = (length-take-le 16 root (omega (arith, is.0)), All-take (λ b. b < 256) 16 root is.1)

pub last-half : (root : List ℕ) → IsField 32 root → IsField 16 (drop 16 root)
last-half root is = (omega (arith, is.0, length-drop 16 root), All-drop (λ b. b < 256) 16 root is.1)

set-field : (n i byte : ℕ) (bytes : List ℕ) → byte < 256 → IsField n bytes → IsField n (slice_set bytes i byte)
set-field n i byte bytes small is = (length-set bytes i byte ∙ is.0, All-set (λ b. b < 256) bytes i byte small is.1)

pub identifier-field : (salt name : List ℕ) → IsField 16 (identifier salt name)
unfolding identifier
identifier-field salt name =
    let half = take 16 (digest salt name) in
    let varied = with_variant half RFC4122 in
    set-field 16 6 (slice_index varied 6 % 16 + 8 * 16) varied (omega arith)
    (set-field 16 8 (slice_index half 8 % 64 + 128) half (omega arith) (first-half (digest salt name) (digest-field salt name)))

-- ---- labels

label-field : (text : List ℕ) → AreBytes text → length text ≤ 72 → IsField 72 (label_of text)
label-field text bytes short =
    (omega (arith, short, length-append text (replicate (72 - length text) 0), length-replicate {A = ℕ} (72 - length text) 0), All-append (λ b. b < 256) text (replicate (72 - length text) 0) bytes (All-replicate (λ b. b < 256) (72 - length text) 0 (omega arith)))

pub data-field : IsField 72 data_label
data-field =
    let text : List ℕ = 100 ∷ 0 ∷ 97 ∷ 0 ∷ 116 ∷ 0 ∷ 97 ∷ 0 ∷ [] in
    label-field text (All-from_recursion (λ b. b < 256) text (omega arith, (omega arith, (omega arith, (omega arith, (omega arith, (omega arith, (omega arith, (omega arith, tt))))))))) (omega arith)

pub hash-field : IsField 72 hash_label
hash-field =
    let text : List ℕ = 104 ∷ 0 ∷ 97 ∷ 0 ∷ 115 ∷ 0 ∷ 104 ∷ 0 ∷ [] in
    label-field text (All-from_recursion (λ b. b < 256) text (omega arith, (omega arith, (omega arith, (omega arith, (omega arith, (omega arith, (omega arith, (omega arith, tt))))))))) (omega arith)

pub parity-field : IsField 72 parity_label
parity-field =
    let text : List ℕ = 112 ∷ 0 ∷ 97 ∷ 0 ∷ 114 ∷ 0 ∷ 105 ∷ 0 ∷ 116 ∷ 0 ∷ 121 ∷ 0 ∷ [] in
    label-field text (All-from_recursion (λ b. b < 256) text (omega arith, (omega arith, (omega arith, (omega arith, (omega arith, (omega arith, (omega arith, (omega arith, (omega arith, (omega arith, (omega arith, (omega arith, tt))))))))))))) (omega arith)

pub parity-kind : IsField 16 parity_kind
parity-kind = (refl, All-from_recursion (λ b. b < 256) parity_kind (omega arith, (omega arith, (omega arith, (omega arith, (omega arith, (omega arith, (omega arith, (omega arith, (omega arith, (omega arith, (omega arith, (omega arith, (omega arith, (omega arith, (omega arith, (omega arith, tt)))))))))))))))))
