-- A write that is compared first reads and writes at most its own sectors of the inner device.
use Rattle.std.proofs.Common.{◌≡◌, ℕ, ◌+◌, ◌*◌, ◌/◌, ◌≤◌, Bool, List, length, drop, arith}
use Rattle.std.proofs.lemmas.List.{length-take}
use Rattle.block_device.specs.Call.{Call}
use Rattle.block_device.specs.CallList.{all_read, all_written}
use Rattle.block_device.proofs.lemmas.CallLemmas.{all_read-append, all_written-append}
use Rattle.device_adapters.specs.DifferingCalls.{BlockCalls, DifferingBlocks, DifferingWrite, begins, compared_bytes, compared_sectors, goes_on, is_replaced, is_stored, is_unread}

block-few : {first : ℕ} {bytes : List ℕ} {ok : Bool} {calls : List Call} → BlockCalls first bytes ok calls → (all_read calls ≤ length bytes / 512) × (all_written calls ≤ length bytes / 512)
block-few (is_unread read size) = (omega (arith, size), omega arith)
block-few is_stored = (omega arith, omega arith)
block-few (is_replaced read ok size differs) = (omega (arith, size), omega arith)

blocks-few : {first : ℕ} {bytes : List ℕ} {k : ℕ} {ok : Bool} {calls : List Call} → DifferingBlocks first bytes k ok calls → (all_read calls ≤ k) × (all_written calls ≤ k)
blocks-few begins = (omega arith, omega arith)
blocks-few {bytes = bytes} (goes_on {k = k} {calls = calls} {block = block} some h last) =
    let before = blocks-few h in
    let here = block-few last in
    let few : length (compared_bytes bytes k) / 512 ≤ compared_sectors bytes k = omega (arith, length-take (512 * compared_sectors bytes k) (drop (512 * k) bytes)) in
    (omega (arith, all_read-append calls block, before.0, here.0, few), omega (arith, all_written-append calls block, before.1, here.1, few))

blocks-within : {first : ℕ} {bytes : List ℕ} {k : ℕ} {ok : Bool} {calls : List Call} → DifferingBlocks first bytes k ok calls → k ≤ length bytes / 512
blocks-within begins = omega arith
blocks-within (goes_on some h last) = omega (arith, some)

pub write-few : {first : ℕ} {bytes : List ℕ} {ok : Bool} {calls : List Call} → DifferingWrite first bytes ok calls → (all_read calls ≤ length bytes / 512) × (all_written calls ≤ length bytes / 512)
write-few w =
    let few = blocks-few w.blocks in
    let within = blocks-within w.blocks in
    (omega (arith, few.0, within), omega (arith, few.1, within))
