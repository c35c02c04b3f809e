-- What a pass leaves for the next one.
use Rattle.std.proofs.Common.{◌≡◌, ℕ, ◌<◌, ◌≤◌, Bool, List, length, sym, ap, ◌∙◌, subst, Option}
use Rattle.block_device.specs.Device.{Device}
use Rattle.rescue_map.specs.declared.map.Run.{Run}
use Rattle.rescue_map.specs.Maps.{marks}
use Rattle.stack_rules.specs.Names.{mapped, size}
use Rattle.stack_rules.specs.Records.{Configuration}
use Rattle.stack_recovery.specs.PassPieces.{scanned}
use Rattle.scan_commands.specs.declared.passing.Passing.{Passing}
use Rattle.scan_commands.specs.MapFiles.{MapPathRecord}
use Rattle.scan_commands.specs.Passes.{CanPass, LeavesPassing}
use Rattle.scan_commands.specs.Turns.{Kept, Replaces, kept}

-- ---- the device of a pass

pub can-after : {D O : Type 0} (state : O → Device) (old new : Passing D O) (runs : List Run) → LeavesPassing state old new runs → CanPass state old → CanPass state new
can-after state old new runs left can = record {
  device = subst (λ (n : ℕ). n < length new.stack.config.devices) (sym left.device) (subst (λ (x : Configuration). old.device.0 < length x.devices) (sym left.config) can.device);
  room = subst (λ (n : ℕ). size new.stack.config (mapped n) ≤ (state new.out).size) (sym left.device)
      (subst (λ (x : Configuration). size x (mapped old.device.0) ≤ (state new.out).size) (sym left.config)
      (subst (λ (m : ℕ). size old.stack.config (mapped old.device.0) ≤ m) (sym left.same_size) can.room));
  allowed = left.allowed;
}

pub fits-after : {D O : Type 0} (state : O → Device) (old new : Passing D O) (runs : List Run) → LeavesPassing state old new runs → length (marks runs) ≡ size new.stack.config (mapped new.device.0)
fits-after state old new runs left =
    left.map ∙ ap (λ (x : Configuration). size x (mapped old.device.0)) (sym left.config) ∙ ap (λ (n : ℕ). size new.stack.config (mapped n)) (sym left.device)

-- what holds of a device, by equal arguments
pub kept-as : {S : Type 0} (replaces : Replaces S) (file file' : Option MapPathRecord) (d e : ℕ) (a b : Bool) (x y : Configuration) (m n : ℕ) (P : Kept S → ℕ → Type 0) → file' ≡ file → d ≡ e → a ≡ b → x ≡ y → m ≡ n
    → P (kept replaces file' (scanned d a) (size x (mapped d))) m → P (kept replaces file (scanned e b) (size y (mapped e))) n
kept-as replaces file file' d e a b x y m n P is device scrape config retries p =
    subst (λ (f : Option MapPathRecord). P (kept replaces f (scanned e b) (size y (mapped e))) n) is
    (subst (λ (i : ℕ). P (kept replaces file' (scanned e b) (size y (mapped e))) i) retries
    (subst (λ (c : Configuration). P (kept replaces file' (scanned e b) (size c (mapped e))) m) config
    (subst (λ (s : Bool). P (kept replaces file' (scanned e s) (size x (mapped e))) m) scrape
    (subst (λ (i : ℕ). P (kept replaces file' (scanned i a) (size x (mapped i))) m) device p))))
