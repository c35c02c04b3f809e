-- From the check of a load to the loaded configuration.
use Rattle.std.proofs.Common.{◌≡◌, ◌≤◌, List, Option, Some, None, All, length, get_or, sym, subst}
use Rattle.std.proofs.lemmas.Option.{slice_get-get_or}
use Rattle.dm_table.specs.declared.stack.Entry.{Entry}
use Rattle.dm_table.specs.StackText.{IsStackOfGrammar}
use Rattle.stack_config.specs.declared.facts.Facts.{Facts}
use Rattle.stack_loader.specs.declared.check.Next.{Next}
use Rattle.stack_rules.specs.declared.refusal.LoadFault.{LoadFault}
use Rattle.stack_rules.specs.declared.refusal.LoadFault.TheVariants.{Refused}
use Rattle.stack_rules.specs.declared.refusal.Refusal.{Refusal}
use Rattle.stack_rules.specs.Records.{Configuration, DeviceRecord, LeafRecord, configuration}
use Rattle.stack_config.specs.Facts.{AreFacts, IsLoadedWith}
use Rattle.stack_loader.specs.Next.{IsNext}
use Rattle.stack_rules.specs.Passing.{IsFirst}
use Rattle.stack_rules.specs.Descend.{most_devices}
use Rattle.stack_rules.specs.Rules.{first, rules, after_load, most_lines, IsLoaded, IsValid}
use Rattle.stack_rules.proofs.lemmas.ValidLineLemmas.{few, few_lines}
use Rattle.stack_loader.proofs.AfterLoadLemmas.{loaded-after}

pub moved : (P : Configuration → List Entry → Type 0) (l m : List LeafRecord) (d e : List DeviceRecord) (t u : List Entry) → l ≡ m → d ≡ e → t ≡ u → P (configuration l d) t → P (configuration m e) u
moved P l m d e t u same-leaves same-devices same-text h =
    let A : List LeafRecord → Type 0 = λ l. P (configuration l d) t in
    let B : List DeviceRecord → Type 0 = λ d. P (configuration m d) t in
    let C : List Entry → Type 0 = λ t. P (configuration m e) t in
    subst C same-text (subst B same-devices (subst A same-leaves h))

pub checked-moved : (c : Configuration) (devices now : List DeviceRecord) (facts : Facts) → devices ≡ now → (first (rules (configuration c.leaves devices)) ≡ None) × AreFacts (configuration c.leaves devices) facts
    → (first (rules (configuration c.leaves now)) ≡ None) × AreFacts (configuration c.leaves now) facts
checked-moved c devices now facts same h =
    let P : List DeviceRecord → Type 0 = λ ds. (first (rules (configuration c.leaves ds)) ≡ None) × AreFacts (configuration c.leaves ds) facts in subst P same h

pub fault-moved : (c : Configuration) (devices now : List DeviceRecord) (fault : LoadFault) → devices ≡ now → IsFirst fault (rules (configuration c.leaves devices)) → IsFirst fault (rules (configuration c.leaves now))
fault-moved c devices now fault same h = let P : List DeviceRecord → Type 0 = λ ds. IsFirst fault (rules (configuration c.leaves ds)) in subst P same h

pub kept-next : (c : Configuration) (text : List Entry) (next : Next) → IsLoaded c → IsStackOfGrammar text → IsNext c text next → IsLoadedWith (configuration c.leaves next.devices.items) next.facts
kept-next c text next loaded grammar is =
    let P : List DeviceRecord → Type 0 = λ ds. IsLoadedWith (configuration c.leaves ds) next.facts in
    let kept : IsLoadedWith (after_load c text) next.facts = record { loaded = loaded-after c text loaded grammar is.fresh is.valid; facts = is.facts } in
    subst P (sym is.devices) kept

pub refused-first : (fault : LoadFault) (rules : List (Option Refusal)) (r : Refusal) → fault ≡ Refused r → IsFirst fault rules → first rules ≡ Some r
refused-first fault rules r is h = let P : LoadFault → Type 0 = λ fault. IsFirst fault rules in subst P is h

-- no rule refuses so many devices, and so many lines in each
pub few-checked : (leaves : List LeafRecord) (devices : List DeviceRecord) → first (rules (configuration leaves devices)) ≡ None → length devices ≤ most_devices
unfolding IsValid
few-checked leaves devices valid = few (configuration leaves devices) valid

pub lines-checked : (leaves : List LeafRecord) (devices : List DeviceRecord) → first (rules (configuration leaves devices)) ≡ None → All (λ d. length d.table ≤ most_lines) devices
unfolding IsValid
lines-checked leaves devices valid = λ k d low. few_lines (configuration leaves devices) valid k (get_or devices k d) (slice_get-get_or devices k d low)
