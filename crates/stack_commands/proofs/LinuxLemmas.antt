-- Stacks that Linux wouldn't take.
use Rattle.std.proofs.Common.{◌≡◌, ◌⊎◌, inl, inr, refl, Bool, true, false, Ok, Err}
use Rattle.linux_rules.specs.declared.refusal.LinuxFault.{LinuxFault}
use Rattle.linux_rules.specs.declared.refusal.LinuxFault.TheVariants.{Refused, NoMemory as refused_memory}
use Rattle.stack_rules.specs.Records.{Configuration}
use Rattle.stack_commands.specs.Endings.{linux_ending}
use Rattle.stack_commands.specs.StackCommands.{IsCheckedIf, IsLinuxEnd, IsTaken}

-- why the check ended the command
pub linux-end : (linux : Bool) (config : Configuration) (fault : LinuxFault) → IsCheckedIf linux config (Err fault) → IsLinuxEnd linux config (linux_ending fault)
linux-end true config (Refused refusal) checked = (refl, checked)
linux-end true config refused_memory checked = (refl, checked)
linux-end false config fault checked = let clash : Err fault ≡ Ok tt = checked in cc

-- it found nothing
pub linux-taken : (linux : Bool) (config : Configuration) (done : Unit {0}) → IsCheckedIf linux config (Ok done) → IsTaken linux config
linux-taken true config done checked = checked
linux-taken false config done checked = tt

-- ends of what follows it
pub late-end : {A B C T : Type 0} → T → A ⊎ C → (T × A) ⊎ (B ⊎ C)
late-end taken (inl a) = inl (taken, a)
late-end taken (inr c) = inr (inr c)
