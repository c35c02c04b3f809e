-- Targets whose printed words read back.
use Rattle.std.proofs.Common.{◌≡◌, List, [], ◌∷◌, Ok, refl, ◌∙◌, arith}
use Rattle.dm_table.specs.declared.table.Target.{Target}
use Rattle.dm_table.specs.declared.target_type.TargetType.{TargetType}
use Rattle.dm_table.specs.declared.target_type.TargetType.TheVariants as types
use Rattle.dm_table.specs.Words.{Word}
use Rattle.dm_table.specs.TargetTypes.{type_word}
use Rattle.dm_table.specs.Lines.{arguments_at, target_at}
use Rattle.dm_table.proofs.lemmas.ReadLineLemmas.{target-named}
use Rattle.table_text.proofs.PrintedLemmas.{IsPrinted, ArePrinted}

-- the words read as the target
abbrev pub AreRead : Target → List Word → Type 0
AreRead target [] = ⊥
AreRead target (word ∷ arguments) = target_at word arguments ≡ Ok target

-- they may be in a text, and read as the target
pub record ReadBack (target : Target) (words : List Word) : Type 0 where
  pub printed : ArePrinted words
  pub read : AreRead target words

printed-type : (type : TargetType) → IsPrinted (type_word type)
printed-type types.Linear = (omega arith, refl)
printed-type type = (omega arith, refl)

-- the word of a type, and arguments that read as the target
pub read_back : (type : TargetType) (arguments : List Word) (target : Target) → ArePrinted arguments → arguments_at type arguments ≡ Ok target → ReadBack target (type_word type ∷ arguments)
read_back type arguments target printed read = record { printed = (printed-type type, printed); read = target-named type arguments ∙ read }
