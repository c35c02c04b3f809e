-- What a text makes of leaves.
use Rattle.std.proofs.Common.{◌≡◌, ◌⊎◌, ℕ, List, arith, refl, ap, ◌∙◌, sym, inl, inr, Some, None, Result, Ok, Err}
use Rattle.std.specs.Prelude.{IfErr, IsErrAnd}
use Rattle.allocation.specs.Refusal.{IsOutOfMemory}
use Rattle.dm_table.specs.Names.{most_name}
use Rattle.dm_table.specs.declared.stack.Entry.{Entry}
use Rattle.dm_table.specs.declared.fault.TextFault.{TextFault}
use Rattle.dm_table.specs.declared.fault.ParseFault.{ParseFault}
use Rattle.dm_table.specs.declared.fault.ParseFault.TheVariants as parse
use Rattle.dm_table.specs.Reading.{IsAnswer}
use Rattle.dm_table.specs.StackText.{stack_of}
use Rattle.stack_rules.specs.declared.refusal.ConfigFault.{ConfigFault}
use Rattle.stack_rules.specs.declared.refusal.LoadFault.{LoadFault}
use Rattle.stack_rules.specs.declared.refusal.LoadFault.TheVariants as load
use Rattle.stack_rules.specs.declared.refusal.Refusal.{Refusal}
use Rattle.stack_rules.specs.Records.{Configuration, LeafRecord}
use Rattle.stack_rules.specs.Leaves.{first_leaf_fault}
use Rattle.stack_rules.specs.Passing.{largest_load_allocation}
use Rattle.stack_rules.specs.Rules.{first_refusal, after_load}
use Rattle.stack_rules.proofs.lemmas.PassingLemmas.{out_of_memory-more}
use Rattle.stack_files.specs.declared.stack_fault.StackFault.{StackFault}
use Rattle.stack_files.specs.declared.stack_fault.StackFault.TheVariants.{Leaves, Text, Load, NoMemory}
use Rattle.stack_files.specs.Endings.{text_ending, load_ending}
use Rattle.stack_files.specs.Configuration.{IsRefusal, leaves_alone, with_entries, with_text, with_leaves, configuration_of}

pub configuration_of-leaves : (leaves : List LeafRecord) (text : List ℕ) (fault : ConfigFault) → first_leaf_fault leaves ≡ Some fault → configuration_of leaves text ≡ Err (Leaves fault)
unfolding configuration_of
configuration_of-leaves leaves text fault is = ap (λ o. with_leaves leaves o (stack_of text)) is

pub configuration_of-text : (leaves : List LeafRecord) (text : List ℕ) (fault : TextFault) → first_leaf_fault leaves ≡ None → stack_of text ≡ Err fault → configuration_of leaves text ≡ Err (Text fault)
unfolding configuration_of
configuration_of-text leaves text fault none is = ap (λ o. with_leaves leaves o (stack_of text)) none ∙ ap (with_text (leaves_alone leaves)) is

pub configuration_of-refused : (leaves : List LeafRecord) (text : List ℕ) (entries : List Entry) (refusal : Refusal) → first_leaf_fault leaves ≡ None → stack_of text ≡ Ok entries
    → first_refusal (leaves_alone leaves) entries ≡ Some refusal → configuration_of leaves text ≡ Err (Load refusal)
unfolding configuration_of
configuration_of-refused leaves text entries refusal none is refused =
    ap (λ o. with_leaves leaves o (stack_of text)) none ∙ (ap (with_text (leaves_alone leaves)) is ∙ ap (with_entries (leaves_alone leaves) entries) refused)

pub configuration_of-ok : (leaves : List LeafRecord) (text : List ℕ) (entries : List Entry) → first_leaf_fault leaves ≡ None → stack_of text ≡ Ok entries
    → first_refusal (leaves_alone leaves) entries ≡ None → configuration_of leaves text ≡ Ok (after_load (leaves_alone leaves) entries)
unfolding configuration_of
configuration_of-ok leaves text entries none is passes =
    ap (λ o. with_leaves leaves o (stack_of text)) none ∙ (ap (with_text (leaves_alone leaves)) is ∙ ap (with_entries (leaves_alone leaves) entries) passes)

-- the configuration that was made is that of the leaves and the text
pub configuration_of-passes : (leaves : List LeafRecord) (text : List ℕ) (entries : List Entry) (config after : Configuration) → config ≡ leaves_alone leaves → first_leaf_fault leaves ≡ None
    → stack_of text ≡ Ok entries → first_refusal config entries ≡ None → after ≡ after_load config entries → configuration_of leaves text ≡ Ok after
configuration_of-passes leaves text entries config after is none read passes loads =
    configuration_of-ok leaves text entries none read (ap (λ c. first_refusal c entries) (sym is) ∙ passes)
    ∙ sym (ap (λ c. Ok c) (loads ∙ ap (λ c. after_load c entries) is))

-- a result that is an Err with that fault
pub err-is : {A : Type 0} (r : Result A StackFault) (x : Result Configuration StackFault) (fault : StackFault) → IsErrAnd r (λ e. e ≡ fault) → x ≡ Err fault
    → IfErr r (λ e. (x ≡ Err e) ⊎ IsRefusal e)
err-is (Ok a) x fault is_err is = tt
err-is (Err e) x fault is_err is = inl (is ∙ ap (λ f. Err f) (sym is_err))

err-memory : {A : Type 0} (r : Result A StackFault) (x : Result Configuration StackFault) → IsErrAnd r (λ e. e ≡ NoMemory) → IsOutOfMemory largest_load_allocation → IfErr r (λ e. (x ≡ Err e) ⊎ IsRefusal e)
err-memory (Ok a) x is_err memory = tt
err-memory (Err e) x is_err memory = inr (is_err, memory)

pub err-text : {A : Type 0} (r : Result A StackFault) (leaves : List LeafRecord) (text : List ℕ) (fault : ParseFault) → IsErrAnd r (λ e. e ≡ text_ending fault)
    → first_leaf_fault leaves ≡ None → IsAnswer {A = List Entry} (Err fault) (stack_of text) → IfErr r (λ e. (configuration_of leaves text ≡ Err e) ⊎ IsRefusal e)
err-text r leaves text (parse.Text fault) is_err none is = err-is r (configuration_of leaves text) (Text fault) is_err (configuration_of-text leaves text fault none is)
err-text r leaves text parse.NoMemory is_err none is = err-memory r (configuration_of leaves text) is_err (out_of_memory-more most_name largest_load_allocation (omega arith) is)

pub err-load : {A : Type 0} (r : Result A StackFault) (leaves : List LeafRecord) (text : List ℕ) (entries : List Entry) (config : Configuration) (fault : LoadFault)
    → IsErrAnd r (λ e. e ≡ load_ending fault) → config ≡ leaves_alone leaves → first_leaf_fault leaves ≡ None → stack_of text ≡ Ok entries
    → ((refusal : Refusal) → fault ≡ load.Refused refusal → first_refusal config entries ≡ Some refusal) → (fault ≡ load.NoMemory → IsOutOfMemory largest_load_allocation) → IfErr r (λ e. (configuration_of leaves text ≡ Err e) ⊎ IsRefusal e)
err-load r leaves text entries config (load.Refused refusal) is_err is none read refused memory =
    err-is r (configuration_of leaves text) (Load refusal) is_err
    (configuration_of-refused leaves text entries refusal none read (ap (λ c. first_refusal c entries) (sym is) ∙ refused refusal refl))
err-load r leaves text entries config load.NoMemory is_err is none read refused memory = err-memory r (configuration_of leaves text) is_err (memory refl)
