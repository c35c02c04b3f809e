mod PathLemmas
mod RefusalLemmas
