pub mod lemmas
pub mod ExampleLemmas
pub mod UnstripedExample
