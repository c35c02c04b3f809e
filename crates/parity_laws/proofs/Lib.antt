mod PrintedLemmas
mod ProtectedLemmas
