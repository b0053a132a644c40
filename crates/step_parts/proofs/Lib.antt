pub mod WearLemmas
