pub mod WriterLemmas
pub mod MarkLemmas
