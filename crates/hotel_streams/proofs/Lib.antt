pub mod BytesLemmas
pub mod CallsLemmas
pub mod ReadLemmas
