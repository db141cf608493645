pub mod HeadLemmas
pub mod FieldLemmas
pub mod FormLemmas
pub mod RouteLemmas
pub mod AuditAnswerLemmas
pub mod ServeLemmas
pub mod RequestLemmas
