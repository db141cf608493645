pub mod ReturnLemmas
pub mod WordLemmas
pub mod ScriptLemmas
pub mod ListAnswerLemmas
pub mod LineAnswerLemmas
pub mod ScriptRunLemmas
pub mod CountLemmas
