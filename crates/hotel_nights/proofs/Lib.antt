pub mod DayLemmas
pub mod KindLemmas
pub mod MomentLemmas
pub mod BlockLemmas
pub mod FirstDay
