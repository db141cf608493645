pub mod NumeralLemmas
pub mod Sinces
pub mod CallsTogether
pub mod Drawing
pub mod ListedLemmas
pub mod ChainLemmas
