pub mod LabelOctets
pub mod SpelledLabels
