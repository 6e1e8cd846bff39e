pub mod KeySymbols
pub mod MeasureLabel
pub mod MeasureKey
pub mod ReadLabels
pub mod PutNames
