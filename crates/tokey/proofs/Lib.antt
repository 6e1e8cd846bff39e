pub mod KeyParts
pub mod SmallCounts
pub mod Measures
pub mod PutOctets
pub mod PutLabels
pub mod PutKeys
