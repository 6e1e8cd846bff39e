-- What the proofs of this crate and of the crate plan speak of: no public promise and no demand rests on it.
pub mod LabelOctets
