pub mod EachKind
pub mod KindsApart
pub mod GoingBack
