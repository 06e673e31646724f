pub mod RowLaws
pub mod Orderings
pub mod CompareLaws
pub mod WordLaws
pub mod SearchLaws
