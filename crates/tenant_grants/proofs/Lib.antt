pub mod BindTables
pub mod Copies
pub mod GrantExamples
pub mod KeptRows
pub mod OfferPlaces
pub mod Rosters
pub mod RowLists
