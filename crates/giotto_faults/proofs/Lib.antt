mod AsciiFronts
mod Beginnings
mod DeepTokens
mod ExpectedKinds
mod FaultPlaces
mod TokenPlaces
pub mod cited
