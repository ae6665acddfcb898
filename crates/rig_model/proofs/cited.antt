pub mod JobNames
