-- What a store answers of its objects is what the dump of its model shows.
pub mod Objects
pub mod Values
pub mod Targets
