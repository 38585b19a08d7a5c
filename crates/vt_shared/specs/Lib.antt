-- what an owner holds: no contract of a caller cites it
pub mod Inside
