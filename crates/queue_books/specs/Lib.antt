pub mod View
pub mod Stands
pub mod Alike
pub mod Listed
pub mod Stays
pub mod Books
