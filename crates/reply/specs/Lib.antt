pub mod Said
pub mod SaidLaws
