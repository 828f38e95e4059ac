pub mod BitLaws
pub mod ShownLaws
