pub mod Draft
pub mod Kind
pub mod Layout
pub mod Lending
pub mod Name
pub mod Numbers
pub mod Place
pub mod Tries
