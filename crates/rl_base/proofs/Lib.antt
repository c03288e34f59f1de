mod LayoutLemmas
pub mod Lists
pub mod PlaceOrder
