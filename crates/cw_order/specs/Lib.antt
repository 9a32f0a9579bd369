pub mod Links
pub mod Order
pub mod OrderList
pub mod Ring
