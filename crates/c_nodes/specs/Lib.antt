pub mod Grammar
pub mod ShownFile
pub mod Text
