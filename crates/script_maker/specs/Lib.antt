pub mod MadeConfig
pub mod Written
pub mod Made
pub mod Growing
pub mod Laws
