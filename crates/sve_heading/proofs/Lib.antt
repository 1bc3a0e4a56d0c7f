pub mod WrittenTypes
