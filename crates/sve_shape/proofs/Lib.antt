pub mod EachItem
pub mod ManyMembers
