pub mod DefinitionLaws
pub mod DistinctFormals
pub mod FormalLemmas
pub mod JoinLemmas
pub mod NameLemmas
pub mod PieceLemmas
