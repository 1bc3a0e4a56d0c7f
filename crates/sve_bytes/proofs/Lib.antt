mod PathFronts
mod PathLoop
mod PathTexts
pub mod PathsAreExact
mod StageBegins
mod StageIndices
mod StageNames
mod StepTexts
mod TextSplits
pub mod TreesAreOrdered
