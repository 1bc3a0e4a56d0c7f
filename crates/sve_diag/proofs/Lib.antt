mod CodesAreExact
pub mod DiagsAreExact
