pub mod SameEdits
