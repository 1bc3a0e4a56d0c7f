-- How the value of a chunk is seen (own).
use Rattle.std.specs.Prelude.{Ok, Err}
use Rattle.std.specs.Arc.{arc_value}
use Rattle.sve_key.specs.declared.reading.Read.{Read}
use Rattle.sve_key.specs.declared.reading.Read.TheVariants.{Whole, Stopped}
use Rattle.sve_key.specs.Parts.{ReadingValue, IsOfItsWords}

abbrev pub view_of : Read → ReadingValue
view_of (Whole element) = Ok (arc_value element).words.items
view_of (Stopped index deep) = Err (record { index = index; deep = deep })

abbrev pub IsRead : Read → Type 0
IsRead (Whole element) = IsOfItsWords (arc_value element)
IsRead (Stopped index deep) = Unit {0}
