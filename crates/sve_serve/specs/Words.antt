-- What the words of the command line ask for (own).
use Rattle.std.specs.Prelude.{ℕ, ◌≡◌, List}
use Rattle.sve_words.specs.declared.request.Options.{Options}
use Rattle.sve_words.specs.declared.request.Spoken.TheVariants.{Run, Make}
use Rattle.sve_words.specs.Words.{spoken}

-- the words ask for a run, with these options
abbrev pub IsRun : List (List ℕ) → Type 0
IsRun words = (options : Options) × (spoken words ≡ Run options)

-- the words ask for the generated session of so many modules
abbrev pub IsMade : List (List ℕ) → Type 0
IsMade words = (n : ℕ) × (spoken words ≡ Make n)
