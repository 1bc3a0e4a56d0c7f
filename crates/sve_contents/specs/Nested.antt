-- Scopes that begin and end in the text of another (IEEE 1800-2017, 23.9).
use Rattle.std.specs.Prelude.{List, [], ◌∷◌}
use Rattle.sve_scope.specs.declared.scope.Scope.{Scope}
use Rattle.sve_scope.specs.Scopes.{empty_scope}
use Rattle.sve_contents.specs.declared.contents.Contents.{Contents}

-- a scope of the same chunk begins
abbrev pub entered : Contents → Contents
entered c = record { scope = empty_scope c.scope.file c.scope.chunk; around = c.scope ∷ c.around; notes = c.notes; dotted = c.dotted }

-- and ends, so that the text goes on in the next outward, where there is one
abbrev pub left_to : Contents → List Scope → Contents
left_to c [] = c
left_to c (outer ∷ more) = record { scope = outer; around = more; notes = c.notes; dotted = c.dotted }

abbrev pub left : Contents → Contents
left c = left_to c c.around
