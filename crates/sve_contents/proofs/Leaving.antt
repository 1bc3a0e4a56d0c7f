-- What a scope is left for.
use Rattle.std.proofs.Common.{◌≡◌, List, [], ◌∷◌, Some, None, drop, slice_get, refl}
use Rattle.sve_diag.specs.declared.diag.Note.{Note}
use Rattle.sve_scope.specs.declared.scope.Scope.{Scope}
use Rattle.sve_contents.specs.declared.contents.Contents.{Contents}
use Rattle.sve_contents.specs.declared.contents.DottedName.{DottedName}
use Rattle.sve_contents.specs.Nested.{left_to}

pub left_for : (c : Contents) (ss : List Scope) (s : Scope) → Some s ≡ slice_get ss 0 → left_to c ss ≡ record { scope = s; around = drop 1 ss; notes = c.notes; dotted = c.dotted }
left_for c [] s h = cc
left_for c (outer ∷ more) s h = let e : outer ≡ s = cc in rw e refl

alone : (s : Scope) (ss : List Scope) (ns : List Note) (ds : List DottedName) → None ≡ slice_get ss 0
    → left_to (record { scope = s; around = ss; notes = ns; dotted = ds }) ss ≡ record { scope = s; around = drop 1 ss; notes = ns; dotted = ds }
alone s [] ns ds h = refl
alone s (outer ∷ more) ns ds h = cc

pub left_alone : (c : Contents) → None ≡ slice_get c.around 0 → left_to c c.around ≡ record c { around = drop 1 c.around }
left_alone c h = alone c.scope c.around c.notes c.dotted h
