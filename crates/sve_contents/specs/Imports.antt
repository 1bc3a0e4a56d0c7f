-- Imports of packages, one by one (IEEE 1800-2017, 26.3).
use Rattle.std.specs.Prelude.{ℕ, List, Option, Some, None, Result, Ok, Err}
use Rattle.std.specs.List.{fold}
use Rattle.sve_diag.specs.declared.code.Code.TheVariants.{N04, N05, N07}
use Rattle.sve_fault.specs.declared.fault.Fault.{Fault}
use Rattle.sve_fault.specs.Faults.{fault_at}
use Rattle.sve_table.specs.Tables.{item_of}
use Rattle.sve_scope.specs.declared.import.Explicit.{Explicit}
use Rattle.sve_scope.specs.declared.scope.Entered.{Entered}
use Rattle.sve_scope.specs.declared.scope.Entered.TheVariants.{New, Again, Clashing}
use Rattle.sve_scope.specs.declared.what.What.{What}
use Rattle.sve_scope.specs.Imports.{WildcardImport}
use Rattle.sve_scope.specs.Scopes.{imported_as, importing, importing_all}
use Rattle.sve_tree.specs.declared.declaration.ImportItem.{ImportItem}
use Rattle.sve_tree.specs.declared.declaration.ImportItem.TheVariants as is_import
use Rattle.sve_tree.specs.declared.token_word.Word.{Word}
use Rattle.sve_known.specs.Packages.{Known, names_of, own_scope, package_name}
use Rattle.sve_known.specs.Naming.{name_at, named_fault, of_known}
use Rattle.sve_contents.specs.declared.contents.Contents.{Contents}
use Rattle.sve_contents.specs.declared.contents.Entering.{Entering}
use Rattle.sve_contents.specs.Reading.{remarked, said, spot_in, with_scope}

-- a name that is declared, or that is imported from another package, is said; the same import again is not
abbrev pub with_import_entry : Contents → ℕ → List ℕ → Entered → Contents
with_import_entry c token n New = c
with_import_entry c token n Again = c
with_import_entry c token n Clashing = remarked c token N07 (Some n)

-- what comes in by an import of one name
abbrev pub import_entering : Contents → Explicit → Entering
import_entering c i = record { contents = with_scope c (importing c.scope i); name = i.name; token = i.at.token; entered = imported_as c.scope i }

-- an import of one name more
abbrev pub importing_in : Contents → Explicit → Contents
importing_in c i = with_import_entry (with_scope c (importing c.scope i)) i.at.token i.name (imported_as c.scope i)

-- an import of all names of a package more
abbrev pub importing_all_in : Contents → WildcardImport → Contents
importing_all_in c w = with_scope c (importing_all c.scope w)

-- a name that the package has is imported, and for another this is said
abbrev pub with_found : Contents → ℕ → List ℕ → List ℕ → Result What Fault → Contents
with_found c token p n (Err fault) = said c fault
with_found c token p n (Ok what) = importing_in c (record { name = n; from = p; at = spot_in c token })

abbrev pub with_package : Contents → ℕ → ℕ → List ℕ → Option Known → Contents
with_package c at star p None = said c (named_fault at N04 p)
with_package c at star p (Some k) = importing_all_in c (record { from = p; names = names_of (own_scope k.facts); at = spot_in c star })

module _ (packages : List Known) where
  -- the package's name stands at one token, and the name at another
  abbrev pub with_name : Contents → ℕ → Option (List ℕ) → ℕ → Option (List ℕ) → Contents
  with_name c at None token n = said c (fault_at at N04)
  with_name c at (Some p) token None = said c (fault_at token N05)
  with_name c at (Some p) token (Some n) = with_found c token p n (of_known packages at p token n)

  abbrev pub with_all : Contents → ℕ → ℕ → Option (List ℕ) → Contents
  with_all c at star None = said c (fault_at at N04)
  with_all c at star (Some p) = with_package c at star p (item_of package_name p packages)

  -- an item of an import
  abbrev pub with_item : List Word → Contents → ImportItem → Contents
  with_item ws c (is_import.Name scope token) = with_name c scope.name (name_at ws scope.name) token (name_at ws token)
  with_item ws c (is_import.All scope star) = with_all c scope.name star (name_at ws scope.name)

  -- and all of them, in order
  abbrev pub with_items : List Word → Contents → List ImportItem → Contents
  with_items ws c is = fold (with_item ws) c is
