-- What packages that tell the same by each name of a text make of the functions and of all items of that text is the same.
use Rattle.std.proofs.Common.{◌≡◌, ℕ, true, false, cond, List, [], ◌∷◌, Option, Some, None, Result, refl, ap, ◌∙◌}
use Rattle.std.specs.List.{AllByRecursion, flat_map, fold}
use Rattle.sve_env.specs.Told.{Told}
use Rattle.sve_fault.specs.declared.fault.Fault.{Fault}
use Rattle.sve_types.specs.DataType as types
use Rattle.sve_tree.specs.Statements.{result_name}
use Rattle.sve_tree.specs.declared.data_type.DeclaredType.{DeclaredType}
use Rattle.sve_tree.specs.declared.data_type.DeclaredType.TheVariants as is_declared
use Rattle.sve_tree.specs.declared.data_type.TypeRef.TheVariants as is_type_ref
use Rattle.sve_tree.specs.declared.expression.Postfix.{Postfix}
use Rattle.sve_tree.specs.declared.element.Package.{Package}
use Rattle.sve_tree.specs.declared.element.UnitItem.{UnitItem}
use Rattle.sve_tree.specs.declared.element.UnitItem.TheVariants as is_item
use Rattle.sve_tree.specs.declared.statement.Func.{Func}
use Rattle.sve_tree.specs.declared.statement.FunctionResult.{FunctionResult}
use Rattle.sve_tree.specs.declared.statement.FunctionResult.TheVariants as is_result
use Rattle.sve_tree.specs.declared.token_word.Word.{Word}
use Rattle.sve_tree.specs.declared.word.PackageScope.{PackageScope}
use Rattle.sve_tree.specs.declared.word.ScopedName.{ScopedName}
use Rattle.sve_use.specs.Use.{Called, Dotted, Named, Use, first_member, plain}
use Rattle.sve_statement_use.specs.Statements.{block_item_steps}
use Rattle.sve_statement_use.specs.Steps.{Step}
use Rattle.sve_scope.specs.declared.scope.Scope.{Scope}
use Rattle.sve_scope.specs.declared.what.What.{What}
use Rattle.sve_scope.specs.declared.what.What.TheVariants as is_what
use Rattle.sve_scope.specs.Scopes.{empty_scope}
use Rattle.sve_known.specs.Packages.{Known}
use Rattle.sve_known.specs.Naming.{name_at, of_name}
use Rattle.sve_heading.specs.declared.heading.Heading.{Heading}
use Rattle.sve_heading.specs.Items.{headings}
use Rattle.sve_contents.specs.declared.contents.Contents.{Contents}
use Rattle.sve_contents.specs.declared.contents.DottedName.{DottedName}
use Rattle.sve_contents.specs.Nested.{entered, left, left_to}
use Rattle.sve_contents.specs.Reading.{empty_contents, noted_all}
use Rattle.sve_contents.specs.Uses.{named_use, said_if, with_plain, with_use, wrong_in}
use Rattle.sve_scoped.specs.Assignments.{is_text}
use Rattle.sve_type_rule.specs.Outcomes.{Outcome}
use Rattle.sve_type_of.specs.TypeOf.{declared, notes_in}
use Rattle.sve_enumerated.specs.declared.passed.Passed.{Passed}
use Rattle.sve_enumerated.specs.Passing.{passed_to}
use Rattle.sve_enumerated.specs.Types.{named_in}
use Rattle.sve_package.specs.Opening.{function_at, is_ahead, opened, with_heading, with_name_if}
use Rattle.sve_package.specs.Packages.{facts_of, found_in, package_in, with_item}
use Rattle.sve_scoped.specs.Known.{told_in}
use Rattle.sve_scoped.specs.Said.{out_if}
use Rattle.sve_declare.specs.Alike.{TellAlike}
use Rattle.sve_declare.proofs.Alike.{imports_alike, imports_hold, known_in, name_alike, with_parameters_alike, with_parameters_hold, with_typedef_alike, with_typedef_holds}
use Rattle.sve_declare.proofs.Holding.{AreNamed, Holds, of_declared, of_out_if, of_passed, of_ref, of_said, of_use}
use Rattle.sve_local.specs.Used.{dotted_name, dotted_use, first_found, name_used, used_as, with_dotted_if, wrong_dotted}
use Rattle.sve_formal_data.specs.Formals.{with_formals}
use Rattle.sve_formal_data.proofs.Follow.{Keeps, SameIn, formals_alike, formals_keep}
use Rattle.sve_local.specs.Steps.{stepped}
use Rattle.sve_local.proofs.Follow.{KeepsToo, steps_alike, steps_keep}
use Rattle.sve_function.specs.Functions.{body_over, function_name, names_of_result, own_variable, result_in, result_over, with_function, with_result_type}
use Rattle.sve_function.specs.Follows.{FactsFollow}
use Rattle.sve_function.specs.Readings.{readings}

module _ (ws : List Word) (ps qs : List Known) (alike : TellAlike ws ps qs) where
  -- ---- names that are used

  said_holds : (c : Contents) (fault : Option Fault) → Holds ws c → Holds ws (said_if c fault)
  said_holds c None h = h
  said_holds c (Some fault) h = of_said ws c fault h

  plain_holds : (c : Contents) (scope : Option PackageScope) (token : ℕ) → Holds ws c → Holds ws (with_plain ws c scope token)
  plain_holds c None token h = of_use ws c token (name_at ws token) h
  plain_holds c (Some scope) token h = h

  named_alike : (c : Contents) (name : ScopedName) → Holds ws c → named_use ps ws c name ≡ named_use qs ws c name
  named_alike c name h = ap (λ (r : Result What Fault). with_plain ws (said_if c (wrong_in r)) name.scope name.name) (name_alike ws ps qs alike c.scope c.around h name)

  named_holds : (c : Contents) (name : ScopedName) → Holds ws c → Holds ws (named_use qs ws c name)
  named_holds c name h =
      let fault : Option Fault = wrong_in (of_name qs ws (c.scope ∷ c.around) name) in
      plain_holds (said_if c fault) name.scope name.name (said_holds c fault h)

  kept_holds : (c : Contents) (name : Option DottedName) → Holds ws c → Holds ws (with_dotted_if c name)
  kept_holds c None h = h
  kept_holds c (Some name) h = h

  used_holds : (c : Contents) (token : ℕ) (fault : Option Fault) (name : Option DottedName) → Holds ws c → Holds ws (used_as ws c token fault name)
  used_holds c token fault name h =
      of_use ws (said_if (with_dotted_if c name) fault) token (name_at ws token) (said_holds (with_dotted_if c name) fault (kept_holds c name h))

  -- by what is known, and by what is found of the first name
  used_by : Contents → ℕ → List Postfix → Told → Result What Fault → Contents
  used_by c token postfixes m found = used_as ws c token (wrong_dotted ws (first_member postfixes) found) (dotted_name m ws token postfixes found)

  dotted_alike : (c : Contents) (token : ℕ) (postfixes : List Postfix) → Holds ws c → dotted_use ps ws c token postfixes ≡ dotted_use qs ws c token postfixes
  unfolding used_by
  dotted_alike c token postfixes h =
      ap (λ (m : Told). used_by c token postfixes m (first_found ps ws c token)) (known_in ws ps qs alike c h)
      ∙ ap (used_by c token postfixes (told_in qs ws c)) (name_alike ws ps qs alike c.scope c.around h (plain token))

  dotted_holds : (c : Contents) (token : ℕ) (postfixes : List Postfix) → Holds ws c → Holds ws (dotted_use qs ws c token postfixes)
  dotted_holds c token postfixes h =
      let found : Result What Fault = first_found qs ws c token in
      used_holds c token (wrong_dotted ws (first_member postfixes) found) (dotted_name (told_in qs ws c) ws token postfixes found) h

  use_alike : (c : Contents) (u : Use) → Holds ws c → name_used ps ws c u ≡ name_used qs ws c u
  use_alike c (Named name) h = named_alike c name h
  use_alike c (Called name) h = named_alike c name h
  use_alike c (Dotted token postfixes) h = dotted_alike c token postfixes h

  use_holds : (c : Contents) (u : Use) → Holds ws c → Holds ws (name_used qs ws c u)
  use_holds c (Named name) h = named_holds c name h
  use_holds c (Called name) h = named_holds c name h
  use_holds c (Dotted token postfixes) h = dotted_holds c token postfixes h

  -- ---- bodies of functions

  entered_holds : (c : Contents) → Holds ws c → Holds ws (entered c)
  entered_holds c h = ((tt, tt), h)

  left_to_holds : (c : Contents) (ss : List Scope) → AllByRecursion (AreNamed ws) ss → Holds ws c → Holds ws (left_to c ss)
  left_to_holds c [] k h = h
  left_to_holds c (s ∷ ss) k h = k

  left_holds : (c : Contents) → Holds ws c → Holds ws (left c)
  left_holds c h = left_to_holds c c.around h.1 h

  keeps : Keeps ws (Holds ws)
  unfolding named_in
  keeps = record {
    notes = λ c ns h. h;
    out = of_out_if ws;
    declares = of_declared ws;
    plain = plain_holds;
    passes = of_passed ws;
    names = λ t p d h. of_ref ws t p (is_type_ref.Written d) h;
    refers = of_ref ws;
  }

  same : SameIn (Holds ws) (told_in ps ws) (told_in qs ws) (name_used ps ws) (name_used qs ws)
  same = record { knows = known_in ws ps qs alike; leaves = use_alike; keeps = use_holds }

  keeps_too : KeepsToo ws (Holds ws) (told_in ps ws) (told_in qs ws)
  keeps_too = record {
    enters = entered_holds;
    leaves = left_holds;
    parameters_alike = with_parameters_alike ws ps qs alike;
    parameters_keep = with_parameters_hold ws ps qs alike;
    typedef_alike = with_typedef_alike ws ps qs alike;
    typedef_keeps = with_typedef_holds ws ps qs alike;
  }

  own_holds : (c : Contents) (token : ℕ) (ty : Option types.DataType) → Holds ws c → Holds ws (own_variable ws c token ty)
  own_holds c token None h = h
  own_holds c token (Some ty) h = of_declared ws c token (is_what.Variable ty) token h

  body_alike : (c : Contents) (f : Func) (ty : Option types.DataType) → Holds ws c → body_over (told_in ps ws) (name_used ps ws) ws c f ty ≡ body_over (told_in qs ws) (name_used qs ws) ws c f ty
  body_alike c f ty h =
      let d : Contents = own_variable ws (entered c) (result_name f.result_type) ty in
      let steps : List Step = flat_map block_item_steps f.items.items in
      let k : Holds ws d = own_holds (entered c) (result_name f.result_type) ty (entered_holds c h) in
      ap (λ (e : Contents). left (fold (stepped (told_in ps ws) (name_used ps ws) ws) e steps)) (formals_alike ws (Holds ws) keeps (told_in ps ws) (told_in qs ws) (name_used ps ws) (name_used qs ws) same d f.formals k)
      ∙ ap (λ (e : Contents). left e) (steps_alike ws (Holds ws) keeps (told_in ps ws) (told_in qs ws) (name_used ps ws) (name_used qs ws) same keeps_too steps (with_formals (told_in qs ws) ws d f.formals) (formals_keep ws (Holds ws) keeps (told_in ps ws) (told_in qs ws) (name_used ps ws) (name_used qs ws) same d f.formals k))

  body_holds : (c : Contents) (f : Func) (ty : Option types.DataType) → Holds ws c → Holds ws (body_over (told_in qs ws) (name_used qs ws) ws c f ty)
  body_holds c f ty h =
      let d : Contents = own_variable ws (entered c) (result_name f.result_type) ty in
      let steps : List Step = flat_map block_item_steps f.items.items in
      let k : Holds ws d = own_holds (entered c) (result_name f.result_type) ty (entered_holds c h) in
      let e : Contents = with_formals (told_in qs ws) ws d f.formals in
      left_holds (fold (stepped (told_in qs ws) (name_used qs ws) ws) e steps) (steps_keep ws (Holds ws) keeps (told_in ps ws) (told_in qs ws) (name_used ps ws) (name_used qs ws) same keeps_too steps e (formals_keep ws (Holds ws) keeps (told_in ps ws) (told_in qs ws) (name_used ps ws) (name_used qs ws) same d f.formals k))

  -- ---- functions

  result_alike : (c : Contents) (keyword : ℕ) (r : FunctionResult) → Holds ws c → with_result_type (told_in ps ws) ws c keyword r ≡ with_result_type (told_in qs ws) ws c keyword r
  result_alike c keyword (is_result.Void void name) h = refl
  result_alike c keyword (is_result.Typed typed) h = ap (λ (m : Told). result_over ws c keyword typed m (declared m typed.data_type)) (known_in ws ps qs alike c h)

  result_names_hold : (t : types.DataType) (p : Passed) (d : DeclaredType) → Holds ws p.contents → Holds ws (names_of_result ws t p d).contents
  unfolding names_of_result
  result_names_hold t p (is_declared.Explicit d) h = of_ref ws t p d h
  result_names_hold t p (is_declared.Implicit sign dimensions) h = h

  function_name_holds : (p : Passed) (token : ℕ) (t : types.DataType) → Holds ws p.contents → Holds ws (function_name ws p token t)
  unfolding function_name
  function_name_holds p token t h =
      let c : Contents = (passed_to ws p token).contents in
      of_declared ws (out_if ws c token (is_text t)) token (is_what.Function (Some t)) token (of_out_if ws c token (is_text t) (of_passed ws p token h))

  result_holds : (c : Contents) (keyword : ℕ) (r : FunctionResult) → Holds ws c → Holds ws (with_result_type (told_in qs ws) ws c keyword r)
  result_holds c keyword (is_result.Void void name) h = of_declared ws c name (is_what.Function None) name h
  result_holds c keyword (is_result.Typed typed) h =
      let m : Told = told_in qs ws c in
      let o : Outcome = declared m typed.data_type in
      let p : Passed = record { contents = noted_all c (notes_in m o.faults); at = keyword } in
      function_name_holds (names_of_result ws o.ty p typed.data_type) typed.declarator.name o.ty (result_names_hold o.ty p typed.data_type h)

  function_alike : (c : Contents) (f : Func) → Holds ws c → with_function (told_in ps ws) (name_used ps ws) ws c f ≡ with_function (told_in qs ws) (name_used qs ws) ws c f
  function_alike c f h =
      let d : Contents = with_result_type (told_in qs ws) ws c f.keyword f.result_type in
      ap (λ (e : Contents). body_over (told_in ps ws) (name_used ps ws) ws e f (result_in (told_in ps ws c) f.result_type)) (result_alike c f.keyword f.result_type h)
      ∙ ap (λ (m : Told). body_over (told_in ps ws) (name_used ps ws) ws d f (result_in m f.result_type)) (known_in ws ps qs alike c h)
      ∙ body_alike d f (result_in (told_in qs ws c) f.result_type) (result_holds c f.keyword f.result_type h)

  function_holds : (c : Contents) (f : Func) → Holds ws c → Holds ws (with_function (told_in qs ws) (name_used qs ws) ws c f)
  function_holds c f h = body_holds (with_result_type (told_in qs ws) ws c f.keyword f.result_type) f (result_in (told_in qs ws c) f.result_type) (result_holds c f.keyword f.result_type h)

  -- ---- items

  item_alike : (c : Contents) (x : UnitItem) → Holds ws c → with_item readings ps ws c x ≡ with_item readings qs ws c x
  item_alike c (is_item.Empty semicolon) h = refl
  item_alike c (is_item.Import declaration) h = imports_alike ws ps qs alike declaration.value.items.items.items c
  item_alike c (is_item.Parameters declaration) h = with_parameters_alike ws ps qs alike c declaration.value h
  item_alike c (is_item.Typedef declaration) h = with_typedef_alike ws ps qs alike c declaration.value h
  item_alike c (is_item.Function function) h = function_alike c function.value h

  item_holds : (c : Contents) (x : UnitItem) → Holds ws c → Holds ws (with_item readings qs ws c x)
  item_holds c (is_item.Empty semicolon) h = h
  item_holds c (is_item.Import declaration) h = imports_hold ws ps qs alike declaration.value.items.items.items c h
  item_holds c (is_item.Parameters declaration) h = with_parameters_hold ws ps qs alike c declaration.value h
  item_holds c (is_item.Typedef declaration) h = with_typedef_holds ws ps qs alike c declaration.value h
  item_holds c (is_item.Function function) h = function_holds c function.value h

  items_alike : (xs : List UnitItem) (c : Contents) → Holds ws c → fold (with_item readings ps ws) c xs ≡ fold (with_item readings qs ws) c xs
  items_alike [] c h = refl
  items_alike (x ∷ xs) c h =
      ap (λ (d : Contents). fold (with_item readings ps ws) d xs) (item_alike c x h)
      ∙ items_alike xs (with_item readings qs ws c x) (item_holds c x h)

  -- ---- functions that are seen ahead

  heading_holds : (c : Contents) (names : List (List ℕ)) (h : Heading) (n : Option (List ℕ)) → Holds ws c → Holds ws (with_name_if (record { contents = c; names = names }) h n).contents
  heading_holds c names h None k = k
  heading_holds c names h (Some n) k = elim (is_ahead (record { contents = c; names = names }) h n) as (λ b. Holds ws (cond b (function_at c h.token n) c)) [ true ↦ k | false ↦ k ]

  headings_hold : (hs : List Heading) (c : Contents) (names : List (List ℕ)) → Holds ws c → Holds ws (fold (with_heading ws) (record { contents = c; names = names }) hs).contents
  headings_hold [] c names k = k
  headings_hold (h ∷ hs) c names k =
      headings_hold hs (with_heading ws (record { contents = c; names = names }) h).contents (with_heading ws (record { contents = c; names = names }) h).names (heading_holds c names h (name_at ws h.token) k)

  -- ---- a package

  found_alike : (file : List ℕ) (chunk : ℕ) (unit : Option Package) → found_in readings ps file chunk ws unit ≡ found_in readings qs file chunk ws unit
  found_alike file chunk None = refl
  found_alike file chunk (Some unit) =
      let c : Contents = empty_contents (empty_scope file chunk) in
      let xs : List UnitItem = unit.items.items in
      ap (λ (d : Contents). facts_of d) (items_alike xs (opened ws c xs) (headings_hold (headings xs) c [] ((tt, tt), tt)))

pub facts_alike : FactsFollow
facts_alike ps qs file chunk e alike = found_alike e.words.items ps qs alike file chunk (package_in e.design)
