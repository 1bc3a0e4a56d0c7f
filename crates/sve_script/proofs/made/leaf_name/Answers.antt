use Rattle.std.proofs.Common.{◌≡◌, ◌++◌, true, List, ℕ, codes, decimal, subst, append_assoc, arith, sym, ap, ◌∙◌}
use Rattle.sve_bytes.specs.FileName.{is_file_name_of}
use Rattle.sve_script.specs.Made.{leaf_name}
use Rattle.sve_script.proofs.MadeFiles.{leaf_is_named}
use Rattle.sve_script.proofs.made.leaf_name.Goals as goal

pub name-requires : goal.name-requires
name-requires c =
    let i = c.args.i in
    let front = c.in_ok-add_words.ensures ∙ ap (λ (text : List ℕ). text ++ codes "leaf") c.new-bytes.ensures.items in
    let number = c.in_ok-add_number.ensures ∙ ap (λ (text : List ℕ). text ++ decimal i) front in
    let all = c.deref.ensures.value ∙ c.in_ok-add_words-2.ensures ∙ ap (λ (text : List ℕ). text ++ codes ".sv") number in
    let bytes : c.deref.result.now ≡ leaf_name i = all ∙ append_assoc (codes "leaf") (decimal i) (codes ".sv") in
    subst (λ (name : List ℕ). is_file_name_of name ≡ true) (sym bytes) (leaf_is_named i (omega arith))
