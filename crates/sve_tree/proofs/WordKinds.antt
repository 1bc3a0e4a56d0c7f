-- Words tell the kinds of their tokens.
use Rattle.std.proofs.Common.{List, [], ◌∷◌, map, ◌≡◌, refl, sym, ap, ◌∙◌}
use Rattle.sve_token.specs.declared.kind.Kind.{Kind}
use Rattle.sve_token.specs.declared.token.Token.{Token}
use Rattle.sve_tree.specs.declared.token_word.Word.{Word}
use Rattle.sve_tree.specs.TokenWords.{words_of}

kinds_of_words : (ts : List Token) → map (λ (w : Word). w.kind) (words_of ts) ≡ map (λ (t : Token). t.kind) ts
kinds_of_words [] = refl
kinds_of_words (t ∷ ts) = ap (λ (ks : List Kind). t.kind ∷ ks) (kinds_of_words ts)

pub same_kinds : (ts us : List Token) → words_of ts ≡ words_of us → map (λ (t : Token). t.kind) ts ≡ map (λ (t : Token). t.kind) us
same_kinds ts us e = sym (kinds_of_words ts) ∙ ap (λ (ws : List Word). map (λ (w : Word). w.kind) ws) e ∙ kinds_of_words us
