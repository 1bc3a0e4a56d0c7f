-- Records whose fields are the same are one.
use Rattle.std.proofs.Common.{◌≡◌, ℕ}
use Rattle.sve_bytes.specs.declared.net_type.NetType.{NetType}
use Rattle.sve_diag.specs.declared.diag.Note.{Note}
use Rattle.sve_index.specs.declared.def.Def.{Def}
use Rattle.sve_token.specs.declared.token.Token.{Token}
use Rattle.sve_tree.specs.declared.token_word.Word.{Word}
use Rattle.sve_unit.specs.declared.chunk.Chunk.{Chunk}

pub one_token : (a b : Token) → a.kind ≡ b.kind → a.place ≡ b.place → a.copied ≡ b.copied → a.spelling ≡ b.spelling → a.text ≡ b.text → a ≡ b
one_token a b k p c s t = λ i. record { kind = k i; spelling = s i; text = t i; place = p i; copied = c i }

pub one_note : (a b : Note) → a.chunk ≡ b.chunk → a.token ≡ b.token → a.file ≡ b.file → a.code ≡ b.code → a.arg ≡ b.arg → a ≡ b
one_note a b n t f c r = λ i. record { file = f i; chunk = n i; token = t i; code = c i; arg = r i }

pub one_pair : (a b : ℕ × NetType) → a.0 ≡ b.0 → a.1 ≡ b.1 → a ≡ b
one_pair a b p q = λ i. (p i, q i)

pub one_word : (a b : Word) → a.kind ≡ b.kind → a.spelling ≡ b.spelling → a.text ≡ b.text → a ≡ b
one_word a b k s t = λ i. record { kind = k i; spelling = s i; text = t i }

pub one_chunk : (a b : Chunk) → a.from ≡ b.from → a.to ≡ b.to → a ≡ b
one_chunk a b f t = λ i. record { from = f i; to = t i }

pub one_def : (a b : Def) → a.chunk ≡ b.chunk → a.name ≡ b.name → a.file ≡ b.file → a ≡ b
one_def a b c n f = λ i. record { name = n i; file = f i; chunk = c i }
