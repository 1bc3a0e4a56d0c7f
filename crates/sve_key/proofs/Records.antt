-- Records whose fields are the same are one.
use Rattle.std.proofs.Common.{◌≡◌}
use Rattle.sve_index.specs.declared.whole.Index.{Index}
use Rattle.sve_key.specs.Parts.{TextValue, TokensValue}

pub one_text : (a b : TextValue) → a.text ≡ b.text → a.stamp ≡ b.stamp → a ≡ b
one_text a b t s = λ i. record { text = t i; stamp = s i }

pub one_file : (a b : TokensValue) → a.tokens ≡ b.tokens → a.diags ≡ b.diags → a.net_types ≡ b.net_types → a ≡ b
one_file a b t d n = λ i. record { tokens = t i; diags = d i; net_types = n i }

pub one_index : (a b : Index) → a.definitions ≡ b.definitions → a.packages ≡ b.packages → a.tops ≡ b.tops → a.diags ≡ b.diags → a ≡ b
one_index a b d p t n = λ i. record { definitions = d i; packages = p i; tops = t i; diags = n i }
