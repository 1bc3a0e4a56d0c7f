-- Operands of one context suit every operator.
use Rattle.sve_value.specs.declared.operators.Binary.{Binary}
use Rattle.sve_value.specs.declared.operators.Binary.TheVariants.{Add, Subtract, Multiply, Divide, Modulus, Power, BitwiseAnd, BitwiseOr, BitwiseXor, BitwiseXnor, LogicalEqual, LogicalNotEqual, CaseEqual, CaseNotEqual, WildcardEqual, WildcardNotEqual, Less, LessOrEqual, Greater, GreaterOrEqual, LogicalAnd, LogicalOr, LogicalImplication, LogicalEquivalence, LogicalShiftLeft, LogicalShiftRight, ArithmeticShiftLeft, ArithmeticShiftRight}
use Rattle.sve_value.specs.Vector.{Vector}
use Rattle.sve_value.specs.Alike.{IsAlike}
use Rattle.sve_value.specs.Operators.{Suits}

pub suits_alike : (op : Binary) (a b : Vector) → IsAlike a b → Suits op a b
suits_alike Power a b h = tt
suits_alike LogicalAnd a b h = tt
suits_alike LogicalOr a b h = tt
suits_alike LogicalImplication a b h = tt
suits_alike LogicalEquivalence a b h = tt
suits_alike LogicalShiftLeft a b h = tt
suits_alike LogicalShiftRight a b h = tt
suits_alike ArithmeticShiftLeft a b h = tt
suits_alike ArithmeticShiftRight a b h = tt
suits_alike Add a b h = h
suits_alike Subtract a b h = h
suits_alike Multiply a b h = h
suits_alike Divide a b h = h
suits_alike Modulus a b h = h
suits_alike BitwiseAnd a b h = h
suits_alike BitwiseOr a b h = h
suits_alike BitwiseXor a b h = h
suits_alike BitwiseXnor a b h = h
suits_alike LogicalEqual a b h = h
suits_alike LogicalNotEqual a b h = h
suits_alike CaseEqual a b h = h
suits_alike CaseNotEqual a b h = h
suits_alike WildcardEqual a b h = h
suits_alike WildcardNotEqual a b h = h
suits_alike Less a b h = h
suits_alike LessOrEqual a b h = h
suits_alike Greater a b h = h
suits_alike GreaterOrEqual a b h = h
