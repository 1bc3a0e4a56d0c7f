mod DeclaredType
mod DataTypes
