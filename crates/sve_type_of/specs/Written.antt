-- Types that hold no other type: by keywords, by names, and enumerations.
pub use Rattle.sve_simple_type.specs.Simple.{ranges_behind, atom_kind, vector_kind, atom_typed, vector_typed, implicit_typed, wrong_by_code, wrong_by, no_type, type_named, is_empty, name_behind, named_over, named_typed}
pub use Rattle.sve_enum_type.specs.Enumerations.{form_can_be_base, no_unpacked, can_be_base, int_form, base_over, base_by, base_of, target_of, listing, name_value, listed, name_after, names_behind, no_name, enumerated, names_over, enumeration_over, enumeration_typed, Listing}
