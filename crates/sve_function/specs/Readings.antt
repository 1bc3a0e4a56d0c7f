-- What declarations make of a scope, by their constants (IEEE 1800-2017, 6.18 to 6.20 and 13.4).
use Rattle.sve_package.specs.Readings.{Readings}
use Rattle.sve_scoped.specs.Known.{told_in}
use Rattle.sve_declare.specs.Parameters.{with_parameters}
use Rattle.sve_declare.specs.Typedefs.{with_typedef}
use Rattle.sve_local.specs.Used.{name_used}
use Rattle.sve_function.specs.Functions.{with_function}

abbrev pub readings : Readings
readings = record {
  parameters = λ packages ws. with_parameters (told_in packages ws) ws;
  typedef = λ packages ws. with_typedef (told_in packages ws) ws;
  function = λ packages ws. with_function (told_in packages ws) (name_used packages ws) ws;
}
