-- What is found of what is not there.
use Rattle.std.specs.Prelude.{[]}
use Rattle.sve_facts.specs.declared.facts.Facts.{Facts}

abbrev pub no_facts : Facts
no_facts = record { scopes = []; params = []; ports = []; children = []; hierarchical = []; nets = []; notes = [] }
