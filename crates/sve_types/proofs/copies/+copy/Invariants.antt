use Rattle.std.proofs.Common.{◌+◌, ◌*◌}
use Rattle.sve_types.specs.View.{form_of, size_of, form_size}
use Rattle.sve_types.proofs.copies.+copy.Given as goal

abbrev pub decreases-copy_of : goal.decreases-copy_of
decreases-copy_of l = 3 * size_of l.t.now + 2

abbrev pub decreases-copy_of_base : goal.decreases-copy_of_base
decreases-copy_of_base l = 3 * form_size (form_of l.base.now) + 1
