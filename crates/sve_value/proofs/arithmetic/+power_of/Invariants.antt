use Rattle.sve_value.proofs.arithmetic.+power_of.Given as goal

abbrev pub decreases-power_of : goal.decreases-power_of
decreases-power_of l = l.exponent
