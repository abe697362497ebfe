-- `table::euclid::gcd` ends: the second number falls.
use Rattle.table.proofs.euclid.+gcd.Given as goal

abbrev pub decreases-gcd : goal.decreases-gcd
decreases-gcd l = l.b
