use Rattle.entries.proofs.Filled.{Filled}
use Rattle.entries.proofs.entries_from.Given as goal

-- the places up to this one are filled, and the others empty
abbrev pub invariant-loop-i : goal.invariant-loop-i
invariant-loop-i g l = Filled (g.E.Row.entry_in l.rows) g.E.Row.nothing g.row.N l.i l.entries
