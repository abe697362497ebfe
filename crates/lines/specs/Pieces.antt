-- What the functions that read fields promise.
use Rattle.std.specs.Prelude.{◌≡◌, ℕ, Result, Ok, Err, MatchResult}
use Rattle.refusals.specs.declared.Ground.{Ground}
use Rattle.lines.specs.declared.Wrong.{Wrong}

-- r is what a field was read as, or what is wrong with it, and at which place
abbrev pub ReadAt : {A : Type 0} → Result A Ground → ℕ → Result A Wrong → Type 0
ReadAt read place r = MatchResult r (λ x. read ≡ Ok x) (λ w. (read ≡ Err w.ground) × (w.place ≡ place))
