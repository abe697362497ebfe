-- What definitions of every layer use.
use Rattle.std.specs.Prelude.{Bool, true, false}

-- a choice by a test
abbrev pub pick {ℓ} : {A : Type ℓ} → Bool → A → A → A
pick true a b = a
pick false a b = b
