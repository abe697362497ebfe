-- What is put on a page.
use Rattle.std.specs.Prelude.{ℕ, ◌≡◌, List}
use Rattle.putting.specs.declared.Page.{Page}
use Rattle.putting.specs.Puts.{Put}

-- bytes put behind those that a page has: it is the page of the same buffer afterwards, and counts them all
pub record Adds (old new : Page) (bytes : List ℕ) : Type 0 where
  pub same_buffer : new.bytes.ghost_name ≡ old.bytes.ghost_name
  pub puts : Put old.bytes.now new.bytes.now old.count bytes new.count
