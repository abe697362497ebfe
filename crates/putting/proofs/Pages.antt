-- Bytes put on a page, and more behind them. Assumes nothing.
use Rattle.std.proofs.Common.{ℕ, ◌≡◌, ◌+◌, ◌<◌, List, [], ◌∷◌, ◌++◌, length, take, get_or, refl, ◌∙◌, add-one}
use lib.Seq.{take-suc}
use Rattle.putting.specs.declared.Page.{Page}
use Rattle.putting.specs.Puts.{Put}
use Rattle.putting.specs.Pages.{Adds}
use Rattle.putting.proofs.Puts.{put_more, put_none}

-- no byte
pub adds_none : (page : Page) → Adds page page []
adds_none page = record { same_buffer = refl; puts = put_none _ _ }

-- bytes, and more behind them
pub adds_more : {p q r : Page} {a b : List ℕ} → Adds p q a → Adds q r b → Adds p r (a ++ b)
adds_more v w = record { same_buffer = w.same_buffer ∙ v.same_buffer; puts = put_more v.puts w.puts }

-- a byte of a word more
pub adds_next : {p q r : Page} (word : List ℕ) (i : ℕ) → i < length word → Adds p q (take i word)
    → Adds q r (get_or word i 0 ∷ []) → Adds p r (take (i + 1) word)
adds_next word i h v w = rw (add-one, take-suc word i 0 h) (adds_more v w)

-- on a page that had no byte they stand at the front
pub adds_first : {p q : Page} {old new bytes : List ℕ} → p.bytes.now ≡ old → p.count ≡ 0 → Adds p q bytes → new ≡ q.bytes.now → Put old new 0 bytes q.count
adds_first now count v e = rw (← now, ← count, e) v.puts
