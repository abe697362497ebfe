-- Document 02, E1, 'The table written back': the text of a table, 01's line forms read backwards.
use Rattle.std.specs.Prelude.{ℕ, List, [], ◌∷◌, ◌++◌, map}
use Rattle.table.specs.Rules.{servers_of, tasks_of}
use Rattle.table.specs.declared.Kind.{Kind}
use Rattle.table.specs.declared.Kind.TheVariants.{Deferrable, Periodic}
use Rattle.table.specs.declared.Release.{Release}
use Rattle.table.specs.declared.Release.TheVariants.{Once, Every}
use Rattle.table.specs.declared.Server.{Server}
use Rattle.table.specs.declared.Task.{Task}
use Rattle.table.specs.declared.Table.{Table}
use Rattle.fields.specs.Fields.{span_word, server_word, once_word, every_word, deferrable_word, periodic_word}
use Rattle.putting.specs.Decimal.{decimal}

-- ---- lines and text

-- "fields parted by one tab": 9
unfoldable pub joined : List (List ℕ) → List ℕ
joined [] = []
joined (f ∷ []) = f
joined (f ∷ (g ∷ fs)) = f ++ (9 ∷ joined (g ∷ fs))

-- "each line ended by a line feed, also the last": 10
unfoldable pub ended : List (List ℕ) → List ℕ
ended [] = []
ended (l ∷ ls) = l ++ (10 ∷ ended ls)

-- ---- the fields of each line: "`span` and deadlines always as numbers, never `-`"

-- `span`: "ticks H"
abbrev pub span_fields : ℕ → List (List ℕ)
span_fields H = span_word ∷ (decimal H ∷ [])

-- "`deferrable` or `periodic`"
abbrev pub kind_word : Kind → List ℕ
kind_word Deferrable = deferrable_word
kind_word Periodic = periodic_word

-- `server`: kind, "capacity C, period T"
abbrev pub server_fields : Server → List (List ℕ)
server_fields s = server_word ∷ (kind_word s.kind ∷ (decimal s.capacity ∷ (decimal s.period ∷ [])))

-- `once`: "server, work, instant, deadline"; `every`: "server, work, offset, period, deadline"
abbrev pub released_fields : Release → ℕ → ℕ → ℕ → List (List ℕ)
released_fields (Once instant) server work deadline =
    once_word ∷ (decimal server ∷ (decimal work ∷ (decimal instant ∷ (decimal deadline ∷ []))))
released_fields (Every offset period) server work deadline =
    every_word ∷ (decimal server ∷ (decimal work ∷ (decimal offset ∷ (decimal period ∷ (decimal deadline ∷ [])))))

abbrev pub task_fields : Task → List (List ℕ)
task_fields k = released_fields k.release k.server k.work k.deadline

-- ---- the text: "First `span`, then servers, then tasks"

unfoldable pub span_line : ℕ → List ℕ
span_line H = joined (span_fields H)

unfoldable pub server_line : Server → List ℕ
server_line s = joined (server_fields s)

unfoldable pub task_line : Task → List ℕ
task_line k = joined (task_fields k)

-- its lines
abbrev pub lines_in : Table → List (List ℕ)
lines_in table = span_line table.span ∷ (map server_line (servers_of table) ++ map task_line (tasks_of table))

abbrev pub text_of : Table → List ℕ
text_of table = ended (lines_in table)
