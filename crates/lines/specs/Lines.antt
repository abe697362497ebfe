-- Document 01, 'The table text': what one line says, with the tests in their order: 3, 7, 4, 5, 6, within 5 and within 6 from the left.
use Rattle.std.specs.Prelude.{ℕ, List, Bool, ◌&&◌, length, ltb, leb, eqb, Option, Some, None, Result, Ok, Err}
use Rattle.basics.specs.Choice.{pick}
use Rattle.table.specs.Rules.{between, in_ticks}
use Rattle.table.specs.declared.Kind.{Kind}
use Rattle.table.specs.declared.Kind.TheVariants.{Deferrable, Periodic}
use Rattle.table.specs.declared.Release.{Release}
use Rattle.table.specs.declared.Release.TheVariants as release
use Rattle.table.specs.declared.Task.{Task}
use Rattle.fields.specs.Fields.{fields_of, field_at, same_bytes, deferrable_word, periodic_word, dash, word_of, field_number}
use Rattle.refusals.specs.declared.Ground.{Ground}
use Rattle.refusals.specs.declared.Ground.TheVariants.{Misplaced, TooMany, FieldCount, Empty, UnknownKind, OutOfRange}
use Rattle.fields.specs.declared.Word.{Word}
use Rattle.fields.specs.declared.Word.TheVariants as word
use Rattle.lines.specs.declared.Line.{Line}
use Rattle.lines.specs.declared.Line.TheVariants.{SpanIs, ServerIs, TaskIs}
use Rattle.lines.specs.declared.Wrong.{Wrong}

-- what is wrong, and at which place
abbrev pub wrong_at : (ground : Ground) (place : ℕ) → Wrong
wrong_at g place = record { ground = g; place = place }

-- the answer of a line with which something is wrong
abbrev pub wrong : Ground → ℕ → Result Line Wrong
wrong g place = Err (wrong_at g place)

-- "A refused field ends the reading of its line with that answer"
abbrev pub field : {A : Type 0} → Result A Ground → ℕ → (A → Result Line Wrong) → Result Line Wrong
field (Ok x) place next = next x
field (Err what) place next = wrong what place

-- "ranges are tested once all fields of the line have passed 5"
abbrev pub ranged : {A : Type 0} → Bool → ℕ → Result A Wrong → Result A Wrong
ranged ok place next = pick ok next (Err (wrong_at OutOfRange place))

-- the number at a place
abbrev pub number_at : List ℕ → ℕ → (ℕ → Result Line Wrong) → Result Line Wrong
number_at line place next = field (field_number (field_at line place)) place next

-- the numbers at two places
abbrev pub numbers_at : List ℕ → ℕ → ℕ → (ℕ → ℕ → Result Line Wrong) → Result Line Wrong
numbers_at line first second next = number_at line first (λ a. number_at line second (λ b. next a b))

-- 4: "wrong count of fields"
abbrev pub counted : {A : Type 0} → List ℕ → ℕ → Result A Wrong → Result A Wrong
counted line n next = pick (eqb (length (fields_of line)) n) next (Err (wrong_at FieldCount 0))

-- `span`: "ticks H, or `-`", which is 0 until all periods are known
abbrev pub span_line : List ℕ → Result Line Wrong
span_line line = counted line 2 (pick (same_bytes (field_at line 2) dash) (Ok (SpanIs 0)) (number_at line 2 (λ h. ranged (in_ticks h) 2 (Ok (SpanIs h)))))

-- "`deferrable` or `periodic`"
abbrev pub kind_of : List ℕ → Result Kind Ground
kind_of f =
    pick (eqb (length f) 0) (Err Empty)
    (pick (same_bytes f deferrable_word) (Ok Deferrable) (pick (same_bytes f periodic_word) (Ok Periodic) (Err UnknownKind)))

-- `server`: kind, "capacity C, period T"; "C not above T"
abbrev pub server_is : Kind → ℕ → ℕ → Result Line Wrong
server_is k c t = ranged (in_ticks c && leb c t) 3 (ranged (in_ticks t) 4 (Ok (ServerIs (record { kind = k; capacity = c; period = t }))))

abbrev pub server_line : List ℕ → Result Line Wrong
server_line line = counted line 4 (field (kind_of (field_at line 2)) 2 (λ k. numbers_at line 3 4 (λ c t. server_is k c t)))

-- ---- task lines

-- "server, work": every task line starts with them, and they are read first
abbrev pub server_and_work : List ℕ → (ℕ → ℕ → Result Line Wrong) → Result Line Wrong
server_and_work line next = numbers_at line 2 3 next

-- a task whose deadline, at its place, is the last to be tested: "deadline 1 to 16,000"
abbrev pub due_at : ℕ → Task → Result Line Wrong
due_at place k = ranged (in_ticks k.deadline) place (Ok (TaskIs k))

-- what stands behind server and work: "instant, deadline", or "offset, period, deadline"
abbrev pub release_is : Release → Task → Result Line Wrong
release_is (release.Once i) k = ranged (leb i 16000) 4 (due_at 5 k)
release_is (release.Every o p) k = ranged (leb o 16000) 4 (ranged (in_ticks p) 5 (due_at 6 k))

-- the ranges of a task, from the left: "server 1 to the number of servers", work, then those of its release
abbrev pub task_is : ℕ → Task → Result Line Wrong
task_is servers k = ranged (between 1 servers k.server) 2 (ranged (in_ticks k.work) 3 (release_is k.release k))

-- `once`: "server, work, instant, deadline"
abbrev pub once_line : ℕ → List ℕ → Result Line Wrong
once_line servers line =
    counted line 5
    (server_and_work line (λ s w. numbers_at line 4 5 (λ i d. task_is servers (record { server = s; work = w; release = release.Once i; deadline = d }))))

-- "`-` in an `every` line means that the deadline is the period"
abbrev pub deadline_of : List ℕ → ℕ → Result ℕ Ground
deadline_of f period = pick (same_bytes f dash) (Ok period) (field_number f)

-- `every`: "server, work, offset, period, deadline or `-`"
abbrev pub every_line : ℕ → List ℕ → Result Line Wrong
every_line servers line =
    counted line 6
    (server_and_work line (λ s w.
    numbers_at line 4 5 (λ o p.
    field (deadline_of (field_at line 6) p) 6 (λ d. task_is servers (record { server = s; work = w; release = release.Every o p; deadline = d })))))

-- ---- by the first word

-- 3: "first field unknown or in the wrong place", "First `span`, then servers, then tasks"
abbrev pub placed : {A : Type 0} → Bool → Result A Wrong → Result A Wrong
placed ok next = pick ok next (Err (wrong_at Misplaced 0))

-- 7: "a 17th server or 65th task"
abbrev pub fewer : {A : Type 0} → Bool → Result A Wrong → Result A Wrong
fewer ok next = pick ok next (Err (wrong_at TooMany 0))

-- a task line stands behind a server: "as a task line before any server line"
abbrev pub task_placed : {A : Type 0} → ℕ → ℕ → Result A Wrong → Result A Wrong
task_placed servers tasks next = placed (ltb 0 servers) (fewer (ltb tasks 64) next)

-- line n, behind so many servers and tasks
abbrev pub by_word : Option Word → ℕ → ℕ → ℕ → List ℕ → Result Line Wrong
by_word (Some word.Span) n servers tasks line = placed (eqb n 1) (span_line line)
by_word (Some word.Server) n servers tasks line = placed (ltb 1 n && eqb tasks 0) (fewer (ltb servers 16) (server_line line))
by_word (Some word.Once) n servers tasks line = task_placed servers tasks (once_line servers line)
by_word (Some word.Every) n servers tasks line = task_placed servers tasks (every_line servers line)
by_word None n servers tasks line = wrong Misplaced 0

abbrev pub line_of : ℕ → ℕ → ℕ → List ℕ → Result Line Wrong
line_of n servers tasks line = by_word (word_of (field_at line 1)) n servers tasks line
