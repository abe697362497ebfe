-- Reading what was written: line after line, then the whole text. Assumes nothing.
use Prim.Native.Nat.{ℕ, ◌+◌, ◌≤◌, ◌<◌}
use mathlib.Core.Path.{◌≡◌, refl, sym, ap, ap₂, ◌∙◌}
use mathlib.Core.List.{List, [], ◌∷◌, ◌++◌, append_assoc, append-nil, map}
use mathlib.Core.Bool.{Bool, true, ◌&&◌}
use native.Mathlib.Numerals.{add-one}
use native.Mathlib.Omega.{arith}
use lib.ListN.{length, take, length-set}
use lib.Seq.{take-suc-set, length-take-le}
use lib.Dec.{ltb}
use borrow.Author.Tests.{lt-ltb, le-leb, ne_eqb}
use Rattle.std.specs.Prelude.{Result, Ok}
use Rattle.basics.proofs.Tests.{and_left, and_right}
use Rattle.refusals.specs.declared.Refusal.{Refusal}
use Rattle.table.specs.Rules.{all, server_obeys, task_obeys, servers_of, tasks_of}
use Rattle.table.specs.Places.{Obeyed, Same}
use Rattle.table.proofs.Entries.{all_append}
use Rattle.table.proofs.Obeyed.{Parts, parts, servers_most, tasks_most, span_some}
use Rattle.table.specs.declared.Server.{Server}
use Rattle.table.specs.declared.Task.{Task}
use Rattle.table.specs.declared.Table.{Table}
use Rattle.fields.specs.Fields.{lines_of}
use Rattle.lines.specs.Lines.{line_of}
use Rattle.reading.specs.Reading.{no_table, accepted, with_span, with_server, with_task, ended_of, after_line, read_lines, ends_with_feed, reading_of}
use Rattle.reading.proofs.Feeds.{feed_last}
use Rattle.lines.specs.declared.Line.{Line}
use Rattle.lines.specs.declared.Line.TheVariants.{SpanIs, ServerIs, TaskIs}
use Rattle.lines.specs.declared.Wrong.{Wrong}
use Rattle.writing.specs.Text.{ended, span_fields, server_fields, task_fields, span_line, server_line, task_line, lines_in, text_of}
use Rattle.writing.proofs.Parted.{without, line_without, lines_back}
use Rattle.writing.proofs.Spoken.{picks_first, picks_second, span_clear, server_clear, task_clear, span_read, server_read, task_read}
use Rattle.writing.proofs.Lengths.{text_most}

-- ---- the lines of the text are those that were written

map_all : {A : Type 0} (test : List ℕ → Bool) (line : A → List ℕ) → ((a : A) → test (line a) ≡ true) → (l : List A) → all test (map line l) ≡ true
unfolding all
map_all test line each [] = refl
map_all test line each (a ∷ l) = rw (each a) (map_all test line each l)

span_without : (H : ℕ) → without 10 (span_line H) ≡ true
unfolding span_line
span_without H = line_without (span_fields H) (span_clear H)

server_without : (s : Server) → without 10 (server_line s) ≡ true
unfolding server_line
server_without s = line_without (server_fields s) (server_clear s)

task_without : (k : Task) → without 10 (task_line k) ≡ true
unfolding task_line
task_without k = line_without (task_fields k) (task_clear k)

lines_without : (table : Table) → all (without 10) (lines_in table) ≡ true
unfolding all
lines_without table =
    rw (span_without table.span)
    (all_append (without 10) (map server_line (servers_of table)) (map task_line (tasks_of table))
    (map_all (without 10) server_line server_without (servers_of table)) (map_all (without 10) task_line task_without (tasks_of table)))

pub text_lines : (table : Table) → lines_of (text_of table) ≡ lines_in table
text_lines table = lines_back (lines_in table) (lines_without table)

-- ---- entries stored one after the other

unfoldable pub with_servers : Table → List Server → Table
with_servers t [] = t
with_servers t (s ∷ ss) = with_servers (with_server t s) ss

unfoldable pub with_tasks : Table → List Task → Table
with_tasks t [] = t
with_tasks t (k ∷ ks) = with_tasks (with_task t k) ks

-- the table that is read from what was written
abbrev pub again : Table → Table
again table = with_tasks (with_servers (with_span no_table table.span) (servers_of table)) (tasks_of table)

-- what a table has after servers were stored in it
pub record Served (t u : Table) (ss : List Server) : Type 0 where
  pub span : u.span ≡ t.span
  pub servers_n : u.servers_n ≡ t.servers_n + length ss
  pub tasks_n : u.tasks_n ≡ t.tasks_n
  pub servers : servers_of u ≡ servers_of t ++ ss
  pub tasks : u.tasks ≡ t.tasks

served : (t : Table) (ss : List Server) → t.servers_n + length ss ≤ length t.servers → Served t (with_servers t ss) ss
unfolding with_servers
served t [] h = record { span = refl; servers_n = omega arith; tasks_n = refl; servers = sym (append-nil (servers_of t)); tasks = refl }
served t (s ∷ ss) h = more (served (with_server t s) ss (omega (arith, length-set t.servers t.servers_n s)))
  where
    u : Table
    u = with_servers (with_server t s) ss

    one : servers_of (with_server t s) ≡ servers_of t ++ (s ∷ [])
    one = rw add-one (take-suc-set t.servers t.servers_n s (omega arith))

    more : Served (with_server t s) u ss → Served t u (s ∷ ss)
    more r = record {
      span = r.span;
      servers_n = omega (arith, r.servers_n);
      tasks_n = r.tasks_n;
      servers = r.servers ∙ ap (λ (l : List Server). l ++ ss) one ∙ append_assoc (servers_of t) (s ∷ []) ss;
      tasks = r.tasks;
    }

-- and after tasks were
pub record Tasked (t u : Table) (ks : List Task) : Type 0 where
  pub span : u.span ≡ t.span
  pub servers_n : u.servers_n ≡ t.servers_n
  pub tasks_n : u.tasks_n ≡ t.tasks_n + length ks
  pub servers : u.servers ≡ t.servers
  pub tasks : tasks_of u ≡ tasks_of t ++ ks

tasked : (t : Table) (ks : List Task) → t.tasks_n + length ks ≤ length t.tasks → Tasked t (with_tasks t ks) ks
unfolding with_tasks
tasked t [] h = record { span = refl; servers_n = refl; tasks_n = omega arith; servers = refl; tasks = sym (append-nil (tasks_of t)) }
tasked t (k ∷ ks) h = more (tasked (with_task t k) ks (omega (arith, length-set t.tasks t.tasks_n k)))
  where
    u : Table
    u = with_tasks (with_task t k) ks

    one : tasks_of (with_task t k) ≡ tasks_of t ++ (k ∷ [])
    one = rw add-one (take-suc-set t.tasks t.tasks_n k (omega arith))

    more : Tasked (with_task t k) u ks → Tasked t u (k ∷ ks)
    more r = record {
      span = r.span;
      servers_n = r.servers_n;
      tasks_n = omega (arith, r.tasks_n);
      servers = r.servers;
      tasks = r.tasks ∙ ap (λ (l : List Task). l ++ ks) one ∙ append_assoc (tasks_of t) (k ∷ []) ks;
    }

-- ---- line after line

after : (line said : Result Line Wrong) (t : Table) (n : ℕ) (next : Table → Result Table Refusal) (r : Result Table Refusal) → line ≡ said → after_line said t n next ≡ r → after_line line t n next ≡ r
after line said t n next r e h = rw e h

read_servers : (ss : List Server) (rest : List (List ℕ)) (t : Table) (n : ℕ) → t.tasks_n ≡ 0 → 1 < n → t.servers_n + length ss ≤ 16
    → all server_obeys ss ≡ true → read_lines (map server_line ss ++ rest) t n ≡ read_lines rest (with_servers t ss) (n + length ss)
unfolding with_servers all read_lines
read_servers [] rest t n z k h a = ap (read_lines rest t) (omega arith)
read_servers (s ∷ ss) rest t n z k h a =
    let line = server_line s in
    let ls = map server_line ss ++ rest in
    let spoken : line_of n t.servers_n t.tasks_n line ≡ Ok (ServerIs s) =
    ap (λ (m : ℕ). line_of n t.servers_n m line) z
    ∙ server_read s n t.servers_n k (omega arith) (and_left (server_obeys s) (all server_obeys ss) a) in
    after (line_of n t.servers_n t.tasks_n line) (Ok (ServerIs s)) t n (λ u. read_lines ls u (n + 1)) _ spoken
    (read_servers ss rest (with_server t s) (n + 1) z (omega arith) (omega arith) (and_right (server_obeys s) (all server_obeys ss) a)
    ∙ ap (read_lines rest (with_servers (with_server t s) ss)) (omega arith))

read_tasks : (ks : List Task) (t : Table) (n : ℕ) → 0 < t.servers_n → t.servers_n ≤ 16 → t.tasks_n + length ks ≤ 64
    → all (task_obeys t.servers_n) ks ≡ true → read_lines (map task_line ks) t n ≡ ended_of (with_tasks t ks) (n + length ks)
unfolding with_tasks all read_lines
read_tasks [] t n z k h a = ap (ended_of t) (omega arith)
read_tasks (x ∷ ks) t n z k h a =
    let line = task_line x in
    let test = task_obeys t.servers_n in
    let spoken : line_of n t.servers_n t.tasks_n line ≡ Ok (TaskIs x) =
    task_read n t.servers_n t.tasks_n z k (omega arith) x (and_left (test x) (all test ks) a) in
    after (line_of n t.servers_n t.tasks_n line) (Ok (TaskIs x)) t n (λ u. read_lines (map task_line ks) u (n + 1)) _ spoken
    (read_tasks ks (with_task t x) (n + 1) z k (omega arith) (and_right (test x) (all test ks) a)
    ∙ ap (ended_of (with_tasks (with_task t x) ks)) (omega arith))

-- ---- the text ends with a line feed

ended_feeds : (l : List ℕ) (ls : List (List ℕ)) → (f : List ℕ) × (ended (l ∷ ls) ≡ f ++ (10 ∷ []))
unfolding ended
ended_feeds l [] = (l, refl)
ended_feeds l (m ∷ ls) =
    let r = ended_feeds m ls in
    (l ++ (10 ∷ r.0), ap (λ (x : List ℕ). l ++ (10 ∷ x)) r.1 ∙ sym (append_assoc l (10 ∷ r.0) (10 ∷ [])))

text_feeds : (l : List ℕ) (ls : List (List ℕ)) → ends_with_feed (ended (l ∷ ls)) ≡ true
text_feeds l ls = let r = ended_feeds l ls in ap ends_with_feed r.1 ∙ feed_last r.0

-- ---- the whole text

ended_right : (t : Table) (n : ℕ) → 0 < t.servers_n → 0 < t.tasks_n → 0 < t.span → ended_of t n ≡ accepted t
ended_right t n a b c =
    let some : (ltb 0 t.servers_n && ltb 0 t.tasks_n) ≡ true = rw (lt-ltb 0 t.servers_n a) (lt-ltb 0 t.tasks_n b) in
    picks_first _ _ _ _ some
    (picks_second _ _ _ _ (ne_eqb t.span 0 (λ e. omega (arith, e, c))) refl)

-- the table before its servers, and before its tasks
abbrev spanned : Table → Table
spanned table = with_span no_table table.span

abbrev manned : Table → Table
manned table = with_servers (spanned table) (servers_of table)

module _ (table : Table) (o : Obeyed table) where
  rules : Parts table o
  rules = parts table o

  few : table.servers_n ≤ 16
  few = servers_most table o

  many : table.tasks_n ≤ 64
  many = tasks_most table o

  servers_count : length (servers_of table) ≡ table.servers_n
  servers_count = length-take-le table.servers_n table.servers o.servers

  tasks_count : length (tasks_of table) ≡ table.tasks_n
  tasks_count = length-take-le table.tasks_n table.tasks o.tasks

  with_servers_lem : Served (spanned table) (manned table) (servers_of table)
  with_servers_lem = served (spanned table) (servers_of table) (omega (arith, servers_count, few))

  manned_count : (manned table).servers_n ≡ table.servers_n
  manned_count = omega (arith, with_servers_lem.servers_n, servers_count)

  with_tasks_lem : Tasked (manned table) (again table) (tasks_of table)
  with_tasks_lem =
      tasked (manned table) (tasks_of table) (omega (arith, with_servers_lem.tasks_n, ap length with_servers_lem.tasks, tasks_count, many))

  -- it is the same table
  pub again_same : Same (again table) table
  again_same =
      let s = with_servers_lem in
      let k = with_tasks_lem in
      record {
        span = k.span ∙ s.span;
        servers_n = k.servers_n ∙ manned_count;
        tasks_n = omega (arith, k.tasks_n, s.tasks_n, tasks_count);
        servers = ap₂ (λ (n : ℕ) (l : List Server). take n l) k.servers_n k.servers ∙ s.servers;
        tasks = k.tasks ∙ ap (λ (l : List Task). l ++ tasks_of table) (ap₂ (λ (n : ℕ) (l : List Task). take n l) s.tasks_n s.tasks);
      }

  lines_read : read_lines (lines_in table) no_table 1 ≡ accepted (again table)
  unfolding read_lines
  lines_read =
      let ss = servers_of table in
      let ks = tasks_of table in
      let t = manned table in
      let c = manned_count in
      let h : all (task_obeys t.servers_n) ks ≡ true = ap (λ (n : ℕ). all (task_obeys n) ks) c ∙ rules.each_task in
      let g = again_same in
      after _ (Ok (SpanIs table.span)) no_table 1 _ _ (span_read table.span 0 0 rules.span)
      (read_servers ss (map task_line ks) (spanned table) 2 refl (omega arith) (omega (arith, servers_count, few)) rules.each_server
      ∙ read_tasks ks t (2 + length ss) (omega (arith, c, rules.some_server)) (omega (arith, c, few))
      (omega (arith, with_servers_lem.tasks_n, tasks_count, many)) h
      ∙ ended_right (again table) (2 + length ss + length ks) (omega (arith, g.servers_n, rules.some_server)) (omega (arith, g.tasks_n, rules.some_task))
      (omega (arith, g.span, span_some table o)))

  -- the round trip: what was written is read as the table with the same entries, stored anew
  pub text_read : reading_of (text_of table) ≡ accepted (again table)
  text_read =
      picks_first _ _ _ _ (le-leb (length (text_of table)) 4096 (omega (arith, text_most table o)))
      (picks_first _ _ _ _ (text_feeds (span_line table.span) (map server_line (servers_of table) ++ map task_line (tasks_of table)))
      (ap (λ (ls : List (List ℕ)). read_lines ls no_table 1) (text_lines table) ∙ lines_read))
