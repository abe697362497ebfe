-- How long the written text is: line by line, and 2,603 bytes at the most. Assumes nothing.
use Prim.Native.Nat.{ℕ, zero, suc, ◌+◌, ◌*◌, ◌≤◌, ◌<◌}
use mathlib.Core.Path.{◌≡◌, refl, sym, ap, ◌∙◌}
use mathlib.Core.List.{List, [], ◌∷◌, ◌++◌, append_assoc, map}
use mathlib.Core.Bool.{Bool, true}
use native.Mathlib.Nat.{mul-suc}
use native.Mathlib.Omega.{arith}
use lib.ListN.{length, get_or, take, drop, length-append}
use lib.Dec.{leb}
use borrow.Author.Tests.{leb-true}
use Rattle.basics.proofs.Tests.{and_left, and_right}
use Rattle.table.specs.Rules.{all, between, in_ticks, server_obeys, release_obeys, task_obeys, servers_of, tasks_of}
use Rattle.table.specs.Places.{Obeyed}
use Rattle.table.specs.declared.Kind.{Kind}
use Rattle.table.specs.declared.Kind.TheVariants.{Deferrable, Periodic}
use Rattle.table.specs.declared.Release.{Release}
use Rattle.table.specs.declared.Release.TheVariants.{Once, Every}
use Rattle.table.specs.declared.Server.{Server}
use Rattle.table.specs.declared.Task.{Task}
use Rattle.table.specs.declared.Table.{Table}
use Rattle.table.proofs.Entries.{entry_next, entry_end}
use Rattle.table.proofs.Obeyed.{between_high, server_numbers, parts, servers_most, tasks_most, span_most}
use Rattle.putting.specs.Decimal.{decimal}
use Rattle.putting.proofs.Decimals.{decimal_below}
use Rattle.writing.specs.Text.{joined, ended, span_fields, kind_word, server_fields, released_fields, task_fields, span_line, server_line, task_line, text_of}
use Rattle.writing.specs.Lengths.{line_length, lines_length}

-- ---- a line is as long as its fields, with one byte behind each

pub line_length_lem : (f : List ℕ) (fs : List (List ℕ)) → length (joined (f ∷ fs)) + 1 ≡ line_length (f ∷ fs)
unfolding joined line_length
line_length_lem f [] = omega arith
line_length_lem f (g ∷ fs) = omega (arith, length-append f (9 ∷ joined (g ∷ fs)), line_length_lem g fs)

pub span_length : (H : ℕ) → length (span_line H) + 1 ≡ line_length (span_fields H)
unfolding span_line
span_length H = line_length_lem _ _

pub server_length : (s : Server) → length (server_line s) + 1 ≡ line_length (server_fields s)
unfolding server_line
server_length s = line_length_lem _ _

-- by its release
pub task_length_at : (k : Task) {r : Release} → k.release ≡ r → length (task_line k) + 1 ≡ line_length (released_fields r k.server k.work k.deadline)
unfolding task_line
task_length_at k {r} e = rw e (go r)
  where
    go : (r : Release) → length (joined (released_fields r k.server k.work k.deadline)) + 1 ≡ line_length (released_fields r k.server k.work k.deadline)
    go (Once i) = line_length_lem _ _
    go (Every o p) = line_length_lem _ _

task_length : (k : Task) → length (task_line k) + 1 ≡ line_length (task_fields k)
task_length k = task_length_at k refl

-- ---- the lines together

pub ended_append : (ls ms : List (List ℕ)) → ended (ls ++ ms) ≡ ended ls ++ ended ms
unfolding ended
ended_append [] ms = refl
ended_append (l ∷ ls) ms = ap (λ (r : List ℕ). l ++ (10 ∷ r)) (ended_append ls ms) ∙ sym (append_assoc l (10 ∷ ended ls) (ended ms))

lines_length_lem : {A : Type 0} (fields : A → List (List ℕ)) (line : A → List ℕ) → ((a : A) → length (line a) + 1 ≡ line_length (fields a)) → (l : List A)
    → length (ended (map line l)) ≡ lines_length fields l
unfolding ended lines_length
lines_length_lem fields line is [] = refl
lines_length_lem fields line is (a ∷ l) = omega (arith, length-append (line a) (10 ∷ ended (map line l)), is a, lines_length_lem fields line is l)

pub servers_length : (ss : List Server) → length (ended (map server_line ss)) ≡ lines_length server_fields ss
servers_length ss = lines_length_lem server_fields server_line server_length ss

pub tasks_length : (ks : List Task) → length (ended (map task_line ks)) ≡ lines_length task_fields ks
tasks_length ks = lines_length_lem task_fields task_line task_length ks

-- the text is its first line, then those of the servers, then those of the tasks
pub text_parts : (table : Table)
    → text_of table ≡ (span_line table.span ++ (10 ∷ [])) ++ (ended (map server_line (servers_of table)) ++ ended (map task_line (tasks_of table)))
unfolding ended
text_parts table =
    let ss = map server_line (servers_of table) in
    let ks = map task_line (tasks_of table) in
    ap (λ (l : List ℕ). span_line table.span ++ (10 ∷ l)) (ended_append ss ks)
    ∙ sym (append_assoc (span_line table.span) (10 ∷ []) (ended ss ++ ended ks))

pub text_sizes : (table : Table)
    → length (text_of table) ≡ length (span_line table.span ++ (10 ∷ [])) + (length (ended (map server_line (servers_of table))) + length (ended (map task_line (tasks_of table))))
text_sizes table =
    let ss = ended (map server_line (servers_of table)) in
    let ks = ended (map task_line (tasks_of table)) in
    omega (arith, ap length (text_parts table), length-append (span_line table.span ++ (10 ∷ [])) (ss ++ ks), length-append ss ks)

pub text_length : (table : Table)
    → length (text_of table) ≡ line_length (span_fields table.span) + (lines_length server_fields (servers_of table) + lines_length task_fields (tasks_of table))
text_length table =
    let span = span_line table.span in
    omega (
      arith,
      text_sizes table,
      length-append span (10 ∷ []),
      span_length table.span,
      servers_length (servers_of table),
      tasks_length (tasks_of table),
    )

-- ---- counted entry by entry

module _ {A : Type 0} (fields : A → List (List ℕ)) (xs : List A) (n : ℕ) (h : n ≤ length xs) where
  -- so many bytes, and the lines from place i on, are all lines
  abbrev pub Counted : ℕ → ℕ → Type 0
  Counted m i = m + lines_length fields (drop i (take n xs)) ≡ lines_length fields (take n xs)

  -- one line more
  pub counted_next : (d : A) (m i : ℕ) {r : ℕ} → i < n → r ≡ line_length (fields (get_or xs i d)) → Counted m i → Counted (m + r) (i + 1)
  unfolding lines_length
  counted_next d m i k e c = omega (arith, ap (lines_length fields) (entry_next xs n h d i k))

  -- all
  pub counted_all : (m i : ℕ) → n ≤ i → Counted m i → m ≡ lines_length fields (take n xs)
  unfolding lines_length
  counted_all m i k c = omega (arith, ap (lines_length fields) (entry_end xs n h i k))

-- ---- at the most

five : (n : ℕ) → n ≤ 16000 → length (decimal n) ≤ 5
five n h = decimal_below 4 n (omega arith)

kind_most : (k : Kind) → length (kind_word k) ≤ 10
kind_most Deferrable = omega arith
kind_most Periodic = omega arith

server_most : (s : Server) → server_obeys s ≡ true → line_length (server_fields s) ≤ 30
unfolding line_length
server_most s h = let n = server_numbers s h in omega (arith, kind_most s.kind, five s.capacity n.0, five s.period n.1)

released_most : (r : Release) (s w d : ℕ) → s ≤ 16 → w ≤ 16000 → d ≤ 16000 → release_obeys r ≡ true → line_length (released_fields r s w d) ≤ 33
unfolding line_length
released_most (Once i) s w d a b c h =
    omega (arith, decimal_below 1 s (omega arith), five w b, five d c, five i (leb-true i 16000 h))
released_most (Every o p) s w d a b c h =
    let e = and_left (leb o 16000) (in_ticks p) h in
    let q = and_right (leb o 16000) (in_ticks p) h in
    omega (arith, decimal_below 1 s (omega arith), five w b, five d c, five o (leb-true o 16000 e), five p (between_high 1 16000 p q))

task_most : (servers : ℕ) → servers ≤ 16 → (k : Task) → task_obeys servers k ≡ true → line_length (task_fields k) ≤ 33
task_most servers f k h =
    let e₁ = and_right (between 1 servers k.server) _ h in
    let e₂ = and_right (in_ticks k.work) _ e₁ in
    let s = between_high 1 servers k.server (and_left (between 1 servers k.server) _ h) in
    released_most k.release k.server k.work k.deadline (omega (arith, s, f))
    (between_high 1 16000 k.work (and_left (in_ticks k.work) _ e₁))
    (between_high 1 16000 k.deadline (and_right (release_obeys k.release) _ e₂)) (and_left (release_obeys k.release) _ e₂)

lines_most : {A : Type 0} (fields : A → List (List ℕ)) (test : A → Bool) (most : ℕ) → ((a : A) → test a ≡ true → line_length (fields a) ≤ most) → (l : List A)
    → all test l ≡ true → lines_length fields l ≤ most * length l
unfolding all lines_length
lines_most fields test most each [] h = omega arith
lines_most fields test most each (a ∷ l) h =
    omega (
      arith,
      each a (and_left (test a) (all test l) h),
      lines_most fields test most each l (and_right (test a) (all test l) h),
      mul-suc most (length l),
    )

take_most : {A : Type 0} (n : ℕ) (l : List A) → length (take n l) ≤ n
take_most zero l = omega arith
take_most (suc n) [] = omega arith
take_most (suc n) (a ∷ l) = omega (arith, take_most n l)

-- 11 for the span, 30 for each of 16 servers, 33 for each of 64 tasks
pub text_most : (table : Table) → Obeyed table → length (text_of table) ≤ 2603
unfolding line_length
text_most table o =
    let p = parts table o in
    let few = servers_most table o in
    omega (
      arith,
      text_length table,
      five table.span (span_most table o),
      lines_most server_fields server_obeys 30 server_most (servers_of table) p.each_server,
      lines_most task_fields (task_obeys table.servers_n) 33 (task_most table.servers_n few) (tasks_of table) p.each_task,
      take_most table.servers_n table.servers,
      take_most table.tasks_n table.tasks,
      few,
      tasks_most table o,
    )
