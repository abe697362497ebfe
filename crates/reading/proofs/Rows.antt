-- Line after line: what a line can say, that the table stays within its rules, and where the next line starts. Assumes nothing.
use Prim.Native.Nat.{ℕ, ◌+◌, ◌≤◌, ◌<◌}
use mathlib.Core.Path.{◌≡◌, refl, sym, subst, ◌∙◌}
use mathlib.Core.List.{List, [], ◌∷◌}
use mathlib.Core.Bool.{Bool, true, false, ◌&&◌}
use native.Mathlib.Numerals.{add-one}
use native.Mathlib.Omega.{arith}
use lib.ListN.{length, get_or, take, drop, set, length-set}
use lib.Seq.{take-suc-set, drop-cons}
use Rattle.std.proofs.lemmas.List.{drop_all}
use lib.Dec.{ltb, leb, eqb}
use borrow.Author.Tests.{ltb-true, leb-true, eqb-true}
use Rattle.std.specs.Prelude.{Option, Some, None, Result, Ok, Err, is_ok}
use Rattle.basics.specs.Choice.{pick}
use Rattle.basics.proofs.Tests.{and_left, and_right}
use Rattle.table.specs.Rules.{all, between, in_ticks, server_obeys, task_obeys, servers_of, tasks_of}
use Rattle.table.proofs.Entries.{all_append}
use Rattle.table.specs.declared.Server.{Server}
use Rattle.table.specs.declared.Task.{Task}
use Rattle.table.specs.declared.Table.{Table}
use Rattle.table.specs.declared.Release.{Release}
use Rattle.table.specs.declared.Release.TheVariants as release
use Rattle.fields.specs.Fields.{fields_of, field_at, same_bytes, dash, word_of, field_number}
use Rattle.lines.specs.Lines.{wrong, field, ranged, number_at, numbers_at, span_line, kind_of, server_line, release_is, task_is, once_line, deadline_of, every_line, task_placed, by_word, line_of}
use Rattle.reading.specs.Reading.{no_table, with_server, with_line, ended_of, after_line, read_lines}
use Rattle.refusals.specs.declared.Refusal.{Refusal}
use Rattle.reading.specs.Pieces.{with_said, told, HasRoom}
use Rattle.refusals.specs.Refusals.{last_place, refused_at}
use Rattle.refusals.specs.declared.Ground.{Ground}
use Rattle.fields.specs.declared.Word.{Word}
use Rattle.fields.specs.declared.Word.TheVariants as word
use Rattle.lines.specs.declared.Line.{Line}
use Rattle.lines.specs.declared.Line.TheVariants.{SpanIs, ServerIs, TaskIs}
use Rattle.lines.specs.declared.Wrong.{Wrong}

-- ---- what a line can say, behind so many servers and tasks

pub record SaysServer (servers tasks : ℕ) (s : Server) : Type 0 where
  pub room : servers < 16
  pub first : tasks ≡ 0
  pub obeys : server_obeys s ≡ true

pub record SaysTask (servers tasks : ℕ) (k : Task) : Type 0 where
  pub room : tasks < 64
  pub obeys : task_obeys servers k ≡ true

abbrev pub Says : ℕ → ℕ → Line → Type 0
Says servers tasks (SpanIs h) = h ≤ 16000
Says servers tasks (ServerIs s) = SaysServer servers tasks s
Says servers tasks (TaskIs k) = SaysTask servers tasks k

-- and where it is wrong, at a place of a line
abbrev pub Told : ℕ → ℕ → Result Line Wrong → Type 0
Told servers tasks (Ok line) = Says servers tasks line
Told servers tasks (Err w) = w.place ≤ last_place

and_both : {a b : Bool} → a ≡ true → b ≡ true → (a && b) ≡ true
and_both {a} {b} p q = rw (p, q)

module _ (servers tasks : ℕ) where
  pick_says : (b : Bool) (place : ℕ) (w : _) (next : Result Line Wrong) → place ≤ last_place → (b ≡ true → Told servers tasks next)
      → Told servers tasks (pick b next (wrong w place))
  pick_says true place w next l h = h refl
  pick_says false place w next l h = l

  field_says : {A : Type 0} (f : Result A Ground) (place : ℕ) (next : A → Result Line Wrong) → place ≤ last_place
      → ((x : A) → Told servers tasks (next x)) → Told servers tasks (field f place next)
  field_says (Ok x) place next l h = h x
  field_says (Err w) place next l h = l

  pair_says : (line : List ℕ) (first second : ℕ) (next : ℕ → ℕ → Result Line Wrong) → first ≤ last_place → second ≤ last_place
      → ((a b : ℕ) → Told servers tasks (next a b)) → Told servers tasks (numbers_at line first second next)
  pair_says line first second next l m h =
      field_says (field_number (field_at line first)) first _ l (λ a. field_says (field_number (field_at line second)) second _ m (h a))

  span_says : (line : List ℕ) → Told servers tasks (span_line line)
  span_says line =
      pick_says (eqb (length (fields_of line)) 2) 0 _ _ (omega arith) (λ e. go (same_bytes (field_at line 2) dash))
    where
      go : (b : Bool) → Told servers tasks (pick b (Ok (SpanIs 0)) (number_at line 2 (λ h. ranged (in_ticks h) 2 (Ok (SpanIs h)))))
      go true = omega arith
      go false =
          field_says (field_number (field_at line 2)) 2 _ (omega arith)
          (λ h. pick_says (in_ticks h) 2 _ _ (omega arith) (λ e. leb-true h 16000 (and_right (leb 1 h) (leb h 16000) e)))

  server_says : (line : List ℕ) → servers < 16 → tasks ≡ 0 → Told servers tasks (server_line line)
  server_says line r z =
      pick_says (eqb (length (fields_of line)) 4) 0 _ _ (omega arith) (λ e.
      field_says (kind_of (field_at line 2)) 2 _ (omega arith) (λ k.
      pair_says line 3 4 _ (omega arith) (omega arith) (λ c t.
      pick_says (in_ticks c && leb c t) 3 _ _ (omega arith) (λ p.
      pick_says (in_ticks t) 4 _ _ (omega arith) (λ q. record {
        room = r;
        first = z;
        obeys = and_both (and_left (in_ticks c) (leb c t) p) (and_both q (and_right (in_ticks c) (leb c t) p));
      })))))

  -- a task of a table that has room for it
  module _ (r : tasks < 64) (s w d : ℕ) where
    release_says : (x : Release) → between 1 servers s ≡ true → in_ticks w ≡ true → Told servers tasks (release_is x (record { server = s; work = w; release = x; deadline = d }))
    release_says (release.Once i) p q =
        pick_says (leb i 16000) 4 _ _ (omega arith) (λ u. pick_says (in_ticks d) 5 _ _ (omega arith) (λ v. record { room = r; obeys = and_both p (and_both q (and_both u v)) }))
    release_says (release.Every o t) p q =
        pick_says (leb o 16000) 4 _ _ (omega arith) (λ u.
        pick_says (in_ticks t) 5 _ _ (omega arith) (λ v. pick_says (in_ticks d) 6 _ _ (omega arith) (λ x. record { room = r; obeys = and_both p (and_both q (and_both (and_both u v) x)) })))

    task_says : (x : Release) → Told servers tasks (task_is servers (record { server = s; work = w; release = x; deadline = d }))
    task_says x = pick_says (between 1 servers s) 2 _ _ (omega arith) (λ p. pick_says (in_ticks w) 3 _ _ (omega arith) (λ q. release_says x p q))

  once_says : (line : List ℕ) → tasks < 64 → Told servers tasks (once_line servers line)
  once_says line r =
      pick_says (eqb (length (fields_of line)) 5) 0 _ _ (omega arith) (λ e. pair_says line 2 3 _ (omega arith) (omega arith) (λ s w. pair_says line 4 5 _ (omega arith) (omega arith) (λ i d. task_says r s w d (release.Once i))))

  every_says : (line : List ℕ) → tasks < 64 → Told servers tasks (every_line servers line)
  every_says line r =
      pick_says (eqb (length (fields_of line)) 6) 0 _ _ (omega arith) (λ e.
      pair_says line 2 3 _ (omega arith) (omega arith) (λ s w. pair_says line 4 5 _ (omega arith) (omega arith) (λ o p. field_says (deadline_of (field_at line 6) p) 6 _ (omega arith) (λ d. task_says r s w d (release.Every o p)))))

  -- a task line behind a server
  placed_says : (next : Result Line Wrong) → (tasks < 64 → Told servers tasks next) → Told servers tasks (task_placed servers tasks next)
  placed_says next h = pick_says (ltb 0 servers) 0 _ _ (omega arith) (λ e. pick_says (ltb tasks 64) 0 _ _ (omega arith) (λ f. h (ltb-true tasks 64 f)))

  word_says : (w : Option Word) (n : ℕ) (line : List ℕ) → Told servers tasks (by_word w n servers tasks line)
  word_says (Some word.Span) n line = pick_says (eqb n 1) 0 _ _ (omega arith) (λ e. span_says line)
  word_says (Some word.Server) n line =
      pick_says (ltb 1 n && eqb tasks 0) 0 _ _ (omega arith) (λ e.
      pick_says (ltb servers 16) 0 _ _ (omega arith) (λ f. server_says line (ltb-true servers 16 f) (eqb-true tasks 0 (and_right (ltb 1 n) (eqb tasks 0) e))))
  word_says (Some word.Once) n line = placed_says (once_line servers line) (once_says line)
  word_says (Some word.Every) n line = placed_says (every_line servers line) (every_says line)
  word_says None n line = omega arith

  pub line_says : (n : ℕ) (line : List ℕ) → Told servers tasks (line_of n servers tasks line)
  line_says n line = word_says (word_of (field_at line 1)) n line

-- ---- after a line

pub after_right : (r : Result Line Wrong) (t : Table) (n : ℕ) (next : Table → Result Table Refusal) → is_ok r ≡ true → after_line r t n next ≡ next (with_said t r)
after_right (Ok line) t n next e = refl
after_right (Err w) t n next e = absurd cc

-- ---- the table stays within its rules

-- a table that has been read so far: its counts and entries obey the rules
pub record InRules (t : Table) : Type 0 where
  pub few : t.servers_n ≤ 16
  pub many : t.tasks_n ≤ 64
  pub servers : all server_obeys (servers_of t) ≡ true
  pub tasks : all (task_obeys t.servers_n) (tasks_of t) ≡ true

-- the entries with one more
one_more : {A : Type 0} (f : A → Bool) (xs : List A) (n : ℕ) (a : A) → n < length xs → all f (take n xs) ≡ true → f a ≡ true → all f (take (n + 1) (set xs n a)) ≡ true
unfolding all
one_more f xs n a h p q = rw (add-one, take-suc-set xs n a h) (all_append f (take n xs) (a ∷ []) p (and_both q refl))

-- the arrays of a table have their lengths
pub record Sized (t : Table) : Type 0 where
  pub of_servers : length t.servers ≡ 16
  pub of_tasks : length t.tasks ≡ 64

none_obey : (n : ℕ) (t : Table) → t.tasks_n ≡ 0 → all (task_obeys n) (tasks_of t) ≡ true
unfolding all
none_obey n t e = rw e

pub rules_kept : (t : Table) (line : Line) → Sized t → InRules t → Says t.servers_n t.tasks_n line → InRules (with_line t line)
rules_kept t (SpanIs h) z p s = record { few = p.few; many = p.many; servers = p.servers; tasks = p.tasks }
rules_kept t (ServerIs x) z p s = record {
  few = omega (arith, s.room);
  many = p.many;
  servers = one_more server_obeys t.servers t.servers_n x (omega (arith, z.of_servers, s.room)) p.servers s.obeys;
  tasks = none_obey (t.servers_n + 1) (with_server t x) s.first;
}
rules_kept t (TaskIs k) z p s = record {
  few = p.few;
  many = omega (arith, s.room);
  servers = p.servers;
  tasks = one_more (task_obeys t.servers_n) t.tasks t.tasks_n k (omega (arith, z.of_tasks, s.room)) p.tasks s.obeys;
}

pub sized_kept : (t : Table) (line : Line) → Sized t → Sized (with_line t line)
sized_kept t (SpanIs h) z = record { of_servers = z.of_servers; of_tasks = z.of_tasks }
sized_kept t (ServerIs x) z = record { of_servers = simp length-set z.of_servers; of_tasks = z.of_tasks }
sized_kept t (TaskIs k) z = record { of_servers = z.of_servers; of_tasks = simp length-set z.of_tasks }

pub none_yet : InRules no_table
unfolding all
none_yet = record { few = omega arith; many = omega arith; servers = refl; tasks = refl }

pub none_sized : Sized no_table
none_sized = record { of_servers = refl; of_tasks = refl }

-- ---- what is made of a line

told_ok : (n : ℕ) (x : Result Line Wrong) {line : Line} → told n x ≡ Ok line → x ≡ Ok line
told_ok n (Ok y) e = cc
told_ok n (Err w) e = absurd cc

told_err : (n : ℕ) (x : Result Line Wrong) {r : Refusal} → told n x ≡ Err r → (w : Wrong) × (x ≡ Err w) × (r ≡ refused_at w.ground n w.place)
told_err n (Ok y) e = absurd cc
told_err n (Err w) e = (w, refl, cc)

room_for : (t : Table) (line : Line) → Says t.servers_n t.tasks_n line → HasRoom t line
room_for t (SpanIs h) s = tt
room_for t (ServerIs x) s = s.room
room_for t (TaskIs k) s = s.room

-- ---- a reading under way: of the lines ls so many are read, and the next one is line n

pub record Underway (ls : List (List ℕ)) (done : ℕ) (t : Table) (n : ℕ) : Type 0 where
  pub counted : n ≡ done + 1
  pub is : read_lines (drop done ls) t n ≡ read_lines ls no_table 1

pub underway_start : (ls : List (List ℕ)) → Underway ls 0 no_table 1
underway_start ls = record { counted = refl; is = refl }

module _ {ls : List (List ℕ)} {done : ℕ} {t : Table} {n : ℕ} (u : Underway ls done t n) where
  -- the line that comes next, and what was made of it
  module _ {line : List ℕ} (h : (done < length ls) × (line ≡ get_or ls done line)) {m : Result Line Refusal} (s : m ≡ told n (line_of n t.servers_n t.tasks_n line)) where
    unread : {x : Result Line Wrong} → line_of n t.servers_n t.tasks_n line ≡ x
        → after_line x t n (λ v. read_lines (drop (done + 1) ls) v (n + 1)) ≡ read_lines ls no_table 1
    unfolding read_lines
    unread e =
        let next : drop done ls ≡ line ∷ drop (done + 1) ls = rw (add-one, h.1) (drop-cons ls done line h.0) in
        rw e at (rw next at u.is)

    pub underway_refused : {r : Refusal} → m ≡ Err r → Err r ≡ read_lines ls no_table 1
    underway_refused {r} f =
        let w = told_err n (line_of n t.servers_n t.tasks_n line) (sym s ∙ f) in
        rw w.2 (unread w.1)

    pub line_room : {said : Line} → m ≡ Ok said → HasRoom t said
    line_room {said} f =
        room_for t said (subst (Told t.servers_n t.tasks_n) (told_ok n (line_of n t.servers_n t.tasks_n line) (sym s ∙ f)) (line_says t.servers_n t.tasks_n n line))

    pub underway_more : {said : Line} → m ≡ Ok said → Underway ls (done + 1) (with_line t said) (n + 1)
    underway_more {said} f = record {
      counted = omega (arith, u.counted);
      is = unread (told_ok n (line_of n t.servers_n t.tasks_n line) (sym s ∙ f));
    }

  pub underway_end : done ≡ length ls → ended_of t n ≡ read_lines ls no_table 1
  unfolding read_lines
  underway_end e = rw (drop_all done ls (omega arith)) at u.is
