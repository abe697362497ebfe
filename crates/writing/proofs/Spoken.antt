-- Each written line is read as the entry that was written. Assumes nothing.
use Prim.Native.Nat.{ℕ, ◌≤◌, ◌<◌}
use mathlib.Core.Path.{◌≡◌, refl, ap, ◌∙◌}
use mathlib.Core.List.{List, []}
use mathlib.Core.Bool.{Bool, true, false, ◌&&◌}
use native.Mathlib.Omega.{arith}
use lib.ListN.{length, get_or}
use lib.Dec.{ltb, leb, eqb}
use borrow.Author.Tests.{leb-true, lt-ltb}
use Rattle.std.specs.Prelude.{Option, Some, Result, Ok}
use Rattle.basics.specs.Choice.{pick}
use Rattle.basics.proofs.Tests.{and_left, and_right}
use Rattle.table.specs.Rules.{all, between, in_ticks, server_obeys, release_obeys, task_obeys}
use Rattle.table.specs.declared.Kind.{Kind}
use Rattle.table.specs.declared.Kind.TheVariants.{Deferrable, Periodic}
use Rattle.table.specs.declared.Release.{Release}
use Rattle.table.specs.declared.Release.TheVariants.{Once, Every}
use Rattle.table.specs.declared.Server.{Server}
use Rattle.table.specs.declared.Task.{Task}
use Rattle.fields.specs.Fields.{fields_of, field_at, same_bytes, dash, word_of, field_number}
use Rattle.lines.specs.Lines.{field, kind_of, deadline_of, by_word, line_of}
use Rattle.fields.specs.declared.Word.{Word}
use Rattle.fields.specs.declared.Word.TheVariants as word
use Rattle.lines.specs.declared.Line.{Line}
use Rattle.lines.specs.declared.Line.TheVariants.{SpanIs, ServerIs, TaskIs}
use Rattle.lines.specs.declared.Wrong.{Wrong}
use Rattle.refusals.specs.declared.Ground.{Ground}
use Rattle.putting.specs.Decimal.{decimal}
use Rattle.writing.specs.Text.{joined, span_fields, kind_word, server_fields, released_fields, task_fields, span_line, server_line, task_line}
use Rattle.putting.proofs.Decimals.{decimal_reads, decimal_word}
use Rattle.writing.proofs.Parted.{clear, decimal_clear, fields_back}

-- ---- no word or number that is written has a tab or a line feed

pub span_clear : (H : ℕ) → all clear (span_fields H) ≡ true
unfolding all
span_clear H = simp decimal_clear

kind_clear : (k : Kind) → clear (kind_word k) ≡ true
unfolding all
kind_clear Deferrable = refl
kind_clear Periodic = refl

pub server_clear : (s : Server) → all clear (server_fields s) ≡ true
unfolding all
server_clear s = simp (kind_clear, decimal_clear)

released_clear : (r : Release) (s w d : ℕ) → all clear (released_fields r s w d) ≡ true
unfolding all
released_clear (Once i) s w d = simp decimal_clear
released_clear (Every o p) s w d = simp decimal_clear

pub task_clear : (k : Task) → all clear (task_fields k) ≡ true
task_clear k = released_clear k.release k.server k.work k.deadline

-- ---- one step of a line: a test, a field, a kind, the first word

pub picks_first : {A : Type 0} (b : Bool) (x y r : A) → b ≡ true → x ≡ r → pick b x y ≡ r
picks_first b x y r e h = rw e h

pub picks_second : {A : Type 0} (b : Bool) (x y r : A) → b ≡ false → y ≡ r → pick b x y ≡ r
picks_second b x y r e h = rw e h

field_reads : {A : Type 0} (f : Result A Ground) (x : A) (place : ℕ) (next : A → Result Line Wrong) (r : Result Line Wrong) → f ≡ Ok x → next x ≡ r
    → field f place next ≡ r
field_reads f x place next r e h = rw e h

word_reads : (f w : Option Word) (n servers tasks : ℕ) (line : List ℕ) (r : Result Line Wrong) → f ≡ w → by_word w n servers tasks line ≡ r
    → by_word f n servers tasks line ≡ r
word_reads f w n servers tasks line r e h = rw e h

and_both : (a b : Bool) → a ≡ true → b ≡ true → (a && b) ≡ true
and_both a b p q = rw (p, q)

kind_back : (k : Kind) → kind_of (kind_word k) ≡ Ok k
unfolding same_bytes
kind_back Deferrable = refl
kind_back Periodic = refl

-- ---- one field of a line whose fields are known

module _ (line : List ℕ) (fs : List (List ℕ)) (e : fields_of line ≡ fs) where
  word_of_lem : (w : Option Word) → word_of (get_or fs 0 []) ≡ w → word_of (field_at line 1) ≡ w
  word_of_lem w h = ap (λ (g : List (List ℕ)). word_of (get_or g 0 [])) e ∙ h

  count_of : (n : ℕ) → eqb (length fs) n ≡ true → eqb (length (fields_of line)) n ≡ true
  count_of n h = ap (λ (g : List (List ℕ)). eqb (length g) n) e ∙ h

  number_of : (i n : ℕ) → get_or fs i [] ≡ decimal n → n ≤ 16000 → field_number (get_or (fields_of line) i []) ≡ Ok n
  number_of i n h k = ap (λ (g : List (List ℕ)). field_number (get_or g i [])) e ∙ ap field_number h ∙ decimal_reads n (omega arith)

  -- a number is no `-`
  no_dash : (i n : ℕ) → get_or fs i [] ≡ decimal n → same_bytes (get_or (fields_of line) i []) dash ≡ false
  no_dash i n h = ap (λ (g : List (List ℕ)). same_bytes (get_or g i []) dash) e ∙ ap (λ (f : List ℕ). same_bytes f dash) h ∙ decimal_word n

  deadline_of_lem : (i n p : ℕ) → get_or fs i [] ≡ decimal n → n ≤ 16000 → deadline_of (get_or (fields_of line) i []) p ≡ Ok n
  deadline_of_lem i n p h k = picks_second _ _ _ _ (no_dash i n h) (number_of i n h k)

  kind_of_lem : (k : Kind) → get_or fs 1 [] ≡ kind_word k → kind_of (field_at line 2) ≡ Ok k
  kind_of_lem k h = ap (λ (g : List (List ℕ)). kind_of (get_or g 1 [])) e ∙ ap kind_of h ∙ kind_back k

-- ---- ranges

top : (n : ℕ) → in_ticks n ≡ true → n ≤ 16000
top n h = leb-true n 16000 (and_right (leb 1 n) (leb n 16000) h)

-- ---- `span`

pub span_read : (H servers tasks : ℕ) → in_ticks H ≡ true → line_of 1 servers tasks (span_line H) ≡ Ok (SpanIs H)
unfolding same_bytes span_line
span_read H servers tasks h =
    let line = joined (span_fields H) in
    let e : fields_of line ≡ span_fields H = fields_back _ _ (span_clear H) in
    word_reads _ (Some word.Span) 1 servers tasks line _ (word_of_lem line _ e (Some word.Span) refl)
    (picks_first _ _ _ _ (count_of line _ e 2 refl)
    (picks_second _ _ _ _ (no_dash line _ e 1 H refl)
    (field_reads _ H 2 _ _ (number_of line _ e 1 H refl (top H h))
    (picks_first _ _ _ _ h refl))))

-- ---- `server`

pub server_read : (s : Server) (n servers : ℕ) → 1 < n → servers < 16 → server_obeys s ≡ true → line_of n servers 0 (server_line s) ≡ Ok (ServerIs s)
unfolding same_bytes server_line
server_read s n servers k r h =
    let line = joined (server_fields s) in
    let e : fields_of line ≡ server_fields s = fields_back _ _ (server_clear s) in
    let c : in_ticks s.capacity ≡ true = and_left (in_ticks s.capacity) _ h in
    let rest : (in_ticks s.period && leb s.capacity s.period) ≡ true = and_right (in_ticks s.capacity) _ h in
    let t : in_ticks s.period ≡ true = and_left (in_ticks s.period) _ rest in
    let ct : leb s.capacity s.period ≡ true = and_right (in_ticks s.period) _ rest in
    word_reads _ (Some word.Server) n servers 0 line _ (word_of_lem line _ e (Some word.Server) refl)
    (picks_first _ _ _ _ (and_both (ltb 1 n) true (lt-ltb 1 n k) refl)
    (picks_first _ _ _ _ (lt-ltb servers 16 r)
    (picks_first _ _ _ _ (count_of line _ e 4 refl)
    (field_reads _ s.kind 2 _ _ (kind_of_lem line _ e s.kind refl)
    (field_reads _ s.capacity 3 _ _ (number_of line _ e 2 s.capacity refl (top _ c))
    (field_reads _ s.period 4 _ _ (number_of line _ e 3 s.period refl (top _ t))
    (picks_first _ _ _ _ (and_both (in_ticks s.capacity) (leb s.capacity s.period) c ct)
    (picks_first _ _ _ _ t refl))))))))

-- ---- `once` and `every`

-- what a task's line passes before its fields are read
record Ranges (servers s w d : ℕ) : Type 0 where
  server : between 1 servers s ≡ true
  work : in_ticks w ≡ true
  deadline : in_ticks d ≡ true
  low : s ≤ 16000

module _ (n servers tasks : ℕ) (some : 0 < servers) (few : servers ≤ 16) (room : tasks < 64) where
  once_read : (s w i d : ℕ) → Ranges servers s w d → leb i 16000 ≡ true
      → line_of n servers tasks (joined (released_fields (Once i) s w d)) ≡ Ok (TaskIs (record { server = s; work = w; release = Once i; deadline = d }))
  unfolding same_bytes
  once_read s w i d g h =
      let line = joined (released_fields (Once i) s w d) in
      let e : fields_of line ≡ released_fields (Once i) s w d = fields_back _ _ (released_clear (Once i) s w d) in
      word_reads _ (Some word.Once) n servers tasks line _ (word_of_lem line _ e (Some word.Once) refl)
      (picks_first _ _ _ _ (lt-ltb 0 servers some)
      (picks_first _ _ _ _ (lt-ltb tasks 64 room)
      (picks_first _ _ _ _ (count_of line _ e 5 refl)
      (field_reads _ s 2 _ _ (number_of line _ e 1 s refl g.low)
      (field_reads _ w 3 _ _ (number_of line _ e 2 w refl (top w g.work))
      (field_reads _ i 4 _ _ (number_of line _ e 3 i refl (leb-true i 16000 h))
      (field_reads _ d 5 _ _ (number_of line _ e 4 d refl (top d g.deadline))
      (picks_first _ _ _ _ g.server
      (picks_first _ _ _ _ g.work
      (picks_first _ _ _ _ h
      (picks_first _ _ _ _ g.deadline refl)))))))))))

  every_read : (s w o p d : ℕ) → Ranges servers s w d → leb o 16000 ≡ true → in_ticks p ≡ true
      → line_of n servers tasks (joined (released_fields (Every o p) s w d)) ≡ Ok (TaskIs (record { server = s; work = w; release = Every o p; deadline = d }))
  unfolding same_bytes
  every_read s w o p d g h q =
      let line = joined (released_fields (Every o p) s w d) in
      let e : fields_of line ≡ released_fields (Every o p) s w d = fields_back _ _ (released_clear (Every o p) s w d) in
      word_reads _ (Some word.Every) n servers tasks line _ (word_of_lem line _ e (Some word.Every) refl)
      (picks_first _ _ _ _ (lt-ltb 0 servers some)
      (picks_first _ _ _ _ (lt-ltb tasks 64 room)
      (picks_first _ _ _ _ (count_of line _ e 6 refl)
      (field_reads _ s 2 _ _ (number_of line _ e 1 s refl g.low)
      (field_reads _ w 3 _ _ (number_of line _ e 2 w refl (top w g.work))
      (field_reads _ o 4 _ _ (number_of line _ e 3 o refl (leb-true o 16000 h))
      (field_reads _ p 5 _ _ (number_of line _ e 4 p refl (top p q))
      (field_reads _ d 6 _ _ (deadline_of_lem line _ e 5 d p refl (top d g.deadline))
      (picks_first _ _ _ _ g.server
      (picks_first _ _ _ _ g.work
      (picks_first _ _ _ _ h
      (picks_first _ _ _ _ q
      (picks_first _ _ _ _ g.deadline refl)))))))))))))

  released_read : (r : Release) (s w d : ℕ) → Ranges servers s w d → release_obeys r ≡ true
      → line_of n servers tasks (joined (released_fields r s w d)) ≡ Ok (TaskIs (record { server = s; work = w; release = r; deadline = d }))
  released_read (Once i) s w d g h = once_read s w i d g h
  released_read (Every o p) s w d g h = every_read s w o p d g (and_left (leb o 16000) (in_ticks p) h) (and_right (leb o 16000) (in_ticks p) h)

  ranges_of : (s w d : ℕ) (b : Bool) → (between 1 servers s && (in_ticks w && (b && in_ticks d))) ≡ true → Ranges servers s w d
  ranges_of s w d b h =
      let one : between 1 servers s ≡ true = and_left (between 1 servers s) _ h in
      let rest : (in_ticks w && (b && in_ticks d)) ≡ true = and_right (between 1 servers s) _ h in
      record {
        server = one;
        work = and_left (in_ticks w) _ rest;
        deadline = and_right b _ (and_right (in_ticks w) _ rest);
        low = omega (arith, leb-true s servers (and_right (leb 1 s) (leb s servers) one), few);
      }

  pub task_read : (k : Task) → task_obeys servers k ≡ true → line_of n servers tasks (task_line k) ≡ Ok (TaskIs k)
  unfolding task_line
  task_read k h =
      released_read k.release k.server k.work k.deadline
      (ranges_of k.server k.work k.deadline (release_obeys k.release) h)
      (and_left (release_obeys k.release) (in_ticks k.deadline)
      (and_right (in_ticks k.work) (release_obeys k.release && in_ticks k.deadline)
      (and_right (between 1 servers k.server) (in_ticks k.work && (release_obeys k.release && in_ticks k.deadline)) h)))
