-- The five texts are read, by computing, a line at a time. Assumes nothing.
use Prim.Native.Nat.{ℕ, ◌+◌}
use mathlib.Core.Path.{◌≡◌, refl, ap, ◌∙◌}
use Rattle.std.specs.Prelude.{Result, Ok, Err}
use mathlib.Core.List.{List, [], ◌∷◌}
use Rattle.table.specs.Rules.{all}
use Rattle.table.specs.Span.{server_periods, task_periods, first_multiple}
use Rattle.table.specs.declared.Kind.{Kind}
use Rattle.table.specs.declared.Kind.TheVariants.{Deferrable, Periodic}
use Rattle.table.specs.declared.Release.{Release}
use Rattle.table.specs.declared.Release.TheVariants.{Once, Every}
use Rattle.table.specs.declared.Table.{Table}
use Rattle.refusals.specs.declared.Ground.TheVariants.{Misplaced, LeadingZero}
use Rattle.fields.specs.Fields.{lines_of, all_but_last, same_bytes, digits_from}
use Rattle.fields.proofs.Pieces.{split_is, pieces}
use Rattle.lines.specs.Lines.{wrong, line_of}
use Rattle.lines.specs.declared.Line.{Line}
use Rattle.lines.specs.declared.Line.TheVariants.{SpanIs, ServerIs, TaskIs}
use Rattle.lines.specs.declared.Wrong.{Wrong}
use Rattle.reading.specs.Reading.{no_table, refusal, accepted, ended_of, after_line, read_lines, reading_of}
use Rattle.reading.specs.Pieces.{with_said}
use Rattle.refusals.specs.declared.Refusal.{Refusal}
use Rattle.reading.specs.Examples.{text_a, text_b, text_c, text_free, text_zero, read_a, read_b, read_c, read_free, Checked}

-- ---- lines of which it is known what they say

-- line by line, behind a table and from line n on
abbrev LinesSay : List (Result Line Wrong) → List (List ℕ) → Table → ℕ → Type 0
LinesSay [] [] t n = Unit {0}
LinesSay [] (l ∷ ls) t n = ⊥
LinesSay (x ∷ xs) [] t n = ⊥
LinesSay (x ∷ xs) (l ∷ ls) t n = (line_of n t.servers_n t.tasks_n l ≡ x) × LinesSay xs ls (with_said t x) (n + 1)

abbrev read_said : List (Result Line Wrong) → Table → ℕ → Result Table Refusal
read_said [] t n = ended_of t n
read_said (x ∷ xs) t n = after_line x t n (λ u. read_said xs u (n + 1))

said_reads : (xs : List (Result Line Wrong)) (ls : List (List ℕ)) (t : Table) (n : ℕ) → LinesSay xs ls t n → read_lines ls t n ≡ read_said xs t n
unfolding read_lines
said_reads [] [] t n h = refl
said_reads [] (l ∷ ls) t n h = absurd h
said_reads (x ∷ xs) [] t n h = absurd h
said_reads (Ok line ∷ xs) (l ∷ ls) t n (e, h) = rw e (said_reads xs ls (with_said t (Ok line)) (n + 1) h)
said_reads (Err w ∷ xs) (l ∷ ls) t n (e, h) = rw e

-- the lines of a text, in one walk
lines_are : (text : List ℕ) → lines_of text ≡ all_but_last (pieces 10 text)
lines_are text = ap all_but_last (split_is 10 text)

abbrev a_server_lem : Kind → ℕ → ℕ → Result Line Wrong
a_server_lem k c t = Ok (ServerIs (record { kind = k; capacity = c; period = t }))

abbrev a_task : ℕ → ℕ → Release → ℕ → Result Line Wrong
a_task s w r d = Ok (TaskIs (record { server = s; work = w; release = r; deadline = d }))

-- ---- the five texts

abbrev said_a : List (Result Line Wrong)
said_a = Ok (SpanIs 0) ∷ a_server_lem Deferrable 3 10 ∷ a_server_lem Deferrable 2 4 ∷ a_task 1 1 (Every 0 4) 4 ∷ a_task 2 1 (Every 0 5) 5 ∷ a_task 2 2 (Every 0 8) 8 ∷ []

says_a : LinesSay said_a (all_but_last (pieces 10 text_a)) no_table 1
unfolding all all_but_last same_bytes digits_from
says_a =
    (rw split_is (rw split_is refl), (rw split_is (rw split_is refl), (rw split_is (rw split_is refl), (rw split_is (rw split_is refl), (rw split_is (rw split_is refl), (rw split_is (rw split_is refl), tt))))))

read_a_lem : reading_of text_a ≡ accepted read_a
unfolding all server_periods task_periods first_multiple
read_a_lem = ap (λ ls. read_lines ls no_table 1) (lines_are text_a) ∙ said_reads said_a _ no_table 1 says_a

abbrev said_b : List (Result Line Wrong)
said_b = Ok (SpanIs 8) ∷ a_server_lem Deferrable 2 5 ∷ a_server_lem Deferrable 2 4 ∷ a_task 1 4 (Once 3) 5 ∷ a_task 2 1 (Every 0 4) 4 ∷ []

says_b : LinesSay said_b (all_but_last (pieces 10 text_b)) no_table 1
unfolding all all_but_last same_bytes digits_from
says_b =
    (rw split_is (rw split_is refl), (rw split_is (rw split_is refl), (rw split_is (rw split_is refl), (rw split_is (rw split_is refl), (rw split_is (rw split_is refl), tt)))))

read_b_lem : reading_of text_b ≡ accepted read_b
unfolding all server_periods task_periods first_multiple
read_b_lem = ap (λ ls. read_lines ls no_table 1) (lines_are text_b) ∙ said_reads said_b _ no_table 1 says_b

abbrev said_c : List (Result Line Wrong)
said_c = Ok (SpanIs 8) ∷ a_server_lem Periodic 2 6 ∷ a_server_lem Deferrable 1 3 ∷ a_task 1 1 (Once 3) 5 ∷ a_task 2 1 (Once 0) 2 ∷ []

says_c : LinesSay said_c (all_but_last (pieces 10 text_c)) no_table 1
unfolding all all_but_last same_bytes digits_from
says_c =
    (rw split_is (rw split_is refl), (rw split_is (rw split_is refl), (rw split_is (rw split_is refl), (rw split_is (rw split_is refl), (rw split_is (rw split_is refl), tt)))))

read_c_lem : reading_of text_c ≡ accepted read_c
unfolding all server_periods task_periods first_multiple
read_c_lem = ap (λ ls. read_lines ls no_table 1) (lines_are text_c) ∙ said_reads said_c _ no_table 1 says_c

abbrev said_free : List (Result Line Wrong)
said_free = Ok (SpanIs 8) ∷ a_server_lem Deferrable 2 4 ∷ a_server_lem Periodic 1 4 ∷ a_task 1 5 (Every 0 4) 9 ∷ []

says_free : LinesSay said_free (all_but_last (pieces 10 text_free)) no_table 1
unfolding all all_but_last same_bytes digits_from
says_free = (rw split_is (rw split_is refl), (rw split_is (rw split_is refl), (rw split_is (rw split_is refl), (rw split_is (rw split_is refl), tt))))

read_free_lem : reading_of text_free ≡ accepted read_free
unfolding all server_periods task_periods first_multiple
read_free_lem = ap (λ ls. read_lines ls no_table 1) (lines_are text_free) ∙ said_reads said_free _ no_table 1 says_free

-- what the last line says is not asked for: no server stands above it
abbrev said_zero : List (Result Line Wrong)
said_zero = Ok (SpanIs 8) ∷ wrong LeadingZero 4 ∷ wrong Misplaced 0 ∷ []

says_zero : LinesSay said_zero (all_but_last (pieces 10 text_zero)) no_table 1
unfolding all all_but_last same_bytes digits_from
says_zero = (rw split_is (rw split_is refl), (rw split_is (rw split_is refl), (rw split_is refl, tt)))

read_zero : reading_of text_zero ≡ refusal LeadingZero 2 4
read_zero = ap (λ ls. read_lines ls no_table 1) (lines_are text_zero) ∙ said_reads said_zero _ no_table 1 says_zero

pub checked : Checked
checked = record { a = read_a_lem; b = read_b_lem; c = read_c_lem; free = read_free_lem; zero = read_zero }
