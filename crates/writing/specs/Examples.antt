-- Document 02, E1, on tables A and B of document 01: what is written of the table that is read, with a number for each `-`; and the longest text.
use Rattle.std.specs.Prelude.{ℕ, ◌≡◌, List, [], ◌∷◌, length, replicate}
use Rattle.table.specs.declared.Kind.TheVariants.{Deferrable}
use Rattle.table.specs.declared.Release.TheVariants.{Every}
use Rattle.table.specs.declared.Table.{Table}
use Rattle.reading.specs.Examples.{text_b, text_c, read_a, read_b, read_c}
use Rattle.writing.specs.Text.{text_of}

-- table A with numbers: span 40, deadlines 4, 5 and 8
-- span 40
-- server deferrable 3 10
-- server deferrable 2 4
-- every 1 1 0 4 4
-- every 2 1 0 5 5
-- every 2 2 0 8 8
abbrev pub written_a : List ℕ
written_a =
    115 ∷ 112 ∷ 97 ∷ 110 ∷ 9 ∷ 52 ∷ 48 ∷ 10
    ∷ 115 ∷ 101 ∷ 114 ∷ 118 ∷ 101 ∷ 114 ∷ 9 ∷ 100 ∷ 101 ∷ 102 ∷ 101 ∷ 114 ∷ 114 ∷ 97 ∷ 98 ∷ 108 ∷ 101 ∷ 9 ∷ 51 ∷ 9 ∷ 49 ∷ 48 ∷ 10
    ∷ 115 ∷ 101 ∷ 114 ∷ 118 ∷ 101 ∷ 114 ∷ 9 ∷ 100 ∷ 101 ∷ 102 ∷ 101 ∷ 114 ∷ 114 ∷ 97 ∷ 98 ∷ 108 ∷ 101 ∷ 9 ∷ 50 ∷ 9 ∷ 52 ∷ 10
    ∷ 101 ∷ 118 ∷ 101 ∷ 114 ∷ 121 ∷ 9 ∷ 49 ∷ 9 ∷ 49 ∷ 9 ∷ 48 ∷ 9 ∷ 52 ∷ 9 ∷ 52 ∷ 10
    ∷ 101 ∷ 118 ∷ 101 ∷ 114 ∷ 121 ∷ 9 ∷ 50 ∷ 9 ∷ 49 ∷ 9 ∷ 48 ∷ 9 ∷ 53 ∷ 9 ∷ 53 ∷ 10
    ∷ 101 ∷ 118 ∷ 101 ∷ 114 ∷ 121 ∷ 9 ∷ 50 ∷ 9 ∷ 50 ∷ 9 ∷ 48 ∷ 9 ∷ 56 ∷ 9 ∷ 56 ∷ 10 ∷ []

-- the table whose text is longest: 16 servers and 64 tasks, all numbers as long as the rules allow
abbrev pub longest : Table
longest = record {
  span = 16000;
  servers_n = 16;
  tasks_n = 64;
  servers = replicate 16 (record { kind = Deferrable; capacity = 16000; period = 16000 });
  tasks = replicate 64 (record { server = 16; work = 16000; release = Every 16000 16000; deadline = 16000 });
}

pub record Checked : Type 0 where
  pub a : text_of read_a ≡ written_a
  -- what has no `-` is written as it was read
  pub b : text_of read_b ≡ text_b
  pub c : text_of read_c ≡ text_c
  -- 2,603 bytes are needed: no smaller bound would do
  pub most : length (text_of longest) ≡ 2603
