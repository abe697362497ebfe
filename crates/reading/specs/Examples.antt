-- Document 01, 'What the report program prints' and examples 11 and 12: the texts of tables A, B and C, and the tables that they are read to; a
-- text for two sentences that forbid nothing; and one that is refused for a field (document 02, E2).
use Rattle.std.specs.Prelude.{ℕ, ◌≡◌, List, [], ◌∷◌, replicate}
use Rattle.table.specs.Rules.{no_server, no_task}
use Rattle.table.specs.declared.Kind.TheVariants.{Deferrable, Periodic}
use Rattle.table.specs.declared.Release.TheVariants.{Once, Every}
use Rattle.table.specs.declared.Table.{Table}
use Rattle.refusals.specs.declared.Ground.TheVariants.{LeadingZero}
use Rattle.reading.specs.Reading.{refusal, accepted, reading_of}

-- its span and its deadlines are the multiple and the periods
-- span -
-- server deferrable 3 10
-- server deferrable 2 4
-- every 1 1 0 4 -
-- every 2 1 0 5 -
-- every 2 2 0 8 -
abbrev pub text_a : List ℕ
text_a =
    115 ∷ 112 ∷ 97 ∷ 110 ∷ 9 ∷ 45 ∷ 10
    ∷ 115 ∷ 101 ∷ 114 ∷ 118 ∷ 101 ∷ 114 ∷ 9 ∷ 100 ∷ 101 ∷ 102 ∷ 101 ∷ 114 ∷ 114 ∷ 97 ∷ 98 ∷ 108 ∷ 101 ∷ 9 ∷ 51 ∷ 9 ∷ 49 ∷ 48 ∷ 10
    ∷ 115 ∷ 101 ∷ 114 ∷ 118 ∷ 101 ∷ 114 ∷ 9 ∷ 100 ∷ 101 ∷ 102 ∷ 101 ∷ 114 ∷ 114 ∷ 97 ∷ 98 ∷ 108 ∷ 101 ∷ 9 ∷ 50 ∷ 9 ∷ 52 ∷ 10
    ∷ 101 ∷ 118 ∷ 101 ∷ 114 ∷ 121 ∷ 9 ∷ 49 ∷ 9 ∷ 49 ∷ 9 ∷ 48 ∷ 9 ∷ 52 ∷ 9 ∷ 45 ∷ 10
    ∷ 101 ∷ 118 ∷ 101 ∷ 114 ∷ 121 ∷ 9 ∷ 50 ∷ 9 ∷ 49 ∷ 9 ∷ 48 ∷ 9 ∷ 53 ∷ 9 ∷ 45 ∷ 10
    ∷ 101 ∷ 118 ∷ 101 ∷ 114 ∷ 121 ∷ 9 ∷ 50 ∷ 9 ∷ 50 ∷ 9 ∷ 48 ∷ 9 ∷ 56 ∷ 9 ∷ 45 ∷ 10 ∷ []

abbrev pub read_a : Table
read_a = record {
  span = 40;
  servers_n = 2;
  tasks_n = 3;
  servers =
      record { kind = Deferrable; capacity = 3; period = 10 }
      ∷ record { kind = Deferrable; capacity = 2; period = 4 }
      ∷ replicate 14 no_server;
  tasks =
      record { server = 1; work = 1; release = Every 0 4; deadline = 4 }
      ∷ record { server = 2; work = 1; release = Every 0 5; deadline = 5 }
      ∷ record { server = 2; work = 2; release = Every 0 8; deadline = 8 }
      ∷ replicate 61 no_task;
}

-- span 8
-- server deferrable 2 5
-- server deferrable 2 4
-- once 1 4 3 5
-- every 2 1 0 4 4
abbrev pub text_b : List ℕ
text_b =
    115 ∷ 112 ∷ 97 ∷ 110 ∷ 9 ∷ 56 ∷ 10
    ∷ 115 ∷ 101 ∷ 114 ∷ 118 ∷ 101 ∷ 114 ∷ 9 ∷ 100 ∷ 101 ∷ 102 ∷ 101 ∷ 114 ∷ 114 ∷ 97 ∷ 98 ∷ 108 ∷ 101 ∷ 9 ∷ 50 ∷ 9 ∷ 53 ∷ 10
    ∷ 115 ∷ 101 ∷ 114 ∷ 118 ∷ 101 ∷ 114 ∷ 9 ∷ 100 ∷ 101 ∷ 102 ∷ 101 ∷ 114 ∷ 114 ∷ 97 ∷ 98 ∷ 108 ∷ 101 ∷ 9 ∷ 50 ∷ 9 ∷ 52 ∷ 10
    ∷ 111 ∷ 110 ∷ 99 ∷ 101 ∷ 9 ∷ 49 ∷ 9 ∷ 52 ∷ 9 ∷ 51 ∷ 9 ∷ 53 ∷ 10
    ∷ 101 ∷ 118 ∷ 101 ∷ 114 ∷ 121 ∷ 9 ∷ 50 ∷ 9 ∷ 49 ∷ 9 ∷ 48 ∷ 9 ∷ 52 ∷ 9 ∷ 52 ∷ 10 ∷ []

abbrev pub read_b : Table
read_b = record {
  span = 8;
  servers_n = 2;
  tasks_n = 2;
  servers =
      record { kind = Deferrable; capacity = 2; period = 5 }
      ∷ record { kind = Deferrable; capacity = 2; period = 4 }
      ∷ replicate 14 no_server;
  tasks =
      record { server = 1; work = 4; release = Once 3; deadline = 5 }
      ∷ record { server = 2; work = 1; release = Every 0 4; deadline = 4 }
      ∷ replicate 62 no_task;
}

-- span 8
-- server periodic 2 6
-- server deferrable 1 3
-- once 1 1 3 5
-- once 2 1 0 2
abbrev pub text_c : List ℕ
text_c =
    115 ∷ 112 ∷ 97 ∷ 110 ∷ 9 ∷ 56 ∷ 10
    ∷ 115 ∷ 101 ∷ 114 ∷ 118 ∷ 101 ∷ 114 ∷ 9 ∷ 112 ∷ 101 ∷ 114 ∷ 105 ∷ 111 ∷ 100 ∷ 105 ∷ 99 ∷ 9 ∷ 50 ∷ 9 ∷ 54 ∷ 10
    ∷ 115 ∷ 101 ∷ 114 ∷ 118 ∷ 101 ∷ 114 ∷ 9 ∷ 100 ∷ 101 ∷ 102 ∷ 101 ∷ 114 ∷ 114 ∷ 97 ∷ 98 ∷ 108 ∷ 101 ∷ 9 ∷ 49 ∷ 9 ∷ 51 ∷ 10
    ∷ 111 ∷ 110 ∷ 99 ∷ 101 ∷ 9 ∷ 49 ∷ 9 ∷ 49 ∷ 9 ∷ 51 ∷ 9 ∷ 53 ∷ 10
    ∷ 111 ∷ 110 ∷ 99 ∷ 101 ∷ 9 ∷ 50 ∷ 9 ∷ 49 ∷ 9 ∷ 48 ∷ 9 ∷ 50 ∷ 10 ∷ []

abbrev pub read_c : Table
read_c = record {
  span = 8;
  servers_n = 2;
  tasks_n = 2;
  servers =
      record { kind = Periodic; capacity = 2; period = 6 }
      ∷ record { kind = Deferrable; capacity = 1; period = 3 }
      ∷ replicate 14 no_server;
  tasks =
      record { server = 1; work = 1; release = Once 3; deadline = 5 }
      ∷ record { server = 2; work = 1; release = Once 0; deadline = 2 }
      ∷ replicate 62 no_task;
}

-- "Work may exceed the period", "a server may have no task":
-- span 8
-- server deferrable 2 4
-- server periodic 1 4
-- every 1 5 0 4 9
abbrev pub text_free : List ℕ
text_free =
    115 ∷ 112 ∷ 97 ∷ 110 ∷ 9 ∷ 56 ∷ 10
    ∷ 115 ∷ 101 ∷ 114 ∷ 118 ∷ 101 ∷ 114 ∷ 9 ∷ 100 ∷ 101 ∷ 102 ∷ 101 ∷ 114 ∷ 114 ∷ 97 ∷ 98 ∷ 108 ∷ 101 ∷ 9 ∷ 50 ∷ 9 ∷ 52 ∷ 10
    ∷ 115 ∷ 101 ∷ 114 ∷ 118 ∷ 101 ∷ 114 ∷ 9 ∷ 112 ∷ 101 ∷ 114 ∷ 105 ∷ 111 ∷ 100 ∷ 105 ∷ 99 ∷ 9 ∷ 49 ∷ 9 ∷ 52 ∷ 10
    ∷ 101 ∷ 118 ∷ 101 ∷ 114 ∷ 121 ∷ 9 ∷ 49 ∷ 9 ∷ 53 ∷ 9 ∷ 48 ∷ 9 ∷ 52 ∷ 9 ∷ 57 ∷ 10 ∷ []

abbrev pub read_free : Table
read_free = record {
  span = 8;
  servers_n = 2;
  tasks_n = 1;
  servers =
      record { kind = Deferrable; capacity = 2; period = 4 }
      ∷ record { kind = Periodic; capacity = 1; period = 4 }
      ∷ replicate 14 no_server;
  tasks = record { server = 1; work = 5; release = Every 0 4; deadline = 9 } ∷ replicate 63 no_task;
}

-- a leading zero in the period of line 2:
-- span 8
-- server deferrable 1 04
-- once 1 4 3 5
abbrev pub text_zero : List ℕ
text_zero =
    115 ∷ 112 ∷ 97 ∷ 110 ∷ 9 ∷ 56 ∷ 10
    ∷ 115 ∷ 101 ∷ 114 ∷ 118 ∷ 101 ∷ 114 ∷ 9 ∷ 100 ∷ 101 ∷ 102 ∷ 101 ∷ 114 ∷ 114 ∷ 97 ∷ 98 ∷ 108 ∷ 101 ∷ 9 ∷ 49 ∷ 9 ∷ 48 ∷ 52 ∷ 10
    ∷ 111 ∷ 110 ∷ 99 ∷ 101 ∷ 9 ∷ 49 ∷ 9 ∷ 52 ∷ 9 ∷ 51 ∷ 9 ∷ 53 ∷ 10 ∷ []

pub record Checked : Type 0 where
  pub a : reading_of text_a ≡ accepted read_a
  pub b : reading_of text_b ≡ accepted read_b
  pub c : reading_of text_c ≡ accepted read_c
  pub free : reading_of text_free ≡ accepted read_free
  pub zero : reading_of text_zero ≡ refusal LeadingZero 2 4
