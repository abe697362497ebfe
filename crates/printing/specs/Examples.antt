-- The lines that no worked example of document 01 shows, to the byte.
use Rattle.std.specs.Prelude.{◌≡◌, [], ◌∷◌, Err}
use Rattle.refusals.specs.declared.Refusal.{Refusal}
use Rattle.answers.specs.declared.Response.TheVariants.{Unfinished, None}
use Rattle.printing.specs.Report.{task_line, report_of}

-- refused for a leading zero in the fourth word of line 3
abbrev pub wrong_field : Refusal
wrong_field = record { number = 16; line = 3; place = 4 }

pub record Checked : Type 0 where
  -- refused 16 3 4
  pub refused : report_of (Err wrong_field) ≡ 114 ∷ 101 ∷ 102 ∷ 117 ∷ 115 ∷ 101 ∷ 100 ∷ 9 ∷ 49 ∷ 54 ∷ 9 ∷ 51 ∷ 9 ∷ 52 ∷ 10 ∷ []
  -- task 2 unfinished 16
  pub unfinished : task_line 2 (Unfinished 16)
      ≡ 116 ∷ 97 ∷ 115 ∷ 107 ∷ 9 ∷ 50 ∷ 9 ∷ 117 ∷ 110 ∷ 102 ∷ 105 ∷ 110 ∷ 105 ∷ 115 ∷ 104 ∷ 101 ∷ 100 ∷ 9 ∷ 49 ∷ 54 ∷ 10 ∷ []
  -- task 64 none
  pub none : task_line 64 None ≡ 116 ∷ 97 ∷ 115 ∷ 107 ∷ 9 ∷ 54 ∷ 52 ∷ 9 ∷ 110 ∷ 111 ∷ 110 ∷ 101 ∷ 10 ∷ []
