-- Document 01, the reports of tables A, B and C (the printed report and examples 11 and 12), and margins at zero and at both ends.
use Rattle.std.specs.Prelude.{◌≡◌, pos, negsuc}
use Rattle.machine.specs.Examples.{table_a, table_b, table_c}
use Rattle.answers.specs.Answers.{worst, verdict_of, full_periods, first_short, margin_of}

pub record Checked : Type 0 where
  pub a_one : verdict_of table_a 0 ≡ worst 1 0
  pub a_two : verdict_of table_a 1 ≡ worst 3 35
  pub a_three : verdict_of table_a 2 ≡ worst 7 0
  pub a_full : (full_periods table_a 0 ≡ 4) × (full_periods table_a 1 ≡ 10)
  pub a_short : (first_short table_a 0 ≡ 0) × (first_short table_a 1 ≡ 0)
  pub b_one : verdict_of table_b 0 ≡ worst 4 3
  pub b_two : verdict_of table_b 1 ≡ worst 4 4
  pub b_full : (full_periods table_b 0 ≡ 1) × (full_periods table_b 1 ≡ 2)
  pub b_short : (first_short table_b 0 ≡ 0) × (first_short table_b 1 ≡ 2)
  pub c_one : verdict_of table_c 0 ≡ worst 4 3
  pub c_two : verdict_of table_c 1 ≡ worst 3 0
  -- negsuc n is minus n plus one
  pub margins : (margin_of 16000 1 ≡ pos 15999) × (margin_of 7 7 ≡ pos 0) × (margin_of 1 16000 ≡ negsuc 15998)
