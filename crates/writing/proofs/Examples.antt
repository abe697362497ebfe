-- What is written of tables A, B and C, and the length of the longest text, computed.
use mathlib.Core.Path.{◌≡◌, refl}
use lib.ListN.{length}
use Rattle.putting.specs.Decimal.{digits}
use Rattle.writing.specs.Text.{joined, ended, span_line, server_line, task_line, text_of}
use Rattle.writing.specs.Lengths.{line_length, lines_length}
use Rattle.writing.specs.Examples.{longest, Checked}
use Rattle.writing.proofs.Lengths.{text_length}

most : length (text_of longest) ≡ 2603
unfolding digits line_length lines_length
most = text_length longest

pub checked : Checked
unfolding digits joined ended span_line server_line task_line
checked = record { a = refl; b = refl; c = refl; most = most }
