-- A caller in C tells an accepted call by its number: it is 0 where the call is accepted, and nowhere else. Assumes nothing.
use Prim.Native.Nat.{ℕ, ◌<◌}
use mathlib.Core.Path.{◌≡◌, refl, sym, ap, subst, ◌∙◌}
use mathlib.Core.List.{List}
use mathlib.Core.Bool.{Bool, true, false, ◌&&◌}
use native.Mathlib.Omega.{arith}
use lib.Dec.{leb, eqb}
use lib.ListN.{length}
use borrow.Author.Tests.{ne_eqb}
use Rattle.std.specs.Prelude.{Result, Ok, Err, IfErr, is_ok}
use Rattle.basics.specs.Choice.{pick}
use Rattle.refusals.specs.Refusals.{refused_for}
use Rattle.refusals.specs.declared.Ground.{Ground}
use Rattle.refusals.specs.declared.Ground.TheVariants.{ArgumentZero, NotPlain, NoRoom, RulesBroken, WorkRoom, OutOfStep}
use Rattle.refusals.specs.declared.Refusal.{Refusal}
use Rattle.refusals.proofs.Numbers.{number_some}
use Rattle.windows.specs.Windows.{is_plain, add_up, cut_at, fit, provide}
use Rattle.walks.specs.Rooms.{fits_in}
use Rattle.fitting.specs.Steps.{fits_all}
use Rattle.curves.specs.Refusals.{wrote, add_outcome, cut_outcome, provide_outcome, lengths_of, fit_outcome}
use Rattle.table.specs.Rules.{obeys}
use Rattle.table.specs.declared.Table.{Table}
use Rattle.putting.specs.Rooms.{in_room}
use Rattle.writing.specs.Text.{text_of}
use Rattle.writing.specs.Writing.{write_outcome}
use Rattle.reporting.specs.Reporting.{report_for, report_outcome}
use Rattle.reading.specs.Reading.{reading_of}
use Rattle.reading.proofs.TurnedAway.{turned_away}
use Rattle.machine.specs.Machine.{accepts, stepped, step_of}
use Rattle.machine.specs.declared.State.{State}
use Rattle.opening.specs.Opening.{answer_by, roomy}
use Rattle.scheduling.specs.Buffers.{Buffers}
use Rattle.scheduling.specs.Asking.{at_tick, who_of}
use Rattle.scheduling.specs.Analysing.{analysed, analysis_of}
use Rattle.handing_tables.specs.Tables.{number_in, step_for, Counted}
use Rattle.handing_tables.proofs.Given.{same_number}
use Rattle.handing.specs.Handing.{Listed}
use Rattle.grodvejas.specs.Calls.{Tells, Analyses}

-- ---- an outcome whose refusal has a number above 0

abbrev pub Numbered : {A : Type 0} → Result A Refusal → Type 0
Numbered r = IfErr r (λ (refusal : Refusal). 0 < refusal.number)

module _ {A : Type 0} where
  pub zero_accepted : (r : Result A Refusal) → Numbered r → number_in r ≡ 0 → (a : A) × (r ≡ Ok a)
  zero_accepted (Ok a) h e = (a, refl)
  zero_accepted (Err refusal) h e = absurd (omega (arith, h, e))

  pub accepted_by_number : (r : Result A Refusal) → Numbered r → is_ok r ≡ eqb (number_in r) 0
  accepted_by_number (Ok a) h = refl
  accepted_by_number (Err refusal) h = sym (ne_eqb refusal.number 0 (λ e. absurd (omega (arith, h, e))))

  -- of two by a test, each such
  pick_numbered : (b : Bool) (x y : Result A Refusal) → Numbered x → Numbered y → Numbered (pick b x y)
  pick_numbered true x y h k = h
  pick_numbered false x y h k = k

  refused_numbered : (refused : Bool) (ground : Ground) (a : A) → Numbered (pick refused (Err (refused_for ground)) (Ok a))
  refused_numbered true ground a = number_some ground
  refused_numbered false ground a = tt

-- ---- each call on a text or a table has such an outcome

pub reading_numbered : (text : List ℕ) → Numbered (reading_of text)
reading_numbered text = go (reading_of text) refl
  where
    go : (read : Result Table Refusal) → reading_of text ≡ read → Numbered read
    go (Ok table) e = tt
    go (Err refusal) e = (turned_away text refusal e).number

pub step_numbered : (table : Table) (before : State) → Numbered (step_of table before)
unfolding step_of
step_numbered table before = go (accepts table before)
  where
    go : (accepted : Bool) → Numbered (pick accepted (Ok (stepped table before)) (Err (refused_for OutOfStep)))
    go true = tt
    go false = number_some OutOfStep

pub step_for_numbered : (text : List ℕ) (before : State) → Numbered (step_for (reading_of text) before)
step_for_numbered text before = go (reading_of text) (reading_numbered text)
  where
    go : (read : Result Table Refusal) → Numbered read → Numbered (step_for read before)
    go (Ok table) h = step_numbered table before
    go (Err refusal) h = h

-- what is answered of a table that was read
answer_numbered : {A : Type 0} (of : Table → Result A Refusal) → ((table : Table) → Numbered (of table)) → (read : Result Table Refusal) → Numbered read
    → Numbered (answer_by Err of read)
answer_numbered of told (Ok table) h = told table
answer_numbered of told (Err refusal) h = h

module _ (text : List ℕ) where
  pub who_numbered : (tick : ℕ) (room : Bool) → Numbered (who_of text tick room)
  who_numbered tick false = number_some WorkRoom
  who_numbered tick true =
      answer_numbered (λ table. at_tick table tick) (λ table. refused_numbered (leb table.span tick) OutOfStep _) (reading_of text) (reading_numbered text)

  pub analysis_numbered : (room : Bool) → Numbered (analysis_of text room)
  analysis_numbered false = number_some WorkRoom
  analysis_numbered true = answer_numbered (λ table. Ok (analysed table)) (λ table. tt) (reading_of text) (reading_numbered text)

-- ---- and each other call

in_room_numbered : (bytes out : List ℕ) → Numbered (in_room bytes out)
in_room_numbered bytes out = pick_numbered (leb (length bytes) (length out)) (Ok (length bytes)) _ tt (number_some NoRoom)

pub report_numbered : (text out : List ℕ) → Numbered (report_outcome text out)
report_numbered text out = in_room_numbered (report_for text) out

pub write_numbered : (table : Table) (out : List ℕ) → Numbered (write_outcome table out)
write_numbered table out = pick_numbered (obeys table) _ _ (in_room_numbered (text_of table) out) (number_some RulesBroken)

wrote_numbered : (result out : List ℕ) → Numbered (wrote result out)
wrote_numbered result out = pick_numbered (fits_in result (length out)) (Ok (length result)) _ tt (number_some NoRoom)

pub add_numbered : (a b out : List ℕ) → Numbered (add_outcome a b out)
add_numbered a b out = pick_numbered (is_plain a && is_plain b) _ _ (wrote_numbered (add_up a b) out) (number_some NotPlain)

module _ (curve : List ℕ) where
  pub cut_numbered : (period : ℕ) (out : List ℕ) → Numbered (cut_outcome curve period out)
  cut_numbered period out =
      pick_numbered (eqb period 0) _ _ (number_some ArgumentZero)
      (pick_numbered (is_plain curve) _ _ (wrote_numbered (cut_at period curve) out) (number_some NotPlain))

  pub provide_numbered : (amount : ℕ) → Numbered (provide_outcome curve amount)
  provide_numbered amount =
      pick_numbered (eqb amount 0) _ _ (number_some ArgumentZero)
      (pick_numbered (is_plain curve) (Ok (provide curve amount)) _ tt (number_some NotPlain))

pub fit_numbered : (demand supply left served rest : List ℕ) → Numbered (fit_outcome demand supply left served rest)
fit_numbered demand supply left served rest =
    let o = fit demand supply in
    pick_numbered (is_plain demand && is_plain supply) _ _
    (pick_numbered (fits_all o (length left) (length served) (length rest)) (Ok (lengths_of o)) _ tt (number_some NoRoom)) (number_some NotPlain)

-- ---- the six work buffers, by the number that is handed out

told_by_number : {A : Type 0} (r : Result A Refusal) {number : ℕ} {a b c d e f a' b' c' d' e' f' : List ℕ} → Numbered r → number ≡ number_in r
    → Buffers (is_ok r) a b c d e f a' b' c' d' e' f' → Buffers (eqb number 0) a b c d e f a' b' c' d' e' f'
told_by_number r {number} {a} {b} {c} {d} {e} {f} {a'} {b'} {c'} {d'} {e'} {f'} h p w =
    subst (λ (accepted : Bool). Buffers accepted a b c d e f a' b' c' d' e' f') (accepted_by_number r h ∙ ap (λ (n : ℕ). eqb n 0) (sym p)) w

module _ (text a b c d e f : List ℕ) {refusal : Refusal} {a' b' c' d' e' f' : List ℕ} where
  pub tells_by_number : (tick holder runner : ℕ) {holder' runner' : ℕ}
      → Tells text tick a b c d e f holder runner refusal holder' runner' a' b' c' d' e' f' → Buffers (eqb refusal.number 0) a b c d e f a' b' c' d' e' f'
  tells_by_number tick holder runner p =
      told_by_number (who_of text tick (roomy a b c d e f)) (who_numbered text tick (roomy a b c d e f)) (same_number p.who.refusal_is) p.buffers

  pub analyses_by_number : (n : Counted) (l : Listed) {n' : Counted} {l' : Listed}
      → Analyses text a b c d e f n l refusal n' l' a' b' c' d' e' f' → Buffers (eqb refusal.number 0) a b c d e f a' b' c' d' e' f'
  analyses_by_number n l p =
      told_by_number (analysis_of text (roomy a b c d e f)) (analysis_numbered text (roomy a b c d e f)) (same_number p.answers.refusal_is) p.buffers
