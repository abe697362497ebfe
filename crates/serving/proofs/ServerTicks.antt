-- What a server would hold, and what it holds and leaves of a free curve. Assumes nothing.
use Prim.Native.Nat.{ℕ, ◌-◌, ◌≤◌, ◌<◌}
use mathlib.Core.Path.{◌≡◌, refl, sym, ap, ◌∙◌}
use mathlib.Core.List.{List, []}
use mathlib.Core.Bool.{true}
use native.Mathlib.Omega.{arith}
use native.Mathlib.Decide.{dec_lt}
use lib.ListN.{length, take}
use Rattle.windows.specs.Windows.{window, cover, plain_from, is_plain, windows_of, always}
use Rattle.windows.proofs.Ticks.{inside_yes, inside_late, plain_apart, plain_same, cover_one, window_cover, window_apart}
use Rattle.table.specs.declared.Kind.{Kind}
use Rattle.table.specs.declared.Kind.TheVariants.{Deferrable, Periodic}
use Rattle.table.specs.declared.Table.{Table}
use Rattle.table.specs.Places.{server_at, Obeyed}
use Rattle.table.proofs.Obeyed.{span_most, server_period}
use Rattle.schedule.specs.Curves.{summed, holding, held_in, without}
use Rattle.schedule.proofs.Demands.{Inside, summed_inside}
use Rattle.windows.proofs.Capacity.{held_is_free}
use Rattle.schedule.proofs.Capacities.{held_past, first_free_is_held}
use Rattle.schedule.proofs.BelowEnd.{windows_inside, windows_below, holding_free}
use Rattle.buffers.specs.Parts.{PlainBelow, Curve, Drawn, Wrote, with_window}
use Rattle.holding.specs.Pieces.{held_from, left_from}
use Rattle.serving.specs.Wanted.{wanted_by, wanted_of}
use Rattle.demands.proofs.Additions.{plain_below}

-- a plain curve that covers the same ticks is the same list
pub drawn_is : {n : ℕ} {old new : List ℕ} {f : ℕ → ℕ} (l : List ℕ) → is_plain l ≡ true → ((t : ℕ) → cover l t ≡ f t) → Drawn old new n f → Wrote old new n l
drawn_is {n} {new = new} l p e d =
    record { same = d.same; count = d.count; front = plain_same (take n new) l d.plain p (λ t. d.covers t ∙ sym (e t)) }

-- a buffer with nothing in it yet
pub empty_curve : (buffer : List ℕ) → 16000 ≤ length buffer → Curve buffer 0 0
unfolding cover plain_from
empty_curve buffer room = record { room = room; count = omega arith; curve = record { plain = refl; over = λ t h. refl } }

-- ---- what a server would hold

-- the whole span
module _ (H : ℕ) (h : H ≤ 16000) where
  span_inside : Inside H (window 0 H [])
  unfolding cover
  span_inside = record {
    apart = window_apart 0 0 H [] (omega arith) tt tt;
    over = λ t k. ap (λ (f : ℕ → ℕ). f t) (window_cover 0 H []) ∙ omega (arith, inside_late 0 H t k);
  }

  pub span_plain : PlainBelow H (window 0 H [])
  span_plain = plain_below H (window 0 H []) (omega arith) span_inside

  pub span_covers : (t : ℕ) → t < H → cover (window 0 H []) t ≡ 1
  unfolding cover
  span_covers t k = ap (λ (f : ℕ → ℕ). f t) (window_cover 0 H []) ∙ omega (arith, inside_yes 0 H t (omega arith) k)

  -- put into an empty buffer
  pub span_drawn : {n : ℕ} {old new : List ℕ} → Drawn old new n (with_window (take 0 old) 0 H) → Wrote old new n (window 0 H [])
  unfolding cover
  span_drawn d = drawn_is (window 0 H []) span_plain.plain (λ t. ap (λ (f : ℕ → ℕ). f t) (window_cover 0 H []) ∙ omega arith) d

module _ (table : Table) (ok : Obeyed table) (i : ℕ) where
  wanted_by_plain : (kind : Kind) → PlainBelow table.span (wanted_by kind table i)
  wanted_by_plain Deferrable =
      plain_below table.span (summed table i) (omega (arith, span_most table ok)) (summed_inside table ok i table.tasks_n (omega arith))
  wanted_by_plain Periodic = span_plain table.span (span_most table ok)

  pub wanted_plain : PlainBelow table.span (wanted_of table i)
  wanted_plain = wanted_by_plain (server_at table i).kind

-- ---- what it holds of a free curve, and what it leaves

module _ (table : Table) (ok : Obeyed table) (i : ℕ) (h : i < table.servers_n) (free : List ℕ) (p : PlainBelow table.span free) where
  abbrev H : ℕ
  H = table.span

  abbrev C : ℕ
  C = (server_at table i).capacity

  abbrev T : ℕ
  T = (server_at table i).period

  unit : (t : ℕ) → cover free t ≤ 1
  unit t = cover_one free 0 t (plain_apart 0 free p.plain)

  -- what would be held is fitted in as it would be without an end
  holding_held : (kind : Kind) (t : ℕ) → t < H → holding kind C T (summed table i) free t ≡ held_from C T (wanted_by kind table i) free t
  holding_held Deferrable t k = refl
  holding_held Periodic t k =
      ap (λ (f : ℕ → ℕ). f t) (first_free_is_held C T (cover free) (server_period table ok i h) unit)
      ∙ held_past C T always (cover (window 0 H [])) (cover free) (cover free) t (λ u l. sym (span_covers H (span_most table ok) u (omega arith))) (λ u l. refl)

  abbrev hold : ℕ → ℕ
  hold = holding (server_at table i).kind C T (summed table i) free

  -- the held curve covers what is held
  pub held_covers : (t : ℕ) → cover (held_in table i free) t ≡ held_from C T (wanted_of table i) free t
  unfolding held_in
  held_covers t = go (dec_lt t H)
    where
      go : Dec (t < H) → cover (windows_of hold H) t ≡ held_from C T (wanted_of table i) free t
      go (yes k) =
          windows_below hold H t (λ u. omega (arith, holding_free C T (summed table i) free (server_at table i).kind u, unit u)) k
          ∙ holding_held (server_at table i).kind t k
      go (no k) =
          let late : H ≤ t = omega arith in
          omega (arith, (windows_inside hold H).over t late, held_is_free C T (cover (wanted_of table i)) (cover free) t, p.over t late)

  pub held_plain : PlainBelow H (held_in table i free)
  unfolding held_in
  held_plain = plain_below H (windows_of hold H) (omega (arith, span_most table ok)) (windows_inside hold H)

  -- the free curve below covers what is left
  abbrev rest : ℕ → ℕ
  rest t = cover free t - cover (held_in table i free) t

  pub left_covers : (t : ℕ) → cover (without H free (held_in table i free)) t ≡ left_from C T (wanted_of table i) free t
  left_covers t = go (dec_lt t H)
    where
      go : Dec (t < H) → cover (windows_of rest H) t ≡ left_from C T (wanted_of table i) free t
      go (yes k) = windows_below rest H t (λ u. omega (arith, unit u)) k ∙ ap (λ n. cover free t - n) (held_covers t)
      go (no k) = let late : H ≤ t = omega arith in omega (arith, (windows_inside rest H).over t late, p.over t late)

  pub left_plain : PlainBelow H (without H free (held_in table i free))
  left_plain = plain_below H (windows_of rest H) (omega (arith, span_most table ok)) (windows_inside rest H)

  -- the walk along both curves writes them
  module _ (demand : List ℕ) (e : demand ≡ wanted_of table i) where
    pub server_holds : {n : ℕ} {old new : List ℕ} → Drawn old new n (held_from C T demand free) → Wrote old new n (held_in table i free)
    server_holds d = drawn_is (held_in table i free) held_plain.plain (λ t. rw e (held_covers t)) d

    pub server_leaves : {n : ℕ} {old new : List ℕ} → Drawn old new n (left_from C T demand free) → Wrote old new n (without H free (held_in table i free))
    server_leaves d = drawn_is (without H free (held_in table i free)) left_plain.plain (λ t. rw e (left_covers t)) d
