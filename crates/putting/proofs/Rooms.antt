-- A call that puts bytes into a lent buffer: refused where they do not fit, and only there; else they stand at its front. Assumes nothing.
use Prim.Native.Nat.{ℕ, ◌≤◌, ◌<◌}
use mathlib.Core.Path.{◌≡◌, ap, ◌∙◌}
use mathlib.Core.List.{List, ◌++◌}
use mathlib.Core.Bool.{Bool, true, false}
use native.Mathlib.Omega.{arith}
use lib.ListN.{length, drop, length-append}
use lib.Dec.{leb}
use borrow.Author.Tests.{le-leb, lt-leb}
use Rattle.std.specs.Prelude.{Result, Ok, Err}
use Rattle.basics.specs.Choice.{pick}
use Rattle.refusals.specs.Outcomes.{front, lent, Leaves}
use Rattle.refusals.specs.Refusals.{refused_for}
use Rattle.refusals.specs.declared.Ground.TheVariants.{NoRoom}
use Rattle.refusals.specs.declared.Refusal.{Refusal}
use Rattle.putting.specs.Puts.{Put}
use Rattle.putting.specs.Rooms.{in_room}

module _ (bytes out : List ℕ) where
  pub room_refused : length out < length bytes → Leaves (in_room bytes out) bytes out (Err (refused_for NoRoom)) out
  room_refused h = let no_room : leb (length bytes) (length out) ≡ false = lt-leb (length bytes) (length out) h in
      record { answer_is = rw no_room; buffer = rw no_room }

  pub room_written : {after : List ℕ} {r : ℕ} → length bytes ≤ length out → Put out after 0 bytes r → Leaves (in_room bytes out) bytes out (Ok (length bytes)) after
  room_written {after} {r} h w =
      let room : leb (length bytes) (length out) ≡ true = le-leb (length bytes) (length out) h in
      let all : r ≡ length bytes = omega (arith, w.count) in
      record { answer_is = rw room; buffer = rw room (w.fits (omega (arith, all)) ∙ ap (λ (k : ℕ). bytes ++ drop k out) all) }

  -- a count is that of bytes that the buffer has then
  pub count_fits : {n : ℕ} {after : List ℕ} → Leaves (in_room bytes out) bytes out (Ok n) after → n ≤ length after
  count_fits {n} {after} p = go (leb (length bytes) (length out)) p.answer_is p.buffer
    where
      count : Result ℕ Refusal → ℕ
      count (Ok k) = k
      count (Err refusal) = 0

      told : Bool → Result ℕ Refusal
      told b = pick b (Ok (length bytes)) (Err (refused_for NoRoom))

      go : (b : Bool) → Ok n ≡ told b → after ≡ lent (told b) bytes out → n ≤ length after
      go true q f =
          let all : n ≡ length bytes = ap count q in
          omega (arith, ap length f, length-append bytes (drop (length bytes) out))
      go false q f = let none : n ≡ 0 = ap count q in omega arith

  -- where there is room, the bytes are counted and the call is not refused
  module _ {r : Result ℕ Refusal} {after : List ℕ} (room : length bytes ≤ length out) (p : Leaves (in_room bytes out) bytes out r after) where
    pub room_counted : r ≡ Ok (length bytes)
    room_counted =
        let fits : leb (length bytes) (length out) ≡ true = le-leb (length bytes) (length out) room in
        p.answer_is ∙ rw fits

    -- and stand at the front
    pub room_front : after ≡ front bytes out
    room_front = let fits : leb (length bytes) (length out) ≡ true = le-leb (length bytes) (length out) room in rw fits at p.buffer

    pub room_not_refused : (refusal : Refusal) → r ≡ Err refusal → ⊥
    room_not_refused refusal e = let c = room_counted in cc

  -- bytes that are put where there is room stand at the front
  pub put_front : {after : List ℕ} {r : ℕ} → length bytes ≤ length out → Put out after 0 bytes r → after ≡ front bytes out
  put_front h w = room_front h (room_written h w)
