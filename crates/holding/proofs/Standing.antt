-- Where the walk over a server's free ticks stands: the demand not yet served, the period under way and the free windows ahead. Assumes
-- nothing.
use Prim.Native.Nat.{ℕ, suc, ◌+◌, ◌-◌, ◌%◌, ◌≤◌, ◌<◌}
use mathlib.Core.Path.{◌≡◌, sym, ap, ◌∙◌}
use mathlib.Core.List.{List}
use mathlib.Core.Bool.{true}
use native.Mathlib.Omega.{arith}
use native.Mathlib.Numerals.{add-two}
use native.Mathlib.Nat.{zero-mod, mod-lt, mod-eq_of_lt, mod-add-mod}
use native.Mathlib.Decide.{dec_le, dec_lt}
use lib.ListN.{length, get_or}
use Rattle.windows.specs.Windows.{cover, is_plain, upto}
use Rattle.windows.specs.Servers.{so_far}
use Rattle.windows.proofs.Ticks.{plain_apart}
use Rattle.windows.proofs.Counts.{upto_rises, upto_none, upto_over}
use Rattle.holding.specs.declared.Place.{Place}
use Rattle.holding.specs.Pieces.{Entered}
use Rattle.windows.proofs.WindowsAt.{Even, WindowAt, first_gap, window_at}
use Rattle.holding.proofs.HeldBlocks.{upto_still, upto_ones, end_turns, so_far_later, so_far_none}

-- ---- the demand: of the window at d, what comes from `wanted` on is not yet served at `at`, and all before is

pub record Wants (demand : List ℕ) (h : ℕ → ℕ) (d wanted at : ℕ) : Type 0 where
  pub even : Even d
  pub from : d < length demand → get_or demand d 0 ≤ wanted
  pub ends : d < length demand → wanted < get_or demand (d + 1) 0
  pub count : d < length demand → upto (cover demand) wanted ≡ upto h at
  pub none : length demand ≤ d → (t : ℕ) → upto (cover demand) t ≤ upto h at

pub wants_first : (demand : List ℕ) (h : ℕ → ℕ) → is_plain demand ≡ true → Wants demand h 0 (get_or demand 0 0) 0
unfolding upto
wants_first demand h p =
    let a = plain_apart 0 demand p in
    record {
      even = tt;
      from = λ k. omega arith;
      ends = λ k. (window_at demand 0 p tt k).rises;
      count = λ k. upto_none (cover demand) (get_or demand 0 0) (λ u l. first_gap demand 0 u a (λ m. l)) (get_or demand 0 0) (omega arith);
      none = λ k t. omega (arith, upto_none (cover demand) t (λ u l. first_gap demand 0 u a (λ m. absurd (omega arith))) t (omega arith));
    }

-- nothing is held up to a later tick
pub wants_on : {demand : List ℕ} {h : ℕ → ℕ} {d wanted at to : ℕ} → Wants demand h d wanted at → upto h to ≡ upto h at → Wants demand h d wanted to
wants_on w e = record { even = w.even; from = w.from; ends = w.ends; count = λ k. w.count k ∙ sym e; none = λ k t. omega (arith, w.none k t) }

-- inside a window each tick brings one unit
window_count : {demand : List ℕ} {d : ℕ} → WindowAt 0 demand d → (w v : ℕ) → get_or demand d 0 ≤ w → w ≤ v → v ≤ get_or demand (d + 1) 0
    → upto (cover demand) v + w ≡ upto (cover demand) w + v
window_count {demand} win w v h k l = upto_ones (cover demand) w v k (λ u m n. win.inner u (omega arith) (omega arith))

-- a part of the window is served
pub wants_part : {demand : List ℕ} {h : ℕ → ℕ} {d wanted at stop v : ℕ} → is_plain demand ≡ true → Wants demand h d wanted at → d < length demand
    → at ≤ stop → upto h stop + at ≡ upto h at + stop → v + at ≡ wanted + stop → v < get_or demand (d + 1) 0 → Wants demand h d v stop
wants_part {demand} {h} {d} {wanted} {at} {stop} {v} p w k l e f m =
    let win = window_at demand d p w.even k in
    record {
      even = w.even;
      from = λ n. omega (arith, w.from k);
      ends = λ n. m;
      count = λ n. omega (arith, w.count k, window_count win wanted v (w.from k) (omega arith) (omega arith));
      none = λ n. absurd (omega arith);
    }

-- the rest of the window is served: then all is that came before its end
whole_count : {demand : List ℕ} {h : ℕ → ℕ} {d wanted at : ℕ} → WindowAt 0 demand d → Wants demand h d wanted at → d < length demand → (stop : ℕ)
    → upto h stop + at ≡ upto h at + stop → wanted + stop ≡ at + get_or demand (d + 1) 0 → upto (cover demand) (get_or demand (d + 1) 0) ≡ upto h stop
whole_count {demand} {d = d} {wanted} win w k stop e f =
    let rises : wanted ≤ get_or demand (d + 1) 0 = omega (arith, w.ends k) in
    omega (arith, w.count k, window_count win wanted (get_or demand (d + 1) 0) (w.from k) rises (omega arith))

-- behind the last window nothing comes
last_count : {demand : List ℕ} {d : ℕ} → WindowAt 0 demand d → length demand ≤ d + 2 → (t : ℕ) → upto (cover demand) t ≤ upto (cover demand) (get_or demand (d + 1) 0)
last_count {demand} {d} win n t = go (dec_le t (get_or demand (d + 1) 0))
  where
    go : Dec (t ≤ get_or demand (d + 1) 0) → upto (cover demand) t ≤ upto (cover demand) (get_or demand (d + 1) 0)
    go (yes l) = upto_rises (cover demand) t (get_or demand (d + 1) 0) l
    go (no l) = omega (arith, upto_over (cover demand) (get_or demand (d + 1) 0) (λ u m. win.gap u m (λ o. absurd (omega arith))) t (omega arith))

pub wants_whole : {demand : List ℕ} {h : ℕ → ℕ} {d wanted at stop : ℕ} → is_plain demand ≡ true → Wants demand h d wanted at → d < length demand
    → upto h stop + at ≡ upto h at + stop → wanted + stop ≡ at + get_or demand (d + 1) 0 → Wants demand h (d + 2) (get_or demand (d + 2) 0) stop
wants_whole {demand} {d = d} {stop = stop} p w k e f =
    let win = window_at demand d p w.even k in
    let all = whole_count win w k stop e f in
    let even : Even (d + 2) = rw add-two w.even in
    record {
      even = even;
      from = λ n. omega arith;
      ends = λ n. (window_at demand (d + 2) p even n).rises;
      count = λ n. upto_still (cover demand) (get_or demand (d + 1) 0) (get_or demand (d + 2) 0) (omega (arith, win.next n)) (λ u l m. win.gap u l (λ o. m)) ∙ all;
      none = λ n t. omega (arith, all, last_count win n t);
    }

-- while the window lasts, each tick has a unit to serve
pub wants_comes : {demand : List ℕ} {h : ℕ → ℕ} {d wanted at stop : ℕ} → is_plain demand ≡ true → Wants demand h d wanted at → d < length demand → wanted ≤ at
    → wanted + stop ≤ at + get_or demand (d + 1) 0 → (t : ℕ) → at ≤ t → t < stop → upto h at + suc t ≤ at + upto (cover demand) (suc t)
wants_comes {demand} {h} {d} {wanted} {at} {stop} p w k c l t m n =
    let v = wanted + (suc t - at) in
    let count = window_count (window_at demand d p w.even k) wanted v (w.from k) (omega arith) (omega arith) in
    let rises = upto_rises (cover demand) v (suc t) (omega arith) in
    sums (upto h at) (upto (cover demand) wanted) (upto (cover demand) v) (upto (cover demand) (suc t)) (suc t) (w.count k) count rises (omega arith)
  where
    sums : (ha xw xv xt t : ℕ) → xw ≡ ha → xv + wanted ≡ xw + (wanted + (t - at)) → xv ≤ xt → at ≤ t → ha + t ≤ at + xt
    sums ha xw xv xt t a b c d = omega arith

-- ---- a tick in the period that follows the one that ended at `until`

pub mod_since : (T until at : ℕ) → until % T ≡ 0 → until ≤ at → at < until + T → at % T ≡ at - until
mod_since T until at e h k =
    let n = at - until in
    let same : at ≡ until + n = omega arith in
    let small : n % T ≡ n = mod-eq_of_lt (omega arith) in
    let sum : (until % T + n) % T ≡ at % T = mod-add-mod until T n ∙ ap (λ (x : ℕ). x % T) (sym same) in
    sym sum ∙ ap (λ (x : ℕ). (x + n) % T) e ∙ ap (λ (x : ℕ). x % T) none ∙ small
  where
    none : 0 + (at - until) ≡ at - until
    none = omega arith

-- ---- the period under way ends at `until` and has `budget` left; if it is over, nothing was held since

pub record Paced (C T : ℕ) (h : ℕ → ℕ) (at until budget : ℕ) : Type 0 where
  pub turn : until % T ≡ 0
  pub far : at < until → until ≤ at + T
  pub left : at < until → budget + so_far T h at ≡ C
  pub idle : (t : ℕ) → until ≤ t → t < at → h t ≡ 0

-- it is not over
pub record Under (C T : ℕ) (h : ℕ → ℕ) (at until budget : ℕ) : Type 0 where
  pub turn : until % T ≡ 0
  pub soon : at < until
  pub far : until ≤ at + T
  pub left : budget + so_far T h at ≡ C

pub paced_first : (C T : ℕ) (h : ℕ → ℕ) → Paced C T h 0 0 0
paced_first C T h = record { turn = zero-mod T; far = λ k. absurd (omega arith); left = λ k. absurd (omega arith); idle = λ t k l. absurd (omega arith) }

-- counts that grow together
left_after : (C s s₀ ua ut b b₀ : ℕ) → b₀ + s₀ ≡ C → s + ua ≡ s₀ + ut → b + ut ≡ b₀ + ua → b + s ≡ C
left_after C s s₀ ua ut b b₀ e f g = omega arith

-- a later tick of the period, told by what was held since
under_on : {C T : ℕ} {h : ℕ → ℕ} {at until budget : ℕ} → 0 < T → Under C T h at until budget → (to b : ℕ) → at ≤ to → to < until
    → b + upto h to ≡ budget + upto h at → b + so_far T h to ≡ C
under_on {C} {T} {h} {at} {until} {budget} p u to b k l e =
    left_after C (so_far T h to) (so_far T h at) (upto h at) (upto h to) b budget u.left (so_far_later T h until at to p u.turn k l u.far) e

-- the walk goes on at a free tick, in the same period
under_kept : {C T : ℕ} {h : ℕ → ℕ} {at until budget : ℕ} → 0 < T → Paced C T h at until budget → (to : ℕ) → at ≤ to → to < until
    → ((t : ℕ) → at ≤ t → t < to → h t ≡ 0) → Under C T h to until budget
under_kept {C} {T} {h} {at} {until} {budget} p q to k l none =
    let soon : at < until = omega arith in
    let u : Under C T h at until budget = record { turn = q.turn; soon = soon; far = q.far soon; left = q.left soon } in
    record {
      turn = q.turn;
      soon = l;
      far = omega (arith, u.far);
      left = under_on p u to budget k l (ap (λ (n : ℕ). budget + n) (upto_still h at to k none));
    }

-- in a later one
under_anew : {C T : ℕ} {h : ℕ → ℕ} {at until budget : ℕ} → 0 < T → Paced C T h at until budget → (to : ℕ) → until ≤ to
    → ((t : ℕ) → at ≤ t → t < to → h t ≡ 0) → Under C T h to (to - to % T + T) C
under_anew {T = T} {h} {at} {until} p q to k none = record {
  turn = end_turns T to;
  soon = omega (arith, mod-lt to p);
  far = omega arith;
  left = omega (arith, so_far_none T h until to p q.turn k (λ t l m. quiet t l m (dec_lt t at)));
}
  where
    quiet : (t : ℕ) → until ≤ t → t < to → Dec (t < at) → h t ≡ 0
    quiet t l m (yes n) = q.idle t l n
    quiet t l m (no n) = none t (omega arith) m

pub paced_enter : {C T : ℕ} {h : ℕ → ℕ} {w r : Place} {at : ℕ} → 0 < T → Paced C T h w.at w.until w.budget → Entered C T w at r → w.at ≤ at
    → ((t : ℕ) → w.at ≤ t → t < at → h t ≡ 0) → Under C T h at r.until r.budget
paced_enter {C} {T} {h} {w} {r} {at} p q e k none = go (dec_lt at w.until)
  where
    go : Dec (at < w.until) → Under C T h at r.until r.budget
    go (yes l) = rw ((e.kept l).0, (e.kept l).1) (under_kept p q at k l none)
    go (no l) = let m : w.until ≤ at = omega arith in rw ((e.anew m).0, (e.anew m).1) (under_anew p q at m none)

-- ticks of which none is held
pub paced_on : {C T : ℕ} {h : ℕ → ℕ} {at until budget : ℕ} → 0 < T → Under C T h at until budget → (stop : ℕ) → at ≤ stop
    → ((t : ℕ) → at ≤ t → t < stop → h t ≡ 0) → Paced C T h stop until budget
paced_on {h = h} {at} {until} {budget} p u stop k none = record {
  turn = u.turn;
  far = λ l. omega (arith, u.far);
  left = λ l. under_on p u stop budget k l (ap (λ (n : ℕ). budget + n) (upto_still h at stop k none));
  idle = λ t l m. none t (omega (arith, u.soon)) m;
}

-- ticks that are all held
pub paced_served : {C T : ℕ} {h : ℕ → ℕ} {at until budget : ℕ} → 0 < T → Under C T h at until budget → (stop b : ℕ) → at ≤ stop → stop ≤ until
    → upto h stop + at ≡ upto h at + stop → b + stop ≡ budget + at → Paced C T h stop until b
paced_served {h = h} {at} {until} {budget} p u stop b k m e f = record {
  turn = u.turn;
  far = λ l. omega (arith, u.far);
  left = λ l. under_on p u stop b k l (omega arith);
  idle = λ t l n. absurd (omega arith);
}

-- ---- the free windows: the one at i ends after `at`, and before it nothing is free

pub record Offers (free : List ℕ) (i at : ℕ) : Type 0 where
  pub even : Even i
  pub ends : i < length free → at < get_or free (i + 1) 0
  pub gap : (t : ℕ) → at ≤ t → (i < length free → t < get_or free i 0) → cover free t ≡ 0

pub offers_first : (free : List ℕ) → is_plain free ≡ true → Offers free 0 0
offers_first free p = record {
  even = tt;
  ends = λ k. omega (arith, (window_at free 0 p tt k).rises);
  gap = λ t k l. first_gap free 0 t (plain_apart 0 free p) l;
}

-- index k is that of the window at i, or of the next one if that ends at `stop` or before
pub record Behind (free : List ℕ) (i stop k : ℕ) : Type 0 where
  pub used : get_or free (i + 1) 0 ≤ stop → k ≡ i + 2
  pub kept : stop < get_or free (i + 1) 0 → k ≡ i

pub offers_next : {free : List ℕ} {i at stop k : ℕ} → is_plain free ≡ true → Even i → i < length free → get_or free i 0 ≤ at → at < stop → stop ≤ get_or free (i + 1) 0
    → Behind free i stop k → Offers free k stop
offers_next {free} {i} {at} {stop} {k} p ev there l m n b = go (dec_le (get_or free (i + 1) 0) stop)
  where
    win : WindowAt 0 free i
    win = window_at free i p ev there

    ev2 : Even (i + 2)
    ev2 = rw add-two ev

    go : Dec (get_or free (i + 1) 0 ≤ stop) → Offers free k stop
    go (yes q) =
        rw (b.used q)
        (record {
          even = ev2;
          ends = λ o. omega (arith, win.next o, (window_at free (i + 2) p ev2 o).rises);
          gap = λ t r f. win.gap t (omega arith) f;
        })
    go (no q) = rw (b.kept (omega arith)) (record { even = ev; ends = λ o. omega arith; gap = λ t r f. absurd (omega (arith, f there)) })
