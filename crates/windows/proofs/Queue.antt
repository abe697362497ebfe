-- The one queue behind adding, fitting, servers and the machine: work comes, waits, and is done as soon as the supply allows. That
-- smoothing the work first changes nothing, that two queues one behind the other are one, and serving told by counts. Assumes nothing.
use Prim.Native.Nat.{ℕ, zero, suc, ◌+◌, ◌-◌, ◌≤◌, ◌<◌, min}
use mathlib.Core.Path.{◌≡◌, refl, sym, ap, ◌∙◌, fun_ext}
use native.Mathlib.Omega.{arith}
use native.Mathlib.Decide.{dec_le, dec_lt}
use Rattle.windows.specs.Windows.{upto, waiting, done, always, ◌⊕◌}

abbrev pub none : ℕ → ℕ
none t = 0

-- the work x, one unit a tick as soon as any waits
abbrev pub smooth : (ℕ → ℕ) → ℕ → ℕ
smooth x = done x always

pub done_one : (x sup : ℕ → ℕ) → ((t : ℕ) → sup t ≤ 1) → (t : ℕ) → done x sup t ≤ 1
unfolding done
done_one x sup unit t = omega (arith, unit t)

pub smooth_one : (x : ℕ → ℕ) (t : ℕ) → smooth x t ≤ 1
unfolding done
smooth_one x t = omega arith

-- ---- smoothing changes nothing downstream

module _ (x y sup : ℕ → ℕ) (unit : (t : ℕ) → sup t ≤ 1) where
  smoothing_waits : (t : ℕ) → waiting (smooth x ⊕ y) sup t + waiting x always t ≡ waiting (x ⊕ y) sup t
  unfolding waiting done
  smoothing_waits zero = omega arith
  smoothing_waits (suc t) = omega (arith, smoothing_waits t, unit t)

  pub smoothing_absorbed : done (smooth x ⊕ y) sup ≡ done (x ⊕ y) sup
  unfolding done
  smoothing_absorbed = fun_ext (λ t. omega (arith, smoothing_waits t, unit t))

pub smooth_absorbed : (x y : ℕ → ℕ) → smooth (smooth x ⊕ y) ≡ smooth (x ⊕ y)
smooth_absorbed x y = smoothing_absorbed x y always (λ t. omega arith)

-- where no tick brings more than one unit, none ever waits
units_wait : (x : ℕ → ℕ) → ((t : ℕ) → x t ≤ 1) → (t : ℕ) → waiting x always t ≡ 0
unfolding waiting
units_wait x h zero = refl
units_wait x h (suc t) = omega (arith, units_wait x h t, h t)

pub smooth_units : (x : ℕ → ℕ) → ((t : ℕ) → x t ≤ 1) → smooth x ≡ x
unfolding done
smooth_units x h = fun_ext (λ t. omega (arith, units_wait x h t, h t))

-- ---- work in two queues, the second served by what the first leaves, is the work of one queue

-- one tick: s can be done, u waits in the first queue and v in the second
turn_now : (s u v : ℕ) → min s u + min (s - min s u) v ≡ min s (u + v)
turn_now s u v = omega arith

turn_next : (s u v : ℕ) → (u - min s u) + (v - min (s - min s u) v) ≡ (u + v) - min s (u + v)
turn_next s u v = rest (min s u) (min (s - min s u) v) (min s (u + v)) (omega arith) (omega arith) (turn_now s u v)
  where
    rest : (a b c : ℕ) → a ≤ u → b ≤ v → a + b ≡ c → (u - a) + (v - b) ≡ (u + v) - c
    rest a b c h k e = omega arith

module _ (x y sup : ℕ → ℕ) where
  -- what the first queue leaves
  abbrev pub left_by : ℕ → ℕ
  left_by t = sup t - done x sup t

  in_turn_sum : (t : ℕ) → waiting x sup t + waiting y left_by t ≡ waiting (x ⊕ y) sup t
      → (waiting x sup t + x t) + (waiting y left_by t + y t) ≡ waiting (x ⊕ y) sup t + (x t + y t)
  in_turn_sum t h = omega arith

  in_turn_waits : (t : ℕ) → waiting x sup t + waiting y left_by t ≡ waiting (x ⊕ y) sup t
  unfolding waiting done
  in_turn_waits zero = omega arith
  in_turn_waits (suc t) =
      turn_next (sup t) (waiting x sup t + x t) (waiting y left_by t + y t) ∙ ap (λ w. w - min (sup t) w) (in_turn_sum t (in_turn_waits t))

  pub in_turn : done (x ⊕ y) sup ≡ done x sup ⊕ done y left_by
  unfolding done
  in_turn =
      fun_ext (λ t.
      sym (turn_now (sup t) (waiting x sup t + x t) (waiting y left_by t + y t) ∙ ap (min (sup t)) (in_turn_sum t (in_turn_waits t))))

-- ---- what is done looks only at the past

module _ (x y s s' : ℕ → ℕ) where
  waiting_past : (t : ℕ) → ((u : ℕ) → u < t → x u ≡ y u) → ((u : ℕ) → u < t → s u ≡ s' u) → waiting x s t ≡ waiting y s' t
  unfolding waiting
  waiting_past zero p q = refl
  waiting_past (suc t) p q =
      let ih : waiting x s t ≡ waiting y s' t = waiting_past t (λ u h. p u (omega arith)) (λ u h. q u (omega arith)) in
      omega (arith, ih, p t (omega arith), q t (omega arith))

  pub done_past : (t : ℕ) → ((u : ℕ) → u ≤ t → x u ≡ y u) → ((u : ℕ) → u ≤ t → s u ≡ s' u) → done x s t ≡ done y s' t
  unfolding done
  done_past t p q =
      let w : waiting x s t ≡ waiting y s' t = waiting_past t (λ u h. p u (omega arith)) (λ u h. q u (omega arith)) in
      omega (arith, w, p t (omega arith), q t (omega arith))

-- ---- where no work comes, none is done

module _ (x s : ℕ → ℕ) (e : ℕ) (quiet : (u : ℕ) → u < e → x u ≡ 0) where
  waiting_quiet : (t : ℕ) → t ≤ e → waiting x s t ≡ 0
  unfolding waiting
  waiting_quiet zero h = refl
  waiting_quiet (suc t) h = omega (arith, waiting_quiet t (omega arith), quiet t h)

  pub done_quiet : (t : ℕ) → t < e → done x s t ≡ 0
  unfolding done
  done_quiet t h = omega (arith, waiting_quiet t (omega arith), quiet t h)

module _ (x s : ℕ → ℕ) (n : ℕ) (empty : waiting x s n ≡ 0) (over : (u : ℕ) → n ≤ u → x u ≡ 0) where
  pub waiting_over : (t : ℕ) → n ≤ t → waiting x s t ≡ 0
  unfolding waiting
  waiting_over zero h = refl
  waiting_over (suc t) h = go (waiting_over t) (dec_le n t)
    where
      go : (n ≤ t → waiting x s t ≡ 0) → Dec (n ≤ t) → (waiting x s t + x t) - min (s t) (waiting x s t + x t) ≡ 0
      go ih (yes k) = omega (arith, ih k, over t k)
      go ih (no k) = let e : n ≡ suc t = omega arith in ap (waiting x s) (sym e) ∙ empty

  pub done_over : (t : ℕ) → n ≤ t → done x s t ≡ 0
  unfolding done
  done_over t h = omega (arith, waiting_over t h, over t h)

-- ---- serving told by counts: each unit is served at the earliest tick left

pub record Serves (x s r : ℕ → ℕ) : Type 0 where
  pub within : (t : ℕ) → r t ≤ s t
  pub causal : (t : ℕ) → upto r t ≤ upto x t
  pub busy : (t : ℕ) → r t < s t → upto r (suc t) ≡ upto x (suc t)

-- one tick: what is served is the least of what is offered and what waits
serves_one : (r s w x ur ux : ℕ) → r ≤ s → ur + r ≤ ux + x → (r < s → ur + r ≡ ux + x) → ur + w ≡ ux → r ≡ min s (w + x)
serves_one r s w x ur ux a b c d = go (dec_lt r s)
  where
    go : Dec (r < s) → r ≡ min s (w + x)
    go (yes h) = omega (arith, c h)
    go (no h) = omega arith

module _ (x s : ℕ → ℕ) where
  -- work brought is work done or work that waits
  pub waiting_count : (t : ℕ) → waiting x s t + upto (done x s) t ≡ upto x t
  unfolding upto waiting done
  waiting_count zero = omega arith
  waiting_count (suc t) = omega (arith, waiting_count t)

  pub done_serves : Serves x s (done x s)
  unfolding upto waiting done
  done_serves = record { within = λ t. omega arith; causal = λ t. omega (arith, waiting_count t); busy = λ t h. omega (arith, waiting_count t) }

  module _ (r : ℕ → ℕ) (f : Serves x s r) where
    serves_tick : (t : ℕ) → upto r t + waiting x s t ≡ upto x t → r t ≡ min (s t) (waiting x s t + x t)
    unfolding upto
    serves_tick t ih = serves_one (r t) (s t) (waiting x s t) (x t) (upto r t) (upto x t) (f.within t) (f.causal (suc t)) (f.busy t) ih

    serves_count : (t : ℕ) → upto r t + waiting x s t ≡ upto x t
    unfolding upto waiting
    serves_count zero = omega arith
    serves_count (suc t) = omega (arith, serves_tick t (serves_count t), serves_count t)

    pub serves_done : r ≡ done x s
    unfolding done
    serves_done = fun_ext (λ t. serves_tick t (serves_count t))
