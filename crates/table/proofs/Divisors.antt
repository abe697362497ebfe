-- Laws of the greatest common divisor and the least common multiple. Assumes nothing.
use mathlib.Core.Path.{◌≡◌, refl, ap, sym, subst, ◌∙◌}
use Prim.Native.Nat.{ℕ, zero, suc, ◌*◌, ◌%◌, ◌/◌, ◌≤◌, ◌<◌, ◌∣◌}
use native.Mathlib.Nat.{dvd_refl, dvd-zero, dvd-mod_iff, dvd-mul_right, dvd-mul_left, dvd_trans, mul-dvd-mul_left, mul-dvd-mul_right, dvd_of_mul-dvd-mul_left, dvd_of_mul-dvd-mul_right, div-mul_cancel, mul_assoc, mul_comm, mul-pos, zero-mul, mod-lt, pos_of_dvd_of_pos}
use native.Mathlib.Omega.{arith}
use Rattle.table.specs.Euclid.{IsGcd, IsLcm}

-- of a number and zero
pub gcd_zero : (a b : ℕ) → b ≡ 0 → IsGcd a b a
gcd_zero a b e = record { left = dvd_refl a; right = rw e (dvd-zero a); greatest = λ d p q. p }

-- Euclid's rule
pub gcd_rule : (a b g : ℕ) → IsGcd b (a % b) g → IsGcd a b g
gcd_rule a b g h = record {
  left = (dvd-mod_iff g {m = a} {n = b} h.left).0 h.right;
  right = h.left;
  greatest = λ d p q. h.greatest d q ((dvd-mod_iff d {m = a} {n = b} q).1 p);
}

-- there is one, by Euclid's rule
gcd_exists : (n a b : ℕ) → b ≤ n → (g : ℕ) × IsGcd a b g
gcd_exists zero a b h = (a, gcd_zero a b (omega arith))
gcd_exists (suc n) a zero h = (a, gcd_zero a zero refl)
gcd_exists (suc n) a (suc b) h =
    let less : a % suc b < suc b = mod-lt a (omega arith) in
    let r = gcd_exists n (suc b) (a % suc b) (omega arith) in
    (r.0, gcd_rule a (suc b) r.0 r.1)

-- what divides m times a and m times b divides m times their greatest common divisor
scaled : (a b g m d : ℕ) → 0 < m → IsGcd a b g → d ∣ m * a → d ∣ m * b → d ∣ m * g
scaled a b g m d p h da db =
    let e = gcd_exists (m * b) (m * a) (m * b) (omega arith) in
    let G = e.0 in
    let x = G / m in
    let is : m * x ≡ G = mul_comm m x ∙ div-mul_cancel m {m = G} (e.1.greatest m (dvd-mul_right m a) (dvd-mul_right m b)) in
    let xa : x ∣ a = dvd_of_mul-dvd-mul_left x p (subst (λ (z : ℕ). z ∣ m * a) (sym is) e.1.left) in
    let xb : x ∣ b = dvd_of_mul-dvd-mul_left x p (subst (λ (z : ℕ). z ∣ m * b) (sym is) e.1.right) in
    dvd_trans d (e.1.greatest d da db) (subst (λ (z : ℕ). z ∣ m * g) is (mul-dvd-mul_left x m (h.greatest x xa xb)))

factor_some : (x y : ℕ) → 0 < x * y → 0 < x
factor_some zero y h = rw (zero-mul y) at h
factor_some (suc x) y h = omega arith

module _ (a b g : ℕ) (p : 0 < a) (q : 0 < b) (h : IsGcd a b g) where
  pub g_some : 0 < g
  g_some = pos_of_dvd_of_pos h.left p

  -- a / g * b divides each common multiple above 0
  multiple_least : (m : ℕ) → 0 < m → a ∣ m → b ∣ m → a / g * b ∣ m
  multiple_least m z am bm =
      let whole : a / g * b * g ≡ a * b =
      mul_assoc (a / g) b g ∙ ap (λ (x : ℕ). a / g * x) (mul_comm b g) ∙ sym (mul_assoc (a / g) g b) ∙ ap (λ (x : ℕ). x * b) (div-mul_cancel g {m = a} h.left) in
      let first : a * b ∣ m * a = subst (λ (x : ℕ). a * b ∣ x) (mul_comm a m) (mul-dvd-mul_left b a bm) in
      let second : a * b ∣ m * b = mul-dvd-mul_right a am b in
      dvd_of_mul-dvd-mul_right (a / g * b) g_some (subst (λ (x : ℕ). x ∣ m * g) (sym whole) (scaled a b g m (a * b) z h first second))

  any_least : (m : ℕ) → a ∣ m → b ∣ m → a / g * b ∣ m
  any_least zero am bm = dvd-zero (a / g * b)
  any_least (suc m) am bm = multiple_least (suc m) (omega arith) am bm

  pub lcm_is : IsLcm a b (a / g * b)
  lcm_is =
      let e : a / g * g ≡ a = div-mul_cancel g {m = a} h.left in
      record {
        some = mul-pos (factor_some (a / g) g (rw e p)) q;
        left = subst (λ (x : ℕ). x ∣ a / g * b) e (mul-dvd-mul_left g (a / g) h.right);
        right = dvd-mul_left b (a / g);
        least = any_least;
      }
