-- Draws one after another.
use Rattle.std.proofs.Common.{◌≡◌, ℕ, zero, suc, ◌+◌, ◌*◌, ◌/◌, ◌%◌, ◌^◌, refl, ◌∙◌, ap, arith, add-one}
use Rattle.std.proofs.Math.Nat.{mod-add-mod}
use Rattle.wf_gen.specs.Draws.{next, after, draw}
use Rattle.wf_gen.specs.GenChart.{move, transition}

-- the product of 64 bits, and the sum
pub wrapped : (x : ℕ) → (x * 6364136223846793005 % 2 ^ 64 + 1442695040888963407) % 2 ^ 64 ≡ (x * 6364136223846793005 + 1442695040888963407) % 2 ^ 64
wrapped x = mod-add-mod (x * 6364136223846793005) (2 ^ 64) 1442695040888963407

pub ruleset drawn = (wrapped)

pub after-zero : (x : ℕ) → after 0 x ≡ x
unfolding after
after-zero x = refl

pub after-more : (k x : ℕ) → after (k + 1) x ≡ next (after k x)
unfolding after
after-more k x = rw add-one refl

pub after-add : (m k x : ℕ) → after (m + k) x ≡ after k (after m x)
unfolding after
after-add m zero x = let e : m + 0 ≡ m = omega arith in ap (λ (j : ℕ). after j x) e
after-add m (suc k) x = let e : m + suc k ≡ suc (m + k) = omega arith in ap (λ (j : ℕ). after j x) e ∙ ap next (after-add m k x)

-- the four draws of a transition
pub move_on : (n x t : ℕ) → x ≡ after (4 * t) n → move (t / 5) (draw x 1 4) (draw x 2 4) (draw x 3 4) (draw x 4 4) ≡ transition n t
move_on n x t is =
    rw is
    rw (after-add (4 * t) 1 n, after-add (4 * t) 2 n, after-add (4 * t) 3 n, after-add (4 * t) 4 n)
    refl

-- a draw after so many others
pub draw_on : (x m y : ℕ) → y ≡ after m x → draw y 1 3 ≡ draw x (m + 1) 3
draw_on x m y is = rw (is, after-add m 1 x) refl
