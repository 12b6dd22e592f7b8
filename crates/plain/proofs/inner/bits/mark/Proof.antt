-- `plain::inner::bits::mark` meets its contract: the bits below, and the bit itself as a power of two. Assumes nothing.
use mathlib.Core.Path.{◌≡◌, sym, ap, ◌∙◌}
use mathlib.Core.Bool.{Bool, true, false}
use Prim.Native.Nat.{ℕ, suc, ◌+◌, ◌*◌, ◌/◌, ◌%◌, ◌^◌, ◌<◌, ◌≤◌}
use native.Mathlib.Nat.{one-mul, mod-eq_of_lt}
use native.Mathlib.Omega.{arith}
use lib.ListN.{get_or, set}
use lib.Pow.{pow_pos, pow-lt, pow_mono}
use borrow.Author.Rules.{rules}
use Rattle.records.specs.Count.{bit}
use Rattle.plain.proofs.Digits.{wrote_lt}
use Rattle.plain.proofs.inner.bits.mark.Statement.{statement}
use Rattle.plain.proofs.inner.bits.mark.Tie as tie

-- the bit by itself, in a byte
one_bit : (v : ℕ) → (1 * 2 ^ (v % 8)) % 256 ≡ 2 ^ (v % 8)
one_bit v = let small : 2 ^ (v % 8) < 2 ^ 8 = pow-lt {i = v % 8} {j = 8} (omega arith) in ap (λ (x : ℕ). x % 256) (one-mul (2 ^ (v % 8))) ∙ mod-eq_of_lt small

-- with the bits below it, it is within the byte
set_small : (b v : ℕ) → b % 2 ^ (v % 8) + 2 ^ (v % 8) < 256
set_small b v =
    let most : 2 ^ suc (v % 8) ≤ 2 ^ 8 = pow_mono {i = suc (v % 8)} {j = 8} (omega arith) in
    omega (arith, wrote_lt b (v % 8) 1 (omega arith))

-- the byte that is written, by the colour
black_byte : (b v : ℕ) (t : Bool) → t ≡ true → b % ((1 * 2 ^ (v % 8)) % 256) + (1 * 2 ^ (v % 8)) % 256 ≡ b % 2 ^ (v % 8) + bit t * 2 ^ (v % 8)
black_byte b v t e = rw (e, one_bit v) (ap (λ (x : ℕ). b % 2 ^ (v % 8) + x) (sym (one-mul (2 ^ (v % 8)))))

white_byte : (b v : ℕ) (t : Bool) → t ≡ false → b % ((1 * 2 ^ (v % 8)) % 256) ≡ b % 2 ^ (v % 8) + bit t * 2 ^ (v % 8)
white_byte b v t e = rw (e, one_bit v) (omega arith)

returns : tie.Need-returns-then-black
returns c = let a = c.before.before.args in ap (set a.bits.now (a.v / 8)) (black_byte (get_or a.bits.now (a.v / 8) 0) a.v a.black c.if-black.true)

returns_2 : tie.Need-returns-else-black
returns_2 c = let a = c.before.before.args in ap (set a.bits.now (a.v / 8)) (white_byte (get_or a.bits.now (a.v / 8) 0) a.v a.black c.if-black.false)

pub mark_spec : {M : Type 1} → statement M
mark_spec =
    tie.close
    (tie.spec
    (λ c. search rules) (λ c. search rules) (λ c. search rules) (λ c. search rules)
    (λ c. let v = c.before.args.v in rw (one_bit v) (pow_pos (v % 8)))
    (λ c. let a = c.before.before.args in record { fits = rw (one_bit a.v) (set_small (get_or a.bits.now (a.v / 8) 0) a.v) })
    (λ c. search rules) (λ c. search rules) (λ c. search rules)
    returns
    (λ c. search rules)
    returns_2)
