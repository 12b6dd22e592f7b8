-- `metres::inner::halved` meets its contract. a times 2^(s+1) is exact (`scaled`), and its whole part is what `truncating_f64_to_u64` gives. Assumes nothing.
use Rattle.std.proofs.Common.{◌≡◌, ℕ, ◌+◌, ◌*◌, ◌/◌, ◌%◌, ◌^◌, ◌<◌, ◌≤◌, false, T, pos, sym, ap, ◌∙◌, subst, le_trans, mod-lt, mod-eq_of_lt, mul_assoc, mul_comm, mul-le-mul_left, div-add-mod', arith, lit≤, le→leb, pow_mono, rules}
use lib.Ieee.{Float, binary64, mul, of_int, fits, in_float}
use lib.Ieee.Exact.{HasValue}
use lib.Ieee.Positive.{num, den, den_pos}
use Rattle.metres.specs.Metres.{finest}
use Rattle.metres.proofs.Floats.{scaled, above_minus_one, below_two_64, cut_is}
use Rattle.metres.proofs.inner.halved.Statement.{statement}
use Rattle.metres.proofs.inner.halved.Tie as tie

-- ---- 2 << s
pow_small : (s : ℕ) → s ≤ finest → 2 * 2 ^ s ≤ 2 ^ 11
pow_small s h =
    let x : 2 ^ s ≤ 2 ^ 10 = pow_mono h in
    omega arith

two_shifted : (s : ℕ) → s ≤ finest → 2 * 2 ^ s % 2 ^ 64 ≡ 2 * 2 ^ s
two_shifted s h =
    let x = pow_small s h in
    mod-eq_of_lt (omega arith)

number_held : (n : ℕ) → n ≤ 2 ^ 53 → T (in_float binary64 (pos n))
unfolding in_float
number_held n h = le→leb n (2 ^ 53) h

-- ---- how large a times 2^(s+1) is
bounded : (n d s : ℕ) → n < 2 ^ 32 * d → s ≤ finest → 2 * n * 2 ^ s < 2 ^ 43 * d
bounded n d s h S =
    let x : n * (2 * 2 ^ s) ≤ n * 2 ^ 11 = mul-le-mul_left n (pow_small s S) in
    let y : 2 * n * 2 ^ s ≡ n * (2 * 2 ^ s) = ap (λ (z : ℕ). z * 2 ^ s) (mul_comm 2 n) ∙ mul_assoc n 2 (2 ^ s) in
    omega arith

-- ---- what is known of a times 2^(s+1), where it stands
-- what owning an `f64` tells: the format holds it
in_format : (c : tie.Start) → T (fits binary64 c.args.a)
in_format c = subst T (sym c.well_formed.0.1) tt

abbrev product : tie.Start → Float
product c = mul binary64 c.args.a (of_int binary64 (pos (2 * 2 ^ c.args.s % 2 ^ 64)))

-- its size, as a number of half voxels times `den a`
abbrev half_voxels : tie.Start → ℕ
half_voxels c = 2 * num c.args.a * 2 ^ c.args.s

value : (c : tie.Start) → HasValue (product c) false (half_voxels c) (den c.args.a)
value c = rw (two_shifted c.args.s c.requires.0) (scaled c.args.a c.args.s c.requires.1.0 (in_format c) c.requires.1.1 c.requires.0)

small_product : (c : tie.Start) → half_voxels c < 2 ^ 43 * den c.args.a
small_product c = bounded (num c.args.a) (den c.args.a) c.args.s c.requires.1.1 c.requires.0

below_64 : (c : tie.Start) → half_voxels c < 2 ^ 64 * den c.args.a
below_64 c = omega (arith, small_product c)

-- the whole part that the call gave
whole_is : (c : tie.After-truncating_f64_to_u64) → c.truncating_f64_to_u64.result ≡ half_voxels c.before.before / den c.before.before.args.a
whole_is c =
    let start = c.before.before in
    c.truncating_f64_to_u64.ensures ∙ cut_is (product start) (half_voxels start) (den start.args.a) (value start) (den_pos start.args.a) (below_64 start)

returns : tie.Need-returns
returns c =
    let start = c.before.before in
    let w = c.truncating_f64_to_u64.result in
    let d = den start.args.a in
    let e : w ≡ half_voxels start / d = whole_is c in
    let sum : w * d + half_voxels start % d ≡ half_voxels start = rw e (div-add-mod' (half_voxels start) d) in
    let r : half_voxels start % d < d = mod-lt (half_voxels start) (den_pos start.args.a) in
    record { least = omega arith; most = omega arith }

pub halved_spec : {M : Type 1} → statement M
halved_spec =
    tie.close
    (tie.spec
    (λ c. search rules)
    (λ c. let s = c.before.args.s in let h = c.before.requires.0 in rw (two_shifted s h) (number_held (2 * 2 ^ s) (le_trans (pow_small s h) (lit≤ tt))))
    (λ c κs.
    let start = c.before in
    let d = den start.args.a in
    (above_minus_one (product start) (half_voxels start) d (value start), below_two_64 (product start) (half_voxels start) d (value start) (den_pos start.args.a) (below_64 start)))
    returns)
