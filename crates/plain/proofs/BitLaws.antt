-- Laws of a bit buffer: one bit written, the bytes of a cube, bits known by the voxels, and a loop over the voxels that writes bit after bit. Assumes nothing.
use mathlib.Core.Path.{◌≡◌, refl, sym, ap, ap₂, ◌∙◌}
use mathlib.Core.Logic.{◌↔◌, ⊎_elim}
use mathlib.Core.Bool.{Bool, true, false}
use mathlib.Core.List.{List, ◌++◌}
use Prim.Native.Nat.{ℕ, zero, suc, ◌+◌, ◌-◌, ◌*◌, ◌/◌, ◌%◌, ◌^◌, ◌<◌, ◌≤◌}
use native.Mathlib.Omega.{arith}
use lib.ListN.{length, get_or, take, drop, length-set, length-drop, take-append-drop, get_or-eq_default}
use lib.Pow.{pow_mono}
use lib.Seq.{length-take-le, get_or-set_same, get_or-set_other, get_or-take, get_or-drop, ext_get_or}
use Rattle.cells.proofs.Power.{le_or_lt, pow8_pos, pow8_suc}
use Rattle.records.specs.Count.{bit}
use Rattle.records.specs.Writing.{stands}
use Rattle.plain.specs.Bits.{bytes_for, bit_at, BitsOf}
use Rattle.plain.specs.Inner.{marked, Painted}
use Rattle.plain.proofs.Digits.{digit, digit_none, digit_here, digit_below, digit_above, wrote_lt, same_digits}

-- ---- the bytes of a cube: eight voxels to a byte, and no byte without a voxel

pub bytes_enough : (D : ℕ) → 8 ^ D ≤ 8 * bytes_for D
unfolding bytes_for
bytes_enough zero = omega arith
bytes_enough (suc D) = omega (arith, pow8_suc D, pow8_pos D)

pub bytes_needed : (D : ℕ) → 8 * bytes_for D < 8 ^ D + 8
unfolding bytes_for
bytes_needed zero = omega arith
bytes_needed (suc D) = omega (arith, pow8_suc D, pow8_pos D)

-- ---- bits

-- a colour as a bit
bit_lt : (c : Bool) → bit c < 2
bit_lt true = omega arith
bit_lt false = omega arith

pub bit_black : (c : Bool) → (bit c ≡ 1) ↔ (c ≡ true)
bit_black true = (λ e. refl, λ e. refl)
bit_black false = (λ e. absurd (omega arith), λ e. let z : ◌≡◌ {A = ℕ} 0 1 = ap bit e in z)

-- a bit that is not 1 is 0, and bits that are 1 together are the same
pub bit_zero : (b : List ℕ) (v : ℕ) → (bit_at b v ≡ 1 → ⊥) → bit_at b v ≡ 0
unfolding bit_at
bit_zero b v n = omega arith

pub same_bit : (a b : List ℕ) (v : ℕ) → (bit_at a v ≡ 1) ↔ (bit_at b v ≡ 1) → bit_at a v ≡ bit_at b v
same_bit a b v (to, back) = go (bit_at b v) refl
  where
    go : (k : ℕ) → bit_at b v ≡ k → bit_at a v ≡ bit_at b v
    go zero e = bit_zero a v (λ f. omega (arith, to f)) ∙ sym e
    go (suc zero) e = back e ∙ sym e
    go (suc (suc k)) e = let z = bit_zero b v (λ f. omega arith) in absurd (omega arith)

-- past the end of the buffer each bit is 0
pub bit_past : (b : List ℕ) (v : ℕ) → length b ≤ v / 8 → bit_at b v ≡ 0
unfolding bit_at
bit_past b v h = ap (λ (x : ℕ). digit x (v % 8)) (get_or-eq_default b 0 h) ∙ digit_none (v % 8)

-- a bit is that of its byte
pub same_byte : (a b : List ℕ) (v : ℕ) → get_or a (v / 8) 0 ≡ get_or b (v / 8) 0 → bit_at a v ≡ bit_at b v
unfolding bit_at
same_byte a b v e = ap (λ (x : ℕ). digit x (v % 8)) e

-- ---- one bit written

module _ (b : List ℕ) (v : ℕ) (c : Bool) (room : v < 8 * length b) where
  abbrev byte : ℕ
  byte = get_or b (v / 8) 0

  byte_here : get_or (marked b v c) (v / 8) 0 ≡ byte % 2 ^ (v % 8) + bit c * 2 ^ (v % 8)
  byte_here = get_or-set_same b (v / 8) (byte % 2 ^ (v % 8) + bit c * 2 ^ (v % 8)) 0 (omega arith)

  pub byte_other : (i : ℕ) → (i ≡ v / 8 → ⊥) → get_or (marked b v c) i 0 ≡ get_or b i 0
  byte_other i n = get_or-set_other b (v / 8) i (byte % 2 ^ (v % 8) + bit c * 2 ^ (v % 8)) 0 n

  pub byte_small : get_or (marked b v c) (v / 8) 0 < 256
  byte_small =
      let most : 2 ^ suc (v % 8) ≤ 2 ^ 8 = pow_mono {i = suc (v % 8)} {j = 8} (omega arith) in
      omega (arith, byte_here, wrote_lt byte (v % 8) (bit c) (bit_lt c))

  -- what digit j of the byte is
  in_byte : (u : ℕ) → u / 8 ≡ v / 8 → bit_at (marked b v c) u ≡ digit (byte % 2 ^ (v % 8) + bit c * 2 ^ (v % 8)) (u % 8)
  unfolding bit_at
  in_byte u e = ap (λ (i : ℕ). digit (get_or (marked b v c) i 0) (u % 8)) e ∙ ap (λ (x : ℕ). digit x (u % 8)) byte_here

  own_digit : (u : ℕ) → u / 8 ≡ v / 8 → digit byte (u % 8) ≡ bit_at b u
  unfolding bit_at
  own_digit u e = ap (λ (i : ℕ). digit (get_or b i 0) (u % 8)) (sym e)

  pub bit_here : bit_at (marked b v c) v ≡ bit c
  bit_here = in_byte v refl ∙ digit_here byte (v % 8) (bit c) (bit_lt c)

  pub bit_before : (u : ℕ) → u < v → bit_at (marked b v c) u ≡ bit_at b u
  bit_before u h = ⊎_elim inside (λ (l : u / 8 < v / 8). same_byte (marked b v c) b u (byte_other (u / 8) (λ e. omega arith))) (le_or_lt (v / 8) (u / 8))
    where
      inside : v / 8 ≤ u / 8 → bit_at (marked b v c) u ≡ bit_at b u
      inside l =
          let e : u / 8 ≡ v / 8 = omega arith in
          in_byte u e ∙ digit_below byte (v % 8) (bit c) (u % 8) (omega arith) ∙ own_digit u e

  pub bit_after : (u : ℕ) → v < u → u / 8 ≡ v / 8 → bit_at (marked b v c) u ≡ 0
  bit_after u h e = in_byte u e ∙ digit_above byte (v % 8) (bit c) (u % 8) (bit_lt c) (omega arith)

-- ---- bits are known by their voxels

pub one_bits : (D : ℕ) (P : ℕ → Type 0) (s t : List ℕ) → BitsOf D P s → BitsOf D P t → s ≡ t
unfolding bit_at
one_bits D P s t x y = ext_get_or 0 s t (x.size ∙ sym y.size) (λ i h. same_digits 8 (get_or s i 0) (get_or t i 0) (x.bytes i) (y.bytes i) (λ j k. each i j k))
  where
    each : (i j : ℕ) → j < 8 → digit (get_or s i 0) j ≡ digit (get_or t i 0) j
    each i j k =
        let v : ℕ = 8 * i + j in
        let at : v / 8 ≡ i = omega arith in
        let from : v % 8 ≡ j = omega arith in
        let same : bit_at s v ≡ bit_at t v = same_bit s t v (λ e. (y.exactly v).1 ((x.exactly v).0 e), λ e. (x.exactly v).1 ((y.exactly v).0 e)) in
        let of : (l : List ℕ) → bit_at l v ≡ digit (get_or l i 0) j = λ l. ap₂ (λ (a b : ℕ). digit (get_or l a 0) b) at from in
        sym (of s) ∙ same ∙ of t

-- ---- a loop over the voxels: those below v are written, the bits after v of a byte begun are 0, and the bytes not begun are as they were

pub record Progress (P : ℕ → Type 0) (v : ℕ) (o out : List ℕ) : Type 0 where
  pub size : length out ≡ length o
  pub done : (u : ℕ) → u < v → (bit_at out u ≡ 1) ↔ P u
  pub clear : (u : ℕ) → v ≤ u → u / 8 * 8 < v → bit_at out u ≡ 0
  pub bytes : (i : ℕ) → 8 * i < v → get_or out i 0 < 256
  pub rest : (i : ℕ) → v ≤ 8 * i → get_or out i 0 ≡ get_or o i 0

pub progress_more : {P : ℕ → Type 0} {v : ℕ} {o out out' : List ℕ} (c : Bool) → Progress P v o out → v < 8 * length out → out' ≡ marked out v c → (c ≡ true) ↔ P v → Progress P (v + 1) o out'
progress_more {P} {v} {o} {out} {out'} c x room is colour =
    rw is (record {
      size = length-set out (v / 8) _ ∙ x.size;
      done = λ u h. ⊎_elim (here u h) (before u) (le_or_lt v u);
      clear = λ u h l. bit_after out v c room u (omega arith) (omega arith);
      bytes = λ i h. ⊎_elim (now i h) (begun i) (le_or_lt (v / 8) i);
      rest = λ i h. byte_other out v c room i (λ e. omega arith) ∙ x.rest i (omega arith);
    })
  where
    here : (u : ℕ) → u < v + 1 → v ≤ u → (bit_at (marked out v c) u ≡ 1) ↔ P u
    here u h l =
        let e : u ≡ v = omega arith in
        rw e (λ b. colour.0 ((bit_black c).0 (sym (bit_here out v c room) ∙ b)), λ p. bit_here out v c room ∙ (bit_black c).1 (colour.1 p))

    before : (u : ℕ) → u < v → (bit_at (marked out v c) u ≡ 1) ↔ P u
    before u h = let e = bit_before out v c room u h in (λ b. (x.done u h).0 (sym e ∙ b), λ p. e ∙ (x.done u h).1 p)

    now : (i : ℕ) → 8 * i < v + 1 → v / 8 ≤ i → get_or (marked out v c) i 0 < 256
    now i h l = let e : i ≡ v / 8 = omega arith in rw e (byte_small out v c room)

    begun : (i : ℕ) → i < v / 8 → get_or (marked out v c) i 0 < 256
    begun i h = rw (byte_other out v c room i (λ e. omega arith)) (x.bytes i (omega arith))

-- ---- the front of a buffer as the bits of the voxels that have P

module _ (D : ℕ) (P : ℕ → Type 0) (b : List ℕ) (room : bytes_for D ≤ length b)
    (small : (i : ℕ) → 8 * i < 8 ^ D → get_or b i 0 < 256)
    (colours : (u : ℕ) → u < 8 ^ D → (bit_at b u ≡ 1) ↔ P u)
    (spare : (u : ℕ) → 8 ^ D ≤ u → u / 8 * 8 < 8 ^ D → bit_at b u ≡ 0) where
  abbrev n : ℕ
  n = bytes_for D

  pub front_size : length (take n b) ≡ n
  front_size = length-take-le n b room

  bytes : (i : ℕ) → get_or (take n b) i 0 < 256
  bytes i =
      ⊎_elim (λ (h : n ≤ i). omega (arith, get_or-eq_default (take n b) 0 {n = i} (omega (arith, front_size))))
      (λ (h : i < n). rw (get_or-take n b i 0 h) (small i (omega (arith, bytes_needed D)))) (le_or_lt n i)

  -- a bit of the front, and one past it
  within : (u : ℕ) → u / 8 < n → (bit_at (take n b) u ≡ 1) ↔ ((u < 8 ^ D) × P u)
  within u h =
      let e = same_byte (take n b) b u (get_or-take n b (u / 8) 0 h) in
      ⊎_elim
      (λ (l : 8 ^ D ≤ u). (λ one. absurd (omega (arith, sym e ∙ one, spare u l (omega (arith, bytes_needed D)))), λ (m, p). absurd (omega arith)))
      (λ (l : u < 8 ^ D). (λ one. (l, (colours u l).0 (sym e ∙ one)), λ (m, p). e ∙ (colours u l).1 p))
      (le_or_lt (8 ^ D) u)

  beyond : (u : ℕ) → n ≤ u / 8 → (bit_at (take n b) u ≡ 1) ↔ ((u < 8 ^ D) × P u)
  beyond u h = (λ one. absurd (omega (arith, bit_past (take n b) u (omega (arith, front_size)))), λ (m, p). absurd (omega (arith, bytes_enough D)))

  pub front_bits : BitsOf D P (take n b)
  front_bits = record { size = front_size; bytes = bytes; exactly = λ u. ⊎_elim (beyond u) (within u) (le_or_lt n (u / 8)) }

-- at the end of the loop the bits of the voxels stand there
pub progress_all : (D : ℕ) {P : ℕ → Type 0} {v : ℕ} {o out : List ℕ} → Progress P v o out → v ≡ 8 ^ D → bytes_for D ≤ length o → Painted D P o out
progress_all D {P} {v} {o} {out} x full room = (take (bytes_for D) out, bits, front)
  where
    enough : bytes_for D ≤ length out
    enough = omega (arith, x.size)

    bits : BitsOf D P (take (bytes_for D) out)
    bits = front_bits D P out enough (λ i h. x.bytes i (omega arith)) (λ u h. x.done u (omega arith)) (λ u h l. x.clear u (omega arith) (omega arith))

    -- what is not written is as it was
    kept : drop (bytes_for D) out ≡ drop (bytes_for D) o
    kept =
        ext_get_or 0 (drop (bytes_for D) out) (drop (bytes_for D) o) (length-drop (bytes_for D) out ∙ ap (λ (k : ℕ). k - bytes_for D) x.size ∙ sym (length-drop (bytes_for D) o))
        (λ i h. get_or-drop (bytes_for D) out i 0 ∙ x.rest (bytes_for D + i) (omega (arith, bytes_enough D)) ∙ sym (get_or-drop (bytes_for D) o i 0))

    front : out ≡ stands (take (bytes_for D) out) o
    front =
        sym (take-append-drop (bytes_for D) out) ∙ ap (λ (l : List ℕ). take (bytes_for D) out ++ l) kept
        ∙ ap (λ (k : ℕ). take (bytes_for D) out ++ drop k o) (sym bits.size)
