-- The laws of a proper code. Assumes nothing.
use Rattle.std.proofs.Common.{◌≡◌, ℕ, zero, suc, ◌+◌, ◌-◌, ◌*◌, ◌^◌, ◌<◌, ◌≤◌, Bool, true, ◌&&◌, ltb, leb, ◌⊎◌, ◌↔◌, sym, refl, ap, ◌∙◌, subst, inl, inr, zero-le, mul-le-mul_right, add-mul, arith, pow-add, ltb-true, lt-ltb, le-leb, leb-true}
use native.Mathlib.Nat.{add-sub_cancel_left, eq_of_mul-eq-mul_right}
use borrow.Author.Tests.{lt-leb}
use Rattle.cells.specs.Cell.{level, proper, index, start, span, end}
use Rattle.cells.proofs.Bools.{both_true}
use Rattle.cells.proofs.Power.{le_or_lt, pow2_suc, pow8_bits, pow8_pos, pow8_suc, pow8_lt_inv, pow8_le_inv, pow8_inj, pow8_split}

-- ---- the level

level_top : (D c : ℕ) → 8 ^ suc D ≤ c → level (suc D) c ≡ suc D
unfolding level
level_top D c h = rw (le-leb (8 ^ suc D) c h, level)

level_low : (D c : ℕ) → c < 8 ^ suc D → level (suc D) c ≡ level D c
unfolding level
level_low D c h = rw (lt-leb (8 ^ suc D) c h, level)

pub level_le : (D c : ℕ) → level D c ≤ D
unfolding level
level_le zero c = zero-le
level_le (suc D) c = go (level_le D c) (le_or_lt (8 ^ suc D) c)
  where
    go : level D c ≤ D → (8 ^ suc D ≤ c) ⊎ (c < 8 ^ suc D) → level (suc D) c ≤ suc D
    go ih (inl h) = omega (arith, level_top D c h)
    go ih (inr h) = omega (arith, level_low D c h)

-- the one k up to D with 8 ^ k ≤ c < 8 ^ (k + 1)
pub level_is : (D k c : ℕ) → k ≤ D → 8 ^ k ≤ c → c < 8 ^ suc k → level D c ≡ k
unfolding level
level_is zero k c le lo hi = omega arith
level_is (suc D) k c le lo hi = go (λ l. level_is D k c l lo hi) (le_or_lt (8 ^ suc D) c)
  where
    go : (k ≤ D → level D c ≡ k) → (8 ^ suc D ≤ c) ⊎ (c < 8 ^ suc D) → level (suc D) c ≡ k
    go ih (inl h) = let b : suc D < suc k = pow8_lt_inv (suc D) (suc k) (omega arith) in omega (arith, level_top D c h)
    go ih (inr h) = let b : k < suc D = pow8_lt_inv k (suc D) (omega arith) in level_low D c h ∙ ih (omega arith)

-- ---- a cell by its level k, its index i among the 8 ^ k cells of that level, and the number n of levels below it

pub record Cell (D c : ℕ) : Type 0 where
  pub k : ℕ
  pub n : ℕ
  pub i : ℕ
  pub depth : k + n ≡ D
  pub code : c ≡ 8 ^ k + i
  pub index : i < 8 ^ k
  pub level≡ : level D c ≡ k
  pub span≡ : span D c ≡ 8 ^ n
  pub start≡ : start D c ≡ i * 8 ^ n

-- whether the highest one bit of c stands at place p
abbrev pub top_bit : ℕ → ℕ → Bool
top_bit p c = leb (2 ^ p) c && ltb c (2 ^ suc p)

-- the highest one bit stands at place 3k exactly between the first code of level k and twice it
pub top_bounds : (k c : ℕ) → top_bit (3 * k) c ≡ true → (8 ^ k ≤ c) × (c < 2 * 8 ^ k)
top_bounds k c e =
    let t = both_true (leb (2 ^ (3 * k)) c) (ltb c (2 ^ suc (3 * k))) e in
    omega (arith, leb-true (2 ^ (3 * k)) c t.0, ltb-true c (2 ^ suc (3 * k)) t.1, pow8_bits k, pow2_suc (3 * k))

pub bounds_top : (k c : ℕ) → 8 ^ k ≤ c → c < 2 * 8 ^ k → top_bit (3 * k) c ≡ true
bounds_top k c lo hi =
    rw (le-leb (2 ^ (3 * k)) c (omega (arith, pow8_bits k)), lt-ltb c (2 ^ suc (3 * k)) (omega (arith, pow8_bits k, pow2_suc (3 * k))))

pub proper_bounds : (D c : ℕ) → proper D c ≡ true → (8 ^ level D c ≤ c) × (c < 2 * 8 ^ level D c)
unfolding proper
proper_bounds D c e = top_bounds (level D c) c e

-- a proper code is the code of a cell
pub cell : (D c : ℕ) → proper D c ≡ true → Cell D c
unfolding start span index
cell D c e = record {
  k = level D c;
  n = D - level D c;
  i = c - 8 ^ level D c;
  depth = omega (arith, level_le D c);
  code = omega (arith, proper_bounds D c e);
  index = omega (arith, proper_bounds D c e);
  level≡ = refl;
  span≡ = refl;
  start≡ = refl;
}

-- and each level k and index i below 8 ^ k has its proper code
pub cell_of_lem : (D k n i : ℕ) → k + n ≡ D → i < 8 ^ k → (proper D (8 ^ k + i) ≡ true) × (level D (8 ^ k + i) ≡ k) × (span D (8 ^ k + i) ≡ 8 ^ n) × (start D (8 ^ k + i) ≡ i * 8 ^ n)
unfolding proper start span index
cell_of_lem D k n i d h =
    let l : level D (8 ^ k + i) ≡ k = level_is D k (8 ^ k + i) (omega arith) (omega arith) (omega (arith, pow8_suc k)) in
    let b : D - k ≡ n = omega arith in
    let x : 8 ^ k + i - 8 ^ k ≡ i = add-sub_cancel_left (8 ^ k) i in (
      rw l (bounds_top k (8 ^ k + i) (omega arith) (omega arith)),
      l,
      rw (l, b),
      rw (l, b, x),
    )

-- proper in document 01's words: the highest one bit stands at place 3k, k at most D; and k is the level
pub proper_place : (D c : ℕ) → (proper D c ≡ true) ↔ ((k : ℕ) × (k ≤ D) × (top_bit (3 * k) c ≡ true))
unfolding proper
proper_place D c = (λ e. (level D c, level_le D c, e), λ t. back t.0 t.1 t.2)
  where
    back : (k : ℕ) → k ≤ D → top_bit (3 * k) c ≡ true → top_bit (3 * level D c) c ≡ true
    back k h e =
        let b = top_bounds k c e in
        let l : level D c ≡ k = level_is D k c h b.0 (omega (arith, b.1, pow8_suc k)) in
        subst (λ (m : ℕ). top_bit (3 * m) c ≡ true) (sym l) e

-- ---- what a proper code's interval of voxel numbers is

pub span_pos : (D c : ℕ) → 0 < span D c
unfolding span
span_pos D c = pow8_pos (D - level D c)

pub start_multiple : (D c : ℕ) → proper D c ≡ true → (q : ℕ) × (start D c ≡ q * span D c)
start_multiple D c e = let t = cell D c e in (t.i, t.start≡ ∙ ap (λ (x : ℕ). t.i * x) (sym t.span≡))

-- the cubes of the root: 8 ^ D is 8 ^ k cells of 8 ^ n voxels
pow8_depth : {D : ℕ} (k n : ℕ) → k + n ≡ D → 8 ^ D ≡ 8 ^ k * 8 ^ n
pow8_depth k n e = ap (λ (x : ℕ). 8 ^ x) (sym e) ∙ pow-add 8 k n

pub within : (D c : ℕ) → proper D c ≡ true → end D c ≤ 8 ^ D
within D c e =
    let t = cell D c e in
    omega (arith, t.start≡, t.span≡, pow8_depth t.k t.n t.depth, mul-le-mul_right (8 ^ t.n) t.index)

-- the code times the span is the root's voxels and the start
pub interval : (D c : ℕ) → proper D c ≡ true → c * span D c ≡ 8 ^ D + start D c
interval D c e =
    let t = cell D c e in
    ap (λ (m : ℕ). m * span D c) t.code ∙ rw (t.span≡, t.start≡) (add-mul (8 ^ t.k) t.i (8 ^ t.n) ∙ ap (λ (m : ℕ). m + t.i * 8 ^ t.n) (sym (pow8_depth t.k t.n t.depth)))

-- the span tells the level
pub level_of_span : (D c d : ℕ) → span D c ≡ span D d → level D c ≡ level D d
unfolding span
level_of_span D c d e = omega (arith, pow8_inj (D - level D c) (D - level D d) e, level_le D c, level_le D d)

-- a cell is known by its start and its span
pub same_cell : (D c d : ℕ) → proper D c ≡ true → proper D d ≡ true → start D c ≡ start D d → span D c ≡ span D d → c ≡ d
unfolding start span index
same_cell D c d p q a b =
    let l : level D c ≡ level D d = level_of_span D c d b in
    let a' : (c - 8 ^ level D c) * 8 ^ (D - level D c) ≡ (d - 8 ^ level D c) * 8 ^ (D - level D c) = a ∙ rw (← l) refl in
    let i : c - 8 ^ level D c ≡ d - 8 ^ level D c = eq_of_mul-eq-mul_right (8 ^ (D - level D c)) (pow8_pos (D - level D c)) _ _ a' in
    let u : 8 ^ level D c ≡ 8 ^ level D d = ap (λ (x : ℕ). 8 ^ x) l in
    omega (arith, proper_bounds D c p, proper_bounds D d q)

-- ---- the eight children of a cell

pub record Child (D c d j : ℕ) : Type 0 where
  pub is_proper : proper D d ≡ true
  pub is_level : level D d ≡ suc (level D c)
  pub is_span : 8 * span D d ≡ span D c
  pub is_start : start D d ≡ start D c + j * span D d

pub child : (D c j : ℕ) → proper D c ≡ true → level D c < D → j < 8 → Child D c (8 * c + j) j
child D c j e h l =
    let t = cell D c e in
    let m : ℕ = D - suc t.k in
    let w : 8 ^ t.n ≡ 8 * 8 ^ m = ap (λ (x : ℕ). 8 ^ x) (omega (arith, t.level≡, t.depth)) ∙ pow8_suc m in
    let code : 8 ^ suc t.k + (8 * t.i + j) ≡ 8 * c + j = omega (arith, t.code, pow8_suc t.k) in
    let r = rw code at (cell_of_lem D (suc t.k) m (8 * t.i + j) (omega (arith, t.level≡)) (omega (arith, t.index, pow8_suc t.k))) in
    record {
      is_proper = r.0;
      is_level = r.1 ∙ ap suc (sym t.level≡);
      is_span = omega (arith, r.2, t.span≡, w);
      is_start = r.3 ∙ rw r.2 (omega (arith, t.start≡, ap (λ (x : ℕ). t.i * x) w));
    }

-- a child lies in its parent
abbrev pub Inside : ℕ → ℕ → ℕ → Type 0
Inside D c d = (start D d ≤ start D c) × (end D c ≤ end D d)

pub child_inside : (D c d j : ℕ) → Child D c d j → j < 8 → Inside D d c
child_inside D c d j x h = omega (arith, x.is_start, x.is_span, mul-le-mul_right (span D d) h)

-- a cell of 8 ^ (n + 1) voxels has children
pub has_children : (D c n : ℕ) → span D c ≡ 8 ^ suc n → level D c < D
unfolding span
has_children D c n e = omega (arith, pow8_inj (D - level D c) (suc n) e)

-- the other way: a proper code of the form 8 * p + j is a child, unless p is 0
pub parent : (D p j : ℕ) → j < 8 → 0 < p → proper D (8 * p + j) ≡ true → (proper D p ≡ true) × (level D p < D)
parent D p j h pos e = go (level D (8 * p + j)) (level_le D (8 * p + j)) (proper_bounds D (8 * p + j) e)
  where
    go : (k : ℕ) → k ≤ D → (8 ^ k ≤ 8 * p + j) × (8 * p + j < 2 * 8 ^ k) → (proper D p ≡ true) × (level D p < D)
    go zero l (lo, hi) = absurd (omega arith)
    go (suc k) l (lo, hi) =
        let u = pow8_suc k in
        let t = cell_of_lem D k (D - k) (p - 8 ^ k) (omega arith) (omega arith) in
        let same : 8 ^ k + (p - 8 ^ k) ≡ p = omega arith in
        (rw same at t.0, omega (arith, rw same at t.1))

-- ---- two cells are nested or apart

-- one ends before the other begins
abbrev pub Apart : ℕ → ℕ → ℕ → Type 0
Apart D c d = (end D c ≤ start D d) ⊎ (end D d ≤ start D c)

-- the a-th interval of length u, at s, and the b-th of length v, at t, where v is w times u
nested_intervals : (a b w u v s t : ℕ) → v ≡ w * u → s ≡ a * u → t ≡ b * v → ((s + u ≤ t) ⊎ (t + v ≤ s)) ⊎ ((t ≤ s) × (s + u ≤ t + v))
nested_intervals a b w u v s t ev es et = go (le_or_lt (b * w) a) (le_or_lt (suc b * w) a)
  where
    t' : t ≡ b * (w * u)
    t' = et ∙ ap (λ (x : ℕ). b * x) ev

    go : (b * w ≤ a) ⊎ (a < b * w) → (suc b * w ≤ a) ⊎ (a < suc b * w) → ((s + u ≤ t) ⊎ (t + v ≤ s)) ⊎ ((t ≤ s) × (s + u ≤ t + v))
    go (inr h) k = inl (inl (omega (arith, t', mul-le-mul_right u h)))
    go (inl h) (inl k) = inl (inr (omega (arith, t', mul-le-mul_right u k)))
    go (inl h) (inr k) = inr (omega (arith, t', mul-le-mul_right u h, mul-le-mul_right u k))

-- a greater span is a multiple of a smaller one
pub span_multiple : (D c d : ℕ) → span D c ≤ span D d → (w : ℕ) × (span D d ≡ w * span D c)
unfolding span
span_multiple D c d h = (_, pow8_split (pow8_le_inv (D - level D c) (D - level D d) h))

pub nested : (D c d : ℕ) → proper D c ≡ true → proper D d ≡ true → span D c ≤ span D d → Apart D c d ⊎ Inside D c d
nested D c d p q h =
    let (a, s) = start_multiple D c p in
    let (b, t) = start_multiple D d q in
    let (w, v) = span_multiple D c d h in
    nested_intervals a b w (span D c) (span D d) (start D c) (start D d) v s t

pub nested_or_apart : (D c d : ℕ) → proper D c ≡ true → proper D d ≡ true → Apart D c d ⊎ (Inside D c d ⊎ Inside D d c)
nested_or_apart D c d p q = go (le_or_lt (span D c) (span D d))
  where
    left : Apart D c d ⊎ Inside D c d → Apart D c d ⊎ (Inside D c d ⊎ Inside D d c)
    left (inl a) = inl a
    left (inr b) = inr (inl b)

    right : Apart D d c ⊎ Inside D d c → Apart D c d ⊎ (Inside D c d ⊎ Inside D d c)
    right (inl (inl a)) = inl (inr a)
    right (inl (inr a)) = inl (inl a)
    right (inr b) = inr (inr b)

    go : (span D c ≤ span D d) ⊎ (span D d < span D c) → Apart D c d ⊎ (Inside D c d ⊎ Inside D d c)
    go (inl h) = left (nested D c d p q h)
    go (inr h) = right (nested D d c q p (omega arith))
