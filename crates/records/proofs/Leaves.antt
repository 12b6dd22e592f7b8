-- The leaves of an ordered list as its members: a black voxel has just one leaf; lists one after the other. Assumes nothing.
use mathlib.Core.Path.{◌≡◌, refl, sym, ◌∙◌}
use mathlib.Core.Bool.{Bool, true, false, ◌||◌, false≢true, or-true, or_assoc}
use mathlib.Core.Logic.{⊎_elim}
use mathlib.Core.List.{List, [], ◌∷◌, ◌++◌, Memᴰ}
use Prim.Native.Nat.{ℕ, ◌-◌, ◌≤◌, ◌<◌}
use native.Mathlib.Nat.{le_refl}
use native.Mathlib.Omega.{arith}
use Rattle.cells.specs.Cell.{proper, start, end, holds}
use Rattle.records.specs.Record.{black, Ordered}
use Rattle.cells.proofs.Bools.{clash}
use Rattle.cells.proofs.Power.{le_or_lt}
use Rattle.cells.proofs.Cells.{span_pos}
use Rattle.records.proofs.Lists.{holds_true, holds_between, black_held, black_past}

-- ---- members

-- a member is proper and starts at or after the list's beginning
pub member : (D from : ℕ) (l : List ℕ) (c : ℕ) → Ordered D from l → Memᴰ c l → (proper D c ≡ true) × (from ≤ start D c)
unfolding Ordered
member D from [] c _ x3 = elim x3 [ ]
member D from (x ∷ l) c (p, f, o) (Memᴰ.head e) = (rw e p, rw e f)
member D from (x ∷ l) c (p, f, o) (Memᴰ.tail m) = let (q, g) = member D (end D x) l c o m in (q, omega arith)

-- a voxel that a member holds is black
pub member_black : (D c : ℕ) (l : List ℕ) (v : ℕ) → Memᴰ c l → holds D c v ≡ true → black D l v ≡ true
unfolding black
member_black D c [] v x'' h = elim x'' [ ]
member_black D c (x ∷ l) v (Memᴰ.head e) h = black_held D x l v (rw (← e) h)
member_black D c (x ∷ l) v (Memᴰ.tail m) h = rw (member_black D c l v m h) (or-true (holds D x v))

-- a black voxel has a leaf, in any list
pub leaf_of : (D : ℕ) (l : List ℕ) (v : ℕ) → black D l v ≡ true → (c : ℕ) × Memᴰ c l × (holds D c v ≡ true)
unfolding black
leaf_of D [] v b = absurd (false≢true b)
leaf_of D (x ∷ l) v b = go (leaf_of D l v) (holds D x v) refl
  where
    go : (black D l v ≡ true → (c : ℕ) × Memᴰ c l × (holds D c v ≡ true)) → (t : Bool) → holds D x v ≡ t → (c : ℕ) × Memᴰ c (x ∷ l) × (holds D c v ≡ true)
    go later true e = (x, Memᴰ.head refl, e)
    go later false e = let (c, m, h) = later (sym (black_past D x l v e) ∙ b) in (c, Memᴰ.tail m, h)

-- a leaf and a later one hold no voxel in common
later_apart : (D x : ℕ) (l : List ℕ) (d v : ℕ) → Ordered D (end D x) l → Memᴰ d l → holds D x v ≡ true → holds D d v ≡ true → ⊥
later_apart D x l d v o m h k = let a = holds_true D x v h in let b = holds_true D d v k in let (p, f) = member D (end D x) l d o m in omega arith

-- so in an ordered list it has only one
pub one_leaf : (D from : ℕ) (l : List ℕ) (c d v : ℕ) → Ordered D from l → Memᴰ c l → Memᴰ d l → holds D c v ≡ true → holds D d v ≡ true → c ≡ d
unfolding Ordered
one_leaf D from [] c d v _ x6 _ h k = elim x6 [ ]
one_leaf D from (x ∷ l) c d v (p, f, o) (Memᴰ.head a) (Memᴰ.head b) h k = a ∙ sym b
one_leaf D from (x ∷ l) c d v (p, f, o) (Memᴰ.head a) (Memᴰ.tail n) h k = absurd (later_apart D x l d v o n (rw a at h) k)
one_leaf D from (x ∷ l) c d v (p, f, o) (Memᴰ.tail m) (Memᴰ.head b) h k = absurd (later_apart D x l c v o m (rw b at k) h)
one_leaf D from (x ∷ l) c d v (p, f, o) (Memᴰ.tail m) (Memᴰ.tail n) h k = one_leaf D (end D x) l c d v o m n h k

-- ---- lists one after the other

pub black_append : (D : ℕ) (l m : List ℕ) (v : ℕ) → black D (l ++ m) v ≡ (black D l v || black D m v)
unfolding black
black_append D [] m v = refl
black_append D (c ∷ l) m v = rw (black_append D l m v) (sym (or_assoc (holds D c v) (black D l v) (black D m v)))

ordered_earlier : (D a b : ℕ) (l : List ℕ) → a ≤ b → Ordered D b l → Ordered D a l
unfolding Ordered
ordered_earlier D a b [] h o = tt
ordered_earlier D a b (c ∷ l) h (p, f, o) = (p, omega arith, o)

-- the leaves of the first end before those of the second start
pub ordered_append : (D a b : ℕ) (l m : List ℕ) → Ordered D a l → ((c : ℕ) → Memᴰ c l → end D c ≤ b) → a ≤ b → Ordered D b m → Ordered D a (l ++ m)
unfolding Ordered
ordered_append D a b [] m o ends h k = ordered_earlier D a b m h k
ordered_append D a b (x ∷ l) m (p, f, o) ends h k = (p, f, ordered_append D (end D x) b l m o (λ c i. ends c (Memᴰ.tail i)) (ends x (Memᴰ.head refl)) k)

-- where no voxel from b on is black, the leaves end before it
pub member_ends : (D b : ℕ) (l : List ℕ) → ((v : ℕ) → b ≤ v → black D l v ≡ false) → (c : ℕ) → Memᴰ c l → end D c ≤ b
member_ends D b l none c m =
    let u = span_pos D c in
    ⊎_elim (λ h. h) (λ (h : b < end D c). absurd (clash (member_black D c l (end D c - 1) m (holds_between D c (end D c - 1) (omega arith) (omega arith))) (none (end D c - 1) (omega arith)))) (le_or_lt (end D c) b)

-- one more leaf
pub ordered_snoc : (D a b : ℕ) (l : List ℕ) (c : ℕ) → Ordered D a l → ((v : ℕ) → b ≤ v → black D l v ≡ false) → proper D c ≡ true → a ≤ start D c → b ≤ start D c → Ordered D a (l ++ (c ∷ []))
unfolding Ordered
ordered_snoc D a b l c o none p h g = ordered_append D a (start D c) l (c ∷ []) o (λ x m. omega (arith, member_ends D b l none x m)) h (p, le_refl _, tt)
