-- What a sound block and a sound file say. Assumes nothing.
use Rattle.std.proofs.Common.{◌≡◌, ℕ, ◌+◌, ◌-◌, ◌*◌, ◌/◌, ◌%◌, ◌<◌, ◌≤◌, Bool, true, false, ◌||◌, eqb, leb, ◌⊎◌, List, length, get_or, sym, refl, inl, inr, ⊎_elim, arith, le-ltb, lt-ltb, eq-eqb, ne_eqb, eqb-true, le-leb, leb-true}
use borrow.Author.Tests.{lt-leb}
use Rattle.cells.specs.Answer.{deepest}
use Rattle.cells.specs.declared.Answer.{Answer}
use Rattle.cells.proofs.Power.{le_or_lt}
use Rattle.cells.proofs.Bools.{both_true, refuted, clash}
use Rattle.cells.proofs.Decisions.{One, one_refuses, one_refuses_first, refuses_numbered, refuses_first_numbered}
use Rattle.cells.proofs.Firsts.{first_or_none}
use Rattle.records.proofs.Fill.{all_true}
use Rattle.blocks.specs.Block.{block_bytes, block_codes, word, check, right_count, unused_zero, right_check, sound_block, blocks, whole, depth_of, sound_at, codes}
use Rattle.blocks.specs.Calls.{Unsound}
use Rattle.blocks.specs.Inner.{Sound}
use Rattle.blocks.proofs.Tables.{length_tabulated, get_d_tabulated}

-- ---- a block: what each of its words is, where all are right

pub record RightWords (v : ℕ → ℕ) (i n D : ℕ) : Type 0 where
  pub index : v 0 ≡ i
  pub number : v 1 ≡ n
  pub shallow : v 2 ≤ deepest
  pub depth : v 2 ≡ D
  pub count : right_count n i (v 3) ≡ true
  pub full : i + 1 < n → v 3 ≡ block_codes
  pub most : v 3 ≤ block_codes
  pub some : v 3 ≡ 0 → n ≤ 1
  pub zeros : unused_zero v ≡ true
  pub unused : (w : ℕ) → 4 + v 3 ≤ w → w < 126 → v w ≡ 0
  pub check_a : v 126 ≡ (check v 126).a
  pub check_b : v 127 ≡ (check v 126).b

-- the count of codes, by the two cases
right_inner : (n i k : ℕ) → i + 1 < n → right_count n i k ≡ true → k ≡ block_codes
unfolding right_count
right_inner n i k h t = eqb-true k block_codes (rw (right_count, lt-ltb (i + 1) n h) at t)

right_last : (n i k : ℕ) → n ≤ i + 1 → right_count n i k ≡ true → (k ≤ block_codes) × (k ≡ 0 → n ≡ 1)
unfolding right_count
right_last n i k h t =
    let (a, b) = both_true (leb k block_codes) (leb 1 k || eqb n 1) (rw (right_count, le-ltb (i + 1) n h) at t) in
    (leb-true k block_codes a, λ z. eqb-true n 1 (rw z at b))

pub right_most : (n i k : ℕ) → right_count n i k ≡ true → k ≤ block_codes
right_most n i k e = ⊎_elim (λ (l : n ≤ i + 1). (right_last n i k l e).0) (λ (l : i + 1 < n). omega (arith, right_inner n i k l e)) (le_or_lt n (i + 1))

pub sound_words : (v : ℕ → ℕ) (i n D : ℕ) → sound_block v i n D ≡ true → RightWords v i n D
unfolding sound_block
sound_words v i n D t =
    let (a, t1) = both_true _ _ t in
    let (b, t2) = both_true _ _ t1 in
    let (c, t3) = both_true _ _ t2 in
    let (shallow, depth) = both_true _ _ c in
    let (e, t4) = both_true _ _ t3 in
    let (f, g) = both_true _ _ t4 in
    let (ga, gb) = both_true _ _ g in
    record {
      index = eqb-true (v 0) i a;
      number = eqb-true (v 1) n b;
      shallow = leb-true (v 2) deepest shallow;
      depth = eqb-true (v 2) D depth;
      count = e;
      full = λ l. right_inner n i (v 3) l e;
      most = right_most n i (v 3) e;
      some = λ z. ⊎_elim (λ (l : n ≤ i + 1). omega (arith, (right_last n i (v 3) l e).1 z)) (λ (l : i + 1 < n). absurd (omega (arith, right_inner n i (v 3) l e))) (le_or_lt n (i + 1));
      zeros = f;
      unused = λ w lo hi. eqb-true (v w) 0 (all_true (λ x. eqb (v x) 0) (4 + v 3) (block_codes - v 3) f w lo (omega arith));
      check_a = eqb-true (v 126) (check v 126).a ga;
      check_b = eqb-true (v 127) (check v 126).b gb;
    }

-- the last test, where the others pass
pub sound_last : (v : ℕ → ℕ) (i n D : ℕ) → v 0 ≡ i → v 1 ≡ n → v 2 ≤ deepest → v 2 ≡ D → right_count n i (v 3) ≡ true → unused_zero v ≡ true → right_check v ≡ sound_block v i n D
unfolding sound_block
sound_last v i n D a b c d e f = rw (sound_block, eq-eqb (v 0) i a, eq-eqb (v 1) n b, le-leb (v 2) deepest c, eq-eqb (v 2) D d, e, f)

-- a block with a wrong word
pub wrong : (v : ℕ → ℕ) (i n D : ℕ) → (RightWords v i n D → ⊥) → false ≡ sound_block v i n D
wrong v i n D h = sym (refuted (sound_block v i n D) (λ t. h (sound_words v i n D t)))

-- ---- whether the file is whole, and sound

pub no_block : (b : List ℕ) → length b / block_bytes ≡ 0 → whole b ≡ false
unfolding whole
no_block b e = rw (lt-leb 1 (length b / block_bytes) (omega arith))

pub a_rest : (b : List ℕ) → (length b / block_bytes ≡ 0 → ⊥) → (length b % block_bytes ≡ 0 → ⊥) → whole b ≡ false
unfolding whole
a_rest b h e = rw (le-leb 1 (length b / block_bytes) (omega arith), ne_eqb (length b % block_bytes) 0 e)

pub is_whole : (b : List ℕ) → (length b / block_bytes ≡ 0 → ⊥) → length b % block_bytes ≡ 0 → whole b ≡ true
unfolding whole
is_whole b h e = rw (le-leb 1 (length b / block_bytes) (omega arith), eq-eqb (length b % block_bytes) 0 e)

-- a whole file and its blocks
pub whole_blocks : (b : List ℕ) → whole b ≡ true → (1 ≤ blocks b) × (block_bytes * blocks b ≡ length b)
unfolding whole
whole_blocks b w =
    let (some, rest) = both_true (leb 1 (length b / block_bytes)) (eqb (length b % block_bytes) 0) w in
    (leb-true 1 (length b / block_bytes) some, omega (arith, eqb-true (length b % block_bytes) 0 rest))

-- ---- the codes

pub codes_length : (b : List ℕ) → length (codes b) ≡ block_codes * (blocks b - 1) + word b (blocks b - 1) 3
unfolding codes
codes_length b = length_tabulated _ _

pub codes_at : (b : List ℕ) (j : ℕ) → j < length (codes b) → get_or (codes b) j 0 ≡ word b (j / block_codes) (4 + j % block_codes)
unfolding codes
codes_at b j h = get_d_tabulated (λ j. word b (j / block_codes) (4 + j % block_codes)) _ j (omega (arith, codes_length b))

-- ---- a sound file

module _ (b : List ℕ) (s : Sound b) where
  pub some_block : 1 ≤ blocks b
  some_block = (whole_blocks b s.is_whole).0

  pub all_blocks : block_bytes * blocks b ≡ length b
  all_blocks = (whole_blocks b s.is_whole).1

  pub right_words : (i : ℕ) → i < blocks b → RightWords (word b i) i (blocks b) (depth_of b)
  right_words i h = sound_words (word b i) i (blocks b) (depth_of b) (s.each i h)

  pub shallow_file : depth_of b ≤ deepest
  shallow_file = (right_words 0 (omega (arith, some_block))).shallow

  pub codes_most : length (codes b) ≤ block_codes * blocks b
  codes_most = omega (arith, codes_length b, some_block, (right_words (blocks b - 1) (omega (arith, some_block))).most)

  -- a code's word lies in the file
  pub code_within : (j : ℕ) → j < length (codes b) → block_bytes * (j / block_codes) + block_bytes ≤ length b
  code_within j h = omega (arith, codes_most, all_blocks)

-- ---- number 9

pub unsound_numbered : (b : List ℕ) (a : Answer) → Unsound b a → a.number ≡ 0 → ⊥
unsound_numbered b a (inl t) z = refuses_numbered (λ e. omega arith) a t z
unsound_numbered b a (inr (_, t)) z = refuses_first_numbered (λ i _ e. omega arith) a t z

pub one_unsound : (b : List ℕ) → One (Unsound b)
one_unsound b a c (inl x) (inl y) = one_refuses a c x y
one_unsound b a c (inl x) (inr y) = absurd (clash y.0 x.0)
one_unsound b a c (inr x) (inl y) = absurd (clash x.0 y.0)
one_unsound b a c (inr x) (inr y) = one_refuses_first a c x.1 y.1

-- the test passes just where the file is sound
pub sound_passes : (b : List ℕ) → Sound b → (a : Answer) → Unsound b a → ⊥
sound_passes b s a (inl (e, _)) = clash s.is_whole e
sound_passes b s a (inr (_, (i, f, _))) = clash (s.each i f.below) f.here

pub not_unsound : (b : List ℕ) → ((a : Answer) → Unsound b a → ⊥) → Sound b
not_unsound b none =
    let w : whole b ≡ true = not_refused (whole b) (λ e. none _ (inl (e, refl))) in
    ⊎_elim
    (λ (i, f). absurd (none _ (inr (w, (i, f, refl)))))
    (λ all. record { is_whole = w; each = λ i h. not_refused (sound_at b i) (all i h) })
    (first_or_none (λ i. sound_at b i ≡ false) (λ i. false_or_not (sound_at b i)) (blocks b))
  where
    not_refused : (t : Bool) → (t ≡ false → ⊥) → t ≡ true
    not_refused true h = refl
    not_refused false h = absurd (h refl)

    false_or_not : (t : Bool) → (t ≡ false) ⊎ (t ≡ false → ⊥)
    false_or_not true = inr (λ e. clash refl e)
    false_or_not false = inl refl
