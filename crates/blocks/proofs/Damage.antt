-- Any change within one word of a block is found, at that block. Assumes nothing.
use Rattle.std.proofs.Common.{◌≡◌, ℕ, zero, suc, ◌+◌, ◌-◌, ◌*◌, ◌/◌, ◌^◌, ◌<◌, ◌≤◌, true, false, ◌⊎◌, List, length, get_or, sym, refl, ap, ◌∙◌, inl, inr, ⊎_elim, le_of_suc-le-suc, eq-or-lt_of_le, arith, ext_get_or}
use Rattle.cells.specs.Answer.{answer}
use Rattle.cells.specs.declared.Answer.{Answer}
use Rattle.cells.proofs.Power.{le_or_lt}
use Rattle.blocks.specs.declared.Sums.{Sums}
use Rattle.blocks.specs.Block.{block_bytes, word, check, blocks, whole, sound_at, depth_of}
use Rattle.blocks.specs.File.{byte_of}
use Rattle.blocks.specs.Calls.{ReadAnswer, Unsound, BlockCheckOf, StoredVolumeOf, unread, ReadOf}
use Rattle.cells.proofs.Bools.{clash}
use Rattle.blocks.specs.Inner.{Sound}
use Rattle.blocks.proofs.Sound.{RightWords, wrong, right_words}
use Rattle.blocks.proofs.Words.{each_word, check_ext, check_small, sound_ext, word_small, bytes_of_word}
use Rattle.blocks.proofs.CallLaws.{one_check_blocks, one_stored_volume, one_read}

-- ---- the sum A

-- A tells two rows of words apart that differ in one word
a_tells : (v v' : ℕ → ℕ) (w n : ℕ) → w < n → ((k : ℕ) → k < n → (k ≡ w → ⊥) → v' k ≡ v k) → v w < 2 ^ 32 → v' w < 2 ^ 32 → (check v' n).a ≡ (check v n).a → v' w ≡ v w
unfolding check
a_tells v v' w zero h f s s' e = absurd (omega arith)
a_tells v v' w (suc n) h f s s' e = ⊎_elim (λ (x : w ≡ n). here x) (λ (x : w < n). a_tells v v' w n x (λ k l. f k (omega arith)) s s' (back x)) (eq-or-lt_of_le (le_of_suc-le-suc h))
  where
    here : w ≡ n → v' w ≡ v w
    here x =
        let p : (check v' n).a ≡ (check v n).a = ap (λ (y : Sums). y.a) (check_ext v v' n (λ k l. f k (omega arith) (λ z. omega arith))) in
        omega (arith, ap v x, ap v' x, check_small v n)

    back : w < n → (check v' n).a ≡ (check v n).a
    back x = omega (arith, f n (omega arith) (λ z. omega arith), check_small v n, check_small v' n)

-- ---- a changed word

-- two files of bytes that differ, and only in word w of block i
pub record Changed (b b' : List ℕ) (i w : ℕ) : Type 0 where
  pub bytes : (k : ℕ) → get_or b k 0 < 256
  pub bytes' : (k : ℕ) → get_or b' k 0 < 256
  pub same_length : length b' ≡ length b
  pub block : i < blocks b
  pub in_block : w < 128
  pub before : (k : ℕ) → k < block_bytes * i + 4 * w → get_or b' k 0 ≡ get_or b k 0
  pub after : (k : ℕ) → block_bytes * i + 4 * w + 4 ≤ k → get_or b' k 0 ≡ get_or b k 0
  pub differs : b' ≡ b → ⊥

module _ (b b' : List ℕ) (i w : ℕ) (c : Changed b b' i w) where
  -- the other words
  other : (j v : ℕ) → v < 128 → (128 * j + v ≡ 128 * i + w → ⊥) → word b' j v ≡ word b j v
  unfolding word
  other j v h ne = rw (
    at 0 (block_bytes * j + 4 * v) (omega arith) (omega arith),
    at 1 (block_bytes * j + 4 * v + 1) (omega arith) refl,
    at 2 (block_bytes * j + 4 * v + 2) (omega arith) refl,
    at 3 (block_bytes * j + 4 * v + 3) (omega arith) refl,
  )
    where
      at : (k n : ℕ) → k < 4 → n ≡ block_bytes * j + 4 * v + k → get_or b' n 0 ≡ get_or b n 0
      at k n l e = ⊎_elim (λ (x : block_bytes * i + 4 * w + 4 ≤ n). c.after n x) (λ (x : n < block_bytes * i + 4 * w + 4). c.before n (omega (arith, ne))) (le_or_lt (block_bytes * i + 4 * w + 4) n)

  -- the word itself
  new : word b' i w ≡ word b i w → ⊥
  new e = c.differs (ext_get_or 0 b' b c.same_length (λ k h. at k (le_or_lt (block_bytes * i + 4 * w) k) (le_or_lt (block_bytes * i + 4 * w + 4) k)))
    where
      at : (k : ℕ) → (block_bytes * i + 4 * w ≤ k) ⊎ (k < block_bytes * i + 4 * w) → (block_bytes * i + 4 * w + 4 ≤ k) ⊎ (k < block_bytes * i + 4 * w + 4) → get_or b' k 0 ≡ get_or b k 0
      at k (inr x) y = c.before k x
      at k (inl x) (inl y) = c.after k y
      at k (inl x) (inr y) =
          let z : block_bytes * i + 4 * w + (k - (block_bytes * i + 4 * w)) ≡ k = omega arith in
          ap (λ (n : ℕ). get_or b' n 0) (sym z)
          ∙ sym (bytes_of_word b' c.bytes' i w (k - (block_bytes * i + 4 * w)) (omega arith))
          ∙ ap (λ (x : ℕ). byte_of x (k - (block_bytes * i + 4 * w))) e
          ∙ bytes_of_word b c.bytes i w (k - (block_bytes * i + 4 * w)) (omega arith)
          ∙ ap (λ (n : ℕ). get_or b n 0) z

  module _ (s : Sound b) where
    same_blocks : blocks b' ≡ blocks b
    same_blocks = ap (λ (n : ℕ). n / block_bytes) c.same_length

    same_whole : whole b' ≡ true
    unfolding whole
    same_whole = rw (same_blocks, c.same_length) s.is_whole

    -- no block of the new file whose words are right stands at i
    found : (n D : ℕ) → RightWords (word b' i) i n D → ⊥
    found n D p = each_word (λ u. w ≡ u → ⊥) in_words in_a in_b w c.in_block refl
      where
        old : RightWords (word b i) i (blocks b) (depth_of b)
        old = right_words b s i c.block

        sums : 126 ≤ w → check (word b' i) 126 ≡ check (word b i) 126
        sums h = check_ext (word b i) (word b' i) 126 (λ k l. other i k (omega arith) (λ z. omega arith))

        in_words : (u : ℕ) → u < 126 → w ≡ u → ⊥
        in_words u x e =
            new (a_tells (word b i) (word b' i) w 126 (omega arith) (λ k l z. other i k (omega arith) (λ y. z (omega arith))) (word_small b c.bytes i w) (word_small b' c.bytes' i w)
            (sym p.check_a ∙ other i 126 (omega arith) (λ y. omega arith) ∙ old.check_a))

        in_a : w ≡ 126 → ⊥
        in_a e = new (ap (word b' i) e ∙ p.check_a ∙ ap (λ (q : Sums). q.a) (sums (omega arith)) ∙ sym old.check_a ∙ ap (word b i) (sym e))

        in_b : w ≡ 127 → ⊥
        in_b e = new (ap (word b' i) e ∙ p.check_b ∙ ap (λ (q : Sums). q.b) (sums (omega arith)) ∙ sym old.check_b ∙ ap (word b i) (sym e))

    -- the blocks before it stay sound
    earlier : (j : ℕ) → j < i → sound_at b' j ≡ true
    earlier j h =
        let d : word b' 0 2 ≡ word b 0 2 = other 0 2 (omega arith) (λ z. omega (arith, c.in_block)) in
        rw (same_blocks, d) (sound_ext (word b j) (word b' j) j (blocks b) (depth_of b) (λ v l. other j v l (λ z. omega (arith, c.in_block))) ∙ s.each j (omega (arith, c.block)))

    -- ---- the calls: 9, at the block that was changed, and the reader's buffer as it was

    nine : Unsound b' (answer 9 i 0)
    nine =
        let bad : sound_at b' i ≡ false = sym (wrong (word b' i) i (blocks b') (depth_of b') (found (blocks b') (depth_of b'))) in
        inr (same_whole, (i, record { below = omega (arith, c.block, same_blocks); here = bad; before = λ j h e. clash (earlier j h) e }, refl))

    pub damage_checked : (r : Answer) → BlockCheckOf b' r → r ≡ answer 9 i 0
    damage_checked r d = one_check_blocks b' r (answer 9 i 0) d (inl (_, nine, refl))

    pub damage_measured : (r : Answer) → StoredVolumeOf b' r → r ≡ answer 9 i 0
    damage_measured r d = one_stored_volume b' r (answer 9 i 0) d (inl (_, nine, refl))

    pub damage_read : (o : List ℕ) (r : ReadAnswer) (o' : List ℕ) → ReadOf b' o r o' → (r ≡ record { answer = answer 9 i 0; depth = 0 }) × (o' ≡ o)
    damage_read o r o' d =
        let e = one_read b' o (r, o') (unread o (answer 9 i 0)) d (inl (_, nine, refl)) in
        (ap (λ (t : ReadAnswer × List ℕ). t.0) e, ap (λ (t : ReadAnswer × List ℕ). t.1) e)
