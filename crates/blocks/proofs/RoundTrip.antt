-- The file of a list is sound and holds the list; a sound file is the file of the list that it holds. Assumes nothing.
use Rattle.std.proofs.Common.{◌≡◌, ℕ, zero, suc, ◌+◌, ◌-◌, ◌*◌, ◌/◌, ◌%◌, ◌^◌, ◌<◌, ◌≤◌, min, true, eqb, ◌⊎◌, List, length, get_or, sym, refl, ap, ◌∙◌, inl, inr, ⊎_elim, arith, ext_get_or, le-ltb, lt-ltb, eq-eqb, le-leb}
use lib.ListN.{get_or-eq_default}
use borrow.Author.Tests.{lt-leb}
use Rattle.cells.specs.Answer.{deepest}
use Rattle.cells.specs.Cell.{level}
use Rattle.cells.proofs.Power.{le_or_lt, pow8_mono}
use Rattle.cells.proofs.Words.{pow8_small}
use Rattle.cells.proofs.Cells.{level_le, proper_bounds}
use Rattle.records.specs.Record.{Good}
use Rattle.records.proofs.Leaves.{member}
use Rattle.records.proofs.Fault.{member_at, all_made}
use Rattle.records.proofs.Most.{few_leaves}
use Rattle.blocks.specs.declared.Sums.{Sums}
use Rattle.blocks.specs.Block.{block_bytes, block_codes, word, check, right_count, sound_block, blocks, whole, depth_of, codes}
use Rattle.blocks.specs.Inner.{Sound}
use Rattle.blocks.specs.File.{blocks_of, plain, words, byte_of, file_of}
use Rattle.blocks.proofs.Files.{plain_code, words_plain, words_a, words_b, file_length, file_byte_lem}
use Rattle.blocks.proofs.Sound.{RightWords, sound_last, codes_length, codes_at, some_block, all_blocks, right_words}
use Rattle.blocks.proofs.Words.{word_of_bytes, bytes_of_word, each_word, check_ext, check_small, sound_ext}

-- ---- from the list to the file

right_count_lem : (n i k : ℕ) → (i + 1 < n → k ≡ block_codes) → k ≤ block_codes → (k ≡ 0 → n ≡ 1) → right_count n i k ≡ true
unfolding right_count
right_count_lem n i k a b c = ⊎_elim (λ (x : n ≤ i + 1). last x (le_or_lt 1 k)) (λ (x : i + 1 < n). rw (right_count, lt-ltb (i + 1) n x, eq-eqb k block_codes (a x))) (le_or_lt n (i + 1))
  where
    last : n ≤ i + 1 → (1 ≤ k) ⊎ (k < 1) → right_count n i k ≡ true
    last x (inl y) = rw (right_count, le-ltb (i + 1) n x, le-leb k block_codes b, le-leb 1 k y)
    last x (inr y) = rw (right_count, le-ltb (i + 1) n x, le-leb k block_codes b, lt-leb 1 k y, eq-eqb n 1 (c (omega arith)))

module _ (D : ℕ) (l : List ℕ) (shallow : D ≤ deepest) (g : Good D l) where
  few : blocks_of (length l) < 2 ^ 32
  few = omega (arith, few_leaves D l g, pow8_small D shallow)

  code_small : (k : ℕ) → get_or l k 0 < 2 ^ 32
  code_small k = ⊎_elim (λ (x : length l ≤ k). omega (arith, get_or-eq_default l 0 x)) (λ (x : k < length l). here x) (le_or_lt (length l) k)
    where
      here : k < length l → get_or l k 0 < 2 ^ 32
      here x =
          omega (arith, proper_bounds D (get_or l k 0) (member D 0 l (get_or l k 0) g.ordered (member_at l k x)).0, pow8_mono {i = level D (get_or l k 0)} {j = deepest} (omega (arith, level_le D (get_or l k 0))))

  plain_small : (i w : ℕ) → i < blocks_of (length l) → w < 126 → plain D l i w < 2 ^ 32
  unfolding plain
  plain_small i zero h k = omega (arith, few)
  plain_small i (suc zero) h k = few
  plain_small i (suc (suc zero)) h k = omega (arith, shallow)
  plain_small i (suc (suc (suc zero))) h k = omega arith
  plain_small i (suc (suc (suc (suc w)))) h k =
      let u : ℕ = suc (suc (suc (suc w))) in omega (arith, plain_code D l i u (omega arith) k, code_small (block_codes * i + (u - 4)))

  words_small : (i : ℕ) → i < blocks_of (length l) → (w : ℕ) → w < 128 → words D l i w < 2 ^ 32
  words_small i h =
      each_word (λ w. words D l i w < 2 ^ 32) (λ w k. omega (arith, words_plain D l i w k, plain_small i w h k)) (omega (arith, words_a D l i, check_small (plain D l i) 126))
      (omega (arith, words_b D l i, check_small (plain D l i) 126))

  word_file : (i w : ℕ) → i < blocks_of (length l) → w < 128 → word (file_of D l) i w ≡ words D l i w
  word_file i w h k = word_of_bytes (file_of D l) i w (words D l i w) (words_small i h w k) (λ j x. file_byte_lem D l i w j (block_bytes * i + 4 * w + j) h k x refl)

  held : (i : ℕ) → words D l i 3 ≡ min block_codes (length l - block_codes * i)
  unfolding plain
  held i = words_plain D l i 3 (omega arith)

  -- each block of the file is sound
  words_sound : (i : ℕ) → i < blocks_of (length l) → sound_block (words D l i) i (blocks_of (length l)) D ≡ true
  unfolding plain
  words_sound i h =
      let n = held i in
      let depth : words D l i 2 ≡ D = words_plain D l i 2 (omega arith) in
      let sums : check (words D l i) 126 ≡ check (plain D l i) 126 = check_ext (plain D l i) (words D l i) 126 (λ k x. words_plain D l i k x) in
      sym (sound_last (words D l i) i (blocks_of (length l)) D (words_plain D l i 0 (omega arith)) (words_plain D l i 1 (omega arith)) (omega (arith, shallow)) depth
      (right_count_lem (blocks_of (length l)) i (words D l i 3) (λ x. omega arith) (omega arith) (λ x. omega arith))
      (all_made (λ w. eqb (words D l i w) 0) (4 + words D l i 3) (block_codes - words D l i 3)
      (λ w lo hi. eq-eqb (words D l i w) 0 (words_plain D l i w (omega arith) ∙ plain_code D l i w (omega arith) (omega arith) ∙ get_or-eq_default l 0 (omega arith)))))
      ∙ rw (eq-eqb (words D l i 126) (check (words D l i) 126).a (words_a D l i ∙ ap (λ (x : Sums). x.a) (sym sums)), eq-eqb (words D l i 127) (check (words D l i) 126).b (words_b D l i ∙ ap (λ (x : Sums). x.b) (sym sums)))

  file_blocks : blocks (file_of D l) ≡ blocks_of (length l)
  file_blocks = omega (arith, file_length D l)

  pub file_depth : depth_of (file_of D l) ≡ D
  unfolding plain
  file_depth = word_file 0 2 (omega arith) (omega arith) ∙ words_plain D l 0 2 (omega arith)

  pub file_sound : Sound (file_of D l)
  unfolding whole
  file_sound = record {
    is_whole = rw (le-leb 1 (blocks (file_of D l)) (omega (arith, file_blocks)), eq-eqb (length (file_of D l) % block_bytes) 0 (omega (arith, file_length D l)));
    each = λ i h.
        rw (file_blocks, file_depth)
        (sound_ext (words D l i) (word (file_of D l) i) i (blocks_of (length l)) D (λ w k. word_file i w (omega (arith, file_blocks)) k) ∙ words_sound i (omega (arith, file_blocks)));
  }

  pub file_codes : codes (file_of D l) ≡ l
  file_codes = ext_get_or 0 (codes (file_of D l)) l size (λ j h. at j (omega (arith, size)))
    where
      size : length (codes (file_of D l)) ≡ length l
      size = codes_length (file_of D l) ∙ rw file_blocks (omega (arith, word_file (blocks_of (length l) - 1) 3 (omega arith) (omega arith), held (blocks_of (length l) - 1)))

      at : (j : ℕ) → j < length l → get_or (codes (file_of D l)) j 0 ≡ get_or l j 0
      at j h =
          codes_at (file_of D l) j (omega (arith, size))
          ∙ word_file (j / block_codes) (4 + j % block_codes) (omega arith) (omega arith)
          ∙ words_plain D l (j / block_codes) (4 + j % block_codes) (omega arith)
          ∙ plain_code D l (j / block_codes) (4 + j % block_codes) (omega arith) (omega arith)
          ∙ ap (λ (n : ℕ). get_or l n 0) (omega arith)

-- ---- a sound file is the file of its codes

count_blocks : (n k m : ℕ) → 1 ≤ n → k ≤ block_codes → (k ≡ 0 → n ≤ 1) → m ≡ block_codes * (n - 1) + k → blocks_of m ≡ n
count_blocks n k m a b c e = ⊎_elim (λ (x : 1 ≤ k). omega arith) (λ (x : k < 1). omega (arith, c (omega arith))) (le_or_lt 1 k)

module _ (b : List ℕ) (s : Sound b) where
  pub same_blocks : blocks_of (length (codes b)) ≡ blocks b
  same_blocks =
      let p = right_words b s (blocks b - 1) (omega (arith, some_block b s)) in
      count_blocks (blocks b) (word b (blocks b - 1) 3) (length (codes b)) (some_block b s) p.most p.some (codes_length b)

  module _ (i : ℕ) (h : i < blocks b) where
    p : RightWords (word b i) i (blocks b) (depth_of b)
    p = right_words b s i h

    -- how many codes block i holds, counted from the file's end
    held_here : min block_codes (length (codes b) - block_codes * i) ≡ word b i 3
    held_here = ⊎_elim (λ (x : blocks b ≤ i + 1). at_last (omega arith)) (λ (x : i + 1 < blocks b). omega (arith, p.full x, codes_length b)) (le_or_lt (blocks b) (i + 1))
      where
        at_last : i ≡ blocks b - 1 → min block_codes (length (codes b) - block_codes * i) ≡ word b i 3
        at_last e = omega (arith, codes_length b, p.most, ap (λ (n : ℕ). word b n 3) e)

    code_same : (w : ℕ) → 4 ≤ w → w < 126 → get_or (codes b) (block_codes * i + (w - 4)) 0 ≡ word b i w
    code_same w lo hi = ⊎_elim (λ (x : length (codes b) ≤ block_codes * i + (w - 4)). none x) (λ (x : block_codes * i + (w - 4) < length (codes b)). one x) (le_or_lt (length (codes b)) (block_codes * i + (w - 4)))
      where
        none : length (codes b) ≤ block_codes * i + (w - 4) → get_or (codes b) (block_codes * i + (w - 4)) 0 ≡ word b i w
        none x = get_or-eq_default (codes b) 0 x ∙ sym (p.unused w (omega (arith, held_here)) hi)

        one : block_codes * i + (w - 4) < length (codes b) → get_or (codes b) (block_codes * i + (w - 4)) 0 ≡ word b i w
        one x =
            let q : (block_codes * i + (w - 4)) / block_codes ≡ i = omega arith in
            let r : 4 + (block_codes * i + (w - 4)) % block_codes ≡ w = omega arith in
            codes_at b (block_codes * i + (w - 4)) x ∙ rw (q, r)

    plain_same : (w : ℕ) → w < 126 → plain (depth_of b) (codes b) i w ≡ word b i w
    unfolding plain
    plain_same zero k = sym p.index
    plain_same (suc zero) k = same_blocks ∙ sym p.number
    plain_same (suc (suc zero)) k = sym p.depth
    plain_same (suc (suc (suc zero))) k = held_here
    plain_same (suc (suc (suc (suc w)))) k = plain_code (depth_of b) (codes b) i (suc (suc (suc (suc w)))) (omega arith) k ∙ code_same (suc (suc (suc (suc w)))) (omega arith) k

    words_same : (w : ℕ) → w < 128 → words (depth_of b) (codes b) i w ≡ word b i w
    words_same =
        let sums : check (plain (depth_of b) (codes b) i) 126 ≡ check (word b i) 126 = check_ext (word b i) (plain (depth_of b) (codes b) i) 126 plain_same in
        each_word (λ w. words (depth_of b) (codes b) i w ≡ word b i w) (λ w k. words_plain (depth_of b) (codes b) i w k ∙ plain_same w k)
        (words_a (depth_of b) (codes b) i ∙ ap (λ (q : Sums). q.a) sums ∙ sym p.check_a) (words_b (depth_of b) (codes b) i ∙ ap (λ (q : Sums). q.b) sums ∙ sym p.check_b)

  pub same_file : ((k : ℕ) → get_or b k 0 < 256) → file_of (depth_of b) (codes b) ≡ b
  same_file bytes = ext_get_or 0 (file_of (depth_of b) (codes b)) b size (λ j h. at j (omega (arith, size)))
    where
      size : length (file_of (depth_of b) (codes b)) ≡ length b
      size = omega (arith, file_length (depth_of b) (codes b), same_blocks, all_blocks b s)

      at : (j : ℕ) → j < length b → get_or (file_of (depth_of b) (codes b)) j 0 ≡ get_or b j 0
      at j h =
          let hi : j / block_bytes < blocks b = omega (arith, all_blocks b s) in
          file_byte_lem (depth_of b) (codes b) (j / block_bytes) (j % block_bytes / 4) (j % 4) j (omega (arith, same_blocks)) (omega arith) (omega arith) (omega arith)
          ∙ ap (λ (x : ℕ). byte_of x (j % 4)) (words_same (j / block_bytes) hi (j % block_bytes / 4) (omega arith))
          ∙ bytes_of_word b bytes (j / block_bytes) (j % block_bytes / 4) (j % 4) (omega arith)
          ∙ ap (λ (n : ℕ). get_or b n 0) (omega arith)
