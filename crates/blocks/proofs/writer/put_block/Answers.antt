-- Each word is stored behind those before it, then the two of the check.
use Rattle.std.proofs.Common.{◌≡◌, ℕ, ◌+◌, ◌*◌, ◌<◌, List, sym, refl, ap, ◌∙◌, subst, arith}
use Rattle.blocks.specs.Block.{block_bytes, check}
use Rattle.blocks.specs.declared.Sums.{Sums}
use Rattle.blocks.specs.File.{plain, words}
use Rattle.blocks.specs.Inner.{stored, begun}
use Rattle.blocks.proofs.Files.{words_plain, words_a, words_b, word_more}
use Rattle.blocks.proofs.writer.put_block.Invariants.{Reached}
use Rattle.blocks.proofs.writer.put_block.Goals as goal

-- one more
reached_more : (D : ℕ) (l : List ℕ) (i w x : ℕ) (before bytes after : List ℕ) → Reached D l i before bytes w → w < 128 → x ≡ words D l i w → after ≡ stored bytes (block_bytes * i + 4 * w) x → Reached D l i before after (w + 1)
reached_more D l i w x before bytes after r h word put o begins =
    put ∙ ap (λ (b : List ℕ). stored b (block_bytes * i + 4 * w) x) (r o begins) ∙ word_more D l i w x (block_bytes * i + 4 * w) (block_bytes * i + 4 * (w + 1)) o h refl (omega arith) word

-- the check behind all 126
checked : (D : ℕ) (l : List ℕ) (i w : ℕ) (sums : Sums) (before bytes with_a with_b : List ℕ) → w ≡ 126 → sums ≡ check (plain D l i) w → Reached D l i before bytes w
    → with_a ≡ stored bytes (block_bytes * i + 4 * 126) sums.a → with_b ≡ stored with_a (block_bytes * i + 4 * 127) sums.b
    → (o : List ℕ) → before ≡ begun D l o (block_bytes * i) → with_b ≡ begun D l o (block_bytes * (i + 1))
checked D l i w sums before bytes with_a with_b all is reached a b o begins =
    let total : sums ≡ check (plain D l i) 126 = is ∙ ap (check (plain D l i)) all in
    let first : Reached D l i before with_a 127 =
    reached_more D l i 126 sums.a before bytes with_a (subst (λ (k : ℕ). Reached D l i before bytes k) all reached) (omega arith) (ap (λ (s : Sums). s.a) total ∙ sym (words_a D l i)) a in
    reached_more D l i 127 sums.b before with_a with_b first (omega arith) (ap (λ (s : Sums). s.b) total ∙ sym (words_b D l i)) b o begins ∙ ap (begun D l o) (omega arith)

pub loop-w-preserved : goal.loop-w-preserved
loop-w-preserved c =
    let a = c.args in
    let w = c.loop-w.w in (
      c.take-sums.ensures _ w c.loop-w.invariant.0 c.plain_word-x.ensures,
      reached_more a.depth a.list.now a.i w c.plain_word-x.result a.bytes.now c.loop-w.bytes _ c.loop-w.invariant.1 (omega (arith, c.loop-w-test.true))
          (c.plain_word-x.ensures ∙ sym (words_plain a.depth a.list.now a.i w c.loop-w-test.true)) c.store_word.ensures,
    )

pub returns : goal.returns
returns c =
    let a = c.args in
    checked a.depth a.list.now a.i c.loop-w.w c.loop-w.sums a.bytes.now c.loop-w.bytes _ _ (omega (arith, c.loop-w-test.false, c.loop-w.auto.w-end)) c.loop-w.invariant.0 c.loop-w.invariant.1
    c.store_word-2.ensures c.store_word-3.ensures
