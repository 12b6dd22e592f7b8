-- The four bytes are stored one after the other.
use Rattle.std.proofs.Common.{◌≡◌, ℕ, suc, ◌+◌, ◌/◌, ◌%◌, ◌≤◌, List, [], ◌∷◌, ◌++◌, length, set, take, drop, sym, ap, ◌∙◌, add-one, append_assoc, arith}
use Rattle.std.proofs.lemmas.List.{drop-drop}
use Rattle.std.proofs.lemmas.List.Edits.{sets, sets-eq}
use Rattle.blocks.specs.File.{byte_of}
use Rattle.blocks.proofs.inner.words.store_word.Goals as goal

-- a part of four that holds a, b, c, d
put_four : (o ys : List ℕ) (p k a b c d : ℕ) → k ≡ 4 → p + 4 ≤ length o → ys ≡ (a ∷ b ∷ c ∷ d ∷ []) → take p o ++ (ys ++ drop k (drop p o)) ≡ set (set (set (set o p a) (p + 1) b) (p + 2) c) (p + 3) d
put_four o ys p k a b c d four room e =
    let two : p + 2 ≡ suc (suc p) = omega arith in
    let three : p + 3 ≡ suc (suc (suc p)) = omega arith in
    let len : k ≡ length ys = four ∙ sym (ap length e) in
    rw (len, drop-drop (length ys) p o, ← append_assoc (take p o) ys (drop (p + length ys) o), ← sets-eq ys o p (omega (arith, len, four)), add-one p, two, three) (ap (sets o p) e)

pub returns : goal.returns
unfolding byte_of
returns c =
    let x = c.args.x in
    let third : x / 65536 % 256 ≡ x / 256 / 256 % 256 = omega arith in
    let fourth : x / 16777216 % 256 ≡ x / 256 / 256 / 256 % 256 = omega arith in
    put_four c.args.bytes.now c.copy_from_slice.new.self _ _ _ _ _ _ (omega arith) (omega (arith, c.requires)) (c.copy_from_slice.ensures.after ∙ c.to_le_bytes.ensures ∙ rw (third, fourth))
